-- An opener as its trait shows it: for definitions over any opener. (This project's own, as all here.)
use Rattle.ram_outside.specs.Opener.{OpenerView, opener_view}
use Rattle.ram_outside.specs.declared.opener.Opener.{Ghosts as Openers}

-- all that is known of it
abbrev pub seen_opener : {O I : Type 0} → Openers O I → O → OpenerView I
seen_opener openers opener =
    opener_view (openers.next opener) (openers.after_next opener) (openers.returned opener) (openers.returned_before opener)
    (openers.asked opener) (openers.faults opener)
