-- What a resynchronisation makes of what a mirror stands for. All other calls do with it what they do with one disc. (This project's own.)
use Rattle.std.specs.Prelude.{◌≡◌, [], ◌∷◌}
use Rattle.model_sectors.specs.Discs.{Standing, On, Off}
use Rattle.model_mirror.specs.declared.Resync.{Resync}
use Rattle.model_mirror.specs.declared.Resync.TheVariants as resyncs

-- What a resynchronisation makes of it: nothing new.
abbrev pub ResyncStep : (Standing → Type 0) → Standing → Resync → Type 0
ResyncStep after (On disc) (resyncs.Done left) = after (On disc)
ResyncStep after (On disc) resyncs.NotFormatted = (disc ≡ []) × after (On disc)
ResyncStep after (On disc) resyncs.Cut = after (Off (disc ∷ []))
ResyncStep after (On disc) resyncs.Off = ⊥
ResyncStep after (On disc) resyncs.Fault = after (Off (disc ∷ []))
ResyncStep after (Off discs) resyncs.Off = after (Off discs)
ResyncStep after (Off discs) _ = ⊥
