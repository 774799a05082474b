-- What happened to the media of both sides in calls one after another.
use Rattle.ram_sectors.specs.declared.Sectors.{Ghosts as Drives}
use Rattle.ram_sectors.specs.Laws.{UnderwentLaws}
use Rattle.ram_mirror.specs.Sides.{SidesUnderwent}

module _ {L O : Type 0} (l : Drives L) (o : Drives O) (of_first : UnderwentLaws l.underwent) (of_second : UnderwentLaws o.underwent) where
  -- nothing, before the first call
  pub none_yet : (x : L) (y : O) → SidesUnderwent l o x y x y
  none_yet x y = record { first = of_first.none x; second = of_second.none y }

  -- what happened before, and in one more call
  pub and_more : (x mid x' : L) (y between y' : O) → SidesUnderwent l o x y mid between
      → SidesUnderwent l o mid between x' y' → SidesUnderwent l o x y x' y'
  and_more x mid x' y between y' before more = record {
    first = of_first.adds_up x mid x' before.first more.first;
    second = of_second.adds_up y between y' before.second more.second;
  }
