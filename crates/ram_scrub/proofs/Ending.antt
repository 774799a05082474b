-- A pass that met no formatted disc ends before its first step.
use Rattle.std.proofs.Common.{refl}
use Rattle.model_cache.specs.Shown.{CacheShown}
use Rattle.model_scrub.specs.declared.ends.StepEnd.TheVariants as ends
use Rattle.model_scrub.specs.declared.ends.PassEnd.{PassEnd}
use Rattle.model_scrub.specs.declared.ends.PassEnd.TheVariants.{Done, NotFormatted, Cut, Off, Fault}
use Rattle.model_scrub.specs.Scrubs.{Scrubber}
use Rattle.model_scrub.specs.Asks.{PassRule}
use Rattle.ram_scrub.specs.Calls.{PassEndsWithout}

pub ends_without : (shown : CacheShown) (s : Scrubber) (out : PassEnd) → PassEndsWithout shown out → PassRule shown shown s out (record s { next = 0 })
ends_without shown s Done h = absurd h
ends_without shown s NotFormatted h = record {
  before = 0;
  mid = shown;
  u = record s { next = 0 };
  went = (refl, refl);
  end = ends.NotFormatted;
  ends_pass = refl;
  last = (h.0, h.1, record { nothing = refl; leaves = refl });
}
ends_without shown s Cut h = absurd h
ends_without shown s Off h = record {
  before = 0;
  mid = shown;
  u = record s { next = 0 };
  went = (refl, refl);
  end = ends.Off;
  ends_pass = refl;
  last = (h, record { nothing = refl; leaves = refl });
}
ends_without shown s Fault h = absurd h
