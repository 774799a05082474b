-- What a verification that was answered Good shows of the image.
use Rattle.std.specs.Prelude.{◌≡◌, ℕ, ◌+◌, ◌*◌, Option, Some, None, IsSome, List}
use Rattle.std.specs.Option.{option_map_or}
use Rattle.std.proofs.Common.{refl, sym, ap, ◌∙◌, subst}
use Rattle.std.proofs.lemmas.Bool.{false≢true}
use Rattle.model_geometry.specs.Geometry.{Shape, total}
use Rattle.model_medium.specs.Cells.{IsGood, cell_at}
use Rattle.model_image.specs.Cells.{cells_of}
use Rattle.model_sectors.specs.Requests.{block_with}
use Rattle.model_sectors.specs.declared.ReadOut.{ReadOut}
use Rattle.model_sectors.specs.declared.ReadOut.TheVariants as reads
use Rattle.model_places.specs.Places.{Lists, logical_count, home_of}
use Rattle.model_drive.specs.Shown.{cells_in, home, capacity}
use Rattle.model_drive.specs.Reads.{VerifiesAll, VerifyCause}
use Rattle.model_cache.specs.Values.{Values, Contents, Has, MayHave}
use Rattle.model_cache.specs.Shown.{CacheShown, CacheStandsFor}
use Rattle.model_cache.specs.Steps.{VerifyContents}
use Rattle.model_cache.proofs.Falls.{only}
use Rattle.model_sense.specs.declared.answer.Answer.TheVariants as answers
use Rattle.model_cdb.specs.declared.commands.Command.TheVariants as commands
use Rattle.model_target.specs.Steps.{IsVerified}
use Rattle.ram_machine.specs.States.{State, Unopened, Disc, IsLeft}
use Rattle.ram_machine.specs.Runs.{IsStep}
use Rattle.ram_machine.specs.Answered.{AnsweredStep}
use Rattle.ram_machine.specs.Acknowledged.{Acknowledged, WasDone, IsAmong, HasInImage}
use Rattle.ram_machine.proofs.Images.{image_left}
use Rattle.ram_machine.proofs.SoundChains.{contents_known}
use Rattle.ram_machine.proofs.WrittenDiscs.{SoInBlock, SoInValues, SoInContents}
use Rattle.ram_machine.proofs.DoneLines.{Done, line_done, good_read, in_covered}
use Rattle.ram_machine.proofs.InImage.{within_count, below_in_cells}

-- what a verification that was answered Good did
record GoodVerify (old new : CacheShown) (s t : Contents) (lba n : ℕ) : Type 0 where
  cause : VerifiesAll old.drive new.drive lba n
  step : VerifyContents (λ x. x ≡ t) s reads.Good

verify_good : (old new : CacheShown) (s t : Contents) (lba n : ℕ) (data_in : List ℕ) → IsVerified old new (λ x. x ≡ s) (λ x. x ≡ t) lba n answers.Good data_in → GoodVerify old new s t lba n
verify_good old new s t lba n data_in p =
    let good : p.out ≡ reads.Good = good_read p.out p.answer_is in
    record {
      cause = subst (λ (o : ReadOut). VerifyCause old.drive new.drive lba n o) good p.cause.0;
      step = subst (λ (o : ReadOut). VerifyContents (λ x. x ≡ t) s o) good (p.step s refl);
    }

-- lists that are there
record SomeLists (lists : Option Lists) : Type 0 where
  one : Lists
  is : lists ≡ Some one

some_lists : (lists : Option Lists) → IsSome lists → SomeLists lists
some_lists None none = absurd (false≢true none)
some_lists (Some lists) some = record { one = lists; is = refl }

module _ (old new : CacheShown) (lba n at : ℕ) (among : IsAmong lba n at) where
  -- the home of its block has whole bytes
  verified_home : (s : Contents) → CacheStandsFor old s → (cause : VerifiesAll old.drive new.drive lba n) → (lists : Lists) → new.drive.lists ≡ Some lists
      → IsGood (cell_at (cells_in new.drive) (home_of new.drive.shape lists (block_with at)))
  verified_home s stood cause lists in_use =
      let c = in_covered lba n at among in
      let home_is : home new.drive (block_with lba + c.k) ≡ home_of new.drive.shape lists (block_with at) =
      ap (λ (o : Option Lists). option_map_or (λ (l : Lists). home_of new.drive.shape l (block_with lba + c.k)) o 0) in_use
      ∙ ap (λ (i : ℕ). home_of new.drive.shape lists i) c.there in
      subst (λ (b : ℕ). IsGood (cell_at (cells_in new.drive) b)) home_is (cause.good (contents_known old s stood) c.k c.covered)

-- what it stands for is as before
record SameValues (t : Contents) (at : ℕ) (bytes : List ℕ) : Type 0 where
  values : Values
  is : Has values ≡ t
  so : SoInValues (λ found. found ≡ bytes) at values

verified_values : (old new : CacheShown) (s t : Contents) (lba n at : ℕ) (bytes : List ℕ) → GoodVerify old new s t lba n → SoInContents (λ found. found ≡ bytes) at s → SameValues t at bytes
verified_values old new (Has v) t lba n at bytes good so = record { values = v; is = good.step; so = only (SoInBlock (λ found. found ≡ bytes) at) (block_with at) v so }
verified_values old new (MayHave all) t lba n at bytes good so = absurd good.step

pub line_verified : (s t : State) (event : AnsweredStep) (lba n at : ℕ) (bytes image : List ℕ) → IsStep s event t → WasDone event (commands.Verify lba n) → IsAmong lba n at → Acknowledged s at bytes
    → IsLeft t image → HasInImage t image at bytes
line_verified s t event lba n at bytes image step done among keeps left = by_states s t (line_done s t event (commands.Verify lba n) step done) keeps left
  where
    by_states : (s t : State) → Done s t (commands.Verify lba n) event.payload event.data_in → Acknowledged s at bytes → IsLeft t image → HasInImage t image at bytes
    by_states (Unopened first) t is keeps left = absurd is
    by_states (Disc s) (Unopened first) is keeps left = absurd is
    by_states (Disc s) (Disc t) is keeps left =
        let good = verify_good s.disc.shown t.disc.shown s.disc.contents t.disc.contents lba n event.data_in is.done in
        let lists = some_lists s.disc.shown.drive.lists good.cause.inside.formatted in
        let in_use : t.disc.shown.drive.lists ≡ Some lists.one = good.cause.keeps.same_lists ∙ lists.is in
        let same = verified_values s.disc.shown t.disc.shown s.disc.contents t.disc.contents lba n at bytes good keeps in
        let count : capacity s.disc.shown.drive ≡ logical_count t.disc.shown.drive.shape lists.one * 16 =
        ap (λ (o : Option Lists). option_map_or (logical_count s.disc.shown.drive.shape) o 0 * 16) lists.is ∙ ap (λ (z : Shape). logical_count z lists.one * 16) (sym is.same_shape) in
        below_in_cells t.disc.shown same.values lists.one (cells_of (total t.disc.shown.drive.shape) image) at bytes (subst (CacheStandsFor t.disc.shown) (sym same.is) t.disc.stands) same.so
        (image_left t image left).cells_are in_use (within_count lba n at (capacity s.disc.shown.drive) (logical_count t.disc.shown.drive.shape lists.one) good.cause.inside.inside count among.1)
        (verified_home s.disc.shown t.disc.shown lba n at among s.disc.contents s.disc.stands good.cause lists.one in_use)
