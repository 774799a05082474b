-- What opening and closing two images make of a run over them.
use Rattle.std.specs.Prelude.{◌≡◌, ℕ, ◌+◌, ◌≤◌, ◌⊎◌, Bool, true, Option, Some, None, IfSome, List}
use Rattle.std.specs.Bool.{OnTrue}
use Rattle.std.proofs.Common.{arith, inl, inr, refl, sym, ap, ◌∙◌, subst}
use Rattle.model_counts.specs.Counts.{counted}
use Rattle.ram_outside.specs.Conversation.{AsksOnly}
use Rattle.ram_outside.specs.Opener.{OpenerView, Opens, OpenerFails, CloseRule, and_asked}
use Rattle.ram_outside.specs.Past.{Moment, IsFailStop}
use Rattle.ram_outside.specs.declared.opener.Access.TheVariants.{ReadWrite}
use Rattle.ram_outside.proofs.Additions.{added_none_of}
use Rattle.ram_machine.specs.declared.status.Status.{Status}
use Rattle.ram_machine.specs.declared.status.Status.TheVariants as statuses
use Rattle.ram_script.specs.Around.{Surroundings}
use Rattle.ram_script.specs.Endings.{StatusCounts}
use Rattle.ram_script.specs.Opened.{bytes_returned}
use Rattle.ram_script.specs.RunCounts.{Counts, counts_of, OnlyImageRose}
use Rattle.ram_mirrored.specs.MirrorRuns.{MirrorBeginning, MirrorToldWith, IsMirrorToldBy, EndsMirror, MirrorStandsWith}
use Rattle.ram_mirrored.specs.Running.{IsMirrorBeginning, BeginsMirror, IsAskedForBoth, FailsToOpen, AsksForBoth, RunsMirror, heard_around}
use Rattle.ram_mirrored.proofs.Counted.{counts_there, told_there}
use Rattle.ram_mirrored.proofs.MirrorPromised.{mirror_promised, unopened_promised}

-- the image that was handed back last is this one
known_back : {I : Type 0} (knows : Bool) (returned : Option I) (image : I) → knows ≡ true → OnTrue knows (returned ≡ Some image) → returned ≡ Some image
known_back knows returned image is back = subst (λ (b : Bool). OnTrue b (returned ≡ Some image)) is back

-- both were asked for, or the opener failed
asks_both : {I : Type 0} (knows : Bool) (old new : Surroundings I) (a b : List ℕ) (status : Status) → IsAskedForBoth knows old new a b → AsksForBoth knows old new a b status
asks_both knows old new a b statuses.ImageFault named = inl named
asks_both knows old new a b statuses.Done named = named
asks_both knows old new a b statuses.Script named = named
asks_both knows old new a b statuses.SourceFault named = named
asks_both knows old new a b statuses.SinkFault named = named
asks_both knows old new a b statuses.NotADisc named = named
asks_both knows old new a b statuses.Differs named = named
asks_both knows old new a b statuses.Usage named = named
asks_both knows old new a b statuses.NoMemory named = named

module _ {I : Type 0} (bytes_of : I → Option (List ℕ)) (past_of : I → Option (List Moment)) (knows : Bool) (old new : Surroundings I) (a b : List ℕ) where
  unwritten_by : FailsToOpen knows old new a b → new.written ≡ old.written
  unwritten_by (inl one) = one.unopened.unwritten
  unwritten_by (inr two) = two.unwritten

  -- not both images were opened, and nothing was asked of the source
  not_both : (unasked : new.asked ≡ old.asked) → FailsToOpen knows old new a b → RunsMirror bytes_of past_of knows old new statuses.ImageFault a b
  not_both unasked fails = record {
    asks = inr fails;
    run = λ first known. inr (refl, fails);
    talks = λ first known. added_none_of (IsMirrorToldBy first) old.asked new.asked unasked;
    promise = λ first known. unopened_promised first (heard_around new) (unwritten_by fails ∙ known.begins.written_is);
    fails = λ known is. inr fails;
  }

  module _ (unread : new.left ≡ old.left) (unwritten : new.written ≡ old.written) (unasked : new.asked ≡ old.asked) where
    -- the first image was not opened
    pub first_unopened : OpenerFails ReadWrite a old.opener new.opener → RunsMirror bytes_of past_of knows old new statuses.ImageFault a b
    first_unopened fails = not_both unasked (inl (record {
      asked = fails.asked;
      unopened = record { unread = unread; unwritten = unwritten; unreturned = fails.same };
    }))

    -- the second was not, and the first was closed
    module _ (faults_of : I → ℕ) (image : I) (one two : OpenerView I) (opens : Opens faults_of ReadWrite a old.opener one image) (fails : OpenerFails ReadWrite b one two)
        (closes : CloseRule knows faults_of image two new.opener) where
      handed : (next : Option I) → IfSome next (λ known. image ≡ known) → IfSome next (λ known. OnTrue knows (new.opener.returned ≡ Some known))
      handed None is = tt
      handed (Some known) is = subst (λ (i : I). OnTrue knows (new.opener.returned ≡ Some i)) is closes.returned

      asked_by_then : (two.asked ≡ and_asked ReadWrite b one.asked) ⊎ (two.asked ≡ one.asked)
          → IsAskedForBoth knows old new a b ⊎ (new.opener.asked ≡ and_asked ReadWrite a old.opener.asked)
      asked_by_then (inl both) = inl (closes.same_asked ∙ both ∙ ap (and_asked ReadWrite b) opens.asked)
      asked_by_then (inr alone) = inr (closes.same_asked ∙ alone ∙ opens.asked)

      pub second_unopened : RunsMirror bytes_of past_of knows old new statuses.ImageFault a b
      second_unopened = not_both unasked (inr (record {
        asked = asked_by_then fails.asked;
        unread = unread;
        unwritten = unwritten;
        returned = handed old.opener.next opens.next;
      }))

  -- both were opened, and closed as the run left them
  module _ (faults_of : I → ℕ) (laws : IsFailStop bytes_of faults_of past_of) (image_a image_b after_a after_b : I)
      (one two three : OpenerView I) (opens_a : Opens faults_of ReadWrite a old.opener one image_a) (opens_b : Opens faults_of ReadWrite b one two image_b)
      (closes_a : CloseRule knows faults_of after_a two three) (closes_b : CloseRule knows faults_of after_b three new.opener) where
    begun : (first : MirrorBeginning) → BeginsMirror bytes_of first old knows → IsMirrorBeginning first (heard_around old) (bytes_of image_a) (bytes_of image_b)
    begun first known =
        let a_is : image_a ≡ known.a = subst (λ o. IfSome o (λ due. image_a ≡ due)) known.next_is opens_a.next in
        let b_is : image_b ≡ known.b = subst (λ o. IfSome o (λ due. image_b ≡ due)) (opens_a.moves_on ∙ known.after_next_is) opens_b.next in
        record {
          left_is = known.begins.left_is;
          written_is = known.begins.written_is;
          a_is = ap bytes_of a_is ∙ known.begins.a_is;
          b_is = ap bytes_of b_is ∙ known.begins.b_is;
        }

    a_back : knows ≡ true → new.opener.returned_before ≡ Some after_a
    a_back is = known_back knows new.opener.returned_before after_a is (subst (λ (r : Option I). OnTrue knows (new.opener.returned_before ≡ r))
        (known_back knows three.returned after_a is closes_a.returned) closes_b.returned_before)

    b_back : knows ≡ true → new.opener.returned ≡ Some after_b
    b_back is = known_back knows new.opener.returned after_b is closes_b.returned

    abbrev inner : Counts
    inner = counts_of old.counts.source old.counts.sink (faults_of image_a + faults_of image_b)

    abbrev inner' : Counts
    inner' = counts_of new.counts.source new.counts.sink (faults_of after_a + faults_of after_b)

    none_before : faults_of image_a + faults_of image_b ≡ 0
    none_before = omega (arith, opens_a.unfailed, opens_b.unfailed)

    module _ (before : old.counts.image ≡ old.opener.faults) (behind : new.counts.image ≡ new.opener.faults) where
      old_is : counts_of old.counts.source old.counts.sink old.opener.faults ≡ old.counts
      old_is = ap (counts_of old.counts.source old.counts.sink) (sym before)

      new_is : counts_of new.counts.source new.counts.sink (counted (counted old.opener.faults (faults_of after_a)) (faults_of after_b)) ≡ new.counts
      new_is = ap (counts_of new.counts.source new.counts.sink)
          (ap (λ (n : ℕ). counted (counted n (faults_of after_a)) (faults_of after_b)) (sym (opens_b.count ∙ opens_a.count))
          ∙ ap (λ (n : ℕ). counted n (faults_of after_b)) (sym closes_a.count) ∙ sym closes_b.count ∙ sym behind)

      unfailed : (Holds : Counts → Type 0) → Holds inner → Holds (counts_of old.counts.source old.counts.sink 0)
      unfailed Holds held = subst (λ (n : ℕ). Holds (counts_of old.counts.source old.counts.sink n)) none_before held

      over : (Holds : Counts → Counts → Type 0) → Holds (counts_of old.counts.source old.counts.sink old.opener.faults)
          (counts_of new.counts.source new.counts.sink (counted (counted old.opener.faults (faults_of after_a)) (faults_of after_b)))
          → Holds old.counts new.counts
      over Holds held = subst (λ (c : Counts). Holds c new.counts) old_is
          (subst (λ (c : Counts). Holds (counts_of old.counts.source old.counts.sink old.opener.faults) c) new_is held)

      pub both_counts : (status : Status) → StatusCounts inner inner' status → StatusCounts old.counts new.counts status
      both_counts status counts = over (λ (c d : Counts). StatusCounts c d status)
          (counts_there old.counts.source new.counts.source old.counts.sink new.counts.sink old.opener.faults (faults_of after_a) (faults_of after_b) status
          (unfailed (λ (c : Counts). StatusCounts c inner' status) counts))

      ends_around : (first : MirrorBeginning) (status : Status) → EndsMirror first (heard_around new) (bytes_of after_a) (bytes_of after_b) inner inner' status
          → EndsMirror first (heard_around new) (bytes_of after_a) (bytes_of after_b) old.counts new.counts status
      ends_around first status ends = record {
        after = ends.after;
        told = over (λ (c d : Counts). MirrorToldWith first (heard_around new) ends.after c d status)
            (told_there old.counts.source new.counts.source old.counts.sink new.counts.sink old.opener.faults (faults_of after_a) (faults_of after_b) first (heard_around new) ends.after status
            (unfailed (λ (c : Counts). MirrorToldWith first (heard_around new) ends.after c inner' status) ends.told));
        left = ends.left;
      }

      stands_around : (first : MirrorBeginning) (status : Status) → MirrorStandsWith first (heard_around new) (bytes_of after_a) (bytes_of after_b) inner inner' status
          → MirrorStandsWith first (heard_around new) (bytes_of after_a) (bytes_of after_b) old.counts new.counts status
      stands_around first statuses.ImageFault (inl never) = inl never
      stands_around first statuses.ImageFault (inr ends) = inr (ends_around first statuses.ImageFault ends)
      stands_around first statuses.Done ends = ends_around first statuses.Done ends
      stands_around first statuses.Differs ends = ends_around first statuses.Differs ends
      stands_around first statuses.Usage ends = ends_around first statuses.Usage ends
      stands_around first statuses.Script ends = ends_around first statuses.Script ends
      stands_around first statuses.SourceFault ends = ends_around first statuses.SourceFault ends
      stands_around first statuses.SinkFault ends = ends_around first statuses.SinkFault ends
      stands_around first statuses.NoMemory ends = ends_around first statuses.NoMemory ends
      stands_around first statuses.NotADisc ends = ends_around first statuses.NotADisc ends

      one_failed : (status : Status) → status ≡ statuses.ImageFault → StatusCounts inner inner' status → 1 ≤ faults_of after_a + faults_of after_b
      one_failed status is counts =
          let rose : OnlyImageRose inner inner' = subst (λ (s : Status). StatusCounts inner inner' s) is counts in
          omega (arith, rose.image, none_before)

      module _ (status : Status)
          (stands : (first : MirrorBeginning) → IsMirrorBeginning first (heard_around old) (bytes_of image_a) (bytes_of image_b)
          → MirrorStandsWith first (heard_around new) (bytes_of after_a) (bytes_of after_b) inner inner' status)
          (counts : StatusCounts inner inner' status)
          (asks : (first : MirrorBeginning) → IsMirrorBeginning first (heard_around old) (bytes_of image_a) (bytes_of image_b)
          → AsksOnly (IsMirrorToldBy first) old.asked new.asked) where
        left_as : (first : MirrorBeginning) → BeginsMirror bytes_of first old knows
            → MirrorStandsWith first (heard_around new) (bytes_returned bytes_of new.opener.returned_before) (bytes_returned bytes_of new.opener.returned) old.counts new.counts status
        left_as first known =
            subst (λ (r : Option I). MirrorStandsWith first (heard_around new) (bytes_returned bytes_of r) (bytes_returned bytes_of new.opener.returned) old.counts new.counts status) (sym (a_back known.knows_is))
            (subst (λ (r : Option I). MirrorStandsWith first (heard_around new) (bytes_of after_a) (bytes_returned bytes_of r) old.counts new.counts status) (sym (b_back known.knows_is))
            (stands_around first status (stands first (begun first known))))

        pub runs_both : RunsMirror bytes_of past_of knows old new status a b
        runs_both = record {
          asks = asks_both knows old new a b status
              (closes_b.same_asked ∙ closes_a.same_asked ∙ opens_b.asked ∙ ap (and_asked ReadWrite b) opens_a.asked);
          run = λ first known. inl (left_as first known);
          talks = λ first known. asks first (begun first known);
          promise = λ first known.
              mirror_promised first (heard_around new) (bytes_returned bytes_of new.opener.returned_before) (bytes_returned bytes_of new.opener.returned)
              old.counts new.counts status (left_as first known);
          fails = λ known is. inl (record {
            a = after_a;
            b = after_b;
            a_returned = a_back known;
            b_returned = b_back known;
            a_failed = faults_of after_a;
            b_failed = faults_of after_b;
            one = one_failed status is counts;
            a_last = laws.failed after_a;
            b_last = laws.failed after_b;
            a_bytes = laws.newest after_a;
            b_bytes = laws.newest after_b;
          });
        }
