-- What opening and closing an image make of a session over it.
use Rattle.std.specs.Prelude.{◌≡◌, ℕ, ◌≤◌, Bool, Option, List}
use Rattle.std.proofs.Common.{arith, inl, inr, refl, sym, ap, ◌∙◌, subst}
use Rattle.model_counts.specs.Counts.{Rose, counted}
use Rattle.model_geometry.specs.declared.kinds.LayoutKind.TheVariants.{OneGroup}
use Rattle.ram_outside.specs.Conversation.{AsksOnly}
use Rattle.ram_outside.specs.Opener.{OpenerView, Opens, OpenerFails, CloseRule}
use Rattle.ram_outside.specs.Past.{Moment, IsFailStop}
use Rattle.ram_outside.specs.declared.opener.Access.TheVariants.{ReadWrite}
use Rattle.ram_outside.proofs.Additions.{added_none_of}
use Rattle.ram_text.specs.declared.script.Line.{Line}
use Rattle.ram_machine.specs.declared.status.Status.{Status}
use Rattle.ram_machine.specs.declared.status.Status.TheVariants as statuses
use Rattle.ram_script.specs.Around.{Surroundings, IsNotOpened, IsAskedFor, AsksOnce}
use Rattle.ram_script.specs.Endings.{Begins, aftermath}
use Rattle.ram_script.specs.Opened.{IsBeginning, aftermath_of}
use Rattle.ram_script.specs.Progress.{Beginning}
use Rattle.ram_script.specs.RunCounts.{counts_of}
use Rattle.ram_script.proofs.Closes.{begins_known, handed_back, ends_at_failure}
use Rattle.ram_session.specs.Session.{IsToldBy, SessionStands, SessionCounts}
use Rattle.ram_session.proofs.Promised.{not_begun, session_keeps}
use Rattle.ram_client.specs.Serving.{ServesClient}

-- an image that had not failed was taken back: its failures are the opener's
module _ (source source' sink sink' faults failed : ℕ) where
  counts_there : (status : Status) → SessionCounts (counts_of source sink 0) (counts_of source' sink' failed) status
      → SessionCounts (counts_of source sink faults) (counts_of source' sink' (counted faults failed)) status
  counts_there statuses.Done rose = record { source = rose.source; sink = rose.sink; image = omega (arith, rose.image) }
  counts_there statuses.Script rose = record { source = rose.source; sink = rose.sink; image = omega (arith, rose.image) }
  counts_there statuses.NotADisc rose = record { source = rose.source; sink = rose.sink; image = omega (arith, rose.image) }
  counts_there statuses.ImageFault rose = record { source = rose.source; sink = rose.sink; image = omega (arith, rose.image) }
  counts_there statuses.SourceFault rose = record { source = rose.source; sink = rose.sink; image = omega (arith, rose.image) }
  counts_there statuses.SinkFault rose = record { source = rose.source; sink = rose.sink; image = omega (arith, rose.image) }
  counts_there statuses.Differs rose = absurd rose
  counts_there statuses.Usage rose = absurd rose
  counts_there statuses.NoMemory rose = absurd rose

module _ {I : Type 0} (bytes_of : I → Option (List ℕ)) (past_of : I → Option (List Moment)) (knows : Bool)
    (old new : Surroundings I) (name : List ℕ) (faults : List Line) where
  -- no image was opened
  module _ (unread : new.left ≡ old.left) (unwritten : new.written ≡ old.written) (unasked : new.asked ≡ old.asked)
      (same_source : new.counts.source ≡ old.counts.source) (same_sink : new.counts.sink ≡ old.counts.sink)
      (rose : Rose old.counts.image new.counts.image) (fails : OpenerFails ReadWrite name old.opener new.opener) where
    not_opened : IsNotOpened old new
    not_opened = record { unread = unread; unwritten = unwritten; unreturned = fails.same }

    pub served_none : ServesClient bytes_of past_of knows old new statuses.ImageFault name faults
    served_none = record {
      asks = elim fails.asked [
        | inl named ↦ inl named
        | inr unnamed ↦ inr (record { unasked = unnamed; unopened = not_opened })
      ];
      session = λ first kind known. inr (refl, not_opened);
      promise = λ first kind known. not_begun first faults new.written (unwritten ∙ known.begins.written_is);
      counts = record { source = same_source; sink = same_sink; image = rose };
      talks = λ first kind known. added_none_of (IsToldBy first faults) old.asked new.asked unasked;
      fails = λ known is. inr not_opened;
    }

  -- one was, and closed as the session left it
  module _ (faults_of : I → ℕ) (laws : IsFailStop bytes_of faults_of past_of) (image after : I) (status : Status) (opened : OpenerView I)
      (opens : Opens faults_of ReadWrite name old.opener opened image) (closes : CloseRule knows faults_of after opened new.opener) where
    asks_once : (status : Status) → IsAskedFor old new ReadWrite name → AsksOnce old new ReadWrite name status
    asks_once statuses.ImageFault named = inl named
    asks_once statuses.Done named = named
    asks_once statuses.Script named = named
    asks_once statuses.SourceFault named = named
    asks_once statuses.SinkFault named = named
    asks_once statuses.NotADisc named = named
    asks_once statuses.Differs named = named
    asks_once statuses.Usage named = named
    asks_once statuses.NoMemory named = named

    module _ (leaves : (first : Beginning) → first.kind ≡ OneGroup → Begins first old.left old.written (bytes_of image)
        → SessionStands first faults (aftermath new.left new.written new.refused (bytes_of after)) status) where
      begun : (first : Beginning) → IsBeginning bytes_of first old knows → Begins first old.left old.written (bytes_of image)
      begun first known = begins_known bytes_of first old knows image known opens.next

      stands_so : (first : Beginning) → first.kind ≡ OneGroup → IsBeginning bytes_of first old knows
          → SessionStands first faults (aftermath_of bytes_of new) status
      stands_so first kind known =
          subst (λ (bytes : Option (List ℕ)). SessionStands first faults (aftermath new.left new.written new.refused bytes) status)
          (sym (handed_back bytes_of knows after new.opener.returned known.returned_known_is closes.returned))
          (leaves first kind (begun first known))

      module _ (counts : SessionCounts (counts_of old.counts.source old.counts.sink (faults_of image))
          (counts_of new.counts.source new.counts.sink (faults_of after)) status)
          (talks : (first : Beginning) → first.kind ≡ OneGroup → Begins first old.left old.written (bytes_of image)
          → AsksOnly (IsToldBy first faults) old.asked new.asked)
          (before : old.counts.image ≡ old.opener.faults) (behind : new.counts.image ≡ new.opener.faults) where
        unfailed_counts : SessionCounts (counts_of old.counts.source old.counts.sink 0) (counts_of new.counts.source new.counts.sink (faults_of after)) status
        unfailed_counts =
            subst (λ (n : ℕ). SessionCounts (counts_of old.counts.source old.counts.sink n) (counts_of new.counts.source new.counts.sink (faults_of after)) status)
            opens.unfailed counts

        counts_are : SessionCounts old.counts new.counts status
        counts_are =
            subst (λ (n : ℕ). SessionCounts (counts_of old.counts.source old.counts.sink n) new.counts status) (sym before)
            (subst (λ (n : ℕ). SessionCounts (counts_of old.counts.source old.counts.sink old.opener.faults) (counts_of new.counts.source new.counts.sink n) status)
            (sym (behind ∙ closes.count ∙ ap (λ (n : ℕ). counted n (faults_of after)) opens.count))
            (counts_there old.counts.source new.counts.source old.counts.sink new.counts.sink old.opener.faults (faults_of after) status unfailed_counts))

        failed : status ≡ statuses.ImageFault → 1 ≤ faults_of after
        failed is =
            let rose : SessionCounts (counts_of old.counts.source old.counts.sink 0) (counts_of new.counts.source new.counts.sink (faults_of after)) statuses.ImageFault =
            subst (λ (s : Status). SessionCounts (counts_of old.counts.source old.counts.sink 0) (counts_of new.counts.source new.counts.sink (faults_of after)) s) is unfailed_counts in
            omega (arith, rose.image)

        pub served_so : ServesClient bytes_of past_of knows old new status name faults
        served_so = record {
          asks = asks_once status (closes.same_asked ∙ opens.asked);
          session = λ first kind known. inl (stands_so first kind known);
          promise = λ first kind known. session_keeps first faults (aftermath_of bytes_of new) status (stands_so first kind known);
          counts = counts_are;
          talks = λ first kind known. talks first kind (begun first known);
          fails = λ known is. inl (ends_at_failure bytes_of faults_of past_of laws knows after new known closes.returned (failed is));
        }
