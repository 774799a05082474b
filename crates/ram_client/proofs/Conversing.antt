-- The parts of a session, one behind another: the opening, the handshake and the requests.
use Rattle.std.specs.Prelude.{◌≡◌, ℕ, Option, Some, Err, List}
use Rattle.std.proofs.Common.{inl, inr, refl, sym, ap, ◌∙◌, subst}
use Rattle.model_geometry.specs.declared.kinds.LayoutKind.{LayoutKind}
use Rattle.model_nbd.specs.Handshake.{Serving}
use Rattle.ram_nbd.specs.Replies.{export_of}
use Rattle.ram_text.specs.Faults.{AreFaultWords}
use Rattle.ram_text.specs.declared.script.Line.{Line}
use Rattle.ram_machine.specs.declared.status.Status.{Status}
use Rattle.ram_machine.specs.declared.status.Status.TheVariants as statuses
use Rattle.ram_machine.specs.Inserted.{LeavesImage}
use Rattle.ram_machine.specs.States.{State, Served, Disc}
use Rattle.ram_machine.specs.Starts.{StandsFirst}
use Rattle.ram_script.specs.Progress.{Beginning}
use Rattle.ram_script.specs.Endings.{Aftermath, Begins}
use Rattle.ram_script.specs.RunCounts.{Counts, counts_of, SameCounts}
use Rattle.ram_session.specs.Talk.{Transmission}
use Rattle.ram_session.specs.Session.{TalkEnds, SessionStands, SessionCounts}
use Rattle.ram_opening.specs.declared.opening.Export.{Export}
use Rattle.ram_opening.specs.Exports.{export_size, export_reason}
use Rattle.ram_opening.specs.Opens.{LiesWhereServed, IsOpenedAs, SessionOpenRule, OpeningCount}
use Rattle.ram_serve.specs.Turns.{BetweenRequests}
use Rattle.ram_serve.specs.Handshakes.{IsState, IsToBeGreeted, InHandshake}
use Rattle.ram_serve.proofs.Counted.{turn_then}
use Rattle.ram_serve.proofs.Shaken.{requests_begin}
use Rattle.ram_serve.proofs.Talked.{ends_where}
use Rattle.ram_client.specs.Ends.{IsBeforeTalk, IsToBegin, SessionEnds}

-- the count of the image, where the session ends before a client is greeted
module _ (f g image image' : ℕ) where
  pub opening_counts : (status : Status) → OpeningCount {X = Export} image image' (Err status) → SessionCounts (counts_of f g image) (counts_of f g image') status
  opening_counts statuses.Script count = record { source = refl; sink = refl; image = count }
  opening_counts statuses.NotADisc count = record { source = refl; sink = refl; image = count }
  opening_counts statuses.ImageFault count = record { source = refl; sink = refl; image = count }
  opening_counts statuses.Done count = absurd count
  opening_counts statuses.SourceFault count = absurd count
  opening_counts statuses.SinkFault count = absurd count
  opening_counts statuses.Differs count = absurd count
  opening_counts statuses.Usage count = absurd count
  opening_counts statuses.NoMemory count = absurd count

-- nothing failed, and then the session ended
pub session_then : (a b c : Counts) → SameCounts a b → (status : Status) → SessionCounts b c status → SessionCounts a c status
session_then a b c same status counts = turn_then a b c same {X = Unit {0}} (Err status) counts

module _ (first : Beginning) (faults : List Line) (stands : State → Type 0) (left written : Option (List ℕ)) where
  -- before a client was greeted
  pub ends_ungreeted : IsBeforeTalk first left written → (status : Status) → SessionOpenRule first faults stands (Err status)
      → SessionEnds first faults stands left written status
  ends_ungreeted before statuses.Script ends = inl (ends, before)
  ends_ungreeted before statuses.ImageFault ends = inl (ends, before)
  ends_ungreeted before statuses.Done ends = absurd ends
  ends_ungreeted before statuses.SourceFault ends = absurd ends
  ends_ungreeted before statuses.SinkFault ends = absurd ends
  ends_ungreeted before statuses.NotADisc ends = absurd ends
  ends_ungreeted before statuses.Differs ends = absurd ends
  ends_ungreeted before statuses.Usage ends = absurd ends
  ends_ungreeted before statuses.NoMemory ends = absurd ends

  -- behind that
  pub ends_greeted : (status : Status) → TalkEnds first faults stands left written status → SessionEnds first faults stands left written status
  ends_greeted statuses.Script ends = inr ends
  ends_greeted statuses.ImageFault ends = inr ends
  ends_greeted statuses.Done ends = ends
  ends_greeted statuses.SourceFault ends = ends
  ends_greeted statuses.SinkFault ends = ends
  ends_greeted statuses.NotADisc ends = ends
  ends_greeted statuses.Differs ends = ends
  ends_greeted statuses.Usage ends = ends
  ends_greeted statuses.NoMemory ends = ends

  -- A client is to be greeted with what is served.
  module _ (export : Export) (opens : IsOpenedAs first faults stands export) (size : Option ℕ) (reason : List ℕ)
      (size_is : size ≡ export_size export) (reason_is : reason ≡ export_reason export) where
    told_as : export_of (export_size export) (export_reason export) ≡ export_of size reason
    told_as = ap (λ (s : Option ℕ). export_of s (export_reason export)) (sym size_is) ∙ ap (λ (r : List ℕ). export_of size r) (sym reason_is)

    pub to_be_greeted : IsBeforeTalk first left written → IsToBeGreeted first faults (export_of size reason) opens.opened.ready left written
    to_be_greeted before = record {
      opened = opens.opened;
      ready_is = refl;
      serves = opens.serves ∙ told_as;
      left_is = before.left_is;
      written_is = before.written_is;
    }

    -- and then requests follow to a disc of so many bytes
    module _ (bytes n : ℕ) where
      on_disc : (s : Served) → opens.opened.ready ≡ Disc s → InHandshake first faults (Serving bytes) opens.opened.ready Transmission n left written
          → BetweenRequests first faults bytes n stands left written
      on_disc s is between =
          requests_begin first faults bytes n s stands left written (subst stands is opens.stands_ready)
          (subst (λ (ready : State). InHandshake first faults (Serving bytes) ready Transmission n left written) is between)

      pub requests_follow : Some bytes ≡ size → InHandshake first faults (export_of size reason) opens.opened.ready Transmission n left written
          → BetweenRequests first faults bytes n stands left written
      requests_follow is between =
          let lies : LiesWhereServed (Some bytes) opens.opened.ready =
          subst (λ (s : Option ℕ). LiesWhereServed s opens.opened.ready) (sym (is ∙ size_is)) opens.lies in
          on_disc lies.0 lies.1 (subst (λ (s : Option ℕ). InHandshake first faults (export_of s reason) opens.opened.ready Transmission n left written) (sym is) between)

  -- the session ends in the handshake, which does nothing to the drive
  pub ends_shaking : (ready : State) → stands ready → (status : Status) → TalkEnds first faults (IsState ready) left written status
      → TalkEnds first faults stands left written status
  ends_shaking ready there status ends =
      ends_where first faults (IsState ready) stands left written (λ s is. subst stands (sym is) there) status ends

-- what lies in the drive at first, for words that ask for these faults
pub to_begin : (first : Beginning) (faults : List Line) (words : List (List ℕ)) (kind : LayoutKind) (stands : State → Type 0) (left written image : Option (List ℕ))
    → first.kind ≡ kind → AreFaultWords words faults → Begins first left written image → StandsFirst kind first.image stands
    → IsToBegin first faults words stands left written
to_begin first faults words kind stands left written image is read begins stood = record {
  read = read;
  start = stood.state;
  starts = stood.first;
  kind_is = stood.kind_is ∙ sym is;
  stands_start = stood.stands_first;
  before = record { left_is = begins.left_is; written_is = begins.written_is };
}

module _ (first : Beginning) (faults : List Line) (after : Aftermath) where
  -- the image is left as the session leaves the drive
  abbrev leaves : State → Type 0
  leaves s = LeavesImage s after.image

  module _ (stands : State → Type 0) (each : (s : State) → stands s → leaves s) where
    pub session_left : (status : Status) → SessionEnds first faults stands after.left after.written status → SessionStands first faults after status
    session_left statuses.Script (inl (ends, before)) = inl (
      record {
        part = ends.part;
        reply = ends.reply;
        data_in = ends.data_in;
        state = ends.state;
        step = ends.step;
        refused = ends.refused;
        leaves_state = each ends.state ends.leaves_state;
      },
      record { written_is = before.written_is; left_is = before.left_is },
    )
    session_left statuses.Script (inr ends) = inr (ends_where first faults stands leaves after.left after.written each statuses.Script ends)
    session_left statuses.ImageFault (inl (ends, before)) = inl (inr (
      record { part = ends.part; data_in = ends.data_in; state = ends.state; step = ends.step; leaves_state = each ends.state ends.leaves_state },
      record { written_is = before.written_is; left_is = before.left_is },
    ))
    session_left statuses.ImageFault (inr ends) = inr (ends_where first faults stands leaves after.left after.written each statuses.ImageFault ends)
    session_left statuses.Done ends = ends_where first faults stands leaves after.left after.written each statuses.Done ends
    session_left statuses.SourceFault ends = ends_where first faults stands leaves after.left after.written each statuses.SourceFault ends
    session_left statuses.SinkFault ends = ends_where first faults stands leaves after.left after.written each statuses.SinkFault ends
    session_left statuses.NotADisc ends = absurd ends
    session_left statuses.Differs ends = absurd ends
    session_left statuses.Usage ends = absurd ends
    session_left statuses.NoMemory ends = absurd ends

  -- the image failed as it was looked at
  pub unopened : (image : Option (List ℕ)) → Begins first after.left after.written image → after.image ≡ image → SessionStands first faults after statuses.ImageFault
  unopened image begins same = inl (inl (record {
    ungreeted = record { written_is = begins.written_is; left_is = begins.left_is };
    image_is = same ∙ begins.image_is;
  }))
