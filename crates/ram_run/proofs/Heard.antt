-- What is known around a call that asks for nothing, and has the sink of a conversation alone.
use Rattle.std.proofs.Common.{◌≡◌, ℕ, Bool, Option, List, refl, subst}
use Rattle.ram_outside.specs.declared.conversation.Conversation.{Ghosts as Conversations}
use Rattle.ram_outside.specs.declared.opener.Opener.{Ghosts as Openers}
use Rattle.ram_outside.specs.declared.sink.Sink.{Ghosts as Sinks}
use Rattle.ram_machine.specs.declared.status.Status.{Status}
use Rattle.ram_outside.specs.Past.{Moment}
use Rattle.ram_script.specs.Around.{Surroundings, around}
use Rattle.ram_summary.specs.Generating.{Heard, beside}
use Rattle.ram_run.specs.Promises.{Promises}

-- what is known of what comes
abbrev pub heard_of : {T K : Type 0} → Conversations T K → T → Heard
heard_of talks talk = record { left = talks.left talk; asked = talks.asked talk; faults = talks.faults talk }

-- a conversation of which nothing but the sink differs, beside what came before
pub around_with : {T K O I : Type 0} (talks : Conversations T K) (sinks : Sinks K) (openers : Openers O I) (old new : T) (sink : K) (opener : O)
    → talks.left new ≡ talks.left old → talks.faults new ≡ talks.faults old → talks.asked new ≡ talks.asked old → talks.report new ≡ sink
    → beside (heard_of talks old) sinks openers sink opener ≡ around talks sinks openers new opener
around_with talks sinks openers old new sink opener left faults asked report = rw (left, faults, asked, report) refl

-- the promises around it
pub promised_around : {I : Type 0} (bytes_of : I → Option (List ℕ)) (past_of : I → Option (List Moment)) (knows : Bool) (old old' new new' : Surroundings I) (status : Status) (words : List (List ℕ))
    → old ≡ old' → new ≡ new' → Promises bytes_of past_of knows old new status words → Promises bytes_of past_of knows old' new' status words
promised_around {I} bytes_of past_of knows old old' new new' status words before after promises =
    subst (λ (x : Surroundings I). Promises bytes_of past_of knows x new' status words) before (subst (λ (x : Surroundings I). Promises bytes_of past_of knows old x status words) after promises)
