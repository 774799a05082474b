-- What a client that was told without an error knows: each command of its request was good, and which data they gave.
use Rattle.std.specs.Prelude.{◌≡◌, ℕ, ◌<◌, ◌^◌, ◌==◌, Bool, true, false, if◌then◌else◌, List, [], ◌∷◌, ◌++◌}
use Rattle.std.proofs.Common.{refl, sym, ap, ◌∙◌, inl, inr, subst, arith}
use Rattle.std.proofs.lemmas.List.{append_cancel_left}
use Rattle.byteorder.specs.Endian.{big_bytes}
use Rattle.model_sense.specs.declared.answer.Answer.{Answer}
use Rattle.model_sense.specs.declared.answer.Answer.TheVariants as answers
use Rattle.model_nbd.specs.declared.NbdOperation.{NbdOperation}
use Rattle.model_nbd.specs.declared.NbdOperation.TheVariants as operations
use Rattle.model_nbd.specs.Messages.{Request, reply_bytes}
use Rattle.model_nbd.specs.Handshake.{Serving}
use Rattle.model_nbd.specs.Commands.{Command, error_of, lacks_spare}
use Rattle.model_nbd.proofs.Fields.{number_first}
use Rattle.ram_session.specs.Doing.{Did, AreDone, WereAllGood, error_after, data_from, reply_to}
use Rattle.ram_session.specs.Talk.{Phase, Greeted, Options, Transmission, Left, Violation, Message, Asks, FollowsBy, IsRequestAnswered}

-- a reply tells its error, and its data
same_reply : (error other cookie : ℕ) (x y : List ℕ) → error < 2 ^ 32 → other < 2 ^ 32 → reply_bytes error cookie x ≡ reply_bytes other cookie y → (error ≡ other) × (x ≡ y)
same_reply error other cookie x y e o same =
    let errors = number_first 4 error other (big_bytes 8 cookie ++ x) (big_bytes 8 cookie ++ y) e o
    (append_cancel_left (big_bytes 4 0x67446698) (big_bytes 4 error ++ big_bytes 8 cookie ++ x) (big_bytes 4 other ++ big_bytes 8 cookie ++ y) same) in
    (errors.0, append_cancel_left (big_bytes 8 cookie) x y errors.1)

abbrev check_error : Bool → ℕ
check_error lacks = if lacks then 28 else 5

check_small : (lacks : Bool) → check_error lacks < 2 ^ 32
check_small true = omega arith
check_small false = omega arith

check_some : (lacks : Bool) → ¬ (check_error lacks ≡ 0)
check_some true is = omega (arith, is)
check_some false is = omega (arith, is)

error_small : (answer : Answer) → error_of answer < 2 ^ 32
error_small answers.Good = omega arith
error_small (answers.Check sense) = check_small (lacks_spare sense)
error_small answers.Cut = omega arith
error_small answers.Off = omega arith
error_small answers.Fault = omega arith

no_error : (answer : Answer) → error_of answer ≡ 0 → answer ≡ answers.Good
no_error answers.Good is = refl
no_error (answers.Check sense) is = absurd (check_some (lacks_spare sense) is)
no_error answers.Cut is = absurd (omega (arith, is))
no_error answers.Off is = absurd (omega (arith, is))
no_error answers.Fault is = absurd (omega (arith, is))

after_small : (dids : List Did) → error_after dids < 2 ^ 32
after_small [] = omega arith
after_small (last ∷ before) = error_small last.answer

pub all_good : (commands : List Command) (dids : List Did) → AreDone commands dids → error_after dids ≡ 0 → WereAllGood commands dids
all_good commands dids (inl whole) is = whole
all_good commands dids (inr part) is = absurd (part.not_good (no_error part.last.answer (sym (ap error_after part.dids_are) ∙ is)))

-- the requests that have commands and a reply
abbrev pub IsReplied : NbdOperation → Type 0
IsReplied (operations.Refused error) = ⊥
IsReplied operations.Disconnect = ⊥
IsReplied _ = Unit {0}

pub told_no_error : (cookie : ℕ) (z : NbdOperation) (dids : List Did) (told : List ℕ) → IsReplied z → reply_to cookie z dids ≡ reply_bytes 0 cookie told → error_after dids ≡ 0
told_no_error cookie (operations.Refused error) dids told replied is = absurd replied
told_no_error cookie operations.Disconnect dids told replied is = absurd replied
told_no_error cookie (operations.Read lba n) dids told replied is = (same_reply (error_after dids) 0 cookie (if error_after dids == 0 then data_from dids else []) told (after_small dids) (omega arith) is).0
told_no_error cookie (operations.Write lba n fua) dids told replied is = (same_reply (error_after dids) 0 cookie [] told (after_small dids) (omega arith) is).0
told_no_error cookie (operations.WriteZeroes lba n fua) dids told replied is = (same_reply (error_after dids) 0 cookie [] told (after_small dids) (omega arith) is).0
told_no_error cookie operations.Flush dids told replied is = (same_reply (error_after dids) 0 cookie [] told (after_small dids) (omega arith) is).0

pub told_data : (cookie lba n : ℕ) (dids : List Did) (told : List ℕ) → reply_to cookie (operations.Read lba n) dids ≡ reply_bytes 0 cookie told → told ≡ data_from dids
told_data cookie lba n dids told is =
    let both = same_reply (error_after dids) 0 cookie (if error_after dids == 0 then data_from dids else []) told (after_small dids) (omega arith) is in
    sym both.1 ∙ ap (λ (e : ℕ). if e == 0 then data_from dids else []) both.0

-- a request that came was answered
pub asked_in : (was next : Phase) (message : Message) (request : Request) (size : ℕ) (dids : List Did) (told : List ℕ) → message ≡ Asks request
    → FollowsBy was message (Serving size) dids told next → IsRequestAnswered size request dids told next
asked_in was next message request size dids told is f = by was (subst (λ (m : Message). FollowsBy was m (Serving size) dids told next) is f)
  where
    by : (was : Phase) → FollowsBy was (Asks request) (Serving size) dids told next → IsRequestAnswered size request dids told next
    by Transmission f = f
    by Greeted f = absurd f
    by (Options zeros) f = absurd f
    by Left f = absurd f
    by Violation f = absurd f
