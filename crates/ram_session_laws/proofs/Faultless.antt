-- Where the words of a session ask for no fault, none is refused: the other lines before the greeting are never told so.
use Rattle.std.specs.Prelude.{◌≡◌, ℕ, ◌<◌, ◌^◌, Ok, Err, List, [], ◌∷◌, ◌++◌, length}
use Rattle.std.proofs.Common.{sym, subst}
use Rattle.model_sectors.specs.declared.PowerOut.{PowerOut}
use Rattle.model_sectors.specs.declared.PowerOut.TheVariants as powers
use Rattle.model_sense.specs.declared.answer.Answer.{Answer}
use Rattle.model_sense.specs.declared.answer.Answer.TheVariants as answers
use Rattle.ram_report.specs.declared.printing.Event.TheVariants as events
use Rattle.ram_text.specs.declared.script.Line.{Line}
use Rattle.ram_text.specs.declared.script.Line.TheVariants as lines
use Rattle.ram_machine.specs.declared.reply.Reply.{Reply}
use Rattle.ram_machine.specs.declared.reply.Reply.TheVariants as replies
use Rattle.ram_machine.specs.declared.status.Status.{Status}
use Rattle.ram_machine.specs.declared.stopped.Stopped.TheVariants as stopped
use Rattle.ram_machine.specs.Replies.{command_outcome, power_outcome}
use Rattle.ram_machine.specs.States.{State, Unopened, Disc}
use Rattle.ram_machine.specs.LineSteps.{Step}
use Rattle.ram_machine.proofs.SectorTurns.{same_reply}
use Rattle.ram_script.specs.Completes.{NoneRose}
use Rattle.ram_script.specs.Endings.{Aftermath}
use Rattle.ram_script.specs.Progress.{Beginning}
use Rattle.ram_script.specs.RunCounts.{Counts}
use Rattle.ram_session.specs.Talk.{Message, Greeted}
use Rattle.ram_session.specs.Opening.{Given, lines_done, RefusesFault, IsSessionOpened, export_after}
use Rattle.ram_session.specs.Session.{SessionStands, SessionCounts, EndsRefused}
use Rattle.ram_session_laws.specs.Protocol.{KeepsProtocol, messages_bytes, IsServedToEnd}
use Rattle.ram_session_laws.proofs.Served.{served}

-- the line asks for no fault
abbrev AsksNoFault : Line → Type 0
AsksNoFault lines.Power = Unit {0}
AsksNoFault (lines.Command cdb) = Unit {0}
AsksNoFault _ = ⊥

abbrev AskNoFault : List Given → Type 0
AskNoFault [] = Unit {0}
AskNoFault (given ∷ rest) = AsksNoFault given.line × AskNoFault rest

one_of : (front : List Given) (next : Given) (rest : List Given) → AskNoFault (front ++ (next ∷ rest)) → AsksNoFault next.line
one_of [] next rest ask = ask.0
one_of (given ∷ front) next rest ask = one_of front next rest ask.1

power_refuses : (reply : Reply) (out : PowerOut) → Ok reply ≡ power_outcome out → ¬ RefusesFault reply
power_refuses reply (powers.Ready capacity) is refused = subst RefusesFault (sym (same_reply reply (replies.Event (events.Ready capacity)) is)) refused
power_refuses reply powers.NotFormatted is refused = subst RefusesFault (sym (same_reply reply (replies.Event events.NotFormatted) is)) refused
power_refuses reply powers.Cut is refused = subst RefusesFault (sym (same_reply reply (replies.Event events.Cut) is)) refused
power_refuses reply powers.Fault is refused = absurd (let clash : Ok reply ≡ Err stopped.ImageFault = is in cc)

command_refuses : (reply : Reply) (cdb : List ℕ) (answer : Answer) → Ok reply ≡ command_outcome cdb answer → ¬ RefusesFault reply
command_refuses reply cdb answers.Good is refused = subst RefusesFault (sym (same_reply reply (replies.Command cdb answers.Good) is)) refused
command_refuses reply cdb (answers.Check why) is refused = subst RefusesFault (sym (same_reply reply (replies.Command cdb (answers.Check why)) is)) refused
command_refuses reply cdb answers.Cut is refused = subst RefusesFault (sym (same_reply reply (replies.Command cdb answers.Cut) is)) refused
command_refuses reply cdb answers.Off is refused = subst RefusesFault (sym (same_reply reply (replies.Command cdb answers.Off) is)) refused
command_refuses reply cdb answers.Fault is refused = absurd (let clash : Ok reply ≡ Err stopped.ImageFault = is in cc)

no_disc : (reply : Reply) → Ok reply ≡ Err stopped.NotADisc → ⊥
no_disc reply is = cc

line_refuses : (s t : State) (line : Line) (payload data_in : List ℕ) (reply : Reply) → AsksNoFault line → Step s line payload (Ok reply) data_in t → ¬ RefusesFault reply
line_refuses (Unopened image) t lines.Power payload data_in reply ask step = absurd (no_disc reply step.0)
line_refuses (Disc s) (Unopened image) lines.Power payload data_in reply ask step = absurd step
line_refuses (Disc s) (Disc t) lines.Power payload data_in reply ask step = power_refuses reply step.rule.0.out step.rule.0.outcome_is
line_refuses (Unopened image) t (lines.Command cdb) payload data_in reply ask step = absurd (no_disc reply step.0)
line_refuses (Disc s) (Unopened image) (lines.Command cdb) payload data_in reply ask step = absurd step
line_refuses (Disc s) (Disc t) (lines.Command cdb) payload data_in reply ask step = command_refuses reply cdb step.rule.answer step.rule.outcome_is
line_refuses s t _ payload data_in reply ask step = absurd ask

none_refused : (first : Beginning) (after : Aftermath) → ¬ EndsRefused first [] after
none_refused first after ends =
    let part = ends.0.part in
    let asks : AskNoFault (lines_done part.steps ++ (part.next ∷ part.others)) = subst AskNoFault part.lines_are (tt, (tt, (tt, tt))) in
    line_refuses part.now ends.0.state part.next.line part.next.payload ends.0.data_in ends.0.reply (one_of (lines_done part.steps) part.next part.others asks) ends.0.step ends.0.refused

pub served_faultless : (first : Beginning) (after : Aftermath) (status : Status) (counts later : Counts) (messages : List Message) → SessionStands first [] after status
    → SessionCounts counts later status → NoneRose counts later → first.script ≡ messages_bytes messages → length first.script < 2 ^ 64
    → ((opened : IsSessionOpened first []) → KeepsProtocol (export_after opened.steps) Greeted messages) → IsServedToEnd first [] messages after status
served_faultless first after status counts later messages stands rose none sends short keeps =
    served first [] after status counts later messages stands rose none (none_refused first after) sends short keeps
