-- A read that was good gives as many bytes as its sectors have.
use Rattle.std.specs.Prelude.{◌≡◌, ℕ, ◌*◌, ◌<◌, ◌≤◌, ◌^◌, Ok, List, [], ◌∷◌, length}
use Rattle.std.proofs.Common.{refl, ap, ◌∙◌}
use Rattle.model_sectors.proofs.Pieces.{length_sectors}
use Rattle.model_sectors.specs.declared.ReadOut.TheVariants as reads
use Rattle.model_drive.specs.Parts.{IsInRange}
use Rattle.model_cache.specs.Values.{Contents, Has, MayHave}
use Rattle.model_cache.specs.Shown.{CacheShown, CacheStandsFor, dropped}
use Rattle.model_cache.specs.Causes.{CacheReadBy}
use Rattle.model_sense.specs.declared.answer.Answer.TheVariants as answers
use Rattle.model_cdb.specs.declared.commands.Command.TheVariants as commands
use Rattle.model_nbd.specs.Commands.{Sectors, read_cdb}
use Rattle.ram_text.specs.declared.script.Line.TheVariants as lines
use Rattle.ram_machine.specs.declared.reply.Reply.TheVariants as replies
use Rattle.ram_machine.specs.Answered.{AnsweredStep}
use Rattle.ram_machine.specs.States.{State, Unopened, Disc}
use Rattle.ram_machine.specs.LineSteps.{Step}
use Rattle.ram_machine.proofs.WrittenDiscs.{lies}
use Rattle.ram_machine.proofs.DoneLines.{GoodRead, Done, read_good, line_done}
use Rattle.ram_session.proofs.Decoded.{read_decoded}

-- it was in range
inside_by : (pending : List (ℕ × List ℕ)) (old new : CacheShown) (lba n : ℕ) → CacheReadBy pending old new lba n reads.Good → IsInRange old.drive lba n
inside_by [] old new lba n p = p.0.cause.inside
inside_by (held ∷ pending) old new lba n p = p.0

good_gives : (old new : CacheShown) (s t : Contents) (lba n : ℕ) (data_in : List ℕ) → CacheStandsFor old s → GoodRead old new s t lba n data_in → length data_in ≡ 2048 * n
good_gives old new (Has v) t lba n data_in stood good =
    let room = lies old v lba n stood (inside_by (dropped old).pending (dropped old) new lba n good.cause) in
    ap length good.step.0 ∙ length_sectors v.disc room.blocks lba n room.inside room.long
good_gives old new (MayHave all) t lba n data_in stood good = absurd good.step

done_gives : (s t : State) (lba n : ℕ) (data_in : List ℕ) → Done s t (commands.Read lba n) [] data_in → length data_in ≡ 2048 * n
done_gives (Unopened image) t lba n data_in done = absurd done
done_gives (Disc s) (Unopened image) lba n data_in done = absurd done
done_gives (Disc s) (Disc t) lba n data_in done =
    good_gives s.disc.shown t.disc.shown s.disc.contents t.disc.contents lba n data_in s.disc.stands
    (read_good s.disc.shown t.disc.shown s.disc.contents t.disc.contents lba n data_in done.done)

pub read_gives_sectors : (s t : State) (part : Sectors) (data_in : List ℕ) → part.lba < 2 ^ 32 → part.n ≤ 1024
    → Step s (lines.Command (read_cdb part)) [] (Ok (replies.Command (read_cdb part) answers.Good)) data_in t → length data_in ≡ 2048 * part.n
read_gives_sectors s t part data_in small few step =
    let event : AnsweredStep =
    record { line = lines.Command (read_cdb part); payload = []; reply = replies.Command (read_cdb part) answers.Good; data_in = data_in } in
    done_gives s t part.lba part.n data_in
    (line_done s t event (commands.Read part.lba part.n) step
    (record { cdb = read_cdb part; line_is = refl; asks = read_decoded part small few; reply_is = refl }))
