-- One text after another, or a prefix of the first.
use Rattle.std.proofs.lemmas.Result.{err_from_is_err_and}
use Rattle.ram_report.specs.ReportLines.{numbered, answer_words, reply_text}
use Rattle.ram_report.proofs.Prints.{put_then, cut_first}
use Rattle.ram_report.proofs.printing.commands.put_answer.Goals as goal

pub returns : goal.returns
returns g c = put_then _ _ _ _ _ _ _ (numbered c.args.number (answer_words c.args.answer.now)) (reply_text c.args.answer.now c.args.cdb.now c.args.reply.now) c.in_ok-print_words_of.ensures _ c.print_reply.ensures

pub returns-in_err-print_words_of : goal.returns-in_err-print_words_of
returns-in_err-print_words_of g c =
    let p = err_from_is_err_and c.from_residual.result c.from_residual.ensures.1 in
    rw p.1 (cut_first _ _ _ _ (numbered c.args.number (answer_words c.args.answer.now)) (reply_text c.args.answer.now c.args.cdb.now c.args.reply.now) c.in_err-print_words_of.ensures)
