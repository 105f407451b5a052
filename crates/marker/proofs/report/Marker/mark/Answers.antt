use Rattle.std.proofs.Common.{length, vec_items, sym, ap, ◌∙◌, arith}
use Rattle.std.proofs.lemmas.Result.{err_from_is_err_and}
use Rattle.marker.specs.Report.{report}
use Rattle.marker.proofs.Going.{list_within}
use Rattle.marker.proofs.Reporting.{printed_none, accepted_printed, refused_printed}
use Rattle.marker.proofs.report.Marker.mark.Goals as goal

pub returns-in_err-append-clause-printed : goal.returns-in_err-append-clause-printed
returns-in_err-append-clause-printed c =
    let p = err_from_is_err_and c.from_residual.result c.from_residual.ensures.1 in
    printed_none (vec_items c.args.text.now) (vec_items c.append.new.text) (report c.args.input.now) c.from_residual.result p.0 p.1 c.in_err-append.ensures

pub returns-then-is_err-clause-printed : goal.returns-then-is_err-clause-printed
returns-then-is_err-clause-printed c =
    refused_printed c.args.input.now (vec_items c.args.text.now) (vec_items c.append.new.text) c.read-answer.new.self.room.sheet c.read-answer.result
    c.read-answer.ensures.answer (sym c.is_err.ensures.value ∙ c.if-is_err.true) c.in_ok-append.ensures

pub stream-requires : goal.stream-requires
stream-requires c = omega (arith, list_within 4096 c.args.input.now, ap length c.read-answer.ensures.list)

pub returns-clause-printed : goal.returns-clause-printed
returns-clause-printed c =
    accepted_printed c.args.input.now (vec_items c.args.text.now) (vec_items c.append.new.text) c.read-answer.new.self.room.sheet
    c.read-answer.result c.len-start.result (vec_items c.stream.new.text) c.stream.result
    c.read-answer.ensures.answer (sym c.is_err.ensures.value ∙ c.if-is_err.false) c.in_ok-append.ensures
    (omega (arith, c.len-start.ensures, ap length c.read-answer.ensures.list)) c.stream.ensures.printed
