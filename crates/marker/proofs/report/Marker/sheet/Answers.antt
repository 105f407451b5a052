use Rattle.std.proofs.Common.{subst}
use Rattle.line.specs.Written.{Written}
use Rattle.marker.specs.Input.{first_list}
use Rattle.marker.proofs.Reporting.{answer_line}
use Rattle.marker.proofs.report.Marker.sheet.Goals as goal

pub returns-clause-written : goal.returns-clause-written
returns-clause-written c =
    subst (λ text. Written c.args.out.now c.args.at text c.write.result c.write.new.out)
    (answer_line (first_list c.args.input.now) c.read.new.self.room.sheet c.read.result c.read.ensures.answer) c.write.ensures.written
