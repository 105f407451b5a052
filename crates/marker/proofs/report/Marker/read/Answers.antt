use Rattle.std.proofs.Common.{◌∙◌}
use Rattle.marker.specs.Input.{first_list}
use Rattle.marker.proofs.Reporting.{held}
use Rattle.marker.proofs.report.Marker.read.Goals as goal

pub returns-in_err-map_err-clause-held : goal.returns-in_err-map_err-clause-held
returns-in_err-map_err-clause-held c =
    held (first_list c.args.input.now) _ c.args.self.now.room.sheet c.read.new.self.sheet c.read.result (c.as_slice.ensures ∙ c.take.ensures) c.read.ensures.answer

pub returns-clause-held : goal.returns-clause-held
returns-clause-held c =
    held (first_list c.args.input.now) _ c.args.self.now.room.sheet c.read.new.self.sheet c.read.result (c.as_slice.ensures ∙ c.take.ensures) c.read.ensures.answer
