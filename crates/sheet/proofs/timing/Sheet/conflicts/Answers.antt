use Rattle.sheet.specs.View.{view}
use Rattle.sheet.proofs.Reach.{lists_conflicts}
use Rattle.sheet.proofs.timing.Sheet.conflicts.Goals as goal

pub returns-clause-exact : goal.returns-clause-exact
returns-clause-exact c = rw (c.as_slice.ensures.items, c.args.self.now.listed) (lists_conflicts (view c.args.self.now))
