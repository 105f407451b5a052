use Rattle.sheet.specs.Graph.{Linked}
use Rattle.sheet.proofs.traversal.graph.link.Given as goal

abbrev pub invariant-loop-i : goal.invariant-loop-i
invariant-loop-i l = Linked l.edges l.blocks l.i l.latest.list.items l.before.list.items
