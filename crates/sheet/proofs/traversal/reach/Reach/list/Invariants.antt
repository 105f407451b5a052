use Rattle.std.proofs.Common.{◌≡◌, ◌-◌, ◌++◌, length}
use Rattle.words.specs.Lists.{up_from, below, joined}
use Rattle.sheet.specs.Traversal.{sheet_of, edge_at}
use Rattle.sheet.proofs.traversal.reach.Reach.list.Given as goal

-- with the edges to the l-blocks that are left, the list is whole
abbrev pub invariant-loop-v : goal.invariant-loop-v
invariant-loop-v l =
    l.out.list.items ++ joined (edge_at (sheet_of l.g) l.self.source.set l.self.source.from) (up_from l.v (length l.g.lblocks.now - l.v))
    ≡ l.initial.out.list.items ++ joined (edge_at (sheet_of l.g) l.self.source.set l.self.source.from) (below (length l.g.lblocks.now))
