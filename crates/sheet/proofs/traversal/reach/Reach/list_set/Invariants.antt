use Rattle.std.proofs.Common.{◌≡◌, ◌-◌, ◌++◌, length}
use Rattle.words.specs.Lists.{up_from, below, joined}
use Rattle.sheet.specs.Traversal.{sheet_of, edges_from}
use Rattle.sheet.proofs.traversal.reach.Reach.list_set.Given as goal

-- with the edges from the l-blocks that are left, the list is whole
abbrev pub invariant-loop-v : goal.invariant-loop-v
invariant-loop-v l =
    l.out.list.items ++ joined (edges_from (sheet_of l.g) l.set) (up_from l.v (length l.g.lblocks.now - l.v))
    ≡ l.initial.out.list.items ++ joined (edges_from (sheet_of l.g) l.set) (below (length l.g.lblocks.now))
