use Rattle.std.proofs.Common.{◌≡◌, ◌-◌, ◌++◌, length, filter}
use Rattle.words.specs.Lists.{up_from, below, joined}
use Rattle.sheet.specs.Conflict.{used, used_sets}
use Rattle.sheet.specs.ReadSheet.{passing}
use Rattle.sheet.specs.Traversal.{sheet_of, edges_of}
use Rattle.sheet.proofs.traversal.reach.Reach.list_all.Given as goal

-- with the edges of the sets that are left, the list is whole, and it passes 4,096 with the same set
abbrev pub invariant-loop-set : goal.invariant-loop-set
invariant-loop-set l = record {
  whole : l.out.list.items ++ joined (edges_of (sheet_of l.g)) (up_from l.set (l.g.sets - l.set)) ≡ joined (edges_of (sheet_of l.g)) (below l.g.sets);
  passes : passing (sheet_of l.g) (filter (used (sheet_of l.g)) (up_from l.set (l.g.sets - l.set))) (length l.out.list.items)
      ≡ passing (sheet_of l.g) (used_sets (sheet_of l.g)) 0;
}
