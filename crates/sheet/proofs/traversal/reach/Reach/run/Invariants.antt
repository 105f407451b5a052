use Rattle.std.proofs.Common.{◌≡◌, ℕ, ◌-◌, ◌<◌, ◌≤◌, true, length, get_or}
use Rattle.sheet.specs.Conflict.{Node, at, Arrow}
use Rattle.sheet.specs.Traversal.{sheet_of, On, saw}
use Rattle.sheet.specs.declared.limits.TheConstants.{MOST_LBLOCKS}
use Rattle.sheet.proofs.traversal.reach.Reach.run.Given as goal

-- the search went on from the nodes that are queued before `head`
abbrev pub invariant-loop-x : goal.invariant-loop-x
invariant-loop-x l =
    On (sheet_of l.g) l.initial.self l.self
    × (l.head ≤ length l.self.queue.list.items)
    × ((i : ℕ) → i < l.head → (y : Node) → Arrow (sheet_of l.g) (at (get_or l.self.queue.list.items i 0)) y → saw l.self y ≡ true)

abbrev pub decreases-loop-x : goal.decreases-loop-x
decreases-loop-x l = MOST_LBLOCKS - l.head
