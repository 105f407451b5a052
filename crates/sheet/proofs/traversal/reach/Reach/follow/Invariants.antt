use Rattle.std.proofs.Common.{◌≡◌, ℕ, ◌+◌, ◌<◌, ◌≤◌, true, length, get_or}
use Rattle.std.specs.Prelude.{MatchOption}
use Rattle.sheet.specs.Conflict.{at}
use Rattle.sheet.specs.Graph.{no_edge, first_of}
use Rattle.sheet.specs.Traversal.{sheet_of, On, saw}
use Rattle.sheet.specs.declared.traversal.graph.Graph.{Graph}
use Rattle.sheet.specs.declared.traversal.reach.Reach.{Reach}
use Rattle.sheet.proofs.Links.{edges_left}
use Rattle.sheet.proofs.traversal.reach.Reach.follow.Given as goal

-- the edges from block b with number i or more were followed
abbrev pub Followed : Graph → Reach → (b i : ℕ) → Type 0
Followed g r b i = (j : ℕ) → i ≤ j → j < length g.edges.now → (get_or g.edges.now j no_edge).from ≡ b → saw r (at (first_of g.blocks.now (get_or g.edges.now j no_edge).to)) ≡ true

-- the block's edges after the next one were followed
abbrev pub invariant-loop-next : goal.invariant-loop-next
invariant-loop-next l = record {
  on : On (sheet_of l.g) l.initial.self l.self;
  followed : MatchOption l.next (Followed l.g l.self l.b 0)
      (λ e. (e < length l.g.edges.now) × ((get_or l.g.edges.now e no_edge).from ≡ l.b) × Followed l.g l.self l.b (e + 1));
}

abbrev pub decreases-loop-next : goal.decreases-loop-next
decreases-loop-next l = edges_left l.next
