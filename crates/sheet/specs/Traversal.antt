-- What a traversal of the fetch graph keeps: flags of the nodes that it saw, and a queue of those to go on from. Assumes nothing.
use Rattle.std.specs.Prelude.{◌≡◌, ℕ, ◌+◌, ◌<◌, ◌≤◌, Bool, true, false, cond, not, List, [], ◌∷◌, ◌++◌, length, Ok, Err, Result, count_by, slice_index, slice_index_or}
use Rattle.std.specs.List.{ContainsAt as Has, AllByRecursion}
use Rattle.sheet.specs.declared.traversal.graph.Graph.{Graph}
use Rattle.sheet.specs.declared.traversal.reach.Reach.{Reach}
use Rattle.sheet.specs.declared.traversal.reach.Source.{Source}
use Rattle.sheet.specs.declared.fault.SheetFault.{SheetFault}
use Rattle.sheet.specs.declared.fault.SheetFault.TheVariants.{TooManyConflicts}
use Rattle.sheet.specs.declared.limits.TheConstants.{MOST_CONFLICTS}
use Rattle.sheet.specs.Sheet.{Sheet}
use Rattle.sheet.specs.Conflict.{Node, START, at, END, Leads, in_set, used, Conflict}
use Rattle.sheet.specs.ConflictList.{conflicting, conflicts_from, conflicts_of}
use Rattle.sheet.specs.Graph.{graph_of}

-- whether a node is flagged
abbrev pub flagged : List Bool → Bool → Node → Bool
flagged seen ended START = false
flagged seen ended (at k) = slice_index_or seen k false
flagged seen ended END = ended

-- The nodes seen so far in a traversal from u that goes on after no l-block of set s; those that it goes on from are queued as they are seen.
pub record Front (S : Sheet) (s : ℕ) (u : Node) (seen : List Bool) (ended : Bool) (queue : List ℕ) : Type 0 where
  pub sized : length seen ≡ length S.lblocks
  pub sound : (v : Node) → flagged seen ended v ≡ true → Leads S s u v
  pub queued : (k : ℕ) → slice_index_or seen k false ≡ true → in_set S s (at k) ≡ false → Has queue k
  pub inner : AllByRecursion (λ q. (q < length S.lblocks) × (in_set S s (at q) ≡ false) × (slice_index_or seen q false ≡ true)) queue
  pub room : length queue + count_by not seen ≤ length S.lblocks

-- the sheet of a graph
abbrev pub sheet_of : Graph → Sheet
sheet_of g = graph_of g.sets (length g.blocks.now) g.lblocks.now g.edges.now

-- whether the traversal saw a node
abbrev pub saw : Reach → Node → Bool
saw r v = flagged r.seen.list.items r.ended v

-- a traversal under way
abbrev pub Going : Sheet → Reach → Type 0
Going S r = Front S r.source.set r.source.from r.seen.list.items r.ended r.queue.list.items

-- a node that it is to see
abbrev pub Sees : Sheet → Reach → Node → Type 0
Sees S r v = Leads S r.source.set r.source.from v

-- it went on: more nodes may be seen, and more queued
pub record On (S : Sheet) (r r' : Reach) : Type 0 where
  pub going : Going S r'
  pub same_source : r'.source ≡ r.source
  pub kept : (v : Node) → saw r v ≡ true → saw r' v ≡ true
  pub longer : length r.queue.list.items ≤ length r'.queue.list.items
  pub queue_kept : (i : ℕ) → i < length r.queue.list.items → slice_index r'.queue.list.items i ≡ slice_index r.queue.list.items i

-- a traversal that is done: it saw the nodes that a path leads to from its source with no l-block of the set strictly inside
pub record Reached (S : Sheet) (a : Source) (r : Reach) : Type 0 where
  pub source_is : r.source ≡ a
  pub sized : length r.seen.list.items ≡ length S.lblocks
  pub found : (v : Node) → saw r v ≡ conflicting S a.set a.from v

-- a node that has a flag
abbrev pub HasFlag : Reach → Node → Type 0
HasFlag r START = Unit {0}
HasFlag r (at k) = k < length r.seen.list.items
HasFlag r END = Unit {0}

-- where a traversal can start
abbrev pub Starts : Sheet → Node → Type 0
Starts S START = Unit {0}
Starts S (at v) = v < length S.lblocks
Starts S END = Unit {0}

-- Conflict edges of a set go to the end of a list while there are at most 4,096; where there would be more, the set is answered.
abbrev pub Added : ℕ → List Conflict → List Conflict → Result (Unit {0}) SheetFault → List Conflict → Type 0
Added s xs added (Ok u) ys = ys ≡ xs ++ added
Added s xs added (Err e) ys = (MOST_CONFLICTS < length xs + length added) × (e ≡ TooManyConflicts s)

-- the conflict edge to a node, if the traversal saw it
abbrev pub seen_edge : Reach → Node → List Conflict
seen_edge r v = cond (saw r v) (record { set = r.source.set; from = r.source.from; to = v } ∷ []) []

-- the conflict edge of a set from one node to another, if there is one; that to an l-block, if it is of the set
abbrev pub edge_to : Sheet → ℕ → Node → Node → List Conflict
edge_to S s u v = cond (conflicting S s u v) (record { set = s; from = u; to = v } ∷ []) []

abbrev pub edge_at : Sheet → ℕ → Node → ℕ → List Conflict
edge_at S s u v = cond (in_set S s (at v)) (edge_to S s u (at v)) []

-- the conflict edges from an l-block, if it is of the set, and those of a set, if it is used
abbrev pub edges_from : Sheet → ℕ → ℕ → List Conflict
edges_from S s v = cond (in_set S s (at v)) (conflicts_from S s (at v)) []

abbrev pub edges_of : Sheet → ℕ → List Conflict
edges_of S s = cond (used S s) (conflicts_of S s) []
