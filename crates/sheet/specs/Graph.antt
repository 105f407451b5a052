-- The blocks, l-blocks and edges of a sheet as lists of their own, and links between edges from the same block. Assumes nothing.
use Rattle.std.specs.Prelude.{◌≡◌, ℕ, ◌+◌, ◌<◌, ◌≤◌, ◌≢◌, List, [], length, get_or, slice_index_or, Option, None, MatchOption}
pub use Rattle.sheet.specs.BlockTable.{Block, no_block, first_of, size_of, Holds, Table}
use Rattle.sheet.specs.declared.limits.TheConstants.{MOST_BLOCKS, MOST_LBLOCKS, MOST_EDGES}
use Rattle.sheet.specs.Sheet.{Sheet, LBlock, Edge, WellFormed}

-- the sheet with these parts, and no loops and facts
abbrev pub graph_of : (sets blocks : ℕ) → List LBlock → List Edge → Sheet
graph_of sets blocks ls es = record { sets = sets; blocks = blocks; lblocks = ls; edges = es; loops = []; facts = [] }

-- a sheet without its loops and facts
abbrev pub graph : Sheet → Sheet
graph S = graph_of S.sets S.blocks S.lblocks S.edges

abbrev pub no_edge : Edge
no_edge = record { from = 0; to = 0 }

-- no edge from block b stands at i or later among the first k edges
abbrev pub NoneFrom : List Edge → (b i k : ℕ) → Type 0
NoneFrom es b i k = (j : ℕ) → i ≤ j → j < k → (get_or es j no_edge).from ≢ b

-- the last edge from block b among the first k edges, if there is one
abbrev pub Latest : List Edge → (b k : ℕ) → Option ℕ → Type 0
Latest es b k o = MatchOption o (NoneFrom es b 0 k) (λ e. (e < k) × ((get_or es e no_edge).from ≡ b) × NoneFrom es b (e + 1) k)

-- the first k edges are linked: `latest` has each block's last edge, and `before` the edge before each edge from the same block
pub record Linked (es : List Edge) (blocks k : ℕ) (latest before : List (Option ℕ)) : Type 0 where
  pub each_block : length latest ≡ blocks
  pub each_edge : length before ≡ k
  pub last_edges : (b : ℕ) → b < blocks → Latest es b k (slice_index_or latest b None)
  pub earlier : (e : ℕ) → e < k → Latest es (get_or es e no_edge).from e (slice_index_or before e None)

-- a graph that a traversal can go over
pub record Ready (sets : ℕ) (bs : List Block) (ls : List LBlock) (es : List Edge) (latest before : List (Option ℕ)) : Type 0 where
  pub formed : WellFormed (graph_of sets (length bs) ls es)
  pub table : Table (graph_of sets (length bs) ls es) (first_of bs) (size_of bs)
  pub few_blocks : length bs ≤ MOST_BLOCKS
  pub few_lblocks : length ls ≤ MOST_LBLOCKS
  pub few_edges : length es ≤ MOST_EDGES
  pub linked : Linked es (length bs) (length es) latest before
