-- A task's sheet: its basic blocks with their l-blocks, its edges, loops and facts.
-- Blocks and l-blocks go by number, from 0. Block 0 is the start, and the last block the end. Assumes nothing.
use Rattle.std.specs.Prelude.{ℕ, ◌-◌, ◌<◌, ◌≤◌, List, length, filter, nat_eq, slice_index_or}
use Rattle.std.specs.List.{AllByRecursion}
use Rattle.words.specs.Lists.{below}
pub use Rattle.sheet.specs.declared.parts.LBlock.{LBlock}
pub use Rattle.sheet.specs.declared.parts.Edge.{Edge}
pub use Rattle.sheet.specs.declared.parts.Fact.{Fact}

-- A loop: its header, its bound, and the blocks that its back edges come from.
pub record Loop : Type 0 where
  pub header : ℕ
  pub bound : ℕ
  pub backs : List ℕ

-- `sets` and `blocks` are how many there are; l-blocks are in the order of their numbers.
pub record Sheet : Type 0 where
  pub sets : ℕ
  pub blocks : ℕ
  pub lblocks : List LBlock
  pub edges : List Edge
  pub loops : List Loop
  pub facts : List Fact

abbrev pub no_lblock : LBlock
no_lblock = record { block = 0; set = 0; tag = 0; hit = 0; extra = 0 }

-- the l-block with a number
abbrev pub lblock : Sheet → ℕ → LBlock
lblock S v = slice_index_or S.lblocks v no_lblock

-- the numbers of a block's l-blocks, in the order in which running the block fetches them
abbrev pub fetches : Sheet → ℕ → List ℕ
fetches S b = filter (λ v. nat_eq (lblock S v).block b) (below (length S.lblocks))

abbrev pub last_block : Sheet → ℕ
last_block S = S.blocks - 1

pub record WellFormed (S : Sheet) : Type 0 where
  pub starts : 0 < S.blocks
  -- every block has an l-block
  pub filled : (b : ℕ) → b < S.blocks → 0 < length (fetches S b)
  pub few_sets : S.sets ≤ 64
  pub in_sets : (v : ℕ) → v < length S.lblocks → (lblock S v).set < S.sets
  pub joins_blocks : AllByRecursion (λ e. (e.from < S.blocks) × (e.to < S.blocks)) S.edges
