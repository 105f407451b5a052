-- The table of blocks as the code holds it: where a block's l-blocks begin, and how many there are. Assumes nothing.
use Rattle.std.specs.Prelude.{◌≡◌, ℕ, suc, ◌+◌, ◌-◌, ◌<◌, ◌≤◌, List, length, slice_index_or}
use Rattle.sheet.specs.Sheet.{Sheet, LBlock, no_lblock, lblock}
pub use Rattle.sheet.specs.declared.parts.Block.{Block}

abbrev pub no_block : Block
no_block = record { first = 0; lblocks = 0 }

-- the number of a block's first l-block
abbrev pub first_of : List Block → ℕ → ℕ
first_of bs b = (slice_index_or bs b no_block).first

-- one less than a block has l-blocks, so that its last is `first_of bs b + size_of bs b`
abbrev pub size_of : List Block → ℕ → ℕ
size_of bs b = (slice_index_or bs b no_block).lblocks - 1

-- how many l-blocks a block has, and the block of an l-block
abbrev pub count_of : List Block → ℕ → ℕ
count_of bs b = (slice_index_or bs b no_block).lblocks

abbrev pub block_of : List LBlock → ℕ → ℕ
block_of vs v = (slice_index_or vs v no_lblock).block

-- Every block but the last is whole, and the last still lacks `lacking` l-blocks.
pub record Laid (bs : List Block) (vs : List LBlock) (lacking : ℕ) : Type 0 where
  pub none : length bs ≡ 0 → lacking ≡ 0
  pub filled : (b : ℕ) → b < length bs → 1 ≤ count_of bs b
  pub begun : (b : ℕ) → b < length bs → first_of bs b ≤ length vs
  pub whole : (b : ℕ) → b + 1 < length bs → first_of bs b + count_of bs b ≤ length vs
  pub lacks : (b : ℕ) → suc b ≡ length bs → first_of bs b + count_of bs b ≡ length vs + lacking
  pub inside : (b v : ℕ) → b < length bs → v < length vs → first_of bs b ≤ v → v < first_of bs b + count_of bs b → block_of vs v ≡ b
  pub outside : (b v : ℕ) → b < length bs → v < length vs → block_of vs v ≡ b → (first_of bs b ≤ v) × (v < first_of bs b + count_of bs b)
  pub owned : (v : ℕ) → v < length vs → block_of vs v < length bs

-- l-blocks f to f + n - 1 are those of block b
pub record Holds (S : Sheet) (b f n : ℕ) : Type 0 where
  pub fits : f + n ≤ length S.lblocks
  pub inside : (v : ℕ) → f ≤ v → v < f + n → (lblock S v).block ≡ b
  pub outside : (v : ℕ) → v < length S.lblocks → (lblock S v).block ≡ b → (f ≤ v) × (v < f + n)

-- every block's l-blocks, one or more, are in a row
pub record Table (S : Sheet) (first size : ℕ → ℕ) : Type 0 where
  pub holds : (b : ℕ) → b < S.blocks → Holds S b (first b) (suc (size b))
  pub owned : (v : ℕ) → v < length S.lblocks → (lblock S v).block < S.blocks
