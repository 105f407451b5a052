-- What every sheet keeps, said of its items one by one, for the code above that reads them. Assumes nothing.
use Rattle.std.specs.Prelude.{◌≡◌, ℕ, ◌^◌, ◌<◌, ◌≤◌, ◌≢◌, length, slice_index_or}
use Rattle.sheet.specs.declared.parts.Loop.{Loop as Header}
use Rattle.sheet.specs.Sheet.{LBlock, Edge, Fact, WellFormed}
use Rattle.sheet.specs.ConflictList.{conflicts}
use Rattle.sheet.specs.BlockTable.{first_of, size_of, count_of, Table}
use Rattle.sheet.specs.Drafts.{Items, sheet_of}

pub record Sound (I : Items) : Type 0 where
  pub formed : WellFormed (sheet_of I)
  -- the l-blocks of a block, one or more, follow one another
  pub table : Table (sheet_of I) (first_of I.blocks) (size_of I.blocks)
  pub filled : (b : ℕ) → b < length I.blocks → 1 ≤ count_of I.blocks b
  pub few_blocks : length I.blocks ≤ 128
  pub few_lblocks : length I.lblocks ≤ 512
  pub few_edges : length I.edges ≤ 512
  pub few_loops : length I.loops ≤ 32
  pub few_facts : length I.facts ≤ 32
  pub few_conflicts : length (conflicts (sheet_of I)) ≤ 4096
  pub lblocks_fit : (v : ℕ) (d : LBlock) → v < length I.lblocks → ((slice_index_or I.lblocks v d).hit < 2 ^ 14) × ((slice_index_or I.lblocks v d).extra < 2 ^ 14)
  pub edges_fit : (n : ℕ) (d : Edge) → n < length I.edges → ((slice_index_or I.edges n d).from < length I.blocks) × ((slice_index_or I.edges n d).to < length I.blocks)
  pub loops_fit : (k : ℕ) (d : Header) → k < length I.loops → ((slice_index_or I.loops k d).header < length I.blocks) × ((slice_index_or I.loops k d).bound < 2 ^ 14)
  -- no two loops have one header
  pub apart : (j k : ℕ) (d : Header) → j < length I.loops → k < length I.loops → (slice_index_or I.loops j d).header ≡ (slice_index_or I.loops k d).header → j ≡ k
  pub facts_fit : (n : ℕ) (d : Fact) → n < length I.facts
      → ((slice_index_or I.facts n d).i < length I.blocks) × ((slice_index_or I.facts n d).j < length I.blocks) × ((slice_index_or I.facts n d).i ≢ (slice_index_or I.facts n d).j) × ((slice_index_or I.facts n d).k < 2 ^ 14)
