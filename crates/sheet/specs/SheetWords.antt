-- The words of a sheet, which sheets fit, and the law of reading them. Assumes nothing.
use Rattle.std.specs.Prelude.{◌≡◌, ℕ, ◌-◌, ◌^◌, ◌<◌, ◌≤◌, true, ◌≢◌, ◌↔◌, List, [], ◌∷◌, ◌++◌, map, length, sum_by, filter, nat_eq}
use Rattle.std.specs.List.{ContainsAt as Has, AllByRecursion}
use Rattle.words.specs.Lists.{below, joined}
use Rattle.sheet.specs.Sheet.{Sheet, LBlock, Edge, Loop, Fact, WellFormed}
use Rattle.sheet.specs.Walk.{edge, entry}
use Rattle.sheet.specs.ConflictList.{conflicts}
use Rattle.sheet.specs.Kinds.{HEAD, BLOCK, LBLOCK, COST, EDGE, LOOP, BACK, FACT}
use Rattle.words.specs.Words.{word, fields, ended, accepted}
use Rattle.sheet.specs.ReadSheet.{read_sheet}

-- the l-blocks of a block
abbrev pub of_block : List LBlock → ℕ → List LBlock
of_block vs b = filter (λ v. nat_eq v.block b) vs

-- The words of each item.
abbrev pub lblock_words : LBlock → List ℕ
lblock_words v = word LBLOCK (fields 20 v.set v.tag) ∷ word COST (fields 14 v.hit v.extra) ∷ []

abbrev pub block_words : List LBlock → List ℕ
block_words vs = word BLOCK (length vs) ∷ joined lblock_words vs

abbrev pub blocks_words : List LBlock → ℕ → List ℕ
blocks_words vs n = joined (λ b. block_words (of_block vs b)) (below n)

abbrev pub edge_word : Edge → ℕ
edge_word e = word EDGE (fields 14 e.from e.to)

abbrev pub loop_words : Loop → List ℕ
loop_words l = word LOOP (fields 14 l.header l.bound) ∷ map (word BACK) l.backs

abbrev pub fact_word : Fact → ℕ
fact_word f = word FACT (fields 14 (fields 7 f.i f.j) f.k)

-- HEAD, blocks, edges, loops each with its BACK words, facts
abbrev pub sheet_words : Sheet → List ℕ
sheet_words S =
    (word HEAD S.sets ∷ []) ++ blocks_words S.lblocks S.blocks ++ map edge_word S.edges
    ++ joined loop_words S.loops ++ map fact_word S.facts

abbrev pub encode : Sheet → List ℕ
encode S = ended (sheet_words S)

-- no two elements are equal
abbrev pub Distinct : {A : Type 0} → List A → Type 0
Distinct [] = Unit {0}
Distinct (x ∷ xs) = AllByRecursion (λ y. x ≢ y) xs × Distinct xs

-- Limits and rules of the items.
pub record LBlockFits (sets blocks : ℕ) (v : LBlock) : Type 0 where
  pub in_block : v.block < blocks
  pub in_set : v.set < sets
  pub tag_fits : v.tag < 2 ^ 20
  pub hit_fits : v.hit < 2 ^ 14
  pub extra_fits : v.extra < 2 ^ 14

pub record BlocksFit (sets blocks : ℕ) (vs : List LBlock) : Type 0 where
  pub some_sets : 1 ≤ sets
  pub few_sets : sets ≤ 64
  pub few_blocks : blocks ≤ 128
  pub few_lblocks : length vs ≤ 512
  -- 1 to 16 l-blocks in a block
  pub filled : (b : ℕ) → b < blocks → (1 ≤ length (of_block vs b)) × (length (of_block vs b) ≤ 16)
  -- they are those of block 0, then those of block 1, and so on
  pub in_order : vs ≡ joined (of_block vs) (below blocks)
  pub each : AllByRecursion (LBlockFits sets blocks) vs

pub record EdgeFits (blocks : ℕ) (e : Edge) : Type 0 where
  pub from_block : e.from < blocks
  pub to_block : e.to < blocks
  pub not_into_start : e.to ≢ 0
  pub not_out_of_last : e.from ≢ blocks - 1

pub record EdgesFit (blocks : ℕ) (es : List Edge) : Type 0 where
  pub few : length es ≤ 512
  pub each : AllByRecursion (EdgeFits blocks) es
  pub distinct : Distinct es

pub record LoopFits (blocks : ℕ) (es : List Edge) (l : Loop) : Type 0 where
  pub header_block : l.header < blocks
  pub bound_fits : l.bound < 2 ^ 14
  pub some_back : 1 ≤ length l.backs
  pub back_edges : AllByRecursion (λ b. Has es (edge b l.header)) l.backs
  pub distinct : Distinct l.backs
  pub entered : (e : Edge) × Has es e × (entry l e ≡ true)

pub record LoopsFit (blocks : ℕ) (es : List Edge) (ls : List Loop) : Type 0 where
  pub few : length ls ≤ 32
  pub few_backs : sum_by (λ l. length l.backs) ls ≤ 64
  pub each : AllByRecursion (LoopFits blocks es) ls
  pub distinct : Distinct (map (λ l. l.header) ls)

pub record FactFits (blocks : ℕ) (f : Fact) : Type 0 where
  pub i_block : f.i < blocks
  pub j_block : f.j < blocks
  pub differ : f.i ≢ f.j
  pub k_fits : f.k < 2 ^ 14

pub record FactsFit (blocks : ℕ) (fs : List Fact) : Type 0 where
  pub few : length fs ≤ 32
  pub each : AllByRecursion (FactFits blocks) fs

pub record PartsFit (S : Sheet) : Type 0 where
  pub some_block : 1 ≤ S.blocks
  pub blocks_fit : BlocksFit S.sets S.blocks S.lblocks
  pub edges_fit : EdgesFit S.blocks S.edges
  pub loops_fit : LoopsFit S.blocks S.edges S.loops
  pub facts_fit : FactsFit S.blocks S.facts

-- a sheet within all limits
pub record Fits (S : Sheet) : Type 0 where
  pub parts : PartsFit S
  pub few_conflicts : length (conflicts S) ≤ 4096

abbrev pub FitsWellFormed : Type 0
FitsWellFormed = (S : Sheet) → Fits S → WellFormed S

-- The words that are accepted are exactly those of the sheets that fit, and the sheet is read off them.
abbrev pub ReadsSheets : Type 0
ReadsSheets = (ws : List ℕ) (S : Sheet) → (read_sheet ws ≡ accepted S) ↔ ((ws ≡ encode S) × Fits S)
