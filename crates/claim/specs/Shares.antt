-- For the code that adds up columns: the multipliers by families of rows, and parts of a column's total. Assumes nothing.
use Rattle.std.specs.Prelude.{◌≡◌, ℕ, ◌<◌, Bool, cond, List, [], ◌∷◌, ◌++◌, length, take, drop, ℤ, pos, ◌+ℤ◌, ◌-ℤ◌, ◌*ℤ◌, neg_ℤ, ◌≤ℤ◌, Some, None, filter, Option, ◌==◌, slice_index_or}
use Rattle.std.specs.List.{prefix_len}
use Rattle.words.specs.Lists.{below}
use Rattle.sheet.specs.Sheet.{Sheet, Loop}
use Rattle.sheet.specs.Walk.{back, entry}
use Rattle.sheet.specs.Conflict.{used, used_sets}
use Rattle.sheet.specs.Rows.{Column, one_if, foreign}
use Rattle.claim.specs.Items.{Edge, Fact, Node, START, at, END}
use Rattle.claim.specs.declared.rows.Rows.{Rows as Held}
use Rattle.claim.specs.Certificate.{combined}
use Rattle.claim.specs.Judge.{high_enough}
use Rattle.claim.specs.Parts.{multipliers}

-- multipliers added up
abbrev pub total : List ℤ → ℤ
total [] = pos 0
total (y ∷ ys) = y +ℤ total ys

-- the multipliers of the in, out, loop, fact, arrival, departure, set and miss rows
pub record Multipliers : Type 0 where
  pub ins : List ℤ
  pub outs : List ℤ
  pub loops : List ℤ
  pub facts : List ℤ
  pub arrivals : List ℤ
  pub departures : List ℤ
  pub sets : List ℤ
  pub misses : List ℤ

-- in row order
abbrev pub all : Multipliers → List ℤ
all Y = Y.ins ++ Y.outs ++ Y.loops ++ Y.facts ++ Y.arrivals ++ Y.departures ++ Y.sets ++ Y.misses

-- one for each row of the sheet
pub record Sized (S : Sheet) (Y : Multipliers) : Type 0 where
  pub ins : length Y.ins ≡ S.blocks
  pub outs : length Y.outs ≡ S.blocks
  pub loops : length Y.loops ≡ length S.loops
  pub facts : length Y.facts ≡ length S.facts
  pub arrivals : length Y.arrivals ≡ length S.lblocks
  pub departures : length Y.departures ≡ length S.lblocks
  pub sets : length Y.sets ≡ length (used_sets S)
  pub misses : length Y.misses ≡ length S.lblocks

-- what the fact rows add to the column of block b, and the loop rows to that of edge e
abbrev pub fact_share : List ℤ → List Fact → ℕ → ℤ
fact_share ys fs b = combined ys fs (λ f. one_if (f.i == b) -ℤ (pos f.k *ℤ one_if (f.j == b)))

abbrev pub loop_share : List ℤ → List Loop → Edge → ℤ
loop_share ys ls e = combined ys ls (λ l. one_if (back l e) -ℤ (pos l.bound *ℤ one_if (entry l e)))

-- the column of block b, whose l-blocks are the n from f on, where its facts add x
abbrev pub block_sum : Multipliers → ℕ → ℕ → ℕ → ℤ → ℤ
block_sum Y b f n x =
    ((slice_index_or Y.ins b (pos 0) +ℤ slice_index_or Y.outs b (pos 0)) +ℤ x) +ℤ (total (take n (drop f Y.arrivals)) +ℤ total (take n (drop f Y.departures)))

-- how many used sets are below this one: its place among the set rows
abbrev pub rank : Sheet → ℕ → ℕ
rank S s = length (filter (used S) (below s))

-- what the set and departure rows add to a conflict edge's column, by the set and the source, and the arrival and miss rows, by both ends
abbrev pub share_of_source : Sheet → Multipliers → ℕ → Node → ℤ
share_of_source S Y s START = slice_index_or Y.sets (rank S s) (pos 0)
share_of_source S Y s (at u) = neg_ℤ (slice_index_or Y.departures u (pos 0))
share_of_source S Y s END = pos 0

abbrev pub share_of_target : Sheet → Multipliers → Node → Node → ℤ
share_of_target S Y from START = pos 0
share_of_target S Y from (at v) = neg_ℤ (slice_index_or Y.arrivals v (pos 0)) -ℤ cond (foreign S v from) (slice_index_or Y.misses v (pos 0)) (pos 0)
share_of_target S Y from END = pos 0

-- at most m away from nothing
abbrev pub Near : ℕ → ℤ → Type 0
Near m z = (neg_ℤ (pos m) ≤ℤ z) × (z ≤ℤ pos m)

-- a test that was made
abbrev pub as_tested : Bool → Bool
as_tested b = b

-- The first element that fails a test, or that none does.
abbrev pub FirstLow : {A : Type 0} → (A → Bool) → List A → Option ℕ → Type 0
FirstLow p xs None = prefix_len p xs ≡ length xs
FirstLow p xs (Some k) = (prefix_len p xs ≡ k) × (k < length xs)

-- whether a column is high enough for a certificate with these multipliers and this denominator, whatever it claims
abbrev pub covered : Sheet → Multipliers → ℕ → Column → Bool
covered S Y d x = high_enough S (record { W = 0; D = d; multipliers = all Y }) x

-- The multipliers of a pair of words each, as the code holds them.
abbrev pub weights : Held → Multipliers
weights R = record {
  ins = multipliers R.ins.now;
  outs = multipliers R.outs.now;
  loops = multipliers R.loops.now;
  facts = multipliers R.facts.now;
  arrivals = multipliers R.arrivals.now;
  departures = multipliers R.departures.now;
  sets = multipliers R.sets.now;
  misses = multipliers R.misses.now;
}
