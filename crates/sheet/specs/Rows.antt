-- The columns and the rows of a sheet, whose conflict edges are cs. Assumes nothing.
use Rattle.std.specs.Prelude.{ℕ, Bool, true, false, not, ◌&&◌, List, ◌++◌, map, length, ℤ, pos, ◌-ℤ◌, ◌*ℤ◌, neg_ℤ, sum_by, ◌==◌}
use Rattle.words.specs.Lists.{below}
use Rattle.sheet.specs.Sheet.{Sheet, Edge, Loop, Fact, lblock, fetches, last_block}
use Rattle.sheet.specs.Walk.{back, entry}
use Rattle.sheet.specs.Conflict.{Node, START, at, END, Conflict, used_sets}

-- N: the runs of a block. T: the uses of an edge. M: the misses of an l-block. P: the uses of a conflict edge.
pub data Column : Type 0 where
  N : ℕ → Column
  T : Edge → Column
  M : ℕ → Column
  P : Conflict → Column

abbrev pub columns : Sheet → List Conflict → List Column
columns S cs = map N (below S.blocks) ++ map T S.edges ++ map M (below (length S.lblocks)) ++ map P cs

-- the cycles of a block's hits; the extra cycles of a miss; T and P cost nothing
abbrev pub cost : Sheet → Column → ℕ
cost S (N b) = sum_by (λ v. (lblock S v).hit) (fetches S b)
cost S (T e) = 0
cost S (M v) = (lblock S v).extra
cost S (P c) = 0

pub data Row : Type 0 where
  in_row out_row : ℕ → Row
  loop_row : Loop → Row
  fact_row : Fact → Row
  arrival_row departure_row : ℕ → Row
  set_row : ℕ → Row
  miss_row : ℕ → Row

abbrev pub rows : Sheet → List Row
rows S =
    map in_row (below S.blocks) ++ map out_row (below S.blocks) ++ map loop_row S.loops ++ map fact_row S.facts
    ++ map arrival_row (below (length S.lblocks)) ++ map departure_row (below (length S.lblocks))
    ++ map set_row (used_sets S) ++ map miss_row (below (length S.lblocks))

abbrev pub one_if : Bool → ℤ
one_if true = pos 1
one_if false = pos 0

abbrev pub is_at : ℕ → Node → Bool
is_at v START = false
is_at v (at u) = v == u
is_at v END = false

abbrev pub is_start : Node → Bool
is_start START = true
is_start (at u) = false
is_start END = false

-- whether a node is START or an l-block with another tag than v's
abbrev pub foreign : Sheet → ℕ → Node → Bool
foreign S v START = true
foreign S v (at u) = not ((lblock S u).tag == (lblock S v).tag)
foreign S v END = false

-- a row's coefficients at the columns of each kind
pub record Terms : Type 0 where
  pub n : ℕ → ℤ
  pub t : Edge → ℤ
  pub m : ℕ → ℤ
  pub p : Conflict → ℤ

abbrev pub none : {A : Type 0} → A → ℤ
none x = pos 0

abbrev pub terms : Sheet → Row → Terms
-- N(b) - T of the edges into b
terms S (in_row b) = record { n = λ a. one_if (b == a); t = λ e. neg_ℤ (one_if (b == e.to)); m = none; p = none }
-- N(b) - T of the edges out of b
terms S (out_row b) = record { n = λ a. one_if (b == a); t = λ e. neg_ℤ (one_if (b == e.from)); m = none; p = none }
-- T of the loop's back edges - bound * T of its entry edges
terms S (loop_row l) = record { n = none; t = λ e. one_if (back l e) -ℤ (pos l.bound *ℤ one_if (entry l e)); m = none; p = none }
-- N(i) - k * N(j)
terms S (fact_row f) = record { n = λ a. one_if (f.i == a) -ℤ (pos f.k *ℤ one_if (f.j == a)); t = none; m = none; p = none }
-- N(b) - P into v, for the l-block v of block b
terms S (arrival_row v) = record { n = λ a. one_if ((lblock S v).block == a); t = none; m = none; p = λ c. neg_ℤ (one_if (is_at v c.to)) }
-- N(b) - P out of v
terms S (departure_row v) = record { n = λ a. one_if ((lblock S v).block == a); t = none; m = none; p = λ c. neg_ℤ (one_if (is_at v c.from)) }
-- P of set s out of START
terms S (set_row s) = record { n = none; t = none; m = none; p = λ c. one_if (s == c.set && is_start c.from) }
-- M(v) - P into v from START or from another tag
terms S (miss_row v) = record { n = none; t = none; m = λ u. one_if (v == u); p = λ c. neg_ℤ (one_if (is_at v c.to && foreign S v c.from)) }

abbrev pub coefficient : Sheet → Row → Column → ℤ
coefficient S r (N b) = (terms S r).n b
coefficient S r (T e) = (terms S r).t e
coefficient S r (M v) = (terms S r).m v
coefficient S r (P c) = (terms S r).p c

abbrev pub right_side : Sheet → Row → ℤ
right_side S (in_row b) = one_if (b == 0)
right_side S (out_row b) = one_if (b == last_block S)
right_side S (loop_row l) = pos 0
right_side S (fact_row f) = pos 0
right_side S (arrival_row v) = pos 0
right_side S (departure_row v) = pos 0
right_side S (set_row s) = pos 1
right_side S (miss_row v) = pos 0

-- whether a row says `at most`; the others say `equal`
abbrev pub at_most : Row → Bool
at_most (in_row b) = false
at_most (out_row b) = false
at_most (loop_row l) = true
at_most (fact_row f) = true
at_most (arrival_row v) = false
at_most (departure_row v) = false
at_most (set_row s) = false
at_most (miss_row v) = true
