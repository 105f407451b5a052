-- Certificates, and which pass. Assumes nothing.
use Rattle.std.specs.Prelude.{◌≡◌, ℕ, ◌+◌, ◌-◌, ◌*◌, ◌<◌, true, List, [], ◌∷◌, ℤ, pos, ◌+ℤ◌, ◌*ℤ◌, ◌≤ℤ◌}
use Rattle.std.specs.List.{AllByRecursion}
use Rattle.sheet.specs.Sheet.{Sheet}
use Rattle.claim.specs.Items.{Conflict}
use Rattle.sheet.specs.Rows.{Row, Column, rows, columns, cost, coefficient, right_side, at_most}

-- a claim of at most W cycles, with a multiplier for each row, all scaled by D
pub record Certificate : Type 0 where
  pub W : ℕ
  pub D : ℕ
  pub multipliers : List ℤ

-- the values f of rows, or of what the rows are for, each times its multiplier, added up
abbrev pub combined : {A : Type 0} → List ℤ → List A → (A → ℤ) → ℤ
combined [] xs f = pos 0
combined (y ∷ ys) [] f = pos 0
combined (y ∷ ys) (x ∷ xs) f = (y *ℤ f x) +ℤ combined ys xs f

-- one multiplier for each row, not negative where the row says `at most`
abbrev pub SignsRight : List ℤ → List Row → Type 0
SignsRight [] [] = Unit {0}
SignsRight [] (r ∷ rs) = ⊥
SignsRight (y ∷ ys) [] = ⊥
SignsRight (y ∷ ys) (r ∷ rs) = (at_most r ≡ true → pos 0 ≤ℤ y) × SignsRight ys rs

-- a column's coefficients times the multipliers
abbrev pub column_total : Sheet → Certificate → Column → ℤ
column_total S C x = combined C.multipliers (rows S) (λ r. coefficient S r x)

pub record Passes (S : Sheet) (cs : List Conflict) (C : Certificate) : Type 0 where
  pub scaled : 0 < C.D
  pub signed : SignsRight C.multipliers (rows S)
  pub covered : AllByRecursion (λ x. pos (cost S x * C.D) ≤ℤ column_total S C x) (columns S cs)
  pub claimed : combined C.multipliers (rows S) (right_side S) ≤ℤ pos (C.W * C.D + C.D - 1)
