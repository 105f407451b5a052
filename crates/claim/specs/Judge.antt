-- What a judge answers to a certificate that has a multiplier for each row. Assumes nothing.
use Rattle.std.specs.Prelude.{◌≡◌, ℕ, ◌+◌, ◌-◌, ◌*◌, ◌<◌, Bool, cond, not, ◌||◌, ◌↔◌, List, [], ◌∷◌, length, ℤ, pos, int_le, nat_lt}
use Rattle.std.specs.List.{prefix_len}
use Rattle.sheet.specs.Sheet.{Sheet}
use Rattle.claim.specs.Items.{Conflict}
use Rattle.sheet.specs.Rows.{Row, Column, rows, columns, cost, right_side, at_most}
use Rattle.claim.specs.Certificate.{Certificate, combined, column_total, Passes}

-- It passes; or a row that says `at most` has a negative multiplier, or a column is too low, each the first; or the claim is too low.
pub data Verdict : Type 0 where
  passed : Verdict
  negative : ℕ → Verdict
  low_column : ℕ → Verdict
  low_claim : Verdict

-- for each row, whether its multiplier may have its sign
abbrev pub sign_tests : List ℤ → List Row → List Bool
sign_tests [] rs = []
sign_tests (y ∷ ys) [] = []
sign_tests (y ∷ ys) (r ∷ rs) = (not (at_most r) || int_le (pos 0) y) ∷ sign_tests ys rs

abbrev pub high_enough : Sheet → Certificate → Column → Bool
high_enough S C x = int_le (pos (cost S x * C.D)) (column_total S C x)

abbrev pub claims_enough : Sheet → Certificate → Bool
claims_enough S C = int_le (combined C.multipliers (rows S) (right_side S)) (pos (C.W * C.D + C.D - 1))

-- `leading p xs` is the place of the first element that does not pass p, or the length where all do.
abbrev pub judge : Sheet → List Conflict → Certificate → Verdict
judge S cs C =
    let signs : List Bool = sign_tests C.multipliers (rows S) in
    let row : ℕ = prefix_len (λ b. b) signs in
    let column : ℕ = prefix_len (high_enough S C) (columns S cs) in
    cond (nat_lt row (length signs)) (negative row)
    (cond (nat_lt column (length (columns S cs))) (low_column column)
    (cond (claims_enough S C) passed low_claim))

-- The judge passes exactly the certificates that pass.
abbrev pub JudgesRight : Type 0
JudgesRight =
    (S : Sheet) (cs : List Conflict) (C : Certificate) → 0 < C.D → length C.multipliers ≡ length (rows S)
    → (judge S cs C ≡ passed) ↔ Passes S cs C
