-- Weak duality: where every row holds of what happened, the multipliers bound its cost. Assumes nothing.
use Rattle.std.proofs.Common.{◌≡◌, ℕ, ◌+◌, ◌-◌, ◌*◌, ◌<◌, ◌≤◌, Bool, true, false, List, [], ◌∷◌, ℤ, pos, ◌+ℤ◌, ◌*ℤ◌, ◌≤ℤ◌, sym, refl, ap, ◌∙◌, subst, mul-le-mul_right, arith}
use native.Mathlib.Decide.{dec_le}
use lib.Signed.{≤ℤ_refl}
use Rattle.std.proofs.lemmas.Int.{ints}
use Rattle.std.specs.List.{AllByRecursion}
use Rattle.sheet.specs.Rows.{Row, at_most}
use Rattle.claim.specs.Certificate.{combined, SignsRight}
use Rattle.claim.proofs.Ints.{*ℤ-+ℤ, *ℤ-mono, +ℤ-mono}
use Rattle.claim.proofs.Sums.{sum_nat, sum_int}
use Rattle.claim.proofs.Weights.{combined_none}

combined_add : (ys : List ℤ) (rs : List Row) (f g : Row → ℤ) → combined ys rs (λ r. f r +ℤ g r) ≡ combined ys rs f +ℤ combined ys rs g
combined_add [] rs f g = refl
combined_add (y ∷ ys) [] f g = refl
combined_add (y ∷ ys) (r ∷ rs) f g = omega (arith, ints, *ℤ-+ℤ y (f r) (g r), combined_add ys rs f g)

-- the order of two sums does not matter
pub exchange : {E : Type 0} (ys : List ℤ) (rs : List Row) (f : Row → E → ℤ) (es : List E)
    → sum_int (λ e. combined ys rs (λ r. f r e)) es ≡ combined ys rs (λ r. sum_int (f r) es)
exchange ys rs f [] = sym (combined_none ys rs)
exchange ys rs f (e ∷ es) =
    ap (λ z. combined ys rs (λ r. f r e) +ℤ z) (exchange ys rs f es) ∙ sym (combined_add ys rs (λ r. f r e) (λ r. sum_int (f r) es))

-- a row's relation between its two sides
abbrev pub Related : Bool → ℤ → ℤ → Type 0
Related true a b = a ≤ℤ b
Related false a b = a ≡ b

scaled : (t : Bool) (y a b : ℤ) → (t ≡ true → pos 0 ≤ℤ y) → Related t a b → (y *ℤ a) ≤ℤ (y *ℤ b)
scaled true y a b h k = *ℤ-mono y a b (h refl) k
scaled false y a b h k = subst (λ x. (y *ℤ a) ≤ℤ (y *ℤ x)) k (≤ℤ_refl (y *ℤ a))

pub weighed : (ys : List ℤ) (rs : List Row) (f g : Row → ℤ) → SignsRight ys rs → AllByRecursion (λ r. Related (at_most r) (f r) (g r)) rs
    → combined ys rs f ≤ℤ combined ys rs g
weighed [] rs f g s h = ≤ℤ_refl (pos 0)
weighed (y ∷ ys) [] f g s h = ≤ℤ_refl (pos 0)
weighed (y ∷ ys) (r ∷ rs) f g s h =
    +ℤ-mono (y *ℤ f r) (y *ℤ g r) _ _ (scaled (at_most r) y (f r) (g r) s.0 h.0) (weighed ys rs f g s.1 h.1)

pub priced : {E : Type 0} (D : ℕ) (cost : E → ℕ) (total : E → ℤ) (es : List E) → AllByRecursion (λ e. pos (cost e * D) ≤ℤ total e) es
    → pos (sum_nat cost es * D) ≤ℤ sum_int total es
priced D cost total [] h = omega (arith, ints)
priced D cost total (e ∷ es) h = omega (arith, ints, h.0, priced D cost total es h.1)

pub unscaled : (c W D : ℕ) → 0 < D → c * D ≤ W * D + D - 1 → c ≤ W
unscaled c W D p h = elim (dec_le c W) [ yes y ↦ y | no n ↦ absurd (let l : W + 1 ≤ c = omega arith in omega (arith, mul-le-mul_right D l)) ]
