-- For code: signed sums of what an iterator yields. Assumes nothing.
use Rattle.std.proofs.Common.{◌≡◌, ℕ, suc, ◌+◌, ◌*◌, ◌^◌, ◌<◌, ◌≤◌, Bool, true, false, List, [], ◌∷◌, length, ℤ, pos, ◌+ℤ◌, Option, sym, ◌∙◌, subst, arith, w64, SFits, slice_index}
use Rattle.std.specs.List.{fold, AllByRecursion}
use Rattle.std.specs.Iterator.{AlwaysYields, Yields}
use Rattle.std.specs.Iterator.Runs.{EachRunFrom, YieldsRun}
use Rattle.std.proofs.lemmas.Iterator.{YieldsList}
use Rattle.std.proofs.lemmas.Int.{ints}
use Rattle.words.specs.Words.{payload, minus_bit, top_field, fields}
use Rattle.claim.specs.ReadCertificate.{signed}
use Rattle.claim.specs.Parts.{multiplier, multipliers}
use Rattle.claim.specs.Shares.{total, Near}
use Rattle.claim.proofs.Nears.{near_fits, near_more, near_add, near_zero}

near_signed : (b : Bool) (n : ℕ) → n < 2 ^ 40 → Near (2 ^ 40) (signed b n)
near_signed true n h = (omega (arith, ints, h), omega (arith, ints, h))
near_signed false n h = (omega (arith, ints, h), omega (arith, ints, h))

near_multiplier : (p : List ℕ) → Near (2 ^ 40) (multiplier p)
near_multiplier p = near_signed (minus_bit (payload (slice_index p 0))) (fields 28 (top_field (payload (slice_index p 0))) (payload (slice_index p 1))) (omega arith)

near_all : (ps : List (List ℕ)) → AllByRecursion (Near (2 ^ 40)) (multipliers ps)
near_all [] = tt
near_all (p ∷ ps) = (near_multiplier p, near_all ps)

pub fold_total : (a : ℤ) (ys : List ℤ) → fold ◌+ℤ◌ a ys ≡ a +ℤ total ys
fold_total a [] = omega (arith, ints)
fold_total a (y ∷ ys) = fold_total (a +ℤ y) ys ∙ omega (arith, ints)

pub near_total : (ps : List (List ℕ)) → Near (length ps * 2 ^ 40) (total (multipliers ps))
near_total [] = near_zero 0
near_total (p ∷ ps) = near_more (2 ^ 40 + length ps * 2 ^ 40) (suc (length ps) * 2 ^ 40) (total (multipliers (p ∷ ps))) (omega arith) (near_add (2 ^ 40) (length ps * 2 ^ 40) (multiplier p) (total (multipliers ps)) (near_multiplier p) (near_total ps))

module _ {S : Type 0} where
  near_along : (steps : S → Option ℤ → S → Type 0) (ys : List ℤ) (s t : S) (xs : List ℤ) (a : ℤ) (n m : ℕ) → AlwaysYields steps (λ x. x) s ys → Yields steps s xs t → AllByRecursion (Near (2 ^ 40)) ys → Near (n * 2 ^ 40) a → n + length ys ≤ m → Near (m * 2 ^ 40) (fold ◌+ℤ◌ a xs)
  near_along steps ys s t [] a n m e g k h l = near_more (n * 2 ^ 40) (m * 2 ^ 40) a (omega (arith, l)) h
  near_along steps [] s t (x ∷ xs) a n m e g k h l = absurd (e x g.0 g.1)
  near_along steps (y ∷ ys) s t (x ∷ xs) a n m e g k h l =
      near_along steps ys g.0 t xs (a +ℤ x) (suc n) m (e.1 x g.0 g.1).1 g.2 k.1
      (near_more (n * 2 ^ 40 + 2 ^ 40) (suc n * 2 ^ 40) (a +ℤ x) (omega arith) (near_add (n * 2 ^ 40) (2 ^ 40) a x h (subst (Near (2 ^ 40)) (sym (e.1 x g.0 g.1).0) k.0))) (omega (arith, l))

  pub multipliers_fit : {steps : S → Option ℤ → S → Type 0} {s : S} (ps : List (List ℕ)) → YieldsList steps (λ x. x) s (multipliers ps) → length (multipliers ps) ≤ 512 → EachRunFrom steps s (λ p. SFits w64 (fold ◌+ℤ◌ (pos 0) p.items))
  unfolding YieldsRun
  multipliers_fit {steps} {s} ps e l = λ p _ at. near_fits (512 * 2 ^ 40) _ (omega arith)
      (near_along steps (multipliers ps) s p.gave.0.0 p.items (pos 0) 0 512 e.runs (subst (λ u. Yields steps u p.items p.gave.0.0) at p.gave.0.1) (near_all ps) (near_zero 0) (omega (arith, l)))
