-- A list in strict order is known by its elements. Assumes nothing.
use Rattle.std.proofs.Common.{◌≡◌, ℕ, zero, suc, ◌<◌, ◌⊎◌, List, [], ◌∷◌, length, get_or, sym, refl, ◌∙◌, subst, ap₂, inl, inr, ⊎_elim, le_of_suc-le-suc, not-suc-le-zero, arith}
use Rattle.std.specs.List.{ContainsAt as Has}
use Rattle.std.proofs.ByRecursion.{all-has}
use Rattle.sheet.specs.Sheet.{Sheet}
use Rattle.sheet.specs.Conflict.{Conflict, Precedes}
use Rattle.sheet.specs.ConflictList.{OneList}
use Rattle.words.proofs.Lists.{has_first, has_later}
use Rattle.sheet.proofs.Sorted.{Sorted, sorted_from}

has_cases : {A : Type 0} (x : A) (xs : List A) (z : A) → Has (x ∷ xs) z → (x ≡ z) ⊎ Has xs z
has_cases x xs z h = go h.0 h.1 h.2
  where
    go : (k : ℕ) → k < length (x ∷ xs) → ((d : _) → get_or (x ∷ xs) k d ≡ z) → (x ≡ z) ⊎ Has xs z
    go zero l e = inl (e z)
    go (suc k) l e = inr (k, le_of_suc-le-suc l, e)

module _ {A : Type 0} (R : A → A → Type 0) (asym : (x y : A) → R x y → R y x → ⊥) where
  same_elements : (xs ys : List A) → Sorted R xs → Sorted R ys → ((z : A) → Has xs z → Has ys z) → ((z : A) → Has ys z → Has xs z) → xs ≡ ys
  same_elements [] [] s t f g = refl
  same_elements [] (y ∷ ys) s t f g = absurd (not-suc-le-zero (g y (has_first y ys)).1)
  same_elements (x ∷ xs) [] s t f g = absurd (not-suc-le-zero (f x (has_first x xs)).1)
  same_elements (x ∷ xs) (y ∷ ys) s t f g = ap₂ ◌∷◌ same (same_elements xs ys s.1 t.1 into back)
    where
      same : x ≡ y
      same = ⊎_elim sym
          (λ h. ⊎_elim (λ e. e) (λ k. absurd (asym x y (all-has (R x) xs y s.0 k) (all-has (R y) ys x t.0 h))) (has_cases x xs y (g y (has_first y ys))))
          (has_cases y ys x (f x (has_first x xs)))

      into : (z : A) → Has xs z → Has ys z
      into z h = ⊎_elim
          (λ e. let r : R x x = subst (R x) (sym e ∙ sym same) (all-has (R x) xs z s.0 h) in absurd (asym x x r r))
          (λ k. k) (has_cases y ys z (f z (has_later x z xs h)))

      back : (z : A) → Has ys z → Has xs z
      back z h = ⊎_elim
          (λ e. let r : R y y = subst (R y) (sym e ∙ same) (all-has (R y) ys z t.0 h) in absurd (asym y y r r))
          (λ k. k) (has_cases x xs z (g z (has_later y z ys h)))

pub precedes_asym : (S : Sheet) (c d : Conflict) → Precedes S c d → Precedes S d c → ⊥
precedes_asym S c d p q = omega (arith, p, q)

pub one_list : OneList
one_list S cs ds h k =
    same_elements (Precedes S) (precedes_asym S) cs ds
    (sorted_from (Precedes S) cs h.ordered) (sorted_from (Precedes S) ds k.ordered)
    (λ z e. k.complete z (h.sound z e)) (λ z e. h.complete z (k.sound z e))
