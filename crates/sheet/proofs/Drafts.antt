-- The items that the code holds, and the sheet that they are. Assumes nothing.
use Rattle.std.proofs.Common.{◌≡◌, ℕ, Bool, true, false, cond, not, ◌&&◌, ◌||◌, eqb, nat_lt, List, [], ◌∷◌, length, map, filter, refl, sym, ap, arith}
use Rattle.std.proofs.lemmas.Bool.{lt-ltb}
use Rattle.std.specs.List.{list_any}
use Rattle.words.specs.Lists.{any}
use Rattle.words.specs.Words.{empty}
use Rattle.sheet.specs.declared.parts.BackEdge.{BackEdge}
use Rattle.sheet.specs.Drafts.{backs_of}

-- the test over a list is the library's
pub any_is : {A : Type 0} (p : A → Bool) (xs : List A) → any p xs ≡ list_any p xs
any_is p [] = refl
any_is p (x ∷ xs) = ap (λ b. p x || b) (any_is p xs)

-- a test passes somewhere exactly when what passes it is counted above 0
pub any_count : {A : Type 0} (p : A → Bool) (xs : List A) → any p xs ≡ nat_lt 0 (length (filter p xs))
any_count p [] = refl
any_count p (x ∷ xs) = go (p x) (any_count p xs)
  where
    go : (t : Bool) → any p xs ≡ nat_lt 0 (length (filter p xs))
        → (t || any p xs) ≡ nat_lt 0 (length (cond t (x ∷ filter p xs) (filter p xs)))
    go true e = sym (lt-ltb _ _ (omega arith))
    go false e = e

-- tests over the back edges of a loop
module _ (s k : ℕ) where
  pub any_backs : (bs : List BackEdge) → any (eqb s) (backs_of bs k) ≡ any (λ b. eqb b.owner k && eqb s b.source) bs
  any_backs [] = refl
  any_backs (b ∷ bs) = go (eqb b.owner k) (any_backs bs)
    where
      go : (t : Bool) → any (eqb s) (backs_of bs k) ≡ any (λ b. eqb b.owner k && eqb s b.source) bs
          → any (eqb s) (map (λ b. b.source) (cond t (b ∷ filter (λ b. eqb b.owner k) bs) (filter (λ b. eqb b.owner k) bs)))
          ≡ ((t && eqb s b.source) || any (λ b. eqb b.owner k && eqb s b.source) bs)
      go true e = ap (λ r. eqb s b.source || r) e
      go false e = e

pub some_back : (k : ℕ) (bs : List BackEdge) → not (empty (backs_of bs k)) ≡ any (λ b. eqb b.owner k) bs
some_back k [] = refl
some_back k (b ∷ bs) = go (eqb b.owner k) (some_back k bs)
  where
    go : (t : Bool) → not (empty (backs_of bs k)) ≡ any (λ b. eqb b.owner k) bs
        → not (empty (map (λ b. b.source) (cond t (b ∷ filter (λ b. eqb b.owner k) bs) (filter (λ b. eqb b.owner k) bs)))) ≡ (t || any (λ b. eqb b.owner k) bs)
    go true e = refl
    go false e = e
