-- Sums of values times multipliers: parts of them, and those that pick out some of the multipliers. Assumes nothing.
use Rattle.std.proofs.Common.{◌≡◌, ℕ, zero, suc, ◌+◌, ◌<◌, ◌≤◌, Bool, true, false, cond, eqb, ◌⊎◌, List, [], ◌∷◌, ◌++◌, map, length, get_or, take, drop, ℤ, pos, ◌+ℤ◌, ◌*ℤ◌, neg_ℤ, filter, sym, refl, ap, ◌∙◌, subst, ap₂, inl, inr, le_of_suc-le-suc, not-suc-le-zero, add-zero, add-one, arith}
use Rattle.std.proofs.lemmas.Int.{ints}
use Rattle.std.proofs.lemmas.Bool.{eq-eqb, ne_eqb}
use Rattle.words.specs.Lists.{up_from}
use Rattle.sheet.specs.Rows.{one_if}
use Rattle.claim.specs.Certificate.{combined}
use Rattle.claim.specs.Shares.{total}
use Rattle.claim.proofs.Ints.{*ℤ-negℤ}

pub combined_++ : {A : Type 0} (ys zs : List ℤ) (xs ws : List A) (f : A → ℤ) → length ys ≡ length xs → combined (ys ++ zs) (xs ++ ws) f ≡ combined ys xs f +ℤ combined zs ws f
combined_++ [] zs [] ws f e = omega (arith, ints)
combined_++ [] zs (x ∷ xs) ws f e = absurd (omega arith)
combined_++ (y ∷ ys) zs [] ws f e = absurd (omega arith)
combined_++ (y ∷ ys) zs (x ∷ xs) ws f e = omega (arith, ints, combined_++ ys zs xs ws f (omega arith))

pub combined_map : {A B : Type 0} (ys : List ℤ) (g : A → B) (xs : List A) (f : B → ℤ) → combined ys (map g xs) f ≡ combined ys xs (λ x. f (g x))
combined_map [] g xs f = refl
combined_map (y ∷ ys) g [] f = refl
combined_map (y ∷ ys) g (x ∷ xs) f = ap (λ z. (y *ℤ f (g x)) +ℤ z) (combined_map ys g xs f)

pub combined_none : {A : Type 0} (ys : List ℤ) (xs : List A) → combined ys xs (λ x. pos 0) ≡ pos 0
combined_none [] xs = refl
combined_none (y ∷ ys) [] = refl
combined_none (y ∷ ys) (x ∷ xs) = omega (arith, ints, combined_none ys xs)

pub combined_same : {A : Type 0} (ys : List ℤ) (xs : List A) (f g : A → ℤ) → ((x : A) → f x ≡ g x) → combined ys xs f ≡ combined ys xs g
combined_same [] xs f g h = refl
combined_same (y ∷ ys) [] f g h = refl
combined_same (y ∷ ys) (x ∷ xs) f g h = ap₂ (λ a b. (y *ℤ a) +ℤ b) (h x) (combined_same ys xs f g h)

pub combined_neg : {A : Type 0} (ys : List ℤ) (xs : List A) (f : A → ℤ) → combined ys xs (λ x. neg_ℤ (f x)) ≡ neg_ℤ (combined ys xs f)
combined_neg [] xs f = refl
combined_neg (y ∷ ys) [] f = refl
combined_neg (y ∷ ys) (x ∷ xs) f = omega (arith, ints, combined_neg ys xs f, *ℤ-negℤ y (f x))

pub combined_ones : {A : Type 0} (ys : List ℤ) (xs : List A) → length ys ≡ length xs → combined ys xs (λ x. pos 1) ≡ total ys
combined_ones [] xs e = refl
combined_ones (y ∷ ys) [] e = absurd (omega arith)
combined_ones (y ∷ ys) (x ∷ xs) e = omega (arith, ints, combined_ones ys xs (omega arith))

nothing : (n f : ℕ) → total (take n (drop f [])) ≡ pos 0
nothing zero zero = refl
nothing zero (suc f) = refl
nothing (suc n) zero = refl
nothing (suc n) (suc f) = refl

-- the values 1 from place f on, n times, and 0 elsewhere
pub in_range : (g : ℕ → Bool) (ys : List ℤ) (i f n : ℕ) → ((k : ℕ) → i + f ≤ k → k < i + f + n → g k ≡ true) → ((k : ℕ) → i ≤ k → k < i + length ys → (k < i + f) ⊎ (i + f + n ≤ k) → g k ≡ false)
    → combined ys (up_from i (length ys)) (λ k. one_if (g k)) ≡ total (take n (drop f ys))
in_range g [] i f n p q = sym (nothing n f)
in_range g (y ∷ ys) i (suc f) n p q =
    ap₂ (λ t z. (y *ℤ one_if t) +ℤ z) (q i (omega arith) (omega arith) (inl (omega arith)))
    (in_range g ys (suc i) f n (λ k a b. p k (omega arith) (omega arith)) (λ k a b c. q k (omega arith) (omega arith) (shift k c)))
    ∙ omega (arith, ints)
  where
    shift : (k : ℕ) → (k < suc i + f) ⊎ (suc i + f + n ≤ k) → (k < i + suc f) ⊎ (i + suc f + n ≤ k)
    shift k (inl a) = inl (omega arith)
    shift k (inr a) = inr (omega arith)
in_range g (y ∷ ys) i zero zero p q =
    ap₂ (λ t z. (y *ℤ one_if t) +ℤ z) (q i (omega arith) (omega arith) (inr (omega arith)))
    (in_range g ys (suc i) zero zero (λ k a b. p k (omega arith) (omega arith)) (λ k a b c. q k (omega arith) (omega arith) (inr (omega arith))))
    ∙ omega (arith, ints)
in_range g (y ∷ ys) i zero (suc n) p q =
    ap₂ (λ t z. (y *ℤ one_if t) +ℤ z) (p i (omega arith) (omega arith))
    (in_range g ys (suc i) zero n (λ k a b. p k (omega arith) (omega arith)) (λ k a b c. q k (omega arith) (omega arith) (shift k a c)))
    ∙ omega (arith, ints)
  where
    shift : (k : ℕ) → suc i ≤ k → (k < suc i + zero) ⊎ (suc i + zero + n ≤ k) → (k < i + zero) ⊎ (i + zero + suc n ≤ k)
    shift k a (inl b) = absurd (omega arith)
    shift k a (inr b) = inr (omega arith)

total_one : (ys : List ℤ) (a : ℕ) → total (take 1 (drop a ys)) ≡ get_or ys a (pos 0)
total_one [] zero = refl
total_one [] (suc a) = refl
total_one (y ∷ ys) zero = omega (arith, ints)
total_one (y ∷ ys) (suc a) = total_one ys a

-- the value 1 at place a, and 0 elsewhere
pub at_one : (ys : List ℤ) (a : ℕ) → combined ys (up_from 0 (length ys)) (λ k. one_if (eqb k a)) ≡ get_or ys a (pos 0)
at_one ys a =
    in_range (λ k. eqb k a) ys 0 a 1 (λ k p q. eq-eqb k a (omega arith)) (λ k p q r. ne_eqb k a (apart k r)) ∙ total_one ys a
  where
    apart : (k : ℕ) → (k < 0 + a) ⊎ (0 + a + 1 ≤ k) → k ≡ a → ⊥
    apart k (inl h) e = omega arith
    apart k (inr h) e = omega arith

-- the value 1 at the element i + d of those from i on that pass a test
none_later : (p : ℕ → Bool) (ys : List ℤ) (i n t : ℕ) → t < i → combined ys (filter p (up_from i n)) (λ s. one_if (eqb s t)) ≡ pos 0
none_later p [] i n t h = refl
none_later p (y ∷ ys) i zero t h = refl
none_later p (y ∷ ys) i (suc n) t h = go (p i) (none_later p ys (suc i) n t (omega arith)) (none_later p (y ∷ ys) (suc i) n t (omega arith))
  where
    go : (b : Bool) → combined ys (filter p (up_from (suc i) n)) (λ s. one_if (eqb s t)) ≡ pos 0 → combined (y ∷ ys) (filter p (up_from (suc i) n)) (λ s. one_if (eqb s t)) ≡ pos 0
        → combined (y ∷ ys) (cond b (i ∷ filter p (up_from (suc i) n)) (filter p (up_from (suc i) n))) (λ s. one_if (eqb s t)) ≡ pos 0
    go true u v = ap₂ (λ b z. (y *ℤ one_if b) +ℤ z) (ne_eqb i t (λ e. omega arith)) u ∙ omega (arith, ints)
    go false u v = v

pub at_kept : (p : ℕ → Bool) (ys : List ℤ) (i n d : ℕ) → d < n → p (i + d) ≡ true
    → combined ys (filter p (up_from i n)) (λ s. one_if (eqb s (i + d))) ≡ get_or ys (length (filter p (up_from i d))) (pos 0)
at_kept p [] i n d h e = sym (none_at (length (filter p (up_from i d))))
  where
    none_at : (k : ℕ) → get_or [] k (pos 0) ≡ pos 0
    none_at k = refl
at_kept p (y ∷ ys) i zero d h e = absurd (omega arith)
at_kept p (y ∷ ys) i (suc n) zero h e =
    ap (λ b. combined (y ∷ ys) (cond b (i ∷ filter p (up_from (suc i) n)) (filter p (up_from (suc i) n))) (λ s. one_if (eqb s (i + 0)))) (ap p (sym (add-zero i)) ∙ e)
    ∙ ap₂ (λ b z. (y *ℤ one_if b) +ℤ z) (eq-eqb i (i + 0) (omega arith)) (none_later p ys (suc i) n (i + 0) (omega arith))
    ∙ omega (arith, ints)
at_kept p (y ∷ ys) i (suc n) (suc d) h e =
    go (p i) (moved ys (at_kept p ys (suc i) n d (omega arith) (ap p (omega arith) ∙ e))) (moved (y ∷ ys) (at_kept p (y ∷ ys) (suc i) n d (omega arith) (ap p (omega arith) ∙ e)))
  where
    moved : (zs : List ℤ) → combined zs (filter p (up_from (suc i) n)) (λ s. one_if (eqb s (suc i + d))) ≡ get_or zs (length (filter p (up_from (suc i) d))) (pos 0)
        → combined zs (filter p (up_from (suc i) n)) (λ s. one_if (eqb s (i + suc d))) ≡ get_or zs (length (filter p (up_from (suc i) d))) (pos 0)
    moved zs u = subst (λ t. combined zs (filter p (up_from (suc i) n)) (λ s. one_if (eqb s t)) ≡ get_or zs (length (filter p (up_from (suc i) d))) (pos 0)) (omega arith) u

    go : (b : Bool) → combined ys (filter p (up_from (suc i) n)) (λ s. one_if (eqb s (i + suc d))) ≡ get_or ys (length (filter p (up_from (suc i) d))) (pos 0)
        → combined (y ∷ ys) (filter p (up_from (suc i) n)) (λ s. one_if (eqb s (i + suc d))) ≡ get_or (y ∷ ys) (length (filter p (up_from (suc i) d))) (pos 0)
        → combined (y ∷ ys) (cond b (i ∷ filter p (up_from (suc i) n)) (filter p (up_from (suc i) n))) (λ s. one_if (eqb s (i + suc d)))
        ≡ get_or (y ∷ ys) (length (cond b (i ∷ filter p (up_from (suc i) d)) (filter p (up_from (suc i) d)))) (pos 0)
    go true u v = ap₂ (λ b z. (y *ℤ one_if b) +ℤ z) (ne_eqb i (i + suc d) (λ e. omega arith)) u ∙ omega (arith, ints)
    go false u v = v

-- one more
combined_suc : {A : Type 0} (ys : List ℤ) (xs : List A) (f : A → ℤ) (i : ℕ) (e : A) → i < length ys → i < length xs
    → combined (take (suc i) ys) (take (suc i) xs) f ≡ combined (take i ys) (take i xs) f +ℤ (get_or ys i (pos 0) *ℤ f (get_or xs i e))
combined_suc [] xs f i e l u = absurd (not-suc-le-zero l)
combined_suc (y ∷ ys) [] f i e l u = absurd (not-suc-le-zero u)
combined_suc (y ∷ ys) (x ∷ xs) f zero e l u = omega (arith, ints)
combined_suc (y ∷ ys) (x ∷ xs) f (suc i) e l u = omega (arith, ints, combined_suc ys xs f i e (le_of_suc-le-suc l) (le_of_suc-le-suc u))

pub combined_more : {A : Type 0} (ys : List ℤ) (xs : List A) (f : A → ℤ) (i : ℕ) (e : A) → i < length ys → i < length xs
    → combined (take (i + 1) ys) (take (i + 1) xs) f ≡ combined (take i ys) (take i xs) f +ℤ (get_or ys i (pos 0) *ℤ f (get_or xs i e))
combined_more ys xs f i e l u = rw add-one (combined_suc ys xs f i e l u)
