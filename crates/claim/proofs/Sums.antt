-- Sums over lists. Assumes nothing.
use Rattle.std.proofs.Common.{◌≡◌, ℕ, ◌+◌, ◌*◌, Bool, true, false, cond, List, [], ◌∷◌, ◌++◌, map, ℤ, pos, ◌+ℤ◌, ◌-ℤ◌, ◌*ℤ◌, neg_ℤ, sum_by, count_by, refl, ap, ◌∙◌, arith}
use Rattle.std.proofs.lemmas.Int.{ints}
use Rattle.std.proofs.lemmas.List.Sums.{sum_by-cons}
use Rattle.words.proofs.Lists.{count}
use Rattle.sheet.specs.Rows.{one_if}

abbrev pub sum_nat : {A : Type 0} → (A → ℕ) → List A → ℕ
sum_nat f [] = 0
sum_nat f (x ∷ xs) = f x + sum_nat f xs

abbrev pub sum_int : {A : Type 0} → (A → ℤ) → List A → ℤ
sum_int f [] = pos 0
sum_int f (x ∷ xs) = f x +ℤ sum_int f xs

pub count_is : {A : Type 0} (p : A → Bool) (xs : List A) → count_by p xs ≡ count p xs
count_is p [] = refl
count_is p (x ∷ xs) = sum_by-cons (λ x. cond (p x) 1 0) x xs ∙ ap (λ n. cond (p x) 1 0 + n) (count_is p xs)

pub sum_nat_is : {A : Type 0} (f : A → ℕ) (xs : List A) → sum_by f xs ≡ sum_nat f xs
sum_nat_is f [] = refl
sum_nat_is f (x ∷ xs) = sum_by-cons f x xs ∙ ap (λ n. f x + n) (sum_nat_is f xs)

pub sum_nat_++ : {A : Type 0} (f : A → ℕ) (xs ys : List A) → sum_nat f (xs ++ ys) ≡ sum_nat f xs + sum_nat f ys
sum_nat_++ f [] ys = omega arith
sum_nat_++ f (x ∷ xs) ys = omega (arith, sum_nat_++ f xs ys)

pub sum_nat_map : {A B : Type 0} (f : B → ℕ) (g : A → B) (xs : List A) → sum_nat f (map g xs) ≡ sum_nat (λ x. f (g x)) xs
sum_nat_map f g [] = refl
sum_nat_map f g (x ∷ xs) = ap (λ n. f (g x) + n) (sum_nat_map f g xs)

pub sum_nat_none : {A : Type 0} (xs : List A) → sum_nat (λ x. 0) xs ≡ 0
sum_nat_none [] = refl
sum_nat_none (x ∷ xs) = omega (arith, sum_nat_none xs)

pub count_++ : {A : Type 0} (p : A → Bool) (xs ys : List A) → count p (xs ++ ys) ≡ count p xs + count p ys
count_++ p [] ys = omega arith
count_++ p (x ∷ xs) ys = omega (arith, count_++ p xs ys)

pub sum_int_++ : {A : Type 0} (f : A → ℤ) (xs ys : List A) → sum_int f (xs ++ ys) ≡ sum_int f xs +ℤ sum_int f ys
sum_int_++ f [] ys = omega (arith, ints)
sum_int_++ f (x ∷ xs) ys = omega (arith, ints, sum_int_++ f xs ys)

pub sum_int_map : {A B : Type 0} (f : B → ℤ) (g : A → B) (xs : List A) → sum_int f (map g xs) ≡ sum_int (λ x. f (g x)) xs
sum_int_map f g [] = refl
sum_int_map f g (x ∷ xs) = ap (λ z. f (g x) +ℤ z) (sum_int_map f g xs)

pub sum_int_none : {A : Type 0} (xs : List A) → sum_int (λ x. pos 0) xs ≡ pos 0
sum_int_none [] = refl
sum_int_none (x ∷ xs) = omega (arith, ints, sum_int_none xs)

pub sum_int_one : {A : Type 0} (p : A → Bool) (xs : List A) → sum_int (λ x. one_if (p x)) xs ≡ pos (count p xs)
sum_int_one p [] = refl
sum_int_one p (x ∷ xs) = by (p x) (sum_int_one p xs)
  where
    by : (b : Bool) {s : ℤ} {n : ℕ} → s ≡ pos n → one_if b +ℤ s ≡ pos (cond b 1 0 + n)
    by true e = omega (arith, ints)
    by false e = omega (arith, ints)

pub sum_int_neg : {A : Type 0} (p : A → Bool) (xs : List A) → sum_int (λ x. neg_ℤ (one_if (p x))) xs ≡ neg_ℤ (pos (count p xs))
sum_int_neg p [] = refl
sum_int_neg p (x ∷ xs) = by (p x) (count p xs) (sum_int_neg p xs)
  where
    by : (b : Bool) {s : ℤ} (n : ℕ) → s ≡ neg_ℤ (pos n) → neg_ℤ (one_if b) +ℤ s ≡ neg_ℤ (pos (cond b 1 0 + n))
    by true n e = omega (arith, ints)
    by false n e = omega (arith, ints)

pub sum_int_ratio : {A : Type 0} (p : A → Bool) (k : ℕ) (q : A → Bool) (xs : List A)
    → sum_int (λ x. one_if (p x) -ℤ (pos k *ℤ one_if (q x))) xs ≡ pos (count p xs) -ℤ pos (k * count q xs)
sum_int_ratio p k q [] = omega (arith, ints)
sum_int_ratio p k q (x ∷ xs) = by (p x) (q x) (count p xs) (count q xs) (sum_int_ratio p k q xs)
  where
    by : (a b : Bool) {s : ℤ} (m n : ℕ) → s ≡ pos m -ℤ pos (k * n) → (one_if a -ℤ (pos k *ℤ one_if b)) +ℤ s ≡ pos (cond a 1 0 + m) -ℤ pos (k * (cond b 1 0 + n))
    by true true m n e = omega (arith, ints)
    by true false m n e = omega (arith, ints)
    by false true m n e = omega (arith, ints)
    by false false m n e = omega (arith, ints)
