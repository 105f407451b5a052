-- Lists in strict order. Assumes nothing.
use Rattle.std.proofs.Common.{ℕ, zero, suc, ◌<◌, Bool, true, false, cond, List, [], ◌∷◌, ◌++◌, map, length, get_or, filter, le_of_suc-le-suc, not-suc-le-zero, arith}
use Rattle.std.specs.List.{ContainsAt as Has, AllByRecursion}
use Rattle.std.proofs.ByRecursion.{All-from_get_or, All-get_or, All-append, All-weaker, All-map, all_kept_by, all_has_itself}
use Rattle.words.specs.Lists.{up_from, below, joined}
use Rattle.words.proofs.Lists.{all_up_from}

module _ {A : Type 0} (R : A → A → Type 0) where
  -- each element is in order with all after it
  abbrev pub Sorted : List A → Type 0
  Sorted [] = Unit {0}
  Sorted (x ∷ xs) = AllByRecursion (R x) xs × Sorted xs

  pub sorted_from : (xs : List A) → ((i j : ℕ) (d : A) → i < j → j < length xs → R (get_or xs i d) (get_or xs j d)) → Sorted xs
  sorted_from [] h = tt
  sorted_from (x ∷ xs) h = (
    All-from_get_or (R x) xs x (λ i l. h 0 (suc i) x (omega arith) (omega arith)),
    sorted_from xs (λ i j d l u. h (suc i) (suc j) d (omega arith) (omega arith)),
  )

  pub sorted_at : (xs : List A) → Sorted xs → (i j : ℕ) (d : A) → i < j → j < length xs → R (get_or xs i d) (get_or xs j d)
  sorted_at [] s i j d l u = absurd (not-suc-le-zero u)
  sorted_at (x ∷ xs) s zero zero d l u = absurd (omega arith)
  sorted_at (x ∷ xs) s zero (suc j) d l u = All-get_or (R x) xs j d (le_of_suc-le-suc u) s.0
  sorted_at (x ∷ xs) s (suc i) zero d l u = absurd (omega arith)
  sorted_at (x ∷ xs) s (suc i) (suc j) d l u = sorted_at xs s.1 i j d (le_of_suc-le-suc l) (le_of_suc-le-suc u)

  pub sorted_++ : (xs ys : List A) → Sorted xs → Sorted ys → AllByRecursion (λ x. AllByRecursion (R x) ys) xs → Sorted (xs ++ ys)
  sorted_++ [] ys s t h = t
  sorted_++ (x ∷ xs) ys s t h = (All-append (R x) xs ys s.0 h.0, sorted_++ xs ys s.1 t h.1)

  pub sorted_kept : (p : A → Bool) (xs : List A) → Sorted xs → Sorted (filter p xs)
  sorted_kept p [] s = tt
  sorted_kept p (x ∷ xs) s = go (p x) (sorted_kept p xs s.1)
    where
      go : (b : Bool) → Sorted (filter p xs) → Sorted (cond b (x ∷ filter p xs) (filter p xs))
      go true t = (all_kept_by p (R x) xs s.0, t)
      go false t = t

-- a weaker order
pub sorted_weaker : {A : Type 0} (R Q : A → A → Type 0) (P : A → Type 0) → ((x y : A) → P x → P y → R x y → Q x y) → (xs : List A)
    → AllByRecursion P xs → Sorted R xs → Sorted Q xs
sorted_weaker R Q P f [] h s = tt
sorted_weaker R Q P f (x ∷ xs) h s = (go xs h.1 s.0, sorted_weaker R Q P f xs h.1 s.1)
  where
    go : (ys : List _) → AllByRecursion P ys → AllByRecursion (R x) ys → AllByRecursion (Q x) ys
    go [] k r = tt
    go (y ∷ ys) k r = (f x y h.0 k.0 r.0, go ys k.1 r.1)

pub sorted_map : {A B : Type 0} (R : B → B → Type 0) (f : A → B) (xs : List A) → Sorted (λ x y. R (f x) (f y)) xs → Sorted R (map f xs)
sorted_map R f [] s = tt
sorted_map R f (x ∷ xs) s = (All-map (R (f x)) f xs s.0, sorted_map R f xs s.1)

pub all_joined : {A B : Type 0} (P : B → Type 0) (f : A → List B) (xs : List A) → AllByRecursion (λ x. AllByRecursion P (f x)) xs → AllByRecursion P (joined f xs)
all_joined P f [] h = tt
all_joined P f (x ∷ xs) h = All-append P (f x) (joined f xs) h.0 (all_joined P f xs h.1)

-- lists in order, one after another
pub sorted_joined : {A B : Type 0} (R : B → B → Type 0) (f : A → List B) (xs : List A)
    → Sorted (λ x y. (a : B) → Has (f x) a → AllByRecursion (R a) (f y)) xs → AllByRecursion (λ x. Sorted R (f x)) xs → Sorted R (joined f xs)
sorted_joined R f [] s h = tt
sorted_joined R f (x ∷ xs) s h = sorted_++ R (f x) (joined f xs) h.0 (sorted_joined R f xs s.1 h.1)
    (All-weaker _ _ (λ a i. all_joined (R a) f xs (All-weaker _ _ (λ y r. r a i) xs s.0)) (f x) (all_has_itself (f x)))

sorted_up : (i n : ℕ) → Sorted ◌<◌ (up_from i n)
sorted_up i zero = tt
sorted_up i (suc n) = (all_up_from (λ k. i < k) (suc i) n (λ k l u. l), sorted_up (suc i) n)

pub sorted_below : (n : ℕ) → Sorted ◌<◌ (below n)
sorted_below n = sorted_up 0 n
