-- For code: a search for the first element that fails a test. Assumes nothing.
use Rattle.std.proofs.Common.{◌≡◌, ℕ, zero, suc, ◌+◌, ◌<◌, ◌≤◌, Bool, true, false, cond, List, [], ◌∷◌, ◌++◌, map, length, get_or, Some, None, Option, sym, refl, ap, ◌∙◌, subst, le_of_suc-le-suc, not-suc-le-zero, zero-add, arith}
use denote.Param.Members.{Mut}
use denote.Ref.{Bor}
use Rattle.std.specs.declared.ops.Range.{Range}
use Rattle.std.specs.Bool.{⊤}
use Rattle.std.specs.Fn.{CalledAt}
use Rattle.std.specs.Iterator.{YieldsThen}
use Rattle.std.specs.List.{prefix_len, FoldsTo, AllWithin, HoldsAt}
use Rattle.std.proofs.iter.Yields.{nat_range_steps}
use Rattle.std.proofs.lemmas.Iterator.{first_from_Range}
use Rattle.std.specs.Option.{MatchOption, option_map}
use Rattle.std.proofs.lemmas.List.{get_or-map, length-map, length-append}
use Rattle.std.proofs.lemmas.List.Sums.{prefix_len_is}
use Rattle.words.specs.Lists.{up_from, below}
use Rattle.words.proofs.Lists.{length-below}
use Rattle.claim.specs.Shares.{FirstLow}

-- the numbers below n, and what is made of them
get_or-up : (i n k : ℕ) → k < n → get_or (up_from i n) k 0 ≡ i + k
get_or-up i zero k h = absurd (not-suc-le-zero h)
get_or-up i (suc n) zero h = omega arith
get_or-up i (suc n) (suc k) h = get_or-up (suc i) n k (le_of_suc-le-suc h) ∙ omega arith

pub get_or-each : {A : Type 0} (g : ℕ → A) (n k : ℕ) (d : A) → k < n → get_or (map g (below n)) k d ≡ g k
get_or-each g n k d h = get_or-map g (below n) k 0 d (subst (λ m. k < m) (sym (length-below n)) h) ∙ ap g (get_or-up 0 n k h ∙ zero-add k)

pub length-each : {A : Type 0} (g : ℕ → A) (n : ℕ) → length (map g (below n)) ≡ n
length-each g n = length-map (below n) g ∙ length-below n

-- a search by `find` through the places below n, where the element at place k passes if t k
module _ {A F : Type 0} (g : Mut F (Bor ℕ × Unit {0}) Bool) (p : A → Bool) (u : Range ℕ) (c : F) (r : Option ℕ) where
  abbrev Found : ℕ → Type 0
  Found n =
      (ks : List ℕ) × (j : F) × YieldsThen nat_range_steps (record { start = 0; end = n }) ks r u × FoldsTo (λ f k e. CalledAt g f k false e) c ks j × MatchOption r ⊤ (λ k. (e : F) × CalledAt g j k true e)

  abbrev Tests : (ℕ → Bool) → Type 0
  Tests t = ((k : ℕ) (e : F) → CalledAt g c k true e → t k ≡ false) × ((k : ℕ) (e : F) → CalledAt g c k false e → (e ≡ c) × (t k ≡ true))

  pub low_at : (xs : List A) (d : A) (t : ℕ → Bool) (n : ℕ) → n ≡ length xs → ((k : ℕ) → k < n → p (get_or xs k d) ≡ t k) → Found n → Tests t → FirstLow p xs r
  low_at xs d t n q same ran tests = go r (first_from_Range _ u c r (λ k. t k ≡ false) (λ k. t k ≡ true) ran tests.0 tests.1)
    where
      go : (r : Option ℕ) → MatchOption r ((k : ℕ) → 0 ≤ k → k < n → t k ≡ true) (λ i. (0 ≤ i) × (i < n) × (t i ≡ false) × ((k : ℕ) → 0 ≤ k → k < i → t k ≡ true)) → FirstLow p xs r
      go None h = prefix_len_is p xs (length xs) d (omega arith) (λ k l. let m : k < n = omega arith in same k m ∙ h k (omega arith) m) (λ l. absurd (omega arith))
      go (Some i) h =
          let l : i < length xs = omega (arith, h.1) in
          (prefix_len_is p xs i d (omega arith) (λ k m. same k (omega (arith, h.1)) ∙ h.3 k (omega arith) m) (λ m. same i h.1 ∙ h.2), l)

  pub low_each : (f : ℕ → A) (m n : ℕ) → n ≡ m → Found n → Tests (λ k. p (f k)) → FirstLow p (map f (below m)) r
  low_each f m n e = low_at (map f (below m)) (f 0) (λ k. p (f k)) n (e ∙ sym (length-each f m)) (λ k l. ap p (get_or-each f m k (f 0) (omega arith)))

-- a search by `position` through what is mapped
module _ {A B : Type 0} (p : A → Bool) (f : B → A) (xs : List B) (d : B) where
  abbrev High : B → Type 0
  High x = p (f x) ≡ true

  pub low_mapped : (r : Option ℕ) → MatchOption r (AllWithin High xs 0 (length xs)) (λ i. (i < length xs) × HoldsAt (λ x. p (f x) ≡ false) xs i × AllWithin High xs 0 i) → FirstLow p (map f xs) r
  low_mapped None h = prefix_len_is p (map f xs) (length (map f xs)) (f d) (omega arith) (λ k l. let m : k < length xs = omega (arith, l, length-map xs f) in ap p (get_or-map f xs k d (f d) m) ∙ h k d (omega arith) m) (λ l. absurd (omega arith))
  low_mapped (Some i) h =
      let l : i < length (map f xs) = omega (arith, h.0, length-map xs f) in
      (prefix_len_is p (map f xs) i (f d) (omega (arith, l)) (λ k m. ap p (get_or-map f xs k d (f d) (omega (arith, h.0))) ∙ h.2 k d (omega arith) m) (λ m. ap p (get_or-map f xs i d (f d) h.0) ∙ h.1 d), l)

-- one list after another
pub leading_on : {A : Type 0} (p : A → Bool) (xs ys : List A) → prefix_len p xs ≡ length xs → prefix_len p (xs ++ ys) ≡ length xs + prefix_len p ys
leading_on p [] ys e = sym (zero-add (prefix_len p ys))
leading_on p (x ∷ xs) ys e = go (p x) e (leading_on p xs ys)
  where
    go : (b : Bool) → cond b (1 + prefix_len p xs) 0 ≡ suc (length xs) → (prefix_len p xs ≡ length xs → prefix_len p (xs ++ ys) ≡ length xs + prefix_len p ys)
        → cond b (1 + prefix_len p (xs ++ ys)) 0 ≡ suc (length xs) + prefix_len p ys
    go true e h = let k = h (omega arith) in omega arith
    go false e h = absurd (omega arith)

pub leading_in : {A : Type 0} (p : A → Bool) (xs ys : List A) → prefix_len p xs < length xs → prefix_len p (xs ++ ys) ≡ prefix_len p xs
leading_in p [] ys h = absurd (not-suc-le-zero h)
leading_in p (x ∷ xs) ys h = go (p x) h (leading_in p xs ys)
  where
    go : (b : Bool) → cond b (1 + prefix_len p xs) 0 < suc (length xs) → (prefix_len p xs < length xs → prefix_len p (xs ++ ys) ≡ prefix_len p xs)
        → cond b (1 + prefix_len p (xs ++ ys)) 0 ≡ cond b (1 + prefix_len p xs) 0
    go true e h = let k = h (omega arith) in omega arith
    go false e h = refl

pub low_first : {A : Type 0} (p : A → Bool) (xs ys : List A) (k : ℕ) → FirstLow p xs (Some k) → FirstLow p (xs ++ ys) (Some k)
low_first p xs ys k h = (leading_in p xs ys (omega (arith, h.0, h.1)) ∙ h.0, omega (arith, h.1, length-append xs ys))

pub low_then : {A : Type 0} (p : A → Bool) (xs ys : List A) (k n : ℕ) → n ≡ length xs → FirstLow p xs None → FirstLow p ys (Some k) → FirstLow p (xs ++ ys) (Some (n + k))
low_then p xs ys k n e g h = (leading_on p xs ys g ∙ omega (arith, h.0), omega (arith, h.1, length-append xs ys))

pub low_none : {A : Type 0} (p : A → Bool) (xs ys : List A) → FirstLow p xs None → FirstLow p ys None → FirstLow p (xs ++ ys) None
low_none p xs ys g h = leading_on p xs ys g ∙ omega (arith, h, length-append xs ys)

-- four lists one after another
module _ {A : Type 0} (p : A → Bool) (xs ys zs us : List A) where
  pub low_in_first : (k : ℕ) → FirstLow p xs (Some k) → FirstLow p (xs ++ ys ++ zs ++ us) (Some k)
  low_in_first k h = low_first p (xs ++ ys ++ zs) us k (low_first p (xs ++ ys) zs k (low_first p xs ys k h))

  module _ (f : FirstLow p xs None) where
    pub low_in_second : (k n : ℕ) → n ≡ length xs → FirstLow p ys (Some k) → FirstLow p (xs ++ ys ++ zs ++ us) (Some (n + k))
    low_in_second k n e h = low_first p (xs ++ ys ++ zs) us (n + k) (low_first p (xs ++ ys) zs (n + k) (low_then p xs ys k n e f h))

    module _ (g : FirstLow p ys None) where
      pub low_in_third : (k n : ℕ) → n ≡ length xs + length ys → FirstLow p zs (Some k) → FirstLow p (xs ++ ys ++ zs ++ us) (Some (n + k))
      low_in_third k n e h = low_first p (xs ++ ys ++ zs) us (n + k) (low_then p (xs ++ ys) zs k n (omega (arith, length-append xs ys)) (low_none p xs ys f g) h)

      pub low_in_fourth : (n : ℕ) → n ≡ length xs + length ys + length zs → FirstLow p zs None → (r : Option ℕ) → FirstLow p us r → FirstLow p (xs ++ ys ++ zs ++ us) (option_map (λ k. n + k) r)
      low_in_fourth n e i None h = low_none p (xs ++ ys ++ zs) us (low_none p (xs ++ ys) zs (low_none p xs ys f g) i) h
      low_in_fourth n e i (Some k) h = low_then p (xs ++ ys ++ zs) us k n (omega (arith, length-append xs ys, length-append (xs ++ ys) zs)) (low_none p (xs ++ ys) zs (low_none p xs ys f g) i) h
