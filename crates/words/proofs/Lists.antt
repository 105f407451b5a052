-- What the proofs use of lists. Assumes nothing.
use Rattle.std.proofs.Common.{◌≡◌, ℕ, zero, suc, ◌+◌, ◌<◌, ◌≤◌, Bool, true, false, cond, not, ◌&&◌, ◌||◌, eqb, List, [], ◌∷◌, ◌++◌, map, length, get_or, filter, sym, refl, ap, ◌∙◌, subst, ⊎_elim, le_of_suc-le-suc, not-suc-le-zero, arith}
use Rattle.std.specs.List.{ContainsAt as Has, AllByRecursion}
use Rattle.std.proofs.lemmas.Bool.{cases_eq, ne_eqb, eq-eqb, or_left, or_right, or_parts, false≢true}
use Rattle.std.proofs.lemmas.List.{append-nil, append_assoc}
use Rattle.std.proofs.ByRecursion.{all_has_itself, has_append_left, has_append_right}
use Rattle.words.specs.Lists.{up_from, below, any, joined}

-- how many elements pass a test, by recursion
abbrev pub count : {A : Type 0} → (A → Bool) → List A → ℕ
count p [] = 0
count p (x ∷ xs) = cond (p x) 1 0 + count p xs

-- a list that is not empty
pub first_of : {A : Type 0} (xs : List A) → 0 < length xs → (x : A) × (ys : List A) × (xs ≡ x ∷ ys)
first_of [] h = absurd (omega arith)
first_of (x ∷ xs) h = (x, xs, refl)

-- All
pub all_left : {A : Type 0} (P : A → Type 0) (xs ys : List A) → AllByRecursion P (xs ++ ys) → AllByRecursion P xs
all_left P [] ys h = tt
all_left P (x ∷ xs) ys h = (h.0, all_left P xs ys h.1)

pub all_right : {A : Type 0} (P : A → Type 0) (xs ys : List A) → AllByRecursion P (xs ++ ys) → AllByRecursion P ys
all_right P [] ys h = h
all_right P (x ∷ xs) ys h = all_right P xs ys h.1

pub all_unmap : {A B : Type 0} (P : B → Type 0) (f : A → B) (xs : List A) → AllByRecursion P (map f xs) → AllByRecursion (λ x. P (f x)) xs
all_unmap P f [] h = tt
all_unmap P f (x ∷ xs) h = (h.0, all_unmap P f xs h.1)

pub all_up_from : (P : ℕ → Type 0) (i n : ℕ) → ((k : ℕ) → i ≤ k → k < i + n → P k) → AllByRecursion P (up_from i n)
all_up_from P i zero h = tt
all_up_from P i (suc n) h = (h i (omega arith) (omega arith), all_up_from P (suc i) n (λ k l u. h k (omega arith) (omega arith)))

pub all_below : (P : ℕ → Type 0) (n : ℕ) → ((k : ℕ) → k < n → P k) → AllByRecursion P (below n)
all_below P n h = all_up_from P 0 n (λ k l u. h k (omega arith))

up_from_all : (P : ℕ → Type 0) (i n : ℕ) → AllByRecursion P (up_from i n) → (k : ℕ) → i ≤ k → k < i + n → P k
up_from_all P i zero h k l u = absurd (omega arith)
up_from_all P i (suc n) h k l u =
    ⊎_elim (λ e. subst P e h.0) (λ ne. up_from_all P (suc i) n h.1 k (omega arith) (omega arith)) (cases_eq i k)

pub below_all : (P : ℕ → Type 0) (n : ℕ) → AllByRecursion P (below n) → (k : ℕ) → k < n → P k
below_all P n h k u = up_from_all P 0 n h k (omega arith) (omega arith)

pub all_kept : {A : Type 0} (P Q : A → Type 0) (p : A → Bool) → ((x : A) → P x → p x ≡ true → Q x) → (xs : List A) → AllByRecursion P xs → AllByRecursion Q (filter p xs)
all_kept P Q p f [] h = tt
all_kept P Q p f (x ∷ xs) h = go (p x) refl (all_kept P Q p f xs h.1)
  where
    go : (b : Bool) → p x ≡ b → AllByRecursion Q (filter p xs) → AllByRecursion Q (cond b (x ∷ filter p xs) (filter p xs))
    go true e r = (f x h.0 e, r)
    go false e r = r

length-up_from : (i n : ℕ) → length (up_from i n) ≡ n
length-up_from i zero = refl
length-up_from i (suc n) = ap suc (length-up_from (suc i) n)

pub length-below : (n : ℕ) → length (below n) ≡ n
length-below n = length-up_from 0 n

-- Has
pub has_first : {A : Type 0} (x : A) (xs : List A) → Has (x ∷ xs) x
has_first x xs = (0, omega arith, λ d. refl)

pub has_later : {A : Type 0} (x y : A) (xs : List A) → Has xs y → Has (x ∷ xs) y
has_later x y xs h = let l = h.1 in (suc h.0, omega arith, h.2)

pub has_kept : {A : Type 0} (p : A → Bool) (xs : List A) (x : A) → Has xs x → p x ≡ true → Has (filter p xs) x
has_kept p xs x h t = go xs h.0 h.1 (h.2 x)
  where
    keep : (y : _) (ys : List _) (b : Bool) → Has ys x → Has (cond b (y ∷ ys) ys) x
    keep y ys true g = has_later y x ys g
    keep y ys false g = g

    here : (y : _) (ys : List _) (b : Bool) → b ≡ true → y ≡ x → Has (cond b (y ∷ ys) ys) x
    here y ys b e r = rw e (subst (λ z. Has (y ∷ ys) z) r (has_first y ys))

    go : (ys : List _) (k : ℕ) → k < length ys → get_or ys k x ≡ x → Has (filter p ys) x
    go [] k l e = absurd (not-suc-le-zero l)
    go (y ∷ ys) zero l e = here y (filter p ys) (p y) (ap p e ∙ t) e
    go (y ∷ ys) (suc k) l e = keep y (filter p ys) (p y) (go ys k (le_of_suc-le-suc l) e)

pub any_get_or : {A : Type 0} (p : A → Bool) (xs : List A) (k : ℕ) (d : A) → k < length xs → p (get_or xs k d) ≡ true → any p xs ≡ true
any_get_or p [] k d l e = absurd (not-suc-le-zero l)
any_get_or p (x ∷ xs) zero d l e = or_left (p x) (any p xs) e
any_get_or p (x ∷ xs) (suc k) d l e = or_right (p x) (any p xs) (any_get_or p xs k d (le_of_suc-le-suc l) e)

pub any_has : {A : Type 0} (p : A → Bool) (xs : List A) (x : A) → Has xs x → p x ≡ true → any p xs ≡ true
any_has p xs x h t = any_get_or p xs h.0 x h.1 (ap p (h.2 x) ∙ t)

pub any_found : {A : Type 0} (p : A → Bool) (xs : List A) → any p xs ≡ true → (x : A) × Has xs x × (p x ≡ true)
any_found p [] t = absurd (false≢true t)
any_found p (x ∷ xs) t = go (p x) refl t (λ t. any_found p xs t)
  where
    go : (b : Bool) → p x ≡ b → (b || any p xs) ≡ true → (any p xs ≡ true → (y : _) × Has xs y × (p y ≡ true)) → (y : _) × Has (x ∷ xs) y × (p y ≡ true)
    go true e t more = (x, has_first x xs, e)
    go false e t more = let r = more t in (r.0, has_later x r.0 xs r.1, r.2)

pub any_none : {A : Type 0} (p : A → Bool) (xs : List A) → any p xs ≡ false → AllByRecursion (λ x. p x ≡ false) xs
any_none p [] t = tt
any_none p (x ∷ xs) t = let r = or_parts (p x) (any p xs) t in (r.0, any_none p xs r.1)

pub has_map : {A B : Type 0} (f : A → B) (xs : List A) (x : A) → Has xs x → Has (map f xs) (f x)
has_map f xs x h = go xs h.0 h.1 (h.2 x)
  where
    go : (ys : List _) (k : ℕ) → k < length ys → get_or ys k x ≡ x → Has (map f ys) (f x)
    go [] k l e = absurd (not-suc-le-zero l)
    go (y ∷ ys) zero l e = subst (λ z. Has (f y ∷ map f ys) (f z)) e (has_first (f y) (map f ys))
    go (y ∷ ys) (suc k) l e = has_later (f y) (f x) (map f ys) (go ys k (le_of_suc-le-suc l) e)

pub has_below : (n k : ℕ) → k < n → Has (below n) k
has_below n k l = below_all (Has (below n)) n (all_has_itself (below n)) k l

pub has_joined : {A B : Type 0} (f : A → List B) (xs : List A) (x : A) (y : B) → Has xs x → Has (f x) y → Has (joined f xs) y
has_joined f xs x y h i = go xs h.0 h.1 (h.2 x)
  where
    go : (zs : List _) (k : ℕ) → k < length zs → get_or zs k x ≡ x → Has (joined f zs) y
    go [] k l e = absurd (not-suc-le-zero l)
    go (z ∷ zs) zero l e = has_append_left (f z) (joined f zs) y (subst (λ a. Has (f a) y) (sym e) i)
    go (z ∷ zs) (suc k) l e = has_append_right (f z) (joined f zs) y (go zs k (le_of_suc-le-suc l) e)

-- counts
pub count_le_length : {A : Type 0} (p : A → Bool) (xs : List A) → count p xs ≤ length xs
count_le_length p [] = omega arith
count_le_length p (x ∷ xs) = go (p x) (count_le_length p xs)
  where
    go : (b : Bool) → count p xs ≤ length xs → cond b 1 0 + count p xs ≤ suc (length xs)
    go true h = omega arith
    go false h = omega arith

-- a test that passes wherever p does, and once more
pub count_grows : {A : Type 0} (p q : A → Bool) (xs : List A) → ((x : A) → p x ≡ true → q x ≡ true)
    → (count p xs ≤ count q xs) × (any (λ x. q x && not (p x)) xs ≡ true → suc (count p xs) ≤ count q xs)
count_grows p q [] h = (omega arith, λ t. absurd (false≢true t))
count_grows p q (x ∷ xs) h = go (p x) (q x) (h x) (count_grows p q xs h)
  where
    go : (a b : Bool) → (a ≡ true → b ≡ true) → (count p xs ≤ count q xs) × (any (λ x. q x && not (p x)) xs ≡ true → suc (count p xs) ≤ count q xs)
        → (cond a 1 0 + count p xs ≤ cond b 1 0 + count q xs)
        × (((b && not a) || any (λ x. q x && not (p x)) xs) ≡ true → suc (cond a 1 0 + count p xs) ≤ cond b 1 0 + count q xs)
    go true true k r = (omega arith, λ t. omega (arith, r.1 t))
    go true false k r = absurd (false≢true (k refl))
    go false true k r = (omega arith, λ t. omega arith)
    go false false k r = (omega arith, λ t. omega (arith, r.1 t))

count_keep : {A : Type 0} (q : A → Bool) (b : Bool) (x : A) (xs : List A) → count q (cond b (x ∷ xs) xs) ≡ cond b (cond (q x) 1 0) 0 + count q xs
count_keep q true x xs = refl
count_keep q false x xs = omega arith

kept_low : (p : ℕ → Bool) (v i n : ℕ) → v < i → count (eqb v) (filter p (up_from i n)) ≡ 0
kept_low p v i zero h = refl
kept_low p v i (suc n) h =
    let r = kept_low p v (suc i) n (omega arith) in
    let k = count_keep (eqb v) (p i) i (filter p (up_from (suc i) n)) in
    let ne = ne_eqb v i (λ e. omega arith) in
    grind (arith, k, r, ne)

kept_up : (p : ℕ → Bool) (v i n : ℕ) → i ≤ v → v < i + n → count (eqb v) (filter p (up_from i n)) ≡ cond (p v) 1 0
kept_up p v i zero l u = absurd (omega arith)
kept_up p v i (suc n) l u =
    let k = count_keep (eqb v) (p i) i (filter p (up_from (suc i) n)) in
    ⊎_elim
    (λ e. let r = kept_low p v (suc i) n (omega arith) in let t = eq-eqb v i e in let q = ap p e in grind (arith, k, r, t, q))
    (λ d. let r = kept_up p v (suc i) n (omega arith) (omega arith) in let ne = ne_eqb v i d in grind (arith, k, r, ne))
    (cases_eq v i)

pub count_kept : (p : ℕ → Bool) (v n : ℕ) → v < n → count (eqb v) (filter p (below n)) ≡ cond (p v) 1 0
count_kept p v n h = kept_up p v 0 n (omega arith) (omega arith)

pub joined_push : {A B : Type 0} (f : A → List B) (xs : List A) (x : A) → joined f (xs ++ (x ∷ [])) ≡ joined f xs ++ f x
joined_push f [] x = append-nil (f x)
joined_push f (y ∷ xs) x = ap (λ z. f y ++ z) (joined_push f xs x) ∙ sym (append_assoc (f y) (joined f xs) (f x))
