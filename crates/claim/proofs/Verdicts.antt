-- The judge passes exactly the certificates that pass. Assumes nothing.
use Rattle.std.proofs.Common.{◌≡◌, ℕ, suc, ◌+◌, ◌*◌, ◌≤◌, Bool, true, false, cond, not, ◌||◌, T, ltb, List, [], ◌∷◌, length, ℤ, pos, ◌≤ℤ◌, sym, refl, subst, arith}
use lib.Signed.{le_z}
use Rattle.std.specs.List.{prefix_len, AllByRecursion}
use Rattle.std.proofs.ByRecursion.{All-weaker}
use Rattle.std.proofs.lemmas.Bool.{ltb-false, le-ltb, false≢true}
use Rattle.sheet.specs.Rows.{Row, rows, columns, cost, at_most}
use Rattle.claim.specs.Certificate.{column_total, Passes, SignsRight}
use Rattle.claim.specs.Judge.{passed, negative, low_column, low_claim, sign_tests, high_enough, claims_enough, judge, JudgesRight}

-- no element is the first that does not pass
all_pass : {A : Type 0} (p : A → Bool) (xs : List A) → length xs ≤ prefix_len p xs → AllByRecursion (λ x. p x ≡ true) xs
all_pass p [] h = tt
all_pass p (x ∷ xs) h = go (p x) refl h (λ l. all_pass p xs l)
  where
    go : (b : Bool) → p x ≡ b → suc (length xs) ≤ cond b (1 + prefix_len p xs) 0 → (length xs ≤ prefix_len p xs → AllByRecursion (λ x. p x ≡ true) xs)
        → (p x ≡ true) × AllByRecursion (λ x. p x ≡ true) xs
    go true e l more = (e, more (omega arith))
    go false e l more = absurd (omega arith)

passes_all : {A : Type 0} (p : A → Bool) (xs : List A) → AllByRecursion (λ x. p x ≡ true) xs → length xs ≤ prefix_len p xs
passes_all p [] h = omega arith
passes_all p (x ∷ xs) h = rw h.0 (omega (arith, passes_all p xs h.1))

yes_le : (a b : ℤ) → le_z a b ≡ true → a ≤ℤ b
yes_le a b e = record { le = subst T (sym e) tt }

le_yes : (a b : ℤ) → a ≤ℤ b → le_z a b ≡ true
le_yes a b h = go (le_z a b) h.le
  where
    go : (t : Bool) → T t → t ≡ true
    go true x = refl
    go false x = absurd x

signed_from : (ys : List ℤ) (rs : List Row) → length ys ≡ length rs → AllByRecursion (λ b. b ≡ true) (sign_tests ys rs) → SignsRight ys rs
signed_from [] [] e h = tt
signed_from [] (r ∷ rs) e h = absurd (omega arith)
signed_from (y ∷ ys) [] e h = absurd (omega arith)
signed_from (y ∷ ys) (r ∷ rs) e h = (go (at_most r) h.0, signed_from ys rs (omega arith) h.1)
  where
    go : (b : Bool) → (not b || le_z (pos 0) y) ≡ true → b ≡ true → pos 0 ≤ℤ y
    go true t q = yes_le (pos 0) y t
    go false t q = absurd (false≢true q)

signs_pass : (ys : List ℤ) (rs : List Row) → SignsRight ys rs → AllByRecursion (λ b. b ≡ true) (sign_tests ys rs)
signs_pass [] rs h = tt
signs_pass (y ∷ ys) [] h = tt
signs_pass (y ∷ ys) (r ∷ rs) h = (go (at_most r) h.0, signs_pass ys rs h.1)
  where
    go : (b : Bool) → (b ≡ true → pos 0 ≤ℤ y) → (not b || le_z (pos 0) y) ≡ true
    go true k = le_yes (pos 0) y (k refl)
    go false k = refl

-- the three tests
record Clear (a b c : Bool) : Type 0 where
  one : a ≡ false
  two : b ≡ false
  three : c ≡ true

clear : (a b c : Bool) (m n : ℕ) → cond a (negative m) (cond b (low_column n) (cond c passed low_claim)) ≡ passed → Clear a b c
clear true b c m n e = let z : ◌≡◌ {A = ℕ} 0 1 = cc in absurd (omega arith)
clear false true c m n e = let z : ◌≡◌ {A = ℕ} 0 1 = cc in absurd (omega arith)
clear false false true m n e = record { one = refl; two = refl; three = refl }
clear false false false m n e = let z : ◌≡◌ {A = ℕ} 0 1 = cc in absurd (omega arith)

cleared : (a b c : Bool) (m n : ℕ) → Clear a b c → cond a (negative m) (cond b (low_column n) (cond c passed low_claim)) ≡ passed
cleared a b c m n k = rw (k.one, k.two, k.three)

pub judges_right : JudgesRight
judges_right S cs C p len = (to, from)
  where
    signs : List Bool
    signs = sign_tests C.multipliers (rows S)

    to : judge S cs C ≡ passed → Passes S cs C
    to e =
        let k : Clear _ _ _ = clear (ltb (prefix_len (λ b. b) signs) (length signs)) (ltb (prefix_len (high_enough S C) (columns S cs)) (length (columns S cs))) (claims_enough S C) _ _ e in
        record {
          scaled = p;
          signed = signed_from C.multipliers (rows S) len (all_pass (λ b. b) signs (ltb-false _ _ k.one));
          covered = All-weaker _ _ (λ x h. yes_le (pos (cost S x * C.D)) (column_total S C x) h) (columns S cs) (all_pass (high_enough S C) (columns S cs) (ltb-false _ _ k.two));
          claimed = yes_le _ _ k.three;
        }

    from : Passes S cs C → judge S cs C ≡ passed
    from k =
        cleared _ _ _ _ _ (record {
          one = le-ltb _ _ (passes_all (λ b. b) signs (signs_pass C.multipliers (rows S) k.signed));
          two = le-ltb _ _ (passes_all (high_enough S C) (columns S cs) (All-weaker _ _ (λ x h. le_yes (pos (cost S x * C.D)) (column_total S C x) h) (columns S cs) k.covered));
          three = le_yes _ _ k.claimed;
        })
