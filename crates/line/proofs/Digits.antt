-- A number's digits, and one digit after another put in place of other bytes. Assumes nothing.
use Rattle.std.proofs.Common.{◌≡◌, ℕ, suc, ◌+◌, ◌/◌, ◌%◌, ◌^◌, ◌<◌, ◌≤◌, List, [], ◌∷◌, ◌++◌, length, get_or, drop, set, decimal, sym, ap, ◌∙◌, append_assoc, add-one, arith, length-append, drop-cons}
use Rattle.std.proofs.lemmas.List.{set_at, set_split}
use Rattle.std.proofs.lemmas.Fmt.{decimal_digit, decimal_step, length-decimal-le}
use Rattle.line.specs.Text.{over}

pub one_digit : (n : ℕ) → n < 10 → length (decimal n) ≡ 1
one_digit n h = ap length (decimal_digit n h)

pub longer : (n : ℕ) → 10 ≤ n → n < 2 ^ 64 → length (decimal n) ≡ length (decimal (n / 10)) + 1
longer n t f = ap length (decimal_step n t f) ∙ length-append (decimal (n / 10)) _

pub at_most_20 : (n : ℕ) → n < 2 ^ 64 → length (decimal n) ≤ 20
at_most_20 n f = length-decimal-le 20 n (omega arith) (omega arith) f

-- one digit at the start
pub first : (xs : List ℕ) (n d : ℕ) → n < 10 → d ≡ 48 + n % 10 → 0 < length xs → set xs 0 d ≡ over (decimal n) xs
first xs n d s e h = let m : d ≡ 48 + n = omega arith in rw (decimal_digit n s, m) (set_split xs 0 (48 + n) h)

-- one byte more
put_next : (ds xs : List ℕ) (d k : ℕ) → k ≡ length ds → k < length xs → set (ds ++ drop k xs) k d ≡ (ds ++ (d ∷ [])) ++ drop (k + 1) xs
put_next ds xs d k e h = rw (append_assoc, add-one, drop-cons xs k 0 h) (set_at ds (get_or xs k 0) (drop (suc k) xs) d k (sym e))

-- one digit more
pub more : (xs ys : List ℕ) (n d k : ℕ) → 10 ≤ n → n < 2 ^ 64 → ys ≡ over (decimal (n / 10)) xs → d ≡ 48 + n % 10 → k ≡ length (decimal (n / 10))
    → k < length xs → set ys k d ≡ over (decimal n) xs
more xs ys n d k t f y e l h =
    rw (y, e, decimal_step n t f, length-append, ← l) (put_next (decimal (n / 10)) xs (48 + n % 10) k l h)
