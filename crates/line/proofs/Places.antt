-- Text put in place of other bytes: one text after another, one byte. Assumes nothing.
use Rattle.std.proofs.Common.{◌≡◌, ℕ, ◌+◌, ◌<◌, ◌≤◌, List, [], ◌∷◌, ◌++◌, length, take, drop, set, sym, refl, ap, ◌∙◌, append_assoc, add_assoc, add-one, length-append}
use Rattle.std.proofs.lemmas.List.{set_split, drop-drop, take_at, drop_at, length-take-le}
use Rattle.line.specs.Text.{over, over_at}

-- one text after another
then_at : (p q b : List ℕ) (n : ℕ) → length p ≡ n → over_at n b (p ++ q) ≡ p ++ over b q
then_at p q b n e = simp (take_at p q n e, ← drop-drop, drop_at p q n e)

pub over_at_more : (xs a b : List ℕ) (at : ℕ) → at ≤ length xs → over_at (at + length a) b (over_at at a xs) ≡ over_at at (a ++ b) xs
over_at_more xs a b at h =
    let e : length (take at xs ++ a) ≡ at + length a = simp (length-append, length-take-le at xs h) in
    ap (over_at (at + length a) b) (sym (append_assoc (take at xs) a (drop (at + length a) xs)))
    ∙ then_at (take at xs ++ a) (drop (at + length a) xs) b (at + length a) e
    ∙ simp (append_assoc, drop-drop, length-append, add_assoc)

pub over_more : (xs a b : List ℕ) → over_at (length a) b (over a xs) ≡ over (a ++ b) xs
over_more xs a b = then_at a (drop (length a) xs) b (length a) refl ∙ simp (append_assoc, drop-drop, length-append)

-- one byte
pub set_is : (xs : List ℕ) (at b : ℕ) → at < length xs → set xs at b ≡ over_at at (b ∷ []) xs
set_is xs at b h = rw add-one (set_split xs at b h)

-- the last byte, after a first text and those that follow it
pub ended : (xs ys zs first rest : List ℕ) (n at b : ℕ) → ys ≡ over first xs → n ≡ length first → zs ≡ over_at n rest ys → at ≡ n + length rest
    → n ≤ length ys → at < length zs → set zs at b ≡ over ((first ++ rest) ++ (b ∷ [])) xs
ended xs ys zs first rest n at b e f g k h l =
    set_is zs at b l
    ∙ ap (λ m. over_at m (b ∷ []) zs) k
    ∙ ap (over_at (n + length rest) (b ∷ [])) g
    ∙ over_at_more ys rest (b ∷ []) n h
    ∙ ap (λ m. over_at m (rest ++ (b ∷ [])) ys) f
    ∙ ap (over_at (length first) (rest ++ (b ∷ []))) e
    ∙ over_more xs first (rest ++ (b ∷ []))
    ∙ ap (λ t. over t xs) (sym (append_assoc first rest (b ∷ [])))
