-- The words of a list in twos. Assumes nothing.
use Rattle.std.proofs.Common.{◌≡◌, ℕ, zero, suc, ◌+◌, ◌*◌, ◌/◌, ◌≤◌, List, [], ◌∷◌, ◌++◌, length, take, drop, refl, ap, ◌∙◌, ap₂, add-one, arith}
use Rattle.std.specs.Simd.{first_chunks}
use Rattle.std.proofs.lemmas.List.{take-take, drop-take, drop-drop, length-take-le, length-drop}

-- the first n pairs need the first 2 n words only
pub chunked_take : (n : ℕ) (xs : List ℕ) → first_chunks 2 n (take (2 * n) xs) ≡ first_chunks 2 n xs
chunked_take zero xs = refl
chunked_take (suc n) xs =
    let e : 2 * suc n ≡ 2 + 2 * n = omega arith in
    ap₂ ◌∷◌ (take-take 2 (2 * suc n) xs (omega arith))
    (ap (first_chunks 2 n) (ap (λ m. drop 2 (take m xs)) e ∙ drop-take 2 (2 * n) xs) ∙ chunked_take n (drop 2 xs))

-- one pair more
chunked_suc : (n : ℕ) (xs : List ℕ) → first_chunks 2 (suc n) xs ≡ first_chunks 2 n xs ++ (take 2 (drop (2 * n) xs) ∷ [])
chunked_suc zero xs = refl
chunked_suc (suc n) xs =
    ap (λ r. take 2 xs ∷ r) (chunked_suc n (drop 2 xs))
    ∙ ap (λ ys. take 2 xs ∷ (first_chunks 2 n (drop 2 xs) ++ (take 2 ys ∷ []))) (drop-drop (2 * n) 2 xs ∙ ap (λ m. drop m xs) (omega arith))

pub chunked_more : (n : ℕ) (xs : List ℕ) → first_chunks 2 (n + 1) xs ≡ first_chunks 2 n xs ++ (take 2 (drop (2 * n) xs) ∷ [])
chunked_more n xs = ap (λ m. first_chunks 2 m xs) (add-one n) ∙ chunked_suc n xs

-- the pairs of a part of the list
pub part_pairs : (ws : List ℕ) (rows n : ℕ) → n ≡ 2 * rows → 3 + 2 * rows ≤ length ws
    → (first_chunks 2 (length (take n (drop 3 ws)) / 2) (take n (drop 3 ws)) ≡ first_chunks 2 rows (drop 3 ws)) × (length (take n (drop 3 ws)) / 2 ≡ rows)
part_pairs ws rows n e h =
    let l : length (take n (drop 3 ws)) ≡ n = length-take-le n (drop 3 ws) (omega (arith, length-drop 3 ws)) in
    let m : length (take n (drop 3 ws)) / 2 ≡ rows = omega arith in
    (ap₂ (λ k m. first_chunks 2 k (take m (drop 3 ws))) m e ∙ chunked_take rows (drop 3 ws), m)
