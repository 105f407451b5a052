-- For code: the words of bytes, from chunks of four bytes. Assumes nothing.
use Rattle.std.proofs.Common.{◌≡◌, ℕ, zero, suc, ◌+◌, ◌*◌, ◌/◌, ◌<◌, ◌≤◌, List, [], ◌∷◌, map, length, refl, ap, ◌∙◌, arith, w32}
use Rattle.std.specs.Int.{from_be_bytes}
use Rattle.std.specs.Simd.{first_chunks}
use Rattle.judge_cases.specs.Container.{words_of}

chunked : (k : ℕ) (bs : List ℕ) → k * 4 ≤ length bs → length bs < k * 4 + 4 → map (from_be_bytes w32) (first_chunks 4 k bs) ≡ words_of bs
chunked zero [] h l = refl
chunked zero (a ∷ []) h l = refl
chunked zero (a ∷ b ∷ []) h l = refl
chunked zero (a ∷ b ∷ c ∷ []) h l = refl
chunked zero (a ∷ b ∷ c ∷ d ∷ bs) h l = absurd (omega arith)
chunked (suc k) [] h l = absurd (omega arith)
chunked (suc k) (a ∷ []) h l = absurd (omega arith)
chunked (suc k) (a ∷ b ∷ []) h l = absurd (omega arith)
chunked (suc k) (a ∷ b ∷ c ∷ []) h l = absurd (omega arith)
chunked (suc k) (a ∷ b ∷ c ∷ d ∷ bs) h l =
    let w : from_be_bytes w32 (a ∷ b ∷ c ∷ d ∷ []) ≡ a * 16777216 + b * 65536 + c * 256 + d = omega arith in
    ap (λ ws. from_be_bytes w32 (a ∷ b ∷ c ∷ d ∷ []) ∷ ws) (chunked k bs (omega arith) (omega arith)) ∙ ap (λ w. w ∷ words_of bs) w

pub spelled : (bs : List ℕ) → map (from_be_bytes w32) (first_chunks 4 (length bs / 4) bs) ≡ words_of bs
spelled bs = chunked (length bs / 4) bs (omega arith) (omega arith)
