-- For code: the first list, one chunk of four bytes after another. Assumes nothing.
use Rattle.std.proofs.Common.{◌≡◌, ℕ, zero, suc, ◌+◌, ◌*◌, ◌/◌, ◌<◌, ◌≤◌, Bool, true, false, List, [], ◌∷◌, ◌++◌, length, sym, refl, ap, ◌∙◌, arith, w32}
use Rattle.std.specs.Int.{from_be_bytes}
use Rattle.std.specs.Simd.{first_chunks}
use Rattle.std.proofs.lemmas.List.{append-nil, append_assoc}
use Rattle.words.specs.Words.{kind, same_kind}
use Rattle.words.specs.declared.word.Kind.TheVariants.{End as END}
use Rattle.marker.specs.Input.{word_at, list_up_to, first_list}

-- a word, and those that follow it, unless it is END
abbrev pub until_end : ℕ → List ℕ → List ℕ
until_end w ws = w ∷ elim (same_kind (kind w) END) [ true ↦ [] | false ↦ ws ]

-- the list of at most so many words, from chunks
abbrev pub of_chunks : ℕ → List (List ℕ) → List ℕ
of_chunks zero cs = []
of_chunks (suc n) [] = []
of_chunks (suc n) (c ∷ cs) = until_end (from_be_bytes w32 c) (of_chunks n cs)

chunked : (n k : ℕ) (bs : List ℕ) → k * 4 ≤ length bs → length bs < k * 4 + 4 → of_chunks n (first_chunks 4 k bs) ≡ list_up_to n bs
chunked zero k bs h l = refl
chunked (suc n) zero [] h l = refl
chunked (suc n) zero (a ∷ []) h l = refl
chunked (suc n) zero (a ∷ b ∷ []) h l = refl
chunked (suc n) zero (a ∷ b ∷ c ∷ []) h l = refl
chunked (suc n) zero (a ∷ b ∷ c ∷ d ∷ bs) h l = absurd (omega arith)
chunked (suc n) (suc k) [] h l = absurd (omega arith)
chunked (suc n) (suc k) (a ∷ []) h l = absurd (omega arith)
chunked (suc n) (suc k) (a ∷ b ∷ []) h l = absurd (omega arith)
chunked (suc n) (suc k) (a ∷ b ∷ c ∷ []) h l = absurd (omega arith)
chunked (suc n) (suc k) (a ∷ b ∷ c ∷ d ∷ bs) h l =
    let w : from_be_bytes w32 (a ∷ b ∷ c ∷ d ∷ []) ≡ word_at a b c d = omega arith in
    ap (until_end (from_be_bytes w32 (a ∷ b ∷ c ∷ d ∷ []))) (chunked n k bs (omega arith) (omega arith))
    ∙ ap (λ w. until_end w (list_up_to n bs)) w

pub begun : (bs : List ℕ) → [] ++ of_chunks 4096 (first_chunks 4 (length bs / 4) bs) ≡ first_list bs
begun bs = chunked 4096 (length bs / 4) bs (omega arith) (omega arith)

-- the words ws are taken, and at most m may come of the chunks cs
module _ (whole ws : List ℕ) (m : ℕ) (cs : List (List ℕ)) (inv : ws ++ of_chunks m cs ≡ whole) where
  none_left : (k : ℕ) (bs : List (List ℕ)) → (0 < k → length bs ≡ 0) → of_chunks k bs ≡ []
  none_left zero bs h = refl
  none_left (suc k) [] h = refl
  none_left (suc k) (b ∷ bs) h = absurd (omega (arith, h (omega arith)))

  pub taken_all : (0 < m → length cs ≡ 0) → ws ≡ whole
  taken_all h = sym (append-nil ws) ∙ ap (λ r. ws ++ r) (sym (none_left m cs h)) ∙ inv

  module _ (vs : List ℕ) (w n : ℕ) (b : List ℕ) (ds : List (List ℕ)) (more : n + 1 ≡ m) (next : cs ≡ b ∷ ds) (p : vs ≡ ws ++ w ∷ []) (e : w ≡ from_be_bytes w32 b) where
    split : ws ++ until_end w (of_chunks n ds) ≡ whole
    split =
        let s : suc n ≡ m = omega arith in
        ap (λ w. ws ++ until_end w (of_chunks n ds)) e ∙ ap (λ m. ws ++ of_chunks m (b ∷ ds)) s ∙ ap (λ cs. ws ++ of_chunks m cs) (sym next) ∙ inv

    ended : (t : Bool) → same_kind (kind w) END ≡ t → vs ++ elim t [ true ↦ [] | false ↦ of_chunks n ds ] ≡ whole
    ended t q =
        ap (λ vs. vs ++ elim t [ true ↦ [] | false ↦ of_chunks n ds ]) p ∙ append_assoc ws (w ∷ []) _
        ∙ ap (λ t. ws ++ (w ∷ elim t [ true ↦ [] | false ↦ of_chunks n ds ])) (sym q) ∙ split

    pub taken_end : same_kind (kind w) END ≡ true → vs ≡ whole
    taken_end t = sym (append-nil vs) ∙ ended true t

    pub taken_more : same_kind (kind w) END ≡ false → vs ++ of_chunks n ds ≡ whole
    taken_more t = ended false t
