-- Counting the used sets: one set after another, and no more than there are sets. Assumes nothing.
use Rattle.std.proofs.Common.{◌≡◌, ℕ, ◌+◌, ◌≤◌, Bool, true, false, cond, eqb, List, [], ◌∷◌, length, filter, sym, refl, ap, ◌∙◌, add-one, arith}
use Rattle.std.proofs.lemmas.List.{length-append}
use Rattle.std.proofs.lemmas.List.Elements.{filter-append}
use Rattle.std.proofs.lemmas.List.Sums.{length-filter, count_by-le-length}
use Rattle.words.specs.Lists.{below, any}
use Rattle.words.proofs.Lists.{length-below}
use Rattle.sheet.specs.Sheet.{LBlock}
use Rattle.sheet.specs.Kept.{used_among}
use Rattle.sheet.proofs.SheetLists.{below_push}

pub used_more : (vs : List LBlock) (n : ℕ) (t : Bool) → t ≡ any (λ b. eqb b.set n) vs → used_among vs (n + 1) ≡ used_among vs n + cond t 1 0
used_more vs n t e =
    ap (λ m. used_among vs m) (add-one n)
    ∙ ap (λ xs. length (filter (λ s. any (λ b. eqb b.set s) vs) xs)) (below_push n)
    ∙ ap length (filter-append (λ s. any (λ b. eqb b.set s) vs) (below n) (n ∷ []))
    ∙ length-append (filter (λ s. any (λ b. eqb b.set s) vs) (below n)) (filter (λ s. any (λ b. eqb b.set s) vs) (n ∷ []))
    ∙ ap (λ b. used_among vs n + length (cond b (n ∷ []) [])) (sym e)
    ∙ ap (λ k. used_among vs n + k) (one t)
  where
    one : (b : Bool) → length (cond b (n ∷ []) []) ≡ cond b 1 0
    one true = refl
    one false = refl

pub used_few : (vs : List LBlock) (n : ℕ) → used_among vs n ≤ n
used_few vs n =
    let has : ℕ → Bool = λ s. any (λ (b : LBlock). eqb b.set s) vs in
    omega (arith, length-filter has (below n), count_by-le-length has (below n), length-below n)
