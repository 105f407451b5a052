-- For code: the lines of the stream, one step after another. Assumes nothing.
use Rattle.std.proofs.Common.{◌≡◌, ℕ, zero, suc, ◌+◌, ◌-◌, ◌*◌, ◌<◌, ◌≤◌, Bool, true, false, List, [], ◌∷◌, ◌++◌, length, drop, Some, None, Ok, Err, Option, Result, sym, refl, ap, ◌∙◌, subst, inl, arith}
use Rattle.std.specs.declared.alloc.AllocError.{AllocError}
use Rattle.std.proofs.lemmas.List.{append-nil, append_assoc, drop-drop, length-drop}
use Rattle.words.specs.Words.{kind, same_kind, refusal, not_due}
use Rattle.words.specs.declared.word.Kind.{Kind}
use Rattle.words.specs.declared.word.Kind.TheVariants.{Reserved as NONE, Head as HEAD, Block as BLOCK, LBlock as LBLOCK, Cost as COST, Edge as EDGE, Loop as LOOP, Back as BACK, Fact as FACT, Claim as CLAIM, High as HIGH, Low as LOW, Start as START, Step as STEP, Finish as FINISH, End as END}
use Rattle.sheet.specs.Sheet.{Sheet}
use Rattle.claim.specs.ReadCertificate.{judged}
use Rattle.marker.specs.Input.{word_at, first_word, list_up_to, first_list}
use Rattle.line.specs.declared.lines.Item.TheVariants.{Stream as StreamItem}
use Rattle.line.specs.Lines.{refusal_text, claim_text}
use Rattle.marker.specs.Text.{WholeLines, Printed}
use Rattle.marker.specs.Stream.{Next, goes_on, stops, at_kind, at_word, next, and_then, steps, stream, StepByStep, Done}
use Rattle.marker.proofs.Whole.{whole_more, whole_refusal, whole_claim}

-- a list has no more words than there are bytes for, and a word if there is one
pub list_within : (n : ℕ) (bytes : List ℕ) → 4 * length (list_up_to n bytes) ≤ length bytes
list_within zero bytes = omega arith
list_within (suc n) [] = omega arith
list_within (suc n) (a ∷ []) = omega arith
list_within (suc n) (a ∷ b ∷ []) = omega arith
list_within (suc n) (a ∷ b ∷ c ∷ []) = omega arith
list_within (suc n) (a ∷ b ∷ c ∷ d ∷ bytes) = go (same_kind (kind (word_at a b c d)) END) (list_within n bytes)
  where
    go : (t : Bool) → 4 * length (list_up_to n bytes) ≤ length bytes
        → 4 * length (word_at a b c d ∷ elim t [ true ↦ [] | false ↦ list_up_to n bytes ]) ≤ length (a ∷ b ∷ c ∷ d ∷ bytes)
    go true h = omega arith
    go false h = omega arith

list_some : (n : ℕ) (bytes : List ℕ) → 4 ≤ length bytes → 1 ≤ length (list_up_to (suc n) bytes)
list_some n [] h = absurd (omega arith)
list_some n (a ∷ []) h = absurd (omega arith)
list_some n (a ∷ b ∷ []) h = absurd (omega arith)
list_some n (a ∷ b ∷ c ∷ []) h = absurd (omega arith)
list_some n (a ∷ b ∷ c ∷ d ∷ bytes) h = omega arith

-- where reading goes on, whole lines are printed, and a word or more is taken of those that are left
abbrev Within : Next → List ℕ → Type 0
Within (goes_on text taken) bytes = (1 ≤ taken) × (4 * taken ≤ length bytes) × WholeLines text
Within (stops text) bytes = Unit {0}

module _ (S : Sheet) (place : ℕ) (bytes : List ℕ) (h : 4 ≤ length bytes) where
  one : (1 ≤ 1) × (4 * 1 ≤ length bytes) × WholeLines (refusal_text StreamItem (refusal not_due place))
  one = (omega arith, omega arith, whole_refusal StreamItem (refusal not_due place))

  kind_within : (k : Kind) → Within (at_kind k S place bytes) bytes
  kind_within CLAIM = (list_some 4095 bytes h, list_within 4096 bytes, whole_claim (judged S (first_list bytes)))
  kind_within START = tt
  kind_within STEP = tt
  kind_within FINISH = tt
  kind_within NONE = one
  kind_within HEAD = one
  kind_within BLOCK = one
  kind_within LBLOCK = one
  kind_within COST = one
  kind_within EDGE = one
  kind_within LOOP = one
  kind_within BACK = one
  kind_within FACT = one
  kind_within HIGH = one
  kind_within LOW = one
  kind_within END = one

next_within : (S : Sheet) (place : ℕ) (bytes : List ℕ) → Within (next S place bytes) bytes
next_within S place [] = tt
next_within S place (a ∷ []) = tt
next_within S place (a ∷ b ∷ []) = tt
next_within S place (a ∷ b ∷ c ∷ []) = tt
next_within S place (a ∷ b ∷ c ∷ d ∷ bytes) = kind_within S place (a ∷ b ∷ c ∷ d ∷ bytes) (omega arith) (kind (word_at a b c d))

-- more steps than bytes print no more
enough : (n m : ℕ) (S : Sheet) (place : ℕ) (bytes : List ℕ) → length bytes < n → length bytes < m → steps n S place bytes ≡ steps m S place bytes
enough zero m S place bytes h k = absurd (omega arith)
enough (suc n) zero S place bytes h k = absurd (omega arith)
enough (suc n) (suc m) S place bytes h k = go (next S place bytes) (next_within S place bytes) (enough n m S)
  where
    go : (x : Next) → Within x bytes → ((place : ℕ) (bytes : List ℕ) → length bytes < n → length bytes < m → steps n S place bytes ≡ steps m S place bytes)
        → and_then x (λ taken. steps n S (place + taken) (drop (4 * taken) bytes))
        ≡ and_then x (λ taken. steps m S (place + taken) (drop (4 * taken) bytes))
    go (stops t) w ih = refl
    go (goes_on t j) w ih =
        let l = length-drop (4 * j) bytes in
        ap (λ z. t ++ z) (ih (place + j) (drop (4 * j) bytes) (omega (arith, w.0, w.1)) (omega (arith, w.0, w.1)))

pub step_by_step : StepByStep
step_by_step S place bytes = go (next S place bytes) (next_within S place bytes)
  where
    go : (x : Next) → Within x bytes
        → and_then x (λ taken. steps (length bytes) S (place + taken) (drop (4 * taken) bytes))
        ≡ and_then x (λ taken. stream S (place + taken) (drop (4 * taken) bytes))
    go (stops t) w = refl
    go (goes_on t j) w =
        let l = length-drop (4 * j) bytes in
        ap (λ z. t ++ z) (enough (length bytes) (suc (length (drop (4 * j) bytes))) S (place + j) (drop (4 * j) bytes) (omega (arith, w.0, w.1)) (omega arith))

-- a certificate was judged
pub judged_done : (S : Sheet) (place w k : ℕ) (bytes ws before after : List ℕ) → Some w ≡ first_word bytes → CLAIM ≡ kind w
    → ws ≡ first_list bytes → k ≡ length ws → after ≡ before ++ claim_text (judged S ws) → Done (next S place bytes) before (Ok (Some k)) after
judged_done S place w k bytes ws before after o q e l p =
    let n : next S place bytes ≡ goes_on (claim_text (judged S ws)) (length ws) =
    ap (λ o. at_word o S place bytes) (sym o) ∙ ap (λ k. at_kind k S place bytes) (sym q)
    ∙ ap (λ ws. goes_on (claim_text (judged S ws)) (length ws)) (sym e) in
    subst (λ x. Done x before (Ok (Some k)) after) (sym n) (l, p)

-- At a place of the input the text is some of the lines, from the first on, and the others are those of the steps from here.
abbrev pub Going : Sheet → List ℕ → List ℕ → List ℕ → ℕ → List ℕ → Type 0
Going S input before lines place text =
    (first : List ℕ) × (n : ℕ) × (length (drop (4 * place) input) < n) × (text ≡ before ++ first) × (lines ≡ first ++ steps n S place (drop (4 * place) input)) × WholeLines first

pub begun : (S : Sheet) (input before : List ℕ) (place : ℕ) → Going S input before (stream S place (drop (4 * place) input)) place before
begun S input before place = ([], suc (length (drop (4 * place) input)), omega arith, sym (append-nil before), refl, inl refl)

module _ (S : Sheet) (input before lines : List ℕ) (place : ℕ) (text : List ℕ) (within : 4 * place ≤ length input)
    (g : Going S input before lines place text) (rest : List ℕ) (e : rest ≡ drop (4 * place) input) (T : Sheet) (same : T ≡ S)
    (after : List ℕ) where
  -- the step is that of the sheet which is held
  here : (r : Result (Option ℕ) AllocError) → Done (next T place rest) text r after → Done (next S place rest) text r after
  here r d = subst (λ S. Done (next S place rest) text r after) same d

  -- what is still printed, where the next step is x
  step_lines : (x : Next) → next S place rest ≡ x
      → lines ≡ g.0 ++ and_then x (λ k. steps (g.1 - 1) S (place + k) (drop (4 * k) (drop (4 * place) input)))
  step_lines x q =
      let n : g.1 ≡ suc (g.1 - 1) = omega arith in
      let r : next S place (drop (4 * place) input) ≡ x = ap (next S place) (sym e) ∙ q in
      g.4 ∙ ap (λ n. g.0 ++ steps n S place (drop (4 * place) input)) n
      ∙ ap (λ x. g.0 ++ and_then x (λ k. steps (g.1 - 1) S (place + k) (drop (4 * k) (drop (4 * place) input)))) r

  pub went_on : (o : Option ℕ) (k : ℕ) → o ≡ Some k → Done (next T place rest) text (Ok o) after
      → (1 ≤ k) × (4 * (place + k) ≤ length input) × Going S input before lines (place + k) after
  went_on o k s d = go (next S place rest) refl (next_within S place rest) (subst (λ o. Done (next S place rest) text (Ok o) after) s (here (Ok o) d))
    where
      go : (x : Next) → next S place rest ≡ x → Within x rest → Done x text (Ok (Some k)) after
          → (1 ≤ k) × (4 * (place + k) ≤ length input) × Going S input before lines (place + k) after
      go (stops t) q w d = absurd d
      go (goes_on t j) q w d =
          let l = ap length e in
          let m = length-drop (4 * place) input in
          let p = length-drop (4 * (place + k)) input in
          let b : 4 * place + 4 * j ≡ 4 * (place + k) = omega (arith, d.0) in (
            omega (arith, d.0, w.0),
            omega (arith, d.0, w.1),
            (
              g.0 ++ t,
              g.1 - 1,
              omega (arith, d.0, w.0, w.1, g.2),
              d.1 ∙ ap (λ z. z ++ t) g.3 ∙ append_assoc before g.0 t,
              step_lines (goes_on t j) q
                  ∙ sym (append_assoc g.0 t (steps (g.1 - 1) S (place + j) (drop (4 * j) (drop (4 * place) input))))
                  ∙ ap (λ z. (g.0 ++ t) ++ steps (g.1 - 1) S (place + j) z) (drop-drop (4 * j) (4 * place) input ∙ ap (λ n. drop n input) b)
                  ∙ ap (λ i. (g.0 ++ t) ++ steps (g.1 - 1) S (place + i) (drop (4 * (place + k)) input)) (sym d.0),
              whole_more g.0 t g.5 w.2,
            ),
          )

  pub stopped : (o : Option ℕ) → o ≡ None → Done (next T place rest) text (Ok o) after → after ≡ before ++ lines
  stopped o s d = go (next S place rest) refl (subst (λ o. Done (next S place rest) text (Ok o) after) s (here (Ok o) d))
    where
      go : (x : Next) → next S place rest ≡ x → Done x text (Ok None) after → after ≡ before ++ lines
      go (goes_on t j) q d = absurd d
      go (stops t) q d = d ∙ ap (λ z. z ++ t) g.3 ∙ append_assoc before g.0 t ∙ ap (λ z. before ++ z) (sym (step_lines (stops t) q))

  pub failed : (y : AllocError) → Done (next T place rest) text (Err y) after → Printed {T = Unit {0}} {E = AllocError} before lines (Err y) after
  failed y d = (g.0, steps g.1 S place (drop (4 * place) input), go (next S place rest) (here (Err y) d) ∙ g.3, g.4, g.5)
    where
      go : (x : Next) → Done x text (Err y) after → after ≡ text
      go (goes_on t j) d = d
      go (stops t) d = d
