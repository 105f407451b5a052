-- For code: the two words of an l-block, and how far the words lead. Assumes nothing.
use Rattle.std.proofs.Common.{◌≡◌, ℕ, ◌+◌, ◌-◌, ◌<◌, Bool, true, false, cond, ltb, List, [], ◌∷◌, ◌++◌, length, get_or, drop, Some, Ok, sym, refl, ap, ap₂, ◌∙◌, subst, ⊎_elim, arith}
use mathlib.Core.Option.{Option, none, some}
use Rattle.std.proofs.lemmas.Bool.{ltb-true, ltb-false}
use Rattle.words.specs.Words.{kind, payload, one_of, same_kind, set_field, tag_field, Check, demand, first_failing, refusal, not_due}
use Rattle.words.proofs.Words.{is_one_of}
use Rattle.words.proofs.Checks.{fails}
use Rattle.sheet.specs.Kinds.{Kind, LBLOCK, COST, END, Refusal}
use Rattle.sheet.specs.declared.section.Section.{Section}
use Rattle.sheet.specs.declared.section.Section.TheVariants.{LBlocks, Blocks}
use Rattle.sheet.specs.ReadSheet.{at_lblock, at_cost, at_blocks, State, stands, checks, demands, next, lacks, lblock_of}
use Rattle.sheet.specs.BlockTable.{Laid}
use Rattle.sheet.specs.Drafts.{Items, sheet_of, add_lblock}
use Rattle.sheet.specs.Sections.{state_of, Ready, Goes, stays, takes, section_past_lblock, Stepped}
use Rattle.sheet.specs.declared.draft.placed.PlacedWord.{PlacedWord}
use Rattle.sheet.specs.Placed.{IsAt, TakesPlaced}
use Rattle.sheet.specs.Tried.{lblock_checks, cost_checks, pair_lblock}
use Rattle.sheet.proofs.Laid.{laid_lblock, laid_some}

-- where one kind is due, the word has it or the first check fails
only : (k j : Kind) → one_of k (j ∷ []) ≡ true → k ≡ j
only k j t = ⊎_elim (λ e. e) (λ z. absurd z) (is_one_of k (j ∷ []) t)

one_due : (k j : Kind) (i : ℕ) (f : Kind → List Check) → first_failing (demand (one_of k (j ∷ [])) not_due i ∷ f k) ≡ first_failing (demand (one_of k (j ∷ [])) not_due i ∷ f j)
one_due k j i f = go (one_of k (j ∷ [])) refl
  where
    go : (b : Bool) → one_of k (j ∷ []) ≡ b → first_failing (demand (one_of k (j ∷ [])) not_due i ∷ f k) ≡ first_failing (demand (one_of k (j ∷ [])) not_due i ∷ f j)
    go true e = ap (λ x. first_failing (demand (one_of k (j ∷ [])) not_due i ∷ f x)) (only k j e)
    go false e = fails (one_of k (j ∷ [])) not_due i (f k) e ∙ sym (fails (one_of k (j ∷ [])) not_due i (f j) e)

-- the due check passes, so the word has the kind
due_kind : (k j : Kind) (i : ℕ) (cs : List Check) → first_failing (demand (one_of k (j ∷ [])) not_due i ∷ cs) ≡ none → k ≡ j
due_kind k j i cs e = go (one_of k (j ∷ [])) refl
  where
    go : (b : Bool) → one_of k (j ∷ []) ≡ b → k ≡ j
    go true q = only k j q
    go false q = let z : ◌≡◌ {A = Option Refusal} (some (refusal not_due i)) none = sym (fails (one_of k (j ∷ [])) not_due i cs q) ∙ e in let y : ◌≡◌ {A = ℕ} 0 1 = cc in absurd (omega arith)

-- the same of a word by its number
abbrev lblock_demands : Items → ℕ → ℕ → List Check
lblock_demands I w i = lblock_checks I (kind w) (payload w) i

abbrev cost_demands : ℕ → ℕ → List Check
cost_demands w i = cost_checks (kind w) i

module _ (I : Items) (n : ℕ) where
  first_is : (w i : ℕ) (rest : List ℕ) → first_failing (demands (state_of (LBlocks n) I) w i rest) ≡ first_failing (lblock_demands I w i)
  first_is w i rest = one_due (kind w) LBLOCK i (λ k. checks (sheet_of I) none k (payload w) i rest)

  second_is : (s t w i : ℕ) (rest : List ℕ) → first_failing (demands (stands (at_cost n s t) (sheet_of I)) w i rest) ≡ first_failing (cost_demands w i)
  second_is s t w i rest = one_due (kind w) COST i (λ k. checks (sheet_of I) none k (payload w) i rest)

  -- the state between the two words
  abbrev between : ℕ → State
  between w = stands (at_cost n (set_field (payload w)) (tag_field (payload w))) (sheet_of I)

  first_next : (w i : ℕ) → first_failing (lblock_demands I w i) ≡ none → next (at_lblock n) (sheet_of I) (kind w) (payload w) ≡ between w
  first_next w i e = ap (λ k. next (at_lblock n) (sheet_of I) k (payload w)) (due_kind (kind w) LBLOCK i (checks (sheet_of I) none LBLOCK (payload w) i []) e)

  second_next : (v w i : ℕ) → first_failing (cost_demands w i) ≡ none
      → next (at_cost n (set_field (payload v)) (tag_field (payload v))) (sheet_of I) (kind w) (payload w)
      ≡ stands (lacks n) (sheet_of (add_lblock I (lblock_of (length I.blocks - 1) (set_field (payload v)) (tag_field (payload v)) (payload w))))
  second_next v w i e = ap (λ k. next (at_cost n (set_field (payload v)) (tag_field (payload v))) (sheet_of I) k (payload w)) (due_kind (kind w) COST i [] e)

  past_is : (J : Items) → state_of (section_past_lblock n) J ≡ stands (lacks n) (sheet_of J)
  past_is J = go (ltb 1 n)
    where
      go : (b : Bool) → state_of (cond b (LBlocks (n - 1)) Blocks) J ≡ stands (cond b (at_lblock (n - 1)) at_blocks) (sheet_of J)
      go true = refl
      go false = refl

  ready_past : (J : Items) (s t p : ℕ) → Ready (LBlocks n) I → J ≡ add_lblock I (lblock_of (length I.blocks - 1) s t p) → Ready (section_past_lblock n) J
  ready_past J s t p r e = subst (Ready (section_past_lblock n)) (sym e) (go (ltb 1 n) refl)
    where
      laid : Laid I.blocks (I.lblocks ++ (lblock_of (length I.blocks - 1) s t p ∷ [])) (n - 1)
      laid = laid_lblock I.blocks I.lblocks n (lblock_of (length I.blocks - 1) s t p) r.laid r.is_open (laid_some I.blocks I.lblocks n r.laid r.is_open) refl

      go : (b : Bool) → ltb 1 n ≡ b → Ready (cond b (LBlocks (n - 1)) Blocks) (add_lblock I (lblock_of (length I.blocks - 1) s t p))
      go true q = let h = ltb-true 1 n q in record { is_open = omega arith; owned = r.owned; counted = r.counted; laid = laid }
      go false q =
          let h = ltb-false 1 n q in let o = r.is_open in
          let z : n - 1 ≡ 0 = omega arith in
          record { is_open = tt; owned = r.owned; counted = r.counted; laid = subst (Laid I.blocks (I.lblocks ++ (lblock_of (length I.blocks - 1) s t p ∷ []))) z laid }

  not_end : (w : ℕ) (j : Kind) → kind w ≡ j → same_kind j END ≡ false → same_kind (kind w) END ≡ false
  not_end w j e f = ap (λ k. same_kind k END) e ∙ f

  -- both words are taken
  module _ (ws : List ℕ) (i : ℕ) where
    one_word : i < length ws → first_failing (lblock_demands I (get_or ws i 0) i) ≡ none → Goes ws (state_of (LBlocks n) I) i (between (get_or ws i 0)) (i + 1)
    one_word l e = subst (λ z. Goes ws (state_of (LBlocks n) I) i z (i + 1)) (first_next (get_or ws i 0) i e)
        (takes stays l (first_is (get_or ws i 0) i (drop (i + 1) ws) ∙ e) (not_end (get_or ws i 0) LBLOCK (due_kind (kind (get_or ws i 0)) LBLOCK i (checks (sheet_of I) none LBLOCK (payload (get_or ws i 0)) i []) e) refl))

    two_words : (J : Items) → i + 1 < length ws → first_failing (lblock_demands I (get_or ws i 0) i) ≡ none → first_failing (cost_demands (get_or ws (i + 1) 0) (i + 1)) ≡ none
        → J ≡ pair_lblock I (payload (get_or ws i 0)) (payload (get_or ws (i + 1) 0)) → Goes ws (state_of (LBlocks n) I) i (state_of (section_past_lblock n) J) (i + 1 + 1)
    two_words J l f g e = subst (λ z. Goes ws (state_of (LBlocks n) I) i z (i + 1 + 1))
        (second_next (get_or ws i 0) (get_or ws (i + 1) 0) (i + 1) g ∙ ap (λ K. stands (lacks n) (sheet_of K)) (sym e) ∙ sym (past_is J))
        (takes (one_word (omega arith) f) l
        (second_is (set_field (payload (get_or ws i 0))) (tag_field (payload (get_or ws i 0))) (get_or ws (i + 1) 0) (i + 1) (drop (i + 1 + 1) ws) ∙ g)
        (not_end (get_or ws (i + 1) 0) COST (due_kind (kind (get_or ws (i + 1) 0)) COST (i + 1) [] g) refl))

-- what is said of a word with its place is so of the list's word
pub placed : (P : Kind → ℕ → ℕ → Type 0) (ws : List ℕ) (i : ℕ) (w : PlacedWord) → IsAt ws i w → P w.kind w.payload.0 w.at → P (kind (get_or ws i 0)) (payload (get_or ws i 0)) i
placed P ws i w e f = subst (λ a. P (kind (get_or ws i 0)) (payload (get_or ws i 0)) a) e.2 (subst (λ p. P (kind (get_or ws i 0)) p w.at) e.1 (subst (λ k. P k w.payload.0 w.at) e.0 f))

-- the code's two words
pub pair_went : (I J : Items) (n : ℕ) (ws vs : List ℕ) (i j k : ℕ) (v w : PlacedWord) (s : Section) → Ready (LBlocks n) I → vs ≡ ws
    → TakesPlaced ws i (Ok v) j → first_failing (lblock_checks I v.kind v.payload.0 v.at) ≡ none
    → TakesPlaced vs j (Ok w) k → first_failing (cost_checks w.kind w.at) ≡ none
    → J ≡ pair_lblock I v.payload.0 w.payload.0 → s ≡ section_past_lblock n → Stepped (LBlocks n) I J ws i (Ok (Some s)) k
pair_went I J n ws vs i j k v w s r same t f u g e q =
    let x : TakesPlaced ws (i + 1) (Ok w) k = subst (λ j. TakesPlaced ws j (Ok w) k) t.2 (subst (λ vs. TakesPlaced vs j (Ok w) k) same u) in
    let fits : J ≡ pair_lblock I (payload (get_or ws i 0)) (payload (get_or ws (i + 1) 0)) = e ∙ ap₂ (pair_lblock I) t.1.1 x.1.1 in
    subst (λ s. Stepped (LBlocks n) I J ws i (Ok (Some s)) k) (sym q) (
      subst (Goes ws (state_of (LBlocks n) I) i (state_of (section_past_lblock n) J)) (sym x.2)
          (two_words I n ws i J x.0 (placed (λ k p a. first_failing (lblock_checks I k p a) ≡ none) ws i v t.1 f) (placed (λ k p a. first_failing (cost_checks k a) ≡ none) ws (i + 1) w x.1 g) fits),
      ready_past I n J (set_field v.payload.0) (tag_field v.payload.0) w.payload.0 r e,
      omega (arith, x.2),
      omega (arith, x.0, x.2),
    )
