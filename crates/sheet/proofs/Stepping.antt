-- For code: a turn of the reader's loop, and what it comes to at the end. Assumes nothing.
use Rattle.std.proofs.Common.{◌≡◌, ℕ, ◌+◌, ◌<◌, true, List, length, get_or, drop, Some, None, Ok, Err, Option as Maybe, Result, sym, refl, ap, ◌∙◌, subst, arith}
use mathlib.Core.Option.{none}
use Rattle.std.specs.List.{AllByRecursion}
use Rattle.std.proofs.lemmas.Bool.{false≢true}
use Rattle.words.specs.Words.{kind, payload, same_kind, one_of, first_failing, refused}
use Rattle.words.proofs.Words.{all_hold, payload_below, is_one_of, end_kind}
use Rattle.sheet.specs.Kinds.{END}
use Rattle.sheet.specs.declared.fault.SheetFault.{SheetFault}
use Rattle.sheet.specs.declared.section.Section.{Section}
use Rattle.sheet.specs.declared.section.Section.TheVariants.{Head, First, LBlocks, Blocks, Edges, Loop, Facts}
use Rattle.sheet.specs.Faults.{sheet_refusal}
use Rattle.sheet.specs.ReadSheet.{State, due, open_loop, checks, demands, finished, read_from, read_sheet, start}
use Rattle.sheet.specs.SheetWords.{PartsFit}
use Rattle.sheet.specs.BlockTable.{Laid}
use Rattle.sheet.proofs.ReadSheet.{Holds, goes, closing}
use Rattle.sheet.specs.Drafts.{Items, sheet_of}
use Rattle.sheet.specs.Sections.{no_items, state_of, Ready, lacking_in, Turn, Stepped, Goes, stays, takes}
use Rattle.sheet.proofs.Laid.{laid_none}
use Rattle.sheet.proofs.Turns.{closed_is}
use Rattle.sheet.specs.declared.draft.placed.PlacedWord.{PlacedWord}
use Rattle.sheet.specs.Placed.{TakesPlaced}
use Rattle.sheet.proofs.Pairs.{placed}
use Rattle.sheet.proofs.ReadSteps.{sheet_refused, sheet_goes_on, sheet_ends}

-- one word
module _ (ws : List ℕ) (s : Section) (I J : Items) (i : ℕ) (l : i < length ws) (ready : Ready s I) where
  turned : (r : Result (Maybe Section) SheetFault) → Turn s I (kind (get_or ws i 0)) (payload (get_or ws i 0)) i (drop (i + 1) ws) r J → Stepped s I J ws i r (i + 1)
  turned (Ok (Some t)) f = (subst (λ z. Goes ws (state_of s I) i z (i + 1)) f.2 (takes stays l f.0 f.1), f.3, omega arith, omega arith)
  turned (Ok None) f = (l, f.0, f.1, f.2)
  turned (Err e) f = sheet_refused ws i l (state_of s I) (sheet_refusal e) f

pub word_steps : (ws : List ℕ) (s : Section) (I J : Items) (i : ℕ) (ready : Ready s I) (vs : List ℕ) (r : Result (Maybe Section) SheetFault) (w : PlacedWord) (j : ℕ) → vs ≡ ws → TakesPlaced ws i (Ok w) j
    → Turn s I w.kind w.payload.0 w.at (drop (w.at + 1) vs) r J → Stepped s I J ws i r j
word_steps ws s I J i ready vs r w j v f t =
    subst (Stepped s I J ws i r) (sym f.2)
    (turned ws s I J i f.0 ready r (placed (λ k p a. Turn s I k p a (drop (a + 1) ws) r J) ws i w f.1 (subst (λ vs. Turn s I w.kind w.payload.0 w.at (drop (w.at + 1) vs) r J) v t)))

pub none_lacks : (s : Section) → ((n : ℕ) → s ≡ LBlocks n → ⊥) → lacking_in s ≡ 0
none_lacks Head h = refl
none_lacks First h = refl
none_lacks (LBlocks n) h = absurd (h n refl)
none_lacks Blocks h = refl
none_lacks Edges h = refl
none_lacks (Loop n d) h = refl
none_lacks Facts h = refl

-- where the words lead, reading goes on
module _ (ws : List ℕ) (a : State) (i : ℕ) where
  pub goes_reads : (b : State) (j : ℕ) → Goes ws a i b j → read_from a (drop i ws) i ≡ read_from b (drop j ws) j
  goes_reads b j stays = refl
  goes_reads b j (takes {b = c} {j = k} g l e n) = goes_reads c k g ∙ sheet_goes_on ws k l c e n

module _ (ws : List ℕ) (a : State) (i : ℕ) (b : State) (j : ℕ) (g : Goes ws a i b j) where
  pub goes_on : (c : State) (k : ℕ) → Goes ws b j c k → Goes ws a i c k
  goes_on c k stays = g
  goes_on c k (takes {b = d} {j = m} h l e n) = takes (goes_on d m h) l e n

-- what the states that are reached keep
start_holds : Holds start.stand start.read
start_holds = (refl, refl, record { no_edges = refl; no_loops = refl; no_facts = refl })

module _ (ws : List ℕ) where
  reached_holds : (b : State) (j : ℕ) → Goes ws start 0 b j → Holds b.stand b.read
  reached_holds b j stays = start_holds
  reached_holds b j (takes {b = c} {j = k} g l e n) =
      let h = all_hold (demands c (get_or ws k 0) k (drop (k + 1) ws)) e in
      (goes c.read (payload (get_or ws k 0)) k (drop (k + 1) ws) (payload_below (get_or ws k 0)) c.stand (kind (get_or ws k 0)) (reached_holds c k g) (is_one_of (kind (get_or ws k 0)) (due c.stand) h.0) h.1 n).0

  -- at END the items are the sheet's
  module _ (s : Section) (I : Items) (i : ℕ) (g : Goes ws start 0 (state_of s I) i) (ready : Ready s I) (l : i < length ws)
      (e : first_failing (demands (state_of s I) (get_or ws i 0) i (drop (i + 1) ws)) ≡ none) (n : same_kind (kind (get_or ws i 0)) END ≡ true) where
    pub read_finished : read_sheet ws ≡ finished (sheet_of I)
    read_finished = goes_reads ws start 0 (state_of s I) i g ∙ sheet_ends ws i l (state_of s I) e n ∙ ap finished (closed_is s I ready.is_open)

    pub read_parts : PartsFit (sheet_of I)
    read_parts =
        let h = all_hold (demands (state_of s I) (get_or ws i 0) i (drop (i + 1) ws)) e in
        let k = end_kind (kind (get_or ws i 0)) n in
        subst PartsFit (closed_is s I ready.is_open)
        (closing (state_of s I).stand (state_of s I).read (reached_holds (state_of s I) i g) (subst (λ k. one_of k (due (state_of s I).stand) ≡ true) k h.0)
        (subst (λ k. AllByRecursion (λ c. c.holds ≡ true) (checks (state_of s I).read (open_loop (state_of s I).stand) k (payload (get_or ws i 0)) i (drop (i + 1) ws))) k h.1).1.0).0

    pub read_laid : Laid I.blocks I.lblocks 0
    read_laid =
        let h = all_hold (demands (state_of s I) (get_or ws i 0) i (drop (i + 1) ws)) e in
        let k = end_kind (kind (get_or ws i 0)) n in
        subst (Laid I.blocks I.lblocks) (none_lacks s (λ m q. false≢true (subst (λ s. one_of END (due (state_of s I).stand) ≡ true) q (subst (λ k. one_of k (due (state_of s I).stand) ≡ true) k h.0)))) ready.laid

  -- a fault on the way is the answer
  pub read_refused : (s : Section) (I : Items) (i : ℕ) (x : SheetFault) → Goes ws start 0 (state_of s I) i → read_from (state_of s I) (drop i ws) i ≡ refused (sheet_refusal x) → read_sheet ws ≡ refused (sheet_refusal x)
  read_refused s I i x g e = goes_reads ws start 0 (state_of s I) i g ∙ e

-- the loop begins, goes round, ends and breaks off
pub loop_begins : (ws : List ℕ) (I : Items) (a : ℕ) → I ≡ no_items → a ≡ 0 → Goes ws start 0 (state_of Head I) a × Ready Head I
loop_begins ws I a e z = (
  subst (λ a. Goes ws start 0 (state_of Head I) a) (sym z) (subst (λ I. Goes ws start 0 (state_of Head I) 0) (sym e) stays),
  subst (Ready Head) (sym e) (record { is_open = tt; owned = tt; counted = refl; laid = laid_none }),
)

module _ (ws vs : List ℕ) (s : Section) (I J : Items) (i j : ℕ) (g : Goes ws start 0 (state_of s I) i) (v : vs ≡ ws) where
  pub loop_again : (o : Maybe Section) (t : Section) → o ≡ Some t → Stepped s I J vs i (Ok o) j → Goes ws start 0 (state_of t J) j × Ready t J
  loop_again o t q f = let k = subst (λ vs. Stepped s I J vs i (Ok (Some t)) j) v (subst (λ o. Stepped s I J vs i (Ok o) j) q f) in (goes_on ws start 0 (state_of s I) i g (state_of t J) j k.0, k.1)

  pub loop_ends : (o : Maybe Section) → o ≡ None → Ready s I → Stepped s I J vs i (Ok o) j → (read_sheet ws ≡ finished (sheet_of J)) × (PartsFit (sheet_of J) × Laid J.blocks J.lblocks 0)
  loop_ends o q r f =
      let k = subst (λ vs. Stepped s I J vs i (Ok None) j) v (subst (λ o. Stepped s I J vs i (Ok o) j) q f) in
      subst (λ J. (read_sheet ws ≡ finished (sheet_of J)) × (PartsFit (sheet_of J) × Laid J.blocks J.lblocks 0)) (sym k.3)
      (read_finished ws s I i g r k.0 k.1 k.2, (read_parts ws s I i g r k.0 k.1 k.2, read_laid ws s I i g r k.0 k.1 k.2))

  pub loop_breaks : (x : SheetFault) → Stepped s I J vs i (Err x) j → read_sheet ws ≡ refused (sheet_refusal x)
  loop_breaks x f = read_refused ws s I i x g (subst (λ vs. Stepped s I J vs i (Err x) j) v f)
