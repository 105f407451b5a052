-- For code: the items that the code holds, as the reader's state, one word after another. Assumes nothing.
use Rattle.std.proofs.Common.{◌≡◌, ℕ, suc, ◌+◌, ◌<◌, ◌≤◌, Bool, true, false, cond, not, ◌&&◌, ◌||◌, eqb, ltb, List, [], ◌∷◌, ◌++◌, map, length, get_or, take, Some, None, Ok, Err, sum_by, filter, Option as Maybe, Result, sym, refl, ap, ◌∙◌, subst, ap₂, add-zero, zero-add, arith}
use mathlib.Core.Option.{Option, none, some}
use Rattle.std.specs.List.{AllByRecursion}
use Rattle.std.proofs.lemmas.List.{take_more, take_all, take_at, length_push, get_or_push, map-append, append-nil}
use Rattle.std.proofs.lemmas.List.Elements.{filter-append}
use Rattle.std.proofs.ByRecursion.{All-push, All-weaker}
use Rattle.std.proofs.lemmas.List.Sums.{sum_by_push}
use Rattle.std.proofs.lemmas.Bool.{eq-eqb, ne_eqb, false≢true}
use Rattle.words.proofs.Checks.{passes}
use Rattle.words.proofs.Words.{all_hold, within_true}
use Rattle.words.specs.Lists.{any}
use Rattle.words.specs.Words.{upper, lower, i_field, j_field, empty, within, one_of, same_kind, Check, demand, first_failing, not_due, out_of_limit, too_many, wrong_loop, wrong_fact, wrong_end}
use Rattle.sheet.specs.Kinds.{Kind, BLOCK, LBLOCK, EDGE, LOOP, BACK, FACT, END, Refusal}
use Rattle.sheet.specs.declared.parts.BackEdge.{BackEdge}
use Rattle.sheet.specs.declared.parts.Loop.{Loop as Header}
use Rattle.sheet.specs.declared.section.Section.{Section}
use Rattle.sheet.specs.declared.section.Section.TheVariants.{Head, First, LBlocks, Blocks, Edges, Loop, Facts}
use Rattle.sheet.specs.Sheet as sheet
use Rattle.sheet.specs.Walk.{edge}
use Rattle.sheet.specs.ReadSheet.{due, open_loop, closed, back_words, whole, with_loop, with_block, with_fact, same_edge, checks, stands, at_lblock, in_loop, at_facts, fact_of}
use Rattle.sheet.specs.ReadSheet.{loop_of as spec_loop}
use Rattle.sheet.specs.BlockTable.{Laid}
use Rattle.sheet.specs.declared.fault.SheetFault.{SheetFault}
use Rattle.sheet.specs.Faults.{sheet_refusal}
use Rattle.sheet.specs.Drafts.{Items, sheet_of, backs_of, loop_of, loops_from, add_block, add_edge, add_loop, add_back, add_fact}
use Rattle.sheet.specs.Sections.{Ready, IsOpen, state_of, trial, before_loop, no_header, due_in, lacking_in, tried, Turn}
use Rattle.sheet.specs.Tried.{Added, whole_in, header_of, number_in, loop_checks, back_checks, fact_checks, end_checks}
use Rattle.sheet.proofs.Drafts.{some_back}
use Rattle.sheet.proofs.Laid.{laid_block}

-- back edges and loops, one more
pub back_own : (bs : List BackEdge) (k s : ℕ) → backs_of (bs ++ (record { owner = k; source = s } ∷ [])) k ≡ backs_of bs k ++ (s ∷ [])
back_own bs k s =
    ap (map (λ b. b.source)) (filter-append (λ b. eqb b.owner k) bs (record { owner = k; source = s } ∷ []) ∙ ap (λ t. filter (λ b. eqb b.owner k) bs ++ cond t (record { owner = k; source = s } ∷ []) []) (eq-eqb k k refl))
    ∙ map-append (λ b. b.source) (filter (λ b. eqb b.owner k) bs) (record { owner = k; source = s } ∷ [])

pub back_other : (bs : List BackEdge) (k o s : ℕ) → (o ≡ k → ⊥) → backs_of (bs ++ (record { owner = o; source = s } ∷ [])) k ≡ backs_of bs k
back_other bs k o s h =
    ap (map (λ b. b.source)) (filter-append (λ b. eqb b.owner k) bs (record { owner = o; source = s } ∷ []) ∙ ap (λ t. filter (λ b. eqb b.owner k) bs ++ cond t (record { owner = o; source = s } ∷ []) []) (ne_eqb o k h) ∙ append-nil _)

pub no_backs : (bs : List BackEdge) (k : ℕ) → AllByRecursion (λ b. b.owner < k) bs → backs_of bs k ≡ []
no_backs [] k h = refl
no_backs (b ∷ bs) k h = ap (λ t. map (λ b. b.source) (cond t (b ∷ filter (λ b. eqb b.owner k) bs) (filter (λ b. eqb b.owner k) bs))) (ne_eqb b.owner k (λ e. let l = h.0 in omega arith)) ∙ no_backs bs k h.1

pub loops_push : (bs : List BackEdge) (k : ℕ) (ls : List Header) (l : Header) → loops_from bs k (ls ++ (l ∷ [])) ≡ loops_from bs k ls ++ (loop_of bs (k + length ls) l ∷ [])
loops_push bs k [] l = ap (λ n. loop_of bs n l ∷ []) (sym (add-zero k))
loops_push bs k (x ∷ ls) l = ap (λ r. loop_of bs k x ∷ r) (loops_push bs (suc k) ls l ∙ ap (λ n. loops_from bs (suc k) ls ++ (loop_of bs n l ∷ [])) (omega arith))

pub loops_back : (bs : List BackEdge) (o s k : ℕ) (ls : List Header) → k + length ls ≤ o → loops_from (bs ++ (record { owner = o; source = s } ∷ [])) k ls ≡ loops_from bs k ls
loops_back bs o s k [] h = refl
loops_back bs o s k (x ∷ ls) h =
    ap₂ (λ (b : List ℕ) (r : List sheet.Loop). record { header = x.header; bound = x.bound; backs = b } ∷ r) (back_other bs k o s (λ e. omega arith)) (loops_back bs o s (suc k) ls (omega arith))

pub length-loops : (bs : List BackEdge) (k : ℕ) (ls : List Header) → length (loops_from bs k ls) ≡ length ls
length-loops bs k [] = refl
length-loops bs k (x ∷ ls) = ap suc (length-loops bs (suc k) ls)

pub any_headers : (h : ℕ) (bs : List BackEdge) (k : ℕ) (ls : List Header) → any (λ l. eqb h l.header) (loops_from bs k ls) ≡ any (λ l. eqb h l.header) ls
any_headers h bs k [] = refl
any_headers h bs k (x ∷ ls) = ap (λ r. eqb h x.header || r) (any_headers h bs (suc k) ls)

-- the last loop
module _ (I : Items) (n : ℕ) (e : suc n ≡ length I.loops) where
  pub last_loop : I.loops ≡ take n I.loops ++ (get_or I.loops n no_header ∷ [])
  last_loop = sym (take_all (n + 1) I.loops (omega arith)) ∙ take_more I.loops n no_header (omega arith)

  pub before_length : length (take n I.loops) ≡ n
  before_length = let h = ap length last_loop ∙ length_push (take n I.loops) (get_or I.loops n no_header) in omega arith

  pub closed_loop : with_loop (sheet_of (before_loop I n)) (loop_of I.backs n (get_or I.loops n no_header)) ≡ sheet_of I
  closed_loop = ap
      (λ ls. record { sets = I.sets; blocks = length I.blocks; lblocks = I.lblocks; edges = I.edges; loops = ls; facts = I.facts })
      (ap (λ k. loops_from I.backs 0 (take n I.loops) ++ (loop_of I.backs k (get_or I.loops n no_header) ∷ [])) (omega (arith, before_length))
      ∙ sym (loops_push I.backs 0 (take n I.loops) (get_or I.loops n no_header))
      ∙ ap (loops_from I.backs 0) (sym last_loop))

-- the sheet with the loop that is being read
pub closed_is : (s : Section) (I : Items) → IsOpen s I → closed (state_of s I).read (open_loop (state_of s I).stand) ≡ sheet_of I
closed_is Head I h = refl
closed_is First I h = refl
closed_is (LBlocks n) I h = refl
closed_is Blocks I h = refl
closed_is Edges I h = refl
closed_is (Loop n hd) I h = closed_loop I n h.0
closed_is Facts I h = refl

pub blocks_is : (s : Section) (I : Items) → (state_of s I).read.blocks ≡ length I.blocks
blocks_is Head I = refl
blocks_is First I = refl
blocks_is (LBlocks n) I = refl
blocks_is Blocks I = refl
blocks_is Edges I = refl
blocks_is (Loop n h) I = refl
blocks_is Facts I = refl

pub facts_is : (s : Section) (I : Items) → (state_of s I).read.facts ≡ I.facts
facts_is Head I = refl
facts_is First I = refl
facts_is (LBlocks n) I = refl
facts_is Blocks I = refl
facts_is Edges I = refl
facts_is (Loop n h) I = refl
facts_is Facts I = refl

pub due_is : (s : Section) (I : Items) → due (state_of s I).stand ≡ due_in s
due_is Head I = refl
due_is First I = refl
due_is (LBlocks n) I = refl
due_is Blocks I = refl
due_is Edges I = refl
due_is (Loop n h) I = refl
due_is Facts I = refl

-- whether the loop that is being read is whole
pub whole_is : (s : Section) (I : Items) → IsOpen s I → whole_in s I ≡ whole (state_of s I).read (open_loop (state_of s I).stand)
whole_is Head I h = refl
whole_is First I h = refl
whole_is (LBlocks n) I h = refl
whole_is Blocks I h = refl
whole_is Edges I h = refl
whole_is (Loop n hd) I h =
    ap₂ ◌&&◌ (sym (some_back n I.backs)) (ap (λ x. any (λ e. eqb e.to x && not (any (eqb e.from) (backs_of I.backs n))) I.edges) (sym h.1))
whole_is Facts I h = refl

-- the code's checks are the reader's
module _ (s : Section) (I : Items) (h : IsOpen s I) (p i : ℕ) (rest : List ℕ) where
  pub loop_trial : loop_checks s I p i ≡ trial s I LOOP p i rest
  loop_trial =
      let few : length I.loops ≡ length (closed (state_of s I).read (open_loop (state_of s I).stand)).loops = sym (ap (λ S. length S.loops) (closed_is s I h) ∙ length-loops I.backs 0 I.loops) in
      let new : any (λ l. eqb (upper p) l.header) I.loops ≡ any (λ l. eqb (upper p) l.header) (closed (state_of s I).read (open_loop (state_of s I).stand)).loops = sym (ap (λ S. any (λ l. eqb (upper p) l.header) S.loops) (closed_is s I h) ∙ any_headers (upper p) I.backs 0 I.loops) in
      let there : length I.blocks ≡ (state_of s I).read.blocks = sym (blocks_is s I) in
      let full = whole_is s I h in
      go _ _ _ _ _ _ _ _ few full there new
    where
      go : (a a' : ℕ) (b b' : Bool) (c c' : ℕ) (d d' : Bool) → a ≡ a' → b ≡ b' → c ≡ c' → d ≡ d'
          → ◌≡◌ {A = List Check}
          (demand (ltb a 32) too_many i ∷ demand b wrong_loop i ∷ demand (ltb (upper p) c) wrong_loop i ∷ demand (not d) wrong_loop i ∷ [])
          (demand (ltb a' 32) too_many i ∷ demand b' wrong_loop i ∷ demand (ltb (upper p) c') wrong_loop i ∷ demand (not d') wrong_loop i ∷ [])
      go a a' b b' c c' d d' e f g k = cc

  pub fact_trial : fact_checks s I p i ≡ trial s I FACT p i rest
  fact_trial = go _ _ _ _ _ _ (sym (ap length (facts_is s I))) (whole_is s I h) (sym (blocks_is s I))
    where
      go : (a a' : ℕ) (b b' : Bool) (c c' : ℕ) → a ≡ a' → b ≡ b' → c ≡ c'
          → ◌≡◌ {A = List Check}
          (demand (ltb a 32) too_many i ∷ demand b wrong_loop i ∷ demand (ltb (i_field p) c) wrong_fact i ∷ demand (ltb (j_field p) c) wrong_fact i ∷ demand (not (eqb (i_field p) (j_field p))) wrong_fact i ∷ [])
          (demand (ltb a' 32) too_many i ∷ demand b' wrong_loop i ∷ demand (ltb (i_field p) c') wrong_fact i ∷ demand (ltb (j_field p) c') wrong_fact i ∷ demand (not (eqb (i_field p) (j_field p))) wrong_fact i ∷ [])
      go a a' b b' c c' e f g = cc

  pub end_trial : end_checks s I p i rest ≡ trial s I END p i rest
  end_trial = ap (λ b. demand (eqb p i) wrong_end i ∷ demand b wrong_loop i ∷ demand (empty rest) wrong_end (suc i) ∷ []) (whole_is s I h)

pub back_trial : (s : Section) (I : Items) → Ready s I → one_of BACK (due_in s) ≡ true → (p i : ℕ) (rest : List ℕ) → back_checks s I p i ≡ trial s I BACK p i rest
back_trial Head I r d p i rest = absurd (false≢true d)
back_trial First I r d p i rest = absurd (false≢true d)
back_trial (LBlocks n) I r d p i rest = absurd (false≢true d)
back_trial Blocks I r d p i rest = absurd (false≢true d)
back_trial Edges I r d p i rest = absurd (false≢true d)
back_trial (Loop n hd) I r d p i rest = ap₂
    (λ (a h : ℕ). demand (ltb a 64) too_many i ∷ demand (any (same_edge (edge p h)) I.edges) wrong_loop i ∷ demand (not (any (eqb p) (backs_of I.backs n))) wrong_loop i ∷ [])
    (sym (ap back_words (closed_loop I n r.is_open.0) ∙ r.counted)) (sym r.is_open.1)
back_trial Facts I r d p i rest = absurd (false≢true d)

-- the items that a word adds are ready
ready_block : (s : Section) (I : Items) (p : ℕ) → lacking_in s ≡ 0 → Ready s I → 1 ≤ p → Ready (LBlocks p) (add_block I p)
ready_block s I p z r l = record {
  is_open = l;
  owned = r.owned;
  counted = r.counted;
  laid = laid_block I.blocks I.lblocks p (subst (Laid I.blocks I.lblocks) z r.laid) l;
}

ready_edge : (s : Section) (I : Items) (p : ℕ) → lacking_in s ≡ 0 → Ready s I → Ready Edges (add_edge I p)
ready_edge s I p z r = record { is_open = tt; owned = r.owned; counted = r.counted; laid = subst (Laid I.blocks I.lblocks) z r.laid }

ready_fact : (s : Section) (I : Items) (p : ℕ) → lacking_in s ≡ 0 → Ready s I → Ready Facts (add_fact I p)
ready_fact s I p z r = record { is_open = tt; owned = r.owned; counted = r.counted; laid = subst (Laid I.blocks I.lblocks) z r.laid }

ready_loop : (s : Section) (I : Items) (l : Header) → lacking_in s ≡ 0 → Ready s I → Ready (Loop (length I.loops) l.header) (add_loop I l)
ready_loop s I l z r = record {
  is_open = (omega (arith, length_push I.loops l), ap (λ x. x.header) (get_or_push I.loops l no_header (length I.loops) refl));
  owned = All-weaker _ _ (λ b h. omega (arith, length_push I.loops l)) I.backs r.owned;
  counted =
      ap (sum_by (λ l. length l.backs)) (loops_push I.backs 0 I.loops l)
      ∙ sum_by_push (λ l. length l.backs) (loops_from I.backs 0 I.loops) (loop_of I.backs (0 + length I.loops) l)
      ∙ omega (arith, r.counted, ap length (ap (backs_of I.backs) (zero-add (length I.loops)) ∙ no_backs I.backs (length I.loops) r.owned));
  laid = subst (Laid I.blocks I.lblocks) z r.laid;
}

ready_back : (n hd : ℕ) (I : Items) (p : ℕ) → Ready (Loop n hd) I → Ready (Loop n hd) (add_back I n p)
ready_back n hd I p r = record {
  is_open = r.is_open;
  owned = All-push _ I.backs new r.owned (omega (arith, r.is_open.0));
  counted =
      omega (
        arith,
        words_are (I.backs ++ (new ∷ [])),
        words_are I.backs,
        r.counted,
        length_push I.backs new,
        ap (sum_by (λ l. length l.backs)) (loops_back I.backs n p 0 (take n I.loops) (omega (arith, before_length I n r.is_open.0))),
        ap length (back_own I.backs n p),
        length_push (backs_of I.backs n) p,
      );
  laid = r.laid;
}
  where
    new : BackEdge
    new = record { owner = n; source = p }

    words_are : (bs : List BackEdge) → sum_by (λ l. length l.backs) (loops_from bs 0 I.loops) ≡ sum_by (λ l. length l.backs) (loops_from bs 0 (take n I.loops)) + length (backs_of bs n)
    words_are bs =
        ap (sum_by (λ l. length l.backs)) (ap (loops_from bs 0) (last_loop I n r.is_open.0) ∙ loops_push bs 0 (take n I.loops) (get_or I.loops n no_header))
        ∙ sum_by_push (λ l. length l.backs) (loops_from bs 0 (take n I.loops)) (loop_of bs (0 + length (take n I.loops)) (get_or I.loops n no_header))
        ∙ ap (λ k. sum_by (λ l. length l.backs) (loops_from bs 0 (take n I.loops)) + length (backs_of bs k)) (omega (arith, before_length I n r.is_open.0))

-- a word that is due
module _ (s : Section) (I : Items) (k : Kind) (p i : ℕ) (rest : List ℕ) where
  pub due_here : (o : Option Refusal) → one_of k (due_in s) ≡ true → first_failing (trial s I k p i rest) ≡ o → first_failing (tried s I k p i rest) ≡ o
  due_here o e h = passes (one_of k (due (state_of s I).stand)) not_due i (trial s I k p i rest) o (ap (one_of k) (due_is s I) ∙ e) h

-- a turn with each kind of word
module _ (I : Items) (p i : ℕ) (rest : List ℕ) where
  some_lblock : first_failing (checks (sheet_of I) none BLOCK p i []) ≡ none → 1 ≤ p
  some_lblock e = (within_true 1 16 p (all_hold (checks (sheet_of I) none BLOCK p i []) e).0).0

  one_block : with_block (sheet_of I) ≡ sheet_of (add_block I p)
  one_block = ap (λ n. record { sets = I.sets; blocks = n; lblocks = I.lblocks; edges = I.edges; loops = loops_from I.backs 0 I.loops; facts = I.facts }) (omega (arith, length_push I.blocks (record { first = length I.lblocks; lblocks = p })))

  pub block_turn : (s : Section) → Ready s I → one_of BLOCK (due_in s) ≡ true → first_failing (checks (sheet_of I) none BLOCK p i []) ≡ none → Turn s I BLOCK p i rest (Ok (Some (LBlocks p))) (add_block I p)
  block_turn Head r d e = absurd (false≢true d)
  block_turn First r d e = (due_here First I BLOCK p i rest none d e, refl, ap (stands (at_lblock p)) one_block, ready_block First I p refl r (some_lblock e))
  block_turn (LBlocks n) r d e = absurd (false≢true d)
  block_turn Blocks r d e = (due_here Blocks I BLOCK p i rest none d e, refl, ap (stands (at_lblock p)) one_block, ready_block Blocks I p refl r (some_lblock e))
  block_turn Edges r d e = absurd (false≢true d)
  block_turn (Loop n h) r d e = absurd (false≢true d)
  block_turn Facts r d e = absurd (false≢true d)

  pub edge_turn : (s : Section) → Ready s I → one_of EDGE (due_in s) ≡ true → first_failing (checks (sheet_of I) none EDGE p i []) ≡ none → Turn s I EDGE p i rest (Ok (Some Edges)) (add_edge I p)
  edge_turn Head r d e = absurd (false≢true d)
  edge_turn First r d e = absurd (false≢true d)
  edge_turn (LBlocks n) r d e = absurd (false≢true d)
  edge_turn Blocks r d e = (due_here Blocks I EDGE p i rest none d e, refl, refl, ready_edge Blocks I p refl r)
  edge_turn Edges r d e = (due_here Edges I EDGE p i rest none d e, refl, refl, ready_edge Edges I p refl r)
  edge_turn (Loop n h) r d e = absurd (false≢true d)
  edge_turn Facts r d e = absurd (false≢true d)

  -- in these sections no l-block is lacking
  none_lacking : (s : Section) (k : Kind) → same_kind k LBLOCK ≡ false → one_of k (due_in s) ≡ true → lacking_in s ≡ 0
  none_lacking Head k n d = refl
  none_lacking First k n d = refl
  none_lacking (LBlocks m) k n d = absurd (false≢true (sym (ap (λ b. b || false) n) ∙ d))
  none_lacking Blocks k n d = refl
  none_lacking Edges k n d = refl
  none_lacking (Loop m h) k n d = refl
  none_lacking Facts k n d = refl

  opened : Ready (Loop (length I.loops) (upper p)) (add_loop I (record { header = upper p; bound = lower p })) → AllByRecursion (λ b. b.owner < length I.loops) I.backs
      → stands (in_loop (spec_loop p)) (sheet_of I) ≡ state_of (Loop (length I.loops) (upper p)) (add_loop I (record { header = upper p; bound = lower p }))
  opened r o = ap₂
      (λ (l : sheet.Loop) (ls : List Header). stands (in_loop l) (record { sets = I.sets; blocks = length I.blocks; lblocks = I.lblocks; edges = I.edges; loops = loops_from I.backs 0 ls; facts = I.facts }))
      (ap₂ (λ (l : Header) (b : List ℕ). record { header = l.header; bound = l.bound; backs = b }) (sym (get_or_push I.loops (record { header = upper p; bound = lower p }) no_header (length I.loops) refl)) (sym (no_backs I.backs (length I.loops) o)))
      (sym (take_at I.loops (record { header = upper p; bound = lower p } ∷ []) (length I.loops) refl))

  pub loop_turn : (s : Section) → Ready s I → one_of LOOP (due_in s) ≡ true → first_failing (loop_checks s I p i) ≡ none
      → Turn s I LOOP p i rest (Ok (Some (Loop (length I.loops) (upper p)))) (add_loop I (record { header = upper p; bound = lower p }))
  loop_turn s r d e =
      let new = ready_loop s I (record { header = upper p; bound = lower p }) (none_lacking s LOOP refl d) r in (
        due_here s I LOOP p i rest none d (ap first_failing (sym (loop_trial s I r.is_open p i rest)) ∙ e),
        refl,
        ap (stands (in_loop (spec_loop p))) (closed_is s I r.is_open) ∙ opened new r.owned,
        new,
      )

  pub back_turn : (s : Section) → Ready s I → one_of BACK (due_in s) ≡ true → first_failing (back_checks s I p i) ≡ none → Turn s I BACK p i rest (Ok (Some s)) (add_back I (number_in s) p)
  back_turn Head r d e = absurd (false≢true d)
  back_turn First r d e = absurd (false≢true d)
  back_turn (LBlocks n) r d e = absurd (false≢true d)
  back_turn Blocks r d e = absurd (false≢true d)
  back_turn Edges r d e = absurd (false≢true d)
  back_turn (Loop n hd) r d e = (
    due_here (Loop n hd) I BACK p i rest none d (ap first_failing (sym (back_trial (Loop n hd) I r d p i rest)) ∙ e),
    refl,
    ap₂ (λ (b : List ℕ) (ls : List sheet.Loop). stands (in_loop (record { header = (get_or I.loops n no_header).header; bound = (get_or I.loops n no_header).bound; backs = b })) (record { sets = I.sets; blocks = length I.blocks; lblocks = I.lblocks; edges = I.edges; loops = ls; facts = I.facts }))
        (sym (back_own I.backs n p)) (sym (loops_back I.backs n p 0 (take n I.loops) (omega (arith, before_length I n r.is_open.0)))),
    ready_back n hd I p r,
  )
  back_turn Facts r d e = absurd (false≢true d)

  pub fact_turn : (s : Section) → Ready s I → one_of FACT (due_in s) ≡ true → first_failing (fact_checks s I p i) ≡ none → Turn s I FACT p i rest (Ok (Some Facts)) (add_fact I p)
  fact_turn s r d e = (
    due_here s I FACT p i rest none d (ap first_failing (sym (fact_trial s I r.is_open p i rest)) ∙ e),
    refl,
    ap (λ S. stands at_facts (with_fact S (fact_of p))) (closed_is s I r.is_open),
    ready_fact s I p (none_lacking s FACT refl d) r,
  )

  pub end_turn : (s : Section) → Ready s I → one_of END (due_in s) ≡ true → first_failing (end_checks s I p i rest) ≡ none → Turn s I END p i rest (Ok None) I
  end_turn s r d e = (due_here s I END p i rest none d (ap first_failing (sym (end_trial s I r.is_open p i rest)) ∙ e), refl, refl)

-- what is tried of a BLOCK and an EDGE does not depend on the loop that is being read
pub block_trial : (s : Section) (I : Items) (p i : ℕ) (rest : List ℕ) → checks (sheet_of I) none BLOCK p i [] ≡ trial s I BLOCK p i rest
block_trial s I p i rest = ap (λ n. demand (within 1 16 p) out_of_limit i ∷ demand (ltb n 128) too_many i ∷ []) (sym (blocks_is s I))

pub edge_trial : (s : Section) (I : Items) (p i : ℕ) (rest : List ℕ) → checks (sheet_of I) none EDGE p i [] ≡ trial s I EDGE p i rest
edge_trial Head I p i rest = refl
edge_trial First I p i rest = refl
edge_trial (LBlocks n) I p i rest = refl
edge_trial Blocks I p i rest = refl
edge_trial Edges I p i rest = refl
edge_trial (Loop n h) I p i rest = refl
edge_trial Facts I p i rest = refl

-- A word of kind j is taken, as the code has it: its checks are the reader's, and where they pass it is a turn.
taken : (s : Section) (I J K : Items) (k j : Kind) (p i : ℕ) (rest : List ℕ) (cs : List Check) (o : Maybe Section) (r : Result (Maybe Section) SheetFault) → k ≡ j → one_of k (due_in s) ≡ true
    → (one_of j (due_in s) ≡ true → cs ≡ trial s I j p i rest) → (one_of j (due_in s) ≡ true → first_failing cs ≡ none → Turn s I j p i rest (Ok o) K)
    → Added cs K o r J → Turn s I k p i rest r J
taken s I J K k j p i rest cs o (Ok y) q d c t f =
    subst (λ k. one_of k (due_in s) ≡ true → Turn s I k p i rest (Ok y) J) (sym q)
    (λ d. subst (λ y. Turn s I j p i rest (Ok y) J) (sym f.1) (subst (Turn s I j p i rest (Ok o)) (sym f.2) (t d f.0))) d
taken s I J K k j p i rest cs o (Err e) q d c t f =
    subst (λ k. one_of k (due_in s) ≡ true → Turn s I k p i rest (Err e) J) (sym q)
    (λ d. due_here s I j p i rest (some (sheet_refusal e)) d (ap first_failing (sym (c d)) ∙ f)) d

module _ (s : Section) (I J : Items) (k : Kind) (p i : ℕ) (rest : List ℕ) (r : Result (Maybe Section) SheetFault) (ready : Ready s I) (d : one_of k (due_in s) ≡ true) where
  pub block_taken : k ≡ BLOCK → Added (checks (sheet_of I) none BLOCK p i []) (add_block I p) (Some (LBlocks p)) r J → Turn s I k p i rest r J
  block_taken q = taken s I J (add_block I p) k BLOCK p i rest (checks (sheet_of I) none BLOCK p i []) (Some (LBlocks p)) r q d (λ e. block_trial s I p i rest) (block_turn I p i rest s ready)

  pub edge_taken : k ≡ EDGE → Added (checks (sheet_of I) none EDGE p i []) (add_edge I p) (Some Edges) r J → Turn s I k p i rest r J
  edge_taken q = taken s I J (add_edge I p) k EDGE p i rest (checks (sheet_of I) none EDGE p i []) (Some Edges) r q d (λ e. edge_trial s I p i rest) (edge_turn I p i rest s ready)

  pub loop_taken : k ≡ LOOP → Added (loop_checks s I p i) (add_loop I (header_of p)) (Some (Loop (length I.loops) (upper p))) r J → Turn s I k p i rest r J
  loop_taken q = taken s I J (add_loop I (header_of p)) k LOOP p i rest (loop_checks s I p i) (Some (Loop (length I.loops) (upper p))) r q d (λ e. loop_trial s I ready.is_open p i rest) (loop_turn I p i rest s ready)

  pub back_taken : k ≡ BACK → Added (back_checks s I p i) (add_back I (number_in s) p) (Some s) r J → Turn s I k p i rest r J
  back_taken q = taken s I J (add_back I (number_in s) p) k BACK p i rest (back_checks s I p i) (Some s) r q d (λ e. back_trial s I ready e p i rest) (back_turn I p i rest s ready)

  pub fact_taken : k ≡ FACT → Added (fact_checks s I p i) (add_fact I p) (Some Facts) r J → Turn s I k p i rest r J
  fact_taken q = taken s I J (add_fact I p) k FACT p i rest (fact_checks s I p i) (Some Facts) r q d (λ e. fact_trial s I ready.is_open p i rest) (fact_turn I p i rest s ready)

  pub end_taken : k ≡ END → Added (end_checks s I p i rest) I None r J → Turn s I k p i rest r J
  end_taken q = taken s I J I k END p i rest (end_checks s I p i rest) None r q d (λ e. end_trial s I ready.is_open p i rest) (end_turn I p i rest s ready)
