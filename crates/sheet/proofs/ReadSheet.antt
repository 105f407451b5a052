-- The sheets that are accepted fit, and their words are the words read. Assumes nothing.
use Rattle.std.proofs.Common.{◌≡◌, ℕ, suc, ◌+◌, ◌-◌, ◌^◌, ◌<◌, ◌≤◌, Bool, true, false, cond, not, eqb, ltb, leb, ◌≢◌, List, [], ◌∷◌, ◌++◌, map, length, sum_by, sym, refl, ap, ◌∙◌, subst, ap₂, ⊎_elim, add-zero, zero-add, arith}
use mathlib.Core.Option.{Option, none, some}
use Rattle.std.specs.List.{ContainsAt as Has, AllByRecursion}
use Rattle.std.proofs.lemmas.List.{append_assoc, append-nil, length-append, length_push, map-append}
use Rattle.std.proofs.ByRecursion.{All-push, All-weaker, All-get_or, All-map}
use Rattle.std.proofs.lemmas.List.Sums.{sum_by_push}
use Rattle.std.proofs.lemmas.Bool.{false≢true, eqb-true, eqb-false, not-true, ltb-true, ltb-false, and_parts, leb-true, cases_eq}
use Rattle.std.proofs.lemmas.Nat.{mod_below, shr_below}
use Rattle.words.specs.Lists.{below, any, joined}
use Rattle.sheet.specs.Sheet.{WellFormed, Sheet, LBlock, Edge, Loop, Fact, last_block, no_lblock}
use Rattle.sheet.specs.Conflict.{used_sets}
use Rattle.sheet.specs.ConflictList.{conflicts_of, conflicts}
use Rattle.sheet.specs.Walk.{edge, entry}
use Rattle.sheet.specs.Kinds.{Kind, NONE, HEAD, BLOCK, LBLOCK, COST, EDGE, LOOP, BACK, FACT, END}
use Rattle.words.specs.Words.{kind, payload, word, same_kind, one_of, fields, upper, lower, set_field, i_field, j_field, Answer, accepted, refused, refusal, too_many_conflicts, first_failing}
use Rattle.sheet.specs.ReadSheet.{Stand, at_head, at_first, at_lblock, at_cost, at_blocks, at_edges, in_loop, at_facts, State, due, open_loop, with_block, with_lblock, with_edge, with_loop, with_fact, with_back, closed, edge_of, loop_of, fact_of, lblock_of, same_edge, whole, checks, demands, next, passing, finished, read_from, read_sheet, start}
use Rattle.words.specs.Words.{ended, empty}
use Rattle.sheet.specs.SheetWords.{of_block, lblock_words, block_words, blocks_words, edge_word, loop_words, fact_word, sheet_words, encode, Distinct, LBlockFits, BlocksFit, EdgeFits, EdgesFit, LoopFits, LoopsFit, FactFits, FactsFit, PartsFit, Fits, FitsWellFormed}
use Rattle.words.proofs.Lists.{any_found, any_none}
use Rattle.words.proofs.Words.{payload_below, OneOf, is_one_of, all_hold, step_split, within_true, fields_split, fact_split, end_kind, due_word}
use Rattle.words.proofs.Lists.{joined_push}
use Rattle.sheet.proofs.SheetLists.{joined_below, distinct_push, of_other, of_same, joined_others, of_none, same_is, is_same, fetches_length}

-- a block that lacks n l-blocks: the blocks before it are whole
pub record Filling (n sets blocks : ℕ) (vs : List LBlock) : Type 0 where
  pub some_block : 1 ≤ blocks
  pub some_sets : 1 ≤ sets
  pub few_sets : sets ≤ 64
  pub few_blocks : blocks ≤ 128
  pub few_lblocks : length vs ≤ 512
  pub filled : (b : ℕ) → b < blocks - 1 → (1 ≤ length (of_block vs b)) × (length (of_block vs b) ≤ 16)
  pub lacking : 1 ≤ n
  pub room : length (of_block vs (blocks - 1)) + n ≤ 16
  pub in_order : vs ≡ joined (of_block vs) (below blocks)
  pub each : AllByRecursion (LBlockFits sets blocks) vs

-- a loop underway, after the loops ls
pub record LoopSoFar (blocks : ℕ) (es : List Edge) (ls : List Loop) (l : Loop) : Type 0 where
  pub before : LoopsFit blocks es ls
  pub few : length ls < 32
  pub few_backs : sum_by (λ l. length l.backs) (ls ++ (l ∷ [])) ≤ 64
  pub header_block : l.header < blocks
  pub bound_fits : l.bound < 2 ^ 14
  pub back_edges : AllByRecursion (λ b. Has es (edge b l.header)) l.backs
  pub distinct : Distinct l.backs
  pub new : AllByRecursion (λ h. h ≢ l.header) (map (λ l. l.header) ls)

pub record Bare (S : Sheet) : Type 0 where
  pub no_edges : S.edges ≡ []
  pub no_loops : S.loops ≡ []
  pub no_facts : S.facts ≡ []

abbrev pub Holds : Stand → Sheet → Type 0
Holds at_head S = (S.blocks ≡ 0) × (S.lblocks ≡ []) × Bare S
Holds at_first S = BlocksFit S.sets S.blocks S.lblocks × Bare S
Holds (at_lblock n) S = Filling n S.sets S.blocks S.lblocks × Bare S
Holds (at_cost n s t) S = Filling n S.sets S.blocks S.lblocks × Bare S × (s < S.sets) × (t < 2 ^ 20) × (length S.lblocks < 512)
Holds at_blocks S = PartsFit S × Bare S
Holds at_edges S = PartsFit S × (S.loops ≡ []) × (S.facts ≡ [])
Holds (in_loop l) S = PartsFit S × LoopSoFar S.blocks S.edges S.loops l × (S.facts ≡ [])
Holds at_facts S = PartsFit S

-- the words of whole blocks, and of those before and in a block that lacks n l-blocks
abbrev pub front_words : Sheet → List ℕ
front_words S = (word HEAD S.sets ∷ []) ++ blocks_words S.lblocks S.blocks

abbrev pub filling_words : ℕ → Sheet → List ℕ
filling_words n S =
    ((word HEAD S.sets ∷ []) ++ blocks_words S.lblocks (last_block S))
    ++ (word BLOCK (length (of_block S.lblocks (last_block S)) + n) ∷ joined lblock_words (of_block S.lblocks (last_block S)))

abbrev pub so_far : Stand → Sheet → List ℕ
so_far at_head S = []
so_far at_first S = front_words S
so_far (at_lblock n) S = filling_words n S
so_far (at_cost n s t) S = filling_words n S ++ (word LBLOCK (fields 20 s t) ∷ [])
so_far at_blocks S = sheet_words S
so_far at_edges S = sheet_words S
so_far (in_loop l) S = sheet_words (with_loop S l)
so_far at_facts S = sheet_words S

-- one word more
abbrev pub Step : Stand → Sheet → Kind → ℕ → Type 0
Step d S k p =
    Holds (next d S k p).stand (next d S k p).read
    × (so_far (next d S k p).stand (next d S k p).read ≡ so_far d S ++ (word k p ∷ []))

-- more words at the end of a part, where the parts after it are empty
module _ (x a b c : List ℕ) where
  nothing_more : a ≡ [] → b ≡ [] → c ≡ [] → x ++ a ++ b ++ c ≡ x
  nothing_more p q r = rw (p, q, r) (append-nil (x ++ [] ++ []) ∙ append-nil (x ++ []) ∙ append-nil x)

  push_a : (ws : List ℕ) → b ≡ [] → c ≡ [] → x ++ (a ++ ws) ++ b ++ c ≡ (x ++ a ++ b ++ c) ++ ws
  push_a ws q r =
      rw (q, r) (append-nil (x ++ (a ++ ws) ++ []) ∙ append-nil (x ++ (a ++ ws)) ∙ sym (append_assoc x a ws)
      ∙ ap (λ z. z ++ ws) (sym (append-nil (x ++ a ++ []) ∙ append-nil (x ++ a))))

  push_b : (ws : List ℕ) → c ≡ [] → x ++ a ++ (b ++ ws) ++ c ≡ (x ++ a ++ b ++ c) ++ ws
  push_b ws r =
      rw r (append-nil (x ++ a ++ (b ++ ws)) ∙ sym (append_assoc (x ++ a) b ws) ∙ ap (λ z. z ++ ws) (sym (append-nil (x ++ a ++ b))))

  push_c : (ws : List ℕ) → x ++ a ++ b ++ (c ++ ws) ≡ (x ++ a ++ b ++ c) ++ ws
  push_c ws = sym (append_assoc (x ++ a ++ b) c ws)

bare_words : (S : Sheet) → Bare S → sheet_words S ≡ front_words S
bare_words S b =
    nothing_more (front_words S) (map edge_word S.edges) (joined loop_words S.loops) (map fact_word S.facts)
    (ap (map edge_word) b.no_edges) (ap (joined loop_words) b.no_loops) (ap (map fact_word) b.no_facts)

no_edges_fit : (n : ℕ) (es : List Edge) → es ≡ [] → EdgesFit n es
no_edges_fit n es e = subst (EdgesFit n) (sym e) (record { few = omega arith; each = tt; distinct = tt })

no_loops_fit : (n : ℕ) (es : List Edge) (ls : List Loop) → ls ≡ [] → LoopsFit n es ls
no_loops_fit n es ls e = subst (LoopsFit n es) (sym e) (record { few = omega arith; few_backs = omega arith; each = tt; distinct = tt })

no_facts_fit : (n : ℕ) (fs : List Fact) → fs ≡ [] → FactsFit n fs
no_facts_fit n fs e = subst (FactsFit n) (sym e) (record { few = omega arith; each = tt })

bare_parts : (S : Sheet) → 1 ≤ S.blocks → BlocksFit S.sets S.blocks S.lblocks → Bare S → PartsFit S
bare_parts S h f b = record {
  some_block = h;
  blocks_fit = f;
  edges_fit = no_edges_fit S.blocks S.edges b.no_edges;
  loops_fit = no_loops_fit S.blocks S.edges S.loops b.no_loops;
  facts_fit = no_facts_fit S.blocks S.facts b.no_facts;
}

-- HEAD
head_step : (S : Sheet) (p : ℕ) → Holds at_head S → 1 ≤ p → p ≤ 64 → Step at_head S HEAD p
head_step S p h l u = (
  (
    record {
      some_sets = l;
      few_sets = u;
      few_blocks = omega (arith, h.0);
      few_lblocks = omega (arith, ap length h.1);
      filled = λ b k. absurd (omega (arith, h.0));
      in_order = h.1 ∙ sym (ap (λ n. joined (of_block S.lblocks) (below n)) h.0);
      each = subst (λ z. AllByRecursion (LBlockFits p S.blocks) z) (sym h.1) tt;
    },
    record { no_edges = h.2.no_edges; no_loops = h.2.no_loops; no_facts = h.2.no_facts },
  ),
  rw h.0 refl,
)

-- BLOCK
block_step : (S : Sheet) (p : ℕ) → BlocksFit S.sets S.blocks S.lblocks → Bare S → 1 ≤ p → p ≤ 16 → S.blocks < 128
    → Holds (at_lblock p) (with_block S) × (filling_words p (with_block S) ≡ front_words S ++ (word BLOCK p ∷ []))
block_step S p f b l u m = (
  (
    record {
      some_block = omega arith;
      some_sets = f.some_sets;
      few_sets = f.few_sets;
      few_blocks = omega arith;
      few_lblocks = f.few_lblocks;
      filled = λ b k. f.filled b (omega arith);
      lacking = l;
      room = rw (last, none_there) (omega arith);
      in_order = f.in_order ∙ sym (joined_below (of_block S.lblocks) S.blocks ∙ rw none_there (append-nil _));
      each = All-weaker _ _ (λ v k. record { in_block = omega (arith, k.in_block); in_set = k.in_set; tag_fits = k.tag_fits; hit_fits = k.hit_fits; extra_fits = k.extra_fits }) S.lblocks f.each;
    },
    record { no_edges = b.no_edges; no_loops = b.no_loops; no_facts = b.no_facts },
  ),
  rw (last, none_there) (ap (λ n. front_words S ++ (word BLOCK n ∷ [])) (zero-add p)),
)
  where
    last : suc S.blocks - 1 ≡ S.blocks
    last = omega arith

    none_there : of_block S.lblocks S.blocks ≡ []
    none_there = of_none S.lblocks S.blocks (All-weaker _ _ (λ v k. k.in_block) S.lblocks f.each)

-- LBLOCK
lblock_step : (n : ℕ) (S : Sheet) (p : ℕ) → Holds (at_lblock n) S → p < 2 ^ 28 → set_field p < S.sets → length S.lblocks < 512 → Step (at_lblock n) S LBLOCK p
lblock_step n S p h b s r = (
  (h.0, h.1, s, mod_below p (2 ^ 20) (omega arith), r),
  ap (λ x. filling_words n S ++ (word LBLOCK x ∷ [])) (fields_split 20 p),
)

-- COST
front_full : (hd : List ℕ) (vs : List LBlock) (b : ℕ)
    → hd ++ blocks_words vs (suc b) ≡ (hd ++ blocks_words vs b) ++ (word BLOCK (length (of_block vs b) + 0) ∷ joined lblock_words (of_block vs b))
front_full hd vs b =
    ap (λ z. hd ++ z) (joined_below (λ c. block_words (of_block vs c)) b)
    ∙ sym (append_assoc hd (blocks_words vs b) (block_words (of_block vs b)))
    ∙ ap (λ k. (hd ++ blocks_words vs b) ++ (word BLOCK k ∷ joined lblock_words (of_block vs b))) (sym (add-zero (length (of_block vs b))))

regroup : (x j : List ℕ) (w a c : ℕ) → x ++ (w ∷ (j ++ (a ∷ c ∷ []))) ≡ ((x ++ (w ∷ j)) ++ (a ∷ [])) ++ (c ∷ [])
regroup x j w a c = sym (append_assoc (x ++ (w ∷ j)) (a ∷ []) (c ∷ []) ∙ append_assoc x (w ∷ j) (a ∷ c ∷ []))

module _ (n s t : ℕ) (S : Sheet) (p : ℕ) (h : Holds (at_cost n s t) S) (pb : p < 2 ^ 28) where
  blocks_is : S.blocks ≡ suc (S.blocks - 1)
  blocks_is = omega (arith, h.0.some_block)

  v_fits : LBlockFits S.sets S.blocks (lblock_of (last_block S) s t p)
  v_fits = record { in_block = omega (arith, h.0.some_block); in_set = h.2; tag_fits = h.3; hit_fits = shr_below p 14 14 pb; extra_fits = mod_below p (2 ^ 14) (omega arith) }

  own_is : of_block (S.lblocks ++ (lblock_of (last_block S) s t p ∷ [])) (last_block S) ≡ of_block S.lblocks (last_block S) ++ (lblock_of (last_block S) s t p ∷ [])
  own_is = of_same S.lblocks (lblock_of (last_block S) s t p) (last_block S) refl

  own_length : length (of_block (S.lblocks ++ (lblock_of (last_block S) s t p ∷ [])) (last_block S)) ≡ length (of_block S.lblocks (last_block S)) + 1
  own_length = ap length own_is ∙ length_push (of_block S.lblocks (last_block S)) (lblock_of (last_block S) s t p)

  earlier : (c : ℕ) → c < S.blocks - 1 → (1 ≤ length (of_block (S.lblocks ++ (lblock_of (last_block S) s t p ∷ [])) c)) × (length (of_block (S.lblocks ++ (lblock_of (last_block S) s t p ∷ [])) c) ≤ 16)
  earlier c k = rw (of_other S.lblocks (lblock_of (last_block S) s t p) c (λ e. omega arith)) (h.0.filled c k)

  ordered : S.lblocks ++ (lblock_of (last_block S) s t p ∷ []) ≡ joined (of_block (S.lblocks ++ (lblock_of (last_block S) s t p ∷ []))) (below S.blocks)
  ordered =
      ap (λ z. z ++ (lblock_of (last_block S) s t p ∷ [])) (h.0.in_order ∙ ap (λ k. joined (of_block S.lblocks) (below k)) blocks_is ∙ joined_below (of_block S.lblocks) (last_block S))
      ∙ append_assoc (joined (of_block S.lblocks) (below (last_block S))) (of_block S.lblocks (last_block S)) (lblock_of (last_block S) s t p ∷ [])
      ∙ ap₂ ◌++◌ (sym (joined_others S.lblocks (lblock_of (last_block S) s t p) (λ z. z) (last_block S) (omega arith))) (sym own_is)
      ∙ sym (joined_below (of_block (S.lblocks ++ (lblock_of (last_block S) s t p ∷ []))) (last_block S))
      ∙ ap (λ k. joined (of_block (S.lblocks ++ (lblock_of (last_block S) s t p ∷ []))) (below k)) (sym blocks_is)

  all_fit : AllByRecursion (LBlockFits S.sets S.blocks) (S.lblocks ++ (lblock_of (last_block S) s t p ∷ []))
  all_fit = All-push (LBlockFits S.sets S.blocks) S.lblocks (lblock_of (last_block S) s t p) h.0.each v_fits

  cost_words : (m : ℕ) → suc m ≡ n → filling_words m (with_lblock S (lblock_of (last_block S) s t p)) ≡ so_far (at_cost n s t) S ++ (word COST p ∷ [])
  cost_words m e =
      ap₂ (λ (y z : List ℕ). ((word HEAD S.sets ∷ []) ++ y) ++ z)
      (joined_others S.lblocks (lblock_of (last_block S) s t p) block_words (last_block S) (omega arith))
      (ap₂ (λ (k : ℕ) (z : List ℕ). word BLOCK k ∷ z) (omega (arith, own_length))
      (ap (joined lblock_words) own_is ∙ joined_push lblock_words (of_block S.lblocks (last_block S)) (lblock_of (last_block S) s t p)
      ∙ ap (λ x. joined lblock_words (of_block S.lblocks (last_block S)) ++ (word LBLOCK (fields 20 s t) ∷ word COST x ∷ [])) (fields_split 14 p)))
      ∙ regroup ((word HEAD S.sets ∷ []) ++ blocks_words S.lblocks (last_block S)) (joined lblock_words (of_block S.lblocks (last_block S)))
      (word BLOCK (length (of_block S.lblocks (last_block S)) + n)) (word LBLOCK (fields 20 s t)) (word COST p)

  bare_still : Bare (with_lblock S (lblock_of (last_block S) s t p))
  bare_still = record { no_edges = h.1.no_edges; no_loops = h.1.no_loops; no_facts = h.1.no_facts }

  cost_step : Step (at_cost n s t) S COST p
  cost_step = go (ltb 1 n) refl
    where
      go : (t' : Bool) → ltb 1 n ≡ t'
          → Holds (cond t' (at_lblock (n - 1)) at_blocks) (with_lblock S (lblock_of (last_block S) s t p))
          × (so_far (cond t' (at_lblock (n - 1)) at_blocks) (with_lblock S (lblock_of (last_block S) s t p)) ≡ so_far (at_cost n s t) S ++ (word COST p ∷ []))
      go true e =
          let g = ltb-true 1 n e in (
            (
              record {
                some_block = h.0.some_block;
                some_sets = h.0.some_sets;
                few_sets = h.0.few_sets;
                few_blocks = h.0.few_blocks;
                few_lblocks = omega (arith, length_push S.lblocks (lblock_of (last_block S) s t p), h.4);
                filled = earlier;
                lacking = omega arith;
                room = omega (arith, own_length, h.0.room);
                in_order = ordered;
                each = all_fit;
              },
              bare_still,
            ),
            cost_words (n - 1) (omega arith),
          )
      go false e =
          let g = ltb-false 1 n e in
          let n1 : 1 ≡ n = omega (arith, h.0.lacking) in
          let T : Sheet = with_lblock S (lblock_of (last_block S) s t p) in (
            (
              bare_parts T h.0.some_block (record {
                some_sets = h.0.some_sets;
                few_sets = h.0.few_sets;
                few_blocks = h.0.few_blocks;
                few_lblocks = omega (arith, length_push S.lblocks (lblock_of (last_block S) s t p), h.4);
                filled = λ c k. ⊎_elim
                    (λ q. subst (λ x. (1 ≤ length (of_block T.lblocks x)) × (length (of_block T.lblocks x) ≤ 16)) (sym q) (omega (arith, own_length), omega (arith, own_length, h.0.room)))
                    (λ q. earlier c (omega arith))
                    (cases_eq c (S.blocks - 1));
                in_order = ordered;
                each = all_fit;
              }) bare_still,
              bare_still,
            ),
            bare_words T bare_still ∙ ap (λ k. (word HEAD S.sets ∷ []) ++ blocks_words T.lblocks k) blocks_is
                ∙ front_full (word HEAD S.sets ∷ []) T.lblocks (S.blocks - 1)
                ∙ cost_words 0 n1,
          )

-- EDGE
edge_step : (S : Sheet) (p i : ℕ) (rest : List ℕ) → PartsFit S → S.loops ≡ [] → S.facts ≡ []
    → AllByRecursion (λ c. c.holds ≡ true) (checks S none EDGE p i rest)
    → Holds at_edges (with_edge S (edge_of p)) × (sheet_words (with_edge S (edge_of p)) ≡ sheet_words S ++ (word EDGE p ∷ []))
edge_step S p i rest f nl nf h = (
  (
    record {
      some_block = f.some_block;
      blocks_fit = f.blocks_fit;
      edges_fit = record {
        few = omega (arith, length_push S.edges (edge_of p), ltb-true (length S.edges) 512 h.0);
        each = All-push (EdgeFits S.blocks) S.edges (edge_of p) f.edges_fit.each (record {
          from_block = ltb-true (upper p) S.blocks h.1.0;
          to_block = ltb-true (lower p) S.blocks h.1.1.0;
          not_into_start = eqb-false (lower p) 0 (not-true (eqb (lower p) 0) h.1.1.1.1.0);
          not_out_of_last = eqb-false (upper p) (last_block S) (not-true (eqb (upper p) (last_block S)) h.1.1.1.1.1.0);
        });
        distinct = distinct_push S.edges (edge_of p) f.edges_fit.distinct
            (All-weaker _ _ (λ e q r. false≢true (sym q ∙ is_same (edge_of p) e (sym r))) S.edges (any_none (same_edge (edge_of p)) S.edges (not-true (any (same_edge (edge_of p)) S.edges) h.1.1.1.0)));
      };
      loops_fit = no_loops_fit S.blocks (S.edges ++ (edge_of p ∷ [])) S.loops nl;
      facts_fit = f.facts_fit;
    },
    nl,
    nf,
  ),
  ap (λ z. front_words S ++ z ++ joined loop_words S.loops ++ map fact_word S.facts)
      (map-append edge_word S.edges (edge_of p ∷ []) ∙ ap (λ x. map edge_word S.edges ++ (word EDGE x ∷ [])) (fields_split 14 p))
      ∙ push_a (front_words S) (map edge_word S.edges) (joined loop_words S.loops) (map fact_word S.facts) (word EDGE p ∷ [])
      (ap (joined loop_words) nl) (ap (map fact_word) nf),
)

-- LOOP
loop_step : (S : Sheet) (p : ℕ) → PartsFit S → S.facts ≡ [] → length S.loops < 32 → upper p < S.blocks
    → any (λ l. eqb (upper p) l.header) S.loops ≡ false
    → Holds (in_loop (loop_of p)) S × (sheet_words (with_loop S (loop_of p)) ≡ sheet_words S ++ (word LOOP p ∷ []))
loop_step S p f nf few hb new = (
  (
    f,
    record {
      before = f.loops_fit;
      few = few;
      few_backs = omega (arith, f.loops_fit.few_backs, sum_by_push (λ l. length l.backs) S.loops (loop_of p));
      header_block = hb;
      bound_fits = mod_below p (2 ^ 14) (omega arith);
      back_edges = tt;
      distinct = tt;
      new = All-map (λ h. h ≢ upper p) (λ l. l.header) S.loops (All-weaker _ _ (λ l q r. eqb-false (upper p) l.header q (sym r)) S.loops (any_none _ S.loops new));
    },
    nf,
  ),
  ap (λ z. front_words S ++ map edge_word S.edges ++ z ++ map fact_word S.facts)
      (joined_push loop_words S.loops (loop_of p) ∙ ap (λ x. joined loop_words S.loops ++ (word LOOP x ∷ [])) (fields_split 14 p))
      ∙ push_b (front_words S) (map edge_word S.edges) (joined loop_words S.loops) (map fact_word S.facts) (word LOOP p ∷ []) (ap (map fact_word) nf),
)

-- BACK
back_step : (S : Sheet) (l : Loop) (p i : ℕ) (rest : List ℕ) → Holds (in_loop l) S → AllByRecursion (λ c. c.holds ≡ true) (checks S (some l) BACK p i rest) → Step (in_loop l) S BACK p
back_step S l p i rest h c = (
  (
    h.0,
    record {
      before = h.1.before;
      few = h.1.few;
      few_backs = omega (arith, ltb-true _ 64 c.0, sum_by_push (λ l. length l.backs) S.loops l, sum_by_push (λ l. length l.backs) S.loops (with_back l p), length_push l.backs p);
      header_block = h.1.header_block;
      bound_fits = h.1.bound_fits;
      back_edges = All-push (λ b. Has S.edges (edge b l.header)) l.backs p h.1.back_edges (subst (Has S.edges) (sym (same_is (edge p l.header) r.0 r.2)) r.1);
      distinct = distinct_push l.backs p h.1.distinct
          (All-weaker _ _ (λ b q e. eqb-false p b q (sym e)) l.backs (any_none (eqb p) l.backs (not-true (any (eqb p) l.backs) c.1.1.0)));
      new = h.1.new;
    },
    h.2,
  ),
  ap (λ z. front_words S ++ map edge_word S.edges ++ z ++ map fact_word S.facts)
      (joined_push loop_words S.loops (with_back l p) ∙ ap (λ z. joined loop_words S.loops ++ (word LOOP (fields 14 l.header l.bound) ∷ z)) (map-append (word BACK) l.backs (p ∷ []))
      ∙ sym (append_assoc (joined loop_words S.loops) (loop_words l) (word BACK p ∷ []))
      ∙ ap (λ z. z ++ (word BACK p ∷ [])) (sym (joined_push loop_words S.loops l)))
      ∙ push_b (front_words S) (map edge_word S.edges) (joined loop_words (S.loops ++ (l ∷ []))) (map fact_word S.facts) (word BACK p ∷ []) (ap (map fact_word) h.2),
)
  where
    r : (e : Edge) × Has S.edges e × (same_edge (edge p l.header) e ≡ true)
    r = any_found (same_edge (edge p l.header)) S.edges c.1.0

-- FACT
fact_step : (S : Sheet) (p : ℕ) → PartsFit S → length S.facts < 32 → i_field p < S.blocks → j_field p < S.blocks → eqb (i_field p) (j_field p) ≡ false
    → PartsFit (with_fact S (fact_of p)) × (sheet_words (with_fact S (fact_of p)) ≡ sheet_words S ++ (word FACT p ∷ []))
fact_step S p f few i j d = (
  record {
    some_block = f.some_block;
    blocks_fit = f.blocks_fit;
    edges_fit = f.edges_fit;
    loops_fit = f.loops_fit;
    facts_fit = record {
      few = omega (arith, length_push S.facts (fact_of p));
      each = All-push (FactFits S.blocks) S.facts (fact_of p) f.facts_fit.each (record { i_block = i; j_block = j; differ = eqb-false (i_field p) (j_field p) d; k_fits = mod_below p (2 ^ 14) (omega arith) });
    };
  },
  ap (λ z. front_words S ++ map edge_word S.edges ++ joined loop_words S.loops ++ z)
      (map-append fact_word S.facts (fact_of p ∷ []) ∙ ap (λ x. map fact_word S.facts ++ (word FACT x ∷ [])) (fact_split p))
      ∙ push_c (front_words S) (map edge_word S.edges) (joined loop_words S.loops) (map fact_word S.facts) (word FACT p ∷ []),
)

-- the word after a loop
some_of : (bs : List ℕ) → not (empty bs) ≡ true → 1 ≤ length bs
some_of [] t = absurd (false≢true t)
some_of (b ∷ bs) t = omega arith

pub closing : (d : Stand) (S : Sheet) → Holds d S → one_of END (due d) ≡ true → whole S (open_loop d) ≡ true
    → PartsFit (closed S (open_loop d)) × (so_far d S ≡ sheet_words (closed S (open_loop d)))
closing at_head S h o w = absurd (false≢true o)
closing at_first S h o w = absurd (false≢true o)
closing (at_lblock n) S h o w = absurd (false≢true o)
closing (at_cost n s t) S h o w = absurd (false≢true o)
closing at_blocks S h o w = (h.0, refl)
closing at_edges S h o w = (h.0, refl)
closing (in_loop l) S h o w = (
  record {
    some_block = h.0.some_block;
    blocks_fit = h.0.blocks_fit;
    edges_fit = h.0.edges_fit;
    loops_fit = record {
      few = omega (arith, length_push S.loops l, h.1.few);
      few_backs = h.1.few_backs;
      each = All-push (LoopFits S.blocks S.edges) S.loops l h.0.loops_fit.each (record {
        header_block = h.1.header_block;
        bound_fits = h.1.bound_fits;
        some_back = some_of l.backs r.0;
        back_edges = h.1.back_edges;
        distinct = h.1.distinct;
        entered = any_found (entry l) S.edges r.1;
      });
      distinct = subst Distinct (sym (map-append (λ l. l.header) S.loops (l ∷ []))) (distinct_push (map (λ l. l.header) S.loops) l.header h.0.loops_fit.distinct h.1.new);
    };
    facts_fit = h.0.facts_fit;
  },
  refl,
)
  where
    r : (not (empty l.backs) ≡ true) × (any (entry l) S.edges ≡ true)
    r = and_parts (not (empty l.backs)) (any (entry l) S.edges) w
closing at_facts S h o w = (h, refl)

pub closed_blocks : (S : Sheet) (o : Option Loop) → (closed S o).blocks ≡ S.blocks
closed_blocks S none = refl
closed_blocks S (some l) = refl

pub closed_facts : (S : Sheet) (o : Option Loop) → (closed S o).facts ≡ S.facts
closed_facts S none = refl
closed_facts S (some l) = refl

loop_at : (d : Stand) (S : Sheet) (p i : ℕ) (rest : List ℕ) → Holds d S → one_of END (due d) ≡ true → S.facts ≡ []
    → AllByRecursion (λ c. c.holds ≡ true) (checks S (open_loop d) LOOP p i rest) → Step d S LOOP p
loop_at d S p i rest h o nf c =
    let T : Sheet = closed S (open_loop d) in
    let k = closing d S h o c.1.0 in
    let r = loop_step T p k.0 (closed_facts S (open_loop d) ∙ nf) (ltb-true (length T.loops) 32 c.0)
    (subst (λ n. upper p < n) (sym (closed_blocks S (open_loop d))) (ltb-true (upper p) S.blocks c.1.1.0))
    (not-true (any (λ l. eqb (upper p) l.header) T.loops) c.1.1.1.0) in
    (r.0, r.1 ∙ ap (λ z. z ++ (word LOOP p ∷ [])) (sym k.1))

fact_at : (d : Stand) (S : Sheet) (p i : ℕ) (rest : List ℕ) → Holds d S → one_of END (due d) ≡ true
    → AllByRecursion (λ c. c.holds ≡ true) (checks S (open_loop d) FACT p i rest) → Step d S FACT p
fact_at d S p i rest h o c =
    let T : Sheet = closed S (open_loop d) in
    let k = closing d S h o c.1.0 in
    let r = fact_step T p k.0 (subst (λ fs. length fs < 32) (sym (closed_facts S (open_loop d))) (ltb-true (length S.facts) 32 c.0))
    (subst (λ n. i_field p < n) (sym (closed_blocks S (open_loop d))) (ltb-true (i_field p) S.blocks c.1.1.0))
    (subst (λ n. j_field p < n) (sym (closed_blocks S (open_loop d))) (ltb-true (j_field p) S.blocks c.1.1.1.0))
    (not-true (eqb (i_field p) (j_field p)) c.1.1.1.1.0) in
    (r.0, r.1 ∙ ap (λ z. z ++ (word FACT p ∷ [])) (sym k.1))

module _ (S : Sheet) (p i : ℕ) (rest : List ℕ) (b : p < 2 ^ 28) where
  -- a word of kind k that meets its checks and is not END
  abbrev pub Goes : Stand → Kind → Type 0
  Goes d k = AllByRecursion (λ c. c.holds ≡ true) (checks S (open_loop d) k p i rest) → same_kind k END ≡ false → Step d S k p

  no_end : (d : Stand) → Goes d END
  no_end d c n = absurd (false≢true (sym n))

  pub goes : (d : Stand) (k : Kind) → Holds d S → OneOf k (due d) → Goes d k
  goes at_head k h o = ⊎_elim (λ e. subst (Goes at_head) (sym e) (λ c n. let r = within_true 1 64 p c.0 in head_step S p h r.0 r.1)) (λ z. absurd z) o
  goes at_first k h o =
      ⊎_elim (λ e. subst (Goes at_first) (sym e) (λ c n. let r = within_true 1 16 p c.0 in block_step S p h.0 h.1 r.0 r.1 (ltb-true S.blocks 128 c.1.0)))
      (λ z. absurd z) o
  goes (at_lblock m) k h o =
      ⊎_elim (λ e. subst (Goes (at_lblock m)) (sym e) (λ c n. lblock_step m S p h b (ltb-true (set_field p) S.sets c.0) (ltb-true (length S.lblocks) 512 c.1.0)))
      (λ z. absurd z) o
  goes (at_cost m s t) k h o = ⊎_elim (λ e. subst (Goes (at_cost m s t)) (sym e) (λ c n. cost_step m s t S p h b)) (λ z. absurd z) o
  goes at_blocks k h o =
      ⊎_elim (λ e. subst (Goes at_blocks) (sym e) (λ c n.
      let r = within_true 1 16 p c.0 in
      let s = block_step S p h.0.blocks_fit h.1 r.0 r.1 (ltb-true S.blocks 128 c.1.0) in
      (s.0, s.1 ∙ ap (λ z. z ++ (word BLOCK p ∷ [])) (sym (bare_words S h.1)))))
      (⊎_elim (λ e. subst (Goes at_blocks) (sym e) (λ c n. edge_step S p i rest h.0 h.1.no_loops h.1.no_facts c))
      (⊎_elim (λ e. subst (Goes at_blocks) (sym e) (λ c n. loop_at at_blocks S p i rest h refl h.1.no_facts c))
      (⊎_elim (λ e. subst (Goes at_blocks) (sym e) (λ c n. fact_at at_blocks S p i rest h refl c))
      (⊎_elim (λ e. subst (Goes at_blocks) (sym e) (no_end at_blocks)) (λ z. absurd z))))) o
  goes at_edges k h o =
      ⊎_elim (λ e. subst (Goes at_edges) (sym e) (λ c n. edge_step S p i rest h.0 h.1 h.2 c))
      (⊎_elim (λ e. subst (Goes at_edges) (sym e) (λ c n. loop_at at_edges S p i rest h refl h.2 c))
      (⊎_elim (λ e. subst (Goes at_edges) (sym e) (λ c n. fact_at at_edges S p i rest h refl c))
      (⊎_elim (λ e. subst (Goes at_edges) (sym e) (no_end at_edges)) (λ z. absurd z)))) o
  goes (in_loop l) k h o =
      ⊎_elim (λ e. subst (Goes (in_loop l)) (sym e) (λ c n. back_step S l p i rest h c))
      (⊎_elim (λ e. subst (Goes (in_loop l)) (sym e) (λ c n. loop_at (in_loop l) S p i rest h refl h.2 c))
      (⊎_elim (λ e. subst (Goes (in_loop l)) (sym e) (λ c n. fact_at (in_loop l) S p i rest h refl c))
      (⊎_elim (λ e. subst (Goes (in_loop l)) (sym e) (no_end (in_loop l))) (λ z. absurd z)))) o
  goes at_facts k h o =
      ⊎_elim (λ e. subst (Goes at_facts) (sym e) (λ c n. fact_at at_facts S p i rest h refl c))
      (⊎_elim (λ e. subst (Goes at_facts) (sym e) (no_end at_facts)) (λ z. absurd z)) o

-- 9
passing_none : (S : Sheet) (ss : List ℕ) (t : ℕ) → t ≤ 4096 → passing S ss t ≡ none → t + length (joined (conflicts_of S) ss) ≤ 4096
passing_none S [] t h e = omega arith
passing_none S (s ∷ ss) t h e = go (leb (t + length (conflicts_of S s)) 4096) refl e (λ h e. passing_none S ss (t + length (conflicts_of S s)) h e)
  where
    total : ℕ
    total = t + length (conflicts_of S s)

    go : (b : Bool) → leb total 4096 ≡ b → ◌≡◌ {A = Option ℕ} (elim b [ true ↦ passing S ss total | false ↦ some s ]) none
        → (total ≤ 4096 → passing S ss total ≡ none → total + length (joined (conflicts_of S) ss) ≤ 4096)
        → t + length (conflicts_of S s ++ joined (conflicts_of S) ss) ≤ 4096
    go true q e more = omega (arith, more (leb-true total 4096 q) e, length-append (conflicts_of S s) (joined (conflicts_of S) ss))
    go false q e more = let z : ◌≡◌ {A = ℕ} 0 1 = cc in absurd (omega arith)

pub finished_is : (T R : Sheet) → finished T ≡ accepted R → (T ≡ R) × (length (conflicts T) ≤ 4096)
finished_is T R e = go (passing T (used_sets T) 0) refl e
  where
    go : (o : Option ℕ) → passing T (used_sets T) 0 ≡ o
        → ◌≡◌ {A = Answer Sheet} (elim o [ none ↦ accepted T | some s ↦ refused (refusal too_many_conflicts s) ]) (accepted R)
        → (T ≡ R) × (length (conflicts T) ≤ 4096)
    go none q e = (cc, omega (arith, passing_none T (used_sets T) 0 (omega arith) q))
    go (some s) q e = let z : ◌≡◌ {A = ℕ} 0 1 = cc in absurd (omega arith)

-- END
done : (d : Stand) (S R : Sheet) (p i : ℕ) (rest : List ℕ) → Holds d S → one_of END (due d) ≡ true
    → AllByRecursion (λ c. c.holds ≡ true) (checks S (open_loop d) END p i rest) → i ≡ length (so_far d S)
    → finished (closed S (open_loop d)) ≡ accepted R
    → (so_far d S ++ (word END p ∷ rest) ≡ encode R) × Fits R
done d S R p i rest h o c li e = go rest c.1.1.0
  where
    T : Sheet
    T = closed S (open_loop d)

    k : PartsFit (closed S (open_loop d)) × (so_far d S ≡ sheet_words (closed S (open_loop d)))
    k = closing d S h o c.1.0

    r : (closed S (open_loop d) ≡ R) × (length (conflicts (closed S (open_loop d))) ≤ 4096)
    r = finished_is (closed S (open_loop d)) R e

    q : p ≡ length (so_far d S)
    q = eqb-true p i c.0 ∙ li

    fits : Fits (closed S (open_loop d))
    fits = record { parts = k.0; few_conflicts = r.1 }

    go : (rest : List ℕ) → empty rest ≡ true → (so_far d S ++ (word END p ∷ rest) ≡ encode R) × Fits R
    go [] t = (ap (λ x. so_far d S ++ (word END x ∷ [])) q ∙ ap ended (k.1 ∙ ap sheet_words r.0), subst Fits r.0 fits)
    go (w ∷ ws) t = absurd (false≢true t)

due_some : (d : Stand) → one_of NONE (due d) ≡ false
due_some at_head = refl
due_some at_first = refl
due_some (at_lblock n) = refl
due_some (at_cost n s t) = refl
due_some at_blocks = refl
due_some at_edges = refl
due_some (in_loop l) = refl
due_some at_facts = refl

module _ (R : Sheet) where
  -- the words so far and those that are left are the sheet's
  sound : (ws : List ℕ) (st : State) (i : ℕ) → Holds st.stand st.read → i ≡ length (so_far st.stand st.read)
      → read_from st ws i ≡ accepted R → (so_far st.stand st.read ++ ws ≡ encode R) × Fits R
  sound [] st i inv li e = let z : ◌≡◌ {A = ℕ} 0 1 = cc in absurd (omega arith)
  sound (w ∷ rest) st i inv li e =
      let r = step_split (first_failing (demands st w i rest)) (same_kind (kind w) END) (finished (closed S (open_loop d))) (read_from (next d S (kind w) (payload w)) rest (suc i)) R e in
      let h = all_hold (demands st w i rest) r.0 in
      let q = due_word w (due d) h.0 (due_some d) in
      ⊎_elim
      (λ x.
      let k = end_kind (kind w) x.0 in
      let f = done d S R (payload w) i rest inv (subst (λ k. one_of k (due d) ≡ true) k h.0) (subst (λ k. AllByRecursion (λ c. c.holds ≡ true) (checks S (open_loop d) k (payload w) i rest)) k h.1) li x.1 in
      (ap (λ z. so_far d S ++ (z ∷ rest)) (q ∙ ap (λ k. word k (payload w)) k) ∙ f.0, f.1))
      (λ x.
      let s = goes S (payload w) i rest (payload_below w) d (kind w) inv (is_one_of (kind w) (due d) h.0) h.1 x.0 in
      let g = sound rest (next d S (kind w) (payload w)) (suc i) s.0 (omega (arith, li, ap length s.1, length_push (so_far d S) (word (kind w) (payload w)))) x.1 in
      (ap (λ z. so_far d S ++ (z ∷ rest)) q ∙ sym (append_assoc (so_far d S) (word (kind w) (payload w) ∷ []) rest) ∙ ap (λ z. z ++ rest) (sym s.1) ∙ g.0, g.1))
      r.1
    where
      d : Stand
      d = st.stand

      S : Sheet
      S = st.read

pub read_fits : (ws : List ℕ) (S : Sheet) → read_sheet ws ≡ accepted S → (ws ≡ encode S) × Fits S
read_fits ws S e = sound S ws start 0 (refl, refl, record { no_edges = refl; no_loops = refl; no_facts = refl }) refl e

-- a sheet that fits is well-formed
pub parts_well_formed : (S : Sheet) → PartsFit S → WellFormed S
parts_well_formed S f = record {
  starts = f.some_block;
  filled = λ b h. subst (λ n. 0 < n) (sym (fetches_length S b)) (f.blocks_fit.filled b h).0;
  few_sets = f.blocks_fit.few_sets;
  in_sets = λ v h. All-get_or (λ x. x.set < S.sets) S.lblocks v no_lblock h (All-weaker _ _ (λ x k. k.in_set) S.lblocks f.blocks_fit.each);
  joins_blocks = All-weaker _ _ (λ e k. (k.from_block, k.to_block)) S.edges f.edges_fit.each;
}

pub fits_well_formed : FitsWellFormed
fits_well_formed S f = parts_well_formed S f.parts
