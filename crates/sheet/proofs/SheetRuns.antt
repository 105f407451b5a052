-- A sheet that fits is read off its words. Assumes nothing.
use Rattle.std.proofs.Common.{◌≡◌, ℕ, zero, suc, ◌+◌, ◌-◌, ◌*◌, ◌/◌, ◌%◌, ◌^◌, ◌<◌, ◌≤◌, Bool, true, false, not, eqb, ltb, leb, ◌≢◌, List, [], ◌∷◌, ◌++◌, map, length, sum_by, sym, refl, ap, ◌∙◌, subst, ap₂, zero-add, arith}
use mathlib.Core.Option.{Option, none, some}
use Rattle.std.specs.List.{ContainsAt as Has, AllByRecursion}
use Rattle.std.proofs.lemmas.List.{append_assoc, append-nil, length-append, length_push, length-map, map-append}
use Rattle.std.proofs.ByRecursion.{All-weaker, all_kept_by, kept_by_passes, all-has}
use Rattle.std.proofs.lemmas.List.Sums.{sum_by_push, sum_by-append, sum_by-cons}
use Rattle.std.proofs.lemmas.Bool.{eqb-true, eq-eqb, ne_eqb, lt-ltb, le-leb, and_from, or_from, not_from_false}
use Rattle.words.specs.Lists.{below, any, joined}
use Rattle.sheet.specs.Sheet.{Sheet, LBlock, Edge, Loop, Fact, last_block}
use Rattle.sheet.specs.Walk.{edge, entry}
use Rattle.sheet.specs.Conflict.{used_sets}
use Rattle.sheet.specs.ConflictList.{conflicts_of, conflicts}
use Rattle.sheet.specs.Kinds.{Kind, HEAD, BLOCK, LBLOCK, COST, EDGE, LOOP, BACK, FACT, END}
use Rattle.words.specs.Words.{kind, payload, word, same_kind, one_of, fields, upper, lower, set_field, tag_field, i_field, j_field, Answer, accepted, refused, refusal, too_many_conflicts, first_failing, empty}
use Rattle.sheet.specs.ReadSheet.{Stand, at_head, at_first, at_lblock, at_cost, at_blocks, at_edges, in_loop, at_facts, State, stands, due, open_loop, with_head, with_block, with_lblock, with_edge, with_loop, with_fact, with_back, closed, edge_of, loop_of, fact_of, lblock_of, same_edge, whole, checks, demands, lacks, next, passing, finished, read_from, read_sheet, start, nothing_read}
use Rattle.sheet.specs.SheetWords.{of_block, lblock_words, block_words, blocks_words, edge_word, loop_words, fact_word, sheet_words, encode, Distinct, LBlockFits, BlocksFit, EdgeFits, LoopFits, FactFits, PartsFit, Fits, ReadsSheets}
use Rattle.words.proofs.Lists.{any_has, all_unmap}
use Rattle.words.proofs.Words.{kind_word, payload_word, none_fails, step_on, step_end, true_within, high_field, low_field, i_split}
use Rattle.sheet.proofs.SheetLists.{joined_below, same_is, is_same}
use Rattle.sheet.proofs.ReadSheet.{read_fits, closed_blocks, closed_facts}

-- from a state over words to a state
record Runs (st : State) (ws : List ℕ) (st' : State) : Type 0 where
  on : (rest : List ℕ) (i : ℕ) → read_from st (ws ++ rest) i ≡ read_from st' rest (i + length ws)

runs_none : {st : State} → Runs st [] st
runs_none {st} = record { on = λ rest i. ap (read_from st rest) (omega arith) }

runs_on : {a b c : State} {ws us : List ℕ} → Runs a ws b → Runs b us c → Runs a (ws ++ us) c
runs_on {a} {b} {c} {ws} {us} f g = record {
  on = λ rest i.
      ap (λ z. read_from a z i) (append_assoc ws us rest) ∙ f.on (us ++ rest) i ∙ g.on rest (i + length ws)
      ∙ ap (read_from c rest) (omega (arith, length-append ws us));
}

module _ (d : Stand) (S : Sheet) (k : Kind) (p : ℕ) (b : p < 2 ^ 28) where
  met : (i : ℕ) (rest : List ℕ) → one_of k (due d) ≡ true → AllByRecursion (λ c. c.holds ≡ true) (checks S (open_loop d) k p i rest)
      → first_failing (demands (stands d S) (word k p) i rest) ≡ none
  met i rest o h =
      none_fails (demands (stands d S) (word k p) i rest) (
        subst (λ j. one_of j (due d) ≡ true) (sym (kind_word k p b)) o,
        subst (λ j. AllByRecursion (λ c. c.holds ≡ true) (checks S (open_loop d) j (payload (word k p)) i rest)) (sym (kind_word k p b))
            (subst (λ x. AllByRecursion (λ c. c.holds ≡ true) (checks S (open_loop d) k x i rest)) (sym (payload_word k p b)) h),
      )

  run_word : one_of k (due d) ≡ true → ((i : ℕ) (rest : List ℕ) → AllByRecursion (λ c. c.holds ≡ true) (checks S (open_loop d) k p i rest)) → same_kind k END ≡ false
      → Runs (stands d S) (word k p ∷ []) (next d S k p)
  run_word o h ne = record {
    on = λ rest i.
        step_on (first_failing (demands (stands d S) (word k p) i rest)) (same_kind (kind (word k p)) END) (finished (closed S (open_loop d)))
        (read_from (next d S (kind (word k p)) (payload (word k p))) rest (suc i)) (met i rest o (h i rest)) (subst (λ j. same_kind j END ≡ false) (sym (kind_word k p b)) ne)
        ∙ ap (λ j. read_from (next d S j (payload (word k p))) rest (suc i)) (kind_word k p b)
        ∙ ap (λ x. read_from (next d S k x) rest (suc i)) (payload_word k p b)
        ∙ ap (read_from (next d S k p) rest) (omega arith);
  }

-- HEAD
run_head : (n : ℕ) → 1 ≤ n → n ≤ 64 → Runs start (word HEAD n ∷ []) (stands at_first (with_head nothing_read n))
run_head n l u = run_word at_head nothing_read HEAD n (omega arith) refl (λ i rest. (true_within 1 64 n l u, tt)) refl

-- l-blocks
abbrev with_lblocks : Sheet → List LBlock → Sheet
with_lblocks S vs = record { sets = S.sets; blocks = S.blocks; lblocks = S.lblocks ++ vs; edges = S.edges; loops = S.loops; facts = S.facts }

lblock_back : (b : ℕ) (v : LBlock) → v.block ≡ b → v.tag < 2 ^ 20 → v.extra < 2 ^ 14
    → lblock_of b (set_field (fields 20 v.set v.tag)) (tag_field (fields 20 v.set v.tag)) (fields 14 v.hit v.extra) ≡ v
lblock_back b v e t x =
    rw (sym e, high_field 20 v.set v.tag t, low_field 20 v.set v.tag t, high_field 14 v.hit v.extra x, low_field 14 v.hit v.extra x) refl

run_lblock : (n : ℕ) (S : Sheet) (v : LBlock) → S.sets ≤ 64 → v.block ≡ last_block S → LBlockFits S.sets S.blocks v → length S.lblocks < 512
    → Runs (stands (at_lblock n) S) (lblock_words v) (stands (lacks n) (with_lblock S v))
run_lblock n S v s64 e f few =
    subst (λ x. Runs (stands (at_lblock n) S) (lblock_words v) (stands (lacks n) (with_lblock S x))) (lblock_back (last_block S) v e f.tag_fits f.extra_fits)
    (runs_on
    (run_word (at_lblock n) S LBLOCK (fields 20 v.set v.tag) (omega (arith, f.in_set, f.tag_fits)) refl
    (λ i rest. (rw (high_field 20 v.set v.tag f.tag_fits) (lt-ltb v.set S.sets f.in_set), (lt-ltb (length S.lblocks) 512 few, tt))) refl)
    (run_word (at_cost n (set_field (fields 20 v.set v.tag)) (tag_field (fields 20 v.set v.tag))) S COST (fields 14 v.hit v.extra)
    (omega (arith, f.hit_fits, f.extra_fits)) refl (λ i rest. tt) refl))

run_lblocks : (S : Sheet) (v : LBlock) (vs : List LBlock) → S.sets ≤ 64 → AllByRecursion (λ v. (v.block ≡ last_block S) × LBlockFits S.sets S.blocks v) (v ∷ vs)
    → length S.lblocks + suc (length vs) ≤ 512
    → Runs (stands (at_lblock (suc (length vs))) S) (joined lblock_words (v ∷ vs)) (stands at_blocks (with_lblocks S (v ∷ vs)))
run_lblocks S v [] s h few = run_lblock 1 S v s h.0.0 h.0.1 (omega arith)
run_lblocks S v (u ∷ vs) s h few =
    subst (λ z. Runs (stands (at_lblock (suc (suc (length vs)))) S) (lblock_words v ++ joined lblock_words (u ∷ vs)) (stands at_blocks (record { sets = S.sets; blocks = S.blocks; lblocks = z; edges = S.edges; loops = S.loops; facts = S.facts })))
    (append_assoc S.lblocks (v ∷ []) (u ∷ vs))
    (runs_on
    (subst (λ d. Runs (stands (at_lblock (suc (suc (length vs)))) S) (lblock_words v) (stands d (with_lblock S v))) lacks_is
    (run_lblock (suc (suc (length vs))) S v s h.0.0 h.0.1 (omega arith)))
    (run_lblocks (with_lblock S v) u vs s h.1 (omega (arith, length_push S.lblocks v))))
  where
    lacks_is : lacks (suc (suc (length vs))) ≡ at_lblock (suc (length vs))
    lacks_is = rw (lt-ltb 1 (suc (suc (length vs))) (omega arith)) (ap at_lblock (omega arith))

-- blocks
run_block : (d : Stand) (S : Sheet) (vs : List LBlock) → one_of BLOCK (due d) ≡ true → S.blocks < 128 → 1 ≤ length vs → length vs ≤ 16 → S.sets ≤ 64
    → AllByRecursion (λ v. (v.block ≡ S.blocks) × LBlockFits S.sets (suc S.blocks) v) vs → length S.lblocks + length vs ≤ 512
    → Runs (stands d S) (block_words vs) (stands at_blocks (with_lblocks (with_block S) vs))
run_block d S [] o few l u s h r = absurd (omega arith)
run_block d S (v ∷ vs) o few l u s h r =
    runs_on {ws = word BLOCK (suc (length vs)) ∷ []}
    (run_word d S BLOCK (suc (length vs)) (omega arith) o (λ i rest. (true_within 1 16 (suc (length vs)) l u, (lt-ltb S.blocks 128 few, tt))) refl)
    (run_lblocks (with_block S) v vs s (All-weaker _ _ (λ v k. (k.0 ∙ e, k.1)) (v ∷ vs) h) r)
  where
    e : S.blocks ≡ suc S.blocks - 1
    e = omega arith

-- the first n blocks of a sheet
abbrev front : Sheet → ℕ → Sheet
front S n = record { sets = S.sets; blocks = n; lblocks = joined (of_block S.lblocks) (below n); edges = []; loops = []; facts = [] }

abbrev after : ℕ → Stand
after zero = at_first
after (suc n) = at_blocks

after_due : (n : ℕ) → one_of BLOCK (due (after n)) ≡ true
after_due zero = refl
after_due (suc n) = refl

joined_grows : {B : Type 0} (f : ℕ → List B) (m d : ℕ) → length (joined f (below m)) ≤ length (joined f (below (m + d)))
joined_grows f m zero = ap_le (omega arith)
  where
    ap_le : m ≡ m + 0 → length (joined f (below m)) ≤ length (joined f (below (m + 0)))
    ap_le e = subst (λ k. length (joined f (below m)) ≤ length (joined f (below k))) e (omega arith)
joined_grows f m (suc d) =
    subst (λ k. length (joined f (below m)) ≤ length (joined f (below k))) e
    (omega (arith, joined_grows f m d, ap length (joined_below f (m + d)), length-append (joined f (below (m + d))) (f (m + d))))
  where
    e : suc (m + d) ≡ m + suc d
    e = omega arith

module _ (S : Sheet) (f : BlocksFit S.sets S.blocks S.lblocks) where
  front_few : (n : ℕ) → n < S.blocks → length (joined (of_block S.lblocks) (below n)) + length (of_block S.lblocks n) ≤ 512
  front_few n h =
      omega (
        arith,
        length-append (joined (of_block S.lblocks) (below n)) (of_block S.lblocks n),
        ap length (joined_below (of_block S.lblocks) n),
        subst (λ k. length (joined (of_block S.lblocks) (below (suc n))) ≤ length (joined (of_block S.lblocks) (below k))) e (joined_grows (of_block S.lblocks) (suc n) (S.blocks - suc n)),
        ap length f.in_order,
        f.few_lblocks,
      )
    where
      e : suc n + (S.blocks - suc n) ≡ S.blocks
      e = omega arith

  run_blocks : (n : ℕ) → n ≤ S.blocks → Runs (stands at_first (front S 0)) (blocks_words S.lblocks n) (stands (after n) (front S n))
  run_blocks zero h = runs_none
  run_blocks (suc n) h =
      subst (λ z. Runs (stands at_first (front S 0)) z (stands at_blocks (front S (suc n)))) (sym (joined_below (λ b. block_words (of_block S.lblocks b)) n))
      (runs_on (run_blocks n (omega arith))
      (subst (λ z. Runs (stands (after n) (front S n)) (block_words (of_block S.lblocks n)) (stands at_blocks (record { sets = S.sets; blocks = suc n; lblocks = z; edges = []; loops = []; facts = [] })))
      (sym (joined_below (of_block S.lblocks) n))
      (run_block (after n) (front S n) (of_block S.lblocks n) (after_due n) (omega (arith, f.few_blocks)) (f.filled n h).0 (f.filled n h).1 f.few_sets
      (own S.lblocks f.each) (front_few n h))))
    where
      own : (vs : List LBlock) → AllByRecursion (LBlockFits S.sets S.blocks) vs → AllByRecursion (λ v. (v.block ≡ n) × LBlockFits S.sets (suc n) v) (of_block vs n)
      own vs k = both (of_block vs n) (kept_by_passes (λ v. eqb v.block n) vs) (all_kept_by (λ v. eqb v.block n) (LBlockFits S.sets S.blocks) vs k)
        where
          both : (us : List LBlock) → AllByRecursion (λ v. eqb v.block n ≡ true) us → AllByRecursion (LBlockFits S.sets S.blocks) us → AllByRecursion (λ v. (v.block ≡ n) × LBlockFits S.sets (suc n) v) us
          both [] a b = tt
          both (u ∷ us) a b =
              let e = eqb-true u.block n a.0 in
              ((e, record { in_block = omega arith; in_set = b.0.in_set; tag_fits = b.0.tag_fits; hit_fits = b.0.hit_fits; extra_fits = b.0.extra_fits }), both us a.1 b.1)

-- no element passes
any_false : {A : Type 0} (p : A → Bool) (xs : List A) → AllByRecursion (λ x. p x ≡ false) xs → any p xs ≡ false
any_false p [] h = refl
any_false p (x ∷ xs) h = or_from (p x) (any p xs) h.0 (any_false p xs h.1)

-- an element is apart from those before it
distinct_mid : {A : Type 0} (xs : List A) (y : A) (ys : List A) → Distinct (xs ++ (y ∷ ys)) → AllByRecursion (λ x. x ≢ y) xs
distinct_mid [] y ys d = tt
distinct_mid (x ∷ xs) y ys d = (first xs d.0, distinct_mid xs y ys d.1)
  where
    first : (zs : List _) → AllByRecursion (λ z. x ≢ z) (zs ++ (y ∷ ys)) → x ≢ y
    first [] k = k.0
    first (z ∷ zs) k = first zs k.1

is_false : (t : Bool) → (t ≡ true → ⊥) → t ≡ false
is_false true h = absurd (h refl)
is_false false h = refl

-- The state of a sheet U whose last loop, if it has one, is whole, and after which an item of kind k may come.
record Ready (k : Kind) (d : Stand) (T U : Sheet) : Type 0 where
  takes : one_of k (due d) ≡ true
  fact_due : one_of FACT (due d) ≡ true
  end_due : one_of END (due d) ≡ true
  is_whole : whole T (open_loop d) ≡ true
  is : closed T (open_loop d) ≡ U

-- edges
abbrev with_edges : Sheet → List Edge → Sheet
with_edges S es = record { sets = S.sets; blocks = S.blocks; lblocks = S.lblocks; edges = S.edges ++ es; loops = S.loops; facts = S.facts }

record RunEdges (d : Stand) (S : Sheet) (es : List Edge) : Type 0 where
  stand : Stand
  loop_due : one_of LOOP (due stand) ≡ true
  fact_due : one_of FACT (due stand) ≡ true
  end_due : one_of END (due stand) ≡ true
  no_loop : open_loop stand ≡ none
  runs : Runs (stands d S) (map edge_word es) (stands stand (with_edges S es))

run_edge : (d : Stand) (S : Sheet) (e : Edge) → one_of EDGE (due d) ≡ true → S.blocks ≤ 128 → EdgeFits S.blocks e → length S.edges < 512 → AllByRecursion (λ x. x ≢ e) S.edges
    → Runs (stands d S) (edge_word e ∷ []) (stands at_edges (with_edge S e))
run_edge d S e o m f few new =
    subst (λ x. Runs (stands d S) (edge_word e ∷ []) (stands at_edges (with_edge S x))) back
    (run_word d S EDGE (fields 14 e.from e.to) (omega (arith, f.from_block, f.to_block)) o
    (λ i rest. (
      lt-ltb (length S.edges) 512 few,
      (
        rw u (lt-ltb e.from S.blocks f.from_block),
        (
          rw l (lt-ltb e.to S.blocks f.to_block),
          (
            rw back (not_from_false _ (any_false (same_edge e) S.edges (All-weaker _ _ (λ x n. is_false (same_edge e x) (λ t. n (sym (same_is e x t)))) S.edges new))),
            (
              rw l (not_from_false _ (ne_eqb e.to 0 f.not_into_start)),
              (rw u (not_from_false _ (ne_eqb e.from (last_block S) f.not_out_of_last)), tt),
            ),
          ),
        ),
      ),
    )) refl)
  where
    u : upper (fields 14 e.from e.to) ≡ e.from
    u = high_field 14 e.from e.to (omega (arith, f.to_block))

    l : lower (fields 14 e.from e.to) ≡ e.to
    l = low_field 14 e.from e.to (omega (arith, f.to_block))

    back : edge_of (fields 14 e.from e.to) ≡ e
    back = ap₂ edge u l

run_edges : (d : Stand) (S : Sheet) (es : List Edge) → one_of EDGE (due d) ≡ true → one_of LOOP (due d) ≡ true → one_of FACT (due d) ≡ true → one_of END (due d) ≡ true → open_loop d ≡ none
    → S.blocks ≤ 128 → AllByRecursion (EdgeFits S.blocks) es → length S.edges + length es ≤ 512 → Distinct (S.edges ++ es) → RunEdges d S es
run_edges d S [] oe ol of oend nl m f few dis = record {
  stand = d;
  loop_due = ol;
  fact_due = of;
  end_due = oend;
  no_loop = nl;
  runs = subst (λ z. Runs (stands d S) [] (stands d (record { sets = S.sets; blocks = S.blocks; lblocks = S.lblocks; edges = z; loops = S.loops; facts = S.facts }))) (sym (append-nil S.edges)) runs_none;
}
run_edges d S (e ∷ es) oe ol of oend nl m f few dis =
    let r = run_edges at_edges (with_edge S e) es refl refl refl refl refl m f.1 (omega (arith, length_push S.edges e)) (subst Distinct (sym (append_assoc S.edges (e ∷ []) es)) dis) in
    record {
      stand = r.stand;
      loop_due = r.loop_due;
      fact_due = r.fact_due;
      end_due = r.end_due;
      no_loop = r.no_loop;
      runs = subst (λ z. Runs (stands d S) (edge_word e ∷ map edge_word es) (stands r.stand (record { sets = S.sets; blocks = S.blocks; lblocks = S.lblocks; edges = z; loops = S.loops; facts = S.facts })))
          (append_assoc S.edges (e ∷ []) es)
          (runs_on {ws = edge_word e ∷ []} (run_edge d S e oe m f.0 (omega arith) (distinct_mid S.edges e es dis)) r.runs);
    }

-- loops
abbrev with_backs : Loop → List ℕ → Loop
with_backs l bs = record { header = l.header; bound = l.bound; backs = l.backs ++ bs }

run_backs : (S : Sheet) (l : Loop) (bs : List ℕ) → S.blocks ≤ 128 → AllByRecursion (EdgeFits S.blocks) S.edges → AllByRecursion (λ b. Has S.edges (edge b l.header)) bs → Distinct (l.backs ++ bs)
    → sum_by (λ l. length l.backs) S.loops + (length l.backs + length bs) ≤ 64
    → Runs (stands (in_loop l) S) (map (word BACK) bs) (stands (in_loop (with_backs l bs)) S)
run_backs S l [] m f h d few = subst (λ z. Runs (stands (in_loop l) S) [] (stands (in_loop (record { header = l.header; bound = l.bound; backs = z })) S)) (sym (append-nil l.backs)) runs_none
run_backs S l (b ∷ bs) m f h d few =
    subst (λ z. Runs (stands (in_loop l) S) (word BACK b ∷ map (word BACK) bs) (stands (in_loop (record { header = l.header; bound = l.bound; backs = z })) S)) (append_assoc l.backs (b ∷ []) bs)
    (runs_on {ws = word BACK b ∷ []}
    (run_word (in_loop l) S BACK b small refl
    (λ i rest. (
      lt-ltb (sum_by (λ l. length l.backs) (S.loops ++ (l ∷ []))) 64 (omega (arith, sum_by_push (λ l. length l.backs) S.loops l)),
      (
        any_has (same_edge (edge b l.header)) S.edges (edge b l.header) h.0 (is_same (edge b l.header) (edge b l.header) refl),
        (not_from_false _ (any_false (eqb b) l.backs (All-weaker _ _ (λ x n. ne_eqb b x (λ e. n (sym e))) l.backs (distinct_mid l.backs b bs d))), tt),
      ),
    )) refl)
    (run_backs S (with_back l b) bs m f h.1 (subst Distinct (sym (append_assoc l.backs (b ∷ []) bs)) d) (omega (arith, length_push l.backs b))))
  where
    small : b < 2 ^ 28
    small = omega (arith, (all-has (EdgeFits S.blocks) S.edges (edge b l.header) f h.0).from_block)

some_not_empty : (bs : List ℕ) → 1 ≤ length bs → not (empty bs) ≡ true
some_not_empty [] h = absurd (omega arith)
some_not_empty (b ∷ bs) h = refl

whole_is : (S : Sheet) (l : Loop) → LoopFits S.blocks S.edges l → whole S (some l) ≡ true
whole_is S l f = and_from (not (empty l.backs)) (any (entry l) S.edges) (some_not_empty l.backs f.some_back) (any_has (entry l) S.edges f.entered.0 f.entered.1 f.entered.2)

run_loop : (d : Stand) (T U : Sheet) (l : Loop) → Ready LOOP d T U → U.blocks ≤ 128 → AllByRecursion (EdgeFits U.blocks) U.edges → LoopFits U.blocks U.edges l
    → length U.loops < 32 → sum_by (λ l. length l.backs) U.loops + length l.backs ≤ 64 → AllByRecursion (λ x. x.header ≢ l.header) U.loops
    → Runs (stands d T) (loop_words l) (stands (in_loop l) U)
run_loop d T U l r m fe f few backs new =
    runs_on {ws = word LOOP (fields 14 l.header l.bound) ∷ []}
    (subst (λ V. Runs (stands d T) (word LOOP (fields 14 l.header l.bound) ∷ []) (stands (in_loop (record { header = l.header; bound = l.bound; backs = [] })) V)) r.is
    (subst (λ x. Runs (stands d T) (word LOOP (fields 14 l.header l.bound) ∷ []) (stands (in_loop x) (closed T (open_loop d)))) loop_back
    (run_word d T LOOP (fields 14 l.header l.bound) (omega (arith, f.header_block, f.bound_fits)) r.takes
    (λ i rest. (
      subst (λ V. ltb (length V.loops) 32 ≡ true) (sym r.is) (lt-ltb (length U.loops) 32 few),
      (
        r.is_whole,
        (
          rw u (lt-ltb l.header T.blocks (subst (λ n. l.header < n) blocks_same f.header_block)),
          (
            subst (λ V. not (any (λ x. eqb (upper (fields 14 l.header l.bound)) x.header) V.loops) ≡ true) (sym r.is)
                (rw u (not_from_false _ (any_false (λ x. eqb l.header x.header) U.loops (All-weaker _ _ (λ x n. ne_eqb l.header x.header (λ e. n (sym e))) U.loops new)))),
            tt,
          ),
        ),
      ),
    )) refl)))
    (run_backs U (record { header = l.header; bound = l.bound; backs = [] }) l.backs m fe f.back_edges f.distinct (omega arith))
  where
    u : upper (fields 14 l.header l.bound) ≡ l.header
    u = high_field 14 l.header l.bound f.bound_fits

    loop_back : loop_of (fields 14 l.header l.bound) ≡ record { header = l.header; bound = l.bound; backs = [] }
    loop_back = ap₂ (λ (a b : ℕ). record { header = a; bound = b; backs = [] }) u (low_field 14 l.header l.bound f.bound_fits)

    blocks_same : U.blocks ≡ T.blocks
    blocks_same = ap (λ V. V.blocks) (sym r.is) ∙ closed_blocks T (open_loop d)

abbrev with_loops : Sheet → List Loop → Sheet
with_loops S ls = record { sets = S.sets; blocks = S.blocks; lblocks = S.lblocks; edges = S.edges; loops = S.loops ++ ls; facts = S.facts }

record RunItems (k : Kind) (d : Stand) (T : Sheet) (ws : List ℕ) (U : Sheet) : Type 0 where
  stand : Stand
  read : Sheet
  ready : Ready k stand read U
  runs : Runs (stands d T) ws (stands stand read)

run_loops : (d : Stand) (T U : Sheet) (ls : List Loop) → Ready LOOP d T U → U.blocks ≤ 128 → AllByRecursion (EdgeFits U.blocks) U.edges → AllByRecursion (LoopFits U.blocks U.edges) ls
    → length U.loops + length ls ≤ 32 → sum_by (λ l. length l.backs) (U.loops ++ ls) ≤ 64 → Distinct (map (λ l. l.header) (U.loops ++ ls))
    → RunItems LOOP d T (joined loop_words ls) (with_loops U ls)
run_loops d T U [] r m fe f few backs dis = record {
  stand = d;
  read = T;
  ready = subst (λ z. Ready LOOP d T (record { sets = U.sets; blocks = U.blocks; lblocks = U.lblocks; edges = U.edges; loops = z; facts = U.facts })) (sym (append-nil U.loops)) r;
  runs = runs_none;
}
run_loops d T U (l ∷ ls) r m fe f few backs dis =
    let first : Runs (stands d T) (loop_words l) (stands (in_loop l) U) =
    run_loop d T U l r m fe f.0 (omega arith) (omega (arith, backs, sum_by-append (λ l. length l.backs) U.loops (l ∷ ls), sum_by-cons (λ l. length l.backs) l ls))
    (all_unmap (λ h. h ≢ l.header) (λ l. l.header) U.loops (distinct_mid (map (λ l. l.header) U.loops) l.header (map (λ l. l.header) ls) (subst Distinct (map-append (λ l. l.header) U.loops (l ∷ ls)) dis))) in
    let rest : RunItems LOOP (in_loop l) U (joined loop_words ls) (with_loops (with_loop U l) ls) =
    run_loops (in_loop l) U (with_loop U l) ls (record { takes = refl; fact_due = refl; end_due = refl; is_whole = whole_is U l f.0; is = refl }) m fe f.1
    (omega (arith, length_push U.loops l)) (subst (λ z. sum_by (λ l. length l.backs) z ≤ 64) (sym (append_assoc U.loops (l ∷ []) ls)) backs)
    (subst (λ z. Distinct (map (λ l. l.header) z)) (sym (append_assoc U.loops (l ∷ []) ls)) dis) in
    record {
      stand = rest.stand;
      read = rest.read;
      ready = subst (λ z. Ready LOOP rest.stand rest.read (record { sets = U.sets; blocks = U.blocks; lblocks = U.lblocks; edges = U.edges; loops = z; facts = U.facts })) (append_assoc U.loops (l ∷ []) ls) rest.ready;
      runs = runs_on first rest.runs;
    }

-- facts
abbrev with_facts : Sheet → List Fact → Sheet
with_facts S fs = record { sets = S.sets; blocks = S.blocks; lblocks = S.lblocks; edges = S.edges; loops = S.loops; facts = S.facts ++ fs }

run_fact : (d : Stand) (T U : Sheet) (f : Fact) → Ready FACT d T U → U.blocks ≤ 128 → FactFits U.blocks f → length U.facts < 32
    → Runs (stands d T) (fact_word f ∷ []) (stands at_facts (with_fact U f))
run_fact d T U f r m k few =
    subst (λ V. Runs (stands d T) (fact_word f ∷ []) (stands at_facts (with_fact V f))) r.is
    (subst (λ x. Runs (stands d T) (fact_word f ∷ []) (stands at_facts (with_fact (closed T (open_loop d)) x))) back
    (run_word d T FACT p (omega (arith, k.i_block, k.j_block, k.k_fits)) r.takes
    (λ i rest. (
      lt-ltb (length T.facts) 32 (subst (λ z. length z < 32) facts_same few),
      (
        r.is_whole,
        (
          rw ip (lt-ltb f.i T.blocks (subst (λ n. f.i < n) blocks_same k.i_block)),
          (
            rw jp (lt-ltb f.j T.blocks (subst (λ n. f.j < n) blocks_same k.j_block)),
            (rw (ip, jp) (not_from_false _ (ne_eqb f.i f.j k.differ)), tt),
          ),
        ),
      ),
    )) refl))
  where
    p : ℕ
    p = fields 14 (fields 7 f.i f.j) f.k

    top : p / 2 ^ 14 ≡ fields 7 f.i f.j
    top = high_field 14 (fields 7 f.i f.j) f.k k.k_fits

    ip : i_field p ≡ f.i
    ip = i_split p ∙ ap (λ n. n / 2 ^ 7) top ∙ high_field 7 f.i f.j (omega (arith, k.j_block))

    jp : j_field p ≡ f.j
    jp = ap (λ n. n % 2 ^ 7) top ∙ low_field 7 f.i f.j (omega (arith, k.j_block))

    back : fact_of p ≡ f
    back = rw (ip, jp, low_field 14 (fields 7 f.i f.j) f.k k.k_fits) refl

    blocks_same : U.blocks ≡ T.blocks
    blocks_same = ap (λ V. V.blocks) (sym r.is) ∙ closed_blocks T (open_loop d)

    facts_same : U.facts ≡ T.facts
    facts_same = ap (λ V. V.facts) (sym r.is) ∙ closed_facts T (open_loop d)

run_facts : (d : Stand) (T U : Sheet) (fs : List Fact) → Ready FACT d T U → U.blocks ≤ 128 → AllByRecursion (FactFits U.blocks) fs → length U.facts + length fs ≤ 32
    → RunItems FACT d T (map fact_word fs) (with_facts U fs)
run_facts d T U [] r m f few = record {
  stand = d;
  read = T;
  ready = subst (λ z. Ready FACT d T (record { sets = U.sets; blocks = U.blocks; lblocks = U.lblocks; edges = U.edges; loops = U.loops; facts = z })) (sym (append-nil U.facts)) r;
  runs = runs_none;
}
run_facts d T U (x ∷ fs) r m f few =
    let rest : RunItems FACT at_facts (with_fact U x) (map fact_word fs) (with_facts (with_fact U x) fs) =
    run_facts at_facts (with_fact U x) (with_fact U x) fs (record { takes = refl; fact_due = refl; end_due = refl; is_whole = refl; is = refl }) m f.1 (omega (arith, length_push U.facts x)) in
    record {
      stand = rest.stand;
      read = rest.read;
      ready = subst (λ z. Ready FACT rest.stand rest.read (record { sets = U.sets; blocks = U.blocks; lblocks = U.lblocks; edges = U.edges; loops = U.loops; facts = z })) (append_assoc U.facts (x ∷ []) fs) rest.ready;
      runs = runs_on {ws = fact_word x ∷ []} (run_fact d T U x r m f.0 (omega arith)) rest.runs;
    }

-- END
passing_fits : (S : Sheet) (ss : List ℕ) (t : ℕ) → t + length (joined (conflicts_of S) ss) ≤ 4096 → passing S ss t ≡ none
passing_fits S [] t h = refl
passing_fits S (s ∷ ss) t h =
    let n = length-append (conflicts_of S s) (joined (conflicts_of S) ss) in
    let e : leb (t + length (conflicts_of S s)) 4096 ≡ true = le-leb (t + length (conflicts_of S s)) 4096 (omega arith) in
    subst (λ b. ◌≡◌ {A = Option ℕ} (elim b [ true ↦ passing S ss (t + length (conflicts_of S s)) | false ↦ some s ]) none) (sym e) (passing_fits S ss (t + length (conflicts_of S s)) (omega arith))

finished_fits : (S : Sheet) → length (conflicts S) ≤ 4096 → finished S ≡ accepted S
finished_fits S h =
    subst (λ o. ◌≡◌ {A = Answer Sheet} (elim o [ none ↦ accepted S | some s ↦ refused (refusal too_many_conflicts s) ]) (accepted S)) (sym (passing_fits S (used_sets S) 0 (omega arith))) refl

run_end : (k : Kind) (d : Stand) (T U : Sheet) (i : ℕ) → Ready k d T U → length (conflicts U) ≤ 4096 → i < 2 ^ 28 → read_from (stands d T) (word END i ∷ []) i ≡ accepted U
run_end k d T U i r few b =
    step_end (first_failing (demands (stands d T) (word END i) i [])) (same_kind (kind (word END i)) END) (finished (closed T (open_loop d)))
    (read_from (next d T (kind (word END i)) (payload (word END i))) [] (suc i))
    (met d T END i b i [] r.end_due (eq-eqb i i refl, (r.is_whole, (refl, tt)))) (subst (λ j. same_kind j END ≡ true) (sym (kind_word END i b)) refl)
    ∙ ap finished r.is ∙ finished_fits U few

-- how many words there are
lblocks_count : (vs : List LBlock) → length (joined lblock_words vs) ≡ 2 * length vs
lblocks_count [] = refl
lblocks_count (v ∷ vs) = omega (arith, lblocks_count vs)

blocks_count : (vs : List LBlock) (n : ℕ) → length (blocks_words vs n) ≡ n + 2 * length (joined (of_block vs) (below n))
blocks_count vs zero = refl
blocks_count vs (suc n) =
    omega (
      arith,
      blocks_count vs n,
      lblocks_count (of_block vs n),
      ap length (joined_below (λ b. block_words (of_block vs b)) n),
      length-append (blocks_words vs n) (block_words (of_block vs n)),
      ap length (joined_below (of_block vs) n),
      length-append (joined (of_block vs) (below n)) (of_block vs n),
    )

loops_count : (ls : List Loop) → length (joined loop_words ls) ≡ length ls + sum_by (λ l. length l.backs) ls
loops_count [] = refl
loops_count (l ∷ ls) =
    omega (arith, loops_count ls, length-append (loop_words l) (joined loop_words ls), length-map l.backs (word BACK), sum_by-cons (λ l. length l.backs) l ls)

words_count : (S : Sheet) → PartsFit S → length (sheet_words S) < 2 ^ 28
words_count S f =
    omega (
      arith,
      length-append ((word HEAD S.sets ∷ []) ++ blocks_words S.lblocks S.blocks ++ map edge_word S.edges ++ joined loop_words S.loops) (map fact_word S.facts),
      length-append ((word HEAD S.sets ∷ []) ++ blocks_words S.lblocks S.blocks ++ map edge_word S.edges) (joined loop_words S.loops),
      length-append ((word HEAD S.sets ∷ []) ++ blocks_words S.lblocks S.blocks) (map edge_word S.edges),
      length-map S.facts fact_word,
      length-map S.edges edge_word,
      loops_count S.loops,
      blocks_count S.lblocks S.blocks,
      ap length f.blocks_fit.in_order,
      f.blocks_fit.few_blocks,
      f.blocks_fit.few_lblocks,
      f.edges_fit.few,
      f.loops_fit.few,
      f.loops_fit.few_backs,
      f.facts_fit.few,
    )

after_some : (n : ℕ) → 1 ≤ n → after n ≡ at_blocks
after_some zero h = absurd (omega arith)
after_some (suc n) h = refl

complete : (S : Sheet) → Fits S → read_sheet (encode S) ≡ accepted S
complete S f =
    (runs_on (runs_on (runs_on (runs_on
    (run_head S.sets bf.some_sets bf.few_sets)
    blocks_run)
    es.runs) ls.runs) fs.runs).on (word END (length (sheet_words S)) ∷ []) 0
    ∙ ap (read_from (stands fs.stand fs.read) (word END (length (sheet_words S)) ∷ [])) (zero-add (length (sheet_words S)))
    ∙ run_end FACT fs.stand fs.read S (length (sheet_words S)) fs.ready f.few_conflicts (words_count S f.parts)
  where
    bf : BlocksFit S.sets S.blocks S.lblocks
    bf = f.parts.blocks_fit

    only_blocks : Sheet
    only_blocks = record { sets = S.sets; blocks = S.blocks; lblocks = S.lblocks; edges = []; loops = []; facts = [] }

    blocks_run : Runs (stands at_first (front S 0)) (blocks_words S.lblocks S.blocks) (stands at_blocks only_blocks)
    blocks_run =
        subst (λ z. Runs (stands at_first (front S 0)) (blocks_words S.lblocks S.blocks) (stands at_blocks (record { sets = S.sets; blocks = S.blocks; lblocks = z; edges = []; loops = []; facts = [] }))) (sym bf.in_order)
        (subst (λ d. Runs (stands at_first (front S 0)) (blocks_words S.lblocks S.blocks) (stands d (front S S.blocks))) (after_some S.blocks f.parts.some_block)
        (run_blocks S bf S.blocks (omega arith)))

    es : RunEdges at_blocks only_blocks S.edges
    es = run_edges at_blocks only_blocks S.edges refl refl refl refl refl bf.few_blocks f.parts.edges_fit.each (omega (arith, f.parts.edges_fit.few)) f.parts.edges_fit.distinct

    with_them : Sheet
    with_them = with_edges only_blocks S.edges

    loop_ready : Ready LOOP es.stand with_them with_them
    loop_ready = record {
      takes = es.loop_due;
      fact_due = es.fact_due;
      end_due = es.end_due;
      is_whole = subst (λ o. whole with_them o ≡ true) (sym es.no_loop) refl;
      is = ap (closed with_them) es.no_loop;
    }

    ls : RunItems LOOP es.stand with_them (joined loop_words S.loops) (with_loops with_them S.loops)
    ls = run_loops es.stand with_them with_them S.loops loop_ready bf.few_blocks f.parts.edges_fit.each f.parts.loops_fit.each
        (omega (arith, f.parts.loops_fit.few)) f.parts.loops_fit.few_backs f.parts.loops_fit.distinct

    fact_ready : Ready FACT ls.stand ls.read (with_loops with_them S.loops)
    fact_ready = record { takes = ls.ready.fact_due; fact_due = ls.ready.fact_due; end_due = ls.ready.end_due; is_whole = ls.ready.is_whole; is = ls.ready.is }

    fs : RunItems FACT ls.stand ls.read (map fact_word S.facts) S
    fs = run_facts ls.stand ls.read (with_loops with_them S.loops) S.facts fact_ready bf.few_blocks f.parts.facts_fit.each (omega (arith, f.parts.facts_fit.few))

pub reads_sheets : ReadsSheets
reads_sheets ws S = (read_fits ws S, λ x. ap read_sheet x.0 ∙ complete S x.1)
