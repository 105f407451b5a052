-- A walk as a list of events, each an event of one column: a row's left side and the cost are sums over the events. Assumes nothing.
use Rattle.std.proofs.Common.{◌≡◌, ℕ, ◌+◌, ◌*◌, ◌≤◌, Bool, true, false, cond, ◌&&◌, eqb, List, ◌++◌, map, ℤ, pos, ◌+ℤ◌, ◌≤ℤ◌, refl, ◌∙◌, ap₂, arith}
use Rattle.std.proofs.lemmas.Int.{ints}
use Rattle.std.specs.List.{AllByRecursion}
use Rattle.std.proofs.ByRecursion.{All-append, All-map}
use Rattle.sheet.specs.Sheet.{Sheet, Loop, lblock, last_block}
use Rattle.claim.specs.Items.{Edge, Fact}
use Rattle.sheet.specs.Walk.{back, entry}
use Rattle.claim.specs.Items.{Conflict}
use Rattle.sheet.specs.Rows.{Column, N, T, M, P, Row, in_row, out_row, loop_row, fact_row, arrival_row, departure_row, set_row, miss_row, cost, coefficient, one_if, is_at, is_start, foreign}
use Rattle.words.proofs.Lists.{count}
use Rattle.claim.proofs.Sums.{sum_nat, sum_int, sum_nat_++, sum_nat_map, sum_nat_none, sum_int_++, sum_int_map, sum_int_none, sum_int_one, sum_int_neg, sum_int_ratio}

one_if_is : (t : Bool) → one_if t ≡ pos (cond t 1 0)
one_if_is true = refl
one_if_is false = refl

-- runs of blocks, uses of edges, misses of l-blocks, uses of conflict edges
abbrev pub events : List ℕ → List Edge → List ℕ → List Conflict → List Column
events ns ts ms ps = map N ns ++ map T ts ++ map M ms ++ map P ps

module _ (ns : List ℕ) (ts : List Edge) (ms : List ℕ) (ps : List Conflict) where
  pub all_events : (Q : Column → Type 0) → AllByRecursion (λ b. Q (N b)) ns → AllByRecursion (λ e. Q (T e)) ts → AllByRecursion (λ v. Q (M v)) ms → AllByRecursion (λ c. Q (P c)) ps
      → AllByRecursion Q (events ns ts ms ps)
  all_events Q n t m p =
      All-append Q (map N ns ++ map T ts ++ map M ms) (map P ps)
      (All-append Q (map N ns ++ map T ts) (map M ms)
      (All-append Q (map N ns) (map T ts) (All-map Q N ns n) (All-map Q T ts t))
      (All-map Q M ms m))
      (All-map Q P ps p)

  sum_events : (f : Column → ℤ)
      → sum_int f (events ns ts ms ps) ≡ sum_int (λ b. f (N b)) ns +ℤ sum_int (λ e. f (T e)) ts +ℤ sum_int (λ v. f (M v)) ms +ℤ sum_int (λ c. f (P c)) ps
  sum_events f =
      sum_int_++ f (map N ns ++ map T ts ++ map M ms) (map P ps)
      ∙ ap₂ ◌+ℤ◌ (sum_int_++ f (map N ns ++ map T ts) (map M ms)
      ∙ ap₂ ◌+ℤ◌ (sum_int_++ f (map N ns) (map T ts) ∙ ap₂ ◌+ℤ◌ (sum_int_map f N ns) (sum_int_map f T ts)) (sum_int_map f M ms)) (sum_int_map f P ps)

  pub cost_events : (S : Sheet) → sum_nat (cost S) (events ns ts ms ps) ≡ sum_nat (λ b. cost S (N b)) ns + sum_nat (λ v. (lblock S v).extra) ms
  cost_events S =
      sum_nat_++ (cost S) (map N ns ++ map T ts ++ map M ms) (map P ps)
      ∙ omega (
        arith,
        sum_nat_++ (cost S) (map N ns ++ map T ts) (map M ms),
        sum_nat_++ (cost S) (map N ns) (map T ts),
        sum_nat_map (cost S) N ns,
        sum_nat_map (cost S) T ts,
        sum_nat_map (cost S) M ms,
        sum_nat_map (cost S) P ps,
        sum_nat_none ts,
        sum_nat_none ps,
      )

  module _ (S : Sheet) where
    abbrev pub left_side : Row → ℤ
    left_side r = sum_int (coefficient S r) (events ns ts ms ps)

    pub in_holds : (b : ℕ) → count (eqb b) ns ≡ cond (eqb b 0) 1 0 + count (λ e. eqb b e.to) ts → left_side (in_row b) ≡ one_if (eqb b 0)
    in_holds b h =
        sum_events (coefficient S (in_row b))
        ∙ omega (arith, ints, sum_int_one (eqb b) ns, sum_int_neg (λ e. eqb b e.to) ts, sum_int_none ms, sum_int_none ps, one_if_is (eqb b 0), h)

    pub out_holds : (b : ℕ) → count (eqb b) ns ≡ cond (eqb b (last_block S)) 1 0 + count (λ e. eqb b e.from) ts
        → left_side (out_row b) ≡ one_if (eqb b (last_block S))
    out_holds b h =
        sum_events (coefficient S (out_row b))
        ∙ omega (arith, ints, sum_int_one (eqb b) ns, sum_int_neg (λ e. eqb b e.from) ts, sum_int_none ms, sum_int_none ps, one_if_is (eqb b (last_block S)), h)

    pub loop_holds : (l : Loop) → count (back l) ts ≤ l.bound * count (entry l) ts → left_side (loop_row l) ≤ℤ pos 0
    loop_holds l h = omega (arith, ints, sum_events (coefficient S (loop_row l)), sum_int_none ns, sum_int_ratio (back l) l.bound (entry l) ts, sum_int_none ms, sum_int_none ps)

    pub fact_holds : (f : Fact) → count (eqb f.i) ns ≤ f.k * count (eqb f.j) ns → left_side (fact_row f) ≤ℤ pos 0
    fact_holds f h = omega (arith, ints, sum_events (coefficient S (fact_row f)), sum_int_ratio (eqb f.i) f.k (eqb f.j) ns, sum_int_none ts, sum_int_none ms, sum_int_none ps)

    pub arrival_holds : (v : ℕ) → count (eqb (lblock S v).block) ns ≡ count (λ c. is_at v c.to) ps → left_side (arrival_row v) ≡ pos 0
    arrival_holds v h =
        sum_events (coefficient S (arrival_row v))
        ∙ omega (arith, ints, sum_int_one (eqb (lblock S v).block) ns, sum_int_none ts, sum_int_none ms, sum_int_neg (λ c. is_at v c.to) ps, h)

    pub departure_holds : (v : ℕ) → count (eqb (lblock S v).block) ns ≡ count (λ c. is_at v c.from) ps → left_side (departure_row v) ≡ pos 0
    departure_holds v h =
        sum_events (coefficient S (departure_row v))
        ∙ omega (arith, ints, sum_int_one (eqb (lblock S v).block) ns, sum_int_none ts, sum_int_none ms, sum_int_neg (λ c. is_at v c.from) ps, h)

    pub set_holds : (s : ℕ) → count (λ c. eqb s c.set && is_start c.from) ps ≡ 1 → left_side (set_row s) ≡ pos 1
    set_holds s h =
        sum_events (coefficient S (set_row s))
        ∙ omega (arith, ints, sum_int_none ns, sum_int_none ts, sum_int_none ms, sum_int_one (λ c. eqb s c.set && is_start c.from) ps, h)

    pub miss_holds : (v : ℕ) → count (eqb v) ms ≤ count (λ c. is_at v c.to && foreign S v c.from) ps → left_side (miss_row v) ≤ℤ pos 0
    miss_holds v h =
        omega (
          arith,
          ints,
          sum_events (coefficient S (miss_row v)),
          sum_int_none ns,
          sum_int_none ts,
          sum_int_one (eqb v) ms,
          sum_int_neg (λ c. is_at v c.to && foreign S v c.from) ps,
        )
