-- The safety theorem. Assumes nothing.
use Rattle.std.proofs.Common.{◌≡◌, ℕ, ◌+◌, ◌-◌, ◌*◌, ◌<◌, ◌≤◌, List, [], ◌∷◌, ◌++◌, map, length, pos, ◌≤ℤ◌, sym, ap, ◌∙◌, subst, arith}
use Rattle.std.proofs.lemmas.Int.{ints}
use Rattle.std.specs.List.{ContainsAt as Has, AllByRecursion}
use Rattle.std.proofs.ByRecursion.{all-has, All-weaker}
use Rattle.words.specs.Lists.{below}
use Rattle.sheet.specs.Sheet.{Sheet, lblock, WellFormed}
use Rattle.sheet.specs.Walk.{steps, Lawful, Begins}
use Rattle.claim.specs.Cache.{Residence, Costs, trace}
use Rattle.sheet.specs.Conflict.{IsConflict}
use Rattle.claim.specs.Items.{Conflict}
use Rattle.sheet.specs.Rows.{Column, N, T, M, P, columns, rows, cost, coefficient, right_side}
use Rattle.claim.specs.Certificate.{Certificate, Passes, column_total}
use Rattle.claim.specs.Safety.{Safe}
use Rattle.claim.proofs.Sums.{sum_nat, sum_int}
use Rattle.claim.proofs.Duality.{exchange, weighed, priced, unscaled}
use Rattle.words.proofs.Lists.{all_left, all_right, all_unmap, below_all}
use Rattle.claim.proofs.Cost.{missed, missed_all, cost_is, trace_hits}
use Rattle.claim.proofs.Events.{events, all_events, cost_events}
use Rattle.claim.proofs.Hold.{lblocks_fetched, blocks_run, taken, taken_conflicts, rows_hold}

-- what holds of every column holds of the column of everything that can happen
module _ (S : Sheet) (cs : List Conflict) (Q : Column → Type 0) (h : AllByRecursion Q (columns S cs)) where
  abbrev Ns : List Column
  Ns = map N (below S.blocks)

  abbrev Ts : List Column
  Ts = map T S.edges

  abbrev Ms : List Column
  Ms = map M (below (length S.lblocks))

  of_block : (b : ℕ) → b < S.blocks → Q (N b)
  of_block b lt = below_all (λ b. Q (N b)) S.blocks (all_unmap Q N (below S.blocks) (all_left Q Ns Ts (all_left Q (Ns ++ Ts) Ms (all_left Q (Ns ++ Ts ++ Ms) (map P cs) h)))) b lt

  of_edges : AllByRecursion (λ e. Q (T e)) S.edges
  of_edges = all_unmap Q T S.edges (all_right Q Ns Ts (all_left Q (Ns ++ Ts) Ms (all_left Q (Ns ++ Ts ++ Ms) (map P cs) h)))

  of_lblock : (v : ℕ) → v < length S.lblocks → Q (M v)
  of_lblock v lt = below_all (λ v. Q (M v)) (length S.lblocks) (all_unmap Q M (below (length S.lblocks)) (all_right Q (Ns ++ Ts) Ms (all_left Q (Ns ++ Ts ++ Ms) (map P cs) h))) v lt

  of_conflicts : AllByRecursion (λ c. Q (P c)) cs
  of_conflicts = all_unmap Q P cs (all_right Q (Ns ++ Ts ++ Ms) (map P cs) h)

-- a walk from block 0 on
from_0 : (S : Sheet) (cs : List Conflict) (C : Certificate) → WellFormed S → ((c : Conflict) → IsConflict S c → Has cs c) → Passes S cs C
    → (w : List ℕ) → Lawful S (0 ∷ w) → (R R' : Residence) (c : ℕ) → Costs S R (trace S (0 ∷ w)) c R' → c ≤ C.W
from_0 S cs C wf complete ok w law R R' c r = unscaled c C.W C.D ok.scaled (omega (arith, ints, chain))
  where
    E : List Column
    E = events (0 ∷ w) (steps (0 ∷ w)) (missed r) (taken S wf w law)

    Q : Column → Type 0
    Q x = pos (cost S x * C.D) ≤ℤ column_total S C x

    covered : AllByRecursion Q E
    covered =
        all_events (0 ∷ w) (steps (0 ∷ w)) (missed r) (taken S wf w law) Q
        (All-weaker _ (λ b. Q (N b)) (of_block S cs Q ok.covered) (0 ∷ w) (blocks_run S wf 0 w wf.starts law.underway.follows))
        (All-weaker _ (λ e. Q (T e)) (λ e h. all-has (λ e. Q (T e)) S.edges e (of_edges S cs Q ok.covered) h) (steps (0 ∷ w)) law.underway.follows)
        (All-weaker _ (λ v. Q (M v)) (of_lblock S cs Q ok.covered) (missed r) (missed_all _ r (lblocks_fetched S wf (0 ∷ w))))
        (All-weaker _ (λ c. Q (P c)) (λ c h. all-has (λ c. Q (P c)) cs c (of_conflicts S cs Q ok.covered) (complete c h)) (taken S wf w law) (taken_conflicts S wf w law))

    price : c ≡ sum_nat (cost S) E
    price = cost_is r ∙ ap (λ n. n + sum_nat (λ v. (lblock S v).extra) (missed r)) (trace_hits S (0 ∷ w)) ∙ sym (cost_events (0 ∷ w) (steps (0 ∷ w)) (missed r) (taken S wf w law) S)

    chain : pos (c * C.D) ≤ℤ pos (C.W * C.D + C.D - 1)
    chain =
        omega (
          arith,
          ints,
          ap (λ n. n * C.D) price,
          priced C.D (cost S) (column_total S C) E covered,
          exchange C.multipliers (rows S) (coefficient S) E,
          weighed C.multipliers (rows S) (λ x. sum_int (coefficient S x) E) (right_side S) ok.signed (rows_hold S wf w law r),
          ok.claimed,
        )

begun : (w : List ℕ) → Begins 0 w → (v : List ℕ) × (w ≡ 0 ∷ v)
begun [] h = absurd h
begun (b ∷ w) h = (w, ap (λ x. x ∷ w) h)

pub safe : Safe
safe S cs C wf exact ok w law =
    let b = begun w law.underway.begins in
    let Goal : List ℕ → Type 0 = λ w. (R R' : Residence) (c : ℕ) → Costs S R (trace S w) c R' → c ≤ C.W in
    subst Goal (sym b.1) (from_0 S cs C wf exact.complete ok b.0 (subst (Lawful S) b.1 law))
