-- What a walk's fetches cost: their hits, and the extra cycles of those that miss. Assumes nothing.
use Rattle.std.proofs.Common.{◌≡◌, ℕ, ◌+◌, Bool, true, false, cond, List, [], ◌∷◌, sym, refl, ◌∙◌, ap₂, arith}
use Rattle.std.specs.List.{AllByRecursion}
use Rattle.sheet.specs.Sheet.{Sheet, lblock, fetches}
use Rattle.claim.specs.Cache.{Residence, Costs, none, fetch, trace, cycles}
use Rattle.sheet.specs.Rows.{cost, N}
use Rattle.claim.proofs.Sums.{sum_nat, sum_nat_is, sum_nat_++}

-- the l-blocks that miss, in order
abbrev pub missed : {S : Sheet} {R R' : Residence} {vs : List ℕ} {c : ℕ} → Costs S R vs c R' → List ℕ
missed none = []
missed (fetch {v = v} {hit = hit} f r) = cond hit (missed r) (v ∷ missed r)

pub cost_is : {S : Sheet} {R R' : Residence} {vs : List ℕ} {c : ℕ} (r : Costs S R vs c R')
    → c ≡ sum_nat (λ v. (lblock S v).hit) vs + sum_nat (λ v. (lblock S v).extra) (missed r)
cost_is none = refl
cost_is {S} (fetch {v = v} {vs = vs} {hit = hit} {c = c} f r) = by hit (cost_is r)
  where
    by : (b : Bool) → c ≡ sum_nat (λ v. (lblock S v).hit) vs + sum_nat (λ v. (lblock S v).extra) (missed r)
        → cycles (lblock S v) b + c ≡ (lblock S v).hit + sum_nat (λ v. (lblock S v).hit) vs + sum_nat (λ v. (lblock S v).extra) (cond b (missed r) (v ∷ missed r))
    by true e = omega arith
    by false e = omega arith

pub trace_hits : (S : Sheet) (w : List ℕ) → sum_nat (λ v. (lblock S v).hit) (trace S w) ≡ sum_nat (λ b. cost S (N b)) w
trace_hits S [] = refl
trace_hits S (b ∷ w) =
    sum_nat_++ (λ v. (lblock S v).hit) (fetches S b) (trace S w) ∙ ap₂ ◌+◌ (sym (sum_nat_is (λ v. (lblock S v).hit) (fetches S b))) (trace_hits S w)

-- only what is fetched misses
pub missed_all : {S : Sheet} {R R' : Residence} {vs : List ℕ} {c : ℕ} (P : ℕ → Type 0) (r : Costs S R vs c R') → AllByRecursion P vs → AllByRecursion P (missed r)
missed_all P none h = tt
missed_all P (fetch {v = v} {hit = hit} f r) h = by hit (missed_all P r h.1)
  where
    by : (b : Bool) → AllByRecursion P (missed r) → AllByRecursion P (cond b (missed r) (v ∷ missed r))
    by true g = g
    by false g = (h.0, g)
