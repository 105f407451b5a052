-- How often a walk runs a block, takes an edge, and fetches an l-block. Assumes nothing.
use Rattle.std.proofs.Common.{◌≡◌, ℕ, ◌+◌, ◌<◌, cond, eqb, List, [], ◌∷◌, length, refl, ap, ◌∙◌, ap₂, arith}
use Rattle.sheet.specs.Sheet.{Sheet, lblock, fetches}
use Rattle.sheet.specs.Walk.{steps, Ends}
use Rattle.claim.specs.Cache.{trace}
use Rattle.words.proofs.Lists.{count}
use Rattle.claim.proofs.Sums.{count_++}
use Rattle.words.proofs.Lists.{count_kept}

-- a block runs as often as edges into it are taken, and once more if the walk begins there
pub runs_in : (b a : ℕ) (w : List ℕ) → count (eqb b) (a ∷ w) ≡ cond (eqb b a) 1 0 + count (λ e. eqb b e.to) (steps (a ∷ w))
runs_in b a [] = refl
runs_in b a (c ∷ w) = ap (λ n. cond (eqb b a) 1 0 + n) (runs_in b c w)

-- a block runs as often as edges out of it are taken, and once more if the walk ends there
pub runs_out : (b z a : ℕ) (w : List ℕ) → Ends z (a ∷ w)
    → count (eqb b) (a ∷ w) ≡ cond (eqb b z) 1 0 + count (λ e. eqb b e.from) (steps (a ∷ w))
runs_out b z a [] h = ap (λ x. cond (eqb b x) 1 0 + 0) h
runs_out b z a (c ∷ w) h = omega (arith, runs_out b z c w h)

-- an l-block is fetched as often as its block runs
pub fetched : (S : Sheet) (v : ℕ) → v < length S.lblocks → (w : List ℕ) → count (eqb v) (trace S w) ≡ count (eqb (lblock S v).block) w
fetched S v h [] = refl
fetched S v h (b ∷ w) =
    count_++ (eqb v) (fetches S b) (trace S w) ∙ ap₂ ◌+◌ (count_kept (λ u. eqb (lblock S u).block b) v (length S.lblocks) h) (fetched S v h w)
