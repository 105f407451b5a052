-- What a cache means, and what a walk costs on one. Assumes nothing.
use Rattle.std.specs.Prelude.{◌≡◌, ℕ, ◌+◌, ◌<◌, ◌≤◌, Bool, true, false, ◌≢◌, List, [], ◌∷◌, ◌++◌}
use Rattle.sheet.specs.Sheet.{Sheet, lblock, fetches}
use Rattle.claim.specs.Items.{LBlock}

-- which pairs of set, below 64, and tag are resident
abbrev pub Residence : Type 0
Residence = ℕ → ℕ → Bool

abbrev pub set_limit : ℕ
set_limit = 64

-- A fetch of a pair hits exactly when the pair is resident. It leaves the pair resident, and residence in the other sets as it was.
-- Nothing is said of the other tags of the same set: which of them stay is the cache's own affair.
-- At a set above 63 it misses and alters nothing.
pub record Fetched (R : Residence) (set tag : ℕ) (hit : Bool) (R' : Residence) : Type 0 where
  pub hits : set < set_limit → hit ≡ R set tag
  pub stays : set < set_limit → R' set tag ≡ true
  pub others : (s t : ℕ) → s ≢ set → R' s t ≡ R s t
  pub misses_above : set_limit ≤ set → hit ≡ false
  pub same_above : set_limit ≤ set → (t : ℕ) → R' set t ≡ R set t

abbrev pub cycles : LBlock → Bool → ℕ
cycles b true = b.hit
cycles b false = b.hit + b.extra

-- Costs S R vs c R': a cache with residence R fetches the l-blocks vs in order, at a cost of c cycles together, and then has residence R'.
pub data Costs (S : Sheet) : Residence → List ℕ → ℕ → Residence → Type 0 where
  none : {R : Residence} → Costs S R [] 0 R
  fetch : {R R₁ R' : Residence} {v : ℕ} {vs : List ℕ} {hit : Bool} {c : ℕ}
      → Fetched R (lblock S v).set (lblock S v).tag hit R₁ → Costs S R₁ vs c R'
      → Costs S R (v ∷ vs) (cycles (lblock S v) hit + c) R'

-- the l-blocks that a walk fetches
abbrev pub trace : Sheet → List ℕ → List ℕ
trace S [] = []
trace S (b ∷ w) = fetches S b ++ trace S w
