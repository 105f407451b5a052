-- The theorems. Assumes nothing.
use Rattle.std.specs.Prelude.{◌≡◌, ℕ, ◌≤◌, List}
use Rattle.sheet.specs.Sheet.{Sheet, WellFormed}
use Rattle.sheet.specs.Walk.{Lawful}
use Rattle.claim.specs.Cache.{Residence, Costs, trace}
use Rattle.sheet.specs.Conflict.{Conflicts}
use Rattle.claim.specs.Items.{Conflict}
use Rattle.claim.specs.Certificate.{Certificate, Passes}

-- If a certificate passes, then every lawful walk, on every cache and whatever that holds at the start, costs at most the claim.
abbrev pub Safe : Type 0
Safe =
    (S : Sheet) (cs : List Conflict) (C : Certificate) → WellFormed S → Conflicts S cs → Passes S cs C
    → (w : List ℕ) → Lawful S w
    → (R R' : Residence) (c : ℕ) → Costs S R (trace S w) c R'
    → c ≤ C.W

-- A sheet has no more than one list of its conflict edges.
abbrev pub OneList : Type 0
OneList = (S : Sheet) (cs ds : List Conflict) → Conflicts S cs → Conflicts S ds → cs ≡ ds
