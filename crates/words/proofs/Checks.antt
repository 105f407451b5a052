-- The first failing check, one check at a time. Assumes nothing.
use Rattle.std.proofs.Common.{◌≡◌, ℕ, ◌<◌, ◌≤◌, Bool, true, false, List, ◌∷◌, length, drop, refl, ap}
use mathlib.Core.Option.{Option, some}
use Rattle.std.proofs.lemmas.List.{drop_more, drop_all}
use Rattle.words.specs.Words.{Refusal, Fault, refusal, Check, demand, first_failing, empty}

pub fails : (t : Bool) (f : Fault) (i : ℕ) (cs : List Check) → t ≡ false → first_failing (demand t f i ∷ cs) ≡ some (refusal f i)
fails t f i cs e = rw e refl

pub passes : (t : Bool) (f : Fault) (i : ℕ) (cs : List Check) (o : Option Refusal) → t ≡ true → first_failing cs ≡ o → first_failing (demand t f i ∷ cs) ≡ o
passes t f i cs o e h = rw e h

pub drop-empty : (ws : List ℕ) (i : ℕ) → length ws ≤ i → empty (drop i ws) ≡ true
drop-empty ws i h = ap empty (drop_all i ws h)

pub drop-some : (ws : List ℕ) (i : ℕ) → i < length ws → empty (drop i ws) ≡ false
drop-some ws i h = ap empty (drop_more ws i 0 h)
