-- Taking words from a list, one after another. Assumes nothing.
use Rattle.std.specs.Prelude.{◌≡◌, ℕ, ◌+◌, ◌<◌, ◌≤◌, true, false, List, [], ◌∷◌, length, Ok, Err, Result, ◌==◌, slice_index}
use Rattle.std.proofs.Math.Option.{none, some}
use Rattle.words.specs.declared.refusal.WordFault.{WordFault}
use Rattle.words.specs.declared.refusal.WordFault.TheVariants.{NotDue, EndsEarly, WrongEnd, OutOfLimit}
use Rattle.words.specs.declared.word.Word.{Word}
use Rattle.words.specs.Words.{Kind, kind, payload, same_kind, empty, Check, demand, wrong_end, first_failing}
use Rattle.words.specs.Faults.{word_refusal}

-- The word w taken apart.
abbrev pub Parts : ℕ → Word → Type 0
Parts w x = (x.kind ≡ kind w) × (x.payload.0 ≡ payload w)

-- The word at place i of the list, after which j is the next place; or that the list has ended.
abbrev pub Takes : List ℕ → ℕ → Result Word WordFault → ℕ → Type 0
Takes ws i (Ok x) j = (i < length ws) × Parts (slice_index ws i) x × (j ≡ i + 1)
Takes ws i (Err e) j = (length ws ≤ i) × (e ≡ EndsEarly i) × (j ≡ i)

-- The same where the word has to be of kind k.
abbrev pub NotTaken : Kind → List ℕ → ℕ → WordFault → Type 0
NotTaken k ws i (EndsEarly p) = (length ws ≤ i) × (p ≡ i)
NotTaken k ws i (NotDue p) = (i < length ws) × (same_kind (kind (slice_index ws i)) k ≡ false) × (p ≡ i)
NotTaken k ws i (WrongEnd p) = ⊥
NotTaken k ws i (OutOfLimit p) = ⊥

abbrev pub TakesDue : Kind → List ℕ → ℕ → Result Word WordFault → ℕ → Type 0
TakesDue k ws i (Ok x) j = (i < length ws) × (same_kind (kind (slice_index ws i)) k ≡ true) × Parts (slice_index ws i) x × (j ≡ i + 1)
TakesDue k ws i (Err e) j = NotTaken k ws i e × (j ≡ i)

-- What END must meet: its count is that of the words before it, and no word is left.
abbrev pub counts_test : ℕ → ℕ → List Check
counts_test i p = demand (p == i) wrong_end i ∷ []

abbrev pub ends_test : List ℕ → ℕ → List Check
ends_test rest i = demand (empty rest) wrong_end i ∷ []

-- The checks pass, or the first that fails is the refusal.
abbrev pub Passed : List Check → Result (Unit {0}) WordFault → Type 0
Passed cs (Ok u) = first_failing cs ≡ none
Passed cs (Err e) = first_failing cs ≡ some (word_refusal e)
