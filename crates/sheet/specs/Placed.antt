-- Taking a word with its place. Assumes nothing.
use Rattle.std.specs.Prelude.{◌≡◌, ℕ, ◌+◌, ◌<◌, ◌≤◌, List, length, Ok, Err, Result, slice_index}
use Rattle.words.specs.declared.refusal.WordFault.{WordFault}
use Rattle.words.specs.declared.refusal.WordFault.TheVariants.{EndsEarly}
use Rattle.words.specs.Words.{kind, payload}
use Rattle.sheet.specs.declared.draft.placed.PlacedWord.{PlacedWord}

-- word i of the list, taken apart
abbrev pub IsAt : List ℕ → ℕ → PlacedWord → Type 0
IsAt ws i w = (w.kind ≡ kind (slice_index ws i)) × (w.payload.0 ≡ payload (slice_index ws i)) × (w.at ≡ i)

-- The word at place i of the list, after which j is the next place; or that the list has ended.
abbrev pub TakesPlaced : List ℕ → ℕ → Result PlacedWord WordFault → ℕ → Type 0
TakesPlaced ws i (Ok w) j = (i < length ws) × IsAt ws i w × (j ≡ i + 1)
TakesPlaced ws i (Err e) j = (length ws ≤ i) × (e ≡ EndsEarly i) × (j ≡ i)
