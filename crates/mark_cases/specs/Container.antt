-- Inputs with their number of bytes before them. Assumes nothing.
use Rattle.std.specs.Prelude.{◌≡◌, ℕ, List, ◌++◌, length, drop, Some}
use Rattle.marker.specs.Input.{first_word}

-- The bytes begin with a number, and so many bytes follow it: the input, and then the rest.
abbrev pub Begins : List ℕ → List ℕ → List ℕ → Type 0
Begins bytes input rest = (first_word bytes ≡ Some (length input)) × (drop 4 bytes ≡ input ++ rest)

-- The bytes begin with no whole input.
abbrev pub Cut : List ℕ → Type 0
Cut bytes = (input rest : List ℕ) → Begins bytes input rest → ⊥
