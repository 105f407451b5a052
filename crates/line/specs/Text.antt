-- Text as a list of bytes, and text put in place of other bytes. Assumes nothing.
use Rattle.std.specs.Prelude.{ℕ, ◌+◌, List, [], ◌∷◌, ◌++◌, length, take, drop}
use Rattle.words.specs.Lists.{joined}

-- a line: its fields with one space between them, and the byte 10
abbrev pub spaced : List (List ℕ) → List ℕ
spaced [] = []
spaced (t ∷ ts) = t ++ joined (λ u. 32 ∷ u) ts

abbrev pub line_of : List (List ℕ) → List ℕ
line_of ts = spaced ts ++ (10 ∷ [])

-- bytes with the text in place of the first ones
abbrev pub over : List ℕ → List ℕ → List ℕ
over text bytes = text ++ drop (length text) bytes

-- bytes with the text in place of those from a place on
abbrev pub over_at : ℕ → List ℕ → List ℕ → List ℕ
over_at at text bytes = take at bytes ++ (text ++ drop (at + length text) bytes)
