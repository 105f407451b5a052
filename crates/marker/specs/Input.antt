-- The input's bytes as lists of words. Assumes nothing.
use Rattle.std.specs.Prelude.{ℕ, zero, suc, ◌+◌, ◌*◌, true, false, List, [], ◌∷◌, Some, None, Option}
use Rattle.words.specs.Words.{kind, same_kind}
use Rattle.words.specs.declared.word.Kind.TheVariants.{End as END}

-- a big-endian word
abbrev pub word_at : ℕ → ℕ → ℕ → ℕ → ℕ
word_at a b c d = a * 16777216 + b * 65536 + c * 256 + d

-- the word that the bytes begin with
abbrev pub first_word : List ℕ → Option ℕ
first_word [] = None
first_word (a ∷ []) = None
first_word (a ∷ b ∷ []) = None
first_word (a ∷ b ∷ c ∷ []) = None
first_word (a ∷ b ∷ c ∷ d ∷ bytes) = Some (word_at a b c d)

-- The first list: it runs to its END, to the end of the input's whole words, or to so many words.
abbrev pub list_up_to : ℕ → List ℕ → List ℕ
list_up_to zero bytes = []
list_up_to (suc n) [] = []
list_up_to (suc n) (a ∷ []) = []
list_up_to (suc n) (a ∷ b ∷ []) = []
list_up_to (suc n) (a ∷ b ∷ c ∷ []) = []
list_up_to (suc n) (a ∷ b ∷ c ∷ d ∷ bytes) =
    word_at a b c d ∷ elim (same_kind (kind (word_at a b c d)) END) [ true ↦ [] | false ↦ list_up_to n bytes ]

abbrev pub first_list : List ℕ → List ℕ
first_list bytes = list_up_to 4096 bytes
