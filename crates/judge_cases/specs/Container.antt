-- Words of bytes, and lists with their number of words before them. Assumes nothing.
use Rattle.std.specs.Prelude.{◌≡◌, ℕ, ◌+◌, ◌*◌, List, [], ◌∷◌, ◌++◌, length}

-- the whole words of bytes, most significant byte first
abbrev pub words_of : List ℕ → List ℕ
words_of [] = []
words_of (a ∷ []) = []
words_of (a ∷ b ∷ []) = []
words_of (a ∷ b ∷ c ∷ []) = []
words_of (a ∷ b ∷ c ∷ d ∷ bytes) = (a * 16777216 + b * 65536 + c * 256 + d) ∷ words_of bytes

-- The words begin with a number, and so many words follow it: the list, and then the rest.
abbrev pub Begins : List ℕ → List ℕ → List ℕ → Type 0
Begins words list rest = words ≡ length list ∷ (list ++ rest)

-- The words begin with no whole list.
abbrev pub Cut : List ℕ → Type 0
Cut words = (list rest : List ℕ) → Begins words list rest → ⊥
