-- Laws of the refusals of a sheet: the first fault is the answer, whatever comes after it. Assumes nothing.
use Rattle.std.specs.Prelude.{◌≡◌, ℕ, suc, ◌<◌, ◌≤◌, ◌≢◌, ◌⊎◌, ◌↔◌, List, [], ◌∷◌, ◌++◌, length, take}
use Rattle.sheet.specs.Kinds.{Refusal, words, sheet}
use Rattle.words.specs.Words.{refused, Check}
use Rattle.sheet.specs.ReadSheet.{State, demands, read_sheet}

-- A refusal but for the conflict edges is for the words up to its place alone: any other words may follow these.
abbrev pub FirstFault : Type 0
FirstFault =
    (ws us : List ℕ) (r : Refusal) → read_sheet ws ≡ refused r → r.number ≢ 9 → r.place < length ws
    → read_sheet (take (suc r.place) ws ++ us) ≡ refused r

-- The place is a word's, or the list's length exactly where the list ends before END.
pub record Placed (ws : List ℕ) (r : Refusal) : Type 0 where
  pub in_list : r.place ≤ length ws
  pub at_end : (r.number ≡ 2) ↔ (r.place ≡ length ws)

abbrev pub RefusalsPlaced : Type 0
RefusalsPlaced = (ws : List ℕ) (r : Refusal) → read_sheet ws ≡ refused r → r.number ≢ 9 → Placed ws r

-- At one word the lower number is tried first: what a word must meet is in order of the place, then of the number.
abbrev pub Before : Check → Check → Type 0
Before c d = (c.otherwise.place < d.otherwise.place) ⊎ ((c.otherwise.place ≡ d.otherwise.place) × (c.otherwise.number ≤ d.otherwise.number))

abbrev pub Ascending : List Check → Type 0
Ascending [] = Unit {0}
Ascending (c ∷ []) = Unit {0}
Ascending (c ∷ d ∷ cs) = Before c d × Ascending (d ∷ cs)

abbrev pub LowestFirst : Type 0
LowestFirst = (st : State) (w i : ℕ) (rest : List ℕ) → Ascending (demands st w i rest)

-- Numbers 1 to 4 are of layer words, 5 to 9 of layer sheet.
abbrev pub Numbered : Refusal → Type 0
Numbered r = ((1 ≤ r.number) × (r.number ≤ 4) × (r.layer ≡ words)) ⊎ ((5 ≤ r.number) × (r.number ≤ 9) × (r.layer ≡ sheet))

abbrev pub RefusalsNumbered : Type 0
RefusalsNumbered = (ws : List ℕ) (r : Refusal) → read_sheet ws ≡ refused r → Numbered r
