-- The text that is printed, one line after another. Assumes nothing.
use Rattle.std.specs.Prelude.{◌≡◌, ℕ, cond, ◌⊎◌, List, [], ◌∷◌, ◌++◌, is_ok, Ok, Err, Result}

-- The line follows what was there; for want of memory, the text is as it was.
abbrev pub Appended : {T E : Type 0} → List ℕ → List ℕ → Result T E → List ℕ → Type 0
Appended before line r after = after ≡ cond (is_ok r) (before ++ line) before

-- nothing, or a text whose last byte is 10
abbrev pub WholeLines : List ℕ → Type 0
WholeLines text = (text ≡ []) ⊎ ((t : List ℕ) × (text ≡ t ++ (10 ∷ [])))

-- The lines follow what was there; for want of memory, only some whole lines, from the first on.
abbrev pub Printed : {T E : Type 0} → List ℕ → List ℕ → Result T E → List ℕ → Type 0
Printed before lines (Ok x) after = after ≡ before ++ lines
Printed before lines (Err e) after = (first : List ℕ) × (others : List ℕ) × (after ≡ before ++ first) × (lines ≡ first ++ others) × WholeLines first
