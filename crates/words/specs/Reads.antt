-- A reader before and after a part that is read. Assumes nothing.
use Rattle.std.specs.Prelude.{◌≡◌, ℕ, List}
use Rattle.words.specs.declared.reader.Reader.{Reader}

-- A reader before and after a part, of which P says how it is read from a list: it goes on in the same list.
pub record Reads {R : Type 0} (P : List ℕ → ℕ → R → ℕ → Type 0) (before : Reader) (r : R) (after : Reader) : Type 0 where
  pub same : after.words ≡ before.words
  pub read : P before.words.now before.at r after.at
