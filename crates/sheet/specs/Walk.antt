-- Walks of a sheet, and which are lawful. Assumes nothing.
use Rattle.std.specs.Prelude.{◌≡◌, ℕ, ◌*◌, ◌<◌, ◌≤◌, Bool, true, false, not, ◌&&◌, List, [], ◌∷◌, ◌++◌, count_by, ◌==◌, nat_eq}
use Rattle.std.specs.List.{ContainsAt as Has, AllByRecursion}
use Rattle.words.specs.Lists.{any}
use Rattle.sheet.specs.Sheet.{Sheet, Edge, Loop, last_block}

abbrev pub edge : ℕ → ℕ → Edge
edge a b = record { from = a; to = b }

-- the edges that a walk, a list of blocks, takes
abbrev pub steps : List ℕ → List Edge
steps [] = []
steps (a ∷ []) = []
steps (a ∷ b ∷ w) = edge a b ∷ steps (b ∷ w)

abbrev pub Begins : ℕ → List ℕ → Type 0
Begins a [] = ⊥
Begins a (b ∷ w) = b ≡ a

abbrev pub Ends : ℕ → List ℕ → Type 0
Ends a [] = ⊥
Ends a (b ∷ []) = b ≡ a
Ends a (b ∷ c ∷ w) = Ends a (c ∷ w)

-- An edge into a loop's header is a back edge of the loop if the loop names the block that it comes from, else an entry edge.
abbrev pub back : Loop → Edge → Bool
back l e = e.to == l.header && any (nat_eq e.from) l.backs

abbrev pub entry : Loop → Edge → Bool
entry l e = e.to == l.header && not (any (nat_eq e.from) l.backs)

-- A loop's back edge may be taken after the edges `before`: they have an entry edge, and fewer back edges than the bound since the last one.
pub record MayRepeat (l : Loop) (before : List Edge) : Type 0 where
  pub earlier : List Edge
  pub last_entry : Edge
  pub since : List Edge
  pub split : before ≡ earlier ++ (last_entry ∷ since)
  pub enters : entry l last_entry ≡ true
  pub no_later : AllByRecursion (λ e. entry l e ≡ false) since
  pub fewer : count_by (back l) since < l.bound

-- every back edge is taken where it may be
abbrev pub KeepsBound : Loop → List Edge → Type 0
KeepsBound l es = (before rest : List Edge) (e : Edge) → es ≡ before ++ (e ∷ rest) → back l e ≡ true → MayRepeat l before

-- A walk underway goes from block 0 along edges and keeps every loop's bound. A lawful walk also ends at the last block and keeps every fact.
pub record Underway (S : Sheet) (w : List ℕ) : Type 0 where
  pub begins : Begins 0 w
  pub follows : AllByRecursion (Has S.edges) (steps w)
  pub loops : AllByRecursion (λ l. KeepsBound l (steps w)) S.loops

pub record Lawful (S : Sheet) (w : List ℕ) : Type 0 where
  pub underway : Underway S w
  pub ends : Ends (last_block S) w
  pub facts : AllByRecursion (λ f. count_by (nat_eq f.i) w ≤ f.k * count_by (nat_eq f.j) w) S.facts
