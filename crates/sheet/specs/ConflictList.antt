-- The list of a sheet's conflict edges, computed. Assumes nothing.
use Rattle.std.specs.Prelude.{◌≡◌, ℕ, zero, suc, Bool, false, not, ◌&&◌, ◌||◌, List, [], ◌∷◌, ◌++◌, map, length, filter, ◌==◌}
use Rattle.words.specs.Lists.{below, any, joined}
use Rattle.sheet.specs.Sheet.{Sheet, fetches, lblock, last_block}
use Rattle.sheet.specs.Conflict.{Node, START, at, END, in_set, used_sets, Conflict, Conflicts}

-- whether v is the first of a list, u the last, and whether v comes next after u
abbrev pub first_is : List ℕ → ℕ → Bool
first_is [] v = false
first_is (x ∷ xs) v = x == v

abbrev pub last_is : List ℕ → ℕ → Bool
last_is [] u = false
last_is (x ∷ []) u = x == u
last_is (x ∷ y ∷ xs) u = last_is (y ∷ xs) u

abbrev pub next_is : List ℕ → ℕ → ℕ → Bool
next_is [] u v = false
next_is (x ∷ []) u v = false
next_is (x ∷ y ∷ xs) u v = (x == u && y == v) || next_is (y ∷ xs) u v

-- whether an arrow leads from one node to another
abbrev pub arrow : Sheet → Node → Node → Bool
arrow S START START = false
arrow S START (at v) = first_is (fetches S 0) v
arrow S START END = false
arrow S (at u) START = false
arrow S (at u) (at v) =
    next_is (fetches S (lblock S u).block) u v || any (λ e. last_is (fetches S e.from) u && first_is (fetches S e.to) v) S.edges
arrow S (at u) END = last_is (fetches S (last_block S)) u
arrow S END v = false

-- whether v is one arrow after u, or after one of the l-blocks xs that is not in set s
abbrev pub found : Sheet → ℕ → Node → List ℕ → Node → Bool
found S s u xs v = arrow S u v || any (λ x. not (in_set S s (at x)) && arrow S (at x) v) xs

-- the l-blocks to which a path of at most n arrows leads from u with no l-block of set s strictly inside
abbrev pub grown : Sheet → ℕ → Node → List ℕ → List ℕ
grown S s u xs = filter (λ v. found S s u xs (at v)) (below (length S.lblocks))

abbrev pub reached : Sheet → ℕ → Node → ℕ → List ℕ
reached S s u zero = []
reached S s u (suc n) = grown S s u (reached S s u n)

-- Whether such a path leads from u to v: one that is longer than there are l-blocks goes through one of them twice, so a shorter one leads there too.
abbrev pub conflicting : Sheet → ℕ → Node → Node → Bool
conflicting S s u v = found S s u (reached S s u (suc (length S.lblocks))) v

-- the l-blocks of a set, by number and as nodes
abbrev pub set_lblocks : Sheet → ℕ → List ℕ
set_lblocks S s = filter (λ v. in_set S s (at v)) (below (length S.lblocks))

abbrev pub members : Sheet → ℕ → List Node
members S s = map at (set_lblocks S s)

-- where the conflict edges of set s from u lead
abbrev pub leads_to : Sheet → ℕ → Node → List Node
leads_to S s u = filter (conflicting S s u) (members S s ++ (END ∷ []))

abbrev pub conflicts_from : Sheet → ℕ → Node → List Conflict
conflicts_from S s u = map (λ v. record { set = s; from = u; to = v }) (leads_to S s u)

abbrev pub conflicts_of : Sheet → ℕ → List Conflict
conflicts_of S s = joined (conflicts_from S s) (START ∷ members S s)

abbrev pub conflicts : Sheet → List Conflict
conflicts S = joined (conflicts_of S) (used_sets S)

-- It is the list of exactly the conflict edges, in order.
abbrev pub ListsConflicts : Type 0
ListsConflicts = (S : Sheet) → Conflicts S (conflicts S)

-- A sheet has no more than one list of its conflict edges.
abbrev pub OneList : Type 0
OneList = (S : Sheet) (cs ds : List Conflict) → Conflicts S cs → Conflicts S ds → cs ≡ ds
