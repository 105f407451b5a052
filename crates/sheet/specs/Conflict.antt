-- The fetch graph, and the conflict edges of each cache set. Assumes nothing.
use Rattle.std.specs.Prelude.{◌≡◌, ℕ, suc, ◌<◌, Bool, true, false, ◌⊎◌, List, [], ◌∷◌, ◌++◌, length, filter, ◌==◌, nat_eq, slice_index_or}
use Rattle.std.specs.List.{ContainsAt as Has}
use Rattle.words.specs.Lists.{below, any}
pub use Rattle.sheet.specs.declared.parts.Node.{Node}
pub use Rattle.sheet.specs.declared.parts.Node.TheVariants.{Start as START, At as at, End as END}
pub use Rattle.sheet.specs.declared.parts.Conflict.{Conflict}
use Rattle.sheet.specs.Sheet.{Sheet, fetches, lblock, last_block}
use Rattle.sheet.specs.Walk.{edge}

-- An arrow leads from START to the first l-block of block 0, from each l-block to the next in its block,
-- from a block's last l-block to the first of each successor block, and from the last block's last l-block to END.
pub data Arrow (S : Sheet) : Node → Node → Type 0 where
  starts : {v : ℕ} (vs : List ℕ) → fetches S 0 ≡ v ∷ vs → Arrow S START (at v)
  next : {u v : ℕ} (b : ℕ) (us vs : List ℕ) → fetches S b ≡ us ++ (u ∷ v ∷ vs) → Arrow S (at u) (at v)
  crosses : {u v : ℕ} (a b : ℕ) (us vs : List ℕ) → Has S.edges (edge a b)
      → fetches S a ≡ us ++ (u ∷ []) → fetches S b ≡ v ∷ vs → Arrow S (at u) (at v)
  ends : {u : ℕ} (us : List ℕ) → fetches S (last_block S) ≡ us ++ (u ∷ []) → Arrow S (at u) END

-- whether a node is an l-block of set s
abbrev pub in_set : Sheet → ℕ → Node → Bool
in_set S s START = false
in_set S s (at v) = (lblock S v).set == s
in_set S s END = false

-- a path of one or more arrows from u to v, with no l-block of set s strictly inside
pub data Leads (S : Sheet) (s : ℕ) : Node → Node → Type 0 where
  one : {u v : Node} → Arrow S u v → Leads S s u v
  more : {u x v : Node} → Leads S s u x → in_set S s x ≡ false → Arrow S x v → Leads S s u v

-- the sets that an l-block has, in order
abbrev pub used : Sheet → ℕ → Bool
used S s = any (λ b. nat_eq b.set s) S.lblocks

abbrev pub used_sets : Sheet → List ℕ
used_sets S = filter (used S) (below S.sets)

-- A conflict edge of a used set leads from START or an l-block of the set to an l-block of the set or END.
pub record IsConflict (S : Sheet) (c : Conflict) : Type 0 where
  pub of_used : Has (used_sets S) c.set
  pub leaves : (c.from ≡ START) ⊎ (in_set S c.set c.from ≡ true)
  pub reaches : (c.to ≡ END) ⊎ (in_set S c.set c.to ≡ true)
  pub leads : Leads S c.set c.from c.to

-- Their order: by set, then by where they come from, START first, then by where they lead, END last.
abbrev pub from_rank : Node → ℕ
from_rank START = 0
from_rank (at v) = suc v
from_rank END = 0

abbrev pub to_rank : Sheet → Node → ℕ
to_rank S START = 0
to_rank S (at v) = v
to_rank S END = length S.lblocks

abbrev pub Precedes : Sheet → Conflict → Conflict → Type 0
Precedes S c d =
    (c.set < d.set)
    ⊎ ((c.set ≡ d.set) × (from_rank c.from < from_rank d.from))
    ⊎ ((c.set ≡ d.set) × (from_rank c.from ≡ from_rank d.from) × (to_rank S c.to < to_rank S d.to))

-- The list of exactly the conflict edges, in order and so each once.
pub record Conflicts (S : Sheet) (cs : List Conflict) : Type 0 where
  pub complete : (c : Conflict) → IsConflict S c → Has cs c
  pub sound : (c : Conflict) → Has cs c → IsConflict S c
  pub ordered : (i j : ℕ) (d : Conflict) → i < j → j < length cs → Precedes S (slice_index_or cs i d) (slice_index_or cs j d)
