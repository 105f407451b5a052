-- The links between edges from the same block. Assumes nothing.
use Rattle.std.proofs.Common.{ℕ, suc, ◌<◌, List, Option, None, Some, arith}
use Rattle.sheet.specs.Graph.{Latest}
use Rattle.sheet.specs.Sheet.{Edge}

-- how many edges a step to the edge before can still come to
abbrev pub edges_left : Option ℕ → ℕ
edges_left None = 0
edges_left (Some e) = suc e

-- the edge before is earlier
pub earlier_left : (es : List Edge) (b k : ℕ) (o : Option ℕ) → Latest es b k o → edges_left o < suc k
earlier_left es b k None r = omega arith
earlier_left es b k (Some e) r = let l = r.0 in omega arith
