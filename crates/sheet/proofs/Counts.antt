-- How many rows and columns there are. Assumes nothing.
use Rattle.std.proofs.Common.{◌≡◌, ℕ, ◌+◌, ◌*◌, List, ◌++◌, map, length, ◌∙◌, arith}
use Rattle.std.proofs.lemmas.List.{length-append, length-map}
use Rattle.words.specs.Lists.{below}
use Rattle.words.proofs.Lists.{length-below}
use Rattle.sheet.specs.declared.parts.Block.{Block}
use Rattle.sheet.specs.declared.parts.BackEdge.{BackEdge}
use Rattle.sheet.specs.declared.parts.Loop.{Loop as Header}
use Rattle.sheet.specs.Sheet.{Sheet, LBlock, Edge, Fact}
use Rattle.sheet.specs.Conflict.{Conflict, used_sets}
use Rattle.sheet.specs.Graph.{graph_of}
use Rattle.sheet.specs.Drafts.{sheet_of}
use Rattle.sheet.specs.Rows.{N, T, M, P, columns, Row, in_row, out_row, loop_row, fact_row, arrival_row, departure_row, set_row, miss_row, rows}
use Rattle.sheet.proofs.Turns.{length-loops}

mapped : {A : Type 0} (f : ℕ → A) (n : ℕ) → length (map f (below n)) ≡ n
mapped f n = length-map (below n) f ∙ length-below n

pub length-columns : (S : Sheet) (cs : List Conflict) → length (columns S cs) ≡ S.blocks + length S.edges + length S.lblocks + length cs
length-columns S cs =
    length-append (map N (below S.blocks) ++ map T S.edges ++ map M (below (length S.lblocks))) (map P cs)
    ∙ omega (
      arith,
      length-append (map N (below S.blocks) ++ map T S.edges) (map M (below (length S.lblocks))),
      length-append (map N (below S.blocks)) (map T S.edges),
      mapped N S.blocks,
      length-map S.edges T,
      mapped M (length S.lblocks),
      length-map cs P,
    )

pub length-rows : (S : Sheet) → length (rows S) ≡ 2 * S.blocks + length S.loops + length S.facts + 3 * length S.lblocks + length (used_sets S)
length-rows S = go (map in_row (below S.blocks)) (map out_row (below S.blocks)) (map loop_row S.loops) (map fact_row S.facts) (map arrival_row (below (length S.lblocks)))
    (map departure_row (below (length S.lblocks))) (map set_row (used_sets S)) (map miss_row (below (length S.lblocks)))
    (mapped in_row S.blocks) (mapped out_row S.blocks) (length-map S.loops loop_row) (length-map S.facts fact_row) (mapped arrival_row (length S.lblocks))
    (mapped departure_row (length S.lblocks)) (length-map (used_sets S) set_row) (mapped miss_row (length S.lblocks))
  where
    go : (a b c d e f g h : List Row) → length a ≡ S.blocks → length b ≡ S.blocks → length c ≡ length S.loops → length d ≡ length S.facts → length e ≡ length S.lblocks
        → length f ≡ length S.lblocks → length g ≡ length (used_sets S) → length h ≡ length S.lblocks
        → length (a ++ b ++ c ++ d ++ e ++ f ++ g ++ h) ≡ 2 * S.blocks + length S.loops + length S.facts + 3 * length S.lblocks + length (used_sets S)
    go a b c d e f g h p q r s t u v w = simp length-append (omega arith)

-- of the items that the code holds
pub row_count : (n : ℕ) (bs : List Block) (vs : List LBlock) (es : List Edge) (hs : List Header) (ks : List BackEdge) (fs : List Fact)
    → let S : Sheet = sheet_of (record { sets = n; blocks = bs; lblocks = vs; edges = es; loops = hs; backs = ks; facts = fs }) in
    length (rows S) ≡ 2 * length bs + length hs + length fs + 3 * length vs + length (used_sets S)
row_count n bs vs es hs ks fs =
    omega (arith, length-rows (sheet_of (record { sets = n; blocks = bs; lblocks = vs; edges = es; loops = hs; backs = ks; facts = fs })), length-loops ks 0 hs)

pub column_count : (b : ℕ) (vs : List LBlock) (es : List Edge) (cs : List Conflict) → length (columns (graph_of 0 b vs es) cs) ≡ b + length es + length vs + length cs
column_count b vs es cs = length-columns (graph_of 0 b vs es) cs
