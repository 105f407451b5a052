use Rattle.std.proofs.Common.{rules, ◌≡◌, ◌+◌, map, length, sym, ap, ◌∙◌, subst, arith}
use Rattle.std.specs.Option.{option_map}
use Rattle.std.proofs.lemmas.List.{length-map}
use Rattle.words.specs.Lists.{below}
use Rattle.sheet.specs.ConflictList.{conflicts}
use Rattle.sheet.specs.Rows.{N, T, M, P, columns}
use Rattle.claim.specs.Shares.{FirstLow}
use Rattle.claim.specs.Tableau.{sheet_in, passes}
use Rattle.claim.proofs.Leading.{low_in_first, low_in_second, low_in_third, low_in_fourth, length-each}
use Rattle.claim.proofs.tableau.Tableau.low_column.Goals as goal

pub returns-in-Some : goal.returns-in-Some
returns-in-Some c =
    let t = c.args.self.now in
    let S = sheet_in t in
    low_in_first (passes t) (map N (below S.blocks)) (map T S.edges) (map M (below (length S.lblocks))) (map P (conflicts S)) c.in-Some.b c.in-Some.ensures

pub returns-in-Some-low_edge : goal.returns-in-Some-low_edge
returns-in-Some-low_edge c =
    let t = c.args.self.now in
    let S = sheet_in t in
    low_in_second (passes t) (map N (below S.blocks)) (map T S.edges) (map M (below (length S.lblocks))) (map P (conflicts S)) c.in_default.ensures c.in-Some-low_edge.e (length c.blocks-edges.result.now)
    (ap length c.blocks-edges.ensures.listed ∙ sym (length-each N S.blocks)) c.in-Some-low_edge.ensures

pub overflow_add-result-in-Some-low_miss : goal.overflow_add-result-in-Some-low_miss
overflow_add-result-in-Some-low_miss c =
    let s = c.blocks-edges.ensures.sound in
    omega (arith, c.in-Some-low_miss.ensures.1, length-each M (length (sheet_in c.args.self.now).lblocks), s.few_edges, s.few_blocks, s.few_lblocks, ap length c.blocks-edges.ensures.listed, ap length c.edges.ensures)

pub returns-in-Some-low_miss : goal.returns-in-Some-low_miss
returns-in-Some-low_miss c =
    let t = c.args.self.now in
    let S = sheet_in t in
    low_in_third (passes t) (map N (below S.blocks)) (map T S.edges) (map M (below (length S.lblocks))) (map P (conflicts S)) c.in_default.ensures c.in_default-low_edge.ensures c.in-Some-low_miss.v (length c.blocks-edges.result.now + length c.edges.result.now)
    (omega (arith, ap length c.blocks-edges.ensures.listed, ap length c.edges.ensures, length-each N S.blocks, length-map S.edges T)) c.in-Some-low_miss.ensures

pub returns : goal.returns
returns c =
    let t = c.args.self.now in
    let S = sheet_in t in
    let n = length c.blocks-edges.result.now + length c.edges.result.now + length c.lblocks.result.now in
    let e : c.map.result ≡ option_map (λ p. n + p) c.low_conflict.result = search rules in
    subst (FirstLow (passes t) (columns S (conflicts S))) (sym e)
    (low_in_fourth (passes t) (map N (below S.blocks)) (map T S.edges) (map M (below (length S.lblocks))) (map P (conflicts S)) c.in_default.ensures c.in_default-low_edge.ensures n
    (omega (arith, ap length c.blocks-edges.ensures.listed, ap length c.edges.ensures, ap length c.lblocks.ensures, length-each N S.blocks, length-map S.edges T, length-each M (length S.lblocks)))
    c.in_default-low_miss.ensures c.low_conflict.result c.low_conflict.ensures)
