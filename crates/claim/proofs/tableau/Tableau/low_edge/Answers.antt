use Rattle.std.proofs.Common.{rules, ◌≡◌, ◌<◌, true, false, sym, ap, ◌∙◌, subst}
use Rattle.std.proofs.lemmas.Iterator.{YieldsList-from_slice, IsFirst-from_position}
use Rattle.std.proofs.lemmas.Iterator.Adapters.{serves_from_places}
use Rattle.sheet.specs.Rows.{T}
use Rattle.claim.specs.Tableau.{sheet_in, passes}
use Rattle.claim.proofs.Edges.{no_edge}
use Rattle.claim.proofs.Leading.{low_mapped}
use Rattle.sheet.proofs.Sheets.{sheet_sound}
use Rattle.claim.proofs.tableau.Tableau.low_edge.Goals as goal

pub position-requires-clause-callable : goal.position-requires-clause-callable
position-requires-clause-callable c =
    let t = c.args.self.now in
    let S = sheet_in t in
    serves_from_places (YieldsList-from_slice S.edges (c.iter.ensures.rest ∙ c.edges.ensures)) (λ x q k. search rules)
    (λ x k l e. λ _ _ _ _ _ _.
    subst (λ b. (x.now.from < b) × (x.now.to < b)) (sym (ap (λ t. (sheet_in t).blocks) c.of-loops.ensures))
    (subst (λ y. (y.from < S.blocks) × (y.to < S.blocks)) (sym e) ((sheet_sound t.sheet.now).edges_fit k x.now l)))

pub returns : goal.returns
returns c =
    let t = c.args.self.now in
    low_mapped (passes t) T (sheet_in t).edges no_edge c.position.result
    (IsFirst-from_position _ _ _ (λ x. passes t (T x) ≡ false) (λ x. passes t (T x) ≡ true) c.position.ensures.ran (YieldsList-from_slice _ (c.iter.ensures.rest ∙ c.edges.ensures)) (λ x q k. search rules) (λ x q k. search rules))
