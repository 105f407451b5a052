use Rattle.std.proofs.Common.{rules, ◌≡◌, true, false, sym, ◌∙◌, subst}
use Rattle.std.specs.List.{ContainsAt}
use Rattle.std.proofs.lemmas.Iterator.{YieldsList-from_slice, IsFirst-from_position}
use Rattle.std.proofs.lemmas.Iterator.Adapters.{serves_from_places}
use Rattle.std.proofs.lemmas.List.{get_or_default}
use Rattle.sheet.specs.ConflictList.{conflicts}
use Rattle.sheet.specs.Rows.{P}
use Rattle.claim.specs.Tableau.{sheet_in, passes}
use Rattle.claim.proofs.Edges.{no_conflict}
use Rattle.claim.proofs.Leading.{low_mapped}
use Rattle.claim.proofs.tableau.Tableau.low_conflict.Goals as goal

pub position-requires-clause-callable : goal.position-requires-clause-callable
position-requires-clause-callable c =
    let t = c.args.self.now in
    let S = sheet_in t in
    serves_from_places (YieldsList-from_slice (conflicts S) (c.iter.ensures.rest ∙ c.conflicts.ensures.listed)) (λ x q k. search rules)
    (λ x k l e. λ _ _ _ _ _ _. subst (λ t. ContainsAt (conflicts (sheet_in t)) x.now) (sym c.of-sets.ensures) (k, l, λ d. get_or_default (conflicts S) k d x.now l ∙ sym e))

pub returns : goal.returns
returns c =
    let t = c.args.self.now in
    low_mapped (passes t) P (conflicts (sheet_in t)) no_conflict c.position.result
    (IsFirst-from_position _ _ _ (λ x. passes t (P x) ≡ false) (λ x. passes t (P x) ≡ true) c.position.ensures.ran (YieldsList-from_slice _ (c.iter.ensures.rest ∙ c.conflicts.ensures.listed)) (λ x q k. search rules) (λ x q k. search rules))
