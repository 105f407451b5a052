use Rattle.std.proofs.Common.{sym, ap, ◌∙◌, subst}
use Rattle.sheet.specs.Conflict.{at, Arrow, one}
use Rattle.sheet.specs.Graph.{first_of, size_of}
use Rattle.sheet.specs.Traversal.{sheet_of}
use Rattle.sheet.proofs.Nodes.{arrow_start, start_only}
use Rattle.sheet.proofs.traversal.reach.Reach.begin.Goals as goal

pub visit-requires-clause-leads : goal.visit-requires-clause-leads
visit-requires-clause-leads c =
    let g = c.args.g.now in
    one (subst (λ x. Arrow (sheet_of g) x (at (first_of g.blocks.now 0))) (sym (ap (λ a. a.from) c.reset.ensures.source ∙ c.in-Start.is)) (arrow_start (sheet_of g) g.ready.formed (first_of g.blocks.now) (size_of g.blocks.now) g.ready.table))

pub spread-requires-clause-leads : goal.spread-requires-clause-leads
spread-requires-clause-leads c y a = one (subst (λ x. Arrow (sheet_of c.args.g.now) x y) (sym (ap (λ a. a.from) c.reset.ensures.source ∙ c.in-At.is)) a)

pub returns-in-Start-clause-saw : goal.returns-in-Start-clause-saw
returns-in-Start-clause-saw c y a =
    let g = c.args.g.now in
    let S = sheet_of g in
    rw (start_only S g.ready.formed (first_of g.blocks.now) (size_of g.blocks.now) g.ready.table (subst (λ x. Arrow S x y) c.in-Start.is a)) c.visit.ensures.saw
