use Rattle.std.proofs.Common.{ap, ◌∙◌}
use Rattle.std.proofs.lemmas.Result.{err_from_is_err_and}
use Rattle.sheet.specs.Tried.{items_of}
use Rattle.sheet.proofs.Stepping.{loop_begins, loop_again, loop_ends, loop_breaks}
use Rattle.sheet.proofs.draft.Draft.read.Goals as goal

pub loop-next-init : goal.loop-next-init
loop-next-init c =
    let b = loop_begins _ _ _ c.clear.ensures c.new-reader.ensures.1 in
    (b.0, b.1, c.new-reader.ensures.0)

pub returns-in_err-next : goal.returns-in_err-next
returns-in_err-next c =
    let i = c.loop-next.invariant in
    let p = err_from_is_err_and c.from_residual.result c.from_residual.ensures.1 in
    rw (p.1, p.2) (loop_breaks _ _ _ _ (items_of c.step.new.self) _ c.step.new.reader.at i.0 i.2 _ c.in_err-next.ensures.read)

pub loop-next-preserved : goal.loop-next-preserved
loop-next-preserved c =
    let i = c.loop-next.invariant in
    let b = loop_again _ _ _ _ _ _ _ i.0 i.2 _ _ c.in-Some.is c.in_ok-next.ensures.read in
    (b.0, b.1, ap (λ x. x.now) c.in_ok-next.ensures.same ∙ i.2)

pub returns : goal.returns
returns c =
    let i = c.loop-next.invariant in
    loop_ends _ _ _ _ _ _ _ i.0 i.2 _ c.in_default.is i.1 c.in_ok-next.ensures.read
