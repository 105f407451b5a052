use Rattle.std.proofs.Common.{length, sym, ap, ◌∙◌, subst, arith}
use Rattle.sheet.specs.Conflict.{used_sets}
use Rattle.sheet.specs.ConflictList.{conflicts}
use Rattle.sheet.specs.Drafts.{sheet_of}
use Rattle.sheet.specs.Tried.{items_of}
use Rattle.sheet.specs.Kept.{Kept, used_among}
use Rattle.sheet.proofs.Used.{used_few}
use Rattle.sheet.proofs.timing.Sheet.replace.Goals as goal

pub invariant_of-self : goal.invariant_of-self
invariant_of-self c =
    let e = c.swap.ensures.x_after in
    let f = c.swap-2.ensures.x_after in
    let d = c.args.draft.now in
    let p = c.requires.fits.fits.parts in record {
      few_used = omega (arith, c.count_used-used.ensures, used_few c.as_slice.result.now d.sets, p.blocks_fit.few_sets);
      counted = c.count_used-used.ensures ∙ ap (λ vs. used_among vs d.sets) c.as_slice.ensures.items ∙ sym (ap (λ x. length (used_sets (sheet_of (items_of x)))) e);
      listed = ap (λ v. v.list.items) f ∙ c.requires.listed ∙ sym (ap (λ x. conflicts (sheet_of (items_of x))) e);
      kept = ∣ subst (λ x. Kept (items_of x)) (sym e) c.requires.fits ∣₁;
    }
