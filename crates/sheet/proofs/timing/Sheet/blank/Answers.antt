use Rattle.std.proofs.Common.{length, sym, ap, ◌∙◌, subst, arith}
use Rattle.sheet.specs.Conflict.{used_sets}
use Rattle.sheet.specs.ConflictList.{conflicts}
use Rattle.sheet.specs.Drafts.{sheet_of}
use Rattle.sheet.specs.Kept.{Kept}
use Rattle.sheet.proofs.Blank.{blank_listed, blank_used, blank_kept}
use Rattle.sheet.proofs.timing.Sheet.blank.Goals as goal

pub invariant_of-result : goal.invariant_of-result
invariant_of-result c =
    let e = c.in_ok-draft.ensures in
    let f = c.in_ok-conflicts.ensures in
    let d = c.in_ok-draft.draft in record {
      few_used = omega arith;
      counted = sym (ap (λ i. length (used_sets (sheet_of i))) e ∙ blank_used);
      listed = f ∙ sym (ap (λ i. conflicts (sheet_of i)) e ∙ blank_listed);
      kept = ∣ subst Kept (sym e) blank_kept ∣₁;
    }
