use Rattle.std.proofs.Common.{suc, length, take, drop, sym, refl, ap, ◌∙◌, arith}
use Rattle.std.proofs.lemmas.Result.{err_from_is_err_and}
use Rattle.claim.specs.Faults.{claim_refusal}
use Rattle.claim.specs.ReadCertificate.{stands, at_pair, with_multiplier, read_from}
use Rattle.claim.specs.Parts.{multiplier}
use Rattle.claim.proofs.Taken.{same_read, same_onward, one_refused, one_taken, all_taken}
use Rattle.claim.proofs.certificate.read.read.Goals as goal

pub returns-in_err-read_pair : goal.returns-in_err-read_pair
returns-in_err-read_pair c =
    let p = err_from_is_err_and c.from_residual-in_err-read_pair.result c.from_residual-in_err-read_pair.ensures.1 in
    let ws = c.args.words.now in
    let i = c.loop-row.reader.at in
    rw (p.1, p.2)
    (one_refused ws c.args.rows c.in_ok-claim.claim.0 c.in_ok-scale.scale.value c.loop-row._row i c.loop-row.invariant.0 c.loop-row-test.true (claim_refusal c.in_err-read_pair.field-0.0)
    (λ m C. sym (same_read c.loop-row.reader.words.now ws i i c.loop-row.invariant.1 refl (stands (at_pair (suc m)) C)) ∙ c.in_err-read_pair.ensures.read m C))

pub loop-row-preserved : goal.loop-row-preserved
loop-row-preserved c =
    let ws = c.args.words.now in
    let us = c.loop-row.reader.words.now in
    let i = c.loop-row.reader.at in
    let j = c.read_pair.new.reader.at in
    let t = c.in_ok-read_pair.ensures.read in
    let s = c.loop-row.invariant.1 in (
      one_taken ws c.args.rows c.in_ok-claim.claim.0 c.in_ok-scale.scale.value c.loop-row._row i c.loop-row.invariant.0 c.loop-row-test.true j
          (λ m C. same_onward us ws i i j s refl (stands (at_pair (suc m)) C) (stands (at_pair m) (with_multiplier C (multiplier (take 2 (drop i ws))))) (t.0 m C ∙ ap (λ vs. read_from (stands (at_pair m) (with_multiplier C (multiplier (take 2 (drop i vs))))) (drop j us) j) s))
          (omega (arith, t.1, ap length s)) t.2,
      ap (λ x. x.now) c.in_ok-read_pair.ensures.same ∙ s,
    )

pub returns : goal.returns
returns c =
    let ws = c.args.words.now in
    let i = c.loop-row.reader.at in (
      all_taken ws c.args.rows c.in_ok-claim.claim.0 c.in_ok-scale.scale.value c.loop-row._row i c.loop-row.invariant.0 c.loop-row-test.false c.loop-row.auto._row-end
          (λ C. sym (same_read c.loop-row.reader.words.now ws i i c.loop-row.invariant.1 refl (stands (at_pair 0) C)) ∙ c.in_ok-read_end.ensures.1 C)
          c.pairs.result.now c.pairs.ensures.listed,
      c.pairs.ensures.length,
      c.in_ok-claim.ensures.read.1,
    )
