use Rattle.std.proofs.Common.{◌+◌, ◌*◌, ◌^◌, get_or, set, pos, ◌-ℤ◌, ◌*ℤ◌, sym, ap, ◌∙◌, subst, arith}
use Rattle.std.proofs.lemmas.List.{get_or-set_other}
use Rattle.claim.specs.Shares.{Near}
use Rattle.claim.proofs.Nears.{near_fits, near_sub, near_times}
use Rattle.claim.proofs.Facts.{nothing, fact_added}
use Rattle.claim.proofs.column.fact.add_fact.Goals as goal

pub sub-requires : goal.sub-requires
sub-requires c =
    let f = c.args.fact.now in
    let y = c.args.multiplier.0 in
    let n = near_sub (31 * 2 ^ 55) (2 ^ 54) (get_or c.args.shares.now f.j nothing).0 (y *ℤ pos f.k) (c.requires.room f.j nothing c.requires.fits.1) (near_times (2 ^ 40) (2 ^ 14) f.k y (omega (arith, c.requires.fits.3)) c.requires.near) in
    near_fits (31 * 2 ^ 55 + 2 ^ 54) _ (omega arith)
    (subst (λ x. Near (31 * 2 ^ 55 + 2 ^ 54) (x.0 -ℤ c.mul.result.0)) (sym (get_or-set_other c.args.shares.now f.i f.j c.add.result nothing (λ e. c.requires.fits.2 (sym e))))
    (subst (λ z. Near (31 * 2 ^ 55 + 2 ^ 54) ((get_or c.args.shares.now f.j nothing).0 -ℤ z)) (sym c.mul.ensures) n))

pub returns : goal.returns
returns c =
    let f = c.args.fact.now in
    fact_added c.args.shares.now f c.args.multiplier.0 c.add.result c.sub.result c.told-shares c.requires.fits.0 c.requires.fits.1 c.requires.fits.2 c.add.ensures
    (c.sub.ensures ∙ ap (λ z. (get_or (set c.args.shares.now f.i c.add.result) f.j nothing).0 -ℤ z) c.mul.ensures)
