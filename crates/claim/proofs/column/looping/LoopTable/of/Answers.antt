use Rattle.std.proofs.Common.{◌<◌, length, get_or, sym, subst, arith}
use Rattle.sheet.proofs.Sheets.{sheet_sound}
use Rattle.claim.proofs.column.looping.LoopTable.of.Goals as goal

pub loop_headers-requires : goal.loop_headers-requires
loop_headers-requires c =
    let s = sheet_sound c.args.tableau.now.sheet.now in
    let e = c.loops.ensures in
    λ k d h. subst (λ hs. (get_or hs k d).header < 128) (sym e) (omega (arith, (s.loops_fit k d (subst (λ hs. k < length hs) e h)).0, s.few_blocks))
