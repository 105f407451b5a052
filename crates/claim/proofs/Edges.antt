-- For code: the columns of edges, misses and conflict edges. Assumes nothing.
use Rattle.std.proofs.Common.{◌≡◌, ℕ, ◌*◌, ◌<◌, true, get_or, ℤ, pos, ◌+ℤ◌, ◌-ℤ◌, sym, ap, ◌∙◌, ap₂, zero-mul}
use lib.Signed.{le_z}
use Rattle.sheet.specs.Sheet.{Sheet, lblock}
use Rattle.sheet.specs.Conflict.{used}
use Rattle.sheet.specs.Rows.{T, M, P}
use Rattle.claim.specs.Items.{Edge, Conflict, START}
use Rattle.claim.specs.Shares.{Multipliers, Sized, loop_share, share_of_source, share_of_target, covered}
use Rattle.claim.proofs.Totals.{total_edge, total_miss, total_conflict}

-- what stands for an edge past the last
abbrev pub no_edge : Edge
no_edge = record { from = 0; to = 0 }

abbrev pub no_conflict : Conflict
no_conflict = record { set = 0; from = START; to = START }

module _ (S : Sheet) (Y : Multipliers) (z : Sized S Y) (d : ℕ) where
  pub edge_test : (e : Edge) (t : ℤ) → t ≡ (loop_share Y.loops S.loops e -ℤ get_or Y.ins e.to (pos 0)) -ℤ get_or Y.outs e.from (pos 0) → le_z (pos 0) t ≡ covered S Y d (T e)
  edge_test e t q = ap₂ le_z (ap pos (sym (zero-mul d))) (q ∙ sym (total_edge S Y z e))

  pub miss_test : (v w : ℕ) (k t : ℤ) → k ≡ pos (w * d) → w ≡ (lblock S v).extra → t ≡ get_or Y.misses v (pos 0) → le_z k t ≡ covered S Y d (M v)
  miss_test v w k t p e q = ap₂ le_z (p ∙ ap (λ n. pos (n * d)) e) (q ∙ sym (total_miss S Y z v))

  pub conflict_test : (c : Conflict) → c.set < S.sets → used S c.set ≡ true → (t : ℤ) → t ≡ share_of_source S Y c.set c.from +ℤ share_of_target S Y c.from c.to → le_z (pos 0) t ≡ covered S Y d (P c)
  conflict_test c h u t q = ap₂ le_z (ap pos (sym (zero-mul d))) (q ∙ sym (total_conflict S Y z c h u))
