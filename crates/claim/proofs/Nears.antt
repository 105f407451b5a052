-- Amounts near nothing: their sums and products fit 64 signed bits. Assumes nothing.
use Rattle.std.proofs.Common.{ℕ, suc, ◌+◌, ◌*◌, ◌^◌, ◌<◌, ◌≤◌, ℤ, pos, negsuc, ◌+ℤ◌, ◌-ℤ◌, ◌*ℤ◌, neg_ℤ, sym, subst, arith, w64, SFits}
use lib.IntN.{pos-*ℤ-pos, negsuc-*ℤ-pos}
use Rattle.std.proofs.lemmas.Nat.{mul-le}
use Rattle.std.proofs.lemmas.Int.{ints}
use Rattle.claim.specs.Shares.{Near}

pub near_fits : (m : ℕ) (z : ℤ) → m < 2 ^ 63 → Near m z → SFits w64 z
near_fits m (pos n) l h = record { sfits = omega (arith, ints, h.1) }
near_fits m (negsuc n) l h = record { sfits = omega (arith, ints, h.0) }

pub near_zero : (m : ℕ) → Near m (pos 0)
near_zero m = (omega (arith, ints), omega (arith, ints))

pub near_more : (m n : ℕ) (z : ℤ) → m ≤ n → Near m z → Near n z
near_more m n z l h = (omega (arith, ints, h.0), omega (arith, ints, h.1))

pub near_add : (m n : ℕ) (y z : ℤ) → Near m y → Near n z → Near (m + n) (y +ℤ z)
near_add m n y z g h = (omega (arith, ints, g.0, h.0), omega (arith, ints, g.1, h.1))

pub near_sub : (m n : ℕ) (y z : ℤ) → Near m y → Near n z → Near (m + n) (y -ℤ z)
near_sub m n y z g h = (omega (arith, ints, g.0, h.1), omega (arith, ints, g.1, h.0))

pub near_neg : (m : ℕ) (z : ℤ) → Near m z → Near m (neg_ℤ z)
near_neg m z h = (omega (arith, ints, h.1), omega (arith, ints, h.0))

pub near_times : (m n k : ℕ) (y : ℤ) → k ≤ n → Near m y → Near (m * n) (y *ℤ pos k)
near_times m n k (pos a) l h =
    let b : a ≤ m = omega (arith, ints, h.1) in
    let c : a * k ≤ m * n = mul-le a k m n b l in
    subst (Near (m * n)) (sym (pos-*ℤ-pos a k)) (omega (arith, ints), omega (arith, ints))
near_times m n k (negsuc a) l h =
    let b : suc a ≤ m = omega (arith, ints, h.0) in
    let c : suc a * k ≤ m * n = mul-le (suc a) k m n b l in
    subst (Near (m * n)) (sym (negsuc-*ℤ-pos a k)) (omega (arith, ints), omega (arith, ints))
