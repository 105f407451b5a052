use Rattle.std.proofs.Common.{◌≡◌, replicate, vec_items, vec_len, vec_capacity}
use Rattle.sheet.proofs.bounded.BoundedVec.refill.Given as goal

abbrev pub invariant-loop : goal.invariant-loop
invariant-loop g l = (vec_items l.self.list ≡ replicate l.counter l.item) × (vec_len l.self.list ≡ l.counter) × (vec_capacity l.self.list ≡ vec_capacity l.initial.self.list)
