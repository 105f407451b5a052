use Rattle.std.proofs.Common.{rules, ◌≡◌, ◌+◌, ◌*◌, ◌≤◌, length, sum_by, min, ap, arith}
use Rattle.line.specs.Fields.{field_text}
use Rattle.line.proofs.Fields.{length-line, length_after, fields_le}
use Rattle.line.proofs.layout.Layout.length.Goals as goal

-- at most 21 bytes of each field
fields : (c : goal.After-text) → c.sum-fields.result ≤ 21 * length c.args.self.now.fields.now
fields c =
    let fs = c.args.self.now.fields.now in
    let e : c.sum-fields.result ≡ sum_by (λ f. min 21 (1 + length (field_text f))) fs = search rules in
    let l = fields_le fs in
    omega arith

pub overflow_add-result : goal.overflow_add-result
overflow_add-result c = let f = fields c in omega arith

pub overflow_add-result-2 : goal.overflow_add-result-2
overflow_add-result-2 c = let f = fields c in omega arith

pub returns : goal.returns
returns c =
    let fs = c.args.self.now.fields.now in
    let e : c.sum-fields.result ≡ sum_by (λ f. 1 + length (field_text f)) fs = search rules in
    let t = ap length c.text.ensures.text in
    let l = length-line c.args.self.now.head fs in
    let a = length_after fs in
    let f = fields c in
    record { count = omega arith; bound = omega arith }
