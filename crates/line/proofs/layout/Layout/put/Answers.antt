use Rattle.std.proofs.Common.{ℕ, ◌+◌, List, ◌∷◌, length, get_or, take, sym, ap, ◌∙◌, arith}
use Rattle.line.specs.Text.{over, over_at}
use Rattle.line.specs.Fields.{word_text, field_text}
use Rattle.line.proofs.Places.{over_at_more, ended}
use Rattle.line.proofs.Fields.{after, no_field, length-line, length_more, after_more, after_le, after_all}
use Rattle.line.proofs.layout.Layout.put.Goals as goal

pub put_next-at-requires : goal.put_next-at-requires
put_next-at-requires c =
    let t = ap length c.text.ensures.text in
    let i = c.loop-field.field-index in
    let fs = c.args.self.now.fields.now in
    let m = length_more fs i (omega arith) in
    let s = after_le fs (i + 1) in
    let l = length-line c.args.self.now.head fs in
    omega arith

pub loop-field-preserved : goal.loop-field-preserved
loop-field-preserved c =
    let i = c.loop-field.field-index in
    let fs = c.args.self.now.fields.now in
    let xs = c.put_text-at.new.out in
    let at = c.put_text-at.result in
    let f : List ℕ = 32 ∷ field_text (get_or fs i no_field) in
    let m = length_more fs i (omega arith) in
    let t = ap length c.text.ensures.text in
    let l = length-line c.args.self.now.head fs in (
      omega arith,
      c.put_next-at.ensures.bytes
          ∙ ap (over_at c.loop-field.at f) c.loop-field.invariant.1
          ∙ ap (λ n. over_at n f (over_at at (after (take i fs)) xs)) c.loop-field.invariant.0
          ∙ over_at_more xs (after (take i fs)) f at (omega arith)
          ∙ ap (λ t. over_at at t xs) (sym (after_more fs i no_field (omega arith))),
    )

pub returns : goal.returns
returns c =
    let fs = c.args.self.now.fields.now in
    let xs = c.args.out.now in
    let ys = c.put_text-at.new.out in
    let n = c.put_text-at.result in
    let t = ap length c.text.ensures.text in
    let a = after_all fs c.loop-field.field-index (omega arith) in
    let m = ap length a in
    let l = length-line c.args.self.now.head fs in
    ended xs ys c.loop-field.out (word_text c.args.self.now.head) (after fs) n c.loop-field.at 10
    (c.put_text-at.ensures.bytes ∙ ap (λ t. over t xs) c.text.ensures.text)
    (omega arith)
    (c.loop-field.invariant.1 ∙ ap (λ t. over_at n t ys) a)
    (omega arith)
    (omega arith)
    (omega arith)
