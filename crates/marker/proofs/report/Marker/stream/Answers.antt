use Rattle.std.proofs.Common.{◌+◌, ◌*◌, ◌≤◌, length, drop, vec_items, sym, refl, ap, ◌∙◌, subst, arith}
use Rattle.std.proofs.lemmas.List.{take_rest}
use Rattle.std.proofs.lemmas.Result.{err_from_is_err_and}
use Rattle.sheet.specs.View.{view}
use Rattle.marker.specs.Text.{Printed}
use Rattle.marker.specs.Stream.{stream}
use Rattle.marker.proofs.Going.{Going, begun, went_on, stopped, failed}
use Rattle.marker.proofs.report.Marker.stream.Goals as goal

pub loop-taken-init : goal.loop-taken-init
loop-taken-init c = record {
  within = c.requires;
  room = refl;
  going = begun (view c.args.self.now.room.sheet) c.args.input.now (vec_items c.args.text.now) c.args.start;
}

-- after a step that goes on
went : (c : goal.In-Some) → (1 ≤ c.in-Some.taken) × (4 * (c.loop-taken.place + c.in-Some.taken) ≤ length c.args.input.now)
    × Going (view c.args.self.now.room.sheet) c.args.input.now (vec_items c.args.text.now) (stream (view c.args.self.now.room.sheet) c.args.start (drop (4 * c.args.start) c.args.input.now))
    (c.loop-taken.place + c.in-Some.taken) (vec_items c.next.new.text)
went c =
    went_on (view c.args.self.now.room.sheet) c.args.input.now (vec_items c.args.text.now)
    (stream (view c.args.self.now.room.sheet) c.args.start (drop (4 * c.args.start) c.args.input.now))
    c.loop-taken.place (vec_items c.loop-taken.text) c.loop-taken.invariant.within c.loop-taken.invariant.going _ (take_rest c.args.input.now (4 * c.loop-taken.place))
    (view c.loop-taken.self.room.sheet) (ap (λ r. view r.sheet) c.loop-taken.invariant.room)
    (vec_items c.next.new.text) c.in_ok-taken.field-0 c.in-Some.taken c.in-Some.is c.in_ok-taken.ensures.done

pub overflow_add-place : goal.overflow_add-place
overflow_add-place c = let w = went c in omega (arith, w.1)

pub loop-taken-smaller : goal.loop-taken-smaller
loop-taken-smaller c = let w = went c in omega (arith, w.0, w.1)

pub loop-taken-preserved : goal.loop-taken-preserved
loop-taken-preserved c = let w = went c in record { within = w.1; room = c.in_ok-taken.ensures.room ∙ c.loop-taken.invariant.room; going = w.2 }

pub returns-clause-printed : goal.returns-clause-printed
returns-clause-printed c =
    stopped (view c.args.self.now.room.sheet) c.args.input.now (vec_items c.args.text.now)
    (stream (view c.args.self.now.room.sheet) c.args.start (drop (4 * c.args.start) c.args.input.now))
    c.loop-taken.place (vec_items c.loop-taken.text) c.loop-taken.invariant.within c.loop-taken.invariant.going _ (take_rest c.args.input.now (4 * c.loop-taken.place))
    (view c.loop-taken.self.room.sheet) (ap (λ r. view r.sheet) c.loop-taken.invariant.room)
    (vec_items c.next.new.text) c.in_ok-taken.field-0 c.in_default.is c.in_ok-taken.ensures.done

pub returns-in_err-taken-clause-printed : goal.returns-in_err-taken-clause-printed
returns-in_err-taken-clause-printed c =
    let p = err_from_is_err_and c.from_residual.result c.from_residual.ensures.1 in
    let lines = stream (view c.args.self.now.room.sheet) c.args.start (drop (4 * c.args.start) c.args.input.now) in
    subst (λ r. Printed (vec_items c.args.text.now) lines r (vec_items c.next.new.text)) (sym p.1)
    (failed (view c.args.self.now.room.sheet) c.args.input.now (vec_items c.args.text.now) lines
    c.loop-taken.place (vec_items c.loop-taken.text) c.loop-taken.invariant.within c.loop-taken.invariant.going _ (take_rest c.args.input.now (4 * c.loop-taken.place))
    (view c.loop-taken.self.room.sheet) (ap (λ r. view r.sheet) c.loop-taken.invariant.room)
    (vec_items c.next.new.text) c.in_err-taken.field-0.0 c.in_err-taken.ensures.done)
