use Rattle.std.proofs.Common.{◌≡◌, ℕ, suc, ◌+◌, ◌<◌, ◌≤◌, true, ◌⊎◌, length, get_or, refl, ap, subst, ⊎_elim, arith}
use Rattle.std.specs.List.{ContainsAt as Has}
use Rattle.sheet.specs.Sheet.{Sheet, lblock, last_block}
use Rattle.sheet.specs.Walk.{edge}
use Rattle.sheet.specs.Conflict.{Node, at, END, Arrow}
use Rattle.sheet.specs.Graph.{no_block, first_of, size_of}
use Rattle.sheet.specs.Traversal.{sheet_of, saw}
use Rattle.sheet.specs.declared.traversal.graph.Graph.{Graph}
use Rattle.sheet.specs.declared.traversal.reach.Reach.{Reach}
use Rattle.sheet.proofs.Front.{on_trans, on_leads, on_ended}
use Rattle.sheet.proofs.Nodes.{block_in, place, arrow_next, arrow_edge, arrow_end, arrow_cases}
use Rattle.sheet.proofs.traversal.reach.Reach.spread.Goals as goal

-- l-block x, and its block
module _ (g : Graph) (x : ℕ) (known : x < length g.lblocks.now) where
  abbrev S : Sheet
  S = sheet_of g

  abbrev b : ℕ
  b = (lblock S x).block

  abbrev first : ℕ → ℕ
  first = first_of g.blocks.now

  abbrev size : ℕ → ℕ
  size = size_of g.blocks.now

  abbrev end : ℕ
  end = first b + (get_or g.blocks.now b no_block).lblocks

  its_block : b < length g.blocks.now
  its_block = block_in S g.ready.formed first size g.ready.table x b known refl

  within : (first b ≤ x) × (x < first b + suc (size b))
  within = place S g.ready.formed first size g.ready.table x b known refl

  last : end ≤ x + 1 → x ≡ first b + size b
  last h = let w = within in omega arith

  next : x + 1 < end → Arrow S (at x) (at (x + 1))
  next h = let e : suc x ≡ x + 1 = omega arith in
      subst (Arrow S (at x)) (ap at e) (arrow_next S g.ready.formed first size g.ready.table x b known refl (omega arith))

  crossing : end ≤ x + 1 → (t : ℕ) → Has g.edges.now (edge b t) → Arrow S (at x) (at (first t))
  crossing h = arrow_edge S g.ready.formed first size g.ready.table x b known refl (last h)

  ending : end ≤ x + 1 → b + 1 ≡ length g.blocks.now → Arrow S (at x) END
  ending h m = arrow_end S g.ready.formed first size g.ready.table x b known refl (last h) (omega arith)

  module _ (r : Reach) (y : Node) (a : Arrow S (at x) y) where
    cases : ((x < first b + size b) × (y ≡ at (suc x)))
        ⊎ ((x ≡ first b + size b) × (((t : ℕ) × Has g.edges.now (edge b t) × (y ≡ at (first t))) ⊎ ((b ≡ last_block S) × (y ≡ END))))
    cases = arrow_cases S g.ready.formed first size g.ready.table x b known refl a

    saw_next : x + 1 < end → saw r (at (x + 1)) ≡ true → saw r y ≡ true
    saw_next h t = ⊎_elim
        (λ p. let e : x + 1 ≡ suc x = omega arith in rw (p.1, ← e) t)
        (λ p. absurd (omega (arith, p.0)))
        cases

    saw_others : end ≤ x + 1 → ((t : ℕ) → Has g.edges.now (edge b t) → saw r (at (first t)) ≡ true)
        → (b ≡ last_block S → saw r END ≡ true) → saw r y ≡ true
    saw_others h each ended = ⊎_elim
        (λ p. absurd (omega (arith, p.0, last h)))
        (λ p. ⊎_elim
        (λ q. rw q.2 (each q.0 q.1))
        (λ q. rw q.1 (ended q.0)) p.1)
        cases

pub visit-requires-clause-leads : goal.visit-requires-clause-leads
visit-requires-clause-leads c = c.requires.leads _ (next c.args.g.now c.args.x c.requires.known c.if-x-g.true)

pub returns-then-x-g-clause-saw : goal.returns-then-x-g-clause-saw
returns-then-x-g-clause-saw c y a = saw_next c.args.g.now c.args.x c.requires.known c.visit.new.self y a c.if-x-g.true c.visit.ensures.saw

pub follow-requires-clause-leads : goal.follow-requires-clause-leads
follow-requires-clause-leads c t h = c.requires.leads _ (crossing c.args.g.now c.args.x c.requires.known c.if-x-g.false t h)

pub returns-then-b-g-clause-on : goal.returns-then-b-g-clause-on
returns-then-b-g-clause-on c =
    let S = sheet_of c.args.g.now in
    let on = c.follow.ensures.on in
    on_trans on (on_ended S c.follow.new.self _ on.going
    (on_leads on (c.requires.leads _ (ending c.args.g.now c.args.x c.requires.known c.if-x-g.false c.if-b-g.true))) refl refl refl refl)

pub returns-then-b-g-clause-saw : goal.returns-then-b-g-clause-saw
returns-then-b-g-clause-saw c y a =
    let r = c.follow.new.self in
    saw_others c.args.g.now c.args.x c.requires.known (record { source = r.source; seen = r.seen; ended = true; queue = r.queue }) y a c.if-x-g.false
    c.follow.ensures.saw (λ e. refl)

pub returns-else-b-g-clause-saw : goal.returns-else-b-g-clause-saw
returns-else-b-g-clause-saw c y a =
    saw_others c.args.g.now c.args.x c.requires.known c.follow.new.self y a c.if-x-g.false c.follow.ensures.saw
    (λ e. absurd (c.if-b-g.false (omega (arith, e, c.args.g.now.ready.formed.starts))))
