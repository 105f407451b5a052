use Rattle.std.proofs.Common.{◌≡◌, ℕ, ◌+◌, ◌<◌, true, Option, None, Some, length, get_or, sym, subst, ⊎_elim, arith}
use Rattle.std.specs.Prelude.{MatchOption}
use Rattle.std.proofs.lemmas.Bool.{cases_eq, cases_lt}
use Rattle.sheet.specs.Conflict.{Node, at}
use Rattle.sheet.specs.Graph.{no_edge, first_of, NoneFrom, Latest}
use Rattle.sheet.specs.Traversal.{saw}
use Rattle.sheet.specs.declared.traversal.graph.Graph.{Graph}
use Rattle.sheet.specs.declared.traversal.reach.Reach.{Reach}
use Rattle.sheet.proofs.Front.{on_trans, on_leads}
use Rattle.sheet.proofs.Links.{earlier_left}
use Rattle.sheet.proofs.Nodes.{has_edge}
use Rattle.sheet.proofs.traversal.reach.Reach.follow.Invariants.{Followed}
use Rattle.sheet.proofs.traversal.reach.Reach.follow.Goals as goal

-- edge e of block b is followed, after those with higher numbers
module _ (g : Graph) (r r' : Reach) (b e : ℕ) (kept : (v : Node) → saw r v ≡ true → saw r' v ≡ true) (l : e < length g.edges.now)
    (here : saw r' (at (first_of g.blocks.now (get_or g.edges.now e no_edge).to)) ≡ true) (after : Followed g r b (e + 1)) where
  followed_from : (i : ℕ) → NoneFrom g.edges.now b i e → Followed g r' b i
  followed_from i none j m n q = ⊎_elim
      (λ less. absurd (none j m less q))
      (λ more. ⊎_elim
      (λ same. subst (λ k. saw r' (at (first_of g.blocks.now (get_or g.edges.now k no_edge).to)) ≡ true) (sym same) here)
      (λ other. kept (at (first_of g.blocks.now (get_or g.edges.now j no_edge).to)) (after j (omega arith) n q)) (cases_eq j e))
      (cases_lt j e)

  followed_more : (o : Option ℕ) → Latest g.edges.now b e o
      → MatchOption o (Followed g r' b 0) (λ i. (i < length g.edges.now) × ((get_or g.edges.now i no_edge).from ≡ b) × Followed g r' b (i + 1))
  followed_more None none = followed_from 0 none
  followed_more (Some i) h = let low = h.0 in (omega arith, h.1, followed_from (i + 1) h.2)

pub visit-requires-clause-leads : goal.visit-requires-clause-leads
visit-requires-clause-leads c =
    let f = rw c.in-Some.is at c.loop-next.invariant.followed in
    on_leads c.loop-next.invariant.on (c.requires.leads _ (has_edge c.args.g.now.edges.now c.args.b c.in-Some.e f.0 f.1))

pub loop-next-preserved : goal.loop-next-preserved
loop-next-preserved c =
    let g = c.args.g.now in
    let e = c.in-Some.e in
    let f = rw c.in-Some.is at c.loop-next.invariant.followed in
    let o = get_or g.before.now e None in
    let on = c.visit.ensures.on in record {
      on = on_trans c.loop-next.invariant.on on;
      followed = followed_more g c.loop-next.self c.visit.new.self c.args.b e on.kept f.0 c.visit.ensures.saw f.2 o (subst (λ b. Latest g.edges.now b e o) f.1 (g.ready.linked.earlier e f.0));
    }

pub loop-next-smaller : goal.loop-next-smaller
loop-next-smaller c =
    let f = rw c.in-Some.is at c.loop-next.invariant.followed in
    rw c.in-Some.is (earlier_left c.args.g.now.edges.now _ c.in-Some.e _ (c.args.g.now.ready.linked.earlier c.in-Some.e f.0))
