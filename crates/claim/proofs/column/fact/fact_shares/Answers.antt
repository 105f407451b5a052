use Rattle.std.proofs.Common.{◌≡◌, ◌+◌, ◌*◌, ◌^◌, ◌<◌, [], ◌∷◌, ◌++◌, length, get_or, take, pos, sym, ap, ◌∙◌, subst, arith}
use Rattle.std.proofs.lemmas.List.{length-map, length_push, get_or-map}
use Rattle.std.proofs.lemmas.Slice.Zip.{zip_turn, zip_end}
use Rattle.claim.specs.Items.{Fact}
use Rattle.claim.specs.Parts.{multiplier, multipliers}
use Rattle.claim.specs.Tables.{FactFits, FactAdded, FactTable, AllNear}
use Rattle.claim.proofs.Nears.{near_more}
use Rattle.claim.proofs.Facts.{no_facts, more_facts, all_facts, added_near}
use Rattle.claim.proofs.column.fact.fact_shares.Goals as goal

abbrev no_fact : Fact
no_fact = record { i = 0; j = 0; k = 0 }

pub loop-fact-init : goal.loop-fact-init
loop-fact-init c = let h = no_facts (multipliers c.args.pairs.now) c.args.facts.now in (h.0, λ b d p. near_more 0 (0 * 2 ^ 55) _ (omega arith) (h.1 b d p))

pub add_fact-requires : goal.add_fact-requires
add_fact-requires c =
    let n = length c.loop-fact.yielded in
    let t = zip_turn c.args.facts.now c.args.pairs.now c.loop-fact.yielded _ c.loop-fact.fact-iterator c.next.new.self c.next.result (cc) (cc) c.loop-fact.yielded_by (c.in-Some.fact, c.in-Some.pair) c.in-Some.is c.next.ensures.steps in
    record {
      fits = subst FactFits (sym (t.2 no_fact)) (c.requires.fits n no_fact t.0);
      near = c.multiplier.ensures.near;
      room = λ b d p. near_more (n * 2 ^ 55) (31 * 2 ^ 55) _ (omega (arith, t.0, c.requires.few)) (c.loop-fact.invariant.1 b d p);
    }

pub loop-fact-preserved : goal.loop-fact-preserved
loop-fact-preserved c =
    let n = length c.loop-fact.yielded in
    let ys = multipliers c.args.pairs.now in
    let fs = c.args.facts.now in
    let t = zip_turn c.args.facts.now c.args.pairs.now c.loop-fact.yielded _ c.loop-fact.fact-iterator c.next.new.self c.next.result (cc) (cc) c.loop-fact.yielded_by (c.in-Some.fact, c.in-Some.pair) c.in-Some.is c.next.ensures.steps in
    let m : length (c.loop-fact.yielded ++ ((c.in-Some.fact, c.in-Some.pair) ∷ [])) ≡ n + 1 = length_push c.loop-fact.yielded (c.in-Some.fact, c.in-Some.pair) in
    let l : n < length ys = omega (arith, length-map c.args.pairs.now multiplier, t.1) in
    let y : c.multiplier.result.0 ≡ get_or ys n (pos 0) = c.multiplier.ensures.value ∙ ap multiplier (t.3 []) ∙ sym (get_or-map multiplier c.args.pairs.now n [] (pos 0) t.1) in
    let a = subst (λ f. FactAdded f c.multiplier.result.0 c.loop-fact.shares c.add_fact.new.shares) (t.2 no_fact) c.add_fact.ensures in
    subst (λ k. FactTable (take k ys) (take k fs) c.add_fact.new.shares × AllNear (k * 2 ^ 55) c.add_fact.new.shares) (sym m) (
      more_facts ys fs n no_fact c.loop-fact.shares c.add_fact.new.shares l t.0 c.loop-fact.invariant.0 (subst (λ z. FactAdded (get_or fs n no_fact) z c.loop-fact.shares c.add_fact.new.shares) y a),
      λ b d p. near_more (n * 2 ^ 55 + 2 ^ 55) ((n + 1) * 2 ^ 55) _ (omega arith)
          (added_near (n * 2 ^ 55) c.loop-fact.shares c.add_fact.new.shares (get_or fs n no_fact) c.multiplier.result.0 a (c.requires.fits n no_fact t.0).3 c.multiplier.ensures.near c.loop-fact.invariant.1 b d p),
    )

pub returns : goal.returns
returns c =
    let n = length c.loop-fact.yielded in
    let ys = multipliers c.args.pairs.now in
    let e = zip_end c.args.facts.now c.args.pairs.now c.loop-fact.yielded _ c.loop-fact.fact-iterator c.next.new.self c.next.result (cc) (cc) c.loop-fact.yielded_by c.in-None.is c.next.ensures.steps in
    record {
      shares = all_facts ys c.args.facts.now n c.loop-fact.shares (omega (arith, length-map c.args.pairs.now multiplier, c.requires.paired, e)) (omega (arith, c.requires.paired, e)) c.loop-fact.invariant.0;
      near = λ b d p. near_more (n * 2 ^ 55) (2 ^ 60) _ (omega (arith, e, c.requires.few)) (c.loop-fact.invariant.1 b d p);
    }
