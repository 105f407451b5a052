use Rattle.std.proofs.Common.{◌+◌, [], get_or, take, sym, subst, inl, inr}
use Rattle.sheet.specs.declared.parts.BackEdge.{BackEdge}
use Rattle.claim.specs.Tables.{SourceTable}
use Rattle.claim.proofs.Loopings.{Square, none_sources, none_square, more_sources, marked_square, same_sources}
use Rattle.claim.proofs.column.looping.back_sources.Goals as goal
use Rattle.claim.proofs.column.looping.back_sources.Goals.{then-back-lt-MOST_LOOPS+then-back-lt-MOST_BLOCKS, else-back-lt-MOST_LOOPS, else-back-lt-MOST_LOOPS-via-then-back-lt-MOST_LOOPS+else-back-lt-MOST_BLOCKS, else-back-lt-MOST_LOOPS-via-else-back-lt-MOST_LOOPS}

abbrev no_back : BackEdge
no_back = record { owner = 0; source = 0 }

pub loop-back-init : goal.loop-back-init
loop-back-init c = (none_sources c.args.backs.now, none_square)

pub loop-back-preserved : goal.loop-back-preserved
loop-back-preserved c =
    let bs = c.args.backs.now in
    let i = c.loop-back.back-index in
    let t = c.loop-back.sources in
    let h = c.loop-back.invariant.0 in
    let q = c.loop-back.invariant.1 in
    elim c.if-back-lt-MOST_LOOPS.branch [
      | then-back-lt-MOST_LOOPS+then-back-lt-MOST_BLOCKS w ↦
          subst (λ u. SourceTable (take (i + 1) bs) u × Square u) (sym w.sources-is)
          (more_sources bs i no_back c.loop-back-test.true t h q w.if-back-lt-MOST_LOOPS.true w.if-back-lt-MOST_BLOCKS.true [], marked_square t q (get_or bs i no_back).owner (get_or bs i no_back).source w.if-back-lt-MOST_LOOPS.true [])
      | else-back-lt-MOST_LOOPS w ↦
          subst (λ u. SourceTable (take (i + 1) bs) u × Square u) (sym w.sources-is) (
            same_sources bs i no_back c.loop-back-test.true t h
                (elim w.else-back-lt-MOST_LOOPS.branch [ else-back-lt-MOST_LOOPS-via-then-back-lt-MOST_LOOPS+else-back-lt-MOST_BLOCKS x ↦ inr x.if-back-lt-MOST_BLOCKS.false | else-back-lt-MOST_LOOPS-via-else-back-lt-MOST_LOOPS x ↦ inl x.if-back-lt-MOST_LOOPS.false ]),
            q,
          )
    ]
