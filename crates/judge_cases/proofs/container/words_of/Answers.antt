use Rattle.std.proofs.Common.{Ok, ◌/◌, length, ap, ◌∙◌, rules, w32}
use Rattle.std.proofs.lemmas.Iterator.{YieldsList-from_slice, YieldsList-from_map, items_from_collect}
use Rattle.std.specs.Int.{from_be_bytes}
use Rattle.std.specs.Simd.{first_chunks}
use Rattle.judge_cases.proofs.Spelling.{spelled}
use Rattle.judge_cases.proofs.container.words_of.Goals as goal

pub returns-2-clause-items : goal.returns-2-clause-items
returns-2-clause-items c =
    items_from_collect {E = Unit {0}} (Ok c.in_ok-collect.field-0) c.in_ok-collect.ensures.ran
    (YieldsList-from_map _ (from_be_bytes w32)
    (YieldsList-from_slice (first_chunks 4 (length c.args.bytes.now / 4) c.args.bytes.now) (ap (λ i. i.rest.now) c.map.ensures.source ∙ c.iter.ensures.rest ∙ c.as_chunks.ensures.front)) c.map.ensures.closure (λ x r q k. search rules))
    ∙ spelled c.args.bytes.now
