use Rattle.std.proofs.Common.{◌≡◌, ℕ, zero, suc, Bool, eqb, length, filter, refl, ap, ◌∙◌, add-one, arith, rules, tests}
use Rattle.std.specs.List.{range_with_len}
use Rattle.std.proofs.lemmas.Iterator.{YieldsList-from_range}
use Rattle.std.proofs.lemmas.Iterator.Consumers.{YieldsList-from_filter, count_from_yields_List}
use Rattle.words.specs.Lists.{up_from, any}
use Rattle.sheet.specs.Sheet.{LBlock}
use Rattle.sheet.proofs.timing.replace.count_used.Goals as goal

range_is : (i n : ℕ) → range_with_len i n ≡ up_from i n
range_is i zero = refl
range_is i (suc n) = rw (add-one, range_is (suc i) n) refl

pub returns : goal.returns
returns c =
    let has : ℕ → Bool = λ s. any (λ (b : LBlock). eqb b.set s) c.args.lblocks.now in
    count_from_yields_List c.filter.result c.count.result c.count.ensures.ran
    (YieldsList-from_filter _ has (YieldsList-from_range 0 _ c.args.sets c.filter.ensures.source (omega arith)) c.filter.ensures.closure (λ x b q k. search (rules, tests)))
    ∙ ap (λ xs. length (filter has xs)) (range_is 0 c.args.sets)
