use Rattle.std.proofs.Common.{◌≡◌, length, sym, ap, ◌∙◌, arith}
use Rattle.std.proofs.lemmas.List.{length-map}
use Rattle.sheet.specs.Conflict.{used_sets}
use Rattle.sheet.specs.Drafts.{sheet_of}
use Rattle.sheet.specs.View.{items}
use Rattle.sheet.proofs.Sound.{length-loops}
use Rattle.claim.specs.Parts.{multiplier}
use Rattle.claim.proofs.Division.{rows_are, in_order}
use Rattle.claim.proofs.rows.divide.divide.Goals as goal

pub split_at-requires : goal.split_at-requires
split_at-requires c = omega (arith, rows_are (items c.args.sheet.now), ap length c.blocks-blocks.ensures.listed)

pub split_at-requires-2 : goal.split_at-requires-2
split_at-requires-2 c = omega (arith, rows_are (items c.args.sheet.now), ap length c.blocks-blocks.ensures.listed, c.split_at.ensures.back_len)

pub split_at-requires-3 : goal.split_at-requires-3
split_at-requires-3 c = omega (arith, rows_are (items c.args.sheet.now), ap length c.blocks-blocks.ensures.listed, ap length c.loops.ensures, c.split_at.ensures.back_len, c.split_at-2.ensures.back_len)

pub split_at-requires-4 : goal.split_at-requires-4
split_at-requires-4 c =
    omega (arith, rows_are (items c.args.sheet.now), ap length c.blocks-blocks.ensures.listed, ap length c.loops.ensures, ap length c.facts.ensures, c.split_at.ensures.back_len, c.split_at-2.ensures.back_len, c.split_at-3.ensures.back_len)

pub split_at-requires-5 : goal.split_at-requires-5
split_at-requires-5 c =
    omega (arith, rows_are (items c.args.sheet.now), ap length c.blocks-blocks.ensures.listed, ap length c.lblocks-lblocks.ensures, ap length c.loops.ensures, ap length c.facts.ensures, c.split_at.ensures.back_len, c.split_at-2.ensures.back_len, c.split_at-3.ensures.back_len, c.split_at-4.ensures.back_len)

pub split_at-requires-6 : goal.split_at-requires-6
split_at-requires-6 c =
    omega (arith, rows_are (items c.args.sheet.now), ap length c.blocks-blocks.ensures.listed, ap length c.lblocks-lblocks.ensures, ap length c.loops.ensures, ap length c.facts.ensures, c.split_at.ensures.back_len, c.split_at-2.ensures.back_len, c.split_at-3.ensures.back_len, c.split_at-4.ensures.back_len, c.split_at-5.ensures.back_len)

pub overflow_sub-last : goal.overflow_sub-last
overflow_sub-last c =
    omega (arith, rows_are (items c.args.sheet.now), ap length c.blocks-blocks.ensures.listed, ap length c.lblocks-lblocks.ensures, ap length c.loops.ensures, ap length c.facts.ensures, c.split_at.ensures.back_len, c.split_at-2.ensures.back_len, c.split_at-3.ensures.back_len, c.split_at-4.ensures.back_len, c.split_at-5.ensures.back_len, c.split_at-6.ensures.back_len)

pub returns : goal.returns
returns c =
    let I = items c.args.sheet.now in
    let u : length c.split_at-7.result.0.now ≡ length (used_sets (sheet_of I)) = omega (arith, rows_are I, ap length c.blocks-blocks.ensures.listed, ap length c.lblocks-lblocks.ensures, ap length c.loops.ensures, ap length c.facts.ensures, c.split_at.ensures.back_len, c.split_at-2.ensures.back_len, c.split_at-3.ensures.back_len, c.split_at-4.ensures.back_len, c.split_at-5.ensures.back_len, c.split_at-6.ensures.back_len, c.split_at-7.ensures.front_len, c.split_at-7.ensures.back_len) in
    let m : length c.split_at-7.result.1.now ≡ length I.lblocks = omega (arith, rows_are I, ap length c.blocks-blocks.ensures.listed, ap length c.lblocks-lblocks.ensures, ap length c.loops.ensures, ap length c.facts.ensures, c.split_at.ensures.back_len, c.split_at-2.ensures.back_len, c.split_at-3.ensures.back_len, c.split_at-4.ensures.back_len, c.split_at-5.ensures.back_len, c.split_at-6.ensures.back_len, c.split_at-7.ensures.front_len, c.split_at-7.ensures.back_len) in
    record {
      sized = record {
        ins = length-map c.split_at.result.0.now multiplier ∙ c.split_at.ensures.front_len ∙ ap length c.blocks-blocks.ensures.listed;
        outs = length-map c.split_at-2.result.0.now multiplier ∙ c.split_at-2.ensures.front_len ∙ ap length c.blocks-blocks.ensures.listed;
        loops = length-map c.split_at-3.result.0.now multiplier ∙ c.split_at-3.ensures.front_len ∙ ap length c.loops.ensures ∙ sym (length-loops I.backs 0 I.loops);
        facts = length-map c.split_at-4.result.0.now multiplier ∙ c.split_at-4.ensures.front_len ∙ ap length c.facts.ensures;
        arrivals = length-map c.split_at-5.result.0.now multiplier ∙ c.split_at-5.ensures.front_len ∙ ap length c.lblocks-lblocks.ensures;
        departures = length-map c.split_at-6.result.0.now multiplier ∙ c.split_at-6.ensures.front_len ∙ ap length c.lblocks-lblocks.ensures;
        sets = length-map c.split_at-7.result.0.now multiplier ∙ u;
        misses = length-map c.split_at-7.result.1.now multiplier ∙ m;
      };
      whole = in_order c.args.pairs.now c.split_at.result.0.now c.split_at-2.result.0.now c.split_at-3.result.0.now c.split_at-4.result.0.now c.split_at-5.result.0.now c.split_at-6.result.0.now c.split_at-7.result.0.now c.split_at-7.result.1.now
          c.split_at.result.1.now c.split_at-2.result.1.now c.split_at-3.result.1.now c.split_at-4.result.1.now c.split_at-5.result.1.now c.split_at-6.result.1.now
          c.split_at.ensures.by_index.0 c.split_at-2.ensures.by_index.0 c.split_at-3.ensures.by_index.0 c.split_at-4.ensures.by_index.0 c.split_at-5.ensures.by_index.0 c.split_at-6.ensures.by_index.0 c.split_at-7.ensures.by_index.0;
    }
