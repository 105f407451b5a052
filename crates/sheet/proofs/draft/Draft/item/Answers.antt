use Rattle.std.proofs.Common.{sym, ◌∙◌}
use Rattle.sheet.proofs.Turns.{block_taken, edge_taken, loop_taken, back_taken, fact_taken, end_taken}
use Rattle.sheet.proofs.draft.Draft.item.Goals as goal

pub returns-in-Block : goal.returns-in-Block
returns-in-Block c = let d = sym c.due.ensures ∙ c.in_ok-demand.ensures in search block_taken

pub returns-in-Edge : goal.returns-in-Edge
returns-in-Edge c = let d = sym c.due.ensures ∙ c.in_ok-demand.ensures in search edge_taken

pub returns-in-Loop : goal.returns-in-Loop
returns-in-Loop c = let d = sym c.due.ensures ∙ c.in_ok-demand.ensures in search loop_taken

pub returns-in-Back : goal.returns-in-Back
returns-in-Back c = let d = sym c.due.ensures ∙ c.in_ok-demand.ensures in search back_taken

pub returns-in-Fact : goal.returns-in-Fact
returns-in-Fact c = let d = sym c.due.ensures ∙ c.in_ok-demand.ensures in search fact_taken

pub returns-in-End : goal.returns-in-End
returns-in-End c = let d = sym c.due.ensures ∙ c.in_ok-demand.ensures in search end_taken
