-- For code: what the answer of a search says of the sheet that was read, and the laws of reading. Assumes nothing.
use Rattle.std.proofs.Common.{◌≡◌, ℕ, Ok, Err, Result, List, sym, ap, ◌∙◌}
use mathlib.Core.Option.{Option, none, some}
use Rattle.words.specs.Words.{Answer, accepted, refused, refusal, too_many_conflicts}
use Rattle.sheet.specs.declared.fault.SheetFault.{SheetFault}
use Rattle.sheet.specs.Faults.{sheet_refusal}
use Rattle.sheet.specs.Sheet.{Sheet}
use Rattle.sheet.specs.Conflict.{Conflict, used_sets}
use Rattle.sheet.specs.ReadSheet.{passing}
use Rattle.sheet.specs.Graph.{graph}
use Rattle.sheet.specs.Reads.{Found, ReaderLaws}
use Rattle.sheet.proofs.ReadSheet.{fits_well_formed}
use Rattle.sheet.proofs.SheetRuns.{reads_sheets}
use Rattle.sheet.proofs.FirstFault.{first_fault, refusals_placed, lowest_first, refusals_numbered}
use Rattle.sheet.proofs.SameGraph.{same_conflicts, same_passing}

-- the answer of reading, by the set that passes the limit
abbrev answered : Sheet → Option ℕ → Answer Sheet
answered S o = elim o [ none ↦ accepted S | some s ↦ refused (refusal too_many_conflicts s) ]

-- what is found of the graph is found of the sheet
pub found_of : (S : Sheet) (r : Result (Unit {0}) SheetFault) (cs : List Conflict) → Found (graph S) r cs → Found S r cs
found_of S (Ok u) cs f = (sym (same_passing S (used_sets S) 0) ∙ f.0, f.1 ∙ same_conflicts S)
found_of S (Err e) cs f = ap (answered S) (sym (same_passing S (used_sets S) 0)) ∙ go (passing (graph S) (used_sets (graph S)) 0) f
  where
    go : (o : Option ℕ) → answered (graph S) o ≡ refused (sheet_refusal e) → answered S o ≡ refused (sheet_refusal e)
    go none h = cc
    go (some s) h = h

pub reader_laws : ReaderLaws
reader_laws = record { exact = reads_sheets; formed = fits_well_formed; first = first_fault; placed = refusals_placed; lowest = lowest_first; numbered = refusals_numbered }
