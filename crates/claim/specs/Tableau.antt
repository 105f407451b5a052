-- A sheet's linear program with a multiplier for each row, as the code holds it. Assumes nothing.
use Rattle.std.specs.Prelude.{Bool}
use Rattle.sheet.specs.Sheet.{Sheet}
use Rattle.sheet.specs.Rows.{Column}
use Rattle.sheet.specs.View.{view}
use Rattle.claim.specs.declared.tableau.Tableau.{Tableau}
use Rattle.claim.specs.Shares.{Multipliers, weights, covered}

abbrev pub sheet_in : Tableau → Sheet
sheet_in t = view t.sheet.now

abbrev pub weights_in : Tableau → Multipliers
weights_in t = weights t.rows

-- whether a column is high enough
abbrev pub passes : Tableau → Column → Bool
passes t x = covered (sheet_in t) (weights_in t) t.scale.value x
