-- What every sheet keeps, for code above. Assumes nothing.
use Rattle.sheet.specs.declared.timing.Sheet.{Sheet as Held}
use Rattle.sheet.specs.Sound.{Sound}
use Rattle.sheet.specs.View.{items}
use Rattle.sheet.proofs.Sound.{sound}

pub sheet_sound : (s : Held) → Sound (items s)
sheet_sound s = sound (items s) s.kept
