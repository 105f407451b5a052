-- The drum task's cases, by computation. Assumes nothing.
use mathlib.Core.Path.{refl}
use Rattle.sheet.proofs.ReadSheet.{read_fits, fits_well_formed}
use Rattle.claim.specs.CertificateWords.{encode_certificate}
use Rattle.claim.proofs.Judged.{judged_safe}
use Rattle.drum_cases.specs.Drum.{drum, drum_words, multipliers, DrumTask}

pub drum_task : DrumTask
drum_task = record {
  read = refl;
  conflict_edges = refl;
  many_rows = refl;
  many_columns = refl;
  at_45 = refl;
  at_44 = refl;
  loop_multiplier_3 = refl;
  last_multiplier_7 = refl;
  loop_multiplier_minus_1 = refl;
  halves_17 = refl;
  halves_18 = refl;
  ceiling = judged_safe drum (encode_certificate (record { W = 45; D = 1; multipliers = multipliers })) 45 (fits_well_formed drum (read_fits drum_words drum refl).1) refl;
}
