-- The drum task: three blocks with an l-block each, the middle one a loop. Assumes nothing.
use Rattle.std.specs.Prelude.{◌≡◌, List, [], ◌∷◌, map, ℕ, ℤ, pos, negsuc, ◌*ℤ◌, length, set}
use Rattle.words.specs.declared.refusal.Layer.TheVariants.{Claim}
use Rattle.words.specs.Words.{Answer, accepted, refused}
use Rattle.sheet.specs.declared.parts.Conflict.{Conflict}
use Rattle.sheet.specs.declared.parts.Node.TheVariants.{Start as START, At as at, End as END}
use Rattle.sheet.specs.Sheet.{Sheet}
use Rattle.sheet.specs.ConflictList.{conflicts}
use Rattle.sheet.specs.ReadSheet.{read_sheet}
use Rattle.sheet.specs.Rows.{rows, columns}
use Rattle.sheet.specs.Walk.{edge}
use Rattle.claim.specs.CertificateWords.{encode_certificate}
use Rattle.claim.specs.Judging.{Covers}
use Rattle.claim.specs.ReadCertificate.{judged}

abbrev pub drum : Sheet
drum = record {
  sets = 2;
  blocks = 3;
  lblocks =
      record { block = 0; set = 0; tag = 1; hit = 2; extra = 8 }
      ∷ record { block = 1; set = 0; tag = 2; hit = 4; extra = 8 }
      ∷ record { block = 2; set = 1; tag = 1; hit = 3; extra = 8 } ∷ [];
  edges = edge 0 1 ∷ edge 1 1 ∷ edge 1 2 ∷ [];
  loops = record { header = 1; bound = 3; backs = 1 ∷ [] } ∷ [];
  facts = [];
}

-- its words
abbrev pub drum_words : List ℕ
drum_words =
    0x10000002 ∷ 0x20000001 ∷ 0x30000001 ∷ 0x40008008 ∷ 0x20000001 ∷ 0x30000002 ∷ 0x40010008 ∷ 0x20000001 ∷ 0x30100001 ∷ 0x4000c008
    ∷ 0x50000001 ∷ 0x50004001 ∷ 0x50004002 ∷ 0x60004003 ∷ 0x70000001 ∷ 0xf000000f ∷ []

abbrev pub drum_conflicts : List Conflict
drum_conflicts =
    record { set = 0; from = START; to = at 0 } ∷ record { set = 0; from = at 0; to = at 1 }
    ∷ record { set = 0; from = at 1; to = at 1 } ∷ record { set = 0; from = at 1; to = END }
    ∷ record { set = 1; from = START; to = at 2 } ∷ record { set = 1; from = at 2; to = END } ∷ []

-- a multiplier for each row: in, out, loop, arrival, departure, set, miss
abbrev pub multipliers : List ℤ
multipliers =
    pos 26 ∷ pos 4 ∷ pos 0
    ∷ negsuc 15 ∷ pos 0 ∷ pos 3
    ∷ pos 4
    ∷ pos 0 ∷ pos 0 ∷ pos 0
    ∷ negsuc 7 ∷ pos 0 ∷ pos 0
    ∷ pos 8 ∷ pos 8
    ∷ pos 8 ∷ pos 8 ∷ pos 8 ∷ []

abbrev pub doubled : List ℤ
doubled = map (λ y. pos 2 *ℤ y) multipliers

-- what judge answers to the words of a certificate
abbrev pub answer : ℕ → ℕ → List ℤ → Answer ℕ
answer W D ys = judged drum (encode_certificate (record { W = W; D = D; multipliers = ys }))

-- a refusal of the claim layer
abbrev pub claim_refused : ℕ → ℕ → Answer ℕ
claim_refused n place = refused (record { number = n; place = place; layer = Claim })

pub record DrumTask : Type 0 where
  pub read : read_sheet drum_words ≡ accepted drum
  pub conflict_edges : conflicts drum ≡ drum_conflicts
  pub many_rows : length (rows drum) ≡ 18
  pub many_columns : length (columns drum drum_conflicts) ≡ 15
  pub at_45 : answer 45 1 multipliers ≡ accepted 45
  pub at_44 : answer 44 1 multipliers ≡ claim_refused 14 0
  pub loop_multiplier_3 : answer 45 1 (set multipliers 6 (pos 3)) ≡ claim_refused 13 4
  pub last_multiplier_7 : answer 45 1 (set multipliers 17 (pos 7)) ≡ claim_refused 13 8
  pub loop_multiplier_minus_1 : answer 45 1 (set multipliers 6 (negsuc 0)) ≡ claim_refused 12 6
  pub halves_17 : answer 45 2 (set doubled 14 (pos 17)) ≡ accepted 45
  pub halves_18 : answer 45 2 (set doubled 14 (pos 18)) ≡ claim_refused 14 0
  pub ceiling : Covers drum 45
