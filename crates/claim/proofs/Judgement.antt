-- For code: the judge's answer from what its parts found. Assumes nothing.
use Rattle.std.proofs.Common.{◌≡◌, ℕ, ◌+◌, ◌-◌, ◌*◌, Bool, true, false, cond, ltb, List, length, ℤ, pos, Some, None, Option, sym, ap, ◌∙◌, subst, ap₂, arith}
use lib.Signed.{le_z}
use Rattle.std.specs.List.{prefix_len}
use Rattle.std.proofs.lemmas.Bool.{lt-ltb, le-ltb, cond-true, cond-false}
use Rattle.words.specs.Words.{refusal, column_too_low, claim_too_low, Answer, accepted, refused}
use Rattle.sheet.specs.Sheet.{Sheet}
use Rattle.sheet.specs.ConflictList.{conflicts}
use Rattle.sheet.specs.Rows.{rows, columns, right_side}
use Rattle.claim.specs.Certificate.{Certificate, combined}
use Rattle.claim.specs.Judge.{Verdict, passed, negative, low_column, low_claim, sign_tests, high_enough, claims_enough, judge}
use Rattle.claim.specs.Judging.{JudgeLaws}
use Rattle.claim.specs.ReadCertificate.{read_certificate, answered, judged}
use Rattle.claim.specs.declared.tableau.Tableau.{Tableau}
use Rattle.claim.specs.Parts.{multipliers}
use Rattle.claim.specs.Shares.{all, as_tested, FirstLow}
use Rattle.claim.specs.Tableau.{sheet_in, weights_in, passes}
use Rattle.claim.proofs.CertificateFault.{certificate_first_fault, certificate_cut}
use Rattle.claim.proofs.Judged.{judged_right}
use Rattle.claim.proofs.Laws.{row_wise, monotone, judge_numbered}
use Rattle.claim.proofs.ReadCertificate.{reads_certificates}
use Rattle.claim.proofs.Safe.{safe}

pub judge_laws : JudgeLaws
judge_laws = record {
  exact = judged_right;
  reads = reads_certificates;
  safe = safe;
  first = certificate_first_fault;
  cut = certificate_cut;
  numbered = judge_numbered;
  row_wise = row_wise;
  monotone = monotone;
}

-- what was found by a tableau of the sheet and the certificate
module _ (t : Tableau) (S : Sheet) (C : Certificate) (e : sheet_in t ≡ S) (d : t.scale.value ≡ C.D) (m : C.multipliers ≡ all (weights_in t)) where
  pub found_signs : (r : Option ℕ) → FirstLow as_tested (sign_tests (multipliers t.pairs.now) (rows (sheet_in t))) r → FirstLow as_tested (sign_tests C.multipliers (rows S)) r
  found_signs r h =
      subst (λ ys. FirstLow as_tested (sign_tests ys (rows S)) r) (t.whole ∙ sym m)
      (subst (λ S. FirstLow as_tested (sign_tests (multipliers t.pairs.now) (rows S)) r) e h)

  pub found_column : (r : Option ℕ) → FirstLow (passes t) (columns (sheet_in t) (conflicts (sheet_in t))) r → FirstLow (high_enough S C) (columns S (conflicts S)) r
  found_column r h =
      subst (λ ys. FirstLow (high_enough S (record { W = C.W; D = C.D; multipliers = ys })) (columns S (conflicts S)) r) (sym m)
      (subst (λ D. FirstLow (high_enough S (record { W = C.W; D = D; multipliers = all (weights_in t) })) (columns S (conflicts S)) r) d
      (subst (λ S. FirstLow (high_enough S (record { W = C.W; D = t.scale.value; multipliers = all (weights_in t) })) (columns S (conflicts S)) r) e h))

  pub found_claim : (x : ℤ) (b : Bool) → x ≡ combined (all (weights_in t)) (rows (sheet_in t)) (right_side (sheet_in t)) → b ≡ le_z x (pos (C.W * C.D + C.D - 1)) → claims_enough S C ≡ b
  found_claim x b q k = ap (λ z. le_z z (pos (C.W * C.D + C.D - 1))) (ap₂ (λ ys S. combined ys (rows S) (right_side S)) m (sym e) ∙ sym q) ∙ sym k

abbrev answer : Sheet → Answer Certificate → Answer ℕ
answer S a = elim a [ refused r ↦ refused r | accepted C ↦ answered C.W (judge S (conflicts S) C) ]

module _ (S : Sheet) (ws : List ℕ) (n : ℕ) (C : Certificate) (e : n ≡ length (rows S)) (h : read_certificate n ws ≡ accepted C) where
  was_read : judged S ws ≡ answered C.W (judge S (conflicts S) C)
  was_read = ap (answer S) (ap (λ m. read_certificate m ws) (sym e) ∙ h)

  abbrev signs : List Bool
  signs = sign_tests C.multipliers (rows S)

  module _ (f : FirstLow as_tested signs None) where
    abbrev column_verdict : Verdict
    column_verdict = cond (ltb (prefix_len (high_enough S C) (columns S (conflicts S))) (length (columns S (conflicts S)))) (low_column (prefix_len (high_enough S C) (columns S (conflicts S)))) (cond (claims_enough S C) passed low_claim)

    signs_pass : judge S (conflicts S) C ≡ column_verdict
    signs_pass = cond-false (ltb (prefix_len as_tested signs) (length signs)) (negative (prefix_len as_tested signs)) column_verdict (le-ltb (prefix_len as_tested signs) (length signs) (omega (arith, f)))

    pub column_refused : (k : ℕ) → FirstLow (high_enough S C) (columns S (conflicts S)) (Some k) → judged S ws ≡ refused (refusal column_too_low k)
    column_refused k g =
        was_read
        ∙ ap (answered C.W)
        (signs_pass
        ∙ cond-true (ltb (prefix_len (high_enough S C) (columns S (conflicts S))) (length (columns S (conflicts S)))) (low_column (prefix_len (high_enough S C) (columns S (conflicts S)))) (cond (claims_enough S C) passed low_claim)
        (lt-ltb (prefix_len (high_enough S C) (columns S (conflicts S))) (length (columns S (conflicts S))) (omega (arith, g.0, g.1)))
        ∙ ap low_column g.0)

    module _ (g : FirstLow (high_enough S C) (columns S (conflicts S)) None) where
      columns_pass : judged S ws ≡ answered C.W (cond (claims_enough S C) passed low_claim)
      columns_pass =
          was_read
          ∙ ap (answered C.W)
          (signs_pass
          ∙ cond-false (ltb (prefix_len (high_enough S C) (columns S (conflicts S))) (length (columns S (conflicts S)))) (low_column (prefix_len (high_enough S C) (columns S (conflicts S)))) (cond (claims_enough S C) passed low_claim)
          (le-ltb (prefix_len (high_enough S C) (columns S (conflicts S))) (length (columns S (conflicts S))) (omega (arith, g))))

      pub claim_refused : claims_enough S C ≡ false → judged S ws ≡ refused (refusal claim_too_low 0)
      claim_refused t = columns_pass ∙ ap (λ b. answered C.W (cond b passed low_claim)) t

      pub claim_accepted : claims_enough S C ≡ true → judged S ws ≡ accepted C.W
      claim_accepted t = columns_pass ∙ ap (λ b. answered C.W (cond b passed low_claim)) t
