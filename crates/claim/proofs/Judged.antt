-- What the judge's answer to words says. Assumes nothing.
use Rattle.std.proofs.Common.{◌≡◌, ℕ, List, length, refl, ap, ◌∙◌, arith}
use Rattle.sheet.specs.Sheet.{Sheet}
use Rattle.sheet.specs.ConflictList.{conflicts}
use Rattle.sheet.specs.Rows.{rows}
use Rattle.claim.specs.Certificate.{Certificate}
use Rattle.claim.specs.Judge.{Verdict, passed, negative, low_column, low_claim, judge}
use Rattle.words.specs.Words.{Answer, accepted, refused}
use Rattle.claim.specs.ReadCertificate.{read_certificate, answered, judged}
use Rattle.claim.specs.CertificateWords.{Proves, JudgedRight, JudgedSafe}
use Rattle.claim.proofs.Verdicts.{judges_right}
use Rattle.sheet.proofs.Reach.{lists_conflicts}
use Rattle.claim.proofs.Safe.{safe}
use Rattle.claim.proofs.ReadCertificate.{reads_certificates}

answered_W : (V W : ℕ) (v : Verdict) → answered V v ≡ accepted W → (v ≡ passed) × (V ≡ W)
answered_W V W passed e = (refl, cc)
answered_W V W (negative r) e = let z : ◌≡◌ {A = ℕ} 0 1 = cc in absurd (omega arith)
answered_W V W (low_column c) e = let z : ◌≡◌ {A = ℕ} 0 1 = cc in absurd (omega arith)
answered_W V W low_claim e = let z : ◌≡◌ {A = ℕ} 0 1 = cc in absurd (omega arith)

module _ (S : Sheet) (ws : List ℕ) (W : ℕ) where
  to : judged S ws ≡ accepted W → Proves S ws W
  to e = go (read_certificate (length (rows S)) ws) refl e
    where
      go : (a : Answer Certificate) → read_certificate (length (rows S)) ws ≡ a
          → ◌≡◌ {A = Answer ℕ} (elim a [ refused r ↦ refused r | accepted C ↦ answered C.W (judge S (conflicts S) C) ]) (accepted W) → Proves S ws W
      go (refused r) q e = let z : ◌≡◌ {A = ℕ} 0 1 = cc in absurd (omega arith)
      go (accepted C) q e =
          let r = (reads_certificates (length (rows S)) ws C).0 q in
          let v = answered_W C.W W (judge S (conflicts S) C) e in
          record {
            certificate = C;
            encoded = r.0;
            fits = r.1;
            passes = (judges_right S (conflicts S) C r.1.scale.0 r.1.each_row).0 v.0;
            claims = v.1;
          }

  from : Proves S ws W → judged S ws ≡ accepted W
  from k =
      let C : Certificate = k.certificate in
      let q = (reads_certificates (length (rows S)) ws C).1 (k.encoded, k.fits) in
      let v = (judges_right S (conflicts S) C k.fits.scale.0 k.fits.each_row).1 k.passes in
      let f : Answer Certificate → Answer ℕ = λ a. elim a [ refused r ↦ refused r | accepted C ↦ answered C.W (judge S (conflicts S) C) ] in
      ap f q ∙ ap (answered C.W) v ∙ ap accepted k.claims

pub judged_right : JudgedRight
judged_right S ws W = (to S ws W, from S ws W)

pub judged_safe : JudgedSafe
judged_safe S ws W wf e w l R R' c k =
    let p = (judged_right S ws W).0 e in
    let h = safe S (conflicts S) p.certificate wf (lists_conflicts S) p.passes w l R R' c k in
    omega (arith, h, p.claims)
