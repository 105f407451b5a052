-- Every text that is printed is whole lines. Assumes nothing.
use Rattle.std.proofs.Common.{ℕ, List, [], ◌∷◌, ◌++◌, codes, decimal, sym, refl, ap, ◌∙◌, subst, inl, inr}
use Rattle.std.proofs.lemmas.List.{append-nil, append_assoc}
use Rattle.words.specs.Words.{Answer, accepted, refused}
use Rattle.words.specs.declared.refusal.Refusal.{Refusal}
use Rattle.line.specs.declared.lines.SheetNumbers.{SheetNumbers}
use Rattle.line.specs.declared.lines.Item.{Item}
use Rattle.line.specs.declared.lines.Item.TheVariants.{Claim as ClaimItem}
use Rattle.line.specs.Text.{spaced, line_of}
use Rattle.line.specs.Lines.{sheet_text, refusal_text, claim_text, item_text, layer_text}
use Rattle.marker.specs.Text.{WholeLines}

pub whole_more : (a b : List ℕ) → WholeLines a → WholeLines b → WholeLines (a ++ b)
whole_more a b h (inl e) = subst WholeLines (sym (ap (λ z. a ++ z) e ∙ append-nil a)) h
whole_more a b h (inr p) = inr (a ++ p.0, ap (λ z. a ++ z) p.1 ∙ sym (append_assoc a p.0 (10 ∷ [])))

whole_line : (ts : List (List ℕ)) → WholeLines (line_of ts)
whole_line ts = inr (spaced ts, refl)

pub whole_sheet : (n : SheetNumbers) → WholeLines (sheet_text n)
whole_sheet n =
    whole_line
    (codes "sheet"
    ∷ codes "blocks" ∷ decimal n.blocks
    ∷ codes "edges" ∷ decimal n.edges
    ∷ codes "lblocks" ∷ decimal n.lblocks
    ∷ codes "rows" ∷ decimal n.rows
    ∷ codes "columns" ∷ decimal n.columns
    ∷ [])

pub whole_refusal : (item : Item) (r : Refusal) → WholeLines (refusal_text item r)
whole_refusal item r =
    whole_line (item_text item ∷ codes "refused" ∷ decimal r.number ∷ codes "at" ∷ decimal r.place ∷ codes "in" ∷ layer_text r.layer ∷ [])

pub whole_claim : (a : Answer ℕ) → WholeLines (claim_text a)
whole_claim (accepted cycles) = whole_line (codes "accepted" ∷ decimal cycles ∷ [])
whole_claim (refused r) = whole_refusal ClaimItem r
