-- For code: the rows of a sheet by families. Assumes nothing.
use Rattle.std.proofs.Common.{◌≡◌, ℕ, ◌+◌, ◌*◌, List, ◌++◌, length, ap, ◌∙◌}
use Rattle.std.proofs.lemmas.List.{map-append, append_assoc}
use Rattle.sheet.specs.Conflict.{used_sets}
use Rattle.sheet.specs.Drafts.{Items, sheet_of}
use Rattle.sheet.specs.Rows.{rows}
use Rattle.sheet.proofs.Counts.{length-rows}
use Rattle.sheet.proofs.Sound.{length-loops}
use Rattle.claim.specs.Parts.{multipliers}

-- how many rows there are
pub rows_are : (I : Items) → length (rows (sheet_of I)) ≡ 2 * length I.blocks + length I.loops + length I.facts + 3 * length I.lblocks + length (used_sets (sheet_of I))
rows_are I = length-rows (sheet_of I) ∙ ap (λ n. 2 * length I.blocks + n + length I.facts + 3 * length I.lblocks + length (used_sets (sheet_of I))) (length-loops I.backs 0 I.loops)

-- a list that is split again and again
pub in_order : (p a b c d e f g h q r s t u v : List (List ℕ)) → p ≡ a ++ q → q ≡ b ++ r → r ≡ c ++ s → s ≡ d ++ t → t ≡ e ++ u → u ≡ f ++ v → v ≡ g ++ h
    → multipliers p ≡ multipliers a ++ multipliers b ++ multipliers c ++ multipliers d ++ multipliers e ++ multipliers f ++ multipliers g ++ multipliers h
in_order p a b c d e f g h q r s t u v i j k l m n o =
    ap multipliers (i ∙ ap (λ x. a ++ x) (j ∙ ap (λ x. b ++ x) (k ∙ ap (λ x. c ++ x) (l ∙ ap (λ x. d ++ x) (m ∙ ap (λ x. e ++ x) (n ∙ ap (λ x. f ++ x) o))))))
    ∙ simp (map-append, append_assoc)
