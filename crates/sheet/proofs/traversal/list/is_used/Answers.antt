use Rattle.std.proofs.Common.{◌≡◌, Bool, ◌||◌, eqb, List, [], ◌∷◌, refl, ap, ◌∙◌, rules, tests}
use Rattle.std.specs.List.{list_any}
use Rattle.std.proofs.lemmas.Iterator.{YieldsList-from_slice}
use Rattle.std.proofs.lemmas.Iterator.Search.{any_from_yields_List}
use Rattle.words.specs.Lists.{any}
use Rattle.sheet.specs.Sheet.{LBlock}
use Rattle.sheet.proofs.traversal.list.is_used.Goals as goal

any_is : {A : Type 0} (p : A → Bool) (xs : List A) → list_any p xs ≡ any p xs
any_is p [] = refl
any_is p (x ∷ xs) = ap (λ b. p x || b) (any_is p xs)

pub returns : goal.returns
returns c =
    let has : LBlock → Bool = λ b. eqb b.set c.args.set in
    any_from_yields_List has _ _ _ c.any.ensures.ran (YieldsList-from_slice c.args.lblocks.now cc) (λ x b q k. search (rules, tests)) ∙ any_is has c.args.lblocks.now
