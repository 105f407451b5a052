-- The fields of a line, one after another. Assumes nothing.
use Rattle.std.proofs.Common.{◌≡◌, ℕ, suc, ◌+◌, ◌*◌, ◌<◌, ◌≤◌, List, [], ◌∷◌, ◌++◌, map, length, sum_by, min, get_or, take, drop, sym, refl, ap, ◌∙◌, append_assoc, arith, length-append}
use Rattle.std.proofs.lemmas.List.{take_more, take_all, append-nil, take-append-drop}
use Rattle.std.proofs.lemmas.List.Elements.{All-from_get_or}
use Rattle.std.proofs.lemmas.List.Sums.{sum_by-cons, sum_by-le}
use Rattle.words.specs.Lists.{joined}
use Rattle.line.specs.declared.field.Word.{Word}
use Rattle.line.specs.declared.field.Field.{Field}
use Rattle.line.specs.declared.field.Field.TheVariants.{Number}
use Rattle.line.specs.Fields.{word_text, field_text, layout_text}

-- a space and its text for each field
abbrev pub after : List Field → List ℕ
after fs = joined (λ u. 32 ∷ u) (map field_text fs)

after_append : (fs gs : List Field) → after (fs ++ gs) ≡ after fs ++ after gs
after_append [] gs = refl
after_append (f ∷ fs) gs = ap (λ t. (32 ∷ field_text f) ++ t) (after_append fs gs) ∙ sym (append_assoc (32 ∷ field_text f) (after fs) (after gs))

pub after_more : (fs : List Field) (i : ℕ) (f : Field) → i < length fs → after (take (i + 1) fs) ≡ after (take i fs) ++ (32 ∷ field_text (get_or fs i f))
after_more fs i f h =
    ap after (take_more fs i f h)
    ∙ after_append (take i fs) (get_or fs i f ∷ [])
    ∙ ap (λ t. after (take i fs) ++ t) (append-nil (32 ∷ field_text (get_or fs i f)))

pub after_le : (fs : List Field) (i : ℕ) → length (after (take i fs)) ≤ length (after fs)
after_le fs i =
    let e = ap (λ l. length (after l)) (take-append-drop i fs) in
    let s = ap length (after_append (take i fs) (drop i fs)) in
    let l = length-append (after (take i fs)) (after (drop i fs)) in
    omega arith

pub length-line : (w : Word) (fs : List Field) → length (layout_text w fs) ≡ length (word_text w) + length (after fs) + 1
length-line w fs = simp length-append

abbrev pub no_field : Field
no_field = Number 0

pub length_more : (fs : List Field) (i : ℕ) → i < length fs → length (after (take (i + 1) fs)) ≡ length (after (take i fs)) + suc (length (field_text (get_or fs i no_field)))
length_more fs i h = ap length (after_more fs i no_field h) ∙ length-append (after (take i fs)) _

pub after_all : (fs : List Field) (i : ℕ) → length fs ≤ i → after (take i fs) ≡ after fs
after_all fs i h = ap after (take_all i fs h)

-- the bytes of the fields after the first word
pub length_after : (fs : List Field) → length (after fs) ≡ sum_by (λ f. 1 + length (field_text f)) fs
length_after [] = refl
length_after (f ∷ fs) =
    let e = length-append (32 ∷ field_text f) (after fs) in
    let s = sum_by-cons (λ f. 1 + length (field_text f)) f fs in
    let h = length_after fs in
    omega arith

pub fields_le : (fs : List Field) → sum_by (λ f. min 21 (1 + length (field_text f))) fs ≤ length fs * 21
fields_le fs = sum_by-le (λ f. min 21 (1 + length (field_text f))) 21 fs (All-from_get_or (λ f. min 21 (1 + length (field_text f)) ≤ 21) fs no_field (λ i h. omega arith))
