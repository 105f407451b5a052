-- For code: the lines of an input, by what its first list is read as. Assumes nothing.
use Rattle.std.proofs.Common.{◌≡◌, ℕ, ◌*◌, List, [], ◌++◌, length, drop, true, false, Ok, Err, Result, is_err, MatchResult, sym, refl, ap, ◌∙◌, subst, inl}
use Rattle.std.proofs.lemmas.List.{append-nil, append_assoc}
use Rattle.words.specs.Words.{accepted, refused}
use Rattle.sheet.specs.declared.timing.Sheet.{Sheet as Held}
use Rattle.sheet.specs.declared.fault.SheetFault.{SheetFault}
use Rattle.sheet.specs.ReadSheet.{read_sheet}
use Rattle.sheet.specs.Reads.{Reading}
use Rattle.sheet.specs.View.{view}
use Rattle.line.specs.declared.lines.SheetNumbers.{SheetNumbers}
use Rattle.line.specs.declared.lines.Refused.{Refused}
use Rattle.line.specs.declared.lines.Item.TheVariants.{Sheet as SheetItem}
use Rattle.line.specs.Lines.{sheet_text, refusal_text, answer_text}
use Rattle.marker.specs.Input.{first_list}
use Rattle.marker.specs.Text.{WholeLines, Printed}
use Rattle.marker.specs.Stream.{stream}
use Rattle.marker.specs.Report.{numbers_of, sheet_line, after_sheet, report, AfterAnswer, HeldAfter}
use Rattle.marker.proofs.Whole.{whole_more, whole_sheet}

module _ {T E : Type 0} (before after : List ℕ) where
  -- nothing was printed
  pub printed_none : (lines : List ℕ) (r : Result T E) (y : E) → r ≡ Err y → after ≡ before → Printed before lines r after
  printed_none lines r y e a = subst (λ r. Printed before lines r after) (sym e) ([], lines, a ∙ sym (append-nil before), refl, inl refl)

  -- a line, and others after it
  printed_more : (line mid lines : List ℕ) (r : Result T E) → WholeLines line → mid ≡ before ++ line → Printed mid lines r after → Printed before (line ++ lines) r after
  printed_more line mid lines (Ok x) h e a = a ∙ ap (λ z. z ++ lines) e ∙ append_assoc before line lines
  printed_more line mid lines (Err y) h e a =
      (line ++ a.0, a.1, a.2 ∙ ap (λ z. z ++ a.0) e ∙ append_assoc before line a.0, ap (λ z. line ++ z) a.3 ∙ sym (append_assoc line a.0 a.1), whole_more line a.0 h a.4)

-- the sheet that is held after reading
pub held : (ws vs : List ℕ) (before after : Held) (r : Result (Unit {0}) SheetFault) → vs ≡ ws → Reading vs before r after → HeldAfter ws before after
held ws vs before after r q a = subst (λ ws. HeldAfter ws before after) q (go r a)
  where
    go : (r : Result (Unit {0}) SheetFault) → Reading vs before r after → HeldAfter vs before after
    go (Ok u) a = subst (λ a. AfterAnswer a before after) (sym a) refl
    go (Err e) a = subst (λ a. AfterAnswer a before after) (sym a.0) a.1

-- what reading answers, and its line
abbrev Answered : List ℕ → Held → Result SheetNumbers Refused → Type 0
Answered ws s r =
    MatchResult r
    (λ n. (read_sheet ws ≡ accepted (view s)) × (n ≡ numbers_of (view s)))
    (λ e. (read_sheet ws ≡ refused e.refusal) × (e.item ≡ SheetItem))

abbrev line : Result SheetNumbers Refused → List ℕ
line r = answer_text sheet_text (λ e. refusal_text e.item e.refusal) r

pub answer_line : (ws : List ℕ) (s : Held) (r : Result SheetNumbers Refused) → Answered ws s r → line r ≡ sheet_line (read_sheet ws)
answer_line ws s (Ok n) a = ap sheet_text a.1 ∙ ap sheet_line (sym a.0)
answer_line ws s (Err e) a = ap (λ i. refusal_text i e.refusal) a.1 ∙ ap sheet_line (sym a.0)

module _ (bytes before mid : List ℕ) (s : Held) where
  -- the sheet is refused, and nothing follows its line
  pub refused_printed : (r : Result SheetNumbers Refused) → Answered (first_list bytes) s r → is_err r ≡ true → mid ≡ before ++ line r → mid ≡ before ++ report bytes
  refused_printed (Ok n) a t p = cc
  refused_printed (Err e) a t p =
      p ∙ ap (λ z. before ++ z)
      (sym (append-nil (line (Err e)))
      ∙ ap (λ z. z ++ []) (answer_line (first_list bytes) s (Err e) a)
      ∙ ap (λ x. sheet_line (read_sheet (first_list bytes)) ++ after_sheet x (length (first_list bytes)) bytes) (sym a.0))

  -- the sheet is accepted, and the lines of the stream follow its line
  pub accepted_printed : {T E : Type 0} (r : Result SheetNumbers Refused) (start : ℕ) (after : List ℕ) (q : Result T E)
      → Answered (first_list bytes) s r → is_err r ≡ false → mid ≡ before ++ line r → start ≡ length (first_list bytes)
      → Printed mid (stream (view s) start (drop (4 * start) bytes)) q after → Printed before (report bytes) q after
  accepted_printed (Err e) start after q a t p l x = cc
  accepted_printed (Ok n) start after q a t p l x =
      let lines : sheet_text n ++ stream (view s) start (drop (4 * start) bytes) ≡ report bytes =
      ap (λ z. z ++ stream (view s) start (drop (4 * start) bytes)) (answer_line (first_list bytes) s (Ok n) a)
      ∙ ap (λ k. sheet_line (read_sheet (first_list bytes)) ++ stream (view s) k (drop (4 * k) bytes)) l
      ∙ ap (λ x. sheet_line (read_sheet (first_list bytes)) ++ after_sheet x (length (first_list bytes)) bytes) (sym a.0) in
      subst (λ x. Printed before x q after) lines (printed_more before after (sheet_text n) mid (stream (view s) start (drop (4 * start) bytes)) q (whole_sheet n) p x)
