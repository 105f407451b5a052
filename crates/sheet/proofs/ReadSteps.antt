-- For code: a turn of a reader's loop, whose invariant is that reading on from here answers what reading from the start does. Assumes nothing.
use Rattle.std.proofs.Common.{◌≡◌, ℕ, suc, ◌+◌, ◌<◌, true, false, List, length, get_or, drop, ap, ◌∙◌, arith}
use mathlib.Core.Option.{none, some}
use Rattle.std.proofs.lemmas.List.{drop_more}
use Rattle.sheet.specs.Kinds.{END, Refusal}
use Rattle.words.specs.Words.{kind, payload, same_kind, refused, first_failing}
use Rattle.sheet.specs.ReadSheet as sheet
use Rattle.words.proofs.Words.{step_on, step_end}
use Rattle.sheet.proofs.FirstFault.{step_refuses}

-- ws are the words, w the one at place i, and st the state before it
module _ (ws : List ℕ) (i : ℕ) (h : i < length ws) (st : sheet.State) where
  -- the word is refused
  pub sheet_refused : (r : Refusal) → first_failing (sheet.demands st (get_or ws i 0) i (drop (i + 1) ws)) ≡ some r → sheet.read_from st (drop i ws) i ≡ refused r
  sheet_refused r e =
      ap (λ z. sheet.read_from st z i) (drop_more ws i 0 h)
      ∙ step_refuses (first_failing (sheet.demands st (get_or ws i 0) i (drop (i + 1) ws))) (same_kind (kind (get_or ws i 0)) END) (sheet.finished (sheet.closed st.read (sheet.open_loop st.stand)))
      (sheet.read_from (sheet.next st.stand st.read (kind (get_or ws i 0)) (payload (get_or ws i 0))) (drop (i + 1) ws) (suc i)) r e

  -- the word is taken
  pub sheet_goes_on : first_failing (sheet.demands st (get_or ws i 0) i (drop (i + 1) ws)) ≡ none → same_kind (kind (get_or ws i 0)) END ≡ false
      → sheet.read_from st (drop i ws) i ≡ sheet.read_from (sheet.next st.stand st.read (kind (get_or ws i 0)) (payload (get_or ws i 0))) (drop (i + 1) ws) (i + 1)
  sheet_goes_on e n =
      ap (λ z. sheet.read_from st z i) (drop_more ws i 0 h)
      ∙ step_on (first_failing (sheet.demands st (get_or ws i 0) i (drop (i + 1) ws))) (same_kind (kind (get_or ws i 0)) END) (sheet.finished (sheet.closed st.read (sheet.open_loop st.stand)))
      (sheet.read_from (sheet.next st.stand st.read (kind (get_or ws i 0)) (payload (get_or ws i 0))) (drop (i + 1) ws) (suc i)) e n
      ∙ ap (sheet.read_from (sheet.next st.stand st.read (kind (get_or ws i 0)) (payload (get_or ws i 0))) (drop (i + 1) ws)) (omega arith)

  -- the word is END
  pub sheet_ends : first_failing (sheet.demands st (get_or ws i 0) i (drop (i + 1) ws)) ≡ none → same_kind (kind (get_or ws i 0)) END ≡ true
      → sheet.read_from st (drop i ws) i ≡ sheet.finished (sheet.closed st.read (sheet.open_loop st.stand))
  sheet_ends e n =
      ap (λ z. sheet.read_from st z i) (drop_more ws i 0 h)
      ∙ step_end (first_failing (sheet.demands st (get_or ws i 0) i (drop (i + 1) ws))) (same_kind (kind (get_or ws i 0)) END) (sheet.finished (sheet.closed st.read (sheet.open_loop st.stand)))
      (sheet.read_from (sheet.next st.stand st.read (kind (get_or ws i 0)) (payload (get_or ws i 0))) (drop (i + 1) ws) (suc i)) e n
