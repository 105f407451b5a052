-- For the code that reads a sheet: its items as lists, and what trying a word answers. Assumes nothing.
use Rattle.std.specs.Prelude.{◌≡◌, ℕ, suc, ◌-◌, Bool, true, false, not, ◌&&◌, List, [], ◌∷◌, length, Ok, Err, vec_items, Result, ◌==◌, nat_eq, nat_lt}
use Rattle.std.proofs.Math.Option.{none, some}
use Rattle.words.specs.Lists.{any}
use Rattle.words.specs.Words.{one_of, set_field, tag_field, upper, lower, i_field, j_field, Check, demand, first_failing, empty, too_many, wrong_loop, wrong_fact, wrong_end, not_due}
use Rattle.sheet.specs.Kinds.{Kind, LBLOCK, COST}
use Rattle.sheet.specs.declared.draft.Draft.{Draft}
use Rattle.sheet.specs.declared.fault.SheetFault.{SheetFault}
use Rattle.sheet.specs.Faults.{sheet_refusal}
use Rattle.sheet.specs.declared.parts.Loop.{Loop as Header}
use Rattle.sheet.specs.declared.section.Section.{Section}
use Rattle.sheet.specs.declared.section.Section.TheVariants.{Head, First, LBlocks, Blocks, Edges, Loop as InLoop, Facts}
use Rattle.sheet.specs.Walk.{edge}
use Rattle.sheet.specs.ReadSheet.{same_edge, checks, lblock_of}
use Rattle.sheet.specs.Drafts.{Items, sheet_of, backs_of, add_lblock}

abbrev pub items_of : Draft → Items
items_of d = record {
  sets = d.sets;
  blocks = vec_items d.blocks.list;
  lblocks = vec_items d.lblocks.list;
  edges = vec_items d.edges.list;
  loops = vec_items d.loops.list;
  backs = vec_items d.backs.list;
  facts = vec_items d.facts.list;
}

-- What a word must meet that stands in or after a loop, said of the items as they are held. The code tries these; where its items are ready
-- they are the reader's checks.
abbrev pub whole_in : Section → Items → Bool
whole_in Head I = true
whole_in First I = true
whole_in (LBlocks n) I = true
whole_in Blocks I = true
whole_in Edges I = true
whole_in (InLoop n h) I =
    any (λ b. nat_eq b.owner n) I.backs && any (λ e. (e.to == h) && not (any (nat_eq e.from) (backs_of I.backs n))) I.edges
whole_in Facts I = true

-- the two words of an l-block
abbrev pub lblock_checks : Items → Kind → ℕ → ℕ → List Check
lblock_checks I k p i = demand (one_of k (LBLOCK ∷ [])) not_due i ∷ checks (sheet_of I) none LBLOCK p i []

abbrev pub cost_checks : Kind → ℕ → List Check
cost_checks k i = demand (one_of k (COST ∷ [])) not_due i ∷ []

-- the items with the l-block that they are
abbrev pub pair_lblock : Items → ℕ → ℕ → Items
pair_lblock I p q = add_lblock I (lblock_of (length I.blocks - 1) (set_field p) (tag_field p) q)

abbrev pub loop_checks : Section → Items → ℕ → ℕ → List Check
loop_checks s I p i =
    demand (nat_lt (length I.loops) 32) too_many i
    ∷ demand (whole_in s I) wrong_loop i
    ∷ demand (nat_lt (upper p) (length I.blocks)) wrong_loop i
    ∷ demand (not (any (λ l. nat_eq (upper p) l.header) I.loops)) wrong_loop i ∷ []

-- outside a loop no BACK is due
abbrev pub back_checks : Section → Items → ℕ → ℕ → List Check
back_checks Head I p i = demand false not_due i ∷ []
back_checks First I p i = demand false not_due i ∷ []
back_checks (LBlocks n) I p i = demand false not_due i ∷ []
back_checks Blocks I p i = demand false not_due i ∷ []
back_checks Edges I p i = demand false not_due i ∷ []
back_checks (InLoop n h) I p i =
    demand (nat_lt (length I.backs) 64) too_many i
    ∷ demand (any (same_edge (edge p h)) I.edges) wrong_loop i
    ∷ demand (not (any (nat_eq p) (backs_of I.backs n))) wrong_loop i ∷ []
back_checks Facts I p i = demand false not_due i ∷ []

-- the number of the loop that is being read
abbrev pub number_in : Section → ℕ
number_in Head = 0
number_in First = 0
number_in (LBlocks n) = 0
number_in Blocks = 0
number_in Edges = 0
number_in (InLoop n h) = n
number_in Facts = 0

-- the loop that a LOOP begins
abbrev pub header_of : ℕ → Header
header_of p = record { header = upper p; bound = lower p }

abbrev pub fact_checks : Section → Items → ℕ → ℕ → List Check
fact_checks s I p i =
    demand (nat_lt (length I.facts) 32) too_many i
    ∷ demand (whole_in s I) wrong_loop i
    ∷ demand (nat_lt (i_field p) (length I.blocks)) wrong_fact i
    ∷ demand (nat_lt (j_field p) (length I.blocks)) wrong_fact i
    ∷ demand (not (i_field p == j_field p)) wrong_fact i ∷ []

abbrev pub end_checks : Section → Items → ℕ → ℕ → List ℕ → List Check
end_checks s I p i rest =
    demand (p == i) wrong_end i
    ∷ demand (whole_in s I) wrong_loop i
    ∷ demand (empty rest) wrong_end (suc i) ∷ []

-- one test
abbrev pub Demanded : {F : Type 0} → Bool → F → Result (Unit {0}) F → Type 0
Demanded t fault (Ok u) = t ≡ true
Demanded t fault (Err e) = (t ≡ false) × (e ≡ fault)

-- The checks pass, the items are those, and so is what is answered; or the first check that fails gives the fault.
abbrev pub Added : {A : Type 0} → List Check → Items → A → Result A SheetFault → Items → Type 0
Added cs new x (Ok y) after = (first_failing cs ≡ none) × (y ≡ x) × (after ≡ new)
Added cs new x (Err e) after = first_failing cs ≡ some (sheet_refusal e)

-- The checks pass, or the first that fails gives the fault.
abbrev pub Tried : {A : Type 0} → List Check → Result A SheetFault → Type 0
Tried cs (Ok x) = first_failing cs ≡ none
Tried cs (Err e) = first_failing cs ≡ some (sheet_refusal e)
