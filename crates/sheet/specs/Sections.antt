-- Where the code that reads a sheet stands, as the reader's state. Assumes nothing.
use Rattle.std.specs.Prelude.{◌≡◌, ℕ, suc, ◌+◌, ◌-◌, ◌<◌, ◌≤◌, true, false, cond, List, [], ◌∷◌, length, get_or, take, drop, Some, None, Ok, Err, Option as Maybe, Result, nat_lt, slice_index, slice_index_or}
use Rattle.std.proofs.Math.Option.{none, some}
use Rattle.std.specs.List.{AllByRecursion}
use Rattle.words.specs.Words.{one_of, not_due, demand, kind, payload, same_kind, Check, first_failing, refused}
use Rattle.sheet.specs.declared.parts.Loop.{Loop as Header}
use Rattle.sheet.specs.declared.section.Section.{Section}
use Rattle.sheet.specs.declared.section.Section.TheVariants.{Head, First, LBlocks, Blocks, Edges, Loop, Facts}
use Rattle.sheet.specs.Kinds.{Kind, END}
use Rattle.sheet.specs.ReadSheet.{at_head, at_first, at_lblock, at_blocks, at_edges, in_loop, at_facts, State, stands, due, back_words, open_loop, checks, demands, next, read_from}
use Rattle.sheet.specs.declared.fault.SheetFault.{SheetFault}
use Rattle.sheet.specs.Faults.{sheet_refusal}
use Rattle.sheet.specs.BlockTable.{Laid}
use Rattle.sheet.specs.Drafts.{Items, sheet_of, loop_of}

abbrev pub no_header : Header
no_header = record { header = 0; bound = 0 }

-- the items without the loops from number n on
abbrev pub before_loop : Items → ℕ → Items
before_loop I n = record { sets = I.sets; blocks = I.blocks; lblocks = I.lblocks; edges = I.edges; loops = take n I.loops; backs = I.backs; facts = I.facts }

-- The state: in a loop, the sheet so far is without it.
abbrev pub state_of : Section → Items → State
state_of Head I = stands at_head (sheet_of I)
state_of First I = stands at_first (sheet_of I)
state_of (LBlocks n) I = stands (at_lblock n) (sheet_of I)
state_of Blocks I = stands at_blocks (sheet_of I)
state_of Edges I = stands at_edges (sheet_of I)
state_of (Loop n h) I = stands (in_loop (loop_of I.backs n (slice_index_or I.loops n no_header))) (sheet_of (before_loop I n))
state_of Facts I = stands at_facts (sheet_of I)

abbrev pub no_items : Items
no_items = record { sets = 0; blocks = []; lblocks = []; edges = []; loops = []; backs = []; facts = [] }

-- the kinds that are due
abbrev pub due_in : Section → List Kind
due_in s = due (state_of s no_items).stand

-- In a loop, it is the last one; in a block, an l-block is lacking.
abbrev pub IsOpen : Section → Items → Type 0
IsOpen Head I = Unit {0}
IsOpen First I = Unit {0}
IsOpen (LBlocks n) I = 1 ≤ n
IsOpen Blocks I = Unit {0}
IsOpen Edges I = Unit {0}
IsOpen (Loop n h) I = (suc n ≡ length I.loops) × ((get_or I.loops n no_header).header ≡ h)
IsOpen Facts I = Unit {0}

abbrev pub lacking_in : Section → ℕ
lacking_in Head = 0
lacking_in First = 0
lacking_in (LBlocks n) = n
lacking_in Blocks = 0
lacking_in Edges = 0
lacking_in (Loop n h) = 0
lacking_in Facts = 0

-- What the items keep while they are read: every back edge belongs to a loop, and the blocks lie end to end over the l-blocks.
pub record Ready (s : Section) (I : Items) : Type 0 where
  pub is_open : IsOpen s I
  pub owned : AllByRecursion (λ b. b.owner < length I.loops) I.backs
  pub counted : back_words (sheet_of I) ≡ length I.backs
  pub laid : Laid I.blocks I.lblocks (lacking_in s)

-- The words from place i to place j lead from one state to another.
pub data Goes (ws : List ℕ) (a : State) (i : ℕ) : State → ℕ → Type 0 where
  stays : Goes ws a i a i
  takes : {b : State} {j : ℕ} → Goes ws a i b j → j < length ws
      → first_failing (demands b (slice_index ws j) j (drop (j + 1) ws)) ≡ none → same_kind (kind (slice_index ws j)) END ≡ false
      → Goes ws a i (next b.stand b.read (kind (slice_index ws j)) (payload (slice_index ws j))) (j + 1)

-- What a word of a kind must meet besides being due.
abbrev pub trial : Section → Items → Kind → ℕ → ℕ → List ℕ → List Check
trial s I k p i rest = checks (state_of s I).read (open_loop (state_of s I).stand) k p i rest

abbrev pub tried : Section → Items → Kind → ℕ → ℕ → List ℕ → List Check
tried s I k p i rest = demand (one_of k (due (state_of s I).stand)) not_due i ∷ trial s I k p i rest

-- One word of kind k and payload p at place i: the section after it, or none at END, or the fault.
abbrev pub Turn : Section → Items → Kind → ℕ → ℕ → List ℕ → Result (Maybe Section) SheetFault → Items → Type 0
Turn s I k p i rest (Ok (Some t)) J =
    (first_failing (tried s I k p i rest) ≡ none) × (same_kind k END ≡ false) × (next (state_of s I).stand (state_of s I).read k p ≡ state_of t J) × Ready t J
Turn s I k p i rest (Ok None) J = (first_failing (tried s I k p i rest) ≡ none) × (same_kind k END ≡ true) × (J ≡ I)
Turn s I k p i rest (Err e) J = first_failing (tried s I k p i rest) ≡ some (sheet_refusal e)

-- the section after an l-block of a block that lacked n
abbrev pub section_past_lblock : ℕ → Section
section_past_lblock n = cond (nat_lt 1 n) (LBlocks (n - 1)) Blocks

-- Reading on from place i: the words lead to another state, or END is read and the items stay, or the fault is the answer.
abbrev pub Stepped : Section → (I J : Items) → List ℕ → ℕ → Result (Maybe Section) SheetFault → ℕ → Type 0
Stepped s I J ws i (Ok (Some t)) j = Goes ws (state_of s I) i (state_of t J) j × Ready t J × (i < j) × (j ≤ length ws)
Stepped s I J ws i (Ok None) j =
    (i < length ws) × (first_failing (demands (state_of s I) (slice_index ws i) i (drop (i + 1) ws)) ≡ none) × (same_kind (kind (slice_index ws i)) END ≡ true) × (J ≡ I)
Stepped s I J ws i (Err e) j = read_from (state_of s I) (drop i ws) i ≡ refused (sheet_refusal e)
