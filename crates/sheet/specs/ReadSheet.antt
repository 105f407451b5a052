-- Reading a sheet, word by word. Assumes nothing.
use Rattle.std.specs.Prelude.{ℕ, suc, ◌+◌, ◌-◌, Bool, true, false, cond, not, ◌&&◌, List, [], ◌∷◌, ◌++◌, length, sum_by, ◌==◌, nat_eq, nat_le, nat_lt}
use Rattle.std.proofs.Math.Option.{Option, none, some}
use Rattle.words.specs.Lists.{any}
use Rattle.sheet.specs.Sheet.{Sheet, LBlock, Edge, Loop, Fact, last_block}
use Rattle.sheet.specs.Walk.{edge, entry}
use Rattle.sheet.specs.Conflict.{used_sets}
use Rattle.sheet.specs.ConflictList.{conflicts_of}
use Rattle.sheet.specs.Kinds.{Kind, NONE, HEAD, BLOCK, LBLOCK, COST, EDGE, LOOP, BACK, FACT, CLAIM, HIGH, LOW, START, STEP, FINISH, END}
use Rattle.words.specs.Words.{kind, payload, same_kind, one_of, upper, lower, set_field, tag_field, i_field, j_field}
use Rattle.words.specs.Words.{refusal, Answer, accepted, refused, Check, demand, first_failing, within, empty}
use Rattle.words.specs.Words.{not_due, ends_early, wrong_end, out_of_limit, too_many, wrong_edge, wrong_loop, wrong_fact, too_many_conflicts}

-- Where the reader stands: before HEAD; after it; in a block that lacks so many l-blocks, before an LBLOCK or before the COST that follows it;
-- after a whole block; after an edge; in a loop, with what was read of it; after a fact.
pub data Stand : Type 0 where
  at_head at_first : Stand
  at_lblock : (lacking : ℕ) → Stand
  at_cost : (lacking set tag : ℕ) → Stand
  at_blocks at_edges : Stand
  in_loop : Loop → Stand
  at_facts : Stand

-- `read` is the sheet so far, without the loop that the reader stands in.
pub record State : Type 0 where
  pub stand : Stand
  pub read : Sheet

abbrev pub stands : Stand → Sheet → State
stands d S = record { stand = d; read = S }

-- A sheet is HEAD, then blocks, edges, loops each with its BACK words, facts, END. Each BLOCK is followed by its l-blocks,
-- and an l-block is always two words, LBLOCK then COST. So these kinds are due (else 1):
abbrev pub due : Stand → List Kind
due at_head = HEAD ∷ []
due at_first = BLOCK ∷ []
due (at_lblock n) = LBLOCK ∷ []
due (at_cost n s t) = COST ∷ []
due at_blocks = BLOCK ∷ EDGE ∷ LOOP ∷ FACT ∷ END ∷ []
due at_edges = EDGE ∷ LOOP ∷ FACT ∷ END ∷ []
due (in_loop l) = BACK ∷ LOOP ∷ FACT ∷ END ∷ []
due at_facts = FACT ∷ END ∷ []

-- the loop that the reader stands in
abbrev pub open_loop : Stand → Option Loop
open_loop at_head = none
open_loop at_first = none
open_loop (at_lblock n) = none
open_loop (at_cost n s t) = none
open_loop at_blocks = none
open_loop at_edges = none
open_loop (in_loop l) = some l
open_loop at_facts = none

-- The sheet with one more item.
abbrev pub with_head : Sheet → ℕ → Sheet
with_head S n = record { sets = n; blocks = S.blocks; lblocks = S.lblocks; edges = S.edges; loops = S.loops; facts = S.facts }

abbrev pub with_block : Sheet → Sheet
with_block S = record { sets = S.sets; blocks = suc S.blocks; lblocks = S.lblocks; edges = S.edges; loops = S.loops; facts = S.facts }

abbrev pub with_lblock : Sheet → LBlock → Sheet
with_lblock S v = record { sets = S.sets; blocks = S.blocks; lblocks = S.lblocks ++ (v ∷ []); edges = S.edges; loops = S.loops; facts = S.facts }

abbrev pub with_edge : Sheet → Edge → Sheet
with_edge S e = record { sets = S.sets; blocks = S.blocks; lblocks = S.lblocks; edges = S.edges ++ (e ∷ []); loops = S.loops; facts = S.facts }

abbrev pub with_loop : Sheet → Loop → Sheet
with_loop S l = record { sets = S.sets; blocks = S.blocks; lblocks = S.lblocks; edges = S.edges; loops = S.loops ++ (l ∷ []); facts = S.facts }

abbrev pub with_fact : Sheet → Fact → Sheet
with_fact S f = record { sets = S.sets; blocks = S.blocks; lblocks = S.lblocks; edges = S.edges; loops = S.loops; facts = S.facts ++ (f ∷ []) }

abbrev pub with_back : Loop → ℕ → Loop
with_back l b = record { header = l.header; bound = l.bound; backs = l.backs ++ (b ∷ []) }

-- the sheet with the loop that the reader stands in
abbrev pub closed : Sheet → Option Loop → Sheet
closed S none = S
closed S (some l) = with_loop S l

-- What the words name.
abbrev pub edge_of : ℕ → Edge
edge_of p = edge (upper p) (lower p)

abbrev pub loop_of : ℕ → Loop
loop_of p = record { header = upper p; bound = lower p; backs = [] }

abbrev pub fact_of : ℕ → Fact
fact_of p = record { i = i_field p; j = j_field p; k = lower p }

abbrev pub lblock_of : (block set tag p : ℕ) → LBlock
lblock_of b s t p = record { block = b; set = s; tag = t; hit = upper p; extra = lower p }

-- the tests
abbrev pub same_edge : Edge → Edge → Bool
same_edge e f = e.from == f.from && e.to == f.to

abbrev pub has_edge : Sheet → Edge → Bool
has_edge S e = any (same_edge e) S.edges

abbrev pub has_header : Sheet → ℕ → Bool
has_header S h = any (λ l. nat_eq h l.header) S.loops

abbrev pub back_words : Sheet → ℕ
back_words S = sum_by (λ l. length l.backs) S.loops

-- A loop has a BACK and an entry edge. The word after the loop asks.
abbrev pub whole : Sheet → Option Loop → Bool
whole S none = true
whole S (some l) = not (empty l.backs) && any (entry l) S.edges

-- A BACK is the source of an edge into the header of its loop, and not named before.
abbrev pub names_edge : Sheet → Option Loop → ℕ → Bool
names_edge S none b = false
names_edge S (some l) b = has_edge S (edge b l.header)

abbrev pub named : Option Loop → ℕ → Bool
named none b = false
named (some l) b = any (nat_eq b) l.backs

-- What a word of each kind must meet besides being due, the lower number first. Its payload is p, its place i, and `rest` the words after it.
-- S is the sheet so far, and o the loop that the reader stands in.
abbrev pub checks : Sheet → Option Loop → Kind → ℕ → ℕ → List ℕ → List Check
checks S o HEAD p i rest =
    demand (within 1 64 p) out_of_limit i ∷ []
checks S o BLOCK p i rest =
    demand (within 1 16 p) out_of_limit i
    ∷ demand (nat_lt S.blocks 128) too_many i ∷ []
checks S o LBLOCK p i rest =
    demand (nat_lt (set_field p) S.sets) out_of_limit i
    ∷ demand (nat_lt (length S.lblocks) 512) too_many i ∷ []
checks S o COST p i rest = []
checks S o EDGE p i rest =
    demand (nat_lt (length S.edges) 512) too_many i
    ∷ demand (nat_lt (upper p) S.blocks) wrong_edge i
    ∷ demand (nat_lt (lower p) S.blocks) wrong_edge i
    ∷ demand (not (has_edge S (edge_of p))) wrong_edge i
    ∷ demand (not (lower p == 0)) wrong_edge i
    ∷ demand (not (upper p == last_block S)) wrong_edge i ∷ []
checks S o LOOP p i rest =
    demand (nat_lt (length (closed S o).loops) 32) too_many i
    ∷ demand (whole S o) wrong_loop i
    ∷ demand (nat_lt (upper p) S.blocks) wrong_loop i
    ∷ demand (not (has_header (closed S o) (upper p))) wrong_loop i ∷ []
checks S o BACK p i rest =
    demand (nat_lt (back_words (closed S o)) 64) too_many i
    ∷ demand (names_edge S o p) wrong_loop i
    ∷ demand (not (named o p)) wrong_loop i ∷ []
checks S o FACT p i rest =
    demand (nat_lt (length S.facts) 32) too_many i
    ∷ demand (whole S o) wrong_loop i
    ∷ demand (nat_lt (i_field p) S.blocks) wrong_fact i
    ∷ demand (nat_lt (j_field p) S.blocks) wrong_fact i
    ∷ demand (not (i_field p == j_field p)) wrong_fact i ∷ []
checks S o END p i rest =
    demand (p == i) wrong_end i
    ∷ demand (whole S o) wrong_loop i
    ∷ demand (empty rest) wrong_end (suc i) ∷ []
-- these are never due
checks S o NONE p i rest = []
checks S o CLAIM p i rest = []
checks S o HIGH p i rest = []
checks S o LOW p i rest = []
checks S o START p i rest = []
checks S o STEP p i rest = []
checks S o FINISH p i rest = []

-- all that a word must meet
abbrev pub demands : State → ℕ → ℕ → List ℕ → List Check
demands st w i rest =
    demand (one_of (kind w) (due st.stand)) not_due i
    ∷ checks st.read (open_loop st.stand) (kind w) (payload w) i rest

-- The state after a word that meets them.
-- after LBLOCK, COST and BACK
abbrev pub to_cost : Stand → ℕ → Stand
to_cost (at_lblock n) p = at_cost n (set_field p) (tag_field p)
to_cost at_head p = at_head
to_cost at_first p = at_first
to_cost (at_cost n s t) p = at_cost n s t
to_cost at_blocks p = at_blocks
to_cost at_edges p = at_edges
to_cost (in_loop l) p = in_loop l
to_cost at_facts p = at_facts

-- one l-block fewer is lacking
abbrev pub lacks : ℕ → Stand
lacks n = cond (nat_lt 1 n) (at_lblock (n - 1)) at_blocks

abbrev pub past_cost : Stand → Sheet → ℕ → State
past_cost (at_cost n s t) S p = stands (lacks n) (with_lblock S (lblock_of (last_block S) s t p))
past_cost at_head S p = stands at_head S
past_cost at_first S p = stands at_first S
past_cost (at_lblock n) S p = stands (at_lblock n) S
past_cost at_blocks S p = stands at_blocks S
past_cost at_edges S p = stands at_edges S
past_cost (in_loop l) S p = stands (in_loop l) S
past_cost at_facts S p = stands at_facts S

abbrev pub past_back : Option Loop → ℕ → Stand
past_back none p = at_edges
past_back (some l) p = in_loop (with_back l p)

abbrev pub next : Stand → Sheet → Kind → ℕ → State
next d S HEAD p = stands at_first (with_head S p)
next d S BLOCK p = stands (at_lblock p) (with_block S)
next d S LBLOCK p = stands (to_cost d p) S
next d S COST p = past_cost d S p
next d S EDGE p = stands at_edges (with_edge S (edge_of p))
next d S LOOP p = stands (in_loop (loop_of p)) (closed S (open_loop d))
next d S BACK p = stands (past_back (open_loop d) p) S
next d S FACT p = stands at_facts (with_fact (closed S (open_loop d)) (fact_of p))
next d S END p = stands d S
next d S NONE p = stands d S
next d S CLAIM p = stands d S
next d S HIGH p = stands d S
next d S LOW p = stands d S
next d S START p = stands d S
next d S STEP p = stands d S
next d S FINISH p = stands d S

-- 9: the first set with which there are more than 4,096 conflict edges, `sofar` being those of the sets before
abbrev pub passing : Sheet → List ℕ → ℕ → Option ℕ
passing S [] sofar = none
passing S (s ∷ ss) sofar =
    let total = sofar + length (conflicts_of S s) in
    elim (nat_le total 4096) [ true ↦ passing S ss total | false ↦ some s ]

abbrev pub finished : Sheet → Answer Sheet
finished S = elim (passing S (used_sets S) 0) [ none ↦ accepted S | some s ↦ refused (refusal too_many_conflicts s) ]

-- Reading on from a state: `rest` are the words that are left, and the first of them is word i.
abbrev pub read_from : State → List ℕ → ℕ → Answer Sheet
read_from st [] i = refused (refusal ends_early i)
read_from st (w ∷ rest) i =
    elim (first_failing (demands st w i rest)) [
      | some r ↦ refused r
      | none ↦ elim (same_kind (kind w) END) [
        | true ↦ finished (closed st.read (open_loop st.stand))
        | false ↦ read_from (next st.stand st.read (kind w) (payload w)) rest (suc i)
      ]
    ]

abbrev pub nothing_read : Sheet
nothing_read = record { sets = 0; blocks = 0; lblocks = []; edges = []; loops = []; facts = [] }

abbrev pub start : State
start = stands at_head nothing_read

abbrev pub read_sheet : List ℕ → Answer Sheet
read_sheet ws = read_from start ws 0
