-- For the code that adds up columns: tables by block, by set and by loop, made once for a certificate. Assumes nothing.
use Rattle.std.specs.Prelude.{◌≡◌, ℕ, ◌^◌, ◌<◌, Bool, false, ◌&&◌, ◌≢◌, List, length, get_or, ℤ, pos, ◌+ℤ◌, ◌-ℤ◌, ◌*ℤ◌, Some, None, Option, ◌==◌, nat_eq, slice_index, slice_index_or}
use mathlib.Core.HLevel.{Unit-prop, ⊥_prop}
use Rattle.std.specs.Coded.{Π_prop, →_prop, ×_prop, le_prop, Coded-set, coded_ℕ}
use Rattle.words.specs.Lists.{any}
use Rattle.sheet.specs.declared.parts.Loop.{Loop as Header}
use Rattle.sheet.specs.declared.parts.BackEdge.{BackEdge}
use Rattle.sheet.specs.Kept.{used_among}
use Rattle.sheet.specs.Rows.{one_if}
use Rattle.claim.specs.Items.{Fact, LBlock, Node, START, at, END, Conflict}
use Rattle.claim.specs.declared.scaled.Scaled.{Scaled}
use Rattle.claim.specs.Shares.{Near, fact_share}

-- a fact between two blocks of a table
abbrev pub FactFits : Fact → Type 0
FactFits f = (f.i < 128) × (f.j < 128) × (f.i ≢ f.j) × (f.k < 2 ^ 14)

abbrev pub FactsFit : List Fact → Type 0
FactsFit fs = (n : ℕ) (d : Fact) → n < length fs → FactFits (slice_index_or fs n d)

-- each block's amount is that near nothing
abbrev pub AllNear : ℕ → List Scaled → Type 0
AllNear m t = (b : ℕ) (d : Scaled) → b < 128 → Near m (get_or t b d).0

-- a table of amounts by block, before and after one fact
abbrev pub FactAdded : Fact → ℤ → List Scaled → List Scaled → Type 0
FactAdded f y before after =
    (b : ℕ) (d : Scaled) → b < 128 → (get_or after b d).0 ≡ (get_or before b d).0 +ℤ (y *ℤ (one_if (f.i == b) -ℤ (pos f.k *ℤ one_if (f.j == b))))

-- what the fact rows add to each block's column
abbrev pub FactTable : List ℤ → List Fact → List Scaled → Type 0
FactTable ys fs t = (b : ℕ) (d : Scaled) → b < 128 → (get_or t b d).0 ≡ fact_share ys fs b

-- l-blocks whose cycles fit their fields
abbrev pub Cheap : List LBlock → Type 0
Cheap vs = (n : ℕ) (d : LBlock) → n < length vs → ((get_or vs n d).hit < 2 ^ 14) × ((get_or vs n d).extra < 2 ^ 14)

-- loops whose headers are blocks of a table
abbrev pub HeadersFit : List Header → Type 0
HeadersFit hs = (k : ℕ) (d : Header) → k < length hs → (get_or hs k d).header < 128

-- Which of the first n loops has block b as its header.
abbrev pub HeaderAt : List Header → ℕ → ℕ → Option ℕ → Type 0
HeaderAt hs n b None = (k : ℕ) (d : Header) → k < n → (get_or hs k d).header ≢ b
HeaderAt hs n b (Some k) = (k < n) × ((d : Header) → (get_or hs k d).header ≡ b)

abbrev pub HeaderTable : List Header → ℕ → List (Option ℕ) → Type 0
HeaderTable hs n t = (b : ℕ) (d : Option ℕ) → b < 128 → HeaderAt hs n b (slice_index_or t b d)

header_at_prop : (hs : List Header) (n b : ℕ) (o : Option ℕ) → IsProp (HeaderAt hs n b o)
header_at_prop hs n b None = Π_prop (λ k. Π_prop (λ d. →_prop (→_prop ⊥_prop)))
header_at_prop hs n b (Some k) = ×_prop le_prop (Π_prop (λ d. Coded-set coded_ℕ (get_or hs k d).header b))

pub header_table_prop : (hs : List Header) (n : ℕ) (t : List (Option ℕ)) → IsProp (HeaderTable hs n t)
header_table_prop hs n t = Π_prop (λ b. Π_prop (λ d. →_prop (header_at_prop hs n b (slice_index_or t b d))))

-- whether a back edge of loop l comes from block s
abbrev pub comes_from : List BackEdge → ℕ → ℕ → Bool
comes_from bs l s = any (λ b. (b.owner == l) && s == b.source) bs

abbrev pub SourceTable : List BackEdge → List (List Bool) → Type 0
SourceTable bs t = (l s : ℕ) (d : List Bool) → l < 32 → s < 128 → slice_index_or (slice_index_or t l d) s false ≡ comes_from bs l s

-- l-blocks whose sets are in a table
abbrev pub SetsFit : List LBlock → Type 0
SetsFit vs = (n : ℕ) (d : LBlock) → n < length vs → (get_or vs n d).set < 64

-- whether an l-block has each set, and how many used sets are below it
abbrev pub UsedTable : List LBlock → List Bool → Type 0
UsedTable vs t = (s : ℕ) → s < 64 → slice_index_or t s false ≡ any (λ b. nat_eq b.set s) vs

abbrev pub RankTable : List LBlock → List ℕ → Type 0
RankTable vs t = (s : ℕ) → s < 64 → slice_index t s ≡ used_among vs s

-- a node of the fetch graph that is START, END or one of the first n l-blocks
abbrev pub NodeIn : ℕ → Node → Type 0
NodeIn n START = Unit {0}
NodeIn n (at v) = v < n
NodeIn n END = Unit {0}

-- both ends of a conflict edge are such nodes
abbrev pub EndsIn : ℕ → Conflict → Type 0
EndsIn n c = NodeIn n c.from × NodeIn n c.to

node_in_prop : (n : ℕ) (u : Node) → IsProp (NodeIn n u)
node_in_prop n START = Unit-prop
node_in_prop n (at v) = le_prop
node_in_prop n END = Unit-prop

pub ends_in_prop : (n : ℕ) (c : Conflict) → IsProp (EndsIn n c)
ends_in_prop n c = ×_prop (node_in_prop n c.from) (node_in_prop n c.to)
