-- The items that the code holds, as lists, and the sheet that they are. Assumes nothing.
use Rattle.std.specs.Prelude.{ℕ, suc, List, [], ◌∷◌, ◌++◌, map, length, filter, nat_eq}
use Rattle.sheet.specs.declared.parts.Block.{Block}
use Rattle.sheet.specs.declared.parts.BackEdge.{BackEdge}
use Rattle.sheet.specs.declared.parts.Loop.{Loop as Header}
use Rattle.sheet.specs.Sheet.{Sheet, LBlock, Edge, Loop, Fact}
use Rattle.sheet.specs.ReadSheet.{edge_of, fact_of}

-- the blocks that the back edges of a loop come from, in order
abbrev pub backs_of : List BackEdge → ℕ → List ℕ
backs_of bs k = map (λ b. b.source) (filter (λ b. nat_eq b.owner k) bs)

-- a loop with its back edges, and the loops from number k on
abbrev pub loop_of : List BackEdge → ℕ → Header → Loop
loop_of bs k l = record { header = l.header; bound = l.bound; backs = backs_of bs k }

abbrev pub loops_from : List BackEdge → ℕ → List Header → List Loop
loops_from bs k [] = []
loops_from bs k (l ∷ ls) = loop_of bs k l ∷ loops_from bs (suc k) ls

-- The items as they are held.
pub record Items : Type 0 where
  pub sets : ℕ
  pub blocks : List Block
  pub lblocks : List LBlock
  pub edges : List Edge
  pub loops : List Header
  pub backs : List BackEdge
  pub facts : List Fact

-- The sheet that they are.
abbrev pub sheet_of : Items → Sheet
sheet_of I = record {
  sets = I.sets;
  blocks = length I.blocks;
  lblocks = I.lblocks;
  edges = I.edges;
  loops = loops_from I.backs 0 I.loops;
  facts = I.facts;
}

-- The items with one more.
abbrev pub add_head : Items → ℕ → Items
add_head I p = record { sets = p; blocks = I.blocks; lblocks = I.lblocks; edges = I.edges; loops = I.loops; backs = I.backs; facts = I.facts }

abbrev pub add_block : Items → ℕ → Items
add_block I p = record {
  sets = I.sets;
  blocks = I.blocks ++ (record { first = length I.lblocks; lblocks = p } ∷ []);
  lblocks = I.lblocks;
  edges = I.edges;
  loops = I.loops;
  backs = I.backs;
  facts = I.facts;
}

abbrev pub add_lblock : Items → LBlock → Items
add_lblock I v = record { sets = I.sets; blocks = I.blocks; lblocks = I.lblocks ++ (v ∷ []); edges = I.edges; loops = I.loops; backs = I.backs; facts = I.facts }

abbrev pub add_edge : Items → ℕ → Items
add_edge I p = record { sets = I.sets; blocks = I.blocks; lblocks = I.lblocks; edges = I.edges ++ (edge_of p ∷ []); loops = I.loops; backs = I.backs; facts = I.facts }

abbrev pub add_loop : Items → Header → Items
add_loop I l = record { sets = I.sets; blocks = I.blocks; lblocks = I.lblocks; edges = I.edges; loops = I.loops ++ (l ∷ []); backs = I.backs; facts = I.facts }

abbrev pub add_back : Items → ℕ → ℕ → Items
add_back I n p = record {
  sets = I.sets;
  blocks = I.blocks;
  lblocks = I.lblocks;
  edges = I.edges;
  loops = I.loops;
  backs = I.backs ++ (record { owner = n; source = p } ∷ []);
  facts = I.facts;
}

abbrev pub add_fact : Items → ℕ → Items
add_fact I p = record { sets = I.sets; blocks = I.blocks; lblocks = I.lblocks; edges = I.edges; loops = I.loops; backs = I.backs; facts = I.facts ++ (fact_of p ∷ []) }
