-- What a sheet that was read keeps. Assumes nothing.
use Rattle.std.specs.Prelude.{ℕ, List, length, filter, nat_eq}
use Rattle.words.specs.Lists.{below, any}
use Rattle.sheet.specs.Sheet.{LBlock}
use Rattle.sheet.specs.SheetWords.{Fits}
use Rattle.sheet.specs.BlockTable.{Laid}
use Rattle.sheet.specs.Drafts.{Items, sheet_of}

-- It is within all limits, and its blocks lie end to end over its l-blocks.
pub record Kept (I : Items) : Type 0 where
  pub fits : Fits (sheet_of I)
  pub laid : Laid I.blocks I.lblocks 0

-- how many of the sets below n an l-block has
abbrev pub used_among : List LBlock → ℕ → ℕ
used_among vs n = length (filter (λ s. any (λ b. nat_eq b.set s) vs) (below n))
