-- The items of a sheet, by the names that the definitions give them.
pub use Rattle.sheet.specs.declared.parts.Block.{Block}
pub use Rattle.sheet.specs.declared.parts.LBlock.{LBlock}
pub use Rattle.sheet.specs.declared.parts.Edge.{Edge}
pub use Rattle.sheet.specs.declared.parts.Fact.{Fact}
pub use Rattle.sheet.specs.declared.parts.Node.{Node}
pub use Rattle.sheet.specs.declared.parts.Node.TheVariants.{Start as START, At as at, End as END}
pub use Rattle.sheet.specs.declared.parts.Conflict.{Conflict}
