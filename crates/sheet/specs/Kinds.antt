-- The kinds of words, and what a refusal says, by the names that the formats give them.
pub use Rattle.words.specs.declared.word.Kind.{Kind}
pub use Rattle.words.specs.declared.word.Kind.TheVariants.{Reserved as NONE, Head as HEAD, Block as BLOCK, LBlock as LBLOCK, Cost as COST, Edge as EDGE, Loop as LOOP, Back as BACK, Fact as FACT, Claim as CLAIM, High as HIGH, Low as LOW, Start as START, Step as STEP, Finish as FINISH, End as END}
pub use Rattle.words.specs.declared.refusal.Layer.{Layer}
pub use Rattle.words.specs.declared.refusal.Layer.TheVariants.{Words as words, Sheet as sheet, Claim as claim, Run as run, Line as line}
pub use Rattle.words.specs.declared.refusal.Refusal.{Refusal}
