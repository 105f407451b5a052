use Rattle.std.proofs.Common.{[], refl}
use Rattle.words.specs.Words.{wrong_end}
use Rattle.words.proofs.Checks.{fails, passes, drop-empty, drop-some}
use Rattle.words.proofs.reader.Reader.ended.Goals as goal

pub returns-then-self : goal.returns-then-self
returns-then-self c = fails _ wrong_end _ [] (drop-some c.args.self.now.words.now c.args.self.now.at c.if-self.true)

pub returns : goal.returns
returns c = passes _ wrong_end c.args.self.now.at [] _ (drop-empty c.args.self.now.words.now c.args.self.now.at c.if-self.false) refl
