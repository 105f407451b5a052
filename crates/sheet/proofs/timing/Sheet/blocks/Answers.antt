use Rattle.sheet.specs.View.{items}
use Rattle.sheet.proofs.Sound.{sound}
use Rattle.sheet.proofs.timing.Sheet.blocks.Goals as goal

pub returns-clause-sound : goal.returns-clause-sound
returns-clause-sound c = sound (items c.args.self.now) c.args.self.now.kept
