use Rattle.std.proofs.Common.{refl}
use Rattle.std.proofs.lemmas.Bool.{eq-eqb, ne_eqb}
use Rattle.sheet.specs.Traversal.{sheet_of}
use Rattle.sheet.proofs.Front.{on_ends, on_goes_on}
use Rattle.sheet.proofs.traversal.reach.Reach.visit.Goals as goal

pub returns-then-g-k-clause-on : goal.returns-then-g-k-clause-on
returns-then-g-k-clause-on c =
    on_goes_on (sheet_of c.args.g.now) c.args.self.now _ c.args.k c.requires.going c.requires.known c.requires.leads (cc) refl c.set.ensures refl
    (ne_eqb _ c.args.self.now.source.set c.if-g-k.true) c.push.ensures

pub returns-else-g-k-clause-on : goal.returns-else-g-k-clause-on
returns-else-g-k-clause-on c =
    on_ends (sheet_of c.args.g.now) c.args.self.now _ c.args.k c.requires.going c.requires.known c.requires.leads (cc) refl c.set.ensures refl
    (eq-eqb _ c.args.self.now.source.set c.if-g-k.false) refl
