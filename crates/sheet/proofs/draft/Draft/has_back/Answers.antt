use Rattle.std.proofs.Common.{rules}
use Rattle.sheet.proofs.Drafts.{any_is, any_backs}
use Rattle.sheet.proofs.draft.Draft.has_back.Goals as goal

pub returns : goal.returns
returns c = rw (any_backs, any_is) (search rules)
