use Rattle.std.proofs.Common.{rules}
use Rattle.posting.proofs.PostLaws.{first-is_none}
use Rattle.posting.proofs.none_free.Goals as goal

pub returns : goal.returns
returns c = search (rules, first-is_none)
