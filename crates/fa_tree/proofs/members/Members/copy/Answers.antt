use Rattle.fa_tree.proofs.CopyLemmas.{members_alike}
use Rattle.fa_tree.proofs.members.Members.copy.Goals as goal

pub returns : goal.returns
returns c = members_alike c.args.self.now.table.entries c.in_ok-clone.field-0.entries c.in_ok-clone.ensures.cases
