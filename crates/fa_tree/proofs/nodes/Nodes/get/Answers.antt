use Rattle.std.proofs.Common.{sym, ◌∙◌}
use Rattle.fa_tree.proofs.NodeLemmas.{get_shown}
use Rattle.fa_tree.proofs.nodes.Nodes.get.Goals as goal

pub returns : goal.returns
returns c = c.copied.ensures ∙ (c.get.ensures.value ∙ sym (get_shown c.args.self.now.files.entries c.args.name.now))
