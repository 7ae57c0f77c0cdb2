use Rattle.fa_ledger.proofs.CallerLemmas.{wrote_ok}
use Rattle.fa_tree.proofs.NodeLemmas.{shown_insert}
use Rattle.fa_tree.proofs.nodes.Nodes.bind.Goals as goal

pub returns : goal.returns
returns c = record {
  bound =
      shown_insert c.args.self.now.files.entries c.insert.new.self.entries c.args.given.0 c.args.given.1
      (wrote_ok c.insert.result _ c.unwrap.result c.unwrap.ensures c.insert.ensures.updates).0;
  left = c.insert.ensures.spare;
}
