use Rattle.std.proofs.Common.{◌≡◌, Some, rules, tests}
use Rattle.std.specs.FinMap as map
use Rattle.std.proofs.lemmas.Iterator.{cases_from_all}
use Rattle.std.proofs.lemmas.Iterator.Consumers.{YieldsList-from_rest}
use Rattle.fa_ledger.specs.declared.name.NodeName.{NodeName}
use Rattle.fa_tree.specs.declared.id.FileId.{FileId}
use Rattle.fa_tree.specs.parts.NodeParts.{nodes_shown}
use Rattle.fa_store.proofs.CallerLemmas.{walked}
use Rattle.fa_tree.proofs.SameLemmas.{nodes_within}
use Rattle.fa_tree.proofs.nodes.Nodes.is_within.Goals as goal

pub returns : goal.returns
returns c = λ is.
    let table = c.args.self.now.files.entries in
    let others = nodes_shown c.args.other.now in
    let there : NodeName × FileId → Type 0 = λ e. map.get others e.0 ≡ Some e.1 in
    nodes_within table others
    (walked c.all.result there table _ is
    (cases_from_all _ _ c.all.result there (λ e. Unit {0}) c.all.ensures.ran (YieldsList-from_rest table c.iter.ensures.rest)
    (λ x q k. search (rules, tests)) (λ x q k. tt)))
