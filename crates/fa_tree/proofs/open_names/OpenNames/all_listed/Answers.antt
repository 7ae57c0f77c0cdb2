use Rattle.std.proofs.Common.{rules, tests}
use Rattle.fa_tree.specs.parts.OpenParts.{open_of}
use Rattle.fa_tree.proofs.OrderlyLemmas.{listed_or_found}
use Rattle.fa_tree.proofs.open_names.OpenNames.all_listed.Goals as goal

pub returns : goal.returns
returns c = λ times are.
    listed_or_found (open_of c.args.self.now) _ _ times c.find_stayed.result c.is_none.result c.is_none.ensures c.find_stayed.ensures.found c.find_stayed.ensures.none (λ p b q. search (rules, tests))
