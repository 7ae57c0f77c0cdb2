use Rattle.std.proofs.Common.{rules, tests}
use Rattle.fa_tree.specs.parts.OpenParts.{open_of}
use Rattle.fa_tree.proofs.OrderlyLemmas.{twice_or_not}
use Rattle.fa_tree.proofs.open_names.OpenNames.none_twice.Goals as goal

pub returns : goal.returns
returns c = λ times are.
    twice_or_not (open_of c.args.self.now) _ _ times c.all_repeated.result (c.all_repeated.ensures times are) (λ p b q. search (rules, tests))
