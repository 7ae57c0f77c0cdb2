use Rattle.std.proofs.Common.{true, false, List, ℕ, rules}
use Rattle.std.specs.Fn.{FnReturnsAt}
use Rattle.std.proofs.lemmas.Iterator.{cases_from_all}
use Rattle.std.proofs.lemmas.Iterator.Consumers.{YieldsList-from_rest}
use borrow.Author.Tests.{tests}
use Rattle.fa_tree.specs.declared.tally.Listed.{Listed}
use Rattle.fa_tree.proofs.TallyLemmas.{repeated_all}
use Rattle.fa_tree.proofs.tally.Tally.all_repeated.Goals as goal

pub returns : goal.returns
returns g c = λ times are.
    let tally = c.args.self.now in
    let Holds : List ℕ → Type 0 = λ name. FnReturnsAt g.F.Fn c.args.holds name true in
    let Fails : List ℕ → Type 0 = λ name. FnReturnsAt g.F.Fn c.args.holds name false in
    repeated_all tally times are Holds Fails c.all.result
    (cases_from_all _ _ c.all.result (λ (listed : Listed). Holds listed.name.now) (λ (listed : Listed). Fails listed.name.now) c.all.ensures.ran (YieldsList-from_rest tally.again.keys c.iter.ensures.rest)
    (λ x q k. search (rules, tests)) (λ x q k. search (rules, tests)))
