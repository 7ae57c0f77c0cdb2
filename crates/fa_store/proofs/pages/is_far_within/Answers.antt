use Rattle.std.proofs.Common.{ℕ, List, rules, tests}
use Rattle.std.proofs.lemmas.Iterator.{cases_from_all}
use Rattle.std.proofs.lemmas.Iterator.Consumers.{YieldsList-from_rest}
use Rattle.fa_store.specs.parts.PageParts.{page_of, IsPart}
use Rattle.fa_store.proofs.CallerLemmas.{walked}
use Rattle.fa_store.proofs.PageLemmas.{far_within}
use Rattle.fa_store.proofs.pages.is_far_within.Goals as goal

pub returns : goal.returns
returns c = λ is.
    let far = c.args.far.now.entries in
    let there : ℕ × List ℕ → Type 0 = λ e. IsPart (page_of c.args.pages.now e.0) 0 e.1 in
    far_within far (page_of c.args.pages.now)
    (walked c.all.result there far _ is
    (cases_from_all _ _ c.all.result there (λ e. Unit {0}) c.all.ensures.ran (YieldsList-from_rest far c.iter.ensures.rest)
    (λ x q k. search (rules, tests)) (λ x q k. tt)))
