use Rattle.fa_bodies.proofs.OptionLaws.{if_none}
use Rattle.fa_bodies.proofs.successes.listed.Goals as goal

pub returns-in_err-listing-clause-none : goal.returns-in_err-listing-clause-none
returns-in_err-listing-clause-none c = if_none c.from_residual.result _ (λ reply p. c.in_err-listing.ensures.none p.0 p.2)
