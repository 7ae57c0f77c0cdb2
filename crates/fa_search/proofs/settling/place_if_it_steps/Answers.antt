use Rattle.std.proofs.Common.{sym, subst}
use Rattle.fa_search.specs.parts.Configurations.{PlainConfiguration}
use Rattle.fa_search.specs.parts.Settling.{IsFurther}
use Rattle.fa_search.proofs.TracedLemmas.{further_same}
use Rattle.fa_search.proofs.ToldLemmas.{leaving_further}
use Rattle.fa_search.proofs.settling.place_if_it_steps.Goals as goal

pub returns-in-Ok-clause-further : goal.returns-in-Ok-clause-further
returns-in-Ok-clause-further c = λ messages at are flight without leaves.
    leaving_further messages c.args.replay.now.list are.are at c.args.pending flight without c.args.one.now c.place.new.self leaves c.requires.lacks (c.in-Ok.ensures.placed messages are)

pub returns-in-Err-Refused-clause-further : goal.returns-in-Err-Refused-clause-further
returns-in-Err-Refused-clause-further c = λ messages at are flight without leaves.
    let refused = rw c.in-Err-Refused.field-0-is at c.in-Err-Refused.ensures.refused in
    subst (λ (x : PlainConfiguration). IsFurther messages at c.args.one.now x) (sym refused.0) (further_same messages at c.args.one.now)
