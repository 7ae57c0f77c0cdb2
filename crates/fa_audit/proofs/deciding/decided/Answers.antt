use Rattle.std.proofs.lemmas.Result.{err_from_is_err_and}
use Rattle.std.specs.Option.{option_copied}
use Rattle.fa_audit.proofs.ShortestLemmas.{stop_within, none_given, with_shortest, refused_then}
use Rattle.fa_audit.proofs.deciding.decided.Goals as goal

pub shortest_without-requires-clause-within : goal.shortest_without-requires-clause-within
shortest_without-requires-clause-within g c =
    stop_within c.args.capture.now (option_copied c.args.tree) c.in-NoOrder.at c.in-NoOrder.code c.in-NoOrder.shortest (rw c.in-NoOrder.is at c.in_ok-decision.ensures.answer)

pub shortest_without-requires-clause-none : goal.shortest_without-requires-clause-none
shortest_without-requires-clause-none g c =
    none_given c.args.capture.now (option_copied c.args.tree) c.in-NoOrder.at c.in-NoOrder.code c.in-NoOrder.shortest (rw c.in-NoOrder.is at c.in_ok-decision.ensures.answer)

pub returns-in_err-shortest-in-NoOrder-clause-none : goal.returns-in_err-shortest-in-NoOrder-clause-none
returns-in_err-shortest-in-NoOrder-clause-none g c =
    let p = err_from_is_err_and c.from_residual-in_err-shortest-in-NoOrder.result c.from_residual-in_err-shortest-in-NoOrder.ensures.1 in
    rw (p.1, p.2)
    (refused_then c.args.capture.now (option_copied c.args.tree) c.in-NoOrder.at c.in-NoOrder.code c.in-NoOrder.shortest (rw c.in-NoOrder.is at c.in_ok-decision.ensures.answer)
    c.in_err-shortest-in-NoOrder.field-0.0 c.in_err-shortest-in-NoOrder.ensures.refused)

pub returns-in_ok-shortest-in-NoOrder-clause-answer : goal.returns-in_ok-shortest-in-NoOrder-clause-answer
returns-in_ok-shortest-in-NoOrder-clause-answer g c =
    with_shortest c.args.capture.now (option_copied c.args.tree) c.in-NoOrder.at c.in-NoOrder.code c.in-NoOrder.shortest (rw c.in-NoOrder.is at c.in_ok-decision.ensures.answer)
    c.in_ok-shortest-in-NoOrder.shortest c.in_ok-shortest-in-NoOrder.ensures.found
