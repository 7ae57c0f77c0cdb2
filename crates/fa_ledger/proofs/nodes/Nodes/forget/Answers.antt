use Rattle.std.proofs.Common.{◌∙◌, []}
use Rattle.std.proofs.lemmas.Result.{err_from_is_err_and}
use Rattle.fa_ledger.proofs.TakingLemmas.{none_lowered, one_lowered, one_fails}
use Rattle.fa_ledger.proofs.nodes.Nodes.forget.Goals as goal

pub returns-in_err-lower-clause-refused : goal.returns-in_err-lower-clause-refused
returns-in_err-lower-clause-refused c =
    let known = c.args.self.now.known.entries in
    let p = err_from_is_err_and c.from_residual.result c.from_residual.ensures.1 in
    rw p.1 (p.2 ∙ c.in_err-lower.ensures.refused.0, one_fails [] [] known known c.args.id c.args.nlookup (none_lowered known) c.in_err-lower.ensures.refused.1 c.in_err-lower.ensures.refused.2)

pub returns-clause-within : goal.returns-clause-within
returns-clause-within c =
    let known = c.args.self.now.known.entries in
    (one_lowered [] known known c.lower.new.self.known.entries c.args.id c.args.nlookup (none_lowered known) c.in_ok-lower.ensures.ok c.in_ok-lower.ensures.lowered).within
