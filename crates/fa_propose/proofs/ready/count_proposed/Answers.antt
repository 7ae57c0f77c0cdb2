use Rattle.std.proofs.Common.{sym}
use Rattle.fa_ledger.specs.Calls.{call_shown}
use Rattle.fa_propose.proofs.OfferLemmas.{none_proposed}
use Rattle.fa_propose.proofs.ready.count_proposed.Goals as goal

pub returns-then-is_answered : goal.returns-then-is_answered
returns-then-is_answered c = sym (none_proposed (call_shown c.args.call.now).operation (c.is_answered.ensures.0 c.if-is_answered.true))
