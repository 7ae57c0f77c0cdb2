use Rattle.fa_ledger.specs.Calls.{call_shown}
use Rattle.fa_propose.proofs.OfferLemmas.{offered}
use Rattle.fa_propose.proofs.ready.Ready.offer.Goals as goal

pub returns-in_ok-insert-clause-offered : goal.returns-in_ok-insert-clause-offered
returns-in_ok-insert-clause-offered c =
    offered (call_shown c.args.call.now) c.of.result c.entry_of-entry.result c.of.ensures c.entry_of-entry.ensures (c.allows.ensures.0 c.if-allows.true) c.args.self.now.candidates c.insert.new.self
    c.in_ok-insert.ensures.inserted
