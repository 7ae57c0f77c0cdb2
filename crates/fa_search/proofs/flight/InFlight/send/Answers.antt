use Rattle.std.proofs.Common.{sym, subst, inr}
use Rattle.fa_ledger.specs.Calls.{call_shown, answer_shown}
use Rattle.fa_ledger.specs.Kinds.{OnlyReads}
use Rattle.fa_ledger.specs.Operations.{operation_shown}
use Rattle.fa_search.proofs.BetweenLemmas.{among_now, none_shown, not_read}
use Rattle.fa_search.proofs.flight.InFlight.send.Goals as goal
use Rattle.fa_search.proofs.flight.InFlight.send.Goals.{else-is_none-via-then-is_none+else-only_reads, else-is_none-via-else-is_none}

pub returns-clause-sent : goal.returns-clause-sent
returns-clause-sent c =
    inr (
      (λ none reads. elim c.else-is_none.branch [
        | else-is_none-via-then-is_none+else-only_reads w ↦ not_read w.only_reads.result (OnlyReads (operation_shown w.operation.result)) w.only_reads.ensures.1 w.if-only_reads.false (subst OnlyReads (sym w.operation.ensures) reads)
        | else-is_none-via-else-is_none w ↦ none_shown answer_shown c.args.call.now.answer c.is_none.result c.is_none.ensures w.if-is_none.false none
      ]),
      among_now c.args.self.now.seen (call_shown c.args.call.now) c.args.self.now.requests c.insert.new.self c.of.result c.of-2.result c.insert.ensures.was_ordered c.insert.ensures.ordered
          c.in_ok-insert.ensures.updates c.of.ensures c.of-2.ensures,
    )
