use Rattle.std.proofs.Common.{length, inl, inr, arith}
use Rattle.std.proofs.lemmas.Bool.{cases_lt}
use Rattle.std.proofs.lemmas.Bool.Decides.{nat_tests}
use Rattle.fa_ledger.proofs.SaidLemmas.{answered_by_bytes}
use Rattle.fa_ledger.proofs.messages.CallMessages.is_answered.Goals as goal

pub returns : goal.returns
returns c =
    let ends = answered_by_bytes c.args.self.now.request.now c.args.self.now.reply.now c.args.self.now.said in (
      λ yes. ends.1 (λ none. grind (arith, nat_tests, none, c.is_empty.ensures, yes)),
      λ answered. elim (cases_lt 0 (length c.args.self.now.reply.now)) [
        | inl some ↦ grind (arith, nat_tests, some, c.is_empty.ensures)
        | inr none ↦ absurd (answered (ends.0 (omega (arith, none))))
      ],
    )
