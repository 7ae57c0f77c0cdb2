use Rattle.std.proofs.Common.{refl, []}
use Rattle.fa_ledger.proofs.LedgerLemmas.{nothing_shown}
use Rattle.fa_ledger.proofs.ledger.Ledger.new.Goals as goal

pub invariant_of-result : goal.invariant_of-result
invariant_of-result c = ∣ ([], nothing_shown _ refl c.new.ensures) ∣₁

pub returns : goal.returns
returns c = nothing_shown _ refl c.new.ensures
