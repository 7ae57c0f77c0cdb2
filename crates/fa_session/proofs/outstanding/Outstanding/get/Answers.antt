use Rattle.std.proofs.Common.{Bor, ◌≡◌, ℕ, Option, Some, None, refl, sym, ◌∙◌}
use Rattle.std.specs.Prelude.{IfSome}
use Rattle.std.specs.Option.{option_copied}
use Rattle.fa_session.specs.declared.waiting.Waiting.{Waiting}
use Rattle.fa_session.proofs.outstanding.Outstanding.get.Goals as goal

-- what holds of a request that is found, holds of it where it is lent
of_lent : (found : Option (Bor Waiting)) (unique : ℕ) → ((w : Waiting) → option_copied found ≡ Some w → w.unique ≡ unique) → IfSome found (λ waiting. waiting.now.unique ≡ unique)
of_lent None unique own = tt
of_lent (Some w) unique own = own w.now refl

pub returns-in_default-clause-unique : goal.returns-in_default-clause-unique
returns-in_default-clause-unique c =
    of_lent c.get.result c.args.unique (λ w is. c.self.invariant.own c.args.unique w (sym c.get.ensures.value ∙ is))
