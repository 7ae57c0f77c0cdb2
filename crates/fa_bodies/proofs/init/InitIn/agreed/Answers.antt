use Rattle.std.proofs.Common.{◌≡◌, ℕ, sym, ap, subst, ◌∙◌, rules}
use Rattle.std.specs.Int.Bits.{and_self}
use Rattle.std.specs.Int.RustNames.{bit_and}
use Rattle.std.proofs.lemmas.Nat.{and_assoc, and_comm}
use Rattle.fa_bodies.specs.Flags.{HasFlag, init_bits}
use Rattle.fa_bodies.proofs.init.InitIn.agreed.Goals as goal

-- a flag of both words is one of the first
first_has : (a b flag : ℕ) → HasFlag (bit_and a b) flag → HasFlag a flag
first_has a b flag both =
    let again : bit_and a (bit_and a b) ≡ bit_and a b = sym (and_assoc b a a) ∙ ap (λ (x : ℕ). bit_and x b) (and_self a) in
    ap (bit_and a) (sym both) ∙ sym (and_assoc flag a (bit_and a b)) ∙ ap (λ (x : ℕ). bit_and x flag) again ∙ both

pub returns-clause-both : goal.returns-clause-both
returns-clause-both c flag =
    let a : ℕ = init_bits c.args.self.now.flags in
    let b : ℕ = init_bits c.args.answer.now.flags in
    let same : init_bits c.from_bits_retain.result ≡ bit_and a b = search rules in (
      λ has.
          let both : HasFlag (bit_and a b) flag = subst (λ (x : ℕ). HasFlag x flag) same has in
          (first_has a b flag both, first_has b a flag (ap (λ (x : ℕ). bit_and x flag) (and_comm b a) ∙ both)),
      λ has.
          subst (λ (x : ℕ). HasFlag x flag) (sym same) (and_assoc flag a b ∙ ap (bit_and a) has.1 ∙ has.0),
    )
