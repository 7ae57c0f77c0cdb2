use Rattle.std.proofs.Common.{refl, sym, ap, ◌∙◌, arith}
use Rattle.std.specs.Prelude.{nat_eq}
use Rattle.std.specs.Map.{lookup}
use Rattle.fa_session.specs.declared.outstanding.Outstanding.TheInside.{Inside as Outstanding}
use Rattle.fa_session.proofs.OutstandingLemmas.{above_moved, above_alone, newest_replaced, earlier_inserted}
use Rattle.fa_session.proofs.outstanding.Outstanding.insert.Goals.{in-Some+in_ok-insert, in_default}
use Rattle.fa_session.proofs.outstanding.Outstanding.insert.Goals as goal

pub invariant_of-self-then-unique-self : goal.invariant_of-self-then-unique-self
invariant_of-self-then-unique-self c = elim c.match-self.branch [
  | in-Some+in_ok-insert w ↦ above_moved c.self.inside _ c.self.invariant w.in-Some.newest c.args.waiting w.in-Some.is c.if-unique-self.true refl refl (λ other.
      ap (λ (o : Outstanding). lookup (nat_eq other) o.earlier.entries) w.self-inside-is ∙ w.in_ok-insert.ensures.updates.0 other)
  | in_default w ↦ above_alone c.self.inside _ c.self.invariant c.args.waiting c.if-unique-self.true refl refl (ap (λ (o : Outstanding). o.earlier) w.self-inside-is)
]

pub invariant_of-self-then-has_unique : goal.invariant_of-self-then-has_unique
invariant_of-self-then-has_unique c =
    newest_replaced c.self.inside _ c.self.invariant c.args.waiting (sym c.has_unique.ensures ∙ c.if-has_unique.true) (omega (arith, c.if-unique-self.false)) refl refl refl

pub invariant_of-self-in_ok-insert-2 : goal.invariant_of-self-in_ok-insert-2
invariant_of-self-in_ok-insert-2 c =
    earlier_inserted c.self.inside _ c.self.invariant c.args.waiting (sym c.has_unique.ensures ∙ c.if-has_unique.false) (omega (arith, c.if-unique-self.false)) refl refl c.in_ok-insert-2.ensures.updates.0
