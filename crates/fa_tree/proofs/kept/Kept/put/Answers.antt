use Rattle.std.proofs.Common.{inl, inr, arith}
use Rattle.fa_tree.proofs.kept.Kept.put.Goals as goal

pub returns-clause-kept : goal.returns-clause-kept
returns-clause-kept c = λ other kept found. elim (c.put_beside.ensures.kept other kept found) [
  | inl this ↦ inl this
  | inr before ↦ inr (c.make_room.ensures.left other kept before)
]

pub returns-clause-few : goal.returns-clause-few
returns-clause-few c = elim c.make_room.ensures.room [
  | inl none ↦ c.put_beside.ensures.few (omega (arith, none))
  | inr fits ↦ c.put_beside.ensures.few (omega (arith, fits))
]
