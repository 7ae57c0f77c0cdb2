use Rattle.std.proofs.Common.{refl, sym, ◌∙◌}
use Rattle.fa_tree.proofs.RenameLemmas.{may_take, may_move}
use Rattle.fa_tree.proofs.stored.Stored.may_be_renamed.Goals as goal

pub returns-then-may_take : goal.returns-then-may_take
returns-then-may_take c = λ old_name found. (
  λ moves. record {
    from = c.if-not-is_directory.ensures.0 refl;
    to = c.if-not-is_linked_directory.ensures.0 refl;
    file = c.in-Some.file;
    there = sym found ∙ c.in-Some.is;
    replaces = λ other has. c.if-may_take.ensures.0 refl other (c.find-taken.ensures ∙ has);
    moves = λ other. c.may_move.ensures.0 moves (λ has. other (sym c.find-taken.ensures ∙ has));
  },
  λ may. c.may_move.ensures.1 (λ other.
      may_move c.args.self.now.store c.args.old_directory old_name c.args.new_directory c.args.new_name.now c.in-Some.file (sym found ∙ c.in-Some.is) may
      (λ has. other (c.find-taken.ensures ∙ has))),
)

pub returns-else-may_take : goal.returns-else-may_take
returns-else-may_take c = λ old_name found. (
  λ taken. absurd cc,
  λ may. c.may_take.ensures.1 (λ other has.
      may_take c.args.self.now.store c.args.old_directory old_name c.args.new_directory c.args.new_name.now c.in-Some.file (sym found ∙ c.in-Some.is) may other
      (sym c.find-taken.ensures ∙ has)),
)
