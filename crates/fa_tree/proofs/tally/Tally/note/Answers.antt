use Rattle.std.proofs.Common.{◌≡◌, true, false}
use Rattle.fa_tree.specs.parts.TallyParts.{is_among}
use Rattle.fa_tree.proofs.TallyLemmas.{is_put, was_there, was_not_there, listed_first, listed_again}
use Rattle.fa_tree.proofs.tally.Tally.note.Goals as goal

pub returns-in_ok-insert-2-clause-noted : goal.returns-in_ok-insert-2-clause-noted
returns-in_ok-insert-2-clause-noted c = λ times are.
    let old = c.args.self.now.names.keys in
    let again = c.args.self.now.again.keys in
    let name = c.args.name.now in
    let there : is_among old name ≡ true = was_there c.in_ok-insert.field-0 (is_among old name) c.in_ok-insert.ensures.added c.if-not-branch.true in
    let same = c.in_ok-insert.ensures.keys in
    listed_again name times old c.insert.new.self.keys again c.insert-then-not-branch.new.self.keys there (rw (there) at same)
    (is_put name again c.insert-then-not-branch.new.self.keys c.in_ok-insert-2.ensures.updates.0) are

pub returns-else-not-branch-clause-noted : goal.returns-else-not-branch-clause-noted
returns-else-not-branch-clause-noted c = λ times are.
    let old = c.args.self.now.names.keys in
    let name = c.args.name.now in
    let fresh : is_among old name ≡ false = was_not_there c.in_ok-insert.field-0 (is_among old name) c.in_ok-insert.ensures.added c.if-not-branch.false in
    listed_first name times old c.insert.new.self.keys c.args.self.now.again.keys fresh (is_put name old c.insert.new.self.keys c.in_ok-insert.ensures.updates.0) are
