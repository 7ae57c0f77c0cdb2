use Rattle.std.proofs.Common.{None, subst, ◌∙◌}
use Rattle.fa_bodies.specs.Views.{attr_shown, setattr_shown}
use Rattle.fa_ledger.specs.Operations.{action_shown, with_success}
use Rattle.fa_tree.specs.Operations.{action_rule}
use Rattle.fa_tree.specs.Renaming.{rename2_rule}
use Rattle.fa_tree.specs.parts.NamedParts.{named_shown}
use Rattle.fa_tree.proofs.ChangedLemmas.{other_is, none_is, rename2_of_none, created_made, setattr_changed, open_changed, write_changed}
use Rattle.fa_tree.proofs.ShapeLemmas.{linked_is_there}
use Rattle.fa_tree.proofs.WalkLemmas.{still_tree}
use Rattle.fa_tree.proofs.stored.Stored.change.Goals as goal

pub make-requires : goal.make-requires
make-requires c =
    let may = subst (λ a. (action_rule c.args.self.now.store (named_shown c.args.named.now None) (action_shown a)).needs) c.in-Symlink.is (c.requires.needs None) in
    record { free = may.0; new = may.1; made = tt }

pub make-requires-in-Mknod : goal.make-requires-in-Mknod
make-requires-in-Mknod c =
    let may = subst (λ a. (action_rule c.args.self.now.store (named_shown c.args.named.now None) (action_shown a)).needs) c.in-Mknod.is (c.requires.needs None) in
    record { free = may.0; new = may.1; made = tt }

pub make-requires-in-Mkdir : goal.make-requires-in-Mkdir
make-requires-in-Mkdir c =
    let may = subst (λ a. (action_rule c.args.self.now.store (named_shown c.args.named.now None) (action_shown a)).needs) c.in-Mkdir.is (c.requires.needs None) in
    record { free = may.0; new = may.1; made = tt }

pub create-requires-clause-free : goal.create-requires-clause-free
create-requires-clause-free c = λ free.
    created_made c.args.self.now.store c.args.named.now.asked c.args.named.now.node c.in-Create.name.now c.in-Create.flags
    (subst (λ a. (action_rule c.args.self.now.store (named_shown c.args.named.now None) (action_shown a)).needs) c.in-Create.is (c.requires.needs None)) free

pub remove-requires : goal.remove-requires
remove-requires c = subst (λ a. (action_rule c.args.self.now.store (named_shown c.args.named.now None) (action_shown a)).needs) c.in-Unlink.is (c.requires.needs None)

pub rename-requires : goal.rename-requires
rename-requires c = other_is c.args.named.now.other c.in-Some.directory _ c.in-Some.is
    (subst (λ a. (action_rule c.args.self.now.store (named_shown c.args.named.now None) (action_shown a)).needs) c.in-Rename.is (c.requires.needs None))

pub rename2-requires : goal.rename2-requires
rename2-requires c =
    subst (λ other. (rename2_rule c.args.self.now.store c.args.named.now.node c.in-Rename2.old_name.now c.in-Rename2.flags other c.in-Rename2.new_name.now).needs) c.in-Some-other.is
    (subst (λ a. (action_rule c.args.self.now.store (named_shown c.args.named.now None) (action_shown a)).needs) c.in-Rename2.is (c.requires.needs None))

pub link-requires-clause-free : goal.link-requires-clause-free
link-requires-clause-free c =
    let may = other_is c.args.named.now.other c.in-Some-other-2.file _ c.in-Some-other-2.is
    (subst (λ a. (action_rule c.args.self.now.store (named_shown c.args.named.now None) (action_shown a)).needs) c.in-Link.is (c.requires.needs None)) in
    (may.0, may.1)

pub link-requires-clause-there : goal.link-requires-clause-there
link-requires-clause-there c =
    let may = other_is c.args.named.now.other c.in-Some-other-2.file _ c.in-Some-other-2.is
    (subst (λ a. (action_rule c.args.self.now.store (named_shown c.args.named.now None) (action_shown a)).needs) c.in-Link.is (c.requires.needs None)) in
    linked_is_there c.args.self.now.store (still_tree _ c.args.self.now c.self.view_is c.self.invariant.0) c.in-Some-other-2.file may.2

pub link-requires-clause-other : goal.link-requires-clause-other
link-requires-clause-other c =
    let may = other_is c.args.named.now.other c.in-Some-other-2.file _ c.in-Some-other-2.is
    (subst (λ a. (action_rule c.args.self.now.store (named_shown c.args.named.now None) (action_shown a)).needs) c.in-Link.is (c.requires.needs None)) in
    may.3

pub returns-in_ok-set_attributes-in-Setattr-clause-changed : goal.returns-in_ok-set_attributes-in-Setattr-clause-changed
returns-in_ok-set_attributes-in-Setattr-clause-changed c = λ handle.
    rw (c.in-Setattr.is)
    (c.in_ok-set_attributes-in-Setattr.ensures.set ∙ setattr_changed c.args.self.now (named_shown c.args.named.now handle) c.args.truncates (setattr_shown c.in-Setattr.setattr) (with_success attr_shown c.in-Setattr.outcome) c.args.count)

pub returns-in-Open-clause-changed : goal.returns-in-Open-clause-changed
returns-in-Open-clause-changed c = λ handle.
    rw (c.in-Open.is) (c.empty.ensures ∙ open_changed c.args.self.now (named_shown c.args.named.now handle) c.args.truncates c.in-Open.outcome c.args.count)

pub returns-in_ok-write-in-Write-clause-changed : goal.returns-in_ok-write-in-Write-clause-changed
returns-in_ok-write-in-Write-clause-changed c = λ handle.
    rw (c.in-Write.is)
    (c.in_ok-write-in-Write.ensures.written ∙ write_changed c.args.self.now (named_shown c.args.named.now handle) c.args.truncates
    c.in-Write.offset c.in-Write.size c.in-Write.payload.now c.in-Write.outcome c.args.count)

pub returns-in_default-clause-changed : goal.returns-in_default-clause-changed
returns-in_default-clause-changed c = λ handle.
    absurd (none_is c.args.named.now.other _ c.in_default.is
    (subst (λ a. (action_rule c.args.self.now.store (named_shown c.args.named.now None) (action_shown a)).needs) c.in-Rename.is (c.requires.needs None)))

pub returns-in_default-other-clause-changed : goal.returns-in_default-other-clause-changed
returns-in_default-other-clause-changed c = λ handle.
    absurd (rename2_of_none c.args.self.now.store c.args.named.now.node c.in-Rename2.old_name.now c.in-Rename2.flags c.args.named.now.other c.in-Rename2.new_name.now c.in_default-other.is
    (subst (λ a. (action_rule c.args.self.now.store (named_shown c.args.named.now None) (action_shown a)).needs) c.in-Rename2.is (c.requires.needs None)))

pub returns-in_default-other-2-clause-changed : goal.returns-in_default-other-2-clause-changed
returns-in_default-other-2-clause-changed c = λ handle.
    absurd (none_is c.args.named.now.other _ c.in_default-other-2.is
    (subst (λ a. (action_rule c.args.self.now.store (named_shown c.args.named.now None) (action_shown a)).needs) c.in-Link.is (c.requires.needs None)))
