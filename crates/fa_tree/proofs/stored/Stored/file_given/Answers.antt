use Rattle.std.proofs.Common.{rules, ◌≡◌, refl, sym}
use Rattle.std.specs.FinMap.{get}
use Rattle.fa_ledger.specs.declared.operation.Outcome.TheVariants.{Succeeds}
use Rattle.fa_tree.specs.Making.{new_regular}
use Rattle.fa_tree.proofs.JudgingLemmas.{found_after, linked_file, created_file}
use Rattle.fa_tree.proofs.stored.Stored.file_given.Goals as goal

pub returns-in-Link-default-Succeeds : goal.returns-in-Link-default-Succeeds
returns-in-Link-default-Succeeds c =
    let at = c.in-Link-default-Succeeds in
    let done : at.outcome ≡ Succeeds at.outcome-0 = search rules in
    rw (at.is, done) (λ handle truncates direct count may.
    (linked_file c.args.self.now.store c.args.named.now.node at.new_name.now c.args.named.now.other may, refl))

pub returns-in-Create-default-default-default-default-Succeeds : goal.returns-in-Create-default-default-default-default-Succeeds
returns-in-Create-default-default-default-default-Succeeds c =
    let at = c.in-Create-default-default-default-default-Succeeds in
    let done : at.outcome ≡ Succeeds at.outcome-0 = search rules in
    let asked = rw at.is at c.requires in
    rw (at.is, done) (λ handle truncates direct count may. (
      created_file c.args.self.now.store c.args.named.now.asked truncates c.args.named.now.node at.name.now (new_regular at.mode at.umask) c.found_or_made.result
          (get c.args.self.now.store.names (c.args.named.now.node, at.name.now)) refl (rw (← asked) c.found_or_made.ensures),
      refl,
    ))

pub returns-in-Symlink-default-default-Succeeds : goal.returns-in-Symlink-default-default-Succeeds
returns-in-Symlink-default-default-Succeeds c =
    let at = c.in-Symlink-default-default-Succeeds in
    let done : at.outcome ≡ Succeeds at.outcome-0 = search rules in
    rw (at.is, done) (λ handle truncates direct count may. (sym (found_after c.args.self.now.store c.args.named.now.node at.name.now _), refl))

pub returns-in-Mknod-default-default-default-Succeeds : goal.returns-in-Mknod-default-default-default-Succeeds
returns-in-Mknod-default-default-default-Succeeds c =
    let at = c.in-Mknod-default-default-default-Succeeds in
    let done : at.outcome ≡ Succeeds at.outcome-0 = search rules in
    rw (at.is, done) (λ handle truncates direct count may. (sym (found_after c.args.self.now.store c.args.named.now.node at.name.now _), refl))

pub returns-in-Mkdir-default-default-default-Succeeds : goal.returns-in-Mkdir-default-default-default-Succeeds
returns-in-Mkdir-default-default-default-Succeeds c =
    let at = c.in-Mkdir-default-default-default-Succeeds in
    let done : at.outcome ≡ Succeeds at.outcome-0 = search rules in
    rw (at.is, done) (λ handle truncates direct count may. (sym (found_after c.args.self.now.store c.args.named.now.node at.name.now _), refl))
