use Rattle.std.proofs.Common.{rules, ◌≡◌, ℕ, Some, refl, subst}
use Rattle.std.specs.Prelude.{◌↔◌, ◌≢◌, IsTrue}
use Rattle.std.specs.FinMap.{get}
use Rattle.fa_bodies.specs.declared.attributes.Attributes.{Attributes}
use Rattle.fa_bodies.specs.declared.mode.Kind.TheVariants.{Directory}
use Rattle.fa_bodies.specs.Views.{entry_shown, attr_shown, attributes_shown, setattr_shown}
use Rattle.fa_ledger.specs.declared.operation.Outcome.TheVariants.{Succeeds}
use Rattle.fa_tree.specs.declared.id.FileId.TheVariants as file_id
use Rattle.fa_tree.specs.Making.{node_kind, new_bits, new_symlink, new_node, new_directory, new_regular}
use Rattle.fa_tree.specs.parts.FactParts.{AreFit, FitIfAny}
use Rattle.fa_tree.proofs.JudgingLemmas.{got_facts, set_facts, made_facts, same_new, linked_facts, created_facts, any_fit, spoken_fit, of_node, of_entry}
use Rattle.fa_tree.proofs.ShapeLemmas.{creates_new}
use Rattle.fa_tree.proofs.WalkLemmas.{still_tree}
use Rattle.fa_tree.proofs.stored.Stored.attributes_fit.Goals as goal

pub returns-else-nodeid-eq0 : goal.returns-else-nodeid-eq0
returns-else-nodeid-eq0 c =
    let at = c.in-Lookup-default-Succeeds in
    let told : IsTrue c.fit.result ↔ FitIfAny c.facts_found.result (entry_shown at.entry).attr =
    subst (λ (a : Attributes). IsTrue c.fit.result ↔ FitIfAny c.facts_found.result a) c.attributes.ensures c.fit.ensures in
    let given : c.nodeid.result ≢ 0 = search rules in
    let some : (entry_shown at.entry).nodeid ≢ 0 = subst (λ (n : ℕ). n ≢ 0) c.nodeid.ensures given in
    let done : at.outcome ≡ Succeeds at.entry = search rules in
    let asked = rw at.is at c.requires in
    rw (at.is, done, ← asked) (λ handle direct count may.
    of_entry c.args.self.now.store c.args.named.now.file (entry_shown at.entry).nodeid (entry_shown at.entry).attr c.fit.result some
    (any_fit c.args.self.now.store c.args.named.now.file c.facts_found.result (entry_shown at.entry).attr c.fit.result c.facts_found.ensures told))

pub returns-in-Getattr-Succeeds : goal.returns-in-Getattr-Succeeds
returns-in-Getattr-Succeeds c =
    let at = c.in-Getattr-Succeeds in
    let done : at.outcome ≡ Succeeds at.out = search rules in
    let fit = c.fit-in-Getattr-Succeeds in
    let told : IsTrue fit.result ↔ FitIfAny c.facts.result (attr_shown at.out).attr =
    subst (λ (a : Attributes). IsTrue fit.result ↔ FitIfAny c.facts.result a) c.attributes-in-Getattr-Succeeds.ensures fit.ensures in
    rw (at.is, done) (λ handle direct count may.
    of_node _ c.args.named.now.node (attr_shown at.out).attr fit.result
    (any_fit _ (Some c.args.named.now.node) c.facts.result (attr_shown at.out).attr fit.result
    (got_facts c.args.self.now.store c.args.named.now.node c.facts.result c.facts.ensures.of c.facts.ensures.none) told))

pub returns-in-Setattr-default-Succeeds : goal.returns-in-Setattr-default-Succeeds
returns-in-Setattr-default-Succeeds c =
    let at = c.in-Setattr-default-Succeeds in
    let done : at.outcome ≡ Succeeds at.out = search rules in
    let fit = c.fit-in-Setattr-default-Succeeds in
    let lies : attributes_shown c.attributes-in-Setattr-default-Succeeds.result ≡ (attr_shown at.out).attr = search rules in
    let told : IsTrue fit.result ↔ FitIfAny c.facts_set.result (attr_shown at.out).attr =
    subst (λ (a : Attributes). IsTrue fit.result ↔ FitIfAny c.facts_set.result a) lies fit.ensures in
    rw (at.is, done) (λ handle direct count may.
    of_node _ c.args.named.now.node (attr_shown at.out).attr fit.result
    (any_fit _ (Some c.args.named.now.node) c.facts_set.result (attr_shown at.out).attr fit.result
    (set_facts c.args.self.now.store (setattr_shown at.setattr) c.args.named.now.node c.facts_set.result c.facts_set.ensures) told))

pub returns-in-Symlink-default-default-Succeeds : goal.returns-in-Symlink-default-default-Succeeds
returns-in-Symlink-default-default-Succeeds c =
    let at = c.in-Symlink-default-default-Succeeds in
    let done : at.outcome ≡ Succeeds at.entry = search rules in
    let fit = c.fit-in-Symlink-default-default-Succeeds in
    let lies : attributes_shown c.attributes-in-Symlink-default-default-Succeeds.result ≡ (entry_shown at.entry).attr = search rules in
    let told : IsTrue fit.result ↔ AreFit c.new-facts.result (entry_shown at.entry).attr =
    subst (λ (a : Attributes). IsTrue fit.result ↔ AreFit c.new-facts.result a) lies fit.ensures in
    rw (at.is, done) (λ handle direct count may.
    spoken_fit _ _ c.new-facts.result (entry_shown at.entry).attr fit.result
    (made_facts c.args.self.now.store (file_id.Made c.args.named.now.asked) c.args.named.now.node at.name.now (new_symlink at.target.now) c.new-facts.result
    (still_tree _ c.args.self.now c.self.view_is c.self.invariant.0) may.1 may.0.1 c.new-facts.ensures) told)

pub returns-in-Mknod-default-default-default-Succeeds : goal.returns-in-Mknod-default-default-default-Succeeds
returns-in-Mknod-default-default-default-Succeeds c =
    let at = c.in-Mknod-default-default-default-Succeeds in
    let done : at.outcome ≡ Succeeds at.entry = search rules in
    let made = c.new-facts-in-Mknod-default-default-default-Succeeds in
    let fit = c.fit-in-Mknod-default-default-default-Succeeds in
    let lies : attributes_shown c.attributes-in-Mknod-default-default-default-Succeeds.result ≡ (entry_shown at.entry).attr = search rules in
    let told : IsTrue fit.result ↔ AreFit made.result (entry_shown at.entry).attr =
    subst (λ (a : Attributes). IsTrue fit.result ↔ AreFit made.result a) lies fit.ensures in
    rw (at.is, done) (λ handle direct count may.
    spoken_fit _ _ made.result (entry_shown at.entry).attr fit.result
    (made_facts c.args.self.now.store (file_id.Made c.args.named.now.asked) c.args.named.now.node at.name.now (new_node at.mode at.umask) made.result (still_tree _ c.args.self.now c.self.view_is c.self.invariant.0) may.1 may.0.1
    (same_new c.node_kind.result (node_kind at.mode) c.new_bits.result (new_bits at.mode at.umask) 0
    made.result c.node_kind.ensures c.new_bits.ensures made.ensures)) told)

pub returns-in-Mkdir-default-default-default-Succeeds : goal.returns-in-Mkdir-default-default-default-Succeeds
returns-in-Mkdir-default-default-default-Succeeds c =
    let at = c.in-Mkdir-default-default-default-Succeeds in
    let done : at.outcome ≡ Succeeds at.entry = search rules in
    let bits = c.new_bits-in-Mkdir-default-default-default-Succeeds in
    let made = c.new-facts-in-Mkdir-default-default-default-Succeeds in
    let fit = c.fit-in-Mkdir-default-default-default-Succeeds in
    let lies : attributes_shown c.attributes-in-Mkdir-default-default-default-Succeeds.result ≡ (entry_shown at.entry).attr = search rules in
    let told : IsTrue fit.result ↔ AreFit made.result (entry_shown at.entry).attr =
    subst (λ (a : Attributes). IsTrue fit.result ↔ AreFit made.result a) lies fit.ensures in
    rw (at.is, done) (λ handle direct count may.
    spoken_fit _ _ made.result (entry_shown at.entry).attr fit.result
    (made_facts c.args.self.now.store (file_id.Made c.args.named.now.asked) c.args.named.now.node at.name.now (new_directory at.mode at.umask) made.result (still_tree _ c.args.self.now c.self.view_is c.self.invariant.0) may.1 may.0.1
    (same_new Directory Directory bits.result (new_bits at.mode at.umask) 0
    made.result refl bits.ensures made.ensures)) told)

pub returns-in-Link-default-Succeeds : goal.returns-in-Link-default-Succeeds
returns-in-Link-default-Succeeds c =
    let at = c.in-Link-default-Succeeds in
    let done : at.outcome ≡ Succeeds at.entry = search rules in
    let fit = c.fit-in-Link-default-Succeeds in
    let told : IsTrue fit.result ↔ FitIfAny c.facts_further.result (entry_shown at.entry).attr =
    subst (λ (a : Attributes). IsTrue fit.result ↔ FitIfAny c.facts_further.result a) c.attributes-in-Link-default-Succeeds.ensures fit.ensures in
    rw (at.is, done) (λ handle direct count may.
    any_fit _ _ c.facts_further.result (entry_shown at.entry).attr fit.result
    (linked_facts c.args.self.now.store c.args.named.now.node at.new_name.now c.args.named.now.other c.facts_further.result may c.facts_further.ensures) told)

pub returns-in-Create-default-default-default-default-Succeeds : goal.returns-in-Create-default-default-default-default-Succeeds
returns-in-Create-default-default-default-default-Succeeds c =
    let at = c.in-Create-default-default-default-default-Succeeds in
    let done : at.outcome ≡ Succeeds (at.entry, at.outcome-0-1) = search rules in
    let bits = c.new_bits-in-Create-default-default-default-default-Succeeds in
    let fit = c.fit-in-Create-default-default-default-default-Succeeds in
    let lies : attributes_shown c.attributes-in-Create-default-default-default-default-Succeeds.result ≡ (entry_shown at.entry).attr = search rules in
    let told : IsTrue fit.result ↔ FitIfAny c.facts_created-facts.result (entry_shown at.entry).attr =
    subst (λ (a : Attributes). IsTrue fit.result ↔ FitIfAny c.facts_created-facts.result a) lies fit.ensures in
    let asked = rw at.is at c.requires in
    rw (at.is, done) (λ handle direct count may.
    any_fit _ _ c.facts_created-facts.result (entry_shown at.entry).attr fit.result
    (created_facts c.args.self.now.store c.args.named.now.asked c.args.truncates c.args.named.now.node at.name.now (new_regular at.mode at.umask) bits.result c.facts_created-facts.result
    (get c.args.self.now.store.names (c.args.named.now.node, at.name.now)) (still_tree _ c.args.self.now c.self.view_is c.self.invariant.0)
    (creates_new c.args.self.now.store c.args.named.now.asked c.args.named.now.node at.name.now at.flags may) refl refl refl bits.ensures
    (rw (← asked) c.facts_created-facts.ensures)) told)
