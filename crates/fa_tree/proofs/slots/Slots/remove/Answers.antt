use Rattle.std.proofs.Common.{Some, refl, sym, ap, subst, ◌∙◌, is_some}
use Rattle.std.specs.Map.{keys_of}
use Rattle.std.specs.Option.{option_and_then}
use Rattle.fa_tree.specs.State as state
use Rattle.fa_tree.specs.parts.MemberParts.{AreMembers}
use Rattle.fa_tree.specs.parts.SlotParts.{slot_at, gone_at, file_in, AreAllThere}
use Rattle.fa_tree.proofs.NameLemmas.{get-names_shown}
use Rattle.fa_tree.proofs.SlotLemmas.{after_write, changed_at, keys_same, unchanged_at}
use Rattle.fa_tree.proofs.slots.Slots.remove.Goals as goal

pub returns-in-Some-clause-gone : goal.returns-in-Some-clause-gone
returns-in-Some-clause-gone c = λ q.
    let place : state.Place = (c.args.directory, c.args.name.now) in
    let old = c.args.self.now.table.entries in
    let wrote = (c.get_mut.follows.holds c.remove.new.self).3 (ap is_some (sym c.in-Some.ensures.value)) in
    after_write _ keys_same place _ (λ k. refl) old (c.get_mut.follows.lender c.remove.new.self).entries (Some c.remove.new.self) wrote.1 wrote.3 q
    ∙ changed_at old place q (gone_at c.args.at) _ (c.remove.ensures ∙ ap (gone_at c.args.at) c.in-Some.ensures.value)

pub returns-in-None-clause-gone : goal.returns-in-None-clause-gone
returns-in-None-clause-gone c = λ q.
    let place : state.Place = (c.args.directory, c.args.name.now) in
    let old = c.args.self.now.table.entries in
    ap (λ table. slot_at table.entries q) c.get_mut.follows.holds-at-none
    ∙ unchanged_at old place q (gone_at c.args.at) (sym c.in-None.ensures.value ∙ ap (gone_at c.args.at) c.in-None.ensures.value)

pub invariant_of-self-in-None : goal.invariant_of-self-in-None
invariant_of-self-in-None c = record {
  complete = subst (λ table. AreMembers (keys_of table.entries) c.args.self.now.members.table.entries) (sym c.get_mut.follows.holds-at-none) c.args.self.now.complete;
  there = λ all. subst (λ table. AreAllThere table.entries) (sym c.get_mut.follows.holds-at-none) (c.args.self.now.there all);
}

pub returns-in-Some-clause-file : goal.returns-in-Some-clause-file
returns-in-Some-clause-file c =
    c.file-file.ensures ∙ ap (option_and_then file_in) c.in-Some.ensures.value
    ∙ sym (get-names_shown c.args.self.now.table.entries (c.args.directory, c.args.name.now))

pub returns-in-None-clause-file : goal.returns-in-None-clause-file
returns-in-None-clause-file c =
    ap (option_and_then file_in) c.in-None.ensures.value
    ∙ sym (get-names_shown c.args.self.now.table.entries (c.args.directory, c.args.name.now))
