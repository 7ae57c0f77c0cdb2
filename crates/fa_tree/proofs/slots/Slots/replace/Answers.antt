use Rattle.std.proofs.Common.{Some, refl, sym, ap, subst, ◌∙◌, is_some}
use Rattle.std.specs.Map.{keys_of}
use Rattle.std.specs.Option.{option_map}
use Rattle.fa_tree.specs.State as state
use Rattle.fa_tree.specs.declared.slots.Slot.TheVariants.{There}
use Rattle.fa_tree.specs.parts.MemberParts.{AreMembers}
use Rattle.fa_tree.specs.parts.SlotParts.{slot_at, AreAllThere}
use Rattle.fa_tree.proofs.SlotLemmas.{after_write, changed_at, keys_same, unchanged_at, all_there_put}
use Rattle.fa_tree.proofs.slots.Slots.replace.Goals as goal

pub returns-in-Some-clause-put : goal.returns-in-Some-clause-put
returns-in-Some-clause-put c = λ q.
    let place : state.Place = (c.args.directory, c.args.name.now) in
    let old = c.args.self.now.table.entries in
    let wrote = (c.get_mut.follows.holds (There c.args.file c.args.born)).3 (ap is_some (sym c.in-Some.ensures.value)) in
    after_write _ keys_same place _ (λ k. refl) old (c.get_mut.follows.lender (There c.args.file c.args.born)).entries (Some (There c.args.file c.args.born)) wrote.1 wrote.3 q
    ∙ changed_at old place q (option_map (λ _. (There c.args.file c.args.born))) _ (ap (option_map (λ _. (There c.args.file c.args.born))) c.in-Some.ensures.value)

pub returns-in-None-clause-put : goal.returns-in-None-clause-put
returns-in-None-clause-put c = λ q.
    let place : state.Place = (c.args.directory, c.args.name.now) in
    let old = c.args.self.now.table.entries in
    ap (λ table. slot_at table.entries q) c.get_mut.follows.holds-at-none
    ∙ unchanged_at old place q (option_map (λ _. (There c.args.file c.args.born))) (sym c.in-None.ensures.value ∙ ap (option_map (λ _. (There c.args.file c.args.born))) c.in-None.ensures.value)

pub invariant_of-self-in-None : goal.invariant_of-self-in-None
invariant_of-self-in-None c = record {
  complete = subst (λ table. AreMembers (keys_of table.entries) c.args.self.now.members.table.entries) (sym c.get_mut.follows.holds-at-none) c.args.self.now.complete;
  there = λ all. subst (λ table. AreAllThere table.entries) (sym c.get_mut.follows.holds-at-none) (c.args.self.now.there all);
}

pub invariant_of-self-clause-there : goal.invariant_of-self-clause-there
invariant_of-self-clause-there c = λ all.
    let slot = There c.args.file c.args.born in
    let new = (c.get_mut.follows.lender slot).entries in
    let wrote = (c.get_mut.follows.holds slot).3 (ap is_some (sym c.in-Some.ensures.value)) in
    all_there_put c.args.self.now.table.entries new (c.args.directory, c.args.name.now) c.args.file c.args.born
    (after_write _ keys_same (c.args.directory, c.args.name.now) _ (λ k. refl) c.args.self.now.table.entries new (Some slot) wrote.1 wrote.3)
    (c.args.self.now.there all)
