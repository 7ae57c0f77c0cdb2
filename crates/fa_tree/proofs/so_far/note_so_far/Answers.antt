use Rattle.std.proofs.Common.{◌-◌, [], ◌++◌, take, sym, subst, ◌∙◌}
use Rattle.std.proofs.lemmas.Option.{slice_get_within, same_Some}
use Rattle.fa_ledger.specs.Calls.{PlainCall}
use Rattle.fa_ledger.specs.SoFar.{entries_answered}
use Rattle.fa_tree.specs.parts.TallyParts.{Notes}
use Rattle.fa_tree.proofs.SoFarLemmas.{all_left, one_back, none_back, none_left}
use Rattle.fa_tree.proofs.TallyLemmas.{notes_none, notes_both}
use Rattle.fa_tree.proofs.so_far.note_so_far.Goals as goal

pub loop-round-init : goal.loop-round-init
loop-round-init c = record {
  within = c.requires;
  noted = [];
  whole = all_left c.args.calls.now.list c.args.k;
  notes = notes_none c.args.tally.now;
}

pub call-requires : goal.call-requires
call-requires c = c.loop-round.invariant.within

pub call-requires-in-Some : goal.call-requires-in-Some
call-requires-in-Some c = let found = c.in-Some.ensures.found in slice_get_within c.args.calls.now.list c.in-Some.earlier found.0 found.1

pub loop-round-preserved : goal.loop-round-preserved
loop-round-preserved c =
    let calls = c.args.calls.now.list in
    let so_far = c.loop-round.invariant in
    let there = c.call.ensures in
    let found = c.in-Some.ensures.found in
    let within = slice_get_within calls c.in-Some.earlier found.0 found.1 in
    let same = same_Some _ _ (sym c.call-in-Some.ensures ∙ found.1) in
    let notes = subst (λ (earlier : PlainCall). Notes c.loop-round.tally c.note_answered.new.tally (take c.in-Some.count (entries_answered earlier.operation))) same c.in_ok-note_answered-in-Some.ensures.noted in
    let entries = take c.in-Some.count (entries_answered found.0.operation) in
    record {
      within = within;
      noted = entries ++ so_far.noted;
      whole = one_back calls c.args.k c.loop-round._round c.loop-round.place c.in-Some.earlier _ found.0 c.in-Some.count so_far.noted _ c.loop-round-test.true there found.1 found.2 so_far.whole;
      notes = notes_both c.args.tally.now c.loop-round.tally c.note_answered.new.tally so_far.noted entries so_far.notes notes;
    }

pub returns-after-loop-round : goal.returns-after-loop-round
returns-after-loop-round c = record {
  noted =
      let calls = c.args.calls.now.list in
      let so_far = c.loop-round.invariant in
      subst (Notes c.args.tally.now c.loop-round.tally) (none_left calls c.args.k c.loop-round._round c.loop-round.place so_far.noted _ c.loop-round-test.false so_far.whole) so_far.notes;
}

pub returns-in-None : goal.returns-in-None
returns-in-None c = record {
  noted =
      let so_far = c.loop-round.invariant in
      let there = c.call.ensures in
      subst (Notes c.args.tally.now c.loop-round.tally) (none_back c.args.calls.now.list (c.args.k - c.loop-round._round) c.loop-round.place _ so_far.noted _ there c.in-None.ensures.none so_far.whole) so_far.notes;
}
