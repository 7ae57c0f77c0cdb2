use Rattle.std.proofs.Common.{◌≡◌, true, false, length, None, Some, sym, ◌∙◌, arith}
use Rattle.std.specs.Option.{option_map}
use Rattle.fa_tree.proofs.TellingLemmas.{passed, passed_at, replaced, kept, found_name, least_first, least_none}
use Rattle.fa_tree.proofs.slots.Slots.least_of.Goals as goal
use Rattle.fa_tree.proofs.slots.Slots.least_of.Goals.{in-Some+then-is_for+then-comes_before, in-Some+else-is_for, else-is_for-via-then-is_for+else-comes_before, else-is_for-via-else-is_for, in-None}

pub loop-index-preserved : goal.loop-index-preserved
loop-index-preserved c =
    let slots = c.args.self.now.table.entries in
    let least = option_map (λ p. p.now) c.loop-index.least in
    elim c.match-get_index.branch [
      | in-Some+then-is_for+then-comes_before w ↦
          let there = found_name slots c.args.file w.in-Some.place.now w.in-Some.slot.now w.in-Some.ensures.value (w.is_for.ensures.0 w.if-is_for.true) in
          rw w.least-is
          (replaced slots c.args.file c.loop-index.index least w.in-Some.place.now w.in-Some.slot.now (sym w.in-Some.ensures.entry) there
          (w.comes_before.ensures.0 w.if-comes_before.true) c.loop-index.invariant)
      | in-Some+else-is_for w ↦
          rw w.least-is (elim w.else-is_for.branch [
            | else-is_for-via-then-is_for+else-comes_before v ↦
                kept slots c.args.file c.loop-index.index least w.in-Some.place.now w.in-Some.slot.now (sym w.in-Some.ensures.entry)
                (λ before. let clash : true ≡ false = sym (v.comes_before.ensures.1 before) ∙ v.if-comes_before.false in absurd cc) c.loop-index.invariant
            | else-is_for-via-else-is_for v ↦
                passed_at slots c.args.file c.loop-index.index least w.in-Some.place.now w.in-Some.slot.now (sym w.in-Some.ensures.entry)
                (λ of. let clash : true ≡ false = sym (w.is_for.ensures.1 of) ∙ v.if-is_for.false in absurd cc) c.loop-index.invariant
          ])
      | in-None w ↦
          rw w.least-is
          (passed slots c.args.file c.loop-index.index least (λ e at of. let clash : None ≡ Some e = w.in-None.ensures.entry ∙ at in absurd cc) c.loop-index.invariant)
    ]

pub returns-clause-least : goal.returns-clause-least
returns-clause-least c =
    let slots = c.args.self.now.table.entries in
    let all : c.loop-index.index ≡ length slots = omega (arith, c.len-index-end.ensures.len) in
    least_first slots c.args.file c.loop-index.index all c.loop-index.least c.loop-index.invariant

pub returns-clause-none : goal.returns-clause-none
returns-clause-none c =
    let slots = c.args.self.now.table.entries in
    let all : c.loop-index.index ≡ length slots = omega (arith, c.len-index-end.ensures.len) in
    least_none slots c.args.file c.loop-index.index all c.loop-index.least c.loop-index.invariant
