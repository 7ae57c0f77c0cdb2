use Rattle.std.proofs.Common.{◌≡◌, ◌∙◌, ◌+◌, ◌<◌, ℕ, List, [], length, Err, None, sym, subst, ap, rules, tests, arith}
use Rattle.std.proofs.lemmas.Result.{err_from_is_err_and}
use Rattle.std.specs.Prelude.{IsErrOf}
use Rattle.fa_ledger.specs.declared.calls.Calls.{Calls}
use Rattle.fa_check.specs.Replays.{IsAnswerAt}
use Rattle.fa_check.specs.Verdicts.{AreMessagesOf}
use Rattle.fa_search.specs.declared.budget.Halt.TheVariants.{Spent}
use Rattle.fa_tree.specs.Alike.{IsInUse, IsLastFrom}
use Rattle.fa_search.specs.Searches.{IsUsedFrom, AreSerialBefore, IsEndless}
use Rattle.fa_search.specs.parts.Configurations.{PlainConfiguration}
use Rattle.fa_search.specs.parts.Flight.{IsFlight}
use Rattle.fa_search.specs.parts.Placed.{MayBePlacedAt}
use Rattle.fa_search.specs.parts.Settling.{AreHeldBy, IsSettled, AreLeft}
use Rattle.fa_search.proofs.LoopLemmas.{empty_list, some_there}
use Rattle.fa_search.proofs.ThereLemmas.{flight_there}
use Rattle.fa_search.proofs.UseLemmas.{covers_from}
use Rattle.fa_search.proofs.ReplyLemmas.{answered_placed, asked_answered, kept_alone}
use Rattle.fa_search.proofs.SearchLemmas.{alone_by_serial, serial_before, explained_up_to, held_by_answered, left_have_no_step, some_left, are_left, stops_here}
use Rattle.fa_search.proofs.MergedLemmas.{held_by_merged, merged_some}
use Rattle.fa_search.proofs.searching.Progress.pass_answer.Goals as goal

pub returns-in_err-settling-clause-spent : goal.returns-in_err-settling-clause-spent
returns-in_err-settling-clause-spent c = λ spent m first are is.
    let progress = c.args.self.now in
    let p = err_from_is_err_and c.from_residual.result c.from_residual.ensures.1 in
    let result : c.from_residual.result ≡ Err p.0 = p.1 in
    let given : p.0 ≡ c.in_err-settling.field-0.0 = p.2 in
    let halt : c.in_err-settling.field-0.0 ≡ Spent = cc in
    let err : IsErrOf c.settle.result Spent = c.in_err-settling.was ∙ ap (λ h. Err h) halt in
    let by = asked_answered m progress.tries.replay.list are.are progress.flight.at c.args.asked c.requires.in_flight c.requires.answered in
    let one = some_there progress.held.items is.some in (
      explained_up_to m first progress.common.items progress.flight.at progress.held.items one.0 one.1 is.held c.args.asked.asked by.0 by.1,
      λ serial.
          let alone = alone_by_serial m progress.tries.replay.list are.are progress.flight c.args.asked serial c.requires.flight c.requires.in_flight c.requires.answered in
          let many = c.settle.ensures.spent err alone in
          let few = is.serial serial in
          let same = c.replace-held.ensures.value in
          omega (arith, many, few, ap (λ v. length v.items) same),
    )

pub returns-in_err-settling-clause-endless : goal.returns-in_err-settling-clause-endless
returns-in_err-settling-clause-endless c = λ spent.
    let p = err_from_is_err_and c.from_residual.result c.from_residual.ensures.1 in
    let result : c.from_residual.result ≡ Err p.0 = p.1 in
    let given : p.0 ≡ c.in_err-settling.field-0.0 = p.2 in
    let halt : c.in_err-settling.field-0.0 ≡ Spent = cc in
    c.settle.ensures.endless (c.in_err-settling.was ∙ ap (λ h. Err h) halt)

pub returns-in_err-self-clause-endless : goal.returns-in_err-self-clause-endless
returns-in_err-self-clause-endless c = λ spent endless.
    let p = err_from_is_err_and c.from_residual-in_err-self.result c.from_residual-in_err-self.ensures.1 in
    let result : c.from_residual-in_err-self.result ≡ Err p.0 = p.1 in
    let given : p.0 ≡ c.in_err-self.field-0.0 = p.2 in
    let halt : c.in_err-self.field-0.0 ≡ Spent = cc in
    c.merged_if_due.ensures.endless (c.in_err-self.was ∙ ap (λ h. Err h) halt) (subst IsEndless (sym c.settle.ensures.budget) endless)

pub returns-in_err-self-clause-spent : goal.returns-in_err-self-clause-spent
returns-in_err-self-clause-spent c = λ spent m first are is.
    let progress = c.args.self.now in
    let p = err_from_is_err_and c.from_residual-in_err-self.result c.from_residual-in_err-self.ensures.1 in
    let result : c.from_residual-in_err-self.result ≡ Err p.0 = p.1 in
    let given : p.0 ≡ c.in_err-self.field-0.0 = p.2 in
    let halt : c.in_err-self.field-0.0 ≡ Spent = cc in
    let err : IsErrOf c.merged_if_due.result Spent = c.in_err-self.was ∙ ap (λ h. Err h) halt in
    let by = asked_answered m progress.tries.replay.list are.are progress.flight.at c.args.asked c.requires.in_flight c.requires.answered in
    let one = some_there progress.held.items is.some in (
      explained_up_to m first progress.common.items progress.flight.at progress.held.items one.0 one.1 is.held c.args.asked.asked by.0 by.1,
      λ serial.
          let alone = alone_by_serial m progress.tries.replay.list are.are progress.flight c.args.asked serial c.requires.flight c.requires.in_flight c.requires.answered in
          let many = c.merged_if_due.ensures.spent err in
          let long : length c.in_ok-left.left.items ≡ length c.in_ok-settling.settling.settled.items = c.in_ok-left.ensures.length in
          let fewer = c.in_ok-settling.ensures.fewer alone in
          let few = is.serial serial in
          let same = c.replace-held.ensures.value in
          omega (arith, many, long, fewer, few, ap (λ v. length v.items) same),
    )

pub least_code-requires : goal.least_code-requires
least_code-requires c =
    subst (λ (calls : Calls). (MayBePlacedAt calls.list c.args.asked.place (record { at = c.args.asked.asked; wrote = None }))) (sym c.settle.ensures.same)
    (answered_placed c.args.self.now.tries.replay.list c.args.self.now.flight.at c.args.asked c.requires.in_flight c.requires.answered)

pub returns-then-is_empty-clause-stop : goal.returns-then-is_empty-clause-stop
returns-then-is_empty-clause-stop c = λ m first are is.
    let progress = c.args.self.now in
    let common = progress.common.items in
    let at = progress.flight.at in
    let left = c.in_ok-settling.settling.work.items in
    let settled = c.in_ok-settling.settling.settled.items in
    let by = asked_answered m progress.tries.replay.list are.are at c.args.asked c.requires.in_flight c.requires.answered in
    let empty : settled ≡ [] = empty_list settled (search (rules, tests)) in
    let settling : IsSettled m first common at c.args.asked.asked left settled =
    c.in_ok-settling.ensures.settled m first common are (rw c.replace-held.ensures.value is.held) in
    let none : IsSettled m first common at c.args.asked.asked left [] = subst (λ (xs : List PlainConfiguration). IsSettled m first common at c.args.asked.asked left xs) empty settling in
    let one = some_there progress.held.items is.some in
    let here : AreMessagesOf c.settle.new.tries.replay m = subst (λ (calls : Calls). AreMessagesOf calls m) (sym c.settle.ensures.same) are in
    let least = c.in_ok-code.ensures.least m here
    (some_left m first common at c.args.asked.asked by.0 by.1 progress.held.items left one.0 one.1 is.held none)
    (left_have_no_step m first common at c.args.asked.asked by.0 by.1 progress.held.items left one.0 one.1 is.held none) in
    stops_here m first common at c.args.asked.asked by.0 by.1 progress.held.items left one.0 one.1 is.held none c.in_ok-code.code are.good
    (let next = c.requires.next in let counted = are.counted in omega (arith, next, counted)) least

pub returns-then-is_empty-clause-left : goal.returns-then-is_empty-clause-left
returns-then-is_empty-clause-left c = λ m first are is.
    let progress = c.args.self.now in
    let common = progress.common.items in
    let at = progress.flight.at in
    let left = c.in_ok-settling.settling.work.items in
    let settled = c.in_ok-settling.settling.settled.items in
    let by = asked_answered m progress.tries.replay.list are.are at c.args.asked c.requires.in_flight c.requires.answered in
    let empty : settled ≡ [] = empty_list settled (search (rules, tests)) in
    let settling : IsSettled m first common at c.args.asked.asked left settled =
    c.in_ok-settling.ensures.settled m first common are (rw c.replace-held.ensures.value is.held) in
    let none : IsSettled m first common at c.args.asked.asked left [] = subst (λ (xs : List PlainConfiguration). IsSettled m first common at c.args.asked.asked left xs) empty settling in
    let one = some_there progress.held.items is.some in
    let here : AreMessagesOf c.settle.new.tries.replay m = subst (λ (calls : Calls). AreMessagesOf calls m) (sym c.settle.ensures.same) are in
    let kept : c.least_code.new.kept.items ≡ left = kept_alone _ left _ (c.in_ok-code.ensures.kept m here
    (left_have_no_step m first common at c.args.asked.asked by.0 by.1 progress.held.items left one.0 one.1 is.held none)) (search rules) in (
      subst (AreLeft m first common at) (sym kept)
          (are_left m first common at c.args.asked.asked by.0 by.1 progress.held.items left one.0 one.1 is.held none are.good
          (let next = c.requires.next in let counted = are.counted in omega (arith, next, counted))),
      covers_from m progress.tries.replay.list are.are at progress.flight.last_uses c.requires.flight.uses,
    )

pub returns-clause-flight : goal.returns-clause-flight
returns-clause-flight c = λ none.
    let progress = c.args.self.now in
    let same : c.calls.result.now ≡ progress.tries.replay = c.calls.ensures ∙ c.settle.ensures.same in
    flight_there progress.tries.replay c.answer.new.self
    (λ m are. subst (λ (calls : Calls). IsFlight calls.list c.answer.new.self) same
    (c.answer.ensures.flight m (subst (λ (calls : Calls). AreMessagesOf calls m) (sym same) are)
    (subst (λ (calls : Calls). IsFlight calls.list progress.flight) (sym same) c.requires.flight)
    (subst (λ (calls : Calls). IsAnswerAt calls.list c.args.asked.place progress.flight.at) (sym same) c.requires.answered)))

pub returns-clause-some : goal.returns-clause-some
returns-clause-some c = λ none.
    let settled = c.in_ok-settling.settling.settled.items in
    let long : length c.join.new.held.items ≡ length c.in_ok-self.field-0.items = c.in_ok-join.ensures.length in
    let left : length c.in_ok-left.left.items ≡ length settled = c.in_ok-left.ensures.length in
    let some : 0 < length settled = search (rules, tests) in
    let before : 0 < length c.in_ok-left.left.items = omega (arith, left, some) in
    let behind = merged_some (IsInUse c.in_use-in_use.result) c.in_ok-left.left.items c.in_ok-self.field-0.items c.in_ok-self.ensures.merged before in
    omega (arith, long, behind)

pub returns-clause-on : goal.returns-clause-on
returns-clause-on c = λ none m first are is.
    let progress = c.args.self.now in
    let common = progress.common.items in
    let at = progress.flight.at in
    let left = c.in_ok-settling.settling.work.items in
    let settled = c.in_ok-settling.settling.settled.items in
    let same : c.calls.result.now ≡ progress.tries.replay = c.calls.ensures ∙ c.settle.ensures.same in
    let flight : IsFlight c.calls.result.now.list c.answer.new.self =
    c.answer.ensures.flight m (subst (λ (calls : Calls). AreMessagesOf calls m) (sym same) are)
    (subst (λ (calls : Calls). IsFlight calls.list progress.flight) (sym same) c.requires.flight)
    (subst (λ (calls : Calls). IsAnswerAt calls.list c.args.asked.place progress.flight.at) (sym same) c.requires.answered) in
    let by = asked_answered m progress.tries.replay.list are.are at c.args.asked c.requires.in_flight c.requires.answered in
    let settling : IsSettled m first common at c.args.asked.asked left settled =
    c.in_ok-settling.ensures.settled m first common are (rw c.replace-held.ensures.value is.held) in
    let all : AreHeldBy m first common (at + 1) c.in_ok-left.left.items =
    held_by_answered m first common at c.args.asked.asked left settled c.in_ok-left.left.items by.0 by.1 settling c.in_ok-left.ensures.without in
    let here : IsFlight progress.tries.replay.list c.answer.new.self = subst (λ (calls : Calls). IsFlight calls.list c.answer.new.self) same flight in
    let counts : (opened : ℕ) → IsUsedFrom m (at + 1) opened → IsInUse c.in_use-in_use.result opened = λ opened used.
    (c.in_use-in_use.ensures opened).1 (subst (λ (k : ℕ). IsLastFrom c.answer.new.self.last_uses k opened) (sym c.answer.ensures.at)
    (covers_from m progress.tries.replay.list are.are (at + 1) c.answer.new.self.last_uses here.uses opened used)) in
    let held : AreHeldBy m first common (at + 1) c.in_ok-self.field-0.items =
    held_by_merged m first common (at + 1) (IsInUse c.in_use-in_use.result) counts c.in_ok-left.left.items c.in_ok-self.field-0.items c.in_ok-self.ensures.merged all in
    let long : length c.join.new.held.items ≡ length c.in_ok-self.field-0.items = c.in_ok-join.ensures.length in
    let many : length c.in_ok-left.left.items ≡ length settled = c.in_ok-left.ensures.length in
    let some : 0 < length settled = search (rules, tests) in
    let before : 0 < length c.in_ok-left.left.items = omega (arith, many, some) in
    let behind = merged_some (IsInUse c.in_use-in_use.result) c.in_ok-left.left.items c.in_ok-self.field-0.items c.in_ok-self.ensures.merged before in
    let less = c.in_ok-self.ensures.fewer in
    record {
      flight = subst (λ (calls : Calls). IsFlight calls.list c.answer.new.self) c.calls.ensures flight;
      held = subst (λ (k : ℕ). AreHeldBy m first c.join.new.common.items k c.join.new.held.items) (sym c.answer.ensures.at) (c.in_ok-join.ensures.held m first (at + 1) held);
      some = omega (arith, long, behind);
      serial = λ serial.
          let earlier = serial_before m at (subst (AreSerialBefore m) c.answer.ensures.at serial) in
          let alone = alone_by_serial m progress.tries.replay.list are.are progress.flight c.args.asked earlier c.requires.flight c.requires.in_flight c.requires.answered in
          let fewer = c.in_ok-settling.ensures.fewer alone in
          let few = is.serial earlier in
          omega (arith, long, many, less, fewer, few, ap (λ v. length v.items) c.replace-held.ensures.value);
    }
