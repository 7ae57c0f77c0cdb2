use Rattle.std.proofs.Common.{◌≡◌, List, Some, get_or, sym, subst, ◌∙◌}
use Rattle.std.specs.Prelude.{slice_get}
use Rattle.std.proofs.lemmas.Option.{slice_get-get_or, get_or_from_slice_get}
use Rattle.std.proofs.lemmas.Result.{on_ok_weaker}
use Rattle.fa_capture.specs.Message.{Message}
use Rattle.fa_check.specs.Verdicts.{AreMessagesOf}
use Rattle.fa_search.specs.parts.Configurations.{PlainConfiguration, IsSpent}
use Rattle.fa_search.proofs.settling.Settling.try_from.Goals as goal

pub try_each-requires-clause-origin : goal.try_each-requires-clause-origin
try_each-requires-clause-origin c =
    let work = c.args.self.now.work.items in
    let place = c.args.place in
    let copied : c.in_ok-copied.field-0 ≡ c.index.result.now = c.in_ok-copied.ensures.copy in
    let here : c.index.result.now ≡ get_or work place c.index.result.now = c.index.ensures in
    let there : slice_get work place ≡ Some (get_or work place c.index.result.now) = slice_get-get_or work place c.index.result.now c.requires.there in
    subst (λ (x : PlainConfiguration). slice_get work place ≡ Some x) (sym (copied ∙ here)) there

pub returns-clause-grown : goal.returns-clause-grown
returns-clause-grown c = c.try_each.ensures.grown

pub returns-clause-settling : goal.returns-clause-settling
returns-clause-settling c = c.try_each.ensures.settling

pub returns-clause-spent : goal.returns-clause-spent
returns-clause-spent c =
    let work = c.args.self.now.work.items in
    let place = c.args.place in
    let calls = c.args.tries.now.replay in
    let at = c.args.flight.now.at in
    let new = c.try_each.new.self in
    let one = c.in_ok-copied.field-0 in
    let copied : one ≡ c.index.result.now = c.in_ok-copied.ensures.copy in
    let here : c.index.result.now ≡ get_or work place c.index.result.now = c.index.ensures in
    on_ok_weaker {P = (messages : List Message) → AreMessagesOf calls messages → IsSpent messages at one new.work.items new.settled.items}
    {Q = (messages : List Message) (x : PlainConfiguration) → AreMessagesOf calls messages → slice_get work place ≡ Some x → IsSpent messages at x new.work.items new.settled.items} c.try_each.result
    (λ spent. λ messages x are is.
    let same : one ≡ x = copied ∙ here ∙ get_or_from_slice_get work place x c.index.result.now is in
    subst (λ (y : PlainConfiguration). IsSpent messages at y new.work.items new.settled.items) same (spent messages are)) c.try_each.ensures.spent

pub returns-clause-same : goal.returns-clause-same
returns-clause-same c = c.try_each.ensures.same
