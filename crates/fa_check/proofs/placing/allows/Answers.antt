use Rattle.std.proofs.Common.{◌≡◌, ◌↔◌, ℕ, Bool, true, false, Option, Some, None, IsTrue, not, refl, sym, ap, subst, ◌∙◌}
use Rattle.std.specs.Option.{is_some, option_map}
use Rattle.std.proofs.lemmas.Bool.{false≢true}
use Rattle.std.proofs.lemmas.Option.{same_Some}
use Rattle.fa_ledger.specs.Calls.{PlainCall, answer_shown, call_shown}
use Rattle.fa_ledger.specs.Choices.{Allows, AllowsBy}
use Rattle.fa_check.proofs.placing.allows.Goals as goal

-- a test for none
none_told : (wrote : Option ℕ) (r : Bool) → is_some wrote ≡ not r → IsTrue r ↔ (wrote ≡ None)
none_told None true told = ((λ yes. refl), (λ none. refl))
none_told None false told = absurd (false≢true told)
none_told (Some count) true told = absurd (false≢true (sym told))
none_told (Some count) false told = ((λ yes. absurd (false≢true yes)), (λ none. absurd (let clash : Some count ≡ None = none in cc)))

pub returns-in-Some : goal.returns-in-Some
returns-in-Some c call there =
    let same : call ≡ call_shown c.call.result = same_Some call (call_shown c.call.result) (sym there ∙ c.call.ensures) in
    let answered : call.answer ≡ Some (answer_shown c.in-Some.field-0) = ap (λ (x : PlainCall). x.answer) same ∙ ap (option_map answer_shown) c.in-Some.is in
    subst (λ a. IsTrue c.is_none.result ↔ AllowsBy a call.operation c.args.wrote) (sym answered) (none_told c.args.wrote c.is_none.result c.is_none.ensures)

pub returns-in-None : goal.returns-in-None
returns-in-None c call there =
    let same : call ≡ call_shown c.call-in-None.result = same_Some call (call_shown c.call-in-None.result) (sym there ∙ c.call-in-None.ensures) in
    subst (λ (x : PlainCall). IsTrue c.allows.result ↔ Allows x c.args.wrote) (sym same) c.allows.ensures
