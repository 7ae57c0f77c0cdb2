use Rattle.std.proofs.Common.{◌≡◌, ℕ, refl, sym, subst}
use Rattle.fa_ledger.specs.declared.calls.Calls.{Calls}
use Rattle.fa_check.specs.Replays.{IsAnswerAt}
use Rattle.fa_check.specs.Verdicts.{AreMessagesOf}
use Rattle.fa_search.specs.Searches.{AreSerialBefore}
use Rattle.fa_search.specs.parts.Flight.{IsFlight}
use Rattle.fa_search.specs.parts.Settling.{AreHeldBy}
use Rattle.fa_search.proofs.FlightLemmas.{no_answer_answers_none}
use Rattle.fa_search.proofs.ThereLemmas.{flight_there}
use Rattle.fa_search.proofs.SearchLemmas.{held_by_still, serial_before}
use Rattle.fa_search.proofs.searching.Progress.pass_next.Goals as goal

pub returns-in_ok-pass-in-None-clause-flight : goal.returns-in_ok-pass-in-None-clause-flight
returns-in_ok-pass-in-None-clause-flight c = λ none.
    let progress = c.args.self.now in
    let same : c.calls.result.now ≡ progress.tries.replay = c.calls.ensures in
    flight_there progress.tries.replay c.pass.new.self
    (λ m are.
    let answers = c.in-None.ensures.none refl m progress.tries.replay are c.requires.flight in
    subst (λ (calls : Calls). IsFlight calls.list c.pass.new.self) same
    (c.in_ok-pass-in-None.ensures.flight m (subst (λ (calls : Calls). AreMessagesOf calls m) (sym same) are)
    (subst (λ (calls : Calls). IsFlight calls.list progress.flight) (sym same) c.requires.flight)
    (subst (λ (calls : Calls). (place : ℕ) → IsAnswerAt calls.list place progress.flight.at → ⊥) (sym same) answers)))

pub returns-in_ok-pass-in-None-clause-on : goal.returns-in_ok-pass-in-None-clause-on
returns-in_ok-pass-in-None-clause-on c = λ none m first are is.
    let progress = c.args.self.now in
    let same : c.calls.result.now ≡ progress.tries.replay = c.calls.ensures in
    let answers = c.in-None.ensures.none refl m progress.tries.replay are c.requires.flight in
    record {
      flight = subst (λ (calls : Calls). IsFlight calls.list c.pass.new.self) same
          (c.in_ok-pass-in-None.ensures.flight m (subst (λ (calls : Calls). AreMessagesOf calls m) (sym same) are)
          (subst (λ (calls : Calls). IsFlight calls.list progress.flight) (sym same) c.requires.flight)
          (subst (λ (calls : Calls). (place : ℕ) → IsAnswerAt calls.list place progress.flight.at → ⊥) (sym same) answers));
      held = subst (λ (k : ℕ). AreHeldBy m first progress.common.items k progress.held.items) (sym c.in_ok-pass-in-None.ensures.at)
          (held_by_still m first progress.common.items progress.flight.at progress.held.items (no_answer_answers_none m progress.tries.replay.list are.are progress.flight.at answers) is.held);
      some = is.some;
      serial = λ serial. is.serial (serial_before m progress.flight.at (subst (AreSerialBefore m) c.in_ok-pass-in-None.ensures.at serial));
    }

pub pass_answer-requires-clause-answered : goal.pass_answer-requires-clause-answered
pass_answer-requires-clause-answered c = (c.in-Some.ensures.some c.args.self.now.tries.replay c.requires.flight).1
