-- Good messages, and the first fault behind them.
use Rattle.std.proofs.Common.{◌≡◌, ℕ, List, [], ◌∷◌, ◌++◌, length, take, Option, Some, None, refl, sym, subst, ap, ◌∙◌, append_assoc, inl, inr, arith}
use Rattle.std.specs.Prelude.{slice_get}
use Rattle.std.proofs.lemmas.List.{take_at, take-append-le}
use Rattle.fa_capture.specs.declared.fault.CaptureFault.{CaptureFault}
use Rattle.fa_capture.specs.Checks.{FirstFailure}
use Rattle.fa_capture.specs.Message.{Message, Recorded, without_times}
use Rattle.fa_capture.specs.Reading.{IsRecording}
use Rattle.fa_capture.proofs.CallerLemmas.{get_back, get_kept, get_last, records_length, messages_on}
use Rattle.fa_ledger.specs.Passing.{message_checks, Passes, EachPasses, AreGood, IsGoodCapture, IsFirstFault}

-- messages that are good pass in front of others too
good_in_front : (c more : List Message) → AreGood c → EachPasses (c ++ more) (length c)
good_in_front c more good i m below there =
    let shown : take i (c ++ more) ≡ take i c = take-append-le i c more (omega (arith, below)) in
    subst (λ (before : List Message). Passes before m) (sym shown) (good i m below (get_back c more i m below there))

-- the message that is refused behind good ones is the first fault, whatever stands behind it
pub refused_is_first : (bytes : List ℕ) (rs more : List Recorded) (r : Recorded) (framing : Option CaptureFault) (code : ℕ) → IsRecording bytes (rs ++ r ∷ more) framing
    → AreGood (without_times rs) → FirstFailure (message_checks (without_times rs) r.message) code → IsFirstFault bytes (length rs) code
refused_is_first bytes rs more r framing code read good fails =
    let before : List Message = without_times rs in
    let ms : List Message = without_times (rs ++ r ∷ more) in
    let parts : ms ≡ before ++ r.message ∷ without_times more = messages_on rs more r in
    let many : length before ≡ length rs = records_length rs in
    let shown : take (length rs) ms ≡ before = ap (take (length rs)) parts ∙ take_at before (r.message ∷ without_times more) (length rs) many in
    let last : slice_get (before ++ r.message ∷ []) (length rs) ≡ Some r.message = ap (slice_get (before ++ r.message ∷ [])) (sym many) ∙ get_last before r.message in
    let there : slice_get ms (length rs) ≡ Some r.message =
    ap (λ (c : List Message). slice_get c (length rs)) (parts ∙ sym (append_assoc before (r.message ∷ []) (without_times more))) ∙ get_kept (before ++ r.message ∷ []) (without_times more) (length rs) r.message last in
    record {
      messages = ms;
      framing = framing;
      read = (rs ++ r ∷ more, refl, read);
      fault = inl (record {
        message = r.message;
        there = there;
        passes = subst (λ (n : ℕ). EachPasses ms n) many (subst (λ (c : List Message). EachPasses c (length before)) (sym parts) (good_in_front before (r.message ∷ without_times more) good));
        fails = subst (λ (c : List Message). FirstFailure (message_checks c r.message) code) (sym shown) fails;
      });
    }

-- a framing fault behind good messages
pub framing_is_first : (bytes : List ℕ) (rs : List Recorded) (fault : CaptureFault) → IsRecording bytes rs (Some fault) → AreGood (without_times rs) → IsFirstFault bytes fault.whole fault.code
framing_is_first bytes rs fault read good = record {
  messages = without_times rs;
  framing = Some fault;
  read = (rs, refl, read);
  fault = inr (record { there = refl; passes = good });
}

-- no fault behind them
pub good_is_whole : (bytes : List ℕ) (rs : List Recorded) → IsRecording bytes rs None → AreGood (without_times rs) → IsGoodCapture bytes (without_times rs)
good_is_whole bytes rs read good = record { read = (rs, refl, read); good = good }
