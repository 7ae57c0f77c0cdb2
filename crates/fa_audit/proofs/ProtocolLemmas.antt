-- The messages of a capture, one after the other.
use Rattle.std.proofs.Common.{◌≡◌, ℕ, zero, suc, ◌<◌, ◌+◌, List, [], ◌∷◌, ◌++◌, length, take, Some, None, refl, sym, subst, ap, ◌∙◌, append_assoc, arith}
use Rattle.std.specs.Prelude.{All}
use Rattle.std.proofs.lemmas.List.{append-nil, length-append, take-append-le, take_all, take-map}
use Rattle.fa_capture.specs.declared.capture.Capture.{Capture}
use Rattle.fa_capture.specs.declared.fault.CaptureFault.{CaptureFault}
use Rattle.fa_capture.specs.declared.limits.TheConstants.{MAX_MESSAGES}
use Rattle.fa_capture.specs.Captures.{records_of, IsCaptureOf}
use Rattle.fa_capture.specs.Message.{Message, Recorded, without_times}
use Rattle.fa_capture.specs.Reading.{IsRecording, HasMagic}
use Rattle.fa_capture.specs.Walks.{PlainWalk, HaveRead}
use Rattle.fa_capture.specs.declared.codes.TheConstants.{NO_MAGIC}
use Rattle.fa_session.specs.Allowed.{IsAllowed}
use Rattle.fa_session.specs.Events.{PlainEvent, IsEvent}
use Rattle.fa_session.specs.Plain.{PlainSession}
use Rattle.fa_ledger.specs.declared.calls.Calls.{Calls}
use Rattle.fa_ledger.specs.Calls.{AreCalls}
use Rattle.fa_ledger.specs.Passing.{IsFirstFault}
use Rattle.fa_ledger.specs.Plain.{PlainLedger}
use Rattle.fa_ledger.specs.Shows as ledgers
use Rattle.fa_ledger.specs.Refusals.{IsNext}
use Rattle.fa_ledger.proofs.CallerLemmas.{refused_is_first, framing_is_first, good_is_whole}
use Rattle.fa_watch.specs.Refusals.{IsRefusal}
use Rattle.fa_watch.specs.declared.message.MessageError.TheVariants.{Refused}
use Rattle.fa_check.specs.Verdicts.{AreMessagesOf}
use Rattle.fa_audit.specs.parts.Protocol.{ShowBoth, messages_of}
use Rattle.fa_audit.specs.parts.Answers.{AreCallsOf}
use Rattle.fa_capture.proofs.CallerLemmas.{records_length, messages_on, walk_goes_on, reads_without}

-- the next event of a session is the ledger's next
pub next_of_both : (c : List Message) (m : Message) (s : PlainSession) (l : PlainLedger) (e : PlainEvent) → ShowBoth c s l → length c < MAX_MESSAGES → IsAllowed c m → IsEvent c m e → IsNext c m l e
next_of_both c m s l e both few allowed event = record { shows = both.ledger; few = few; allowed = allowed; event = event }

-- ---- the loop over the packets of a capture

-- What the loop keeps: the records of the packets that were taken and those that are left are those of the capture; as many were
-- taken as were counted, and their messages are shown.
pub record IsGoodSoFar (capture : Capture) (left : List Recorded) (at : ℕ) (s : PlainSession) (l : PlainLedger) : Type 0 where
  pub rs : List Recorded
  pub whole : records_of capture ≡ rs ++ left
  pub many : length rs ≡ at
  pub both : ShowBoth (without_times rs) s l

-- none was taken
pub good_at_first : (capture : Capture) (left : List Recorded) (s : PlainSession) (l : PlainLedger) → records_of capture ≡ left → ShowBoth [] s l → IsGoodSoFar capture left 0 s l
good_at_first capture left s l whole both = record { rs = []; whole = whole; many = refl; both = both }

module _ (capture : Capture) (left rest : List Recorded) (r : Recorded) (next : left ≡ r ∷ rest) where
  -- the next record behind those that were taken
  next_there : (rs : List Recorded) → records_of capture ≡ rs ++ left → records_of capture ≡ rs ++ r ∷ rest
  next_there rs whole = whole ∙ ap (λ (xs : List Recorded). rs ++ xs) next

  -- a message more may come
  pub few_before : (rs : List Recorded) → records_of capture ≡ rs ++ left → length (without_times rs) < MAX_MESSAGES
  few_before rs whole =
      omega (arith, capture.framed.count, records_length (records_of capture), ap length (next_there rs whole), length-append rs (r ∷ rest), records_length rs)

  -- one message more is shown
  pub good_more : (at : ℕ) (s t : PlainSession) (l m : PlainLedger) → (good : IsGoodSoFar capture left at s l) → ShowBoth (without_times good.rs ++ r.message ∷ []) t m
      → IsGoodSoFar capture rest (at + 1) t m
  good_more at s t l m good both = record {
    rs = good.rs ++ r ∷ [];
    whole = next_there good.rs good.whole ∙ sym (append_assoc good.rs (r ∷ []) rest);
    many = omega (arith, good.many, length-append good.rs (r ∷ []));
    both = subst (λ (c : List Message). ShowBoth c t m) (sym (messages_on good.rs [] r)) both;
  }

  -- the message that is refused is the first fault of the capture, whatever stands behind it
  pub message_fault : (bytes : List ℕ) (at code : ℕ) (s : PlainSession) (l : PlainLedger) → (good : IsGoodSoFar capture left at s l) → IsRefusal (without_times good.rs) r.message (Refused code)
      → IsCaptureOf bytes capture → IsFirstFault bytes at code
  message_fault bytes at code s l good refusal is =
      let read = subst (λ (rs : List Recorded). IsRecording bytes rs capture.fault) (next_there good.rs good.whole) is in
      subst (λ (n : ℕ). IsFirstFault bytes n code) good.many (refused_is_first bytes good.rs rest r capture.fault code read good.both.ledger.good refusal)

-- ---- so many packets are taken, or all

-- those that were taken are the first so many, once as many were or none is left
all_taken : (front left : List Recorded) (count : ℕ) → (0 < count → left ≡ []) → take (length front + count) (front ++ left) ≡ front
all_taken front left zero ends =
    let many : length front + zero ≡ length front = omega arith in
    ap (λ (k : ℕ). take k (front ++ left)) many ∙ take-append-le (length front) front left (omega arith) ∙ take_all (length front) front (omega arith)
all_taken front left (suc n) ends =
    let none : front ++ left ≡ front = ap (λ (xs : List Recorded). front ++ xs) (ends (omega arith)) ∙ append-nil front in
    ap (take (length front + suc n)) none ∙ take_all (length front + suc n) front (omega arith)

-- the first messages of the capture are shown, once as many were taken or none is left
pub front_shown : (capture : Capture) (messages : ℕ) (left : List Recorded) (at count : ℕ) (s : PlainSession) (l : PlainLedger)
    → IsGoodSoFar capture left at s l → at + count ≡ messages → (0 < count → left ≡ []) → ShowBoth (take messages (messages_of capture)) s l
front_shown capture messages left at count s l good counted ends =
    let many : messages ≡ length good.rs + count = omega (arith, counted, good.many) in
    let taken : take messages (records_of capture) ≡ good.rs =
    ap (take messages) good.whole ∙ ap (λ (k : ℕ). take k (good.rs ++ left)) many ∙ all_taken good.rs left count ends in
    let same : take messages (messages_of capture) ≡ without_times good.rs = take-map (λ (r : Recorded). r.message) messages (records_of capture) ∙ ap without_times taken in
    subst (λ (c : List Message). ShowBoth c s l) (sym same) good.both

-- the calls of messages that are shown
pub calls_of_shown : (c : List Message) (s : PlainSession) (l : PlainLedger) (calls : Calls) → ShowBoth c s l → (calls.messages ≡ length c) × AreCalls c calls.list → AreMessagesOf calls c
calls_of_shown c s l calls both are = record { good = both.ledger.good; counted = are.0; are = are.1 }

-- ---- all are taken

-- as many first messages as a capture has are all
pub all_messages : (capture : Capture) (calls : Calls) → AreMessagesOf calls (take capture.messages (messages_of capture)) → AreMessagesOf calls (messages_of capture)
all_messages capture calls are =
    subst (AreMessagesOf calls) (take_all capture.messages (messages_of capture) (omega (arith, capture.counted, records_length (records_of capture)))) are

-- a framing fault behind messages that have calls
pub framing_fault : (bytes : List ℕ) (capture : Capture) (fault : CaptureFault) (calls : Calls) → AreMessagesOf calls (messages_of capture) → capture.fault ≡ Some fault
    → IsCaptureOf bytes capture → IsFirstFault bytes fault.whole fault.code
framing_fault bytes capture fault calls are told is = framing_is_first bytes (records_of capture) fault (subst (IsRecording bytes (records_of capture)) told is) are.good

-- a capture whose messages have calls is good, if it has no framing fault
pub calls_of_good : (bytes : List ℕ) (capture : Capture) (calls : Calls) → AreMessagesOf calls (messages_of capture) → capture.fault ≡ None → IsCaptureOf bytes capture → AreCallsOf bytes calls
calls_of_good bytes capture calls are whole is = record {
  messages = messages_of capture;
  good = good_is_whole bytes (records_of capture) (subst (IsRecording bytes (records_of capture)) whole is) are.good;
  are = are;
}

-- ---- the walk over the records of bytes

-- What the loop keeps: as many records were read as were counted, and their messages are shown.
pub record HasTaken (bytes : List ℕ) (walk : PlainWalk) (at : ℕ) (s : PlainSession) (l : PlainLedger) : Type 0 where
  pub rs : List Recorded
  pub read : HaveRead bytes rs walk
  pub many : length rs ≡ at
  pub both : ShowBoth (without_times rs) s l

-- none was read
pub none_taken : (bytes : List ℕ) (walk : PlainWalk) (s : PlainSession) (l : PlainLedger) → HaveRead bytes [] walk → ShowBoth [] s l → HasTaken bytes walk 0 s l
none_taken bytes walk s l read both = record { rs = []; read = read; many = refl; both = both }

module _ (bytes : List ℕ) (was walk : PlainWalk) (r : Recorded) (at : ℕ) (s : PlainSession) (l : PlainLedger) (taken : HasTaken bytes was at s l) (read : HaveRead bytes (taken.rs ++ r ∷ []) walk) where
  -- the one that was read may come
  pub few_taken : length (without_times taken.rs) < MAX_MESSAGES
  few_taken = omega (arith, read.framed.count, records_length (taken.rs ++ r ∷ []), length-append taken.rs (r ∷ []), records_length taken.rs)

  -- its message is shown
  pub one_taken : (t : PlainSession) (m : PlainLedger) → ShowBoth (without_times taken.rs ++ r.message ∷ []) t m → HasTaken bytes walk (at + 1) t m
  one_taken t m both = record {
    rs = taken.rs ++ r ∷ [];
    read = read;
    many = omega (arith, taken.many, length-append taken.rs (r ∷ []));
    both = subst (λ (c : List Message). ShowBoth c t m) (sym (messages_on taken.rs [] r)) both;
  }

  -- or refused: the first fault of the bytes, whatever stands behind it
  pub refused_taken : (code : ℕ) → All (λ b. b < 256) bytes → IsRefusal (without_times taken.rs) r.message (Refused code) → IsFirstFault bytes at code
  refused_taken code small refusal =
      let on = walk_goes_on bytes (taken.rs ++ r ∷ []) walk small read in
      let there = subst (λ (rs : List Recorded). IsRecording bytes rs on.1) (append_assoc taken.rs (r ∷ []) on.0) on.2 in
      subst (λ (n : ℕ). IsFirstFault bytes n code) taken.many (refused_is_first bytes taken.rs on.0 r on.1 code there taken.both.ledger.good refusal)

module _ (bytes : List ℕ) (walk : PlainWalk) (at : ℕ) (s : PlainSession) (l : PlainLedger) (taken : HasTaken bytes walk at s l) where
  -- a framing fault behind them
  pub framing_taken : (code : ℕ) → IsRecording bytes taken.rs (Some (record { whole = length taken.rs; code = code })) → IsFirstFault bytes at code
  framing_taken code read =
      subst (λ (n : ℕ). IsFirstFault bytes n code) taken.many (framing_is_first bytes taken.rs (record { whole = length taken.rs; code = code }) read taken.both.ledger.good)

  -- nothing stands behind them
  pub all_taken_in : (calls : Calls) → IsRecording bytes taken.rs None → ((c : List Message) → ledgers.Shows c l → (calls.messages ≡ length c) × AreCalls c calls.list) → AreCallsOf bytes calls
  all_taken_in calls read are = record {
    messages = without_times taken.rs;
    good = good_is_whole bytes taken.rs read taken.both.ledger.good;
    are = calls_of_shown (without_times taken.rs) s l calls taken.both (are (without_times taken.rs) taken.both.ledger);
  }

-- bytes that do not begin as a capture
pub without_magic : (bytes : List ℕ) → (HasMagic bytes → ⊥) → IsFirstFault bytes 0 NO_MAGIC
without_magic bytes without = framing_is_first bytes [] (record { whole = 0; code = NO_MAGIC }) (reads_without bytes without) (λ i m below there. absurd (omega (arith, below)))
