-- The packets that come with a piece of a stream, taken one after the other.
use Rattle.std.proofs.Common.{◌≡◌, ℕ, ◌<◌, List, [], ◌∷◌, ◌++◌, length, Some, sym, subst, ap, ◌∙◌, append_assoc, arith}
use Rattle.std.proofs.lemmas.List.{append-nil, length-append}
use Rattle.fa_capture.specs.declared.fault.CaptureFault.{CaptureFault}
use Rattle.fa_capture.specs.declared.limits.TheConstants.{MAX_MESSAGES}
use Rattle.fa_capture.specs.Incoming.{HasCome}
use Rattle.fa_capture.specs.Message.{Message, Recorded, without_times}
use Rattle.fa_capture.specs.Pieces.{IsDecided, IsOpen}
use Rattle.fa_capture.specs.Reading.{IsRecording}
use Rattle.fa_capture.proofs.CallerLemmas.{messages_on, records_length, reading_is_there, records_stay, one_recording}
use Rattle.fa_session.specs.Plain.{PlainSession}
use Rattle.fa_ledger.specs.Passing.{IsFirstFault}
use Rattle.fa_ledger.specs.Standing.{PlainStanding}
use Rattle.fa_ledger.proofs.CallerLemmas.{refused_is_first, framing_is_first}
use Rattle.fa_watch.specs.declared.message.MessageError.TheVariants.{Refused}
use Rattle.fa_watch.specs.declared.stream.Stream.{Stream}
use Rattle.fa_watch.specs.declared.watching.Seen.TheVariants.{Fault}
use Rattle.fa_watch.specs.Refusals.{IsRefusal}
use Rattle.fa_watch.specs.parts.Streams.{AreShown, IsTaking, HasBeen, IsReadFurther, IsSeenAtOnce}

-- What the loop keeps: of the records that came with a piece some were taken behind those before.
pub record TakesOn (bytes : List ℕ) (rs left : List Recorded) (stream : Stream) (session : PlainSession) : Type 0 where
  pub more : List Recorded
  pub taking : IsTaking bytes (rs ++ more) left stream session

-- none was taken
pub takes_none : (bytes : List ℕ) (rs left : List Recorded) (stream : Stream) (session : PlainSession) → HasCome bytes (rs ++ left) stream.incoming → AreShown (without_times rs) session stream.standing
    → TakesOn bytes rs left stream session
takes_none bytes rs left stream session come shown = record {
  more = [];
  taking = subst (λ (x : List Recorded). IsTaking bytes x left stream session) (sym (append-nil rs)) (record { come = come; shown = shown });
}

module _ (bytes : List ℕ) (rs left rest : List Recorded) (r : Recorded) (stream : Stream) (session : PlainSession) (next : left ≡ r ∷ rest) (on : TakesOn bytes rs left stream session) where
  -- those that were taken
  abbrev pub taken : List Recorded
  taken = rs ++ on.more

  read : IsRecording bytes (taken ++ r ∷ rest) stream.incoming.fault
  read = subst (λ (x : List Recorded). IsRecording bytes (taken ++ x) stream.incoming.fault) next on.taking.come.recording

  -- a message more may come
  pub few : length (without_times taken) < MAX_MESSAGES
  few = omega (arith, read.records.framed.count, records_length (taken ++ r ∷ rest), length-append taken (r ∷ rest), records_length taken)

  -- it is shown
  pub takes_one : (stood : PlainStanding) (then : PlainSession) → AreShown (without_times taken ++ r.message ∷ []) then stood → TakesOn bytes rs rest (record { incoming = stream.incoming; standing = stood }) then
  takes_one stood then shown = record {
    more = on.more ++ r ∷ [];
    taking = record {
      come = subst (λ (x : List Recorded). HasCome bytes x stream.incoming)
          (ap (λ (x : List Recorded). taken ++ x) next ∙ sym (append_assoc taken (r ∷ []) rest) ∙ ap (λ (x : List Recorded). x ++ rest) (append_assoc rs on.more (r ∷ []))) on.taking.come;
      shown = subst (λ (c : List Message). AreShown c then stood)
          (sym (messages_on taken [] r) ∙ ap (λ (x : List Recorded). without_times x) (append_assoc rs on.more (r ∷ []))) shown;
    };
  }

  -- or refused: the first fault of the bytes, whatever follows
  pub refused_told : (at code : ℕ) → at ≡ length (without_times taken) → IsRefusal (without_times taken) r.message (Refused code) → IsSeenAtOnce bytes (Fault at code)
  refused_told at code is refusal =
      let good = on.taking.shown.behind.good in
      let place : length taken ≡ at = sym (records_length taken) ∙ sym is in
      record {
        now = subst (λ (n : ℕ). IsFirstFault bytes n code) place (refused_is_first bytes taken rest r stream.incoming.fault code read good refusal);
        stays = λ behind small.
            let there = reading_is_there (bytes ++ behind) small in
            let records : List Recorded = there.2.0 in
            let stay = records_stay bytes behind (taken ++ r ∷ rest) records stream.incoming.fault there.1 read there.2.2 in
            let longer : records ≡ taken ++ r ∷ (rest ++ stay.0) = stay.1 ∙ append_assoc taken (r ∷ rest) stay.0 in
            subst (λ (n : ℕ). IsFirstFault (bytes ++ behind) n code) place
            (refused_is_first (bytes ++ behind) taken (rest ++ stay.0) r there.1 code (subst (λ (x : List Recorded). IsRecording (bytes ++ behind) x there.1) longer there.2.2) good refusal);
      }

-- ---- all are taken

module _ (bytes : List ℕ) (rs left : List Recorded) (stream : Stream) (session : PlainSession) (none : left ≡ []) (on : TakesOn bytes rs left stream session) where
  been : HasBeen bytes (rs ++ on.more) stream session
  been = record {
    come = subst (λ (x : List Recorded). HasCome bytes x stream.incoming) (ap (λ (x : List Recorded). (rs ++ on.more) ++ x) none ∙ append-nil (rs ++ on.more)) on.taking.come;
    shown = on.taking.shown;
  }

  pub goes_on : IsOpen bytes → IsReadFurther bytes rs stream session
  goes_on opens = record { more = on.more; been = been; opens = opens }

  -- a framing fault that is decided behind them
  pub framing_told : (fault : CaptureFault) → IsDecided bytes fault → IsSeenAtOnce bytes (Fault fault.whole fault.code)
  framing_told fault decided =
      let good = been.shown.behind.good in
      let now : IsRecording bytes decided.records (Some fault) = subst (λ (b : List ℕ). IsRecording b decided.records (Some fault)) (append-nil bytes) (decided.stays []) in
      let same : rs ++ on.more ≡ decided.records = (one_recording bytes (rs ++ on.more) decided.records stream.incoming.fault (Some fault) been.come.recording now).0 in
      record {
        now = framing_is_first bytes (rs ++ on.more) fault (subst (λ (x : List Recorded). IsRecording bytes x (Some fault)) (sym same) now) good;
        stays = λ behind small. framing_is_first (bytes ++ behind) (rs ++ on.more) fault (subst (λ (x : List Recorded). IsRecording (bytes ++ behind) x (Some fault)) (sym same) (decided.stays behind)) good;
      }
