-- Captures whose records differ in their times alone hold the same messages.
use Rattle.std.proofs.Common.{◌≡◌, ◌≢◌, ℕ, List, [], ◌++◌, length, take, drop, Option, Some, None, refl, sym, ap, subst, ◌∙◌, append_assoc}
use Rattle.std.specs.Prelude.{All}
use Rattle.std.specs.List.{flat_map}
use Rattle.std.proofs.lemmas.List.{append_cancel_left, append-nil, map-append, take-append-drop}
use Rattle.std.proofs.lemmas.List.Concat.{flat_map-append}
use Rattle.std.proofs.lemmas.List.Elements.{All-append, All-drop}
use Rattle.fa_capture.specs.declared.format.Format.{Format}
use Rattle.fa_capture.specs.declared.format.Format.TheVariants.{Timed}
use Rattle.fa_capture.specs.declared.fault.CaptureFault.{CaptureFault}
use Rattle.fa_capture.specs.Checks.{FirstFailure}
use Rattle.fa_capture.specs.Message.{Message, Recorded, without_times}
use Rattle.fa_capture.specs.Framing.{magic, IsTime, record_spelling, capture_spelling, counted_bytes, IsFramed}
use Rattle.fa_capture.specs.Reading.{IsInFormat, IsRecording, record_checks, TimesAreNotJudged, TimesAreKept}
use Rattle.fa_capture.proofs.ReadingLemmas.{IsSoFar, in_format, same_format, reads_whole, reads_fault, records_length}
use Rattle.fa_capture.proofs.FrontLemmas.{first_records}

-- records, and more behind them
spelled_both : (rs more : List Recorded) (rest : List ℕ) → capture_spelling Timed (rs ++ more) ++ rest ≡ capture_spelling Timed rs ++ (flat_map (record_spelling Timed) more ++ rest)
spelled_both rs more rest =
    let whole : capture_spelling Timed (rs ++ more) ≡ capture_spelling Timed rs ++ flat_map (record_spelling Timed) more =
    ap (λ (x : List ℕ). magic Timed ++ x) (flat_map-append (record_spelling Timed) rs more) ∙ sym (append_assoc (magic Timed) (flat_map (record_spelling Timed) rs) (flat_map (record_spelling Timed) more)) in
    ap (λ (x : List ℕ). x ++ rest) whole ∙ append_assoc (capture_spelling Timed rs) (flat_map (record_spelling Timed) more) rest

messages_both : (rs more : List Recorded) → without_times (rs ++ more) ≡ without_times rs ++ without_times more
messages_both rs more = map-append (λ (r : Recorded). r.message) rs more

module _ (rs others : List Recorded) (behind : List ℕ) (framed : IsFramed (without_times rs)) (times : All (λ r. IsTime Timed r.time) rs) (other_times : All (λ r. IsTime Timed r.time) others) (same : without_times rs ≡ without_times others)
    (held : List Recorded) (fault : Option CaptureFault) (r : IsRecording (capture_spelling Timed rs ++ behind) held fault) where
  abbrev pub bytes : List ℕ
  bytes = capture_spelling Timed rs ++ behind

  here : IsInFormat Timed bytes
  here = in_format Timed bytes rs behind refl

  -- what is held behind the first records
  abbrev pub more : List Recorded
  more = drop (length rs) held

  held_is : held ≡ rs ++ more
  held_is =
      let first : take (length rs) held ≡ rs = first_records Timed bytes behind rs held fault (record { framed = framed; times = times; spelled = refl }) r in
      sym (take-append-drop (length rs) held) ∙ ap (λ (x : List Recorded). x ++ more) first

  -- the other records, and what is held behind them
  abbrev pub instead : List Recorded
  instead = others ++ more

  pub same_messages : without_times held ≡ without_times instead
  same_messages = ap without_times held_is ∙ messages_both rs more ∙ ap (λ (x : List Message). x ++ without_times more) same ∙ sym (messages_both others more)

  pub as_many : length held ≡ length instead
  as_many = sym (records_length held) ∙ ap length same_messages ∙ records_length instead

  instead_so_far : (left : List ℕ) → bytes ≡ capture_spelling Timed held ++ left → IsSoFar Timed (capture_spelling Timed others ++ behind) instead left
  instead_so_far left spelled =
      let begins = r.records.spelled Timed here in
      let rest : behind ≡ flat_map (record_spelling Timed) more ++ left =
      append_cancel_left (capture_spelling Timed rs) behind (flat_map (record_spelling Timed) more ++ left) (spelled ∙ ap (λ (x : List Recorded). capture_spelling Timed x ++ left) held_is ∙ spelled_both rs more left) in
      record {
        framed = subst IsFramed same_messages r.records.framed;
        times = All-append (λ (r : Recorded). IsTime Timed r.time) others more other_times (All-drop (λ (r : Recorded). IsTime Timed r.time) (length rs) held begins.times);
        spelled = ap (λ (x : List ℕ). capture_spelling Timed others ++ x) rest ∙ sym (spelled_both others more left);
      }

  pub held_whole : (format : Format) → bytes ≡ capture_spelling format held → IsRecording (capture_spelling Timed others ++ behind) instead None
  held_whole format whole =
      let one : format ≡ Timed = same_format format Timed bytes (in_format format bytes held [] (whole ∙ sym (append-nil (capture_spelling format held)))) here in
      let all : bytes ≡ capture_spelling Timed held ++ [] = whole ∙ ap (λ (f : Format). capture_spelling f held) one ∙ sym (append-nil (capture_spelling Timed held)) in
      reads_whole Timed (capture_spelling Timed others ++ behind) instead (instead_so_far [] all)

  pub held_to_fault : (whole code : ℕ) (left : List ℕ) → whole ≡ length held → left ≢ [] → bytes ≡ capture_spelling Timed held ++ left
      → FirstFailure (record_checks Timed (length held) (counted_bytes (without_times held)) left) code → IsRecording (capture_spelling Timed others ++ behind) instead (Some (record { whole = whole; code = code }))
  held_to_fault whole code left is some spelled fails =
      let there : FirstFailure (record_checks Timed (length instead) (counted_bytes (without_times instead)) left) code =
      subst (λ (ms : List Message). FirstFailure (record_checks Timed (length instead) (counted_bytes ms) left) code) same_messages (subst (λ (n : ℕ). FirstFailure (record_checks Timed n (counted_bytes (without_times held)) left) code) as_many fails) in
      subst (λ (n : ℕ). IsRecording (capture_spelling Timed others ++ behind) instead (Some (record { whole = n; code = code }))) (sym (is ∙ as_many))
      (reads_fault Timed (capture_spelling Timed others ++ behind) left instead code (instead_so_far left spelled) some there)

pub times_are_not_judged : TimesAreNotJudged
times_are_not_judged rs others behind ms None framed times other_times same (held, is, r) = (
  instead rs others behind framed times other_times same held None r,
  sym (same_messages rs others behind framed times other_times same held None r) ∙ is,
  held_whole rs others behind framed times other_times same held None r r.ended.0 r.ended.1,
)
times_are_not_judged rs others behind ms (Some f) framed times other_times same (held, is, r) =
    let there = r.ended.2 Timed (in_format Timed (capture_spelling Timed rs ++ behind) rs behind refl) in (
      instead rs others behind framed times other_times same held (Some f) r,
      sym (same_messages rs others behind framed times other_times same held (Some f) r) ∙ is,
      held_to_fault rs others behind framed times other_times same held (Some f) r f.whole f.code there.0 r.ended.0 there.1 there.2 there.3,
    )

pub times_are_kept : TimesAreKept
times_are_kept bytes migrated timed m =
    let format = m.hold.ended.0 in
    let whole = m.hold.ended.1 in
    let one : format ≡ Timed = same_format format Timed bytes (in_format format bytes m.records [] (whole ∙ sym (append-nil (capture_spelling format m.records)))) timed in
    m.spelled ∙ sym (whole ∙ ap (λ (f : Format). capture_spelling f m.records) one)
