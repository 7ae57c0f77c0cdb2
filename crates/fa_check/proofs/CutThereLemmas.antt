-- Of good messages an order has never no cut: their calls tell it.
use Rattle.std.proofs.Common.{◌≡◌, ◌⊎◌, ℕ, ◌<◌, ◌≤◌, List, [], ◌∷◌, ◌++◌, Option, None, Some, refl, sym, ap, subst, ◌∙◌, inl, inr, arith}
use Rattle.std.specs.Prelude.{All, map, slice_get}
use Rattle.std.proofs.lemmas.Bool.{cases_lt}
use Rattle.std.proofs.lemmas.List.Elements.{All-nil, All-cons}
use Rattle.fa_capture.specs.Message.{Message}
use Rattle.fa_capture.proofs.CallerLemmas.{contains_decided}
use Rattle.fa_session.specs.Answers.{IsAnsweredBy}
use Rattle.fa_session.specs.Events.PlainEvent.{Answered}
use Rattle.fa_session.proofs.CallerLemmas.{answered_once}
use Rattle.fa_ledger.specs.declared.operation.Outcome.{Outcome}
use Rattle.fa_ledger.specs.declared.operation.Outcome.TheVariants.{Fails, Succeeds, Unanswered}
use Rattle.fa_ledger.specs.Kinds.{IsFailure, OnlyReads, KeepsTree}
use Rattle.fa_ledger.specs.Operations.{PlainOperation, ended}
use Rattle.fa_ledger.specs.Operations.PlainAction.{Lookup, Getattr, Readlink, Read, Opendir}
use Rattle.fa_ledger.specs.Operations.PlainOperation.{Lists, Acts}
use Rattle.fa_ledger.specs.Calls.{PlainAnswer, PlainCall, IsAnswerOf, HasAnswer, AreCalls}
use Rattle.fa_ledger.proofs.CallerLemmas.{calls_are_there, call_at, call_with, message_of, request_event}
use Rattle.fa_order.specs.declared.entry.Entry.{Entry}
use Rattle.fa_check.specs.Orders.{IsTreeRequestAt}
use Rattle.fa_check.specs.Cuts.{IsAnsweredLate, wrote_without, Goes, Stays, AreLeft, IsAnsweredEntry, IsCut}
use Rattle.fa_check.specs.Laws.{CutIsThere}
use Rattle.fa_check.proofs.MessageLemmas.{call_is_tree, call_answered, call_unanswered}

-- ---- what is decided

reading_or_not : (o : PlainOperation) → OnlyReads o ⊎ (OnlyReads o → ⊥)
reading_or_not (Lists l) = inl tt
reading_or_not (Acts (Lookup name o)) = inl tt
reading_or_not (Acts (Getattr o)) = inl tt
reading_or_not (Acts (Readlink o)) = inl tt
reading_or_not (Acts (Read offset size o)) = inl tt
reading_or_not (Acts (Opendir o)) = inl tt
reading_or_not other = inr (λ reads. reads)

failure_or_not : (e : Outcome (Unit {0})) → IsFailure e ⊎ (IsFailure e → ⊥)
failure_or_not (Fails error) = inl tt
failure_or_not (Succeeds success) = inr (λ fails. fails)
failure_or_not Unanswered = inr (λ fails. fails)

leaves_or_not : (o : PlainOperation) → KeepsTree o ⊎ (KeepsTree o → ⊥)
leaves_or_not o =
    elim (failure_or_not (ended o)) [
      | inl fails ↦ inl (inl fails)
      | inr success ↦ elim (reading_or_not o) [
        | inl reads ↦ inl (inr reads)
        | inr changes ↦ inr (λ leaves. elim leaves [ inl fails ↦ success fails | inr reads ↦ changes reads ])
      ]
    ]

-- ---- each entry

module _ (c : List Message) (calls : List PlainCall) (are : AreCalls c calls) (m : ℕ) where
  -- the request at p is a call, or no tree request
  call_or_none : (p : ℕ) → ((place : ℕ) × (call : PlainCall) × (slice_get calls place ≡ Some call) × (call.asked ≡ p)) ⊎ (IsTreeRequestAt c p → ⊥)
  call_or_none p =
      elim (contains_decided (map (λ (call : PlainCall). call.asked) calls) p) [
        | inl has ↦ inl (call_with calls p has)
        | inr lacks ↦ inr (λ tree. lacks (are.exact.complete p tree.0 (request_event c are.events are.are p tree.0 tree.1) tree.2))
      ]

  -- a call is answered before, late or never
  late_of : (place : ℕ) (call : PlainCall) (answer : PlainAnswer) → slice_get calls place ≡ Some call → call.answer ≡ Some answer → m ≤ answer.at → IsAnsweredLate c m call.asked call.operation
  late_of place call answer there has late =
      let is = call_at are.events calls are.exact.each place call there in
      let of : IsAnswerOf are.events is.request call answer = subst (HasAnswer are.events is.request call) has is.answered in
      let message = message_of c are.events are.are answer.at (Answered answer.at call.asked is.request of.reply) of.there in
      (answer.at, is.request, of.reply, (message.0, message.1, message.2.1, message.2.2), late, of.does)

  only_answer : (place : ℕ) (call : PlainCall) (answer : PlainAnswer) → slice_get calls place ≡ Some call → call.answer ≡ Some answer → (q : ℕ) → IsAnsweredBy c call.asked q → answer.at ≡ q
  only_answer place call answer there has q by =
      let own = call_answered c calls are place call answer there has in
      answered_once c answer.at q call.asked own.0 by.0 own.1 by.1

  -- so its entry stays or goes
  module _ (place : ℕ) (call : PlainCall) (e : Entry) (there : slice_get calls place ≡ Some call) (at : call.asked ≡ e.at) where
    call_tree : IsTreeRequestAt c e.at
    call_tree = subst (IsTreeRequestAt c) at (call_is_tree c calls are place call there)

    asked_back : (q : ℕ) → IsAnsweredBy c e.at q → IsAnsweredBy c call.asked q
    asked_back q answered = subst (λ (n : ℕ). IsAnsweredBy c n q) (sym at) answered

    pub open_stays : call.answer ≡ None → Stays c m e e
    open_stays none = (call_tree, inl ((λ q answered. absurd (call_unanswered c calls are place call there none q (asked_back q answered))), refl))

    pub open_not_done : call.answer ≡ None → IsAnsweredEntry c m e → ⊥
    open_not_done none done = call_unanswered c calls are place call there none done.1.0 (asked_back done.1.0 done.1.1)

    module _ (answer : PlainAnswer) (has : call.answer ≡ Some answer) where
      pub early_stays : answer.at < m → Stays c m e e
      early_stays early = (call_tree, inl ((λ q answered. let same = only_answer place call answer there has q (asked_back q answered) in omega (arith, same, early)), refl))

      pub early_done : answer.at < m → IsAnsweredEntry c m e
      early_done early =
          (call_tree, (answer.at, subst (λ (n : ℕ). IsAnsweredBy c n answer.at) at (call_answered c calls are place call answer there has), early))

      pub late_not_done : m ≤ answer.at → IsAnsweredEntry c m e → ⊥
      late_not_done late done =
          let same = only_answer place call answer there has done.1.0 (asked_back done.1.0 done.1.1) in
          let near = done.1.2 in
          omega (arith, same, near, late)

      entry_late : m ≤ answer.at → IsAnsweredLate c m e.at call.operation
      entry_late late = subst (λ (n : ℕ). IsAnsweredLate c m n call.operation) at (late_of place call answer there has late)

      pub late_goes : m ≤ answer.at → KeepsTree call.operation → Goes c m e
      late_goes late leaves = inr (call.operation, entry_late late, leaves)

      pub late_stays : m ≤ answer.at → (KeepsTree call.operation → ⊥) → Stays c m e (record { at = e.at; wrote = wrote_without call.operation e.wrote })
      late_stays late keeps = (call_tree, inr (call.operation, entry_late late, keeps, refl))

    call_stays : Goes c m e ⊎ ((left : Entry) × Stays c m e left)
    call_stays = by call.answer refl
      where
        by : (found : Option PlainAnswer) → call.answer ≡ found → Goes c m e ⊎ ((left : Entry) × Stays c m e left)
        by None none = inr (e, open_stays none)
        by (Some answer) has =
            elim (cases_lt answer.at m) [
              | inl early ↦ inr (e, early_stays answer has early)
              | inr late ↦ elim (leaves_or_not call.operation) [
                | inl leaves ↦ inl (late_goes answer has late leaves)
                | inr keeps ↦ inr (record { at = e.at; wrote = wrote_without call.operation e.wrote }, late_stays answer has late keeps)
              ]
            ]

    call_done : IsAnsweredEntry c m e ⊎ (IsAnsweredEntry c m e → ⊥)
    call_done = by call.answer refl
      where
        by : (found : Option PlainAnswer) → call.answer ≡ found → IsAnsweredEntry c m e ⊎ (IsAnsweredEntry c m e → ⊥)
        by None none = inr (open_not_done none)
        by (Some answer) has =
            elim (cases_lt answer.at m) [
              | inl early ↦ inl (early_done answer has early)
              | inr late ↦ inr (late_not_done answer has late)
            ]

  goes_or_stays : (e : Entry) → Goes c m e ⊎ ((left : Entry) × Stays c m e left)
  goes_or_stays e =
      elim (call_or_none e.at) [
        | inl call ↦ call_stays call.0 call.1 e call.2 call.3
        | inr none ↦ inl (inl none)
      ]

  -- an entry is done before m, or is not
  done_or_not : (e : Entry) → IsAnsweredEntry c m e ⊎ (IsAnsweredEntry c m e → ⊥)
  done_or_not e =
      elim (call_or_none e.at) [
        | inl call ↦ call_done call.0 call.1 e call.2 call.3
        | inr none ↦ inr (λ done. none done.0)
      ]

  -- ---- the whole order

  left_there : (es : List Entry) → (left : List Entry) × AreLeft c m es left
  left_there [] = ([], refl)
  left_there (e ∷ es) =
      let rest = left_there es in
      elim (goes_or_stays e) [
        | inl goes ↦ (rest.0, inl (goes, rest.1))
        | inr stays ↦ (stays.0 ∷ rest.0, inr (stays.0, rest.0, refl, stays.1, rest.1))
      ]

  -- the front and what stands behind it
  abbrev IsParted : List Entry → Type 0
  IsParted es =
      (front behind : List Entry) × (es ≡ front ++ behind) × ((front ≡ []) ⊎ ((earlier : List Entry) × (e : Entry) × (front ≡ earlier ++ e ∷ []) × IsAnsweredEntry c m e))
      × All (λ e. IsAnsweredEntry c m e → ⊥) behind

  one_more : (e : Entry) (es : List Entry) → IsParted es → IsParted (e ∷ es)
  one_more e es (front, behind, parts, inr last, none) =
      (e ∷ front, behind, ap (λ (xs : List Entry). e ∷ xs) parts, inr (e ∷ last.0, last.1, ap (λ (xs : List Entry). e ∷ xs) last.2, last.3), none)
  one_more e es (front, behind, parts, inl empty, none) =
      let rest : es ≡ behind = parts ∙ ap (λ (xs : List Entry). xs ++ behind) empty in
      elim (done_or_not e) [
        | inl done ↦ (e ∷ [], behind, ap (λ (xs : List Entry). e ∷ xs) rest, inr ([], e, refl, done), none)
        | inr open_one ↦ ([], e ∷ behind, ap (λ (xs : List Entry). e ∷ xs) rest, inl refl, All-cons (λ x. IsAnsweredEntry c m x → ⊥) e behind open_one none)
      ]

  parted : (es : List Entry) → IsParted es
  parted [] = ([], [], refl, inl refl, All-nil (λ x. IsAnsweredEntry c m x → ⊥))
  parted (e ∷ es) = one_more e es (parted es)

  pub cut_there : (es : List Entry) → (cut : List Entry) × IsCut c m es cut
  cut_there es =
      let parts = parted es in
      let left = left_there parts.0 in
      (left.0, record { front = parts.0; behind = parts.1; parts = parts.2; last = parts.3; none = parts.4; left = left.1 })

pub cut_is_there : CutIsThere
cut_is_there c m es good none = calls_are_there c good (λ calls are. let found = cut_there c calls are m es in none found.0 found.1)
