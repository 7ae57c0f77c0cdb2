-- What a session that shows some messages knows of a request that follows them.
use Rattle.std.proofs.Common.{◌≡◌, ℕ, true, List, [], Option, Some, None, is_some, refl, sym, ap, subst, ◌∙◌, inl, inr, length}
use Rattle.fa_capture.specs.declared.codes.TheConstants.{UNIQUE_IN_USE}
use Rattle.fa_capture.specs.Checks.{FirstFailure, AllHold}
use Rattle.fa_capture.specs.Message.{Message}
use Rattle.fa_bodies.specs.Requests.{PlainRequest}
use Rattle.fa_session.specs.Answers.{IsOutstanding}
use Rattle.fa_session.specs.Rules.{IsInit, IsInterrupt, IsInitAnswered, IsUniqueFree}
use Rattle.fa_session.specs.Plain.{PlainSession, PlainWaiting}
use Rattle.fa_session.specs.Shows.{Shows, IsNegotiated}
use Rattle.fa_session.specs.parts.Steps.{request_checked, waiting_for}

-- a session that counts messages shows some
pub some_came : (c : List Message) (s : PlainSession) → Shows c s → (s.messages ≡ 0 → ⊥) → c ≡ [] → ⊥
some_came c s shows some none = some (shows.counted ∙ ap length none)

-- where flags are settled, INIT was answered
pub init_answered : (c : List Message) (flags : Option ℕ) → IsNegotiated c flags → is_some flags ≡ true → IsInitAnswered c
init_answered c None settled some = absurd cc
init_answered c (Some flags) settled some =
    let replied = settled.5 in (
      settled.0,
      settled.1,
      settled.2,
      (replied.0, replied.1, replied.2),
      subst IsInit (sym settled.6) tt,
    )

-- A request other than INIT that keeps the rules but for that of its unique.
pub record IsHeaded (c : List Message) (s : PlainSession) (r : PlainRequest) : Type 0 where
  pub shows : Shows c s
  pub unique : r.unique ≡ 0 → ⊥
  pub other : IsInit r.body → ⊥
  pub some : s.messages ≡ 0 → ⊥
  pub answered : is_some s.negotiated ≡ true

-- its unique is free
pub headed_passes : (c : List Message) (s : PlainSession) (r : PlainRequest) → IsHeaded c s r → IsUniqueFree c r → AllHold (request_checked c r)
headed_passes c s r headed free = (
  headed.unique,
  (
    (λ none. absurd (some_came c s headed.shows headed.some none)),
    ((λ init. absurd (headed.other init)), ((λ _. init_answered c s.negotiated headed.shows.settled headed.answered), (free, tt))),
  ),
)

-- its unique is in use
pub headed_in_use : (c : List Message) (s : PlainSession) (r : PlainRequest) → IsHeaded c s r → (IsUniqueFree c r → ⊥) → FirstFailure (request_checked c r) UNIQUE_IN_USE
headed_in_use c s r headed used =
    inr (
      headed.unique,
      inr (
        (λ none. absurd (some_came c s headed.shows headed.some none)),
        inr (
          (λ init. absurd (headed.other init)),
          inr ((λ _. init_answered c s.negotiated headed.shows.settled headed.answered), inl (used, refl)),
        ),
      ),
    )

-- an outstanding request is found by its unique
pub outstanding_found : (c : List Message) (s : PlainSession) (p : ℕ) (r : PlainRequest) (unique : ℕ) → Shows c s → IsOutstanding c p r → r.unique ≡ unique
    → waiting_for s unique ≡ Some (record { at = p; request = r })
outstanding_found c s p r unique shows outstanding same = (shows.outstanding unique (record { at = p; request = r })).1 (outstanding, same)

-- where another request is found, it is that one
pub outstanding_is : (c : List Message) (s : PlainSession) (p : ℕ) (r : PlainRequest) (w : PlainWaiting) (unique : ℕ) → Shows c s → waiting_for s unique ≡ Some w → IsOutstanding c p r → r.unique ≡ unique
    → (p ≡ w.at) × (r ≡ w.request)
outstanding_is c s p r w unique shows is outstanding same =
    let found : waiting_for s unique ≡ Some (record { at = p; request = r }) = outstanding_found c s p r unique shows outstanding same in
    let one : ◌≡◌ {A = PlainWaiting} (record { at = p; request = r }) w = cc (found, is) in
    (ap (λ (x : PlainWaiting). x.at) one, ap (λ (x : PlainWaiting). x.request) one)

-- no request is found with the unique
pub free_of_none : (c : List Message) (s : PlainSession) (r : PlainRequest) → Shows c s → waiting_for s r.unique ≡ None → IsUniqueFree c r
free_of_none c s r shows none p waiting outstanding same =
    let found : waiting_for s r.unique ≡ Some (record { at = p; request = waiting }) = outstanding_found c s p waiting r.unique shows outstanding same in
    absurd cc

-- the one that is found may be replaced
pub free_of_replaced : (c : List Message) (s : PlainSession) (r : PlainRequest) (w : PlainWaiting) → Shows c s → waiting_for s r.unique ≡ Some w → IsInterrupt r × IsInterrupt w.request → IsUniqueFree c r
free_of_replaced c s r w shows is both p waiting outstanding same =
    (both.0, subst IsInterrupt (sym (outstanding_is c s p waiting w r.unique shows is outstanding same).1) both.1)

-- the one that is found may not be replaced
pub used_by_found : (c : List Message) (s : PlainSession) (r : PlainRequest) (w : PlainWaiting) → Shows c s → waiting_for s r.unique ≡ Some w → (IsInterrupt r × IsInterrupt w.request → ⊥) → IsUniqueFree c r → ⊥
used_by_found c s r w shows is other free =
    let found = (shows.outstanding r.unique w).0 is in other (free w.at w.request found.0 found.1)
