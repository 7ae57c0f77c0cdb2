-- What the private steps of a session tell: the checks of what was read, and what is noted of a message.
use Rattle.std.specs.Prelude.{◌≡◌, ℕ, ◌+◌, cond, eqb, List, [], ◌∷◌, map, Option, None, Some}
use Rattle.std.specs.Int.RustNames.{bit_and}
use Rattle.std.specs.List.Sorted.{IsStrictlyIncreasing}
use Rattle.std.specs.Option.{option_or}
use Rattle.std.specs.Ordering.{nat_cmp}
use Rattle.std.specs.FinMap.{find}
use Rattle.fa_capture.specs.declared.codes.TheConstants.{VERSION, NEGOTIATED_FLAGS}
use Rattle.fa_capture.specs.Checks.{checks_of}
use Rattle.fa_capture.specs.Message.{Message}
use Rattle.fa_bodies.specs.declared.init.InitIn.{InitIn}
use Rattle.fa_bodies.specs.declared.init.Negotiated.{Negotiated}
use Rattle.fa_bodies.specs.Flags.{init_bits}
use Rattle.fa_bodies.specs.Requests.{PlainRequest, PlainBody, MayBeAnswered}
use Rattle.fa_bodies.specs.Requests.PlainBody.{Init}
use Rattle.fa_bodies.specs.Replies.{PlainReply}
use Rattle.fa_bodies.specs.Replies.PlainReply.{InitAnswer}
use Rattle.fa_session.specs.Rules.{IsVersionRight, AreFlagsRight}
use Rattle.fa_session.specs.Allowed.{request_rules, reply_rules}
use Rattle.fa_session.specs.Plain.{PlainSession, PlainWaiting}

-- the rules of a request that was read, as checks
abbrev pub request_checked : List Message → PlainRequest → List (ℕ × Type 0)
request_checked before r = checks_of (λ Such. Such r) (request_rules before)

-- the rules of a reply that was read, as checks
abbrev pub reply_checked : PlainRequest → PlainReply → List (ℕ × Type 0)
reply_checked r reply = checks_of (λ Such. Such r reply) reply_rules

-- the rules of a success of INIT, as checks
abbrev pub init_checked : InitIn → Negotiated → List (ℕ × Type 0)
init_checked i n = (VERSION, IsVersionRight (Init i) (InitAnswer n)) ∷ (NEGOTIATED_FLAGS, AreFlagsRight (Init i) (InitAnswer n)) ∷ []

-- the flags that both sides set, where a reply answers INIT
abbrev pub flags_of : PlainBody → PlainReply → Option ℕ
flags_of (Init i) (InitAnswer n) = Some (bit_and (init_bits i.flags) (init_bits n.flags))
flags_of other reply = None

-- the outstanding request with this unique
abbrev pub waiting_for : PlainSession → ℕ → Option PlainWaiting
waiting_for s unique = find nat_cmp unique s.waiting

-- the uniques of the outstanding requests
abbrev pub uniques : PlainSession → List ℕ
uniques s = map (λ e. e.0) s.waiting

-- Memory is wanted for a request: it may be answered, and no outstanding request has its unique.
abbrev pub IsMemoryWanted : PlainSession → PlainRequest → Type 0
IsMemoryWanted s r = MayBeAnswered r.body × (waiting_for s r.unique ≡ None)

-- the one more message is a request, which is outstanding from now on if it may be answered
pub record NotesRequest (old new : PlainSession) (r : PlainRequest) : Type 0 where
  pub counted : new.messages ≡ old.messages + 1
  pub settled : new.negotiated ≡ old.negotiated
  pub kept : MayBeAnswered r.body → (unique : ℕ)
      → waiting_for new unique ≡ cond (eqb unique r.unique) (Some (record { at = old.messages; request = r })) (waiting_for old unique)
  pub rising : MayBeAnswered r.body → IsStrictlyIncreasing (uniques new)
  pub forgotten : (MayBeAnswered r.body → ⊥) → new.waiting ≡ old.waiting

-- the one more message is the answer of the request with this unique, with these flags if the request is INIT
pub record NotesReply (old new : PlainSession) (answered : ℕ) (flags : Option ℕ) : Type 0 where
  pub counted : new.messages ≡ old.messages + 1
  pub settled : new.negotiated ≡ option_or flags old.negotiated
  pub removed : (unique : ℕ) → waiting_for new unique ≡ cond (eqb unique answered) None (waiting_for old unique)
  pub rising : IsStrictlyIncreasing (uniques new)

-- the one more message is a notification
abbrev pub noticed : PlainSession → PlainSession
noticed old = record { messages = old.messages + 1; negotiated = old.negotiated; waiting = old.waiting }
