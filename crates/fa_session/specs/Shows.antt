-- What a session shows of some messages.
use Rattle.std.specs.Prelude.{◌≡◌, ◌↔◌, ℕ, List, length, map, Option, None, Some}
use Rattle.std.specs.Int.RustNames.{bit_and}
use Rattle.std.specs.List.Sorted.{IsStrictlyIncreasing}
use Rattle.std.specs.Ordering.{nat_cmp}
use Rattle.std.specs.FinMap.{find}
use Rattle.fa_capture.specs.Message.{Message}
use Rattle.fa_bodies.specs.declared.init.InitIn.{InitIn}
use Rattle.fa_bodies.specs.declared.init.Negotiated.{Negotiated}
use Rattle.fa_bodies.specs.Flags.{init_bits}
use Rattle.fa_bodies.specs.Requests.{PlainRequest}
use Rattle.fa_bodies.specs.Requests.PlainBody.{Init}
use Rattle.fa_bodies.specs.Replies.PlainReply.{InitAnswer}
use Rattle.fa_session.specs.Answers.{IsOutstanding, IsRepliedAt}
use Rattle.fa_session.specs.Rules.{IsInitAnswered}
use Rattle.fa_session.specs.Allowed.{EachAllowed}
use Rattle.fa_session.specs.Plain.{PlainSession, PlainWaiting}

-- These are the flags that both sides set, where INIT was answered among these messages, and None where it was not.
abbrev pub IsNegotiated : List Message → Option ℕ → Type 0
IsNegotiated c None = IsInitAnswered c → ⊥
IsNegotiated c (Some flags) =
    (q p : ℕ) × (r : PlainRequest) × (i : InitIn) × (n : Negotiated)
    × IsRepliedAt c q p r (InitAnswer n) × (r.body ≡ Init i) × (flags ≡ bit_and (init_bits i.flags) (init_bits n.flags))

-- The session shows these messages: their number, the flags that INIT settled, and the map from the uniques of the
-- outstanding requests to these, each with its message number. The messages are all allowed.
pub record Shows (c : List Message) (s : PlainSession) : Type 0 where
  pub allowed : EachAllowed c
  pub counted : s.messages ≡ length c
  pub settled : IsNegotiated c s.negotiated
  pub outstanding : (unique : ℕ) (w : PlainWaiting)
      → (find nat_cmp unique s.waiting ≡ Some w) ↔ (IsOutstanding c w.at w.request × (w.request.unique ≡ unique))
  pub rising : IsStrictlyIncreasing (map (λ e. e.0) s.waiting)
