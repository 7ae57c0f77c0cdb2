-- What two messages say is one operation.
use Rattle.std.specs.Prelude.{◌≡◌, ℕ, List, [], ◌∷◌, Option, None, Some}
use Rattle.std.proofs.Common.{sym, subst, ap, refl, ◌∙◌}
use Rattle.std.proofs.Math.Logic.{∥∥₁_elim}
use Rattle.std.proofs.lemmas.Option.{same_Some}
use Rattle.std.proofs.Props.{props}
use mathlib.Core.HLevel.{is_prop→PathP}
use Rattle.fa_bodies.specs.Requests.{PlainRequest}
use Rattle.fa_bodies.specs.Replies.{PlainReply}
use Rattle.fa_bodies.proofs.CallerLemmas.{request_is_one, reply_is_one}
use Rattle.fa_ledger.specs.Operations.{PlainOperation, operation_of}
use Rattle.fa_ledger.specs.Said.{IsReplyIfAny, IsOperationSaid, OperationSaid}

-- bytes are at most one reply, if any
pub reply_one : (r : PlainRequest) (reply : List ℕ) (a b : Option PlainReply) → IsReplyIfAny r reply a → IsReplyIfAny r reply b → a ≡ b
reply_one r [] None None x y = refl
reply_one r (c ∷ bytes) (Some a) (Some b) x y = ap (λ (reply : PlainReply). Some reply) (reply_is_one r (c ∷ bytes) a b x y)
reply_one r [] (Some a) b x y = absurd x
reply_one r [] None (Some b) x y = absurd y
reply_one r (c ∷ bytes) None b x y = absurd x
reply_one r (c ∷ bytes) (Some a) None x y = absurd y

pub say_one : (request reply : List ℕ) (a b : PlainOperation) → IsOperationSaid request reply a → IsOperationSaid request reply b → a ≡ b
say_one request reply a b x y =
    let asked : x.asked ≡ y.asked = request_is_one request x.asked y.asked x.is y.is in
    let answer : x.answer ≡ y.answer = reply_one y.asked reply x.answer y.answer (subst (λ (r : PlainRequest). IsReplyIfAny r reply x.answer) asked x.answers) y.answers in
    same_Some a b (sym x.does ∙ ap (λ (r : PlainRequest). operation_of r.body x.answer) asked ∙ ap (λ (s : Option PlainReply). operation_of y.asked.body s) answer ∙ y.does)

-- two proofs that two operations are one are one
pub operation_set : IsSet PlainOperation
operation_set = hlevel props

-- so there is one, with one such fact
pub OperationSaid-prop : (request reply : List ℕ) → IsProp (OperationSaid request reply)
OperationSaid-prop request reply a b =
    let same : a.0 ≡ b.0 = ∥∥₁_elim a.1 (operation_set a.0 b.0) (λ x. ∥∥₁_elim b.1 (operation_set a.0 b.0) (λ y. say_one request reply a.0 b.0 x y)) in
    λ i. (same i, is_prop→PathP {0} (λ j. ∥ IsOperationSaid request reply (same j) ∥₁) (λ j. said_prop (same j)) a.1 b.1 i)
  where
    said_prop : (operation : PlainOperation) → IsProp ∥ IsOperationSaid request reply operation ∥₁
    said_prop operation = hlevel
