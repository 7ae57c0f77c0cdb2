-- What the two messages of a tree request say together.
use Rattle.std.specs.Prelude.{◌≡◌, ℕ, List, [], ◌∷◌, Option, None, Some}
use Rattle.fa_bodies.specs.Requests.{PlainRequest, IsRequest}
use Rattle.fa_bodies.specs.Replies.{PlainReply, IsReply}
use Rattle.fa_ledger.specs.Operations.{PlainOperation, operation_of}

-- these bytes are this reply to the request; no bytes are no reply
abbrev pub IsReplyIfAny : PlainRequest → List ℕ → Option PlainReply → Type 0
IsReplyIfAny r [] None = Unit {0}
IsReplyIfAny r [] (Some reply) = ⊥
IsReplyIfAny r (b ∷ bytes) None = ⊥
IsReplyIfAny r (b ∷ bytes) (Some reply) = IsReply r (b ∷ bytes) reply

-- The first bytes are a tree request, the others, if there are some, the reply to it, and this is what it asks for, with what came of it.
pub record IsOperationSaid (request reply : List ℕ) (operation : PlainOperation) : Type 0 where
  pub asked : PlainRequest
  pub answer : Option PlainReply
  pub is : IsRequest request asked
  pub answers : IsReplyIfAny asked reply answer
  pub does : operation_of asked.body answer ≡ Some operation

-- The operation that two messages say, with the fact that they say it. There is at most one (`OperationSaid-prop`).
abbrev pub OperationSaid : List ℕ → List ℕ → Type 0
OperationSaid request reply = (operation : PlainOperation) × ∥ IsOperationSaid request reply operation ∥₁
