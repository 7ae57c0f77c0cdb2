-- A request that waits, read again.
use Rattle.std.proofs.Common.{◌≡◌, ℕ, List, refl, sym, subst}
use Rattle.std.proofs.Math.Logic.{∥∥₁_elim}
use Rattle.std.proofs.Props.{props}
use Rattle.fa_bodies.specs.Requests.{PlainRequest, IsRequest}
use Rattle.fa_bodies.proofs.CallerLemmas.{request_is_one}
use Rattle.fa_session.specs.parts.RequestSaid.{IsAskedWith, RequestSaid, request_set}

-- its message is a request
pub asked_there : (bytes : List ℕ) (unique : ℕ) → RequestSaid bytes unique → ∥ ((r : PlainRequest) × IsRequest bytes r) ∥₁
asked_there bytes unique said = ∥∥₁_elim said.1 squash (λ w. ∣ (said.0, w.0) ∣₁)
  where
    squash : IsProp ∥ ((r : PlainRequest) × IsRequest bytes r) ∥₁
    squash = hlevel

-- and what is read of it is that request
pub read_one : (bytes : List ℕ) (unique : ℕ) (said : RequestSaid bytes unique) (r : PlainRequest) → IsRequest bytes r → r ≡ said.0
read_one bytes unique said r is = ∥∥₁_elim said.1 (request_set r said.0) (λ w. request_is_one bytes r said.0 is w.0)

-- with its unique
pub unique_of : (bytes : List ℕ) (unique : ℕ) (said : RequestSaid bytes unique) → said.0.unique ≡ unique
unique_of bytes unique said = ∥∥₁_elim said.1 (hlevel props) (λ w. w.1)

pub waits_of : (bytes : List ℕ) (r : PlainRequest) → ∥ IsRequest bytes r ∥₁ → RequestSaid bytes r.unique
waits_of bytes r is = (r, ∥∥₁_elim is squash (λ here. ∣ (here, refl) ∣₁))
  where
    squash : IsProp ∥ IsAskedWith bytes r.unique r ∥₁
    squash = hlevel

-- what waits under a message that is this request
pub waits_one : (bytes : List ℕ) (unique : ℕ) (said : RequestSaid bytes unique) (message : List ℕ) (r : PlainRequest) → bytes ≡ message → ∥ IsRequest message r ∥₁ → said.0 ≡ r
waits_one bytes unique said message r same is = ∥∥₁_elim is (request_set said.0 r) (λ here. sym (read_one bytes unique said r (subst (λ (b : List ℕ). IsRequest b r) (sym same) here)))

-- bytes that are the same are the same request
pub said_again : (bytes copy : List ℕ) (unique : ℕ) → copy ≡ bytes → RequestSaid bytes unique → RequestSaid copy unique
said_again bytes copy unique same said = subst (λ (b : List ℕ). RequestSaid b unique) (sym same) said

-- and no other
pub same_said : (bytes copy : List ℕ) (unique : ℕ) → copy ≡ bytes → (said : RequestSaid bytes unique) (again : RequestSaid copy unique) → again.0 ≡ said.0
same_said bytes copy unique same said again = waits_one copy unique again bytes said.0 same (∥∥₁_elim said.1 squash (λ here. ∣ here.0 ∣₁))
  where
    squash : IsProp ∥ IsRequest bytes said.0 ∥₁
    squash = hlevel
