-- The request that a message is.
use Rattle.std.specs.Prelude.{◌≡◌, ℕ, List}
use Rattle.std.proofs.Math.Logic.{∥∥₁_elim}
use Rattle.std.proofs.Props.{props}
use mathlib.Core.HLevel.{is_prop→PathP}
use Rattle.fa_bodies.specs.Requests.{PlainRequest, IsRequest}
use Rattle.fa_bodies.proofs.CallerLemmas.{request_is_one}

-- the bytes are this request, and this is its unique
abbrev pub IsAskedWith : List ℕ → ℕ → PlainRequest → Type 0
IsAskedWith bytes unique r = IsRequest bytes r × (r.unique ≡ unique)

-- which request with this unique the bytes are, and that they are
abbrev pub RequestSaid : List ℕ → ℕ → Type 0
RequestSaid bytes unique = (r : PlainRequest) × ∥ IsAskedWith bytes unique r ∥₁

-- two proofs that two requests are one are one
pub request_set : IsSet PlainRequest
request_set = hlevel props

pub RequestSaid-prop : (bytes : List ℕ) (unique : ℕ) → IsProp (RequestSaid bytes unique)
RequestSaid-prop bytes unique a b =
    let same : a.0 ≡ b.0 = ∥∥₁_elim a.1 (request_set a.0 b.0) (λ x. ∥∥₁_elim b.1 (request_set a.0 b.0) (λ y. request_is_one bytes a.0 b.0 x.0 y.0)) in
    λ i. (same i, is_prop→PathP {0} (λ j. ∥ IsAskedWith bytes unique (same j) ∥₁) (λ j. with_prop (same j)) a.1 b.1 i)
  where
    with_prop : (r : PlainRequest) → IsProp ∥ IsAskedWith bytes unique r ∥₁
    with_prop r = hlevel
