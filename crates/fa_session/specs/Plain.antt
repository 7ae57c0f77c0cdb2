-- A session as a value.
use Rattle.std.specs.Prelude.{ℕ, List, Option}
use Rattle.fa_bodies.specs.Requests.{PlainRequest}

-- a request that is outstanding, with the number of its message
pub record PlainWaiting : Type 0 where
  pub at : ℕ
  pub request : PlainRequest

-- How many messages came, the flags that both sides set at INIT, once it was answered, and the outstanding requests by
-- their uniques, which rise. Where no flags are there, INIT is still to come if there was no message, and else waits for
-- its answer.
pub record PlainSession : Type 0 where
  pub messages : ℕ
  pub negotiated : Option ℕ
  pub waiting : List (ℕ × PlainWaiting)
