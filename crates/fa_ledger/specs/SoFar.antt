-- The listing so far of a call, by the calls alone.
use Rattle.std.specs.Prelude.{ℕ, zero, suc, ◌==◌, List, [], ◌++◌, find, slice_get, take, Option, option_and_then}
use Rattle.std.specs.Option.{option_map_or}
use Rattle.fa_bodies.specs.Dirents.{PlainDirent}
use Rattle.fa_ledger.specs.declared.operation.Outcome.{Outcome}
use Rattle.fa_ledger.specs.declared.operation.Outcome.TheVariants.{Succeeds}
use Rattle.fa_ledger.specs.Calls.{PlainCall}
use Rattle.fa_ledger.specs.Operations.{PlainOperation}
use Rattle.fa_ledger.specs.Operations.PlainOperation.{Lists, Acts}

-- the entries that an outcome lists
abbrev pub entries_listed : Outcome (List PlainDirent) → List PlainDirent
entries_listed (Succeeds entries) = entries
entries_listed other = []

-- the entries that the answer to a call with this operation lists
abbrev pub entries_answered : PlainOperation → List PlainDirent
entries_answered (Lists l) = entries_listed l.outcome
entries_answered (Acts a) = []

-- the call of the request of this number
abbrev pub call_asked : List PlainCall → ℕ → Option PlainCall
call_asked calls asked = find (λ call. call.asked == asked) calls

-- what a call goes on from
abbrev pub before_of : PlainCall → Option (ℕ × ℕ)
before_of call = option_and_then (λ listing. listing.before) call.listing

-- What was listed so far for a call, looking back over at most so many earlier calls: what was listed so far for the call
-- that it goes on from, then the entries of that one's answer that count.
abbrev pub listed_within : ℕ → List PlainCall → PlainCall → List PlainDirent
listed_within zero calls call = []
listed_within (suc n) calls call =
    option_map_or (λ before. option_map_or (λ earlier. listed_within n calls earlier ++ take before.1 (entries_answered earlier.operation)) (call_asked calls before.0) []) (before_of call) []

-- What was listed so far for the call at this place. A call goes on from one that stands before it, so as many steps back as
-- calls before it are enough.
abbrev pub listing_so_far : List PlainCall → ℕ → List PlainDirent
listing_so_far calls place = option_map_or (λ call. listed_within place calls call) (slice_get calls place) []
