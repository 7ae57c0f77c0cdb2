-- What a replay keeps of what was listed so far.
use Rattle.std.specs.Prelude.{◌≡◌, ◌++◌, ℕ, nat_eq, List, length, Some}
use Rattle.std.specs.Map.{lookup}
use Rattle.fa_bodies.specs.Dirents.{PlainDirent}
use Rattle.fa_ledger.specs.declared.calls.Calls.{Calls}
use Rattle.fa_ledger.specs.SoFar.{listing_so_far}
use Rattle.fa_tree.specs.Directories.{times_listed}
use Rattle.fa_tree.specs.declared.kept.KeptListing.{KeptListing}
use Rattle.fa_tree.specs.declared.replay.Replay.TheInside.{Inside}
use Rattle.fa_tree.specs.declared.tally.Tally.{Tally}
use Rattle.fa_tree.specs.parts.TallyParts.{Tallies, TalliesAt, ListsAt}

-- the calls that it goes along, which is all that it shows
abbrev pub calls_of : Inside → Calls
calls_of r = r.calls.now

-- the tally is that of what was listed so far for the call at this place
abbrev pub IsTallyAt : Calls → (place : ℕ) → Tally → Type 0
IsTallyAt calls place tally = Tallies tally (λ name. times_listed name (listing_so_far calls.list place))

-- What is kept of the call at its place, whose answer has these entries: the tally has what was listed so far and then these, and
-- reached so far before them.
pub record IsKeptOf (calls : Calls) (kept : KeptListing) (entries : List PlainDirent) : Type 0 where
  pub answer : ListsAt calls.list kept.at entries
  pub count : kept.count ≡ length entries
  pub before : TalliesAt kept.tally kept.before (λ name. times_listed name (listing_so_far calls.list kept.at))
  pub tally : Tallies kept.tally (λ name. times_listed name (listing_so_far calls.list kept.at ++ entries))

-- the same, where this is its place
abbrev pub IsKeptAt : Calls → (place : ℕ) → List PlainDirent → KeptListing → Type 0
IsKeptAt calls place entries kept = (kept.at ≡ place) × IsKeptOf calls kept entries

-- what is kept is that of the call at its place, whatever entries its answer has
abbrev pub IsKept : Calls → KeptListing → Type 0
IsKept calls kept = (entries : List PlainDirent) × IsKeptOf calls kept entries

-- all that is kept is so
abbrev pub AreKept : Inside → Type 0
AreKept r = (handle : ℕ) (kept : KeptListing) → lookup (nat_eq handle) r.so_far.by_handle.entries ≡ Some kept → IsKept r.calls.now kept
