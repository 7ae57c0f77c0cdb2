-- A call as the book of the calls keeps it.
use Rattle.std.specs.Prelude.{ℕ, ◌<◌, true, false, if◌then◌else◌, List, [], ◌∷◌, length, slice_get, Option, None, Some, Vec}
use Rattle.std.specs.declared.alloc.Global.{Global}
use Rattle.std.specs.Option.{option_map_or}
use Rattle.fa_ledger.specs.declared.call.Listing.{Listing}
use Rattle.fa_ledger.specs.declared.name.NodeName.{NodeName}
use Rattle.fa_ledger.specs.declared.name.NodeName.TheVariants.{Root, Given}
use Rattle.fa_ledger.specs.declared.row.AnswerKind.{AnswerKind}
use Rattle.fa_ledger.specs.declared.row.AnswerKind.TheVariants.{Missing, Plain, Opening}
use Rattle.fa_ledger.specs.declared.row.Beside.{Beside}
use Rattle.fa_ledger.specs.declared.row.Beside.TheVariants as beside
use Rattle.fa_ledger.specs.declared.row.Gives.{Gives}
use Rattle.fa_ledger.specs.declared.row.Gives.TheVariants as gives
use Rattle.fa_ledger.specs.declared.row.GivesKind.{GivesKind}
use Rattle.fa_ledger.specs.declared.row.GivesKind.TheVariants as kind
use Rattle.fa_ledger.specs.declared.row.Aside.{Aside}
use Rattle.fa_ledger.specs.declared.row.Row.{Row}
use Rattle.fa_ledger.specs.Calls.{PlainAnswer, PlainCall}
use Rattle.fa_ledger.specs.parts.Ids.{id_in, name_in}

-- the other node that a request names, if any
abbrev pub other_kept : Beside → Option NodeName
other_kept (beside.Nothing) = None
other_kept (beside.Root) = Some Root
other_kept (beside.Node by id) = Some (Given by id)
other_kept (beside.Lists adrift shared) = None
other_kept (beside.GoesOn adrift shared asked count) = None

-- what it goes on from, if it lists
abbrev pub listing_kept : Beside → Option Listing
listing_kept (beside.Nothing) = None
listing_kept (beside.Root) = None
listing_kept (beside.Node by id) = None
listing_kept (beside.Lists adrift shared) = Some (record { before = None; adrift = adrift; shared = shared })
listing_kept (beside.GoesOn adrift shared asked count) = Some (record { before = Some (asked, count); adrift = adrift; shared = shared })

-- the names of the nodes that an answer gives, where this is its message and those of listings are these
abbrev pub names_kept : List ℕ → List (Vec NodeName Global) → Gives → List NodeName
names_kept reply listed (gives.Nothing) = []
names_kept reply listed (gives.Root) = Root ∷ []
names_kept reply listed (gives.Node by) = Given by (id_in reply) ∷ []
names_kept reply listed (gives.Several place) = option_map_or (λ (names : Vec NodeName Global). names.items) (slice_get listed place) []

-- if they are those of a listing, they stand among so many
abbrev pub IsAmong : ℕ → Gives → Type 0
IsAmong count (gives.Several place) = place < count
IsAmong count other = Unit {0}

-- a place, if there is one, is one of so many
abbrev pub IsPlaceIn : ℕ → Option ℕ → Type 0
IsPlaceIn count None = Unit {0}
IsPlaceIn count (Some place) = place < count

-- the node that it is on, by name
abbrev pub node_kept : Row → NodeName
node_kept row = name_in row.messages.request.now row.is_on_root row.node_by

-- the place of its other node or listing, if it has one
abbrev pub beside_place : Row → Option ℕ
beside_place row = (if row.has_beside then Some row.beside else None)

-- what stands at a place, if there is one
abbrev pub beside_at : List Beside → Option ℕ → Beside
beside_at besides None = beside.Nothing
beside_at besides (Some place) = option_map_or (λ (found : Beside). found) (slice_get besides place) beside.Nothing

-- the other node or the listing, where these stand beside the rows
abbrev pub beside_kept : Aside → Row → Beside
beside_kept aside row = beside_at aside.besides.items (beside_place row)

-- which nodes its answer gives
abbrev pub given_of : GivesKind → ℕ → Gives
given_of (kind.Nothing) given = gives.Nothing
given_of (kind.Root) given = gives.Root
given_of (kind.Node) given = gives.Node given
given_of (kind.Several) given = gives.Several given

abbrev pub gives_kept : Row → Gives
gives_kept row = given_of row.gives row.given

-- what stands beside rows has the places of this one
abbrev pub StandsIn : Aside → Row → Type 0
StandsIn aside row = IsPlaceIn (length aside.besides.items) (beside_place row) × IsAmong (length aside.listed.items) (gives_kept row)

-- the file handle that it uses, if any
abbrev pub handle_kept : Row → Option ℕ
handle_kept row = (if row.has_handle then Some row.handle else None)

-- its answer, if it has one
abbrev pub answer_by : AnswerKind → ℕ → List NodeName → Option PlainAnswer
answer_by Missing at given = None
answer_by Plain at given = Some (record { at = at; given = given; opens = false })
answer_by Opening at given = Some (record { at = at; given = given; opens = true })

abbrev pub answer_kept : Aside → Row → Option PlainAnswer
answer_kept aside row = answer_by row.answered row.answered_at (names_kept row.messages.reply.now aside.listed.items (gives_kept row))

-- what it shows
abbrev pub row_shown : Aside → Row → PlainCall
row_shown aside row = record {
  asked = row.asked;
  operation = row.messages.said.0;
  node = node_kept row;
  other = other_kept (beside_kept aside row);
  handle = handle_kept row;
  direct = row.direct;
  truncates = row.truncates;
  listing = listing_kept (beside_kept aside row);
  answer = answer_kept aside row;
}

-- there is no other node, or no listing
abbrev pub AreNotBoth : Option NodeName → Option Listing → Type 0
AreNotBoth (Some other) (Some listing) = ⊥
AreNotBoth (Some other) None = Unit {0}
AreNotBoth None listing = Unit {0}
