use Rattle.std.proofs.Common.{◌≡◌, ℕ, ◌≤◌, List, ◌++◌, length}
use Rattle.std.specs.Prelude.{nat_eq, IsTrue}
use Rattle.indexmap.specs.IndexMap.{get, spare}
use Rattle.fa_bodies.specs.Dirents.{PlainDirent}
use Rattle.fa_bodies.specs.Listing.{entries_left}
use Rattle.fa_ledger.specs.Listings.{count_to}
use Rattle.fa_ledger.specs.parts.ListingParts.{noted, some_new}
use Rattle.fa_ledger.proofs.listings.Offsets.note.Given as goal

-- the offsets stand as the entries so far leave them, and there is room for those that are left
abbrev pub invariant-loop-dirent : goal.invariant-loop-dirent
invariant-loop-dirent l =
    (goal.iterator-loop-dirent).can_next l.dirent-iterator
    × (goal.iterator-loop-dirent).is_finite l.dirent-iterator
    × ((front : List PlainDirent) × (entries_left l.fn.listing ≡ front ++ entries_left l.dirent-iterator)
    × (l.count ≡ length front)
    × (IsTrue (some_new l.initial.self.places.entries (entries_left l.fn.listing)) → length (entries_left l.dirent-iterator) ≤ spare l.self.places)
    × ((offset : ℕ) → get nat_eq l.self.places offset ≡ noted l.asked l.adrift (count_to offset front) (get nat_eq l.initial.self.places offset)))
