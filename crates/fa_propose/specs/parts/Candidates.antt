-- Entries by the ranks of their calls, that of the least rank apart.
use Rattle.std.specs.Prelude.{◌≡◌, List, [], ◌∷◌, ◌++◌, Option, None, Some}
use Rattle.std.specs.declared.cmp.Ordering.{Ordering}
use Rattle.std.specs.List.Sorted.{IsStrictlySortedBy}
use Rattle.std.specs.Map.{keys_of}
use Rattle.fa_order.specs.declared.entry.Entry.{Entry}
use Rattle.fa_propose.specs.contracts.rank.RankOrd.TheImpl as order
use Rattle.fa_propose.specs.declared.candidates.Candidates.TheInside.{Inside}
use Rattle.fa_propose.specs.declared.rank.Rank.{Rank}

-- how ranks are compared
abbrev pub cmp : Rank → Rank → Ordering
cmp = order.cmp-value.it

-- the entry of the least rank, if there is any
abbrev pub first_entry : Option (Rank × Entry) → List (Rank × Entry)
first_entry None = []
first_entry (Some first) = first ∷ []

-- the entries, that of the least rank before those of the map
abbrev pub candidates_shown : Inside → List (Rank × Entry)
candidates_shown c = first_entry c.first ++ c.others.entries

-- Without the one of the least rank there are no others; and the ranks rise.
pub record IsFirstApart (c : Inside) : Type 0 where
  pub alone : c.first ≡ None → c.others.entries ≡ []
  pub ordered : IsStrictlySortedBy cmp (keys_of (candidates_shown c))
