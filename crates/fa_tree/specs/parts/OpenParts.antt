-- The last openings of directories, and what is known of the names since one.
use Rattle.std.specs.Prelude.{◌≡◌, ◌+◌, ℕ, List, [], ◌∷◌, Option, Some, None, cond, nat_eq}
use Rattle.std.specs.Map.{lookup}
use Rattle.std.specs.Option.{option_map, option_or}
use Rattle.fa_tree.specs.declared.id.FileId.{FileId}
use Rattle.fa_tree.specs.State.{OpenDirectory}
use Rattle.fa_tree.specs.declared.open.Opening.{Opening}
use Rattle.fa_tree.specs.declared.open_names.OpenNames.{OpenNames}
use Rattle.fa_tree.specs.parts.NameViews.{open_shown}

-- The last of these openings that is by the request of this number, if one is: its place among all, where the first of these
-- has this one, and its directory.
abbrev pub last_opening : (asked at : ℕ) → List Opening → Option (ℕ × FileId)
last_opening asked at [] = None
last_opening asked at (o ∷ openings) =
    option_or (last_opening asked (at + 1) openings) (cond (nat_eq asked o.asked) (Some (at, o.directory)) None)

-- the places, by the requests, are those of their last openings
abbrev pub AreLast : List (ℕ × ℕ) → List Opening → Type 0
AreLast places openings = (asked : ℕ) → lookup (nat_eq asked) places ≡ option_map (λ p. p.0) (last_opening asked 0 openings)

-- the open directory
abbrev pub open_of : OpenNames → OpenDirectory
open_of o = open_shown o.slots.now.table.entries o.directory o.at
