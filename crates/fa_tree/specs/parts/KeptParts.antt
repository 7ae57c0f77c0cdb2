-- What is kept of what was listed so far, by handles.
use Rattle.std.specs.Prelude.{◌≡◌, ◌+◌, ℕ, List, nat_eq, Some, length}
use Rattle.std.specs.List.{sum_by}
use Rattle.std.specs.Map.{lookup}
use Rattle.fa_tree.specs.declared.kept.KeptListing.{KeptListing}

-- all that is kept for a handle in the first list is kept for it in the second
abbrev pub AreAmong : (now before : List (ℕ × KeptListing)) → Type 0
AreAmong now before = (handle : ℕ) (kept : KeptListing) → lookup (nat_eq handle) now ≡ Some kept → lookup (nat_eq handle) before ≡ Some kept

-- for how many names a listing takes room: its own, and as many as it takes memory beside them
abbrev pub size_of_listing : KeptListing → ℕ
size_of_listing listed = length listed.tally.names.keys + 16

-- for how many names all of them take room
abbrev pub size_of_listings : List (ℕ × KeptListing) → ℕ
size_of_listings kept = sum_by (λ e. size_of_listing e.1) kept
