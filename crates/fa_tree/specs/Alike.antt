-- Trees that are the same, but for openings of directories that are of no use.
use Rattle.std.specs.Prelude.{◌≡◌, ◌≤◌, ℕ, Some}
use Rattle.std.specs.BTreeMap.{BTreeMap, is_at}
use Rattle.std.specs.FinMap.{get}
use Rattle.std.specs.Map.{lookup}
use Rattle.std.specs.Ordering.{nat_cmp}
use Rattle.fa_tree.specs.State.{TreeState}
use Rattle.fa_tree.specs.declared.in_use.InUse.{InUse}

-- in the table the opening stands with this message, or a later one
abbrev pub IsLastFrom : (last : BTreeMap ℕ ℕ) → (from opened : ℕ) → Type 0
IsLastFrom last from opened = (at : ℕ) × (lookup (is_at (nat_cmp opened)) last.entries ≡ Some at) × (from ≤ at)

-- in its table the opening stands with the message from which on it is asked, or a later one
abbrev pub IsInUse : InUse → (opened : ℕ) → Type 0
IsInUse u opened = IsLastFrom u.last.now u.from opened

-- The same is stored, the same names of nodes stand for the same files, and of the openings that count the same is known.
pub record AreAlike (Counts : ℕ → Type 0) (one other : TreeState) : Type 0 where
  pub store : other.store ≡ one.store
  pub nodes : other.nodes ≡ one.nodes
  pub handles : (opened : ℕ) → Counts opened → get other.handles opened ≡ get one.handles opened
