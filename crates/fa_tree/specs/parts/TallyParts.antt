-- How often names were listed, as a tally of them tells it.
use Rattle.std.specs.Prelude.{◌≡◌, ◌+◌, ◌++◌, ℕ, zero, suc, Bool, true, false, IsTrue, List, Option, take, slice_get, Some, option_map, option_and_then}
use Rattle.std.proofs.Common.{ap}
use Rattle.std.specs.Cmp.Lexicographic.{bytes_decides}
use Rattle.std.specs.List.{list_any}
use Rattle.std.specs.Str.{bytes_eq}
use Rattle.fa_bodies.specs.Dirents.{PlainDirent}
use Rattle.fa_ledger.specs.Calls.{PlainCall}
use Rattle.fa_ledger.specs.SoFar.{call_asked, before_of, entries_answered}
use Rattle.fa_tree.specs.declared.tally.Listed.{Listed}
use Rattle.fa_tree.specs.declared.tally.Reach.{Reach}
use Rattle.fa_tree.specs.declared.tally.Tally.{Tally}
use Rattle.fa_tree.specs.Directories.{times_listed}
use Rattle.fa_tree.specs.parts.NameFed.{name_fed}

-- names that are equal feed a hasher alike
pub listed_alike : (a b : List ℕ) → IsTrue (bytes_eq a b) → name_fed a ≡ name_fed b
listed_alike a b equal = ap name_fed ((bytes_decides a b).0 equal)

-- whether what was listed so many times was listed, and more than once
abbrev pub was_listed : ℕ → Bool
was_listed zero = false
was_listed (suc more) = true

abbrev pub was_repeated : ℕ → Bool
was_repeated zero = false
was_repeated (suc zero) = false
was_repeated (suc (suc more)) = true

-- whether the name stands among these
abbrev pub is_among : List Listed → List ℕ → Bool
is_among names name = list_any (λ listed. bytes_eq name listed.name.now) names

-- These are the names that were listed, and those that were listed more than once, where each was listed so many times.
pub record AreNamesListed (names again : List Listed) (times : List ℕ → ℕ) : Type 0 where
  pub listed : (name : List ℕ) → is_among names name ≡ was_listed (times name)
  pub repeated : (name : List ℕ) → is_among again name ≡ was_repeated (times name)

-- the tally tells how often each name was listed: never, once or more often
abbrev pub Tallies : Tally → (times : List ℕ → ℕ) → Type 0
Tallies tally times = AreNamesListed tally.names.keys tally.again.keys times

-- the first so many of each, which it had when it reached so far, told how often each name was listed then
abbrev pub TalliesAt : Tally → Reach → (times : List ℕ → ℕ) → Type 0
TalliesAt tally reach times = AreNamesListed (take reach.names tally.names.keys) (take reach.again tally.again.keys) times

-- what is noted later stands behind what was noted
pub record Grows (old new : Tally) : Type 0 where
  pub names : (more : List Listed) × (new.names.keys ≡ old.names.keys ++ more)
  pub again : (more : List Listed) × (new.again.keys ≡ old.again.keys ++ more)

-- these entries were noted in between
abbrev pub Notes : (old new : Tally) → List PlainDirent → Type 0
Notes old new entries =
    (times : List ℕ → ℕ) → Tallies old times → Tallies new (λ name. times name + times_listed name entries)

-- the call that a call goes on from, if it goes on from one, and how many entries of that one's answer count
abbrev pub going_on_from : List PlainCall → PlainCall → Option (PlainCall × ℕ)
going_on_from calls call =
    option_and_then (λ before. option_map (λ earlier. (earlier, before.1)) (call_asked calls before.0)) (before_of call)

-- the answer to the call at this place lists these entries: none where it is no listing, or lists nothing
abbrev pub ListsAt : List PlainCall → (place : ℕ) → List PlainDirent → Type 0
ListsAt calls place entries = (call : PlainCall) × (slice_get calls place ≡ Some call) × (entries_answered call.operation ≡ entries)
