-- A request that is placed in a configuration.
use Rattle.std.specs.Prelude.{◌≡◌, ℕ, List, [], ◌∷◌, ◌++◌, slice_get, Some}
use Rattle.fa_capture.specs.Message.{Message}
use Rattle.fa_ledger.specs.Calls.{PlainCall}
use Rattle.fa_ledger.specs.declared.calls.Calls.{Calls}
use Rattle.fa_ledger.specs.Choices.{Allows}
use Rattle.fa_tree.specs.Alike.{AreAlike}
use Rattle.fa_tree.specs.declared.error.StepError.{StepError}
use Rattle.fa_tree.specs.declared.error.StepError.TheVariants.{Refused, Memory}
use Rattle.fa_order.specs.declared.entry.Entry.{Entry}
use Rattle.fa_check.specs.Runs.{EntrySteps}
use Rattle.fa_check.specs.Faults.{StepFails}
use Rattle.fa_check.specs.Verdicts.{AreMessagesOf}
use Rattle.fa_search.specs.parts.Configurations.{PlainConfiguration, IsOneMore}

-- the entry names the call at this place, which allows its count
abbrev pub MayBePlacedAt : List PlainCall → (place : ℕ) → Entry → Type 0
MayBePlacedAt calls place e = (call : PlainCall) × (slice_get calls place ≡ Some call) × (call.asked ≡ e.at) × Allows call e.wrote

-- the entry has a step from the configuration, and this is what it leads to
pub record IsPlacedIn (c : List Message) (old : PlainConfiguration) (e : Entry) (new : PlainConfiguration) : Type 0 where
  pub steps : EntrySteps old.tree new.tree c e
  pub placed : IsOneMore old.placed e.at new.placed
  pub entries : new.entries ≡ old.entries ++ e ∷ []

-- the entry is refused from the configuration, which stays as it was, or memory is
abbrev pub IsRefusedIn : Calls → (old new : PlainConfiguration) → Entry → StepError → Type 0
IsRefusedIn calls old new e (Refused code) = (new ≡ old) × ((c : List Message) → AreMessagesOf calls c → StepFails old.tree c e code)
IsRefusedIn calls old new e Memory = Unit {0}

-- the same requests are placed in both, and their trees are alike, where such openings count
abbrev pub IsSameAs : (Counts : ℕ → Type 0) → (one other : PlainConfiguration) → Type 0
IsSameAs Counts one other = (one.placed ≡ other.placed) × AreAlike Counts one.tree other.tree
