-- What was judged of what a tree stores is judged of the tree.
use Rattle.std.proofs.Common.{◌≡◌, ℕ, ℤ, Bool, false, subst}
use Rattle.std.specs.Prelude.{◌↔◌, IsTrue}
use Rattle.fa_ledger.specs.Operations.{PlainAction}
use Rattle.fa_ledger.specs.Operations.PlainOperation.{Acts}
use Rattle.fa_tree.specs.declared.id.FileId.{FileId}
use Rattle.fa_tree.specs.State.{Store, TreeState, IsDirectory}
use Rattle.fa_tree.specs.Resolved.{Resolved}
use Rattle.fa_tree.specs.Opening.{directory_rule}
use Rattle.fa_tree.specs.Operations.{action_rule, action_said, changed}
use Rattle.fa_tree.specs.Rules.{HasCause}

module _ (t u : TreeState) (same : t ≡ u) (x : Resolved) (direct : Bool) (a : PlainAction) (b : Bool) where
  pub success_still : ((after : Store) → IsTrue b ↔ ((action_rule t.store x a).needs × (action_said t.store after x direct a).found))
      → (after : Store) → IsTrue b ↔ ((action_rule u.store x a).needs × (action_said u.store after x direct a).found)
  success_still told =
      subst (λ (v : TreeState). (after : Store) → IsTrue b ↔ ((action_rule v.store x a).needs × (action_said v.store after x direct a).found)) same told

  pub attributes_still : (truncates : Bool) → ((count : ℕ) → (action_rule t.store x a).needs → IsTrue b ↔ (action_said t.store (changed t.store x truncates (Acts a) count) x direct a).attributes)
      → (count : ℕ) → (action_rule u.store x a).needs → IsTrue b ↔ (action_said u.store (changed u.store x truncates (Acts a) count) x direct a).attributes
  attributes_still truncates told =
      subst (λ (v : TreeState). (count : ℕ) → (action_rule v.store x a).needs → IsTrue b ↔ (action_said v.store (changed v.store x truncates (Acts a) count) x direct a).attributes) same told

  pub bytes_still : (truncates : Bool) → ((count : ℕ) → IsTrue b ↔ (action_said t.store (changed t.store x truncates (Acts a) count) x direct a).bytes)
      → (count : ℕ) → IsTrue b ↔ (action_said u.store (changed u.store x truncates (Acts a) count) x direct a).bytes
  bytes_still truncates told =
      subst (λ (v : TreeState). (count : ℕ) → IsTrue b ↔ (action_said v.store (changed v.store x truncates (Acts a) count) x direct a).bytes) same told

  pub cause_still : (error : ℤ) → IsTrue b ↔ HasCause (action_rule t.store x a) error → IsTrue b ↔ HasCause (action_rule u.store x a) error
  cause_still error told = subst (λ (v : TreeState). IsTrue b ↔ HasCause (action_rule v.store x a) error) same told

module _ (t u : TreeState) (same : t ≡ u) (directory : FileId) (b : Bool) where
  pub directory_still : IsTrue b ↔ IsDirectory t.store directory → IsTrue b ↔ IsDirectory u.store directory
  directory_still told = subst (λ (v : TreeState). IsTrue b ↔ IsDirectory v.store directory) same told

  pub list_cause_still : (error : ℤ) → IsTrue b ↔ HasCause (directory_rule t.store directory) error → IsTrue b ↔ HasCause (directory_rule u.store directory) error
  list_cause_still error told = subst (λ (v : TreeState). IsTrue b ↔ HasCause (directory_rule v.store directory) error) same told

-- ---- what was tested

pub untrue : (b : Bool) → b ≡ false → IsTrue b → ⊥
untrue b is told = cc
