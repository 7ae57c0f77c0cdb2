-- What there is in a tree, by what was asked of it.
use Rattle.std.proofs.Common.{◌≡◌, inl, inr, Bool, ℕ, List}
use Rattle.std.specs.Prelude.{◌↔◌, IsTrue}
use Rattle.fa_tree.specs.declared.id.FileId.{FileId}
use Rattle.fa_tree.specs.State.{Store, HasName, IsLinked, root}

-- a file that is not the root is linked where it has a name
pub linked_by : (s : Store) (file : FileId) (named : Bool) → IsTrue named ↔ ((directory : FileId) × (name : List ℕ) × HasName s directory name file)
    → (file ≡ root → ⊥) → IsTrue named ↔ IsLinked s file
linked_by s file named tells other = (λ is. inr (tells.0 is), from tells other)
  where
    from : IsTrue named ↔ ((directory : FileId) × (name : List ℕ) × HasName s directory name file) → (file ≡ root → ⊥) → IsLinked s file → IsTrue named
    from tells other (inl is) = absurd (other is)
    from tells other (inr some) = tells.1 some
