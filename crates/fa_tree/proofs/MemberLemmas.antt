-- The places of each directory in the table, as places come.
use Rattle.std.proofs.Common.{◌≡◌, ℕ, ◌<◌, Bool, true, false, cond, List, [], ◌∷◌, ◌++◌, length, inl, inr, refl, sym, ap, subst, ◌∙◌}
use Rattle.std.specs.Prelude.{◌||◌, ◌⊎◌, nat_eq, Vec, IsTrue}
use Rattle.std.specs.Cmp.{nat_eq_equiv}
use Rattle.std.specs.List.{list_any}
use Rattle.std.proofs.lemmas.List.Folds.{list_any-append}
use Rattle.std.specs.declared.alloc.Global.{Global}
use Rattle.fa_capture.proofs.CallerLemmas.{get_back, get_cases}
use Rattle.fa_tree.specs.declared.id.FileId.{FileId}
use Rattle.fa_tree.specs.State.{file_eq}
use Rattle.fa_tree.specs.declared.slots.Place.{Place}
use Rattle.fa_tree.specs.parts.FileIdLaws.{file_self}
use Rattle.fa_tree.specs.parts.MemberParts.{members_of, is_member, AreMembers}

-- what was among the indexes is among them and one more
is_kept : (b : Bool) (index more : ℕ) (indexes : List ℕ) → IsTrue (list_any (nat_eq index) indexes) → IsTrue (list_any (nat_eq index) (cond b (indexes ++ more ∷ []) indexes))
is_kept true index more indexes is = list_any-append (nat_eq index) indexes (more ∷ []) ∙ ap (λ b. b || list_any (nat_eq index) (more ∷ [])) is
is_kept false index more indexes is = is

-- and so is that one
is_new : (b : Bool) (index : ℕ) (indexes : List ℕ) → b ≡ true → IsTrue (list_any (nat_eq index) (cond b (indexes ++ index ∷ []) indexes))
is_new true index indexes is =
    list_any-append (nat_eq index) indexes (index ∷ [])
    ∙ ap (λ b. list_any (nat_eq index) indexes || (b || false)) (nat_eq_equiv.refl index)
    ∙ either (list_any (nat_eq index) indexes)
  where
    either : (b : Bool) → (b || true) ≡ true
    either true = refl
    either false = refl
is_new false index indexes is = absurd cc

module _ (places : List Place) (old new : List (FileId × Vec ℕ Global)) (members : AreMembers places old) where
  -- a new place, whose index is added to its directory's
  pub members_added : (place : Place)
      → ((of : FileId) → members_of new of ≡ cond (file_eq of place.directory) (members_of old of ++ length places ∷ []) (members_of old of))
      → AreMembers (places ++ place ∷ []) new
  members_added place added index one at = by (get_cases places place index one at)
    where
      by : (index < length places) ⊎ ((index ≡ length places) × (one ≡ place)) → IsTrue (is_member new one.directory index)
      by (inl before) =
          ap (list_any (nat_eq index)) (added one.directory)
          ∙ is_kept (file_eq one.directory place.directory) index (length places) (members_of old one.directory) (members index one (get_back places (place ∷ []) index one before at))
      by (inr last) =
          subst (λ p. IsTrue (is_member new p.directory index)) (sym last.1)
          (subst (λ i. IsTrue (is_member new place.directory i)) (sym last.0)
          (ap (list_any (nat_eq (length places))) (added place.directory)
          ∙ is_new (file_eq place.directory place.directory) (length places) (members_of old place.directory) (file_self place.directory)))
