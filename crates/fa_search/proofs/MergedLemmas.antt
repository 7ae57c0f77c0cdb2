-- Configurations of which those are left that are the same as none before.
use Rattle.std.proofs.Common.{ℕ, ◌+◌, ◌<◌, ◌≤◌, List, [], ◌∷◌, ◌++◌, length, refl, sym, subst, inl, inr, arith}
use Rattle.std.specs.Prelude.{Contains}
use Rattle.std.proofs.lemmas.List.{length_push}
use Rattle.std.proofs.lemmas.List.Elements.{Contains-push}
use Rattle.fa_capture.specs.Message.{Message}
use Rattle.fa_tree.specs.State.{TreeState}
use Rattle.fa_tree.proofs.CallerLemmas.{alike_self}
use Rattle.fa_order.specs.declared.entry.Entry.{Entry}
use Rattle.fa_search.specs.Searches.{IsUsedFrom}
use Rattle.fa_search.specs.parts.Configurations.{PlainConfiguration}
use Rattle.fa_search.specs.parts.Placed.{IsSameAs}
use Rattle.fa_search.specs.parts.Settling.{AreHeldBy, AreMerged, IsPushedNew}
use Rattle.fa_search.proofs.HeldLemmas.{held_ahead}
use Rattle.fa_search.proofs.SettlingLemmas.{one_of, still_there}
use Rattle.fa_search.proofs.LoopLemmas.{some_there}
use Rattle.fa_search.proofs.TakenLemmas.{same_is_ahead}

-- of none none are left
pub merged_none : (Counts : ℕ → Type 0) → AreMerged Counts [] []
merged_none Counts = record { each = λ y has. absurd (omega (arith, has.1)); all = λ x has. absurd (omega (arith, has.1)) }

-- all may be left
pub merged_same : (Counts : ℕ → Type 0) (xs : List PlainConfiguration) → AreMerged Counts xs xs
merged_same Counts xs = record { each = λ y has. has; all = λ x has. (x, has, (refl, alike_self Counts x.tree)) }

-- one more is pushed, or the same one is there
pub merged_more : (Counts : ℕ → Type 0) (old new : List PlainConfiguration) (x : PlainConfiguration) (more : List PlainConfiguration) → IsPushedNew Counts new x more → AreMerged Counts old new
    → AreMerged Counts (old ++ x ∷ []) more
merged_more Counts old new x more pushed are = elim pushed [
  | inl behind ↦ record {
    each = λ y has. elim (one_of new x y (subst (λ (xs : List PlainConfiguration). Contains xs y) behind has)) [
      | inl before ↦ still_there old x y (are.each y before)
      | inr here ↦ subst (Contains (old ++ x ∷ [])) here (Contains-push old x)
    ];
    all = λ z has. subst (λ (xs : List PlainConfiguration). (y : PlainConfiguration) × Contains xs y × IsSameAs Counts z y) (sym behind) (elim (one_of old x z has) [
      | inl before ↦ (let found = are.all z before in (found.0, still_there new x found.0 found.1, found.2))
      | inr here ↦ (x, Contains-push new x, subst (λ (w : PlainConfiguration). IsSameAs Counts w x) here (refl, alike_self Counts x.tree))
    ]);
  }
  | inr (same, found) ↦ record {
    each = λ y has. still_there old x y (are.each y (subst (λ (xs : List PlainConfiguration). Contains xs y) same has));
    all = λ z has. subst (λ (xs : List PlainConfiguration). (y : PlainConfiguration) × Contains xs y × IsSameAs Counts z y) (sym same) (elim (one_of old x z has) [
      | inl before ↦ are.all z before
      | inr here ↦ (found.0, found.1, subst (λ (w : PlainConfiguration). IsSameAs Counts w found.0) here found.2)
    ]);
  }
]

-- and there are no more than before
pub pushed_length : (Counts : ℕ → Type 0) (old new : List PlainConfiguration) (x : PlainConfiguration) (seen : ℕ) → IsPushedNew Counts old x new → length old ≤ seen → length new ≤ seen + 1
pushed_length Counts old new x seen pushed few = elim pushed [
  | inl behind ↦ (let more = length_push old x in subst (λ (xs : List PlainConfiguration). length xs ≤ seen + 1) (sym behind) (omega (arith, more, few)))
  | inr (same, found) ↦ subst (λ (xs : List PlainConfiguration). length xs ≤ seen + 1) (sym same) (omega (arith, few))
]

-- where there are some, some are left
pub merged_some : (Counts : ℕ → Type 0) (old new : List PlainConfiguration) → AreMerged Counts old new → 0 < length old → 0 < length new
merged_some Counts old new are some =
    let one = some_there old some in
    let has = (are.all one.0 one.1).1 in
    omega (arith, has.1)

-- So what is left is held, where all were.
pub held_by_merged : (c : List Message) (first : TreeState) (common : List Entry) (at : ℕ) (Counts : ℕ → Type 0) → ((opened : ℕ) → IsUsedFrom c at opened → Counts opened)
    → (held new : List PlainConfiguration) → AreMerged Counts held new → AreHeldBy c first common at held → AreHeldBy c first common at new
held_by_merged c first common at Counts counts held new merged are = record {
  are = held_ahead c first at held new (λ y has. are.are.reached y (merged.each y has))
      (λ x has. (let found = merged.all x has in (found.0, found.1, λ knows. same_is_ahead c at Counts counts x found.0 found.2)))
      are.are;
  traced = λ y has. are.traced y (merged.each y has);
}
