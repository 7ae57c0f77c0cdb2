-- The outstanding requests: that of the highest unique, and the table of the others.
use Rattle.std.proofs.Common.{◌≡◌, ◌⊎◌, ℕ, ◌<◌, ◌≤◌, true, false, cond, Option, Some, None, refl, sym, ap, subst, ◌∙◌, inl, inr, arith}
use Rattle.std.specs.Prelude.{nat_eq}
use Rattle.std.specs.Map.{lookup}
use Rattle.std.specs.Option.{option_map_or}
use Rattle.std.proofs.lemmas.Bool.{eqb-true, eqb-false}
use Rattle.std.proofs.lemmas.Option.{same_Some}
use Rattle.fa_session.specs.declared.waiting.Waiting.{Waiting}
use Rattle.fa_session.specs.declared.outstanding.Outstanding.TheInside.{Inside as Outstanding}
use Rattle.fa_session.specs.parts.View.{AreOutstanding}

-- two numbers are equal or not
equal_or_not : (a b : ℕ) → ((nat_eq a b ≡ true) × (a ≡ b)) ⊎ ((nat_eq a b ≡ false) × (a ≡ b → ⊥))
equal_or_not a b = elim (nat_eq a b) as (λ t. nat_eq a b ≡ t → ((t ≡ true) × (a ≡ b)) ⊎ ((t ≡ false) × (a ≡ b → ⊥))) [
  | true ↦ λ is. inl (refl, eqb-true a b is)
  | false ↦ λ is. inr (refl, eqb-false a b is)
] refl

-- nothing is no request
nothing_is_none : (w : Waiting) → ◌≡◌ {A = Option Waiting} None (Some w) → ⊥
nothing_is_none w is = absurd cc

-- the request of the highest unique has the unique that is asked for
pub newest_there : (newest : Option Waiting) (unique : ℕ) → option_map_or (λ w. nat_eq w.unique unique) newest false ≡ true
    → (w : Waiting) × (newest ≡ Some w) × (w.unique ≡ unique)
newest_there None unique is = absurd cc
newest_there (Some w) unique is = (w, refl, eqb-true w.unique unique is)

-- or it has not
pub newest_other : (newest : Option Waiting) (unique : ℕ) → option_map_or (λ w. nat_eq w.unique unique) newest false ≡ false
    → (w : Waiting) → newest ≡ Some w → w.unique ≡ unique → ⊥
newest_other None unique not w is = absurd (nothing_is_none w is)
newest_other (Some newest) unique not w is =
    let same : newest ≡ w = same_Some newest w is in
    subst (λ (x : Waiting). x.unique ≡ unique → ⊥) same (eqb-false newest.unique unique not)

-- without the one of the highest unique
pub without_newest : (o p : Outstanding) → AreOutstanding o → p.newest ≡ None → p.earlier ≡ o.earlier → p.highest ≡ o.highest → AreOutstanding p
without_newest o p are none earlier highest = record {
  own = subst (λ t. (unique : ℕ) (w : Waiting) → lookup (nat_eq unique) t.entries ≡ Some w → w.unique ≡ unique) (sym earlier) are.own;
  apart = λ w is. absurd (nothing_is_none w (sym none ∙ is));
  within = subst (λ t. (unique : ℕ) → p.highest < unique → lookup (nat_eq unique) t.entries ≡ None) (sym earlier)
      (subst (λ h. (unique : ℕ) → h < unique → lookup (nat_eq unique) o.earlier.entries ≡ None) (sym highest) are.within);
  newest_within = λ w is. absurd (nothing_is_none w (sym none ∙ is));
}

module _ (o p : Outstanding) (are : AreOutstanding o) where
  -- what a table has where one entry was taken away, it had
  kept_of_removed : (unique other : ℕ) (w : Waiting) → lookup (nat_eq other) p.earlier.entries ≡ cond (nat_eq unique other) None (lookup (nat_eq other) o.earlier.entries)
      → lookup (nat_eq other) p.earlier.entries ≡ Some w → lookup (nat_eq other) o.earlier.entries ≡ Some w
  kept_of_removed unique other w law is = elim (equal_or_not unique other) [
    | inl same ↦ absurd (nothing_is_none w (sym (law ∙ ap (λ b. cond b None (lookup (nat_eq other) o.earlier.entries)) same.0) ∙ is))
    | inr differ ↦ sym (law ∙ ap (λ b. cond b None (lookup (nat_eq other) o.earlier.entries)) differ.0) ∙ is
  ]

  -- and what it had not, it has not
  none_of_removed : (unique other : ℕ) → lookup (nat_eq other) p.earlier.entries ≡ cond (nat_eq unique other) None (lookup (nat_eq other) o.earlier.entries)
      → lookup (nat_eq other) o.earlier.entries ≡ None → lookup (nat_eq other) p.earlier.entries ≡ None
  none_of_removed unique other law none = elim (equal_or_not unique other) [
    | inl same ↦ law ∙ ap (λ b. cond b None (lookup (nat_eq other) o.earlier.entries)) same.0
    | inr differ ↦ law ∙ ap (λ b. cond b None (lookup (nat_eq other) o.earlier.entries)) differ.0 ∙ none
  ]

  -- without one of the others
  pub without_earlier : (unique : ℕ) → p.newest ≡ o.newest → p.highest ≡ o.highest
      → ((other : ℕ) → lookup (nat_eq other) p.earlier.entries ≡ cond (nat_eq unique other) None (lookup (nat_eq other) o.earlier.entries)) → AreOutstanding p
  without_earlier unique newest highest law = record {
    own = λ other w is. are.own other w (kept_of_removed unique other w (law other) is);
    apart = λ w is. none_of_removed unique w.unique (law w.unique) (are.apart w (sym newest ∙ is));
    within = λ other above. none_of_removed unique other (law other) (are.within other (omega (arith, above, highest)));
    newest_within = λ w is. omega (arith, are.newest_within w (sym newest ∙ is), highest);
  }

  -- what a table has where an entry was put in, under its own unique, stands under its own
  own_of_inserted : (n : Waiting) (other : ℕ) (w : Waiting)
      → lookup (nat_eq other) p.earlier.entries ≡ cond (nat_eq n.unique other) (Some n) (lookup (nat_eq other) o.earlier.entries)
      → lookup (nat_eq other) p.earlier.entries ≡ Some w → w.unique ≡ other
  own_of_inserted n other w law is = elim (equal_or_not n.unique other) [
    | inl same ↦
        let one : n ≡ w = same_Some n w (sym (law ∙ ap (λ b. cond b (Some n) (lookup (nat_eq other) o.earlier.entries)) same.0) ∙ is) in
        subst (λ (x : Waiting). x.unique ≡ other) one same.1
    | inr differ ↦ are.own other w (sym (law ∙ ap (λ b. cond b (Some n) (lookup (nat_eq other) o.earlier.entries)) differ.0) ∙ is)
  ]

  -- and at any other unique it has what it had
  none_of_inserted : (n : Waiting) (other : ℕ) → (n.unique ≡ other → ⊥)
      → lookup (nat_eq other) p.earlier.entries ≡ cond (nat_eq n.unique other) (Some n) (lookup (nat_eq other) o.earlier.entries)
      → lookup (nat_eq other) o.earlier.entries ≡ None → lookup (nat_eq other) p.earlier.entries ≡ None
  none_of_inserted n other differ law none = elim (equal_or_not n.unique other) [
    | inl same ↦ absurd (differ same.1)
    | inr apart ↦ law ∙ ap (λ b. cond b (Some n) (lookup (nat_eq other) o.earlier.entries)) apart.0 ∙ none
  ]

  -- a request with a unique above all, where the one of the highest unique so far comes into the table
  pub above_moved : (n w : Waiting) → o.newest ≡ Some n → o.highest < w.unique → p.newest ≡ Some w → p.highest ≡ w.unique
      → ((other : ℕ) → lookup (nat_eq other) p.earlier.entries ≡ cond (nat_eq n.unique other) (Some n) (lookup (nat_eq other) o.earlier.entries))
      → AreOutstanding p
  above_moved n w was above newest highest law = record {
    own = λ other x is. own_of_inserted n other x (law other) is;
    apart = λ x is. subst (λ (y : Waiting). lookup (nat_eq y.unique) p.earlier.entries ≡ None) (same_Some w x (sym newest ∙ is))
        (none_of_inserted n w.unique (λ same. omega (arith, same, above, are.newest_within n was)) (law w.unique) (are.within w.unique above));
    within = λ other beyond. none_of_inserted n other (λ same. omega (arith, same, above, beyond, highest, are.newest_within n was)) (law other) (are.within other (omega (arith, above, beyond, highest)));
    newest_within = λ x is. subst (λ (y : Waiting). y.unique ≤ p.highest) (same_Some w x (sym newest ∙ is)) (omega (arith, highest));
  }

  -- or where there is none
  pub above_alone : (w : Waiting) → o.highest < w.unique → p.newest ≡ Some w → p.highest ≡ w.unique → p.earlier ≡ o.earlier → AreOutstanding p
  above_alone w above newest highest earlier = record {
    own = subst (λ t. (unique : ℕ) (x : Waiting) → lookup (nat_eq unique) t.entries ≡ Some x → x.unique ≡ unique) (sym earlier) are.own;
    apart = λ x is. subst (λ (y : Waiting). lookup (nat_eq y.unique) p.earlier.entries ≡ None) (same_Some w x (sym newest ∙ is))
        (ap (λ t. lookup (nat_eq w.unique) t.entries) earlier ∙ are.within w.unique above);
    within = λ other beyond. ap (λ t. lookup (nat_eq other) t.entries) earlier ∙ are.within other (omega (arith, above, beyond, highest));
    newest_within = λ x is. subst (λ (y : Waiting). y.unique ≤ p.highest) (same_Some w x (sym newest ∙ is)) (omega (arith, highest));
  }

  -- a request in the place of the one of the highest unique
  pub newest_replaced : (w : Waiting) → option_map_or (λ x. nat_eq x.unique w.unique) o.newest false ≡ true → w.unique ≤ o.highest
      → p.newest ≡ Some w → p.highest ≡ o.highest → p.earlier ≡ o.earlier → AreOutstanding p
  newest_replaced w has below newest highest earlier =
      let n = newest_there o.newest w.unique has in
      record {
        own = subst (λ t. (unique : ℕ) (x : Waiting) → lookup (nat_eq unique) t.entries ≡ Some x → x.unique ≡ unique) (sym earlier) are.own;
        apart = λ x is. subst (λ (y : Waiting). lookup (nat_eq y.unique) p.earlier.entries ≡ None) (same_Some w x (sym newest ∙ is))
            (ap (λ t. lookup (nat_eq w.unique) t.entries) earlier ∙ ap (λ (u : ℕ). lookup (nat_eq u) o.earlier.entries) (sym n.2) ∙ are.apart n.0 n.1);
        within = λ other beyond. ap (λ t. lookup (nat_eq other) t.entries) earlier ∙ are.within other (omega (arith, beyond, highest));
        newest_within = λ x is. subst (λ (y : Waiting). y.unique ≤ p.highest) (same_Some w x (sym newest ∙ is)) (omega (arith, below, highest));
      }

  -- a request in the table
  pub earlier_inserted : (w : Waiting) → option_map_or (λ x. nat_eq x.unique w.unique) o.newest false ≡ false → w.unique ≤ o.highest
      → p.newest ≡ o.newest → p.highest ≡ o.highest
      → ((other : ℕ) → lookup (nat_eq other) p.earlier.entries ≡ cond (nat_eq w.unique other) (Some w) (lookup (nat_eq other) o.earlier.entries))
      → AreOutstanding p
  earlier_inserted w other_newest below newest highest law = record {
    own = λ other x is. own_of_inserted w other x (law other) is;
    apart = λ x is.
        let was : o.newest ≡ Some x = sym newest ∙ is in
        none_of_inserted w x.unique (λ same. newest_other o.newest w.unique other_newest x was (sym same)) (law x.unique) (are.apart x was);
    within = λ other beyond. none_of_inserted w other (λ same. omega (arith, same, below, beyond, highest)) (law other) (are.within other (omega (arith, beyond, highest)));
    newest_within = λ x is. omega (arith, are.newest_within x (sym newest ∙ is), highest);
  }
