-- The two lists of a loop that settles a request, as they grow: configurations in which it is not placed, and those in which it is.
use Rattle.std.proofs.Common.{◌≡◌, ◌⊎◌, ℕ, List, [], ◌∷◌, ◌++◌, subst, inl, inr, arith}
use Rattle.std.specs.Prelude.{Contains}
use Rattle.std.proofs.lemmas.List.Elements.{Contains-append_cases, Contains-append_left}
use Rattle.fa_capture.specs.Message.{Message}
use Rattle.fa_capture.proofs.CallerLemmas.{contains_cases}
use Rattle.fa_tree.specs.State.{TreeState}
use Rattle.fa_order.specs.declared.entry.Entry.{Entry}
use Rattle.fa_search.specs.parts.Configurations.{PlainConfiguration, IsReached, IsFollowed, IsSpent, AreSettling, AreSpent}

-- ---- one element more

-- it is one of those before, or the new one
pub one_of : (xs : List PlainConfiguration) (x y : PlainConfiguration) → Contains (xs ++ x ∷ []) y → Contains xs y ⊎ (x ≡ y)
one_of xs x y has =
    elim (Contains-append_cases xs (x ∷ []) y has) [
      | inl before ↦ inl before
      | inr last ↦ elim (contains_cases x [] y last) [ inl here ↦ inr here | inr none ↦ absurd (omega (arith, none.1)) ]
    ]

-- what each of these is
pub each_of : (xs : List PlainConfiguration) (x : PlainConfiguration) (Such : PlainConfiguration → Type 0) → ((y : PlainConfiguration) → Contains xs y → Such y) → Such x
    → (y : PlainConfiguration) → Contains (xs ++ x ∷ []) y → Such y
each_of xs x Such each such y has = elim (one_of xs x y has) [ inl before ↦ each y before | inr here ↦ subst Such here such ]

pub still_there : (xs : List PlainConfiguration) (x y : PlainConfiguration) → Contains xs y → Contains (xs ++ x ∷ []) y
still_there xs x y has = Contains-append_left xs (x ∷ []) y has

-- ---- the lists grow

module _ (c : List Message) (first : TreeState) (at asked : ℕ) where
  -- before any is held there is none
  pub none_settling : AreSettling c first at asked [] [] []
  none_settling = record {
    begun = λ x has. absurd (omega (arith, has.1));
    waiting = λ x has. absurd (omega (arith, has.1));
    placed = λ x has. absurd (omega (arith, has.1));
    reached = λ x has. absurd (elim has [ inl waits ↦ omega (arith, waits.1) | inr done ↦ omega (arith, done.1) ]);
  }

  module _ (held work settled : List PlainConfiguration) (x : PlainConfiguration) (is : IsReached c first at x) (settling : AreSettling c first at asked held work settled) where
    -- one more in which the request is not placed
    pub waits_more : (Contains x.placed asked → ⊥) → AreSettling c first at asked held (work ++ x ∷ []) settled
    waits_more lacks = record {
      begun = λ y has. elim (settling.begun y has) [ inl waits ↦ inl (still_there work x y waits) | inr done ↦ inr done ];
      waiting = each_of work x (λ y. Contains y.placed asked → ⊥) settling.waiting lacks;
      placed = settling.placed;
      reached = λ y has. elim has [
        | inl waits ↦ each_of work x (IsReached c first at) (λ z there. settling.reached z (inl there)) is y waits
        | inr done ↦ settling.reached y (inr done)
      ];
    }

    -- and one more in which it is
    pub settled_more : Contains x.placed asked → AreSettling c first at asked held work (settled ++ x ∷ [])
    settled_more has = record {
      begun = λ y there. elim (settling.begun y there) [ inl waits ↦ inl waits | inr done ↦ inr (still_there settled x y done) ];
      waiting = settling.waiting;
      placed = each_of settled x (λ y. Contains y.placed asked) settling.placed has;
      reached = λ y there. elim there [
        | inl waits ↦ settling.reached y (inl waits)
        | inr done ↦ each_of settled x (IsReached c first at) (λ z found. settling.reached z (inr found)) is y done
      ];
    }

  -- one that is in one of the lists was held
  pub held_more : (held work settled : List PlainConfiguration) (x : PlainConfiguration) → Contains work x ⊎ Contains settled x → AreSettling c first at asked held work settled
      → AreSettling c first at asked (held ++ x ∷ []) work settled
  held_more held work settled x there settling = record {
    begun = each_of held x (λ y. Contains work y ⊎ Contains settled y) settling.begun there;
    waiting = settling.waiting;
    placed = settling.placed;
    reached = settling.reached;
  }

-- ---- what is spent

-- the two lists are among two others
abbrev pub AreAmong : (work settled more further : List PlainConfiguration) → Type 0
AreAmong work settled more further = ((x : PlainConfiguration) → Contains work x → Contains more x) × ((x : PlainConfiguration) → Contains settled x → Contains further x)

-- what an entry led to is still there
pub followed_still : (c : List Message) (at : ℕ) (x : PlainConfiguration) (e : Entry) (new : TreeState) (work settled more further : List PlainConfiguration) → AreAmong work settled more further
    → IsFollowed c at x e new work settled → IsFollowed c at x e new more further
followed_still c at x e new work settled more further among followed = record {
  to = followed.to;
  there = elim followed.there [ inl waits ↦ inl (among.0 followed.to waits) | inr done ↦ inr (among.1 followed.to done) ];
  ahead = followed.ahead;
}

-- so what was spent is so still
pub spent_still : (c : List Message) (at : ℕ) (those work settled more further : List PlainConfiguration) → AreAmong work settled more further → AreSpent c at those work settled
    → AreSpent c at those more further
spent_still c at those work settled more further among spent = λ x has e new may lacks steps.
    followed_still c at x e new work settled more further among (spent x has e new may lacks steps)

-- and one more is
pub spent_more : (c : List Message) (at : ℕ) (those work settled : List PlainConfiguration) (x : PlainConfiguration) → IsSpent c at x work settled → AreSpent c at those work settled
    → AreSpent c at (those ++ x ∷ []) work settled
spent_more c at those work settled x is spent = each_of those x (λ y. IsSpent c at y work settled) spent is
