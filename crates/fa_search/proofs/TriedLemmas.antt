-- What may be tried, by the calls of the messages: which call an entry names, and where its step leads.
use Rattle.std.proofs.Common.{◌≡◌, ◌⊎◌, ℕ, ◌<◌, List, Option, Some, refl, sym, subst, inl, inr, None}
use Rattle.std.specs.Prelude.{slice_get, Contains}
use Rattle.fa_capture.specs.Checks.{FirstFailure}
use Rattle.fa_capture.specs.Message.{Message}
use Rattle.fa_session.specs.Answers.{IsAnsweredBy, IsUnanswered}
use Rattle.fa_ledger.specs.Calls.{PlainCall, AreCalls}
use Rattle.fa_ledger.specs.Choices.{Allows}
use Rattle.fa_ledger.specs.SoFar.{listing_so_far}
use Rattle.fa_tree.specs.State.{TreeState}
use Rattle.fa_tree.specs.Alike.{AreAlike}
use Rattle.fa_tree.proofs.CallerLemmas.{alike_self, alike_back}
use Rattle.fa_tree.specs.Steps.{Steps, step_checks}
use Rattle.fa_order.specs.declared.entry.Entry.{Entry}
use Rattle.fa_order.proofs.CallerLemmas.{same_entry}
use Rattle.fa_check.specs.Runs.{EntrySteps}
use Rattle.fa_check.specs.Cuts.{IsAnsweredBefore}
use Rattle.fa_check.proofs.CallerLemmas.{entry_is_one, no_step_failure, tree_is_call, call_is_tree, call_of_message, allowed_choice, choice_allowed}
use Rattle.fa_search.specs.parts.Going.{OrThis}
use Rattle.fa_search.specs.Searches.{IsUsedFrom}
use Rattle.fa_search.proofs.AlikeLemmas.{alike_same, knows_alike, leaves_alike}
use Rattle.fa_search.specs.parts.Configurations.{PlainConfiguration, MayBeTried, IsOneMore, IsKnown, LeavesFrom, IsIdleIn, IsAhead, IsAheadIfKnown, IsFollowed, IsPending, IsSpent}

module _ (c : List Message) (calls : List PlainCall) (are : AreCalls c calls) (at : ℕ) where
  -- what may be tried names a call, which allows its count
  pub tried_call : (e : Entry) → MayBeTried c at e → (place : ℕ) × (call : PlainCall) × (slice_get calls place ≡ Some call) × (call.asked ≡ e.at) × Allows call e.wrote
  tried_call e may =
      let found = tree_is_call c calls are e.at may.pending.tree_request in
      (found.0, found.1.0, found.1.1, found.1.2, choice_allowed c calls are e may.choice found.0 found.1.0 found.1.1 found.1.2)

  module _ (place : ℕ) (call : PlainCall) (there : slice_get calls place ≡ Some call) where
    -- a call that was sent before the message and not answered before it, with a count that it allows, may be tried
    pub call_tried : call.asked < at → (IsAnsweredBefore c at call.asked → ⊥) → (wrote : Option ℕ) → Allows call wrote → MayBeTried c at (record { at = call.asked; wrote = wrote })
    call_tried sent waits wrote allowed =
        let e : Entry = record { at = call.asked; wrote = wrote } in
        let choice = allowed_choice c calls are e place call there refl allowed in
        record {
          pending = record { tree_request = call_is_tree c calls are place call there; sent = sent; waits = waits; named = (wrote, choice) };
          choice = choice;
        }

    -- its step is one of the entry
    pub call_steps : (old new : TreeState) (e : Entry) → call.asked ≡ e.at → Steps old new call e.wrote (listing_so_far calls place) → EntrySteps old new c e
    call_steps old new e asked steps = record {
      call = call;
      so_far = listing_so_far calls place;
      of_request = call_of_message c calls are place e.at call there asked;
      steps = steps;
    }

    -- and where that is refused the entry has none
    pub call_refused : (old new : TreeState) (e : Entry) (code : ℕ) → call.asked ≡ e.at → FirstFailure (step_checks old call e.wrote (listing_so_far calls place)) code → EntrySteps old new c e → ⊥
    call_refused old new e code asked fails steps =
        no_step_failure c old new e code steps (record {
          call = call;
          so_far = listing_so_far calls place;
          of_request = call_of_message c calls are place e.at call there asked;
          fails = fails;
        })

-- where the step of an entry leads to what is in one of the two lists, or to what one of them has something ahead of, the entry is followed
pub step_followed : (c : List Message) (at : ℕ) (x y : PlainConfiguration) (e : Entry) (tree : TreeState) (work settled : List PlainConfiguration) → EntrySteps x.tree tree c e
    → IsAheadIfKnown c at (OrThis (Contains x.placed) e.at) tree y → Contains work y ⊎ Contains settled y → (new : TreeState) → EntrySteps x.tree new c e → IsFollowed c at x e new work settled
step_followed c at x y e tree work settled steps ahead there new others = record {
  to = y;
  there = there;
  ahead = subst (λ (t : TreeState). IsAheadIfKnown c at (OrThis (Contains x.placed) e.at) t y) (entry_is_one c x.tree tree new e steps others) ahead;
}

-- where the request that the message answers is the only one in flight, its entry alone is to be followed
pub spent_alone : (c : List Message) (at asked : ℕ) (x : PlainConfiguration) (work settled : List PlainConfiguration) → IsAnsweredBy c asked at → ((p : ℕ) → IsPending c at p → p ≡ asked)
    → ((new : TreeState) → EntrySteps x.tree new c (record { at = asked; wrote = None }) → IsFollowed c at x (record { at = asked; wrote = None }) new work settled) → IsSpent c at x work settled
spent_alone c at asked x work settled by only followed e new may lacks steps =
    let number : e.at ≡ asked = only e.at may.pending in
    let carries : e.wrote ≡ None = may.choice.answered at (subst (λ (k : ℕ). IsAnsweredBy c k at) (sym number) by) in
    let same : e ≡ record { at = asked; wrote = None } = same_entry e (record { at = asked; wrote = None }) number carries in
    subst (λ (f : Entry). IsFollowed c at x f new work settled) (sym same) (followed new (subst (EntrySteps x.tree new c) same steps))

-- ---- what is ahead

-- one more that is placed is
pub one_ahead : (c : List Message) (at : ℕ) (x y : PlainConfiguration) (asked : ℕ) (tree : TreeState) → y.tree ≡ tree → IsOneMore x.placed asked y.placed
    → IsAhead c at (OrThis (Contains x.placed) asked) tree y
one_ahead c at x y asked tree same one = record {
  same = alike_same (IsUsedFrom c at) tree y.tree same;
  all = λ p q by placed. (one p).1 placed;
  others = λ p has. inl ((one p).0 has);
}

-- so is what is placed itself
pub same_ahead : (c : List Message) (at : ℕ) (x : PlainConfiguration) → IsAhead c at (Contains x.placed) x.tree x
same_ahead c at x = record { same = alike_self (IsUsedFrom c at) x.tree; all = λ p q by has. has; others = λ p has. inl has }

-- one more that leaves the tree as it is, and each later one, may be placed in what is ahead,
pub further_ahead : (c : List Message) (at : ℕ) (Placed : ℕ → Type 0) (tree : TreeState) (x y : PlainConfiguration) (e : Entry) → LeavesFrom c x.tree e.at → EntrySteps x.tree y.tree c e
    → IsOneMore x.placed e.at y.placed → IsAhead c at Placed tree x → IsAhead c at Placed tree y
further_ahead c at Placed tree x y e leaves steps one ahead = record {
  same = subst (AreAlike (IsUsedFrom c at) tree) (sym stays) ahead.same;
  all = λ p q by placed. (one p).1 (inl (ahead.all p q by placed));
  others = λ p has. elim ((one p).0 has) [ inl before ↦ ahead.others p before | inr here ↦ inr (subst (IsIdleIn c tree) here idle) ];
}
  where
    stays : y.tree ≡ x.tree
    stays = leaves x.tree y.tree e (λ name known. known) refl steps

    back : AreAlike (IsUsedFrom c at) x.tree tree
    back = alike_back (IsUsedFrom c at) tree x.tree ahead.same

    idle : IsIdleIn c tree e.at
    idle = record {
      leaves = leaves_alike c (IsUsedFrom c at) x.tree tree e.at back leaves;
      knows = λ name makes. knows_alike (IsUsedFrom c at) x.tree tree back name (subst (IsKnown name) stays (makes x.tree y.tree e refl steps));
    }

-- and one without an answer need not be, where it left the tree as it was
pub unanswered_ahead : (c : List Message) (at : ℕ) (x : PlainConfiguration) (asked : ℕ) (tree : TreeState) → IsUnanswered c asked → x.tree ≡ tree
    → IsAhead c at (OrThis (Contains x.placed) asked) tree x
unanswered_ahead c at x asked tree none same = record {
  same = alike_same (IsUsedFrom c at) tree x.tree same;
  all = λ p q by placed. elim placed [ inl has ↦ has | inr here ↦ absurd (none q (subst (λ (k : ℕ). IsAnsweredBy c k q) (sym here) by)) ];
  others = λ p has. inl (inl has);
}
