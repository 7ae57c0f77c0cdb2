-- Configurations with the entries that lead to them: those that all have in common, and then their own.
use Rattle.std.proofs.Common.{ℕ, List, [], ◌∷◌, ◌++◌, sym, subst, ap, ◌∙◌}
use Rattle.std.specs.Prelude.{Contains, Option}
use Rattle.std.proofs.lemmas.List.{append_assoc}
use Rattle.fa_capture.specs.Message.{Message}
use Rattle.fa_ledger.specs.Calls.{PlainCall, AreCalls}
use Rattle.fa_ledger.specs.Choices.{Allows}
use Rattle.fa_tree.specs.State.{TreeState}
use Rattle.fa_order.specs.declared.entry.Entry.{Entry}
use Rattle.fa_search.specs.declared.flight.Pending.{Pending}
use Rattle.fa_search.specs.parts.Configurations.{PlainConfiguration, MayBeTried, IsPending, IsCountUpTo, LeavesIfKnown}
use Rattle.fa_search.specs.parts.Flight.{IsInFlight}
use Rattle.fa_search.specs.parts.Placed.{MayBePlacedAt, IsPlacedIn}
use Rattle.fa_search.specs.parts.Settling.{IsTraced, IsFurther}
use Rattle.fa_search.proofs.GivenLemmas.{knows_ahead}
use Rattle.fa_search.proofs.HeldLemmas.{reached_more, reached_more_by}
use Rattle.fa_search.proofs.FlightLemmas.{counts_allowed, pending_by_call}
use Rattle.fa_search.proofs.TriedLemmas.{call_tried, further_ahead, same_ahead}

-- ---- what is in flight

module _ (calls : List PlainCall) (at : ℕ) (pending : Pending) (is : IsInFlight calls at pending) where
  -- an order may name it with each count up to the most
  pub in_flight_allowed : (wrote : Option ℕ) → IsCountUpTo pending.most wrote → Allows is.call wrote
  in_flight_allowed wrote up = (counts_allowed is.call is.waits.named wrote).1 (subst (λ (most : Option ℕ). IsCountUpTo most wrote) is.kept.most up)

  pub in_flight_placed : (wrote : Option ℕ) → IsCountUpTo pending.most wrote → MayBePlacedAt calls pending.place (record { at = pending.asked; wrote = wrote })
  in_flight_placed wrote up = (is.call, is.listed, sym is.kept.number, in_flight_allowed wrote up)

  module _ (c : List Message) (are : AreCalls c calls) where
    -- and it may be tried so
    pub in_flight_tried : (wrote : Option ℕ) → IsCountUpTo pending.most wrote → MayBeTried c at (record { at = pending.asked; wrote = wrote })
    in_flight_tried wrote up =
        let waits : IsPending c at is.call.asked = (pending_by_call c calls are at pending.place is.call is.listed).1 is.waits in
        subst (λ (k : ℕ). MayBeTried c at (record { at = k; wrote = wrote })) (sym is.kept.number)
        (call_tried c calls are at pending.place is.call is.listed waits.sent waits.waits wrote (in_flight_allowed wrote up))

-- ---- what is traced

-- the entries that come to what an entry leads to are those before, and this one
pub traced_placed : (c : List Message) (first : TreeState) (common : List Entry) (at : ℕ) (x y : PlainConfiguration) (e : Entry) → MayBeTried c at e → (Contains x.placed e.at → ⊥)
    → IsPlacedIn c x e y → IsTraced c first common at x → IsTraced c first common at y
traced_placed c first common at x y e may lacks in_it (reached, traced) = (
  reached_more c first at x y e may lacks in_it.steps in_it.placed reached,
  reached_more_by c first at x y e may lacks in_it.steps in_it.placed reached ∙ ap (λ (es : List Entry). es ++ e ∷ []) traced ∙ append_assoc common x.entries (e ∷ []) ∙ ap (λ (es : List Entry). common ++ es) (sym in_it.entries),
)

-- ---- what is further on

-- one that is as it was is
pub further_same : (c : List Message) (at : ℕ) (x : PlainConfiguration) → IsFurther c at x x
further_same c at x = record { ahead = λ knows. same_ahead c at x; traced = λ first common traced. traced }

-- so is one in which a request is placed that leaves the tree as it is, and each later one, if that knows what was given
pub further_placed : (c : List Message) (at : ℕ) (old x y : PlainConfiguration) (e : Entry) → MayBeTried c at e → LeavesIfKnown c at x e.at → (Contains x.placed e.at → ⊥)
    → IsPlacedIn c x e y → IsFurther c at old x → IsFurther c at old y
further_placed c at old x y e may leaves lacks in_it further = record {
  ahead = λ knows.
      let before = further.ahead knows in
      further_ahead c at (Contains old.placed) old.tree x y e (leaves (knows_ahead c at (Contains old.placed) old.tree x knows before)) in_it.steps in_it.placed before;
  traced = λ first common traced. traced_placed c first common at x y e may lacks in_it (further.traced first common traced);
}
