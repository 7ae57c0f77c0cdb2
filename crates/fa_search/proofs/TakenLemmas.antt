-- What is taken in while a request is settled: one of the two lists has what is ahead of it.
use Rattle.std.proofs.Common.{◌≡◌, ◌⊎◌, ℕ, ◌+◌, ◌<◌, ◌≤◌, List, [], ◌∷◌, ◌++◌, refl, sym, subst, ap, ◌∙◌, inl, inr, Result, Ok, Err, arith}
use Rattle.std.specs.Prelude.{Contains, None, Option, Some, slice_get, IsTrue, OnOk}
use Rattle.std.specs.Map.{values_of}
use Rattle.std.proofs.lemmas.Bool.{cases_lt}
use Rattle.std.proofs.lemmas.List.{append_assoc, append-nil}
use Rattle.std.proofs.lemmas.List.Elements.{Contains-append_left, Contains-append_right}
use Rattle.std.proofs.lemmas.Option.{same_Some, slice_get_within, get_or_from_slice_get}
use Rattle.std.proofs.lemmas.Map.Made.{Contains-values_of, Contains-from_values_of}
use Rattle.fa_capture.specs.Message.{Message}
use Rattle.fa_capture.proofs.CallerLemmas.{contains_cases, contains_first, contains_behind, get_kept}
use Rattle.fa_session.specs.Answers.{IsAnsweredBy, IsUnanswered}
use Rattle.fa_ledger.specs.declared.calls.Calls.{Calls}
use Rattle.fa_ledger.specs.Calls.{PlainCall, AreCalls}
use Rattle.fa_ledger.specs.Choices.{Allows}
use Rattle.fa_tree.specs.State.{TreeState}
use Rattle.fa_tree.proofs.CallerLemmas.{alike_back, alike_on, alike_fewer}
use Rattle.fa_order.specs.declared.entry.Entry.{Entry}
use Rattle.fa_order.proofs.CallerLemmas.{same_entry}
use Rattle.fa_check.specs.Runs.{EntrySteps}
use Rattle.fa_check.specs.Verdicts.{AreMessagesOf}
use Rattle.fa_check.proofs.CallerLemmas.{answered_call}
use Rattle.fa_search.specs.Searches.{IsUsedFrom}
use Rattle.fa_search.specs.declared.flight.Due.{Due}
use Rattle.fa_search.specs.declared.flight.InFlight.{InFlight}
use Rattle.fa_search.specs.declared.flight.Pending.{Pending}
use Rattle.fa_search.specs.parts.Going.{OrThis}
use Rattle.fa_search.specs.parts.Configurations.{PlainConfiguration, IsCountUpTo, IsPending, IsCallPending, MayBeTried, IsIdleIn, IsAhead, IsAheadIfKnown, IsFollowed, IsSpent}
use Rattle.fa_search.specs.parts.Flight.{IsInFlight, IsFlight}
use Rattle.fa_search.specs.parts.Placed.{IsPlacedIn, IsSameAs}
use Rattle.fa_search.specs.parts.Settling.{IsTraced, AreSettlingBy, AreSettlingStill, IsFurther, IsIn, AreGrown, IsPushedNew, IsPut}
use Rattle.fa_search.proofs.AlikeLemmas.{knows_alike, leaves_alike}
use Rattle.fa_search.proofs.SettlingLemmas.{each_of, waits_more, settled_more, followed_still}
use Rattle.fa_search.proofs.FlightLemmas.{counts_allowed, pending_by_call}
use Rattle.fa_search.proofs.GivenLemmas.{knows_ahead}
use Rattle.fa_search.proofs.TriedLemmas.{tried_call, step_followed, one_ahead, same_ahead, unanswered_ahead}
use Rattle.fa_search.proofs.TracedLemmas.{in_flight_tried, traced_placed}

-- what holds whatever a result is holds where it is a success
pub on_ok : {A E : Type 0} (r : Result A E) (P : Type 0) → P → OnOk r P
on_ok (Ok value) P is = is
on_ok (Err error) P is = tt

-- ---- what is ahead of what is ahead

pub ahead_ahead : (c : List Message) (at : ℕ) (Placed : ℕ → Type 0) (tree : TreeState) (x y : PlainConfiguration) → IsAhead c at Placed tree x → IsAhead c at (Contains x.placed) x.tree y
    → IsAhead c at Placed tree y
ahead_ahead c at Placed tree x y ahead further = record {
  same = alike_on (IsUsedFrom c at) tree x.tree y.tree ahead.same further.same;
  all = λ p q by placed. further.all p q by (ahead.all p q by placed);
  others = λ p has. elim (further.others p has) [ inl before ↦ ahead.others p before | inr idle ↦ inr (idle_back p idle) ];
}
  where
    idle_back : (p : ℕ) → IsIdleIn c x.tree p → IsIdleIn c tree p
    idle_back p idle =
        let back = alike_back (IsUsedFrom c at) tree x.tree ahead.same in
        record {
          leaves = leaves_alike c (IsUsedFrom c at) x.tree tree p back idle.leaves;
          knows = λ name makes. knows_alike (IsUsedFrom c at) x.tree tree back name (idle.knows name makes);
        }

-- the same, where the tree knows what was given
pub ahead_if_known : (c : List Message) (at : ℕ) (Placed : ℕ → Type 0) (tree : TreeState) (x y : PlainConfiguration) → IsAheadIfKnown c at Placed tree x
    → IsAheadIfKnown c at (Contains x.placed) x.tree y → IsAheadIfKnown c at Placed tree y
ahead_if_known c at Placed tree x y ahead further knows =
    let one = ahead knows in
    ahead_ahead c at Placed tree x y one (further (knows_ahead c at Placed tree x knows one))

pub further_further : (c : List Message) (at : ℕ) (x y z : PlainConfiguration) → IsFurther c at x y → IsFurther c at y z → IsFurther c at x z
further_further c at x y z to further = record {
  ahead = ahead_if_known c at (Contains x.placed) x.tree y z to.ahead further.ahead;
  traced = λ first common traced. further.traced first common (to.traced first common traced);
}

-- What is the same is ahead, where each opening of use counts.
pub same_is_ahead : (c : List Message) (at : ℕ) (Counts : ℕ → Type 0) → ((opened : ℕ) → IsUsedFrom c at opened → Counts opened) → (x y : PlainConfiguration) → IsSameAs Counts x y
    → IsAhead c at (Contains x.placed) x.tree y
same_is_ahead c at Counts counts x y is = record {
  same = alike_fewer Counts (IsUsedFrom c at) x.tree y.tree counts is.1;
  all = λ p q by has. subst (λ (placed : List ℕ). Contains placed p) is.0 has;
  others = λ p has. inl (subst (λ (placed : List ℕ). Contains placed p) (sym is.0) has);
}

-- ---- the two lists grow

pub grown_same : (work settled : List PlainConfiguration) → AreGrown work settled work settled
grown_same work settled = record { behind = []; beside = []; work_is = sym (append-nil work); settled_is = sym (append-nil settled) }

longer : (xs ys zs behind last : List PlainConfiguration) → ys ≡ xs ++ behind → zs ≡ ys ++ last → zs ≡ xs ++ (behind ++ last)
longer xs ys zs behind last one two = two ∙ ap (λ (l : List PlainConfiguration). l ++ last) one ∙ append_assoc xs behind last

pub grown_more : (work settled more further work_at_end settled_at_end : List PlainConfiguration) → AreGrown work settled more further → AreGrown more further work_at_end settled_at_end
    → AreGrown work settled work_at_end settled_at_end
grown_more work settled more further work_at_end settled_at_end one two = record {
  behind = one.behind ++ two.behind;
  beside = one.beside ++ two.beside;
  work_is = longer work more work_at_end one.behind two.behind one.work_is two.work_is;
  settled_is = longer settled further settled_at_end one.beside two.beside one.settled_is two.settled_is;
}

grown_has : (xs ys behind : List PlainConfiguration) (x : PlainConfiguration) → ys ≡ xs ++ behind → Contains xs x → Contains ys x
grown_has xs ys behind x is has = subst (λ (l : List PlainConfiguration). Contains l x) (sym is) (Contains-append_left xs behind x has)

-- what is at a place of a list is in it
pub get_there : (xs : List PlainConfiguration) (place : ℕ) (x : PlainConfiguration) → slice_get xs place ≡ Some x → Contains xs x
get_there xs place x is = (place, slice_get_within xs place x is, get_or_from_slice_get xs place x x is)

-- what was there is there
pub grown_among : (work settled more further : List PlainConfiguration) → AreGrown work settled more further
    → ((x : PlainConfiguration) → Contains work x → Contains more x) × ((x : PlainConfiguration) → Contains settled x → Contains further x)
grown_among work settled more further grown = (
  (λ x has. grown_has work more grown.behind x grown.work_is has),
  (λ x has. grown_has settled further grown.beside x grown.settled_is has),
)

-- ---- what is pushed, unless the same one is there

module _ (Counts : ℕ → Type 0) (old : List PlainConfiguration) (x : PlainConfiguration) (new : List PlainConfiguration) (pushed : IsPushedNew Counts old x new) where
  pushed_behind : (behind : List PlainConfiguration) × (new ≡ old ++ behind)
  pushed_behind = elim pushed [ inl more ↦ (x ∷ [], more) | inr same ↦ ([], same.0 ∙ sym (append-nil old)) ]

  pushed_ahead : (c : List Message) (at : ℕ) → ((opened : ℕ) → IsUsedFrom c at opened → Counts opened) → (y : PlainConfiguration) × Contains new y × IsAhead c at (Contains x.placed) x.tree y
  pushed_ahead c at counts = elim pushed [
    | inl more ↦ (x, subst (λ (l : List PlainConfiguration). Contains l x) (sym more) (Contains-append_right old (x ∷ []) x (contains_first x [])), same_ahead c at x)
    | inr same ↦ (same.1.0, subst (λ (l : List PlainConfiguration). Contains l same.1.0) (sym same.0) same.1.1, same_is_ahead c at Counts counts x same.1.0 same.1.2)
  ]

module _ (Counts : ℕ → Type 0) (asked : ℕ) (x : PlainConfiguration) (work settled more further : List PlainConfiguration) (put : IsPut Counts asked x work settled more further) where
  pub put_grown : AreGrown work settled more further
  put_grown = elim put [
    | inl has ↦
        let pushed = pushed_behind Counts settled x further has.2 in
        record { behind = []; beside = pushed.0; work_is = has.1 ∙ sym (append-nil work); settled_is = pushed.1 }
    | inr lacks ↦
        let pushed = pushed_behind Counts work x more lacks.1 in
        record { behind = pushed.0; beside = []; work_is = pushed.1; settled_is = lacks.2 ∙ sym (append-nil settled) }
  ]

  pub put_in : (c : List Message) (at : ℕ) → ((opened : ℕ) → IsUsedFrom c at opened → Counts opened) → IsIn c at x more further
  put_in c at counts = elim put [
    | inl has ↦ (let to = pushed_ahead Counts settled x further has.2 c at counts in record { to = to.0; there = inr to.1; ahead = λ knows. to.2 })
    | inr lacks ↦ (let to = pushed_ahead Counts work x more lacks.1 c at counts in record { to = to.0; there = inl to.1; ahead = λ knows. to.2 })
  ]

  module _ (c : List Message) (first : TreeState) (common : List Entry) (at : ℕ) (held : List PlainConfiguration) (traced : IsTraced c first common at x)
      (settling : AreSettlingBy c first common at asked held work settled) where
    still_settling : more ≡ work → further ≡ settled → AreSettlingBy c first common at asked held more further
    still_settling works settles =
        subst (λ (l : List PlainConfiguration). AreSettlingBy c first common at asked held l further) (sym works)
        (subst (λ (l : List PlainConfiguration). AreSettlingBy c first common at asked held work l) (sym settles) settling)

    one_settled : Contains x.placed asked → more ≡ work → further ≡ settled ++ x ∷ [] → AreSettlingBy c first common at asked held more further
    one_settled has works settles =
        let more_settled : AreSettlingBy c first common at asked held work (settled ++ x ∷ []) = record {
          are = settled_more c first at asked held work settled x traced.0 settling.are has;
          traced = λ y there. elim there [
            | inl waits ↦ settling.traced y (inl waits)
            | inr done ↦ each_of settled x (IsTraced c first common at) (λ z found. settling.traced z (inr found)) traced y done
          ];
        } in
        subst (λ (l : List PlainConfiguration). AreSettlingBy c first common at asked held l further) (sym works)
        (subst (λ (l : List PlainConfiguration). AreSettlingBy c first common at asked held work l) (sym settles) more_settled)

    one_waits : (Contains x.placed asked → ⊥) → more ≡ work ++ x ∷ [] → further ≡ settled → AreSettlingBy c first common at asked held more further
    one_waits lacks works settles =
        let more_waits : AreSettlingBy c first common at asked held (work ++ x ∷ []) settled = record {
          are = waits_more c first at asked held work settled x traced.0 settling.are lacks;
          traced = λ y there. elim there [
            | inl waits ↦ each_of work x (IsTraced c first common at) (λ z found. settling.traced z (inl found)) traced y waits
            | inr done ↦ settling.traced y (inr done)
          ];
        } in
        subst (λ (l : List PlainConfiguration). AreSettlingBy c first common at asked held l further) (sym works)
        (subst (λ (l : List PlainConfiguration). AreSettlingBy c first common at asked held (work ++ x ∷ []) l) (sym settles) more_waits)

    pub put_settling : AreSettlingBy c first common at asked held more further
    put_settling = elim put [
      | inl has ↦ elim has.2 [ inl pushed ↦ one_settled has.0 has.1 pushed | inr same ↦ still_settling has.1 same.0 ]
      | inr lacks ↦ elim lacks.1 [ inl pushed ↦ one_waits lacks.0 pushed lacks.2 | inr same ↦ still_settling same.0 lacks.2 ]
    ]

-- ---- what is taken in

pub in_further : (c : List Message) (at : ℕ) (x y : PlainConfiguration) (work settled : List PlainConfiguration) → IsFurther c at x y → IsIn c at y work settled → IsIn c at x work settled
in_further c at x y work settled further is = record { to = is.to; there = is.there; ahead = ahead_if_known c at (Contains x.placed) x.tree y is.to further.ahead is.ahead }

-- ---- what is in flight, one after the other

-- each of these is
abbrev pub AreInFlight : List PlainCall → (at : ℕ) → List Pending → Type 0
AreInFlight calls at those = (pending : Pending) → Contains those pending → IsInFlight calls at pending

pub flight_in_flight : (calls : List PlainCall) (flight : InFlight) → IsFlight calls flight → AreInFlight calls flight.at (values_of flight.requests.entries)
flight_in_flight calls flight is pending has =
    let entry = Contains-from_values_of flight.requests.entries pending has in
    let here = entry.1 in
    subst (λ (e : Due × Pending). IsInFlight calls flight.at e.1) here.2 (is.each here.0 (entry.0, pending) here.1).0

module _ (calls : List PlainCall) (at : ℕ) (those : List Pending) (pending : Pending) (rest : List Pending) (is : those ≡ pending ∷ rest) (are : AreInFlight calls at those) where
  pub first_in_flight : IsInFlight calls at pending
  first_in_flight = are pending (subst (λ (l : List Pending). Contains l pending) (sym is) (contains_first pending rest))

  pub rest_in_flight : AreInFlight calls at rest
  rest_in_flight = λ other has. are other (subst (λ (l : List Pending). Contains l other) (sym is) (contains_behind pending rest other has))

-- what is taken in leads from the two lists to the other two
abbrev pub TakesIn : Calls → (at asked : ℕ) → (one : PlainConfiguration) → (work settled more further : List PlainConfiguration) → Type 0
TakesIn calls at asked one work settled more further =
    (c : List Message) (first : TreeState) (common : List Entry) (held : List PlainConfiguration) → AreMessagesOf calls c → IsTraced c first common at one
    → AreSettlingBy c first common at asked held work settled → AreSettlingBy c first common at asked held more further

-- where it is what an entry of a request in flight leads to, nothing more is asked
pub taken_settling : (calls : Calls) (at asked : ℕ) (pending : Pending) (wrote : Option ℕ) (x one : PlainConfiguration) (work settled more further : List PlainConfiguration) → IsInFlight calls.list at pending
    → IsCountUpTo pending.most wrote → (Contains x.placed pending.asked → ⊥) → Contains work x
    → ((c : List Message) → AreMessagesOf calls c → IsPlacedIn c x (record { at = pending.asked; wrote = wrote }) one) → TakesIn calls at asked one work settled more further
    → AreSettlingStill calls at asked work settled more further
taken_settling calls at asked pending wrote x one work settled more further is up lacks there placed takes = λ c first common held are settling.
    takes c first common held are
    (traced_placed c first common at x one (record { at = pending.asked; wrote = wrote }) (in_flight_tried calls.list at pending is c are.are wrote up) lacks (placed c are)
    (settling.traced x (inl there))) settling

-- ---- what is followed

-- a request in flight that is never answered has no answer among the messages
pub never_answered : (c : List Message) (calls : List PlainCall) → AreCalls c calls → (at : ℕ) (pending : Pending) → IsInFlight calls at pending → IsTrue pending.unanswered → IsUnanswered c pending.asked
never_answered c calls are at pending is never = λ q by.
    let answer = answered_call c calls are pending.place is.call q is.listed (subst (λ (k : ℕ). IsAnsweredBy c k q) is.kept.number by) in
    let same : answer.0 ≡ is.call = same_Some answer.0 is.call (sym answer.2 ∙ is.listed) in
    let has : is.call.answer ≡ Some answer.1 = subst (λ (call : PlainCall). call.answer ≡ Some answer.1) same answer.3 in
    let clash = sym (is.kept.unanswered never) ∙ has in
    absurd cc

module _ (c : List Message) (at : ℕ) (x : PlainConfiguration) (e : Entry) (one : PlainConfiguration) (in_it : IsPlacedIn c x e one) (work settled : List PlainConfiguration) where
  -- an entry is followed where what it leads to is taken in,
  pub taken_followed : IsIn c at one work settled → (new : TreeState) → EntrySteps x.tree new c e → IsFollowed c at x e new work settled
  taken_followed is new steps =
      step_followed c at x is.to e one.tree work settled in_it.steps
      (ahead_if_known c at (OrThis (Contains x.placed) e.at) one.tree one is.to (λ knows. one_ahead c at x one e.at one.tree refl in_it.placed) is.ahead) is.there new steps

  -- and where it changes nothing and its request is never answered
  pub kept_followed : IsUnanswered c e.at → one.tree ≡ x.tree → Contains work x → (new : TreeState) → EntrySteps x.tree new c e → IsFollowed c at x e new work settled
  kept_followed none same there new steps =
      step_followed c at x x e one.tree work settled in_it.steps (λ knows. unanswered_ahead c at x e.at one.tree none (sym same)) (inl there) new steps

-- ---- what is tried, one after the other

-- what stands at a place still does
pub grown_get : (work settled more further : List PlainConfiguration) (place : ℕ) (x : PlainConfiguration) → AreGrown work settled more further → slice_get work place ≡ Some x → slice_get more place ≡ Some x
grown_get work settled more further place x grown is = subst (λ (l : List PlainConfiguration). slice_get l place ≡ Some x) (sym grown.work_is) (get_kept work grown.behind place x is)

-- this entry is followed,
abbrev pub FollowsEntry : Calls → (at : ℕ) → PlainConfiguration → Entry → (work settled : List PlainConfiguration) → Type 0
FollowsEntry calls at x e work settled = (c : List Message) (new : TreeState) → AreMessagesOf calls c → EntrySteps x.tree new c e → IsFollowed c at x e new work settled

-- those of a request with the counts below this one are,
abbrev pub FollowsCounts : Calls → (at : ℕ) → PlainConfiguration → (asked below : ℕ) → (work settled : List PlainConfiguration) → Type 0
FollowsCounts calls at x asked below work settled =
    (c : List Message) (count : ℕ) (new : TreeState) → AreMessagesOf calls c → count < below → EntrySteps x.tree new c (record { at = asked; wrote = Some count })
    → IsFollowed c at x (record { at = asked; wrote = Some count }) new work settled

-- and those of a request in flight, if it is not placed
abbrev pub FollowsPending : Calls → (at : ℕ) → PlainConfiguration → Pending → (work settled : List PlainConfiguration) → Type 0
FollowsPending calls at x pending work settled =
    (c : List Message) (e : Entry) (new : TreeState) → AreMessagesOf calls c → e.at ≡ pending.asked → IsCountUpTo pending.most e.wrote → (Contains x.placed e.at → ⊥) → EntrySteps x.tree new c e
    → IsFollowed c at x e new work settled

module _ (calls : Calls) (at : ℕ) (x : PlainConfiguration) (work settled more further : List PlainConfiguration) (grown : AreGrown work settled more further) where
  -- one count more
  pub counts_more : (asked below : ℕ) → FollowsCounts calls at x asked below work settled → FollowsEntry calls at x (record { at = asked; wrote = Some below }) more further
      → FollowsCounts calls at x asked (below + 1) more further
  counts_more asked below before now = λ c count new are less. elim (cases_lt count below) [
    | inl early ↦ λ steps.
        followed_still c at x (record { at = asked; wrote = Some count }) new work settled more further (grown_among work settled more further grown) (before c count new are early steps)
    | inr late ↦
        let same : below ≡ count = omega (arith, less, late) in
        subst (λ (k : ℕ). EntrySteps x.tree new c (record { at = asked; wrote = Some k }) → IsFollowed c at x (record { at = asked; wrote = Some k }) new more further) same (now c new are)
  ]

  pub pending_still : (pending : Pending) → FollowsPending calls at x pending work settled → FollowsPending calls at x pending more further
  pending_still pending follows = λ c e new are number up lacks steps.
      followed_still c at x e new work settled more further (grown_among work settled more further grown) (follows c e new are number up lacks steps)

module _ (calls : Calls) (at : ℕ) (x : PlainConfiguration) (pending : Pending) (work settled : List PlainConfiguration) where
  -- where it has no count, that is one entry
  pub without_followed : pending.most ≡ None → FollowsEntry calls at x (record { at = pending.asked; wrote = None }) work settled → FollowsPending calls at x pending work settled
  without_followed none follows = λ c e new are number up lacks steps.
      let carries : e.wrote ≡ None = subst (λ (most : Option ℕ). IsCountUpTo most e.wrote) none up in
      let only : Entry = record { at = pending.asked; wrote = None } in
      let same : e ≡ only = same_entry e only number carries in
      subst (λ (f : Entry). IsFollowed c at x f new work settled) (sym same) (follows c new are (subst (EntrySteps x.tree new c) same steps))

  -- and otherwise those with the counts up to the most
  pub counts_followed : (most : ℕ) → pending.most ≡ Some most
      → ((c : List Message) (count : ℕ) (new : TreeState) → AreMessagesOf calls c → count ≤ most → EntrySteps x.tree new c (record { at = pending.asked; wrote = Some count })
      → IsFollowed c at x (record { at = pending.asked; wrote = Some count }) new work settled) → FollowsPending calls at x pending work settled
  counts_followed most some follows = λ c e new are number up lacks steps.
      let count : (count : ℕ) × (e.wrote ≡ Some count) × (count ≤ most) = subst (λ (m : Option ℕ). IsCountUpTo m e.wrote) some up in
      let this : Entry = record { at = pending.asked; wrote = Some count.0 } in
      let same : e ≡ this = same_entry e this number count.1 in
      subst (λ (f : Entry). IsFollowed c at x f new work settled) (sym same) (follows c count.0 new are count.2 (subst (EntrySteps x.tree new c) same steps))

-- each of those in flight is still to be tried, or followed
abbrev pub AreTriedOrLeft : Calls → (at : ℕ) → PlainConfiguration → (those left : List Pending) → (work settled : List PlainConfiguration) → Type 0
AreTriedOrLeft calls at x those left work settled = (pending : Pending) → Contains those pending → Contains left pending ⊎ FollowsPending calls at x pending work settled

-- one more is tried
pub tried_more : (calls : Calls) (at : ℕ) (x : PlainConfiguration) (those left rest : List Pending) (pending : Pending) (work settled more further : List PlainConfiguration) → AreGrown work settled more further
    → left ≡ pending ∷ rest → FollowsPending calls at x pending more further → AreTriedOrLeft calls at x those left work settled → AreTriedOrLeft calls at x those rest more further
tried_more calls at x those left rest pending work settled more further grown is now before = λ other has. elim (before other has) [
  | inl waits ↦ elim (contains_cases pending rest other (subst (λ (l : List Pending). Contains l other) is waits)) [
    | inl here ↦ inr (subst (λ (p : Pending). FollowsPending calls at x p more further) here now)
    | inr behind ↦ inl behind
  ]
  | inr done ↦ inr (pending_still calls at x work settled more further grown other done)
]

-- an entry that names a call in flight is followed where all are
call_followed : (calls : Calls) (at : ℕ) (x : PlainConfiguration) (work settled : List PlainConfiguration) (c : List Message) → AreMessagesOf calls c → (pending : Pending) → IsInFlight calls.list at pending
    → FollowsPending calls at x pending work settled → (call : PlainCall) → slice_get calls.list pending.place ≡ Some call → (e : Entry) → call.asked ≡ e.at → Allows call e.wrote → (Contains x.placed e.at → ⊥)
    → (new : TreeState) → EntrySteps x.tree new c e → IsFollowed c at x e new work settled
call_followed calls at x work settled c are pending is follows call listed e asked allowed lacks new steps =
    let same : call ≡ is.call = same_Some call is.call (sym listed ∙ is.listed) in
    let number : e.at ≡ pending.asked = sym asked ∙ ap (λ (k : PlainCall). k.asked) same ∙ sym is.kept.number in
    let here : Allows is.call e.wrote = subst (λ (k : PlainCall). Allows k e.wrote) same allowed in
    let up : IsCountUpTo pending.most e.wrote = subst (λ (most : Option ℕ). IsCountUpTo most e.wrote) (sym is.kept.most) ((counts_allowed is.call is.waits.named e.wrote).0 here) in
    follows c e new are number up lacks steps

-- so the configuration is spent
pub all_tried_spent : (calls : Calls) (flight : InFlight) (x : PlainConfiguration) (work settled : List PlainConfiguration) → IsFlight calls.list flight
    → AreTriedOrLeft calls flight.at x (values_of flight.requests.entries) [] work settled → (c : List Message) → AreMessagesOf calls c → IsSpent c flight.at x work settled
all_tried_spent calls flight x work settled is tried c are = λ e new may lacks steps.
    let found = tried_call c calls.list are.are flight.at e may in
    of_call e new may lacks steps found.0 found.1 found.2 found.3 found.4
  where
    of_call : (e : Entry) (new : TreeState) → MayBeTried c flight.at e → (Contains x.placed e.at → ⊥) → EntrySteps x.tree new c e → (place : ℕ) (call : PlainCall) → slice_get calls.list place ≡ Some call
        → call.asked ≡ e.at → Allows call e.wrote → IsFollowed c flight.at x e new work settled
    of_call e new may lacks steps place call there asked allowed =
        let waits : IsCallPending flight.at call = (pending_by_call c calls.list are.are flight.at place call there).0 (subst (λ (k : ℕ). IsPending c flight.at k) (sym asked) may.pending) in
        let entry = is.all place call there waits in
        let has : Contains (values_of flight.requests.entries) entry.0.1 = Contains-values_of flight.requests.entries entry.0.0 entry.0.1 entry.1 in
        let listed : slice_get calls.list entry.0.1.place ≡ Some call = subst (λ (k : ℕ). slice_get calls.list k ≡ Some call) (sym entry.2) there in
        elim (tried entry.0.1 has) [
          | inl left ↦ absurd (omega (arith, left.1))
          | inr follows ↦
              call_followed calls flight.at x work settled c are entry.0.1 (flight_in_flight calls.list flight is entry.0.1 has) follows call listed e asked allowed lacks new steps
        ]
