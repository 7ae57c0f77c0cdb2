-- A search from message to message: what is held behind one more, where it stops, and what it finds at its end.
use Rattle.std.proofs.Common.{◌≡◌, ◌↔◌, ℕ, ◌+◌, ◌<◌, ◌≤◌, List, [], ◌∷◌, ◌++◌, length, get_or, set, Option, Some, None, Result, Ok, Err, IfOk, refl, sym, subst, ap, ◌∙◌, inl, inr, arith}
use Rattle.std.specs.Prelude.{Contains, IfSome, IsNone, IsSomeAnd}
use Rattle.std.proofs.lemmas.List.{append-nil}
use Rattle.std.proofs.lemmas.List.Elements.{All-weaker, Contains-push}
use Rattle.std.specs.declared.alloc.AllocError.{AllocError}
use Rattle.fa_capture.specs.Message.{Message}
use Rattle.fa_capture.proofs.CallerLemmas.{contains_cases, contains_first}
use Rattle.fa_session.specs.Answers.{IsAnsweredBy}
use Rattle.fa_ledger.specs.Passing.{AreGood}
use Rattle.fa_ledger.specs.Calls.{PlainCall, AreCalls}
use Rattle.fa_tree.specs.State.{TreeState}
use Rattle.fa_tree.specs.Alike.{AreAlike}
use Rattle.fa_tree.proofs.CallerLemmas.{alike_self}
use Rattle.fa_order.specs.declared.entry.Entry.{Entry}
use Rattle.fa_check.specs.Orders.{IsTreeRequestAt}
use Rattle.fa_check.specs.Runs.{Runs, IsLegalRun}
use Rattle.fa_check.specs.Cuts.{Explains}
use Rattle.fa_check.specs.Replays.{IsAnswerAt}
use Rattle.fa_check.specs.Faults.{IsOrderAtFault}
use Rattle.fa_check.specs.Verdicts.{IsLegalWith, Exactly}
use Rattle.fa_check.specs.declared.verdict.Verdict.{Verdict}
use Rattle.fa_check.specs.declared.verdict.Verdict.TheVariants.{Legal, Fault, NotShown}
use Rattle.fa_check.proofs.CallerLemmas.{explains_all_is_legal, one_place, legal_has_no_fault}
use Rattle.fa_search.specs.Searches.{IsStop, IsUsedFrom, IsLeastCode, ComesTo, IsRefusedFrom, IsExplainedUpTo, AreSerialBefore, IsFound}
use Rattle.fa_search.specs.declared.finding.Finding.{Finding}
use Rattle.fa_search.specs.declared.finding.Finding.TheVariants.{NoOrder, GaveUp}
use Rattle.fa_search.specs.declared.flight.Due.{Due}
use Rattle.fa_search.specs.declared.flight.Pending.{Pending}
use Rattle.fa_search.specs.declared.flight.InFlight.{InFlight}
use Rattle.fa_search.specs.parts.Configurations.{PlainConfiguration, IsDoneAt, IsPending, AnswersNone, IsAheadIfKnown, IsWithout, AreWithout}
use Rattle.fa_search.specs.parts.Flight.{IsInFlight, IsFlight, IsDue, IsAlone}
use Rattle.fa_search.specs.parts.Settling.{IsTraced, AreHeldBy, IsSettled, AreLeft, HaveNoStep, IsLeastOf, AreWithoutBy}
use Rattle.fa_search.proofs.StopLemmas.{none_placed}
use Rattle.fa_search.proofs.PendingLemmas.{one_answered, done_still, done_answered, none_done, serial_alone}
use Rattle.fa_search.proofs.FlightLemmas.{pending_by_call}
use Rattle.fa_search.proofs.GivenLemmas.{knows_reached, knows_next}
use Rattle.fa_search.proofs.HeldLemmas.{held_first, held_still, held_ahead, held_answered, none_held_stops}
use Rattle.fa_search.proofs.SettlingLemmas.{one_of, still_there}
use Rattle.fa_search.proofs.CodeLemmas.{reached_comes, reached_comes_by, refused_from_alike, tree_is_there}
use Rattle.fa_search.proofs.ReplyLemmas.{answer_tried, asked_answered}

-- ---- without the request that was answered

pub without_none : (asked : ℕ) → AreWithoutBy [] asked []
without_none asked = record { each = λ y has. absurd (omega (arith, has.1)); all = λ x has. absurd (omega (arith, has.1)) }

pub without_more : (xs ys : List PlainConfiguration) (asked : ℕ) (x y : PlainConfiguration) → IsWithout x asked y → y.entries ≡ x.entries → AreWithoutBy xs asked ys
    → AreWithoutBy (xs ++ x ∷ []) asked (ys ++ y ∷ [])
without_more xs ys asked x y is same are = record {
  each = λ z has. elim (one_of ys y z has) [
    | inl before ↦ (let found = are.each z before in (found.0, still_there xs x found.0 found.1, found.2, found.3))
    | inr here ↦ subst (λ (w : PlainConfiguration). (v : PlainConfiguration) × Contains (xs ++ x ∷ []) v × IsWithout v asked w × (w.entries ≡ v.entries)) here
        (x, Contains-push xs x, is, same)
  ];
  all = λ z has. elim (one_of xs x z has) [
    | inl before ↦ (let found = are.all z before in (found.0, still_there ys y found.0 found.1, found.2))
    | inr here ↦ subst (λ (w : PlainConfiguration). (v : PlainConfiguration) × Contains (ys ++ y ∷ []) v × IsWithout w asked v) here (y, Contains-push ys y, is)
  ];
}

-- ---- what is held, each traced

-- before the first message
pub held_by_first : (c : List Message) (first : TreeState) → AreHeldBy c first [] 0 (record { placed = []; tree = first; entries = [] } ∷ [])
held_by_first c first =
    let x : PlainConfiguration = record { placed = []; tree = first; entries = [] } in
    let are = held_first c first in
    record {
      are = are;
      traced = λ y has. elim (contains_cases x [] y has) [
        | inl here ↦ subst (IsTraced c first [] 0) here (
          record { entries = []; rightly = none_placed c; run = refl; exact = λ p. ((λ there. absurd (omega (arith, there.1))), (λ done. absurd (none_done c p done))) },
          refl,
        )
        | inr none ↦ absurd (omega (arith, none.1))
      ];
    }

-- what is done may be said otherwise
traced_same : (c : List Message) (first : TreeState) (common : List Entry) (at other : ℕ) (x y : PlainConfiguration) → y.tree ≡ x.tree
    → ((p : ℕ) → IsDoneAt c at x.placed p ↔ IsDoneAt c other y.placed p) → y.entries ≡ x.entries → IsTraced c first common at x → IsTraced c first common other y
traced_same c first common at other x y trees same entries (reached, traced) = (
  record {
    entries = reached.entries;
    rightly = reached.rightly;
    run = subst (λ (t : TreeState). Runs first t c reached.entries) (sym trees) reached.run;
    exact = λ p. ((λ has. (same p).0 ((reached.exact p).0 has)), (λ done. (reached.exact p).1 ((same p).1 done)));
  },
  traced ∙ ap (λ (es : List Entry). common ++ es) (sym entries),
)

-- behind a message that answers no tree request
pub held_by_still : (c : List Message) (first : TreeState) (common : List Entry) (at : ℕ) (held : List PlainConfiguration) → AnswersNone c at → AreHeldBy c first common at held
    → AreHeldBy c first common (at + 1) held
held_by_still c first common at held none are = record {
  are = held_still c first at held none are.are;
  traced = λ x has. traced_same c first common at (at + 1) x x refl (done_still c at x.placed none) refl (are.traced x has);
}

without_plain : (settled : List PlainConfiguration) (asked : ℕ) (new : List PlainConfiguration) → AreWithoutBy settled asked new → AreWithout settled asked new
without_plain settled asked new are = record { each = λ y has. (let found = are.each y has in (found.0, found.1, found.2)); all = are.all }

-- and behind the answer to one
pub held_by_answered : (c : List Message) (first : TreeState) (common : List Entry) (at asked : ℕ) (left settled new : List PlainConfiguration) → IsTreeRequestAt c asked → IsAnsweredBy c asked at
    → IsSettled c first common at asked left settled → AreWithoutBy settled asked new → AreHeldBy c first common (at + 1) new
held_by_answered c first common at asked left settled new tree by is without = record {
  are = held_answered c first at asked is.held is.work settled new tree by is.are_held is.settling is.spent (without_plain settled asked new without);
  traced = λ y has.
      let of = without.each y has in
      let x : PlainConfiguration = of.0 in
      traced_same c first common at (at + 1) x y of.2.0 (done_answered c at asked x.placed y.placed tree by (is.settling.placed x of.1) of.2.1) of.3 (is.traced x of.1);
}

-- The entries of the only one may be taken to those that all have in common.
pub held_by_joined : (c : List Message) (first : TreeState) (common more : List Entry) (at : ℕ) (x : PlainConfiguration) → more ≡ common ++ x.entries → AreHeldBy c first common at (x ∷ [])
    → AreHeldBy c first more at (record { placed = x.placed; tree = x.tree; entries = [] } ∷ [])
held_by_joined c first common more at x same are =
    let y : PlainConfiguration = record { placed = x.placed; tree = x.tree; entries = [] } in
    let old : IsTraced c first common at x = are.traced x (contains_first x []) in
    let traced : IsTraced c first more at y = (
      record { entries = old.0.entries; rightly = old.0.rightly; run = old.0.run; exact = old.0.exact },
      old.1 ∙ sym same ∙ sym (append-nil more),
    ) in
    let all : (z : PlainConfiguration) → Contains (y ∷ []) z → IsTraced c first more at z = λ z has. elim (contains_cases y [] z has) [
      | inl here ↦ subst (IsTraced c first more at) here traced
      | inr none ↦ absurd (omega (arith, none.1))
    ] in
    record {
      are = held_ahead c first at (x ∷ []) (y ∷ []) (λ z has. (all z has).0)
          (λ z has. (
            y,
            contains_first y [],
            elim (contains_cases x [] z has) [
              | inl here ↦ subst (λ (w : PlainConfiguration). IsAheadIfKnown c at (Contains w.placed) w.tree y) here (λ knows. record { same = alike_self (IsUsedFrom c at) x.tree; all = λ p q by there. there; others = λ p there. inl there })
              | inr none ↦ absurd (omega (arith, none.1))
            ],
          ))
          are.are;
      traced = all;
    }

pub held_by_joined_in : (c : List Message) (first : TreeState) (common more : List Entry) (at : ℕ) (held : List PlainConfiguration) (x y : PlainConfiguration) → length held ≡ 1
    → get_or held 0 x ≡ x → y ≡ record { placed = x.placed; tree = x.tree; entries = [] } → more ≡ common ++ x.entries → AreHeldBy c first common at held → AreHeldBy c first more at (set held 0 y)
held_by_joined_in c first common more at [] x y one here is same are = absurd (omega (arith, one))
held_by_joined_in c first common more at (z ∷ []) x y one here is same are =
    subst (λ (w : PlainConfiguration). AreHeldBy c first more at (w ∷ [])) (sym is)
    (held_by_joined c first common more at x same (subst (λ (w : PlainConfiguration). AreHeldBy c first common at (w ∷ [])) here are))
held_by_joined_in c first common more at (z ∷ w ∷ zs) x y one here is same are = absurd (omega (arith, one))

-- some entries explain the replies before the message
pub held_explains : (c : List Message) (first : TreeState) (common : List Entry) (at : ℕ) (held : List PlainConfiguration) (x : PlainConfiguration) → Contains held x → AreHeldBy c first common at held
    → (es : List Entry) × Explains c first at es
held_explains c first common at held x has are =
    let reached = are.are.reached x has in (
      reached.entries,
      record { placed = reached.rightly; last = x.tree; run = reached.run; held = λ p tree answered. (reached.exact p).1 (inl (tree, answered)) },
    )

-- behind all messages, the entries that lead to one of them are a legal order
pub held_by_is_legal : (c : List Message) (first : TreeState) (common : List Entry) (held : List PlainConfiguration) (x : PlainConfiguration) (es : List Entry) → AreGood c → Contains held x
    → AreHeldBy c first common (length c) held → es ≡ common ++ x.entries → IsLegalRun c first es
held_by_is_legal c first common held x es good has are same =
    let traced = are.traced x has in
    let reached = traced.0 in
    subst (IsLegalRun c first) (traced.1 ∙ sym same)
    (explains_all_is_legal c first reached.entries good
    (record { placed = reached.rightly; last = x.tree; run = reached.run; held = λ p tree answered. (reached.exact p).1 (inl (tree, answered)) }))

-- ---- where it stops

module _ (c : List Message) (first : TreeState) (common : List Entry) (at asked : ℕ) (tree : IsTreeRequestAt c asked) (by : IsAnsweredBy c asked at)
    (held left : List PlainConfiguration) (x : PlainConfiguration) (has : Contains held x) (are : AreHeldBy c first common at held) (is : IsSettled c first common at asked left []) where
  -- what is left is all in which the request is not placed
  left_is_work : left ≡ is.work
  left_is_work = is.left_is refl

  -- some are,
  pub some_left : 0 < length left
  some_left =
      let explained = held_explains c first common at held x has are in
      let rest = is.are_held.complete explained.0 explained.1.last explained.1 explained.1.run in
      let there : Contains is.work rest.from = elim (is.settling.begun rest.from rest.there) [ inl waits ↦ waits | inr done ↦ absurd (omega (arith, done.1)) ] in
      let within = there.1 in
      let long : length left ≡ length is.work = ap length left_is_work in
      omega (arith, within, long)

  -- which have no step
  pub left_have_no_step : HaveNoStep c asked left
  left_have_no_step y there new steps =
      let waits : Contains is.work y = subst (λ (xs : List PlainConfiguration). Contains xs y) left_is_work there in
      let e : Entry = record { at = asked; wrote = None } in
      let followed = is.spent y waits e new (answer_tried c at asked tree by) (is.settling.waiting y waits) steps in
      let knows = knows_next c at (Contains y.placed) y.tree new e steps (knows_reached c first at y (is.settling.reached y (inl waits))) in
      elim followed.there [
        | inl behind ↦ is.settling.waiting followed.to behind ((followed.ahead knows).all asked at by (inr refl))
        | inr done ↦ omega (arith, done.1)
      ]

  -- So no order goes past the message,
  none_goes_past : AreGood c → at < length c → IsStop c first at
  none_goes_past good within =
      none_held_stops c first at x held good within has are.are
      (held_answered c first at asked is.held is.work [] [] tree by is.are_held is.settling is.spent (without_plain [] asked [] (without_none asked)))

  -- each tree to which entries come is that of one which is left, but for openings of no use,
  left_is_all : (es : List Entry) (last : TreeState) (request : ℕ) → ComesTo c first at es last request
      → (request ≡ asked) × ((y : PlainConfiguration) × Contains left y × AreAlike (IsUsedFrom c at) last y.tree)
  left_is_all es last request comes =
      let same : request ≡ asked = one_answered c request asked at comes.answered by in
      let found = tree_is_there c first at asked tree by is.held is.work is.are_held is.settling is.spent es last (subst (ComesTo c first at es last) same comes) in
      (same, (found.0, subst (λ (xs : List PlainConfiguration). Contains xs found.0) (sym left_is_work) found.1, found.2))

  -- entries come to each,
  pub are_left : AreGood c → at < length c → AreLeft c first common at left
  are_left good within = record {
    stop = none_goes_past good within;
    some = some_left;
    each = λ y there.
        let waits : Contains is.work y = subst (λ (xs : List PlainConfiguration). Contains xs y) left_is_work there in
        let traced = is.left_traced y there in
        (asked, subst (λ (es : List Entry). ComesTo c first at es y.tree asked) traced.1 (reached_comes_by c first at asked y tree by (is.settling.waiting y waits) traced.0));
    complete = λ es last request comes. (left_is_all es last request comes).1;
  }

  -- and the least code with which they refuse the request is that of the message.
  pub stops_here : (code : ℕ) → AreGood c → at < length c → IsLeastOf c asked left code → IsStop c first at × IsLeastCode c first at code
  stops_here code good within least = (
    none_goes_past good within,
    record {
      refused =
          let y : PlainConfiguration = least.one.0 in
          let waits : Contains is.work y = subst (λ (xs : List PlainConfiguration). Contains xs y) left_is_work least.one.1 in
          let comes = reached_comes c first at asked y tree by (is.settling.waiting y waits) (is.settling.reached y (inl waits)) in
          (comes.0, y.tree, asked, comes.1, least.one.2);
      least = λ other refused. told other refused.0 refused.1 refused.2 refused.3 refused.4;
    },
  )
    where
      told : (other : ℕ) (es : List Entry) (last : TreeState) (request : ℕ) → ComesTo c first at es last request → IsRefusedFrom last c request other → code ≤ other
      told other es last request comes refused =
          let all = left_is_all es last request comes in
          let found = all.1 in
          let here : IsRefusedFrom last c asked other = subst (λ (k : ℕ). IsRefusedFrom last c k other) all.0 refused in
          least.least found.0 other found.1 (refused_from_alike c at asked tree by last found.0.tree other found.2 here)

-- whether any explain the reply of a request too or not
pub explained_up_to : (c : List Message) (first : TreeState) (common : List Entry) (at : ℕ) (held : List PlainConfiguration) (x : PlainConfiguration) → Contains held x → AreHeldBy c first common at held
    → (asked : ℕ) → IsTreeRequestAt c asked → IsAnsweredBy c asked at → IsExplainedUpTo c first at
explained_up_to c first common at held x has are asked tree by =
    let explained = held_explains c first common at held x has are in
    record { asked = asked; tree_request = tree; answered = by; entries = explained.0; explains = explained.1 }

-- ---- requests one after the other

-- those before an earlier message are so too
pub serial_before : (c : List Message) (at : ℕ) → AreSerialBefore c (at + 1) → AreSerialBefore c at
serial_before c at serial p later tree other before within = serial p later tree other before (omega (arith, within))

-- of these the request that a message answers is alone in flight
pub alone_by_serial : (c : List Message) (calls : List PlainCall) (are : AreCalls c calls) (flight : InFlight) (pending : Pending) → AreSerialBefore c flight.at → IsFlight calls flight
    → IsInFlight calls flight.at pending → IsAnswerAt calls pending.place flight.at → IsAlone flight pending.place
alone_by_serial c calls are flight pending serial all is answer =
    All-weaker (λ (e : Due × Pending). (one : IsInFlight calls flight.at e.1) × IsDue e.0 one.call) (λ (e : Due × Pending). e.1.place ≡ pending.place)
    (λ e one.
    let other = one.0 in
    let by = asked_answered c calls are flight.at pending is answer in
    let waits : IsPending c flight.at other.call.asked = (pending_by_call c calls are flight.at e.1.place other.call other.listed).1 other.waits in
    let same : other.call.asked ≡ pending.asked = serial_alone c flight.at pending.asked serial (by.0, (None, (answer_tried c flight.at pending.asked by.0 by.1).choice)) by.1 other.call.asked waits in
    one_place c calls are e.1.place pending.place other.call is.call other.listed is.listed (same ∙ is.kept.number))
    flight.requests.entries
    all.each

-- ---- the order that is proposed

module _ (c : List Message) (first : TreeState) (es : List Entry) (result : Result Verdict AllocError)
    (legal : (messages placed left : ℕ) → Exactly result (Legal messages placed left) (IsLegalWith c first es messages placed left))
    (not_shown : (entry at code : ℕ) → Exactly result (NotShown entry at code) (IsOrderAtFault c first es entry at code)) (never : (at code : ℕ) → result ≡ Ok (Fault at code) → ⊥) where
  -- where the verdict is that it is legal, it is, with the numbers that are told,
  pub told_legal : (messages placed left : ℕ) → result ≡ Ok (Legal messages placed left) → IsLegalWith c first es (length c) placed left
  told_legal messages placed left is =
      let legal_with = (legal messages placed left).only is in
      subst (λ (n : ℕ). IsLegalWith c first es n placed left) legal_with.messages_are legal_with

  -- and elsewhere it is not
  pub told_not_legal : (verdict : Verdict) → result ≡ Ok verdict → ((messages placed left : ℕ) → verdict ≡ Legal messages placed left → ⊥) → IsLegalRun c first es → ⊥
  told_not_legal (Legal messages placed left) is not run = not messages placed left refl
  told_not_legal (Fault at code) is not run = never at code is
  told_not_legal (NotShown entry at code) is not run = legal_has_no_fault c first es entry at code run ((not_shown entry at code).only is)

-- where an order is legal, it is found by it
pub found_where_legal : (result : Result (Option Finding) AllocError) (order es : List Entry) → order ≡ es → IfOk result (λ found. IfSome found (IsFound order))
    → IfOk result (λ found. IsNone found → ⊥) → IfOk result (λ found. IsSomeAnd found (IsFound es))
found_where_legal (Ok (Some finding)) order es same told never = subst (λ (those : List Entry). IsFound those finding) same told
found_where_legal (Ok None) order es same told never = absurd (never refl)
found_where_legal (Err error) order es same told never = tt

-- what is this order is neither the one nor the other
pub found_is_no_stop : (result : Result Finding AllocError) (order : List Entry) (at code : ℕ) → IfOk result (IsFound order) → result ≡ Ok (NoOrder at code) → ⊥
found_is_no_stop result order at code is same = subst (λ (r : Result Finding AllocError). IfOk r (IsFound order)) same is

pub found_is_not_given_up : (result : Result Finding AllocError) (order : List Entry) (at : ℕ) → IfOk result (IsFound order) → result ≡ Ok (GaveUp at) → ⊥
found_is_not_given_up result order at is same = subst (λ (r : Result Finding AllocError). IfOk r (IsFound order)) same is
