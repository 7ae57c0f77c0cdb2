-- What a search holds, from message to message; and what it says of the messages where nothing is held any more.
use Rattle.std.proofs.Common.{◌≡◌, ◌↔◌, ℕ, ◌+◌, ◌<◌, List, [], ◌∷◌, ◌++◌, length, refl, sym, subst, inl, inr, arith}
use Rattle.std.specs.Prelude.{Contains}
use Rattle.fa_capture.specs.Checks.{AllHold}
use Rattle.fa_capture.specs.Message.{Message}
use Rattle.fa_capture.proofs.CallerLemmas.{contains_cases, contains_first}
use Rattle.fa_session.specs.Answers.{IsAnsweredBy}
use Rattle.fa_ledger.specs.Passing.{AreGood}
use Rattle.fa_tree.specs.State.{TreeState}
use Rattle.fa_tree.proofs.CallerLemmas.{alike_self, alike_on, alike_fewer}
use Rattle.fa_order.specs.declared.entry.Entry.{Entry}
use Rattle.fa_check.specs.Orders.{IsTreeRequestAt, numbers}
use Rattle.fa_check.specs.Runs.{EntrySteps, Runs, HasOrder}
use Rattle.fa_check.specs.Faults.{order_checks}
use Rattle.fa_check.specs.Cuts.{Explains}
use Rattle.fa_check.proofs.CallerLemmas.{explains_all_is_legal, number_more, number_still, number_now, each_more, run_more}
use Rattle.fa_search.specs.Searches.{IsStop, IsUsedFrom}
use Rattle.fa_search.specs.parts.Going.{OrThis, GoesOn}
use Rattle.fa_search.specs.parts.Configurations.{PlainConfiguration, IsDoneAt, MayBeTried, IsOneMore, AnswersNone, IsReached, HasRest, AreHeld, IsAheadIfKnown, AreSettling, AreSpent, AreWithout}
use Rattle.fa_search.proofs.AlikeLemmas.{used_earlier}
use Rattle.fa_search.proofs.StopLemmas.{none_placed, explains_earlier}
use Rattle.fa_search.proofs.PendingLemmas.{done_still, done_answered, none_done}
use Rattle.fa_search.proofs.GivenLemmas.{knows_reached}
use Rattle.fa_search.proofs.GoingLemmas.{goes_on_same, kept_same, GoesOnAhead, ahead_goes_on, order_goes_on}
use Rattle.fa_search.proofs.SettledLemmas.{more_done, all_settled}

-- ---- what entries come to

-- what is done may be said otherwise
reached_same : (c : List Message) (first : TreeState) (at other : ℕ) (x y : PlainConfiguration) → x.tree ≡ y.tree
    → ((p : ℕ) → IsDoneAt c at x.placed p ↔ IsDoneAt c other y.placed p) → IsReached c first at x → IsReached c first other y
reached_same c first at other x y trees same reached = record {
  entries = reached.entries;
  rightly = reached.rightly;
  run = subst (λ (t : TreeState). Runs first t c reached.entries) trees reached.run;
  exact = λ p. ((λ has. (same p).0 ((reached.exact p).0 has)), (λ done. (reached.exact p).1 ((same p).1 done)));
}

-- one more that is placed is done
done_more : (c : List Message) (at asked : ℕ) (placed more : List ℕ) → IsOneMore placed asked more → (p : ℕ) → OrThis (IsDoneAt c at placed) asked p ↔ IsDoneAt c at more p
done_more c at asked placed more one p =
    let same = more_done c at asked placed p in (
      (λ done. elim (same.0 done) [ inl answered ↦ inl answered | inr has ↦ inr ((one p).1 has) ]),
      (λ done. same.1 (elim done [ inl answered ↦ inl answered | inr has ↦ inr ((one p).0 has) ])),
    )

-- what may be tried passes the checks of its place
tried_rightly : (c : List Message) (first : TreeState) (at : ℕ) (x : PlainConfiguration) (e : Entry) (reached : IsReached c first at x) → MayBeTried c at e → (Contains x.placed e.at → ⊥)
    → AllHold (order_checks c reached.entries e)
tried_rightly c first at x e reached may lacks = (
  may.pending.tree_request,
  (
    (λ has. elim ((reached.exact e.at).0 has) [ inl answered ↦ may.pending.waits answered.1 | inr there ↦ lacks there ]),
    (
      (λ p q tree by before. (reached.exact p).1 (inl (tree, (q, by, (let sent = may.pending.sent in omega (arith, before, sent)))))),
      (may.choice, tt),
    ),
  ),
)

-- where it steps, entries come to what it leads to
pub reached_more : (c : List Message) (first : TreeState) (at : ℕ) (x y : PlainConfiguration) (e : Entry) → MayBeTried c at e → (Contains x.placed e.at → ⊥) → EntrySteps x.tree y.tree c e
    → IsOneMore x.placed e.at y.placed → IsReached c first at x → IsReached c first at y
reached_more c first at x y e may lacks steps one reached =
    let es = reached.entries in
    let same = done_more c at e.at x.placed y.placed one in
    record {
      entries = es ++ e ∷ [];
      rightly = each_more c es e reached.rightly (tried_rightly c first at x e reached may lacks);
      run = run_more c first x.tree y.tree es e reached.run steps;
      exact = λ p. (
        (λ has. elim (number_more es e p has) [
          | inl before ↦ (same p).0 (inl ((reached.exact p).0 before))
          | inr here ↦ (same p).0 (inr here)
        ]),
        (λ done. elim ((same p).1 done) [
          | inl before ↦ number_still es e p ((reached.exact p).1 before)
          | inr here ↦ subst (Contains (numbers (es ++ e ∷ []))) here (number_now es e)
        ]),
      );
    }

-- those that came to it, and this one
pub reached_more_by : (c : List Message) (first : TreeState) (at : ℕ) (x y : PlainConfiguration) (e : Entry) (may : MayBeTried c at e) (lacks : Contains x.placed e.at → ⊥)
    (steps : EntrySteps x.tree y.tree c e) (one : IsOneMore x.placed e.at y.placed) (reached : IsReached c first at x)
    → (reached_more c first at x y e may lacks steps one reached).entries ≡ reached.entries ++ e ∷ []
unfolding reached_more
reached_more_by c first at x y e may lacks steps one reached = refl

-- entries that come to a configuration explain the replies before the message
pub reached_explains : (c : List Message) (first : TreeState) (at : ℕ) (x : PlainConfiguration) → IsReached c first at x → (es : List Entry) × Explains c first at es
reached_explains c first at x reached = (
  reached.entries,
  record {
    placed = reached.rightly;
    last = x.tree;
    run = reached.run;
    held = λ p tree answered. (reached.exact p).1 (inl (tree, answered));
  },
)

-- ---- from message to message

-- before the first message the first tree is held, with nothing placed
pub held_first : (c : List Message) (first : TreeState) → AreHeld c first 0 (record { placed = []; tree = first; entries = [] } ∷ [])
held_first c first =
    let x : PlainConfiguration = record { placed = []; tree = first; entries = [] } in
    record {
      reached = λ y has. elim (contains_cases x [] y has) [
        | inl here ↦ subst (IsReached c first 0) here (record {
          entries = [];
          rightly = none_placed c;
          run = refl;
          exact = λ p. ((λ has. absurd (omega (arith, has.1))), (λ done. absurd (none_done c p done)));
        })
        | inr none ↦ absurd (omega (arith, none.1))
      ];
      complete = λ es last explained run. record {
        from = x;
        there = contains_first x [];
        rest = es;
        to = last;
        alike = alike_self (IsUsedFrom c 0) last;
        on = goes_on_same c (λ p. ⊥) (IsDoneAt c 0 []) first last es (λ p. ((λ none. absurd none), none_done c p)) (order_goes_on c first last es explained.placed run);
        kept = λ p q by has. inr has;
      };
    }

-- where the same is done behind one more message, entries go on as they did
rest_same : (c : List Message) (at : ℕ) (held new : List PlainConfiguration) (es : List Entry) (last : TreeState) (rest : HasRest c at held es last) (y : PlainConfiguration) → Contains new y
    → y.tree ≡ rest.from.tree → ((p : ℕ) → IsDoneAt c at rest.from.placed p ↔ IsDoneAt c (at + 1) y.placed p) → HasRest c (at + 1) new es last
rest_same c at held new es last rest y has trees same = record {
  from = y;
  there = has;
  rest = rest.rest;
  to = rest.to;
  on = subst (λ (t : TreeState). GoesOn c (IsDoneAt c (at + 1) y.placed) t rest.to rest.rest) (sym trees)
      (goes_on_same c (IsDoneAt c at rest.from.placed) (IsDoneAt c (at + 1) y.placed) rest.from.tree rest.to rest.rest same rest.on);
  alike = alike_fewer (IsUsedFrom c at) (IsUsedFrom c (at + 1)) last rest.to (used_earlier c at) rest.alike;
  kept = kept_same c (IsDoneAt c at rest.from.placed) (IsDoneAt c (at + 1) y.placed) rest.rest es same rest.kept;
}

-- behind a message that answers no tree request the same are held
pub held_still : (c : List Message) (first : TreeState) (at : ℕ) (held : List PlainConfiguration) → AnswersNone c at → AreHeld c first at held → AreHeld c first (at + 1) held
held_still c first at held none are = record {
  reached = λ x has. reached_same c first at (at + 1) x x refl (done_still c at x.placed none) (are.reached x has);
  complete = λ es last explained run.
      let found = are.complete es last (explains_earlier c first at (at + 1) es (omega arith) explained) run in
      rest_same c at held held es last found found.from found.there refl (done_still c at found.from.placed none);
}

-- Each may be held further on, with requests placed that leave its tree as it is, and each later one.
pub held_ahead : (c : List Message) (first : TreeState) (at : ℕ) (held new : List PlainConfiguration) → ((y : PlainConfiguration) → Contains new y → IsReached c first at y)
    → ((x : PlainConfiguration) → Contains held x → (y : PlainConfiguration) × Contains new y × IsAheadIfKnown c at (Contains x.placed) x.tree y) → AreHeld c first at held → AreHeld c first at new
held_ahead c first at held new reached ahead are = record {
  reached = reached;
  complete = λ es last explained run.
      let found = are.complete es last explained run in
      let x : PlainConfiguration = found.from in
      let to = ahead x found.there in
      let further : GoesOnAhead c at to.0 found.to es (length found.rest) = ahead_goes_on c at (Contains x.placed) x.tree found.to to.0 found.rest es
      (to.2 (knows_reached c first at x (are.reached x found.there))) found.on found.kept in
      record {
        from = to.0;
        there = to.1;
        rest = further.rest;
        to = further.to;
        on = further.on;
        alike = alike_on (IsUsedFrom c at) last found.to further.to found.alike further.alike;
        kept = further.kept;
      };
}

-- Behind the answer to a tree request those are held in which it is placed, without it: entries come to each, and whatever holds that
-- request and went on from one that was held goes on from one of them.
pub held_answered : (c : List Message) (first : TreeState) (at asked : ℕ) (old work settled new : List PlainConfiguration) → IsTreeRequestAt c asked → IsAnsweredBy c asked at
    → AreHeld c first at old → AreSettling c first at asked old work settled → AreSpent c at work work settled → AreWithout settled asked new → AreHeld c first (at + 1) new
held_answered c first at asked old work settled new tree by are settling spent without = record {
  reached = λ y has.
      let of = without.each y has in
      let x : PlainConfiguration = of.0 in
      reached_same c first at (at + 1) x y (sym of.2.0) (done_answered c at asked x.placed y.placed tree by (settling.placed x of.1) of.2.1) (settling.reached x (inr of.1));
  complete = λ es last explained run.
      let has : Contains (numbers es) asked = explained.held asked tree (at, by, omega arith) in
      let found = all_settled c first at asked tree by old work settled settling spent es last has (are.complete es last (explains_earlier c first at (at + 1) es (omega arith) explained) run) in
      let x : PlainConfiguration = found.from in
      let to = without.all x found.there in
      rest_same c at settled new es last found to.0 to.1 to.2.0 (done_answered c at asked x.placed to.0.placed tree by (settling.placed x found.there) to.2.1);
}

-- ---- what it says of the messages

-- where some are held before a message, and none behind it, no order goes past it
pub none_held_stops : (c : List Message) (first : TreeState) (at : ℕ) (x : PlainConfiguration) (held : List PlainConfiguration) → AreGood c → at < length c → Contains held x → AreHeld c first at held
    → AreHeld c first (at + 1) [] → IsStop c first at
none_held_stops c first at x held good within has before behind = record {
  good = good;
  within = within;
  before = reached_explains c first at x (before.reached x has);
  none = λ es explained. (let found = behind.complete es explained.last explained explained.run in omega (arith, found.there.1));
}

-- and where some are held behind all messages, an order is legal
pub held_at_end : (c : List Message) (first : TreeState) (x : PlainConfiguration) (held : List PlainConfiguration) → AreGood c → Contains held x → AreHeld c first (length c) held → HasOrder c first
held_at_end c first x held good has are =
    let found = reached_explains c first (length c) x (are.reached x has) in
    (found.0, explains_all_is_legal c first found.0 good found.1)
