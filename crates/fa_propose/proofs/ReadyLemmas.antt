-- The entries that may come next: behind a call that is taken in, and behind an entry that is placed.
use Rattle.std.proofs.Common.{◌≡◌, ℕ, zero, suc, ◌+◌, ◌<◌, ◌≤◌, List, [], ◌∷◌, ◌++◌, length, Some, None, sym, ap, subst, ◌∙◌, inl, inr, arith}
use Rattle.std.specs.Prelude.{slice_get, Contains}
use Rattle.std.proofs.lemmas.Bool.{cases_lt, cases_eq}
use Rattle.std.proofs.lemmas.Option.{same_Some, slice_get_within}
use Rattle.fa_capture.specs.Checks.{AllHold}
use Rattle.fa_capture.specs.Message.{Message}
use Rattle.fa_ledger.specs.Calls.{PlainCall, AreCalls}
use Rattle.fa_ledger.specs.Choices.{Allows}
use Rattle.fa_ledger.proofs.CallerLemmas.{call_at}
use Rattle.fa_order.specs.declared.entry.Entry.{Entry}
use Rattle.fa_check.specs.Orders.{numbers}
use Rattle.fa_check.specs.Faults.{order_checks}
use Rattle.fa_check.specs.Replays.{IsFront}
use Rattle.fa_check.proofs.CallerLemmas.{may_come_next, comes_before_front, asked_rise, one_place, number_more, number_still, number_now}
use Rattle.fa_propose.specs.declared.rank.Rank.{Rank}
use Rattle.fa_propose.specs.Proposals.{entry_of, IsCandidate, IsRank}
use Rattle.fa_propose.specs.parts.Ready.{IsReadyCall, HasEntry, IsReady, AreAllSeen, IsOffered, MayEachComeNext}
use Rattle.fa_propose.proofs.RankLemmas.{rank_is_one, ranked_place}

-- ---- the calls of the list

-- where no call stands, the list has ended
pub past_end : (calls : List PlainCall) (seen : ℕ) → slice_get calls seen ≡ None → length calls ≤ seen
past_end [] seen none = omega arith
past_end (call ∷ calls) zero none = absurd cc
past_end (call ∷ calls) (suc seen) none = omega (arith, past_end calls seen none)

-- ---- at first

-- no call is looked at
pub none_ready : (c : List Message) (calls : List PlainCall) (seen : ℕ) (ready : List (Rank × Entry)) → seen ≡ 0 → ready ≡ [] → IsReady c calls [] seen ready
none_ready c calls seen ready start empty = record {
  each = λ rank entry has. absurd (let gone : Contains [] (rank, entry) = subst (λ (ps : List (Rank × Entry)). Contains ps (rank, entry)) empty has in omega (arith, gone.1));
  complete = λ place call before. absurd (omega (arith, before, start));
  placed = λ place call there has. absurd (omega (arith, has.1));
}

-- each may come next
pub each_may_come : (c : List Message) (calls : List PlainCall) (es : List Entry) (seen : ℕ) (ready : List (Rank × Entry)) → IsReady c calls es seen ready → MayEachComeNext c es ready
each_may_come c calls es seen ready is rank entry has =
    let found = is.each rank entry has in
    subst (λ (e : Entry). AllHold (order_checks c es e)) (sym found.proposes) found.candidate.placed_rightly

module _ (c : List Message) (calls : List PlainCall) (are : AreCalls c calls) (es : List Entry) where
  -- ---- a call is taken in

  module _ (front : ℕ) (is_front : IsFront c es front) (seen : ℕ) where
    -- a candidate that is taken in
    taken : (old : List (Rank × Entry)) → IsReady c calls es seen old → (call : PlainCall) → slice_get calls seen ≡ Some call → call.asked ≤ front → Allows call (entry_of call).wrote → IsCandidate c es call
    taken old is call there before allowed = record {
      events = are.events;
      are = are.are;
      exact = call_at are.events calls are.exact.each seen call there;
      placed_rightly =
          may_come_next c calls are es front is_front seen call (entry_of call).wrote there before
          (λ has. let within = is.placed seen call there has in omega (arith, within)) allowed;
    }

    pub one_more : (old new : List (Rank × Entry)) (call : PlainCall) → slice_get calls seen ≡ Some call → call.asked ≤ front → IsOffered call old new → IsReady c calls es seen old → IsReady c calls es (seen + 1) new
    one_more old new call there before offered is = record {
      each = λ rank entry has. elim (offered.from rank entry has) [
        | inl was ↦
            let found = is.each rank entry was in
            record {
              place = found.place;
              call = found.call;
              looked_at = (let below = found.looked_at in omega (arith, below));
              there = found.there;
              ranked = found.ranked;
              proposes = found.proposes;
              candidate = found.candidate;
            }
        | inr added ↦ record {
          place = seen;
          call = call;
          looked_at = omega arith;
          there = there;
          ranked = added.1;
          proposes = added.2;
          candidate = taken old is call there before added.0;
        }
      ];
      complete = λ place other below stands unplaced allowed. elim (cases_lt place seen) [
        | inl earlier ↦
            let entry = is.complete place other earlier stands unplaced allowed in (
              entry.0,
              entry.1,
              offered.kept entry.0 (entry_of other) (λ ranked. let same = ranked_place c calls are entry.0 place seen other call stands there entry.1 ranked in omega (arith, same, earlier)) entry.2,
            )
        | inr late ↦
            let here : place ≡ seen = omega (arith, below, late) in
            let same : call ≡ other = same_Some call other (sym there ∙ ap (slice_get calls) (sym here) ∙ stands) in
            subst (HasEntry new) same (offered.added (subst (λ (x : PlainCall). Allows x (entry_of x).wrote) (sym same) allowed))
      ];
      placed = λ place other stands has. let below = is.placed place other stands has in omega (arith, below);
    }

    -- ---- all candidates were looked at

    -- at the end of the list
    pub end_seen : length calls ≤ seen → AreAllSeen c calls es seen
    end_seen end place call there candidate = let within = slice_get_within calls place call there in omega (arith, within, end)

    -- where the next call was sent behind the front
    pub front_seen : (next : PlainCall) → slice_get calls seen ≡ Some next → front < next.asked → AreAllSeen c calls es seen
    front_seen next there behind place call stands candidate =
        let before = (comes_before_front c calls are es front is_front place call (entry_of call).wrote stands candidate.placed_rightly).0 in
        elim (cases_lt place seen) [
          | inl earlier ↦ earlier
          | inr late ↦ elim (cases_eq place seen) [
            | inl here ↦
                let same : call ≡ next = same_Some call next (sym stands ∙ ap (slice_get calls) here ∙ there) in
                absurd (let number = ap (λ (x : PlainCall). x.asked) same in omega (arith, number, before, behind))
            | inr other ↦
                absurd (let rises = asked_rise c calls are seen place next call (below_other place seen late other) there stands in omega (arith, rises, before, behind))
          ]
        ]
      where
        below_other : (i j : ℕ) → j ≤ i → (i ≡ j → ⊥) → j < i
        below_other i j within other = elim (cases_lt j i) [ inl below ↦ below | inr above ↦ absurd (other (omega (arith, within, above))) ]

  -- ---- an entry is placed

  module _ (seen : ℕ) (old new : List (Rank × Entry)) (is : IsReady c calls es seen old) (rank : Rank) (entry : Entry) (has : Contains old (rank, entry))
      (stays : (other : Rank) (e : Entry) → (other ≡ rank → ⊥) → Contains old (other, e) → Contains new (other, e))
      (from : (other : Rank) (e : Entry) → Contains new (other, e) → Contains old (other, e) × (other ≡ rank → ⊥)) where
    -- the call that is placed
    it : IsReadyCall c calls es seen rank entry
    it = is.each rank entry has

    number : entry.at ≡ it.call.asked
    number = ap (λ (e : Entry). e.at) it.proposes

    -- another call has another number
    other_number : (other : Rank) (e : Entry) (found : IsReadyCall c calls es seen other e) → (other ≡ rank → ⊥) → entry.at ≡ found.call.asked → ⊥
    other_number other e found apart same =
        let place : found.place ≡ it.place = one_place c calls are found.place it.place found.call it.call found.there it.there (sym same ∙ number) in
        let call : found.call ≡ it.call = same_Some found.call it.call (sym found.there ∙ ap (slice_get calls) place ∙ it.there) in
        apart (rank_is_one it.call other rank (subst (IsRank other) call found.ranked) it.ranked)

    -- a candidate stays one
    candidate_still : (other : Rank) (e : Entry) (found : IsReadyCall c calls es seen other e) → (other ≡ rank → ⊥) → IsCandidate c (es ++ entry ∷ []) found.call
    candidate_still other e found apart =
        let hold = found.candidate.placed_rightly in
        record {
          events = found.candidate.events;
          are = found.candidate.are;
          exact = found.candidate.exact;
          placed_rightly = (
            hold.0,
            (
              (λ placed. elim (number_more es entry found.call.asked placed) [ inl before ↦ hold.1.0 before | inr here ↦ other_number other e found apart here ]),
              (
                (λ p q tree answered early. number_still es entry p (hold.1.1.0 p q tree answered early)),
                hold.1.1.1,
              ),
            ),
          );
        }

    pub left_ready : IsReady c calls (es ++ entry ∷ []) seen new
    left_ready = record {
      each = λ other e stands.
          let was = from other e stands in
          let found = is.each other e was.0 in
          record {
            place = found.place;
            call = found.call;
            looked_at = found.looked_at;
            there = found.there;
            ranked = found.ranked;
            proposes = found.proposes;
            candidate = candidate_still other e found was.1;
          };
      complete = λ place call below there unplaced allowed.
          let entry_there = is.complete place call below there (λ before. unplaced (number_still es entry call.asked before)) allowed in (
            entry_there.0,
            entry_there.1,
            stays entry_there.0 (entry_of call) (λ same.
                let at : place ≡ it.place = ranked_place c calls are rank place it.place call it.call there it.there (subst (λ (r : Rank). IsRank r call) same entry_there.1) it.ranked in
                let one : call ≡ it.call = same_Some call it.call (sym there ∙ ap (slice_get calls) at ∙ it.there) in
                unplaced (subst (Contains (numbers (es ++ entry ∷ []))) (number ∙ sym (ap (λ (x : PlainCall). x.asked) one)) (number_now es entry))) entry_there.2,
          );
      placed = λ place call there placed. elim (number_more es entry call.asked placed) [
        | inl before ↦ is.placed place call there before
        | inr here ↦
            let at : place ≡ it.place = one_place c calls are place it.place call it.call there it.there (sym here ∙ number) in
            let below = it.looked_at in
            omega (arith, at, below)
      ];
    }
