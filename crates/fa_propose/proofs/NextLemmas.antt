-- The next call is placed, and its entry taken away.
use Rattle.std.proofs.Common.{◌≡◌, ℕ, List, [], ◌∷◌, ◌++◌, take, drop, sym, subst}
use Rattle.std.specs.Prelude.{AllPairs, Contains}
use Rattle.std.specs.BTreeMap.{is_at}
use Rattle.std.specs.Map.{remove_entry}
use Rattle.std.proofs.lemmas.List.{take-append-drop}
use Rattle.std.proofs.lemmas.List.Elements.{Contains-append_left, Contains-append_right}
use Rattle.fa_capture.specs.Message.{Message}
use Rattle.fa_capture.proofs.CallerLemmas.{contains_first}
use Rattle.fa_ledger.specs.Calls.{PlainCall, AreCalls}
use Rattle.fa_tree.specs.State.{TreeState}
use Rattle.fa_order.specs.declared.entry.Entry.{Entry}
use Rattle.fa_propose.specs.declared.rank.Rank.{Rank}
use Rattle.fa_propose.specs.declared.proposing.TheConstants.{MAX_TRIED}
use Rattle.fa_propose.specs.parts.Candidates.{cmp}
use Rattle.fa_propose.specs.parts.Ready.{IsReady, AreAllSeen, IsRankedBefore, IsFirstStep, IsPlacedNext}
use Rattle.fa_propose.proofs.EntryLemmas.{removed_stays, removed_from}
use Rattle.fa_propose.proofs.MatchLemmas.{next_call}
use Rattle.fa_propose.proofs.RankOrderLemmas.{cmp_total, cmp_exact, pairs_ranked}
use Rattle.fa_propose.proofs.ReadyLemmas.{left_ready}

-- what is found is one of the entries
pub found_there : (ready earlier later : List (Rank × Entry)) (found : Rank × Entry) → take MAX_TRIED ready ≡ earlier ++ found ∷ later → Contains ready found
found_there ready earlier later found parts =
    let front : Contains (take MAX_TRIED ready) found = subst (λ (ps : List (Rank × Entry)). Contains ps found) (sym parts) (Contains-append_right earlier (found ∷ later) found (contains_first found later)) in
    subst (λ (ps : List (Rank × Entry)). Contains ps found) (take-append-drop MAX_TRIED ready) (Contains-append_left (take MAX_TRIED ready) (drop MAX_TRIED ready) found front)

pub placed_next : (c : List Message) (calls : List PlainCall) → AreCalls c calls → (es : List Entry) (seen : ℕ) (ready left : List (Rank × Entry)) → IsReady c calls es seen ready → AreAllSeen c calls es seen
    → AllPairs IsRankedBefore ready → (old new : TreeState) (found : Rank × Entry) → IsFirstStep c old new ready found → left ≡ remove_entry (is_at (cmp found.0)) ready
    → IsPlacedNext c calls old new es seen left found.1
placed_next c calls are es seen ready left is all ordered old new found first removed =
    let next = next_call c calls are es seen ready is all ordered old new found first in
    record {
      call = next.0;
      proposes = next.1;
      next = next.2;
      left =
          subst (IsReady c calls (es ++ found.1 ∷ []) seen) (sym removed)
          (left_ready c calls are es seen ready (remove_entry (is_at (cmp found.0)) ready) is found.0 found.1 (found_there ready first.earlier first.later found first.tried)
          (λ other e apart has. removed_stays cmp cmp_exact found.0 other e apart ready has)
          (λ other e has. removed_from cmp cmp_exact found.0 cmp_total other e ready (pairs_ranked ready ordered) has));
    }
