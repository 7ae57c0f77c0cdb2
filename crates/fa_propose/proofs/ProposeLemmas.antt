-- How far an order is proposed, and where it ends.
use Rattle.std.proofs.Common.{◌≡◌, ℕ, ◌-◌, ◌<◌, ◌≤◌, List, [], ◌∷◌, ◌++◌, length, sym, ap, subst, inl, inr, arith}
use Rattle.std.proofs.lemmas.List.{length-append}
use Rattle.fa_capture.specs.Message.{Message}
use Rattle.fa_ledger.specs.declared.calls.Calls.{Calls}
use Rattle.fa_tree.specs.State.{TreeState}
use Rattle.fa_order.specs.declared.entry.Entry.{Entry}
use Rattle.fa_check.specs.declared.placing.Placing.{Placing}
use Rattle.fa_check.specs.Verdicts.{AreMessagesOf}
use Rattle.fa_check.specs.Replays.{IsReplayed, IsFront}
use Rattle.fa_check.proofs.CallerLemmas.{entries_within, all_before_front, left_at_front}
use Rattle.fa_propose.specs.declared.rank.Rank.{Rank}
use Rattle.fa_propose.specs.Proposals.{IsStuck, IsProposedSoFar, IsProposal}
use Rattle.fa_propose.specs.Proposals.IsProposedSoFar.{begun, further}
use Rattle.fa_propose.specs.parts.Ready.{IsReady, IsPlacedNext}

-- How far an order is proposed: its entries are replayed, those that may come next are at hand, and each was the next.
pub record IsProposing (calls : Calls) (first tree : TreeState) (es : List Entry) (placing : Placing) (seen : ℕ) (ready : List (Rank × Entry)) : Type 0 where
  pub replayed : IsReplayed calls first tree es placing
  pub left : (c : List Message) → AreMessagesOf calls c → IsReady c calls.list es seen ready
  pub proposed : (c : List Message) → AreMessagesOf calls c → IsProposedSoFar c first es tree

-- before the first entry
pub none_proposed : (calls : Calls) (first : TreeState) (es : List Entry) (placing : Placing) (seen : ℕ) (ready : List (Rank × Entry)) → es ≡ [] → IsReplayed calls first first [] placing
    → ((c : List Message) → IsReady c calls.list [] seen ready) → IsProposing calls first first es placing seen ready
none_proposed calls first es placing seen ready none replayed left =
    subst (λ (xs : List Entry). IsProposing calls first first xs placing seen ready) (sym none) (record { replayed = replayed; left = λ c is. left c; proposed = λ c is. begun })

module _ (calls : Calls) (first tree : TreeState) (es : List Entry) (placing : Placing) (seen : ℕ) (ready : List (Rank × Entry)) (so_far : IsProposing calls first tree es placing seen ready) (front : ℕ)
    (fronts : (c : List Message) → AreMessagesOf calls c → IsFront c es front) where
  -- where the front is behind all messages the proposal is at its end
  pub all_proposed : calls.messages ≤ front → (c : List Message) → AreMessagesOf calls c → IsProposal c first es
  all_proposed behind c is = record {
    last = tree;
    proposed = so_far.proposed c is;
    ends = inl (all_before_front c es front (fronts c is) (omega (arith, behind, is.counted)));
  }

  -- and where none that is tried has a step
  pub stuck_proposed : (c : List Message) → AreMessagesOf calls c → IsStuck c es tree → IsProposal c first es
  stuck_proposed c is none = record { last = tree; proposed = so_far.proposed c is; ends = inr none }

  -- one more entry
  pub one_proposed : front < calls.messages → (new : TreeState) (behind : Placing) (later : ℕ) (left : List (Rank × Entry)) (entry : Entry)
      → ((c : List Message) → AreMessagesOf calls c → IsPlacedNext c calls.list tree new es later left entry)
      → IsReplayed calls first new (es ++ entry ∷ []) behind → IsProposing calls first new (es ++ entry ∷ []) behind later left
  one_proposed within new behind later left entry next replayed = record {
    replayed = replayed;
    left = λ c is. (next c is).left;
    proposed = λ c is.
        let it = next c is in
        subst (λ (e : Entry). IsProposedSoFar c first (es ++ e ∷ []) new) (sym it.proposes)
        (further es tree new it.call (so_far.proposed c is) (left_at_front c es front (fronts c is) (omega (arith, within, is.counted))) it.next);
  }

-- one entry more, and there is room for one less
pub one_less : (calls : Calls) (first new : TreeState) (es items : List Entry) (entry : Entry) (behind : Placing) → items ≡ es ++ entry ∷ [] → IsReplayed calls first new (es ++ entry ∷ []) behind
    → length calls.list - length items < length calls.list - length es
one_less calls first new es items entry behind more replayed =
    let within = entries_within calls first new (es ++ entry ∷ []) behind replayed in
    omega (arith, within, length-append es (entry ∷ []), ap length more)
