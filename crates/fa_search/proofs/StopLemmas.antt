-- The message past which no order goes.
use Rattle.std.proofs.Common.{ℕ, zero, suc, ◌+◌, ◌<◌, ◌≤◌, List, [], ◌∷◌, length, refl, inl, inr, ap, arith}
use Rattle.std.proofs.lemmas.Bool.{cases_lt}
use Rattle.std.proofs.lemmas.List.{length-append}
use Rattle.fa_capture.specs.Message.{Message}
use Rattle.fa_ledger.specs.Passing.{AreGood}
use Rattle.fa_tree.specs.State.{TreeState}
use Rattle.fa_order.specs.declared.entry.Entry.{Entry}
use Rattle.fa_check.specs.Faults.{EachPlaced}
use Rattle.fa_check.specs.Cuts.{Explains}
use Rattle.fa_check.proofs.CallerLemmas.{legal_explains, explains_all_is_legal}
use Rattle.fa_search.specs.Searches.{IsStop}
use Rattle.fa_search.specs.Laws.{LegalExplainsAll, StopIsOne, StopHasNoOrder, StopIsThere}

-- no entries are placed rightly
pub none_placed : (c : List Message) → EachPlaced c []
none_placed c earlier later e same = absurd (let long = ap length same in omega (arith, long, length-append earlier (e ∷ later)))

-- and explain what comes before the first message
pub explains_nothing : (c : List Message) (first : TreeState) → Explains c first 0 []
explains_nothing c first = record {
  placed = none_placed c;
  last = first;
  run = refl;
  held = λ p tree before. absurd (let early = before.2 in omega (arith, early));
}

-- what explains the replies before a message explains those before an earlier one
pub explains_earlier : (c : List Message) (first : TreeState) (m n : ℕ) (es : List Entry) → m ≤ n → Explains c first n es → Explains c first m es
explains_earlier c first m n es before explained = record {
  placed = explained.placed;
  last = explained.last;
  run = explained.run;
  held = λ p tree answered. explained.held p tree (answered.0, answered.1, (let early = answered.2 in omega (arith, early, before)));
}

pub legal_explains_all : LegalExplainsAll
legal_explains_all c first es good = (legal_explains c first es (length c), explains_all_is_legal c first es good)

-- of two messages past which none goes, none comes before the other
stop_not_before : (c : List Message) (first : TreeState) (at other : ℕ) → IsStop c first at → IsStop c first other → at < other → ⊥
stop_not_before c first at other one two before =
    one.none two.before.0 (explains_earlier c first (at + 1) other two.before.0 (omega (arith, before)) two.before.1)

pub stop_is_one : StopIsOne
stop_is_one c first at other one two =
    elim (cases_lt at other) [
      | inl before ↦ absurd (stop_not_before c first at other one two before)
      | inr far ↦ elim (cases_lt other at) [
        | inl behind ↦ absurd (stop_not_before c first other at two one behind)
        | inr near ↦ omega (arith, far, near)
      ]
    ]

pub stop_has_no_order : StopHasNoOrder
stop_has_no_order c first at stop (es, legal) = stop.none es (legal_explains c first es (at + 1) legal)

-- without a message past which none goes, the replies before each message are explained
never_stopped : (c : List Message) (first : TreeState) → AreGood c → ((at : ℕ) → IsStop c first at → ⊥) → (n : ℕ) → n ≤ length c
    → ((es : List Entry) → Explains c first n es → ⊥) → ⊥
never_stopped c first good never zero within none = none [] (explains_nothing c first)
never_stopped c first good never (suc n) within none =
    never_stopped c first good never n (omega (arith, within)) (λ es explained.
    never n (record {
      good = good;
      within = omega (arith, within);
      before = (es, explained);
      none = λ fs all. none fs (explains_earlier c first (suc n) (n + 1) fs (omega arith) all);
    }))

pub stop_is_there : StopIsThere
stop_is_there c first good no_order never =
    never_stopped c first good never (length c) (omega arith) (λ es explained. no_order (es, explains_all_is_legal c first es good explained))
