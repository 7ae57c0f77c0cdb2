-- At the message past which no order goes, a request that it answers is left out by all that explains the replies before, and is refused.
use Rattle.std.proofs.Common.{ℕ, ◌+◌, List, [], ◌∷◌, ◌++◌, None, refl, sym, subst, inl, inr, arith}
use Rattle.std.specs.Prelude.{Contains}
use Rattle.fa_capture.specs.Checks.{AllHold}
use Rattle.fa_capture.specs.Message.{Message}
use Rattle.fa_capture.proofs.CallerLemmas.{checks_either, contains_cases, contains_decided}
use Rattle.fa_session.proofs.CallerLemmas.{answer_after}
use Rattle.fa_ledger.specs.SoFar.{listing_so_far}
use Rattle.fa_ledger.proofs.CallerLemmas.{calls_are_there}
use Rattle.fa_tree.specs.State.{TreeState}
use Rattle.fa_tree.specs.Steps.{step_checks}
use Rattle.fa_tree.proofs.CallerLemmas.{steps_where_all_hold}
use Rattle.fa_order.specs.declared.entry.Entry.{Entry}
use Rattle.fa_check.specs.Orders.{numbers}
use Rattle.fa_check.specs.Runs.{EntrySteps, Runs}
use Rattle.fa_check.specs.Faults.{order_checks}
use Rattle.fa_check.specs.Cuts.{Explains}
use Rattle.fa_check.proofs.CallerLemmas.{tree_is_call, call_of_message, number_still, number_now, each_more, run_more}
use Rattle.fa_search.specs.Searches.{ComesTo, IsRefusedFrom}
use Rattle.fa_search.specs.Laws.{StopIsComeTo, StopIsRefused, OneCodeRefusesAll}
use Rattle.fa_search.proofs.PendingLemmas.{one_answered, answered_next}

module _ (c : List Message) (first tree : TreeState) (at asked : ℕ) (es : List Entry) (comes : ComesTo c first at es tree asked) where
  -- it passes the checks of its place
  comes_rightly : AllHold (order_checks c es (record { at = asked; wrote = None }))
  comes_rightly = (
    comes.tree_request,
    (
      comes.left_out,
      (
        (λ p q request by before.
            let behind = answer_after c at asked comes.answered.0 comes.answered.1 in
            comes.explains.held p request (q, by, omega (arith, before, behind))),
        (record { answered = λ q by. refl; unanswered = λ o waits. absurd (waits.0 at comes.answered) }, tt),
      ),
    ),
  )

  -- where it has a step, the entries explain the reply at this message too
  step_explains : (new : TreeState) → EntrySteps tree new c (record { at = asked; wrote = None }) → Explains c first (at + 1) (es ++ record { at = asked; wrote = None } ∷ [])
  step_explains new steps =
      let e : Entry = record { at = asked; wrote = None } in
      record {
        placed = each_more c es e comes.explains.placed comes_rightly;
        last = new;
        run = run_more c first tree new es e (subst (λ (t : TreeState). Runs first t c es) (sym comes.leads) comes.explains.run) steps;
        held = λ p request answered. elim (answered_next c at p answered) [
          | inl before ↦ number_still es e p (comes.explains.held p request before)
          | inr now ↦ subst (Contains (numbers (es ++ e ∷ []))) (one_answered c asked p at comes.answered now) (number_now es e)
        ];
      }

pub stop_is_refused : StopIsRefused
stop_is_refused c first tree at asked es stop comes never =
    calls_are_there c stop.good (λ calls are.
    let found = tree_is_call c calls are asked comes.tree_request in
    let of_request = call_of_message c calls are found.0 asked found.1.0 found.1.1 found.1.2 in
    let so_far = listing_so_far calls found.0 in
    checks_either (step_checks tree found.1.0 None so_far) (λ either. elim either [
      | inr fails ↦ never fails.0 (record { call = found.1.0; so_far = so_far; of_request = of_request; fails = fails.1 })
      | inl hold ↦
          let next = (steps_where_all_hold tree found.1.0 None so_far).0 hold in
          stop.none (es ++ record { at = asked; wrote = None } ∷ [])
          (step_explains c first tree at asked es comes next.0 (record { call = found.1.0; so_far = so_far; of_request = of_request; steps = next.1 }))
    ]))

-- what explains the replies before it comes to it
pub stop_is_come_to : StopIsComeTo
stop_is_come_to c first at es explained stop never =
    stop.none es (record {
      placed = explained.placed;
      last = explained.last;
      run = explained.run;
      held = λ p request answered. elim (answered_next c at p answered) [
        | inl before ↦ explained.held p request before
        | inr now ↦ elim (contains_decided (numbers es) p) [
          | inl has ↦ has
          | inr lacks ↦ absurd (never p (record { explains = explained; leads = refl; tree_request = request; answered = now; left_out = lacks }))
        ]
      ];
    })

-- where there is one code alone, it refuses after all entries
pub one_code_refuses_all : OneCodeRefusesAll
one_code_refuses_all c first tree at asked code es stop codes comes never =
    stop_is_refused c first tree at asked es stop comes (λ other refused.
    elim (contains_cases code [] other (codes.complete other (es, tree, asked, comes, refused))) [
      | inl same ↦ never (subst (IsRefusedFrom tree c asked) (sym same) refused)
      | inr none ↦ omega (arith, none.1)
    ])
