-- With which codes the request is refused that the message answers past which no order goes: by the configurations in which it is not
-- placed, whose trees are all to which entries lead that explain the replies before.
use Rattle.std.proofs.Common.{◌≡◌, ℕ, List, [], None, refl, sym, subst, inl, arith}
use Rattle.std.specs.Prelude.{Contains}
use Rattle.std.specs.List.Sorted.{IsStrictlyIncreasing}
use Rattle.fa_capture.specs.Message.{Message}
use Rattle.fa_session.specs.Answers.{IsAnsweredBy}
use Rattle.fa_tree.specs.State.{TreeState}
use Rattle.fa_tree.specs.Alike.{AreAlike}
use Rattle.fa_tree.proofs.CallerLemmas.{alike_back}
use Rattle.fa_order.specs.declared.entry.Entry.{Entry}
use Rattle.fa_check.specs.Orders.{IsTreeRequestAt}
use Rattle.fa_check.specs.Runs.{Runs}
use Rattle.fa_check.proofs.CallerLemmas.{one_step_failure}
use Rattle.fa_search.specs.Searches.{IsUsedFrom, ComesTo, IsRefusedFrom, AreCodesAt}
use Rattle.fa_search.specs.parts.Configurations.{PlainConfiguration, IsReached, AreHeld, AreSettling, AreSpent}
use Rattle.fa_search.proofs.AlikeLemmas.{refused_alike}
use Rattle.fa_search.proofs.PendingLemmas.{one_answered, answered_pending, waits_still}
use Rattle.fa_search.proofs.SettledLemmas.{all_waiting}

-- entries that come to a configuration in which the request is not placed come to its reply
pub reached_comes_by : (c : List Message) (first : TreeState) (at asked : ℕ) (x : PlainConfiguration) → IsTreeRequestAt c asked → IsAnsweredBy c asked at → (Contains x.placed asked → ⊥)
    → (reached : IsReached c first at x) → ComesTo c first at reached.entries x.tree asked
reached_comes_by c first at asked x tree by lacks reached = record {
  explains = record {
    placed = reached.rightly;
    last = x.tree;
    run = reached.run;
    held = λ p request answered. (reached.exact p).1 (inl (request, answered));
  };
  leads = refl;
  tree_request = tree;
  answered = by;
  left_out = λ has. waits_still c at asked x.placed by lacks ((reached.exact asked).0 has);
}

pub reached_comes : (c : List Message) (first : TreeState) (at asked : ℕ) (x : PlainConfiguration) → IsTreeRequestAt c asked → IsAnsweredBy c asked at → (Contains x.placed asked → ⊥)
    → IsReached c first at x → (es : List Entry) × ComesTo c first at es x.tree asked
reached_comes c first at asked x tree by lacks reached = (reached.entries, reached_comes_by c first at asked x tree by lacks reached)

-- from trees that are alike the request that the message answers is refused with the same code
pub refused_from_alike : (c : List Message) (at asked : ℕ) → IsTreeRequestAt c asked → IsAnsweredBy c asked at → (one other : TreeState) (code : ℕ) → AreAlike (IsUsedFrom c at) one other
    → IsRefusedFrom one c asked code → IsRefusedFrom other c asked code
refused_from_alike c at asked tree by one other code alike refused =
    let waits = answered_pending c at asked tree by in
    refused_alike c at (record { at = asked; wrote = None }) waits.waits (tree, waits.named) one other code alike refused

module _ (c : List Message) (first : TreeState) (at asked : ℕ) (tree : IsTreeRequestAt c asked) (by : IsAnsweredBy c asked at)
    (held work : List PlainConfiguration) (are : AreHeld c first at held) (settling : AreSettling c first at asked held work []) (spent : AreSpent c at work work []) where
  -- each tree to which entries come is that of such a configuration, where there is none in which the request is placed
  pub tree_is_there : (es : List Entry) (last : TreeState) → ComesTo c first at es last asked → (x : PlainConfiguration) × Contains work x × AreAlike (IsUsedFrom c at) last x.tree
  tree_is_there es last comes =
      let run : Runs first last c es = subst (λ (t : TreeState). Runs first t c es) (sym comes.leads) comes.explains.run in
      all_waiting c first at asked tree by held work [] settling spent es last (λ y has. omega (arith, has.1)) (are.complete es last comes.explains run)

  -- so the codes with which these refuse it are all
  pub codes_are_all : (codes : List ℕ) → IsStrictlyIncreasing codes
      → ((code : ℕ) → Contains codes code → (x : PlainConfiguration) × Contains work x × IsRefusedFrom x.tree c asked code)
      → ((x : PlainConfiguration) → Contains work x → (code : ℕ) × Contains codes code × IsRefusedFrom x.tree c asked code)
      → AreCodesAt c first at codes
  codes_are_all codes rising of each = record {
    rising = rising;
    each = λ code has.
        let found = of code has in
        let x : PlainConfiguration = found.0 in
        let comes = reached_comes c first at asked x tree by (settling.waiting x found.1) (settling.reached x (inl found.1)) in
        (comes.0, x.tree, asked, comes.1, found.2);
    complete = λ code refused. told code refused.0 refused.1 refused.2 refused.3 refused.4;
  }
    where
      told : (code : ℕ) (es : List Entry) (last : TreeState) (other : ℕ) → ComesTo c first at es last other → IsRefusedFrom last c other code → Contains codes code
      told code es last other comes refused =
          let same : other ≡ asked = one_answered c other asked at comes.answered by in
          let found = tree_is_there es last (subst (ComesTo c first at es last) same comes) in
          let mine = each found.0 found.1 in
          let here : IsRefusedFrom last c asked code = subst (λ (k : ℕ). IsRefusedFrom last c k code) same refused in
          let there : IsRefusedFrom last c asked mine.0 =
          refused_from_alike c at asked tree by found.0.tree last mine.0 (alike_back (IsUsedFrom c at) last found.0.tree found.2) mine.2 in
          subst (Contains codes) (one_step_failure c last (record { at = asked; wrote = None }) mine.0 code there here) mine.1
