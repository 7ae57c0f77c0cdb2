use Rattle.std.proofs.Common.{◌≡◌, ◌∙◌, ℕ, List, Ok, sym, subst, ap}
use Rattle.fa_capture.specs.Message.{Message}
use Rattle.fa_tree.specs.State.{TreeState}
use Rattle.fa_check.specs.Runs.{IsLegalRun}
use Rattle.fa_check.specs.Verdicts.{AreMessagesOf}
use Rattle.fa_search.specs.Searches.{IsStop, IsLeastCode, IsExplainedUpTo, AreSerialBefore}
use Rattle.fa_search.proofs.SearchLemmas.{found_is_no_stop, found_is_not_given_up}
use Rattle.fa_search.proofs.searching.search_orders.Goals as goal

pub legal-requires : goal.legal-requires
legal-requires g c = λ m are.
    let run = rw c.in-Order.is at c.in_ok-order.ensures.found in
    subst (λ (t : TreeState). IsLegalRun m t c.in-Order.order.items) (c.in_ok-copy.ensures ∙ sym c.in_ok-copy-in-Order.ensures) (run m are)

pub returns-in_ok-copy-in-Order : goal.returns-in_ok-copy-in-Order
returns-in_ok-copy-in-Order g c = record {
  found = rw c.in_ok-copy-in-Order.ensures at c.legal.ensures.legal;
  none = λ m at code are same. absurd (found_is_no_stop c.legal.result _ at code c.legal.ensures.order same);
  code = λ m at code are same. absurd (found_is_no_stop c.legal.result _ at code c.legal.ensures.order same);
  gave_up = λ m at are same. absurd (found_is_not_given_up c.legal.result _ at c.legal.ensures.order same);
  serial = λ m at are serial same. absurd (found_is_not_given_up c.legal.result _ at c.legal.ensures.order same);
  decides = λ at endless same. absurd (found_is_not_given_up c.legal.result _ at c.legal.ensures.order same);
}

pub returns-in-Stop : goal.returns-in-Stop
returns-in-Stop g c =
    let tree = c.args.tree.now in
    let stop = c.in-Stop in
    let told = λ (m : List Message) (are : AreMessagesOf c.args.calls.now m). c.search_all.ensures.none m stop.at stop.code are (c.in_ok-order.was ∙ ap Ok stop.is) in
    record {
      found = λ m are. tt;
      none = λ m at code are same.
          let here : stop.at ≡ at = cc in
          subst (IsStop m tree) here (subst (λ (t : TreeState). IsStop m t stop.at) c.in_ok-copy.ensures (told m are).0);
      code = λ m at code are same.
          let here : stop.at ≡ at = cc in
          let coded : stop.code ≡ code = cc in
          subst (λ (k : ℕ). IsLeastCode m tree k code) here
          (subst (IsLeastCode m tree stop.at) coded (subst (λ (t : TreeState). IsLeastCode m t stop.at stop.code) c.in_ok-copy.ensures (told m are).1));
      gave_up = λ m at are same. absurd cc;
      serial = λ m at are serial same. absurd cc;
      decides = λ at endless same. absurd cc;
    }

pub returns-in-Spent : goal.returns-in-Spent
returns-in-Spent g c =
    let tree = c.args.tree.now in
    let spent = c.in-Spent in
    let told = λ (m : List Message) (are : AreMessagesOf c.args.calls.now m). c.search_all.ensures.gave_up m spent.at are (c.in_ok-order.was ∙ ap Ok spent.is) in
    record {
      found = λ m are. tt;
      none = λ m at code are same. absurd cc;
      code = λ m at code are same. absurd cc;
      gave_up = λ m at are same.
          let here : spent.at ≡ at = cc in
          subst (IsExplainedUpTo m tree) here (subst (λ (t : TreeState). IsExplainedUpTo m t spent.at) c.in_ok-copy.ensures (told m are).0);
      serial = λ m at are serial same.
          let here : spent.at ≡ at = cc in
          (told m are).1 (subst (AreSerialBefore m) (sym here) serial);
      decides = λ at endless same. c.search_all.ensures.decides spent.at endless (c.in_ok-order.was ∙ ap Ok spent.is);
    }
