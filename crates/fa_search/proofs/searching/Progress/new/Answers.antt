use Rattle.std.proofs.Common.{◌≡◌, ◌∙◌, ◌∷◌, [], length, sym, subst, ap, arith}
use Rattle.fa_ledger.specs.declared.calls.Calls.{Calls}
use Rattle.fa_search.specs.parts.Flight.{IsFlight}
use Rattle.fa_search.proofs.SearchLemmas.{held_by_first}
use Rattle.fa_search.proofs.searching.Progress.new.Goals as goal

pub returns : goal.returns
returns c =
    let items : c.push.new.self.items ≡ c.first.result ∷ [] = c.in_ok-push.ensures.items ∙ rw c.new-held.ensures.items in
    let long : length c.push.new.self.items ≡ 1 = ap length items in
    record {
      along = c.new-2.ensures;
      flight = c.in_ok-flight.ensures.flight;
      some = omega (arith, long);
      first = c.in_ok-flight.ensures.first;
      budget = c.new-3.ensures.budget;
      searching = λ m are. record {
        flight = subst (λ (calls : Calls). IsFlight calls.list c.in_ok-flight.flight) (sym c.new-2.ensures) c.in_ok-flight.ensures.flight;
        held = rw (c.new-4.ensures.items, c.in_ok-flight.ensures.first, items, c.first.ensures) (held_by_first m c.args.tree);
        some = omega (arith, long);
        serial = λ serial. omega (arith, long);
      };
    }
