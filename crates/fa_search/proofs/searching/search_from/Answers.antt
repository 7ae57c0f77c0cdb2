use Rattle.std.proofs.Common.{Ok}
use Rattle.fa_search.proofs.SearchLemmas.{found_is_no_stop, found_is_not_given_up}
use Rattle.fa_search.proofs.searching.search_from.Goals as goal

pub returns-in-Some : goal.returns-in-Some
returns-in-Some g c =
    let found = c.in-Some.found in
    let order = rw c.in-Some.is at c.in_ok-found.ensures.order in
    record {
      found = λ m are. (let legal = rw c.in-Some.is at c.in_ok-found.ensures.legal in legal m are);
      none = λ m at code are same. absurd (found_is_no_stop (Ok found) order.0 at code order.1 same);
      code = λ m at code are same. absurd (found_is_no_stop (Ok found) order.0 at code order.1 same);
      gave_up = λ m at are same. absurd (found_is_not_given_up (Ok found) order.0 at order.1 same);
      proposed = λ m es are is run. (let told = c.in_ok-found.ensures.proposed m es are is run in rw c.in-Some.is at told);
      serial = λ m at are serial same. absurd (found_is_not_given_up (Ok found) order.0 at order.1 same);
      decides = λ at endless same. absurd (found_is_not_given_up (Ok found) order.0 at order.1 same);
    }

pub returns-in-None : goal.returns-in-None
returns-in-None g c = record {
  found = c.search_orders.ensures.found;
  none = c.search_orders.ensures.none;
  code = c.search_orders.ensures.code;
  gave_up = c.search_orders.ensures.gave_up;
  proposed = λ m es are is run. absurd (let told = c.in_ok-found.ensures.proposed m es are is run in rw c.in-None.is at told);
  serial = c.search_orders.ensures.serial;
  decides = c.search_orders.ensures.decides;
}
