-- Good messages never take more lookups of a node than replies gave. So what a reply gives is counted, and has a name.
use Rattle.std.proofs.Common.{◌≡◌, ℕ, zero, suc, ◌+◌, ◌<◌, ◌≤◌, Bool, true, false, List, [], ◌∷◌, ◌++◌, length, take, Some, refl, sym, ap, subst, ◌∙◌, append_assoc, append-nil, arith}
use Rattle.std.specs.Prelude.{◌==◌, if◌then◌else◌, slice_get, map, All, count_by}
use Rattle.std.proofs.lemmas.Bool.Decides.{nat_tests}
use Rattle.std.proofs.lemmas.List.{take_all}
use Rattle.std.proofs.lemmas.List.Sums.{sum_by-cons}
use Rattle.std.proofs.lemmas.Option.{slice_get_within, get_or_from_slice_get}
use Rattle.fa_capture.specs.Message.{Message}
use Rattle.fa_capture.proofs.CallerLemmas.{take_with_next}
use Rattle.fa_bodies.specs.Requests.{PlainRequest}
use Rattle.fa_bodies.specs.Replies.{PlainReply}
use Rattle.fa_session.specs.Events.{PlainEvent, IsEvent}
use Rattle.fa_session.specs.Events.PlainEvent.{Asked, Answered, Notice}
use Rattle.fa_ledger.specs.declared.name.NodeName.{NodeName}
use Rattle.fa_ledger.specs.declared.name.NodeName.TheVariants.{Given}
use Rattle.fa_ledger.specs.Events.{AreEvents}
use Rattle.fa_ledger.specs.Counts.{nodes_given, request_takes, total_taken, times_given, lookups_given, lookups_taken}
use Rattle.fa_ledger.specs.Names.{name_at}
use Rattle.fa_ledger.specs.Passing.{AreGood, TakesWithin, MayBeGiven}
use Rattle.fa_ledger.proofs.EventLemmas.{element_at}
use Rattle.fa_ledger.proofs.GoodLemmas.{events_front, passes_rules}
use Rattle.fa_ledger.proofs.GrowthLemmas.{given_more, taken_more, counted_named}
use Rattle.fa_ledger.proofs.TakingLemmas.{total_both}

-- what holds of each holds of what stands at a place
pub all_there : {X : Type 0} (P : X → Type 0) (xs : List X) (k : ℕ) (x : X) → All P xs → slice_get xs k ≡ Some x → P x
all_there P xs k x each there = subst P (get_or_from_slice_get xs k x x there) (each k x (slice_get_within xs k x there))

-- ---- what is taken

-- one item takes within the count, behind those before it
item_within : (es : List PlainEvent) (r : PlainRequest) (node : ℕ) (earlier later : List (ℕ × ℕ)) (item : ℕ × ℕ) → TakesWithin es r → request_takes r ≡ earlier ++ item ∷ later
    → lookups_taken es node + total_taken node earlier ≤ lookups_given es node → lookups_taken es node + total_taken node (earlier ++ item ∷ []) ≤ lookups_given es node
item_within es r node earlier later item within parts balanced =
    let both = total_both node earlier (item ∷ []) in
    let own = within earlier later item.0 item.1 parts in
    elim (item.0 == node) as (λ b. (item.0 == node) ≡ b → (total_taken node (item ∷ []) ≡ (if b then item.1 else 0) + 0) → lookups_taken es node + total_taken node (earlier ++ item ∷ []) ≤ lookups_given es node) [
      | true ↦ λ test says.
          let same : item.0 ≡ node = grind (arith, nat_tests, test) in
          let here : lookups_taken es node + total_taken node earlier + item.1 ≤ lookups_given es node = subst (λ n. lookups_taken es n + total_taken n earlier + item.1 ≤ lookups_given es n) same own in
          omega (arith, both, says, here)
      | false ↦ λ test says. omega (arith, both, says, balanced)
    ] refl refl

-- so all of them do
takes_within : (es : List PlainEvent) (r : PlainRequest) (node : ℕ) (earlier later : List (ℕ × ℕ)) → TakesWithin es r → request_takes r ≡ earlier ++ later
    → lookups_taken es node + total_taken node earlier ≤ lookups_given es node → lookups_taken es node + total_taken node (request_takes r) ≤ lookups_given es node
takes_within es r node earlier [] within parts balanced =
    let whole : request_takes r ≡ earlier = parts ∙ append-nil earlier in
    subst (λ items. lookups_taken es node + total_taken node items ≤ lookups_given es node) (sym whole) balanced
takes_within es r node earlier (item ∷ later) within parts balanced =
    let next : request_takes r ≡ (earlier ++ item ∷ []) ++ later = parts ∙ sym (append_assoc earlier (item ∷ []) later) in
    takes_within es r node (earlier ++ item ∷ []) later within next (item_within es r node earlier later item within parts balanced)

-- ---- the count of a node

-- no more lookups of a node were taken than given
pub lookups_balanced : (c : List Message) (es : List PlainEvent) → AreEvents c es → AreGood c → (node n : ℕ) → n ≤ length es → lookups_taken (take n es) node ≤ lookups_given (take n es) node
lookups_balanced c es are good node zero within = omega arith
lookups_balanced c es are good node (suc n) within =
    let before = lookups_balanced c es are good node n (omega (arith, within)) in
    let event = element_at es n within in
    let message = element_at c n (omega (arith, within, are.counted)) in
    let is : IsEvent (take n c) message.0 event.0 = are.each n message.0 event.0 message.1 event.1 in
    let more = take_with_next es n event.0 event.1 in
    let given = given_more (take n es) event.0 node in
    let taken = taken_more (take n es) event.0 node in
    let balanced : lookups_taken (take n es ++ event.0 ∷ []) node ≤ lookups_given (take n es ++ event.0 ∷ []) node =
    elim event.0 as (λ e. IsEvent (take n c) message.0 e → lookups_taken (take n es ++ e ∷ []) node ≤ lookups_given (take n es ++ e ∷ []) node) [
      | Asked at r ↦ λ asks.
          let passes = good n message.0 (omega (arith, within, are.counted)) message.1 in
          let rules = passes_rules (take n c) (take n es) message.0 r (events_front c es are n) passes asks.1 in
          let all = takes_within (take n es) r node [] (request_takes r) rules.within refl (omega (arith, before)) in
          omega (arith, all, given_more (take n es) (Asked at r) node, taken_more (take n es) (Asked at r) node)
      | Answered at p r reply ↦ λ answers. omega (arith, before, given_more (take n es) (Answered at p r reply) node, taken_more (take n es) (Answered at p r reply) node)
      | Notice at ↦ λ notes. omega (arith, before, given_more (take n es) (Notice at) node, taken_more (take n es) (Notice at) node)
    ] is in
    subst (λ x. lookups_taken x node ≤ lookups_given x node) (sym more) balanced

-- ---- the names of nodes that are given

-- a list has a node that stands in it
count_some : (nodes : List ℕ) (k node : ℕ) → slice_get nodes k ≡ Some node → 0 < count_by (λ n. n == node) nodes
count_some [] k node there = absurd cc
count_some (n ∷ nodes) zero node there =
    let same : n ≡ node = cc in
    let one_if : Bool → ℕ = λ b. (if b then 1 else 0) in
    let test : (n == node) ≡ true = grind (arith, nat_tests, same) in
    omega (arith, ap one_if test, sum_by-cons (λ x. one_if (x == node)) n nodes)
count_some (n ∷ nodes) (suc k) node there =
    let later = count_some nodes k node there in
    let one_if : Bool → ℕ = λ b. (if b then 1 else 0) in
    omega (arith, later, sum_by-cons (λ x. one_if (x == node)) n nodes)

-- nodes that have a name each have a list of names
names_there : (es : List PlainEvent) (nodes : List ℕ) → ((k node : ℕ) → slice_get nodes k ≡ Some node → (name : NodeName) × (name_at es node ≡ Some name))
    → (names : List NodeName) × (map (λ node. name_at es node) nodes ≡ map (λ name. Some name) names)
names_there es [] each = ([], refl)
names_there es (node ∷ nodes) each =
    let first = each 0 node refl in
    let later = names_there es nodes (λ k other there. each (suc k) other there) in
    (first.0 ∷ later.0, let head = first.1 in let tail = later.1 in cc)

-- what a reply may give has names behind it
pub given_names : (c : List Message) (es : List PlainEvent) → AreEvents c es → AreGood c → (at p : ℕ) (r : PlainRequest) (reply : PlainReply) → All MayBeGiven (nodes_given r.body reply)
    → (names : List NodeName) × (map (λ node. name_at (es ++ Answered at p r reply ∷ []) node) (nodes_given r.body reply) ≡ map (λ name. Some name) names)
given_names c es are good at p r reply may =
    names_there (es ++ Answered at p r reply ∷ []) (nodes_given r.body reply) (λ k node there.
    let e : PlainEvent = Answered at p r reply in
    let other : MayBeGiven node = all_there MayBeGiven (nodes_given r.body reply) k node may there in
    let whole : take (length es) es ≡ es = take_all (length es) es (omega arith) in
    let before : lookups_taken es node ≤ lookups_given es node = subst (λ x. lookups_taken x node ≤ lookups_given x node) whole (lookups_balanced c es are good node (length es) (omega arith)) in
    let gives : 0 < times_given node e = count_some (nodes_given r.body reply) k node there in
    let named = counted_named (es ++ e ∷ []) node other.1 (omega (arith, before, gives, given_more es e node, taken_more es e node)) in
    (Given named.0 node, named.1))
