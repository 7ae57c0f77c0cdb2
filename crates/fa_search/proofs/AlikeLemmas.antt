-- Trees that are alike, but for openings of no use from a message on: what goes on from one goes on from the other, to trees that are alike.
use Rattle.std.proofs.Common.{◌≡◌, ℕ, ◌+◌, List, [], ◌∷◌, refl, sym, ap, subst, ◌∙◌, inl, arith}
use Rattle.std.specs.FinMap.{get}
use Rattle.fa_capture.specs.Message.{Message}
use Rattle.fa_bodies.specs.Dirents.{PlainDirent}
use Rattle.fa_ledger.specs.declared.name.NodeName.{NodeName}
use Rattle.fa_ledger.specs.declared.name.NodeName.TheVariants.{Root, Given}
use Rattle.fa_ledger.specs.Calls.{PlainCall}
use Rattle.fa_tree.specs.State.{TreeState, file_of}
use Rattle.fa_tree.specs.Alike.{AreAlike}
use Rattle.fa_tree.proofs.CallerLemmas.{UsesKept, alike_self, fails_alike, step_alike}
use Rattle.fa_order.specs.declared.entry.Entry.{Entry}
use Rattle.fa_check.specs.Runs.{IsCallAt, EntrySteps}
use Rattle.fa_check.specs.Faults.{StepFails}
use Rattle.fa_check.specs.Cuts.{IsAnsweredBefore}
use Rattle.fa_search.specs.Searches.{IsUsedFrom, MayBeNamed}
use Rattle.fa_search.specs.parts.Going.{MayCome, OrThis, GoesOn}
use Rattle.fa_search.specs.parts.Configurations.{IsAnsweredTree, KnowsAsMuch, LeavesFrom}

-- ---- trees

-- a tree is like itself, whatever its name
pub alike_same : (Counts : ℕ → Type 0) (one other : TreeState) → other ≡ one → AreAlike Counts one other
alike_same Counts one other same = subst (AreAlike Counts one) (sym same) (alike_self Counts one)

-- trees that are alike know the same nodes
known_alike : (Counts : ℕ → Type 0) (one other : TreeState) (name : NodeName) → AreAlike Counts one other → file_of other name ≡ file_of one name
known_alike Counts one other Root alike = refl
known_alike Counts one other (Given by id) alike = ap (λ nodes. get nodes (Given by id)) alike.nodes

pub knows_alike : (Counts : ℕ → Type 0) (one other : TreeState) → AreAlike Counts one other → KnowsAsMuch one other
knows_alike Counts one other alike name known = (known.0, known_alike Counts one other name alike ∙ known.1)

-- so what leaves the one leaves the other
pub leaves_alike : (c : List Message) (Counts : ℕ → Type 0) (one other : TreeState) (p : ℕ) → AreAlike Counts one other → LeavesFrom c one p → LeavesFrom c other p
leaves_alike c Counts one other p alike leaves later new e knows at step =
    leaves later new e (λ name known. knows name (knows_alike Counts one other alike name known)) at step

-- ---- what is of use

-- what is of use from a later message on is so from an earlier one on
pub used_earlier : (c : List Message) (at opened : ℕ) → IsUsedFrom c (at + 1) opened → IsUsedFrom c at opened
used_earlier c at opened used = record {
  asked = used.asked;
  call = used.call;
  so_far = used.so_far;
  of_request = used.of_request;
  listing = used.listing;
  lists = used.lists;
  on = used.on;
  waits = λ answered. used.waits (answered.0, answered.1, (let early = answered.2 in omega (arith, early)));
  named = used.named;
}

-- the opening on which a request lists is, if the request was not answered before the message, and may be named
pub request_uses : (c : List Message) (at asked : ℕ) → (IsAnsweredBefore c at asked → ⊥) → MayBeNamed c asked → (call : PlainCall) (so_far : List PlainDirent) → IsCallAt c asked call so_far
    → UsesKept (IsUsedFrom c at) call
request_uses c at asked waits named call so_far of listing lists opened on = record {
  asked = asked;
  call = call;
  so_far = so_far;
  of_request = of;
  listing = listing;
  lists = lists;
  on = on;
  waits = waits;
  named = named;
}

-- as that of an entry that may come next
pub entry_uses : (c : List Message) (at : ℕ) (Done : ℕ → Type 0) → ((p : ℕ) → IsAnsweredTree c at p → Done p) → (e : Entry) → MayCome c Done e → (call : PlainCall) (so_far : List PlainDirent)
    → IsCallAt c e.at call so_far → UsesKept (IsUsedFrom c at) call
entry_uses c at Done done e may call so_far of =
    request_uses c at e.at (λ answered. may.once (done e.at (may.tree_request, answered))) (may.tree_request, (e.wrote, may.choice)) call so_far of

-- ---- what goes on

-- what goes on from a tree goes on from one that is alike
pub goes_on_alike : (c : List Message) (at : ℕ) (es : List Entry) (Done : ℕ → Type 0) → ((p : ℕ) → IsAnsweredTree c at p → Done p) → (old new other : TreeState) → AreAlike (IsUsedFrom c at) old other
    → GoesOn c Done old new es → (to : TreeState) × GoesOn c Done other to es × AreAlike (IsUsedFrom c at) new to
goes_on_alike c at [] Done done old new other alike on = (other, refl, subst (λ (t : TreeState). AreAlike (IsUsedFrom c at) t other) (sym on) alike)
goes_on_alike c at (e ∷ es) Done done old new other alike on =
    let step = on.2 in
    let next = step_alike (IsUsedFrom c at) old other alike step.call (entry_uses c at Done done e on.1 step.call step.so_far step.of_request) e.wrote step.so_far on.0 step.steps in
    let taken : EntrySteps other next.0 c e = record { call = step.call; so_far = step.so_far; of_request = step.of_request; steps = next.1 } in
    let further = goes_on_alike c at es (OrThis Done e.at) (λ p answered. inl (done p answered)) on.0 new next.0 next.2 on.3 in
    (further.0, (next.0, on.1, taken, further.1), further.2)

-- and what is refused from a tree is refused from one that is alike
pub refused_alike : (c : List Message) (at : ℕ) (e : Entry) → (IsAnsweredBefore c at e.at → ⊥) → MayBeNamed c e.at → (one other : TreeState) (code : ℕ) → AreAlike (IsUsedFrom c at) one other
    → StepFails one c e code → StepFails other c e code
refused_alike c at e waits named one other code alike fails = record {
  call = fails.call;
  so_far = fails.so_far;
  of_request = fails.of_request;
  fails = fails_alike (IsUsedFrom c at) one other alike fails.call (request_uses c at e.at waits named fails.call fails.so_far fails.of_request) e.wrote fails.so_far code fails.fails;
}
