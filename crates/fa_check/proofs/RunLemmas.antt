-- Runs: the call of an entry is one, so is the tree that its step leaves, and so is the last tree of a run.
use Rattle.std.proofs.Common.{◌≡◌, ℕ, List, [], ◌∷◌, ◌++◌, take, Option, Some, None, refl, sym, subst, ◌∙◌}
use Rattle.std.specs.Prelude.{slice_get}
use Rattle.fa_capture.specs.Message.{Message}
use Rattle.fa_bodies.specs.Dirents.{PlainDirent}
use Rattle.fa_bodies.specs.Requests.{PlainRequest}
use Rattle.fa_session.specs.Events.{PlainEvent}
use Rattle.fa_session.specs.Events.PlainEvent.{Asked}
use Rattle.fa_ledger.specs.Listings.{offset_asked, IsListedSoFar}
use Rattle.fa_ledger.specs.Calls.{PlainCall, IsCall}
use Rattle.fa_ledger.proofs.CallerLemmas.{events_are_one, request_there, call_is_one, uses_is_one, listed_is_one}
use Rattle.fa_tree.specs.State.{TreeState}
use Rattle.fa_tree.specs.Steps.{Steps}
use Rattle.fa_tree.proofs.CallerLemmas.{step_is_one}
use Rattle.fa_order.specs.declared.entry.Entry.{Entry}
use Rattle.fa_check.specs.Runs.{IsListedFrom, IsCallAt, EntrySteps, Runs}
use Rattle.fa_check.specs.Laws.{RunIsOne}

-- ---- the call of an entry

-- what was listed so far for a request is one
listed_one : (before : List PlainEvent) (r : PlainRequest) (offset : Option ℕ) (one two : List PlainDirent) → IsListedFrom before r offset one → IsListedFrom before r offset two → one ≡ two
listed_one before r None one two is too = is ∙ sym too
listed_one before r (Some offset) one two is too =
    let handle : is.0 ≡ too.0 = uses_is_one before r is.0 too.0 is.1 too.1 in
    let moved : IsListedSoFar before too.0 offset one is.2.0 = subst (λ h. IsListedSoFar before h offset one is.2.0) handle is.2.1 in
    (listed_is_one before too.0 offset one two is.2.0 too.2.0 moved too.2.1).0

-- so are the call of a message and what was listed so far for it
pub call_one : (c : List Message) (p : ℕ) (call other : PlainCall) (so_far listed : List PlainDirent) → IsCallAt c p call so_far → IsCallAt c p other listed → (call ≡ other) × (so_far ≡ listed)
call_one c p call other so_far listed is too =
    let events : is.events ≡ too.events = events_are_one c is.events too.events is.are too.are in
    let exact : IsCall too.events call = subst (λ es. IsCall es call) events is.exact in
    let same : call ≡ other = call_is_one c too.events too.are call other exact too.exact (is.number ∙ sym too.number) in
    let r = too.exact.request in
    let there : slice_get too.events call.asked ≡ Some (Asked call.asked is.exact.request) =
    subst (λ es. slice_get es call.asked ≡ Some (Asked call.asked is.exact.request)) events is.exact.there in
    let requests : r ≡ is.exact.request = request_there too.events call.asked other is.exact.request too.exact (too.number ∙ sym is.number) there in
    let moved : IsListedFrom (take p too.events) r (offset_asked r.body) so_far =
    subst (λ (x : PlainRequest). IsListedFrom (take p too.events) x (offset_asked x.body) so_far) (sym requests)
    (subst (λ es. IsListedFrom (take p es) is.exact.request (offset_asked is.exact.request.body) so_far) events is.listed) in
    (same, listed_one (take p too.events) r (offset_asked r.body) so_far listed moved too.listed)

-- ---- steps

-- an entry leads from a tree to one other
pub entry_is_one : (c : List Message) (old new other : TreeState) (e : Entry) → EntrySteps old new c e → EntrySteps old other c e → new ≡ other
entry_is_one c old new other e is too =
    let same = call_one c e.at is.call too.call is.so_far too.so_far is.of_request too.of_request in
    step_is_one old new other too.call e.wrote too.so_far
    (subst (λ s. Steps old new too.call e.wrote s) same.1 (subst (λ x. Steps old new x e.wrote is.so_far) same.0 is.steps)) too.steps

-- ---- runs

pub run_is_one : RunIsOne
run_is_one c first last other [] run too = run ∙ sym too
run_is_one c first last other (e ∷ es) run too =
    let between : run.0 ≡ too.0 = entry_is_one c first run.0 too.0 e run.1 too.1 in
    run_is_one c too.0 last other es (subst (λ t. Runs t last c es) between run.2) too.2

-- a run goes on by one step
pub run_more : (c : List Message) (first between last : TreeState) (es : List Entry) (e : Entry) → Runs first between c es → EntrySteps between last c e → Runs first last c (es ++ e ∷ [])
run_more c first between last [] e run step = (last, subst (λ t. EntrySteps t last c e) run step, refl)
run_more c first between last (f ∷ es) e run step = (run.0, run.1, run_more c run.0 between last es e run.2 step)

-- each entry of a run has its step, from the tree that those before it lead to
pub run_at : (c : List Message) (first last : TreeState) (es later : List Entry) (e : Entry) → Runs first last c (es ++ e ∷ later)
    → (between new : TreeState) × Runs first between c es × EntrySteps between new c e
run_at c first last [] later e run = (first, run.0, refl, run.1)
run_at c first last (f ∷ es) later e run =
    let behind = run_at c run.0 last es later e run.2 in
    (behind.0, behind.1, (run.0, run.1, behind.2), behind.3)
