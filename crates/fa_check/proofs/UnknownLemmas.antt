-- No call names what the tree does not know: what it names came from answers before it, to requests that are placed.
use Rattle.std.proofs.Common.{◌≡◌, ℕ, ℤ, true, false, map, suc, ◌+◌, ◌<◌, List, [], ◌∷◌, take, Option, None, Some, Result, Ok, refl, sym, ap, subst, ◌∙◌, inl, inr, arith}
use Rattle.std.proofs.Math.Logic.{∥∥₁_elim}
use Rattle.std.specs.Prelude.{slice_get, Contains, option_map, IfOk}
use Rattle.std.specs.Option.{option_map_or}
use Rattle.std.proofs.lemmas.Option.{same_Some}
use Rattle.std.specs.declared.alloc.AllocError.{AllocError}
use Rattle.fa_capture.specs.declared.codes.TheConstants.{UNKNOWN_HERE}
use Rattle.fa_capture.specs.Message.{Message}
use Rattle.fa_capture.proofs.CallerLemmas.{contains_cases, not_told}
use Rattle.fa_bodies.specs.Requests.{PlainRequest, PlainBody}
use Rattle.fa_bodies.specs.Requests.PlainBody.{Opendir}
use Rattle.fa_bodies.specs.Replies.{PlainReply}
use Rattle.fa_bodies.specs.declared.handles.OpenOut.{OpenOut}
use Rattle.fa_session.specs.Answers.{IsAnsweredBy}
use Rattle.fa_session.specs.Events.{PlainEvent}
use Rattle.fa_ledger.specs.declared.call.Listing.{Listing}
use Rattle.fa_ledger.specs.declared.calls.Calls.{Calls}
use Rattle.fa_ledger.specs.declared.name.NodeName.{NodeName}
use Rattle.fa_ledger.specs.declared.name.NodeName.TheVariants.{Root, Given}
use Rattle.fa_ledger.specs.Events.{AreEvents}
use Rattle.fa_ledger.specs.Counts.{nodes_given}
use Rattle.fa_ledger.specs.Names.{name_at, nodes_named}
use Rattle.fa_ledger.specs.Listings.{IsListingIfAny}
use Rattle.fa_ledger.specs.Calls.{PlainAnswer, PlainCall, IsHandleUsed, IsAskedCall, OpensAnew, IsCall}
use Rattle.fa_ledger.specs.declared.operation.Outcome.TheVariants.{Fails, Succeeds}
use Rattle.fa_ledger.specs.Operations.{operation_of, ended}
use Rattle.fa_ledger.specs.Operations.PlainAction.{Opendir as OpendirAction}
use Rattle.fa_ledger.specs.Operations.PlainOperation.{Acts}
use Rattle.fa_ledger.proofs.CallerLemmas.{gives, answer_comes, events_are_one, IsTreeAnswer, IsNamedSince, IsOpenedBefore, HasReply, name_given, lists_directory, handle_opened, call_replied}
use Rattle.fa_tree.specs.State.{TreeState, root}
use Rattle.fa_tree.specs.Steps.{names_given, opens_anew}
use Rattle.fa_tree.proofs.CallerLemmas.{IsKnownIn, IsOpenedIn, UsesOpened, step_keeps_node, step_keeps_open, step_gives, step_opens, all_known, told_unknown}
use Rattle.fa_order.specs.declared.entry.Entry.{Entry}
use Rattle.fa_check.specs.declared.verdict.Verdict.{Verdict}
use Rattle.fa_check.specs.declared.verdict.Verdict.TheVariants.{NotShown}
use Rattle.fa_check.specs.Orders.{IsTreeRequestAt, numbers}
use Rattle.fa_check.specs.Runs.{EntrySteps, Runs}
use Rattle.fa_check.specs.Faults.{order_checks, StepFails}
use Rattle.fa_check.specs.Verdicts.{AreMessagesOf, IsVerdict}
use Rattle.fa_check.specs.Laws.{NeverUnknownHere}

-- ---- runs

-- what steps keep stays to the end of a run
run_keeps : (c : List Message) (Such : TreeState → Type 0) → ((old new : TreeState) (e : Entry) → EntrySteps old new c e → Such old → Such new)
    → (es : List Entry) (first last : TreeState) → Runs first last c es → Such first → Such last
run_keeps c Such keeps [] first last run such = subst Such (sym run) such
run_keeps c Such keeps (e ∷ es) first last run such = run_keeps c Such keeps es run.0 last run.2 (keeps first run.0 e run.1 such)

-- and so does what the step of an entry makes
run_makes : (c : List Message) (Such : TreeState → Type 0) → ((old new : TreeState) (e : Entry) → EntrySteps old new c e → Such old → Such new)
    → (asked : ℕ) → ((old new : TreeState) (e : Entry) → e.at ≡ asked → EntrySteps old new c e → Such new)
    → (es : List Entry) (first last : TreeState) → Runs first last c es → Contains (numbers es) asked → Such last
run_makes c Such keeps asked makes [] first last run has = absurd (omega (arith, has.1))
run_makes c Such keeps asked makes (e ∷ es) first last run has =
    elim (contains_cases e.at (numbers es) asked has) [
      | inl here ↦ run_keeps c Such keeps es run.0 last run.2 (makes first run.0 e here run.1)
      | inr behind ↦ run_makes c Such keeps asked makes es run.0 last run.2 behind
    ]

-- ---- the step of an answered request

module _ (c : List Message) (es : List PlainEvent) (are : AreEvents c es) (old new : TreeState) (e : Entry) (step : EntrySteps old new c e) where
  -- the call of the entry, of these events
  exact : IsCall es step.call
  exact = subst (λ xs. IsCall xs step.call) (events_are_one c step.of_request.events es step.of_request.are are) step.of_request.exact

  -- the step of the request whose answer gives a node knows its name
  entry_gives : (p id g : ℕ) (named : IsNamedSince c es p id g) → e.at ≡ named.asked → IsKnownIn (Given g id) new
  entry_gives p id g named at =
      let call = step.call in
      let number : call.asked ≡ named.asked = step.of_request.number ∙ at in
      let replied : HasReply es call exact g named.request named.reply =
      call_replied c es are call exact p g named.request named.reply (subst (λ n. IsTreeAnswer c es p g n named.request named.reply) (sym number) named.answer) in
      let answer = replied.answer in
      let said = replied.of_call.reply in
      let gives_these : nodes_given exact.request.body said ≡ gives call.operation = (answer_comes c es are call exact answer replied.of_call).given in
      let there : Contains (nodes_given exact.request.body said) id =
      subst (λ r. Contains (nodes_given r.body said) id) (sym replied.same) (subst (λ reply. Contains (nodes_given named.request.body reply) id) (sym replied.says) named.gives) in
      let behind : suc g ≡ answer.at + 1 = (let place = replied.place in omega (arith, place)) in
      let name_of : ℕ → Option NodeName = λ node. name_at (take (answer.at + 1) es) node in
      let names : answer.given ≡ names_given call = ap (λ (found : Option PlainAnswer). option_map_or (λ (a : PlainAnswer). a.given) found []) (sym replied.has) in
      step_gives old new call e.wrote step.so_far name_of id id g step.steps
      (ap (map name_of) (sym gives_these) ∙ replied.of_call.given ∙ ap (map (λ n. Some n)) names)
      (subst (λ (nodes : List ℕ). Contains nodes id) gives_these there)
      (subst (λ n. name_at (take n es) id ≡ Some (Given g id)) behind named.named)

  -- that of an OPENDIR whose answer opens a handle anew knows the directory
  entry_opens : (p handle : ℕ) → IsOpenedBefore c es p handle → e.at ≡ handle → IsOpenedIn handle new
  entry_opens p handle opened at =
      let call = step.call in
      let number : call.asked ≡ handle = step.of_request.number ∙ at in
      let replied : HasReply es call exact opened.by opened.request opened.reply =
      call_replied c es are call exact p opened.by opened.request opened.reply (subst (λ n. IsTreeAnswer c es p opened.by n opened.request opened.reply) (sym number) opened.answer) in
      let answer = replied.answer in
      let out : OpenOut = opened.says.0 in
      let body : exact.request.body ≡ Opendir opened.asks.0 = ap (λ r. r.body) replied.same ∙ opened.asks.1 in
      let made : operation_of exact.request.body (Some replied.of_call.reply) ≡ Some (Acts (OpendirAction (Succeeds out))) =
      ap (λ (b : PlainBody). operation_of b (Some replied.of_call.reply)) body
      ∙ ap (λ (reply : PlainReply). operation_of (Opendir opened.asks.0) (Some reply)) (replied.says ∙ opened.says.1) in
      let asks : call.operation ≡ Acts (OpendirAction (Succeeds out)) = same_Some call.operation (Acts (OpendirAction (Succeeds out))) (sym replied.of_call.does ∙ made) in
      let anew : OpensAnew es answer.at = subst (OpensAnew es) (sym replied.place) opened.anew in
      let opens : opens_anew call ≡ true = ap (λ (found : Option PlainAnswer). option_map_or (λ (a : PlainAnswer). a.opens) found false) replied.has ∙ replied.of_call.opens.1 anew in
      let no_error : (error : ℤ) → ended call.operation ≡ Fails error → ⊥ = λ error fails. (let clash = sym (ap ended asks) ∙ fails in absurd cc) in
      subst (λ n. IsOpenedIn n new) number (step_opens old new call e.wrote step.so_far (Succeeds out) step.steps asks no_error opens)

-- ---- behind a run

-- the steps of entries keep what is known
entry_keeps_node : (c : List Message) (name : NodeName) (old new : TreeState) (e : Entry) → EntrySteps old new c e → IsKnownIn name old → IsKnownIn name new
entry_keeps_node c name old new e step known = step_keeps_node old new step.call e.wrote step.so_far name step.steps known

entry_keeps_open : (c : List Message) (asked : ℕ) (old new : TreeState) (e : Entry) → EntrySteps old new c e → IsOpenedIn asked old → IsOpenedIn asked new
entry_keeps_open c asked old new e step known = step_keeps_open old new step.call e.wrote step.so_far asked step.steps known

module _ (c : List Message) (es : List PlainEvent) (are : AreEvents c es) (first last : TreeState) (earlier : List Entry) (run : Runs first last c earlier) (p : ℕ)
    (placed : (asked q : ℕ) → IsTreeRequestAt c asked → IsAnsweredBy c asked q → q < p → Contains (numbers earlier) asked) where
  -- Where all that was answered before message p is placed, what it names is known: nodes
  named_known : (node : ℕ) (name : NodeName) → name_at (take p es) node ≡ Some name → IsKnownIn name last
  named_known node Root is = (root, refl)
  named_known node (Given g id) is =
      let named = name_given c es are p node id g is in
      run_makes c (IsKnownIn (Given g id)) (entry_keeps_node c (Given g id)) named.asked (λ old new e at step. entry_gives c es are old new e step p id g named at)
      earlier first last run (placed named.asked g named.answer.tree named.answer.answered named.answer.before)

  -- and open directories
  handle_known : (handle : ℕ) → IsOpenedBefore c es p handle → IsOpenedIn handle last
  handle_known handle opened =
      run_makes c (IsOpenedIn handle) (entry_keeps_open c handle) handle (λ old new e at step. entry_opens c es are old new e step p handle opened at)
      earlier first last run (placed handle opened.by opened.answer.tree opened.answer.answered opened.answer.before)

-- ---- the call of an entry

-- the name of a second node
second_named : (name_of : ℕ → Option NodeName) (node : Option ℕ) (other : Option NodeName) (name : NodeName) → option_map name_of node ≡ option_map (λ n. Some n) other → other ≡ Some name
    → (second : ℕ) × (name_of second ≡ Some name)
second_named name_of None other name is some = let clash = is ∙ ap (option_map (λ n. Some n)) some in absurd cc
second_named name_of (Some node) other name is some = (node, same_Some (name_of node) (Some name) (is ∙ ap (option_map (λ n. Some n)) some))

-- behind the entries that are placed before it, the tree knows what the call of an entry names
pub step_known : (c : List Message) (first tree : TreeState) (earlier : List Entry) (e : Entry) → Runs first tree c earlier
    → ((asked q : ℕ) → IsTreeRequestAt c asked → IsAnsweredBy c asked q → q < e.at → Contains (numbers earlier) asked) → StepFails tree c e UNKNOWN_HERE → ⊥
step_known c first tree earlier e run placed fails =
    all_known tree call (named r.node call.node asked.node) others handles (told_unknown tree call e.wrote fails.so_far fails.fails)
  where
    call : PlainCall
    call = fails.call

    es : List PlainEvent
    es = fails.of_request.events

    are : AreEvents c es
    are = fails.of_request.are

    r : PlainRequest
    r = fails.of_request.exact.request

    asked : IsAskedCall (take call.asked es) r call
    asked = fails.of_request.exact.asked

    before : (p q : ℕ) → IsTreeRequestAt c p → IsAnsweredBy c p q → q < call.asked → Contains (numbers earlier) p
    before = subst (λ n. (p q : ℕ) → IsTreeRequestAt c p → IsAnsweredBy c p q → q < n → Contains (numbers earlier) p) (sym fails.of_request.number) placed

    named : (node : ℕ) (name : NodeName) → name_at (take call.asked es) node ≡ Some name → IsKnownIn name tree
    named = named_known c es are first tree earlier run call.asked before

    others : (name : NodeName) → call.other ≡ Some name → IsKnownIn name tree
    others name is =
        let second = second_named (λ node. name_at (take call.asked es) node) (slice_get (nodes_named r) 1) call.other name asked.other is in
        named second.0 name second.1

    handles : (l : Listing) → call.listing ≡ Some l → UsesOpened tree call.handle
    handles l is =
        let listing : IsListingIfAny (take call.asked es) r (Some l) = subst (IsListingIfAny (take call.asked es) r) is asked.listing in
        let uses = listing.uses in
        let used : IsHandleUsed (take call.asked es) (Some uses.key) call.handle = subst (λ k. IsHandleUsed (take call.asked es) k call.handle) uses.used asked.handle in
        let opened = handle_opened c es are call.asked uses.key used.0 (lists_directory (take call.asked es) r listing.offset uses.key listing.asks uses.used) used.2 in
        (used.0, used.1, handle_known c es are first tree earlier run call.asked before used.0 opened)

-- ---- orders

pub never_unknown_here : NeverUnknownHere
never_unknown_here c first es entry at fault =
    elim fault [
      | inl f ↦ elim f.fails [
        | inl here ↦ not_told UNKNOWN_HERE (order_checks c f.earlier f.e) ((λ e. omega (arith, e)), ((λ e. omega (arith, e)), ((λ e. omega (arith, e)), ((λ e. omega (arith, e)), tt)))) here
        | inr step ↦ step_known c first f.tree f.earlier f.e f.run step.0.1.1.0 step.1
      ]
      | inr left ↦ let told = left.told in omega (arith, told)
    ]

-- ---- what is answered

-- so the code is never answered
pub never_unknown : (calls : Calls) (first : TreeState) (es : List Entry) (result : Result Verdict AllocError) → ((c : List Message) → AreMessagesOf calls c → IfOk result (IsVerdict c first es))
    → (entry at : ℕ) → result ≡ Ok (NotShown entry at UNKNOWN_HERE) → ⊥
never_unknown calls first es result told entry at same =
    ∥∥₁_elim calls.good (λ x y. absurd x) (λ some.
    let is = told some.0 (record { good = some.1; counted = some.2; are = some.3 }) in
    never_unknown_here some.0 first es entry at (subst (λ r. IfOk r (IsVerdict some.0 first es)) same is))
