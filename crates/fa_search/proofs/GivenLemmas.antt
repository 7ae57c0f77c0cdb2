-- What trees know of the nodes that answers gave: a step adds those of its own answer, and none is lost.
use Rattle.std.proofs.Common.{◌≡◌, ℕ, suc, ◌+◌, ◌<◌, false, map, List, [], ◌∷◌, take, Option, None, Some, refl, sym, ap, subst, ◌∙◌, inl, inr, arith}
use Rattle.std.specs.Prelude.{slice_get, Contains}
use Rattle.std.specs.Option.{option_map_or}
use Rattle.std.specs.FinMap.{get}
use Rattle.std.proofs.lemmas.List.Elements.{All-contains}
use Rattle.fa_capture.specs.Message.{Message}
use Rattle.fa_capture.proofs.CallerLemmas.{contains_cases, contains_first, contains_behind}
use Rattle.fa_session.specs.Events.{PlainEvent}
use Rattle.fa_ledger.specs.declared.name.NodeName.{NodeName}
use Rattle.fa_ledger.specs.declared.name.NodeName.TheVariants.{Root, Given}
use Rattle.fa_ledger.specs.declared.operation.Outcome.{Outcome}
use Rattle.fa_ledger.specs.declared.operation.Outcome.TheVariants.{Fails, Succeeds, Unanswered}
use Rattle.fa_ledger.specs.Events.{AreEvents}
use Rattle.fa_ledger.specs.Counts.{nodes_given}
use Rattle.fa_ledger.specs.Names.{name_at}
use Rattle.fa_ledger.specs.Calls.{PlainAnswer, PlainCall, HasAnswer, IsCall, AreCalls}
use Rattle.fa_ledger.specs.Kinds.{IsFailure}
use Rattle.fa_ledger.specs.Operations.{ended}
use Rattle.fa_ledger.proofs.CallerLemmas.{gives, answer_comes, events_are_one, IsTreeAnswer, IsNamedSince, HasReply, name_given, call_replied, call_at, calls_end_where_answered}
use Rattle.fa_tree.specs.State.{TreeState, root}
use Rattle.fa_tree.specs.Steps.{names_given, opens_anew, Steps}
use Rattle.fa_tree.proofs.CallerLemmas.{step_keeps_node, step_gives, step_failed_stays, step_read_stays}
use Rattle.fa_order.specs.declared.entry.Entry.{Entry}
use Rattle.fa_check.specs.Orders.{numbers}
use Rattle.fa_check.specs.Runs.{EntrySteps, Runs}
use Rattle.fa_check.proofs.CallerLemmas.{call_one, call_of_message}
use Rattle.fa_search.specs.parts.Going.{OrThis}
use Rattle.fa_search.specs.parts.Configurations.{PlainConfiguration, IsReached, KeepsTrees, IsGivenUpTo, GivesUpTo, IsKnown, MakesKnown, KnowsGiven, LeavesFrom, IsAhead}
use Rattle.fa_search.specs.Searches.{IsUsedFrom}
use Rattle.fa_search.proofs.AlikeLemmas.{knows_alike}
use Rattle.fa_search.proofs.IdleLemmas.{AreKnown, step_knowing_stays}

-- ---- runs

-- what steps keep stays to the end of a run
pub run_keeps : (c : List Message) (Such : TreeState → Type 0) → ((old new : TreeState) (e : Entry) → EntrySteps old new c e → Such old → Such new)
    → (es : List Entry) (first last : TreeState) → Runs first last c es → Such first → Such last
run_keeps c Such keeps [] first last run such = subst Such (sym run) such
run_keeps c Such keeps (e ∷ es) first last run such = run_keeps c Such keeps es run.0 last run.2 (keeps first run.0 e run.1 such)

-- and so does what the step of an entry makes
run_makes : (c : List Message) (Such : TreeState → Type 0) → ((old new : TreeState) (e : Entry) → EntrySteps old new c e → Such old → Such new)
    → (asked : ℕ) → ((old new : TreeState) (e : Entry) → e.at ≡ asked → EntrySteps old new c e → Such new)
    → (es : List Entry) (first last : TreeState) → Runs first last c es → Contains (numbers es) asked → Such last
run_makes c Such keeps asked makes [] first last run has = absurd (omega (arith, has.1))
run_makes c Such keeps asked makes (e ∷ es) first last run has =
    elim (contains_cases e.at (numbers es) asked has) [
      | inl here ↦ run_keeps c Such keeps es run.0 last run.2 (makes first run.0 e here run.1)
      | inr behind ↦ run_makes c Such keeps asked makes es run.0 last run.2 behind
    ]

-- a node that is known stays so
pub entry_keeps : (c : List Message) (name : NodeName) (old new : TreeState) (e : Entry) → EntrySteps old new c e → IsKnown name old → IsKnown name new
entry_keeps c name old new e step known = step_keeps_node old new step.call e.wrote step.so_far name step.steps known

-- ---- what is known behind a step

-- a name that stands for a node of these is that of one
name_there : (name_of : ℕ → Option NodeName) (nodes : List ℕ) (names : List NodeName) (name : NodeName) → map name_of nodes ≡ map (λ n. Some n) names → Contains names name
    → (node : ℕ) × Contains nodes node × (name_of node ≡ Some name)
name_there name_of nodes [] name same has = absurd (omega (arith, has.1))
name_there name_of [] (n ∷ names) name same has = absurd cc
name_there name_of (node ∷ nodes) (n ∷ names) name same has =
    let first : name_of node ≡ Some n = cc in
    let rest : map name_of nodes ≡ map (λ k. Some k) names = cc in
    elim (contains_cases n names name has) [
      | inl here ↦ (node, contains_first node nodes, first ∙ ap (λ (k : NodeName). Some k) here)
      | inr behind ↦ let found = name_there name_of nodes names name rest behind in (found.0, contains_behind node nodes found.0 found.1, found.2)
    ]

-- the names that an answer gives
given_by : (call : PlainCall) (answer : PlainAnswer) → call.answer ≡ Some answer → names_given call ≡ answer.given
given_by call answer some = ap (λ (found : Option PlainAnswer). option_map_or (λ (a : PlainAnswer). a.given) found []) some

none_given : (call : PlainCall) → call.answer ≡ None → names_given call ≡ []
none_given call none = ap (λ (found : Option PlainAnswer). option_map_or (λ (a : PlainAnswer). a.given) found []) none

none_opened : (call : PlainCall) → call.answer ≡ None → opens_anew call ≡ false
none_opened call none = ap (λ (found : Option PlainAnswer). option_map_or (λ (a : PlainAnswer). a.opens) found false) none

module _ (c : List Message) (es : List PlainEvent) (are : AreEvents c es) (old new : TreeState) (e : Entry) (step : EntrySteps old new c e) where
  -- the call of the entry, of these events
  exact : IsCall es step.call
  exact = subst (λ xs. IsCall xs step.call) (events_are_one c step.of_request.events es step.of_request.are are) step.of_request.exact

  -- the tree knows the nodes that its answer gives
  step_names : (name : NodeName) → Contains (names_given step.call) name → IsKnown name new
  step_names Root has = (root, refl)
  step_names (Given by id) has = by_answer step.call.answer refl exact.answered
    where
      by_answer : (found : Option PlainAnswer) → step.call.answer ≡ found → HasAnswer es exact.request step.call found → IsKnown (Given by id) new
      by_answer None none of = absurd (let there : Contains [] (Given by id) = subst (λ (names : List NodeName). Contains names (Given by id)) (none_given step.call none) has in omega (arith, there.1))
      by_answer (Some answer) some of =
          let call = step.call in
          let names : names_given call ≡ answer.given = given_by call answer some in
          let name_of : ℕ → Option NodeName = λ node. name_at (take (answer.at + 1) es) node in
          let found = name_there name_of (nodes_given exact.request.body of.reply) answer.given (Given by id) of.given
          (subst (λ (ns : List NodeName). Contains ns (Given by id)) names has) in
          let gives_these : nodes_given exact.request.body of.reply ≡ gives call.operation = (answer_comes c es are call exact answer of).given in
          step_gives old new call e.wrote step.so_far name_of found.0 id by step.steps
          (ap (map name_of) (sym gives_these) ∙ of.given ∙ ap (map (λ n. Some n)) (sym names))
          (subst (λ (nodes : List ℕ). Contains nodes found.0) gives_these found.1) found.2

  -- the step of the request whose answer was the first to give a node knows it. fa_check proves this for itself.
  entry_gives : (p id g : ℕ) (named : IsNamedSince c es p id g) → e.at ≡ named.asked → IsKnown (Given g id) new
  entry_gives p id g named at =
      let call = step.call in
      let number : call.asked ≡ named.asked = step.of_request.number ∙ at in
      let replied : HasReply es call exact g named.request named.reply =
      call_replied c es are call exact p g named.request named.reply (subst (λ n. IsTreeAnswer c es p g n named.request named.reply) (sym number) named.answer) in
      let answer = replied.answer in
      let said = replied.of_call.reply in
      let gives_these : nodes_given exact.request.body said ≡ gives call.operation = (answer_comes c es are call exact answer replied.of_call).given in
      let there : Contains (nodes_given exact.request.body said) id =
      subst (λ r. Contains (nodes_given r.body said) id) (sym replied.same) (subst (λ reply. Contains (nodes_given named.request.body reply) id) (sym replied.says) named.gives) in
      let behind : suc g ≡ answer.at + 1 = (let place = replied.place in omega (arith, place)) in
      let name_of : ℕ → Option NodeName = λ node. name_at (take (answer.at + 1) es) node in
      step_gives old new call e.wrote step.so_far name_of id id g step.steps
      (ap (map name_of) (sym gives_these) ∙ replied.of_call.given ∙ ap (map (λ n. Some n)) (sym (given_by call answer replied.has)))
      (subst (λ (nodes : List ℕ). Contains nodes id) gives_these there)
      (subst (λ n. name_at (take n es) id ≡ Some (Given g id)) behind named.named)

-- ---- what was given is known

module _ (c : List Message) (calls : List PlainCall) (are : AreCalls c calls) (place : ℕ) (call : PlainCall) (there : slice_get calls place ≡ Some call) where
  of_entry : (e : Entry) (old new : TreeState) → e.at ≡ call.asked → (step : EntrySteps old new c e) → step.call ≡ call
  of_entry e old new at step =
      (call_one c e.at step.call call step.so_far _ step.of_request (call_of_message c calls are place e.at call there (sym at))).0

  -- a call makes known each node that its answer gives
  pub call_makes_known : (name : NodeName) → Contains (names_given call) name → MakesKnown c call.asked name
  call_makes_known name has old new e at step =
      step_names c are.events are.are old new e step name (subst (λ (k : PlainCall). Contains (names_given k) name) (sym (of_entry e old new at step)) has)

  -- Where the tree knows what was given, it knows the nodes that a call gives which a reply before the message was the first to give.
  pub earlier_known : (at : ℕ) (Placed : ℕ → Type 0) (tree : TreeState) → KnowsGiven c at Placed tree → (g id : ℕ) → Contains (names_given call) (Given g id) → g < at → IsKnown (Given g id) tree
  earlier_known at Placed tree knows g id has early = by_answer call.answer refl exact.answered
    where
      es : List PlainEvent
      es = are.events

      exact : IsCall es call
      exact = call_at es calls are.exact.each place call there

      by_answer : (found : Option PlainAnswer) → call.answer ≡ found → HasAnswer es exact.request call found → IsKnown (Given g id) tree
      by_answer None none of = absurd (let given : Contains [] (Given g id) = subst (λ (names : List NodeName). Contains names (Given g id)) (none_given call none) has in omega (arith, given.1))
      by_answer (Some answer) some of =
          let found = name_there (λ node. name_at (take (answer.at + 1) es) node) (nodes_given exact.request.body of.reply) answer.given (Given g id) of.given
          (subst (λ (ns : List NodeName). Contains ns (Given g id)) (given_by call answer some) has) in
          let named = name_given c es are.are (answer.at + 1) found.0 id g found.2 in
          knows named.asked (Given g id) (inl (named.answer.tree, (g, named.answer.answered, early)))
          (λ old new e at step. entry_gives c es are.are old new e step (answer.at + 1) id g named at)

  -- ---- what leaves a tree, and each later one

  -- a call that leaves each tree as it is does
  pub call_leaves : KeepsTrees call → (tree : TreeState) → LeavesFrom c tree call.asked
  call_leaves keeps tree later new e as_much at step =
      let taken : Steps later new call e.wrote step.so_far = subst (λ (k : PlainCall). Steps later new k e.wrote step.so_far) (of_entry e later new at step) step.steps in
      elim keeps [
        | inl fails ↦ step_failed_stays later new call e.wrote step.so_far fails taken
        | inr reads ↦ step_read_stays later new call e.wrote step.so_far reads.0 reads.1 reads.2 taken
      ]

  -- and so does one that only reads, opens no directory anew, and gives nodes that the tree knows
  pub knowing_leaves : (reply : ℕ) → GivesUpTo reply call → (tree : TreeState) → ((name : NodeName) → Contains (names_given call) name → IsKnown name tree) → LeavesFrom c tree call.asked
  knowing_leaves reply up tree known later new e as_much at step = by_outcome (ended call.operation) refl
    where
      taken : Steps later new call e.wrote step.so_far
      taken = subst (λ (k : PlainCall). Steps later new k e.wrote step.so_far) (of_entry e later new at step) step.steps

      stands : (name : NodeName) → IsGivenUpTo reply name → IsKnown name later → (file : _) × (get later.nodes name ≡ Some file)
      stands Root none found = absurd none
      stands (Given g id) given found = found

      known_later : AreKnown later.nodes (names_given call)
      known_later name has =
          stands name (All-contains (IsGivenUpTo reply) (names_given call) name up.2 has) (as_much name (known name has))

      by_outcome : (o : Outcome (Unit {0})) → ended call.operation ≡ o → new ≡ later
      by_outcome (Fails error) is = step_failed_stays later new call e.wrote step.so_far (subst IsFailure (sym is) tt) taken
      by_outcome (Succeeds success) is = step_knowing_stays later new call e.wrote step.so_far up.0 up.1 is known_later taken
      by_outcome Unanswered is =
          let none : call.answer ≡ None = (calls_end_where_answered c are.events call are.are (call_at are.events calls are.exact.each place call there)).0 is in
          step_read_stays later new call e.wrote step.so_far up.0 (none_given call none) (none_opened call none) taken

-- ---- what configurations know

-- one to which entries come knows what was given
pub knows_reached : (c : List Message) (first : TreeState) (at : ℕ) (x : PlainConfiguration) → IsReached c first at x → KnowsGiven c at (Contains x.placed) x.tree
knows_reached c first at x reached p name done makes =
    run_makes c (IsKnown name) (entry_keeps c name) p makes reached.entries first x.tree reached.run ((reached.exact p).1 done)

-- so does what a step leads to
pub knows_next : (c : List Message) (at : ℕ) (Placed : ℕ → Type 0) (tree new : TreeState) (e : Entry) → EntrySteps tree new c e → KnowsGiven c at Placed tree
    → KnowsGiven c at (OrThis Placed e.at) new
knows_next c at Placed tree new e step knows p name done makes = elim done [
  | inl answered ↦ entry_keeps c name tree new e step (knows p name (inl answered) makes)
  | inr placed ↦ elim placed [
    | inl before ↦ entry_keeps c name tree new e step (knows p name (inr before) makes)
    | inr here ↦ makes tree new e here step
  ]
]

-- and what is ahead
pub knows_ahead : (c : List Message) (at : ℕ) (Placed : ℕ → Type 0) (tree : TreeState) (x : PlainConfiguration) → KnowsGiven c at Placed tree → IsAhead c at Placed tree x
    → KnowsGiven c at (Contains x.placed) x.tree
knows_ahead c at Placed tree x knows ahead p name done makes = knows_alike (IsUsedFrom c at) tree x.tree ahead.same name (elim done [
  | inl answered ↦ knows p name (inl answered) makes
  | inr has ↦ elim (ahead.others p has) [
    | inl placed ↦ knows p name (inr placed) makes
    | inr idle ↦ idle.knows name makes
  ]
])
