use Rattle.std.proofs.Common.{◌≡◌, List, get_or, sym, subst, ap, ◌∙◌, arith}
use Rattle.std.specs.Prelude.{OnOk}
use Rattle.std.proofs.lemmas.Option.{slice_get_within, get_or_from_slice_get}
use Rattle.std.proofs.lemmas.Result.{on_ok_weaker}
use Rattle.fa_capture.specs.Message.{Message}
use Rattle.fa_ledger.specs.declared.calls.Calls.{Calls}
use Rattle.fa_tree.specs.State.{TreeState}
use Rattle.fa_order.specs.declared.entry.Entry.{Entry}
use Rattle.fa_check.specs.Runs.{EntrySteps}
use Rattle.fa_check.specs.Verdicts.{AreMessagesOf}
use Rattle.fa_check.proofs.CallerLemmas.{no_step_failure}
use Rattle.fa_search.specs.declared.settling.Origin.{Origin}
use Rattle.fa_search.specs.declared.settling.Settling.{Settling}
use Rattle.fa_search.specs.parts.Configurations.{PlainConfiguration, IsFollowed}
use Rattle.fa_search.specs.parts.Placed.{IsPlacedIn}
use Rattle.fa_search.specs.parts.Settling.{AreSettlingStill, IsIn}
use Rattle.fa_search.proofs.TakenLemmas.{TakesIn, taken_settling, taken_followed, kept_followed, never_answered, get_there, grown_same, on_ok}
use Rattle.fa_search.proofs.settling.Settling.try_entry.Goals.{else-pending-via-then-pending+else-has_same_tree, else-pending-via-else-pending}
use Rattle.fa_search.proofs.settling.Settling.try_entry.Goals as goal

pub index-from-requires : goal.index-from-requires
index-from-requires c =
    let old = c.args.self.now in
    let within = slice_get_within old.work.items c.args.origin.now.place c.args.origin.now.copy c.requires.origin in
    omega (arith, within, old.work.ok.0)

pub returns-in-Err-Refused-clause-grown : goal.returns-in-Err-Refused-clause-grown
returns-in-Err-Refused-clause-grown c = grown_same c.args.self.now.work.items c.args.self.now.settled.items

pub returns-in-Err-Refused-clause-followed : goal.returns-in-Err-Refused-clause-followed
returns-in-Err-Refused-clause-followed c = λ messages new are steps.
    let refused = rw c.in-Err-Refused.field-0-is at c.in-Err-Refused.ensures.refused in
    let e : Entry = record { at = c.args.pending.asked; wrote = c.args.wrote } in
    absurd (no_step_failure messages c.args.origin.now.copy.tree new e c.in-Err-Refused.field-0-0 steps (refused.1 messages are))

pub returns-then-has_same_tree-clause-grown : goal.returns-then-has_same_tree-clause-grown
returns-then-has_same_tree-clause-grown c = grown_same c.args.self.now.work.items c.args.self.now.settled.items

pub returns-then-has_same_tree-clause-followed : goal.returns-then-has_same_tree-clause-followed
returns-then-has_same_tree-clause-followed c = λ messages new are steps.
    let work = c.args.self.now.work.items in
    let x = c.args.origin.now.copy in
    let place = c.args.origin.now.place in
    let e : Entry = record { at = c.args.pending.asked; wrote = c.args.wrote } in
    let here : c.index-from.result.now ≡ get_or work place c.index-from.result.now = c.index-from.ensures in
    let from : c.index-from.result.now ≡ x = here ∙ get_or_from_slice_get work place x c.index-from.result.now c.requires.origin in
    let one = c.replace-one.result in
    let placed : IsPlacedIn messages x e one = subst (λ (y : PlainConfiguration). IsPlacedIn messages x e y) (sym c.replace-one.ensures.value) (c.in-Ok.ensures.placed messages are) in
    let trees : one.tree ≡ x.tree = c.has_same_tree.ensures c.if-has_same_tree.true ∙ ap (λ (y : PlainConfiguration). y.tree) from in
    kept_followed messages c.args.flight.now.at x e one placed work c.args.self.now.settled.items
    (never_answered messages c.args.tries.now.replay.list are.are c.args.flight.now.at c.args.pending c.requires.pending c.if-pending.true) trees (get_there work place x c.requires.origin) new steps

pub returns-then-has_same_tree-clause-origin : goal.returns-then-has_same_tree-clause-origin
returns-then-has_same_tree-clause-origin c =
    let work = c.args.self.now.work.items in
    let x = c.args.origin.now.copy in
    let place = c.args.origin.now.place in
    let here : c.index-from.result.now ≡ get_or work place c.index-from.result.now = c.index-from.ensures in
    let from : c.index-from.result.now ≡ x = here ∙ get_or_from_slice_get work place x c.index-from.result.now c.requires.origin in
    let copied : c.replace-one.new.dest ≡ x = c.replace-one.ensures.after ∙ c.in_ok-copied.ensures.copy ∙ from in
    ap (λ (y : PlainConfiguration). record { place = place; copy = y }) copied

pub returns-clause-settling : goal.returns-clause-settling
returns-clause-settling c =
    let old = c.args.self.now in
    let new = c.take_in.new.self in
    let x = c.args.origin.now.copy in
    let e : Entry = record { at = c.args.pending.asked; wrote = c.args.wrote } in
    let at = c.args.flight.now.at in
    let asked = c.args.asked in
    let calls = c.args.tries.now.replay in
    let one = c.replace-one.result in
    let placed : (messages : List Message) → AreMessagesOf calls messages → IsPlacedIn messages x e one = λ messages are.
    subst (λ (y : PlainConfiguration). IsPlacedIn messages x e y) (sym c.replace-one.ensures.value) (c.in-Ok.ensures.placed messages are) in
    let same : c.else-pending.self ≡ old = elim c.else-pending.branch [ else-pending-via-then-pending+else-has_same_tree w ↦ w.self-is | else-pending-via-else-pending w ↦ w.self-is ] in
    let takes : OnOk c.take_in.result (TakesIn calls at asked one old.work.items old.settled.items new.work.items new.settled.items) =
    subst (λ (s : Settling). OnOk c.take_in.result (TakesIn calls at asked one s.work.items s.settled.items new.work.items new.settled.items)) same
    (subst (λ (k : Calls). OnOk c.take_in.result (TakesIn k at asked one c.else-pending.self.work.items c.else-pending.self.settled.items new.work.items new.settled.items)) c.place.ensures.same
    c.take_in.ensures.settling) in
    on_ok_weaker {P = TakesIn calls at asked one old.work.items old.settled.items new.work.items new.settled.items}
    {Q = AreSettlingStill calls at asked old.work.items old.settled.items new.work.items new.settled.items} c.take_in.result
    (taken_settling calls at asked c.args.pending c.args.wrote x one old.work.items old.settled.items new.work.items new.settled.items c.requires.pending c.requires.count c.requires.lacks
    (get_there old.work.items c.args.origin.now.place x c.requires.origin) placed) takes

pub returns-clause-followed : goal.returns-clause-followed
returns-clause-followed c =
    let new = c.take_in.new.self in
    let x = c.args.origin.now.copy in
    let e : Entry = record { at = c.args.pending.asked; wrote = c.args.wrote } in
    let calls = c.args.tries.now.replay in
    let one = c.replace-one.result in
    on_ok_weaker {P = (messages : List Message) → AreMessagesOf c.place.new.replay messages → IsIn messages c.args.flight.now.at one new.work.items new.settled.items}
    {Q = (messages : List Message) (tree : TreeState) → AreMessagesOf calls messages → EntrySteps x.tree tree messages e → IsFollowed messages c.args.flight.now.at x e tree new.work.items new.settled.items} c.take_in.result
    (λ taken. λ messages tree are steps.
    let placed : IsPlacedIn messages x e one = subst (λ (y : PlainConfiguration). IsPlacedIn messages x e y) (sym c.replace-one.ensures.value) (c.in-Ok.ensures.placed messages are) in
    taken_followed messages c.args.flight.now.at x e one placed new.work.items new.settled.items (taken messages (subst (λ (k : Calls). AreMessagesOf k messages) (sym c.place.ensures.same) are)) tree steps) c.take_in.ensures.taken

pub returns-clause-origin : goal.returns-clause-origin
returns-clause-origin c =
    let work = c.args.self.now.work.items in
    let x = c.args.origin.now.copy in
    let place = c.args.origin.now.place in
    let here : c.index-from.result.now ≡ get_or work place c.index-from.result.now = c.index-from.ensures in
    let from : c.index-from.result.now ≡ x = here ∙ get_or_from_slice_get work place x c.index-from.result.now c.requires.origin in
    let copied : c.replace-one.new.dest ≡ x = c.replace-one.ensures.after ∙ c.in_ok-copied.ensures.copy ∙ from in
    on_ok c.take_in.result (◌≡◌ {A = Origin} (record { place = place; copy = c.replace-one.new.dest }) c.args.origin.now)
    (ap (λ (y : PlainConfiguration). record { place = place; copy = y }) copied)
