use Rattle.std.proofs.Common.{List, sym, subst, refl, ◌∙◌, ◌++◌, ◌∷◌, []}
use Rattle.std.proofs.lemmas.Result.{err_from_is_err_and}
use Rattle.fa_capture.specs.Message.{Message}
use Rattle.fa_session.specs.Events.{event_shown}
use Rattle.fa_ledger.specs.Plain.{PlainLedger}
use Rattle.fa_ledger.specs.Shows.{Shows}
use Rattle.fa_ledger.proofs.LedgerLemmas.{next_stands, next_passes, next_shows, next_refused, same_shown}
use Rattle.fa_ledger.proofs.ledger.Ledger.accept.Goals as goal

pub note-requires : goal.note-requires
note-requires c =
    let next = c.requires.2 in
    (c.requires.0, c.requires.1, next.shows.events, next_stands c.self.inside c.args.self.now c.requires.0 c.requires.1 (event_shown c.args.event.now) c.self.view_is next)

pub invariant_of-self : goal.invariant_of-self
invariant_of-self c =
    let same = same_shown c.self.inside (record { messages = c.self.inside.messages; books = c.note.new.self }) c.in_err-note.ensures.unchanged refl in
    subst (λ (x : PlainLedger). ∥ ((before : List Message) × Shows before x) ∥₁) (sym same) c.self.invariant

pub returns-in_err-note-clause-refused : goal.returns-in_err-note-clause-refused
returns-in_err-note-clause-refused c =
    let p = err_from_is_err_and c.from_residual.result c.from_residual.ensures.1 in
    rw (p.1, p.2) (λ before m next.
    next_refused c.self.inside c.args.self.now before m (event_shown c.args.event.now) c.in_err-note.field-0.0 c.self.view_is next (λ es stands. c.in_err-note.ensures.refused before m es stands))

pub returns-in_err-note-clause-unchanged : goal.returns-in_err-note-clause-unchanged
returns-in_err-note-clause-unchanged c =
    let same = same_shown c.self.inside (record { messages = c.self.inside.messages; books = c.note.new.self }) c.in_err-note.ensures.unchanged refl in
    let p = err_from_is_err_and c.from_residual.result c.from_residual.ensures.1 in
    rw p.1 (same ∙ c.self.view_is)

pub invariant_of-self-2 : goal.invariant_of-self-2
invariant_of-self-2 c =
    let before = c.requires.0 in
    let m = c.requires.1 in
    ∣ (
      before ++ m ∷ [],
      next_shows c.self.inside _ c.args.self.now before m (event_shown c.args.event.now) c.self.view_is c.requires.2
          (λ es stands. c.in_ok-note.ensures.keeps before m es stands) (λ es stands. c.in_ok-note.ensures.shows before m es stands) refl,
    ) ∣₁

pub returns-clause-passes : goal.returns-clause-passes
returns-clause-passes c = λ before m next.
    next_passes c.self.inside c.args.self.now before m (event_shown c.args.event.now) c.self.view_is next (λ es stands. c.in_ok-note.ensures.keeps before m es stands)

pub returns-clause-shows : goal.returns-clause-shows
returns-clause-shows c = λ before m next.
    next_shows c.self.inside _ c.args.self.now before m (event_shown c.args.event.now) c.self.view_is next
    (λ es stands. c.in_ok-note.ensures.keeps before m es stands) (λ es stands. c.in_ok-note.ensures.shows before m es stands) refl
