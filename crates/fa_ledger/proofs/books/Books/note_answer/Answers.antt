use Rattle.std.proofs.Common.{ℕ, ◌+◌, ◌≤◌, Some, inl, List, length, sym, ap, subst, refl, ◌∙◌, ◌≡◌, nat_eq}
use Rattle.std.specs.Prelude.{IsTrue}
use Rattle.std.proofs.lemmas.Result.{err_from_is_err_and}
use Rattle.std.specs.Map.{lookup}
use Rattle.fa_bodies.specs.Requests.{request_shown, body_shown}
use Rattle.fa_bodies.specs.Replies.{reply_shown}
use Rattle.fa_ledger.specs.declared.name.NodeName.{NodeName}
use Rattle.fa_ledger.specs.Keys.{key_eq}
use Rattle.fa_ledger.specs.Calls.{PlainAnswer, PlainCall}
use Rattle.fa_ledger.specs.parts.CallParts.{WaitsAt}
use Rattle.fa_ledger.specs.parts.Ids.{IsGivenIn, IsIdIn}
use Rattle.fa_ledger.specs.parts.Steps.{with_answer, given_again, times_named, count_left, opened_with, opens_new, some_new, IsOpenedBy, given_names_shown}
use Rattle.fa_ledger.proofs.IdLemmas.{given_there}
use Rattle.fa_ledger.proofs.OperationLemmas.{operation_asked}
use Rattle.fa_ledger.proofs.ReplyLemmas.{give_fits, names_more, nodes_more}
use Rattle.fa_ledger.proofs.ReplyBookLemmas.{asked_there, operation_there, open_fits, answer_shows, keys_more, listed_more, listed_counted, listed_anew, noted_also}
use Rattle.fa_ledger.proofs.books.Books.note_answer.Goals as goal

pub returns-in_err-given-clause-memory : goal.returns-in_err-given-clause-memory
returns-in_err-given-clause-memory c =
    let p = err_from_is_err_and c.from_residual.result c.from_residual.ensures.1 in
    rw p.1 (p.2, λ before m es stands. inl (names_more es c.args.at c.args.asked (request_shown c.args.messages.now.to.request) (reply_shown c.args.messages.now.reply) c.in_err-given.ensures.wanted))

pub returns-in_err-reserve_names-clause-memory : goal.returns-in_err-reserve_names-clause-memory
returns-in_err-reserve_names-clause-memory c =
    let p = err_from_is_err_and c.from_residual-in_err-reserve_names.result c.from_residual-in_err-reserve_names.ensures.1 in
    let listed = c.in_ok-given.ensures.several c.in_err-reserve_names.ensures.wanted in
    rw p.1 (p.2, λ before m es stands. inl (names_more es c.args.at c.args.asked (request_shown c.args.messages.now.to.request) (reply_shown c.args.messages.now.reply) listed))

pub returns-in_err-reserve-clause-memory : goal.returns-in_err-reserve-clause-memory
returns-in_err-reserve-clause-memory c =
    let p = err_from_is_err_and c.from_residual-in_err-reserve.result c.from_residual-in_err-reserve.ensures.1 in
    let named = c.as_slice-names.ensures ∙ c.in_ok-given.ensures.named in
    rw p.1 (
      p.2,
      λ before m es stands.
          inl (nodes_more es c.args.at c.args.asked (request_shown c.args.messages.now.to.request) (reply_shown c.args.messages.now.reply) c.args.self.now.tables.nodes.known.entries c.as_slice-names.result.now stands.shown.nodes named c.in_err-reserve.ensures.wanted),
    )

pub returns-in_err-reserve-2-clause-memory : goal.returns-in_err-reserve-2-clause-memory
returns-in_err-reserve-2-clause-memory c =
    let p = err_from_is_err_and c.from_residual-in_err-reserve-2.result c.from_residual-in_err-reserve-2.ensures.1 in
    rw p.1 (
      p.2,
      λ before m es stands.
          inl (keys_more before m es c.args.at c.args.asked (request_shown c.args.messages.now.to.request) (reply_shown c.args.messages.now.reply) c.args.self.now c.as_slice-names.result.now c.opened-opened.result (record {
            stands = stands;
            may = c.requires.allowed;
            waiting = c.args.waiting;
            place = c.args.place;
            call = c.requires.waits.0;
            waits = c.requires.waits.1;
            own = c.requires.waits.2;
            named = c.as_slice-names.ensures ∙ c.in_ok-given.ensures.named;
            opens = c.opened-opened.ensures;
          }) c.in_err-reserve-2.ensures.wanted),
    )

pub give-requires-clause-room : goal.give-requires-clause-room
give-requires-clause-room c = λ new.
    c.in_ok-reserve.ensures.room (subst (λ known. IsTrue (some_new known c.as_slice-names.result.now)) c.in_ok-reserve.ensures.kept new)

pub give-requires-clause-few : goal.give-requires-clause-few
give-requires-clause-few c = λ node.
    let stands = c.requires.stands in
    let fits = give_fits stands.0 stands.1 stands.2 c.args.at c.args.asked (request_shown c.args.messages.now.to.request) (reply_shown c.args.messages.now.reply) c.args.self.now.tables.nodes.known.entries c.as_slice-names.result.now
    stands.3.are stands.3.few stands.3.event stands.3.shown.nodes (c.as_slice-names.ensures ∙ c.in_ok-given.ensures.named) node in
    subst (λ known. count_left (lookup (nat_eq node) known) + length c.as_slice-names.result.now ≤ 18446744073709551615) (sym c.in_ok-reserve.ensures.kept) fits

pub note_opened-opens-requires-clause-few : goal.note_opened-opens-requires-clause-few
note_opened-opens-requires-clause-few c = λ key handle there.
    let stands = c.requires.stands in
    open_fits stands.0 stands.1 stands.2 _ c.args.self.now stands.3 key handle (subst (λ opened. lookup (key_eq key) opened ≡ Some handle) c.in_ok-reserve-2.ensures.kept there)

pub returns-in_err-reserve-3-clause-memory : goal.returns-in_err-reserve-3-clause-memory
returns-in_err-reserve-3-clause-memory c =
    let p = err_from_is_err_and c.from_residual-in_err-reserve-3.result c.from_residual-in_err-reserve-3.ensures.1 in
    rw p.1 (
      p.2,
      λ before m es stands.
          listed_more before m es c.args.at c.args.asked (request_shown c.args.messages.now.to.request) (reply_shown c.args.messages.now.reply) c.args.self.now c.args.place c.requires.waits.0 c.args.waiting c.listed-listed.result
          stands c.requires.waits.1 c.requires.waits.2 c.listed-listed.ensures c.in_err-reserve-3.ensures.wanted,
    )

pub note-requires-clause-fresh : goal.note-requires-clause-fresh
note-requires-clause-fresh c =
    let stands = c.requires.stands in
    listed_anew stands.0 stands.1 stands.2 c.args.at c.args.asked (request_shown c.args.messages.now.to.request) (reply_shown c.args.messages.now.reply) c.args.self.now stands.3 _ c.in_ok-reserve-3.ensures.same

pub note-requires-clause-counted : goal.note-requires-clause-counted
note-requires-clause-counted c =
    let stands = c.requires.stands in
    (listed_counted stands.0 stands.1 c.args.at c.args.asked (request_shown c.args.messages.now.to.request) (reply_shown c.args.messages.now.reply) stands.3.event c.args.self.now.tables.handles.opened.entries c.args.waiting c.requires.waits.0 c.requires.waits.2 c.listed-listed.result c.listed-listed.ensures).0

pub note-requires-clause-few : goal.note-requires-clause-few
note-requires-clause-few c =
    let stands = c.requires.stands in
    (listed_counted stands.0 stands.1 c.args.at c.args.asked (request_shown c.args.messages.now.to.request) (reply_shown c.args.messages.now.reply) stands.3.event c.args.self.now.tables.handles.opened.entries c.args.waiting c.requires.waits.0 c.requires.waits.2 c.listed-listed.result c.listed-listed.ensures).1

pub answered-both-requires : goal.answered-both-requires
answered-both-requires c =
    let stands = c.requires.stands in
    let there = operation_there stands.0 stands.1 stands.2 c.args.at c.args.asked (request_shown c.args.messages.now.to.request) (reply_shown c.args.messages.now.reply) c.args.self.now stands.3 c.args.place c.requires.waits.0 c.requires.waits.1 in
    operation_asked (body_shown c.args.messages.now.to.request.body) (Some (reply_shown c.args.messages.now.reply)) there.0 there.1

pub answer-requires-clause-named : goal.answer-requires-clause-named
answer-requires-clause-named c = λ asked call waits.
    let stands = c.requires.stands in
    let messages = c.args.messages.now in
    subst (λ (bytes : List ℕ). IsIdIn bytes call.node) (sym c.answered-both.ensures.request)
    (asked_there stands.0 stands.1 stands.2 c.args.at c.args.asked (request_shown messages.to.request) (reply_shown messages.reply) c.args.self.now stands.3 c.args.place c.requires.waits.0 c.requires.waits.1
    messages.to.bytes.now messages.to.read asked call (subst (λ (calls : List PlainCall). WaitsAt calls asked c.args.place call) c.in_ok-reserve_names.ensures.same waits))

pub answer-requires-clause-given : goal.answer-requires-clause-given
answer-requires-clause-given c =
    let messages = c.args.messages.now in
    subst (λ (bytes : List ℕ). IsGivenIn bytes c.in_ok-given.given) (sym c.answered-both.ensures.reply)
    (given_there (request_shown messages.to.request) messages.bytes.now (reply_shown messages.reply) c.args.at (λ id. lookup (nat_eq id) c.args.self.now.tables.nodes.known.entries) c.in_ok-given.given
    messages.read c.in_ok-given.ensures.one c.in_ok-given.ensures.named)

pub returns-clause-shows : goal.returns-clause-shows
returns-clause-shows c = λ before m es stands.
    let names : List NodeName = given_names_shown c.in_ok-given.given in
    let same = c.as_slice-names.ensures in
    let which = c.opened-opened.result in
    let answer : PlainAnswer = record { at = c.args.at; given = names; opens = c.note_opened-opens.result } in
    answer_shows before m es c.args.at c.args.asked (request_shown c.args.messages.now.to.request) (reply_shown c.args.messages.now.reply) c.args.self.now _ names which c.note_opened-opens.result c.answered-both.result.said.0 (record {
      stands = stands;
      may = c.requires.allowed;
      waiting = c.args.waiting;
      place = c.args.place;
      call = c.requires.waits.0;
      waits = c.requires.waits.1;
      own = c.requires.waits.2;
      named = c.in_ok-given.ensures.named;
      opens = c.opened-opened.ensures ∙ ap (λ ns. opened_with c.args.waiting.node ns (body_shown c.args.messages.now.to.request.body) (reply_shown c.args.messages.now.reply)) same;
    })
    c.answered-both.ensures.said
    (c.note_opened-opens.ensures.anew ∙ ap (λ opened. opens_new opened which) c.in_ok-reserve-2.ensures.kept)
    refl
    (λ node. c.give.ensures node ∙ ap (λ ns. given_again c.args.at (times_named node ns) (lookup (nat_eq node) c.reserve.new.self.known.entries)) same
    ∙ ap (λ known. given_again c.args.at (times_named node names) (lookup (nat_eq node) known)) c.in_ok-reserve.ensures.kept)
    (subst (λ opened. IsOpenedBy c.args.asked which opened c.note_opened-opens.new.self.opened.entries) c.in_ok-reserve-2.ensures.kept c.note_opened-opens.ensures.noted)
    c.listed-listed.result c.listed-listed.ensures
    (noted_also c.args.asked c.listed-listed.result _ _ _ c.in_ok-reserve-3.ensures.same c.note.ensures)
    (c.answer.ensures c.args.asked c.requires.waits.0 (subst (λ (calls : List PlainCall). WaitsAt calls c.args.asked c.args.place c.requires.waits.0) (sym c.in_ok-reserve_names.ensures.same) c.requires.waits.1)
    ∙ ap (λ (calls : List PlainCall). with_answer calls c.args.asked c.answered-both.result.said.0 answer) c.in_ok-reserve_names.ensures.same)
