use Rattle.std.proofs.Common.{◌+◌, ◌≤◌, List, length, sym, ap, subst, ◌∙◌, ◌≡◌, nat_eq, Some, arith}
use Rattle.std.specs.Prelude.{IsTrue}
use Rattle.std.specs.Map.{lookup}
use Rattle.fa_bodies.specs.Requests.{request_shown, body_shown}
use Rattle.fa_bodies.specs.Replies.{reply_shown}
use Rattle.fa_ledger.specs.declared.name.NodeName.{NodeName}
use Rattle.fa_ledger.specs.Keys.{key_eq}
use Rattle.fa_ledger.specs.parts.LiveParts.{opened_under}
use Rattle.fa_ledger.specs.parts.Steps.{given_again, times_named, count_left, some_new, IsOpenedBy, given_names_shown}
use Rattle.fa_ledger.proofs.KeyLemmas.{openings_few}
use Rattle.fa_ledger.proofs.ReplyLemmas.{give_fits, names_more, nodes_more}
use Rattle.fa_ledger.proofs.LiveLemmas.{answer_shows, keys_more}
use Rattle.fa_ledger.proofs.TableLemmas.{either_way}
use Rattle.fa_ledger.proofs.live.Live.note_answer.Goals as goal

pub returns-in_err-given-clause-wanted : goal.returns-in_err-given-clause-wanted
returns-in_err-given-clause-wanted c =
    either_way c.from_residual.result (λ before m es stands. names_more es c.args.at c.args.asked (request_shown c.args.messages.now.to.request) (reply_shown c.args.messages.now.reply) c.in_err-given.ensures.wanted)

pub returns-in_err-reserve-clause-wanted : goal.returns-in_err-reserve-clause-wanted
returns-in_err-reserve-clause-wanted c =
    either_way c.from_residual-in_err-reserve.result (λ before m es stands.
    nodes_more es c.args.at c.args.asked (request_shown c.args.messages.now.to.request) (reply_shown c.args.messages.now.reply) c.args.self.now.tables.nodes.known.entries c.as_slice-names.result.now stands.shown.nodes
    (c.as_slice-names.ensures ∙ c.in_ok-given.ensures.named) c.in_err-reserve.ensures.wanted)

pub returns-in_err-reserve-2-clause-wanted : goal.returns-in_err-reserve-2-clause-wanted
returns-in_err-reserve-2-clause-wanted c =
    either_way c.from_residual-in_err-reserve-2.result (λ before m es stands.
    keys_more before m es c.args.at c.args.asked (request_shown c.args.messages.now.to.request) (reply_shown c.args.messages.now.reply) c.args.self.now c.as_slice-names.result.now c.opened-opened.result stands c.requires.allowed
    (c.as_slice-names.ensures ∙ c.in_ok-given.ensures.named) c.opened-opened.ensures c.in_err-reserve-2.ensures.wanted)

pub give-requires-clause-room : goal.give-requires-clause-room
give-requires-clause-room c = λ new.
    c.in_ok-reserve.ensures.room (subst (λ known. IsTrue (some_new known c.as_slice-names.result.now)) c.in_ok-reserve.ensures.kept new)

pub give-requires-clause-few : goal.give-requires-clause-few
give-requires-clause-few c = λ node.
    let stands = c.requires.stands in
    let fits = give_fits stands.0 stands.1 stands.2 c.args.at c.args.asked (request_shown c.args.messages.now.to.request) (reply_shown c.args.messages.now.reply) c.args.self.now.tables.nodes.known.entries c.as_slice-names.result.now
    stands.3.are stands.3.few stands.3.event stands.3.shown.nodes (c.as_slice-names.ensures ∙ c.in_ok-given.ensures.named) node in
    subst (λ known. count_left (lookup (nat_eq node) known) + length c.as_slice-names.result.now ≤ 18446744073709551615) (sym c.in_ok-reserve.ensures.kept) fits

pub note_opened-requires-clause-few : goal.note_opened-requires-clause-few
note_opened-requires-clause-few c = λ key handle there.
    let stands = c.requires.stands.3 in
    openings_few c.requires.stands.2 key (lookup (key_eq key) c.args.self.now.tables.handles.opened.entries) handle (stands.shown.keys key)
    (subst (λ opened. lookup (key_eq key) opened ≡ Some handle) c.in_ok-reserve-2.ensures.kept there) (omega (arith, stands.few, stands.are.counted))

pub returns-clause-shows : goal.returns-clause-shows
returns-clause-shows c = λ before m es stands.
    let names : List NodeName = given_names_shown c.in_ok-given.given in
    let same = c.as_slice-names.ensures in
    let which = c.opened-opened.result in
    answer_shows before m es c.args.at c.args.asked (request_shown c.args.messages.now.to.request) (reply_shown c.args.messages.now.reply) c.args.self.now names which stands c.requires.allowed
    c.in_ok-given.ensures.named
    (c.opened-opened.ensures ∙ ap (λ ns. opened_under (lookup (nat_eq c.args.asked) c.args.self.now.opening.entries) ns (body_shown c.args.messages.now.to.request.body) (reply_shown c.args.messages.now.reply)) same)
    _
    (λ node. c.give.ensures node ∙ ap (λ ns. given_again c.args.at (times_named node ns) (lookup (nat_eq node) c.reserve.new.self.known.entries)) same
    ∙ ap (λ known. given_again c.args.at (times_named node names) (lookup (nat_eq node) known)) c.in_ok-reserve.ensures.kept)
    (subst (λ opened. IsOpenedBy c.args.asked which opened c.note_opened.new.self.opened.entries) c.in_ok-reserve-2.ensures.kept c.note_opened.ensures.noted)
    c.swap_remove.ensures.updates.0
