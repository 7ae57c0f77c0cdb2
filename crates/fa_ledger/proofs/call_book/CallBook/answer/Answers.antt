use Rattle.std.proofs.Common.{◌≡◌, List, [], Some, sym, subst, ap, ◌∙◌}
use Rattle.std.proofs.lemmas.List.{append-nil}
use Rattle.std.specs.Prelude.{map, slice_get}
use Rattle.std.specs.List.Sorted.{IsStrictlyIncreasing}
use Rattle.fa_ledger.specs.declared.row.Aside.{Aside}
use Rattle.fa_ledger.specs.Calls.{PlainAnswer, PlainCall}
use Rattle.fa_ledger.specs.parts.CallParts.{WaitsAt, calls_shown}
use Rattle.fa_ledger.specs.parts.CallsKept.{CallsKept}
use Rattle.fa_ledger.specs.parts.Ids.{IsIdIn}
use Rattle.fa_ledger.specs.parts.RowParts.{row_shown}
use Rattle.fa_ledger.specs.parts.Steps.{answered_by, given_names_shown, with_answer}
use Rattle.fa_ledger.proofs.CallListLemmas.{HasMore, rows_stay, row_there, answer_set}
use Rattle.fa_ledger.proofs.call_book.CallBook.answer.Goals as goal

pub note_answer-requires : goal.note_answer-requires
note_answer-requires c =
    let shown : c.args.self.now.calls ≡ calls_shown c.self.inside.aside c.self.inside.rows.items = sym (ap (λ (k : CallsKept). k.calls) c.self.view_is) in
    let waits = c.requires.waits in
    let call = waits.1 in
    let same = row_there c.self.inside.aside c.self.inside.rows.items c.args.place call c.index_mut.result.now (subst (λ (calls : List PlainCall). slice_get calls c.args.place ≡ Some call) shown waits.2.there) c.index_mut.ensures.value in
    record { named = subst (λ (x : PlainCall). IsIdIn c.args.messages.request.now x.node) same (c.requires.named waits.0 call waits.2) }

pub returns : goal.returns
returns c = λ asked call waits.
    let rows = c.self.inside.rows.items in
    let old = c.self.inside.aside in
    let aside : Aside = record old { listed = c.new-gives.new.listed } in
    let answer : PlainAnswer = record { at = c.args.at; given = given_names_shown c.args.given; opens = c.args.opens } in
    let more : HasMore old aside = record { besides = ([], sym (append-nil old.besides.items)); listed = c.new-gives.ensures.kept } in
    let stay : calls_shown aside rows ≡ c.args.self.now.calls =
    rows_stay old aside rows more c.self.invariant ∙ ap (λ (k : CallsKept). k.calls) c.self.view_is in
    let noted : row_shown aside c.note_answer.new.self ≡ answered_by c.args.messages.said.0 answer (row_shown aside c.index_mut.result.now) =
    c.note_answer.ensures.shown aside
    ∙ ap (λ names. answered_by c.args.messages.said.0 (record { at = c.args.at; given = names; opens = c.args.opens }) (row_shown aside c.index_mut.result.now)) (c.new-gives.ensures.given c.args.messages.reply.now c.requires.given) in
    answer_set aside rows c.args.place asked call c.index_mut.result.now c.note_answer.new.self c.args.messages.said.0 answer
    (subst (λ (calls : List PlainCall). WaitsAt calls asked c.args.place call) (sym stay) waits)
    c.index_mut.ensures.value
    (subst (λ (calls : List PlainCall). IsStrictlyIncreasing (map (λ call. call.asked) calls)) (sym stay) c.requires.rising)
    noted
    ∙ ap (λ (calls : List PlainCall). with_answer calls asked c.args.messages.said.0 answer) stay
