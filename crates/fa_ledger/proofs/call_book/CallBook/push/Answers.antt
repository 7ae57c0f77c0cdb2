use Rattle.std.proofs.Common.{◌≡◌, ◌++◌, ◌∷◌, [], List, sym, ap, ◌∙◌}
use Rattle.std.proofs.lemmas.List.{append-nil}
use Rattle.fa_ledger.specs.declared.row.Aside.{Aside}
use Rattle.fa_ledger.specs.declared.row.Row.{Row}
use Rattle.fa_ledger.specs.Calls.{PlainCall, call_shown}
use Rattle.fa_ledger.specs.parts.CallsKept.{CallsKept}
use Rattle.fa_ledger.specs.parts.RowParts.{other_kept, listing_kept, row_shown}
use Rattle.fa_ledger.proofs.CallListLemmas.{HasMore, rows_stay, shown_pushed}
use Rattle.fa_ledger.proofs.call_book.CallBook.push.Goals as goal

pub returns-clause-pushed : goal.returns-clause-pushed
returns-clause-pushed c =
    let rows = c.self.inside.rows.items in
    let old = c.self.inside.aside in
    let aside : Aside = record old { besides = c.put_in.new.besides } in
    let more : HasMore old aside = record { besides = c.in_ok-beside.ensures.kept; listed = ([], sym (append-nil old.listed.items)) } in
    let there = c.in_ok-beside.ensures.there in
    let is : row_shown aside c.waiting.result ≡ call_shown c.args.call =
    c.waiting.ensures.shown aside (ap other_kept there ∙ c.new.ensures.other) (ap listing_kept there ∙ c.new.ensures.listing) in
    let pushed = c.push_reserved.ensures.items ∙ ap (λ (kept : List Row). kept ++ c.waiting.result ∷ []) c.in_ok-reserve.ensures.items in
    shown_pushed aside rows c.push_reserved.new.self.items c.waiting.result (call_shown c.args.call) pushed is
    ∙ ap (λ (calls : List PlainCall). calls ++ call_shown c.args.call ∷ []) (rows_stay old aside rows more c.self.invariant ∙ ap (λ (k : CallsKept). k.calls) c.self.view_is)
