use Rattle.std.proofs.Common.{◌≡◌, List, Some, sym, ap, subst}
use Rattle.std.specs.Prelude.{map, slice_get}
use Rattle.std.specs.List.Sorted.{IsStrictlyIncreasing}
use Rattle.fa_ledger.specs.Calls.{PlainCall}
use Rattle.fa_ledger.specs.parts.CallParts.{WaitsAt}
use Rattle.fa_ledger.specs.parts.CallsKept.{CallsKept}
use Rattle.fa_ledger.proofs.CallListLemmas.{row_there, waits_there}
use Rattle.fa_ledger.proofs.call_book.CallBook.find.Goals as goal

pub returns-in_err-waiting-clause-none : goal.returns-in_err-waiting-clause-none
returns-in_err-waiting-clause-none c =
    let items = c.self.inside.rows.items in
    let aside = c.self.inside.aside in
    let found = c.in_ok-place.ensures.found in
    rw c.from_residual-in_err-waiting.ensures (λ place call waits.
    c.in_err-waiting.ensures.none
    (waits_there aside items c.args.asked c.in_ok-place.place found.0 c.index.result.now
    (subst (λ (calls : List PlainCall). IsStrictlyIncreasing (map (λ call. call.asked) calls)) (sym (ap (λ (k : CallsKept). k.calls) c.self.view_is)) c.requires.rising)
    (subst (λ (calls : List PlainCall). slice_get calls c.in_ok-place.place ≡ Some found.0) (sym (ap (λ (k : CallsKept). k.calls) c.self.view_is)) found.1) found.2 c.index.ensures place call
    (subst (λ (calls : List PlainCall). WaitsAt calls c.args.asked place call) (sym (ap (λ (k : CallsKept). k.calls) c.self.view_is)) waits)))

pub returns-clause-some : goal.returns-clause-some
returns-clause-some c =
    let items = c.self.inside.rows.items in
    let aside = c.self.inside.aside in
    let found = c.in_ok-place.ensures.found in
    let same = row_there aside items c.in_ok-place.place found.0 c.index.result.now (subst (λ (calls : List PlainCall). slice_get calls c.in_ok-place.place ≡ Some found.0) (sym (ap (λ (k : CallsKept). k.calls) c.self.view_is)) found.1) c.index.ensures in
    let waiting = c.in_ok-waiting.ensures in (
      found.0,
      record { there = found.1; numbered = found.2; unanswered = rw same waiting.unanswered },
      rw same waiting.known,
    )
