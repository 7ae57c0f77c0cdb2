use Rattle.std.proofs.Common.{◌≡◌, List, Some, ap, subst, arith}
use Rattle.std.specs.Prelude.{map, slice_get}
use Rattle.std.proofs.lemmas.Bool.Decides.{nat_tests}
use Rattle.fa_ledger.specs.declared.row.Row.{Row}
use Rattle.fa_ledger.specs.Calls.{PlainCall}
use Rattle.fa_ledger.specs.parts.CallsKept.{CallsKept}
use Rattle.fa_ledger.specs.parts.RowParts.{row_shown}
use Rattle.fa_ledger.proofs.CallListLemmas.{shown_at}
use Rattle.fa_ledger.proofs.call_book.CallBook.place_hinted.Goals as goal

pub returns-in-Some-clause-found : goal.returns-in-Some-clause-found
returns-in-Some-clause-found c =
    let row = c.in-Some.row.now in
    let aside = c.self.inside.aside in
    let there = shown_at aside c.deref.result.now c.args.hint row c.in-Some.ensures.lookup.1 c.in-Some.ensures.lookup.3.0 in (
      row_shown aside row,
      subst (λ (calls : List PlainCall). slice_get calls c.args.hint ≡ Some (row_shown aside row)) (ap (λ (k : CallsKept). k.calls) c.self.view_is)
          (subst (λ (rows : List Row). slice_get (map (row_shown aside) rows) c.args.hint ≡ Some (row_shown aside row)) c.deref.ensures.value there),
      grind (arith, nat_tests, c.if-row-at.true),
    )
