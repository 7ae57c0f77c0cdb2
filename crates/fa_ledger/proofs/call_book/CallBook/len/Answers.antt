use Rattle.std.proofs.Common.{length, sym, ap, ◌∙◌}
use Rattle.std.proofs.lemmas.List.{length-map}
use Rattle.fa_ledger.specs.parts.CallsKept.{CallsKept}
use Rattle.fa_ledger.specs.parts.RowParts.{row_shown}
use Rattle.fa_ledger.proofs.call_book.CallBook.len.Goals as goal

pub returns : goal.returns
returns c = c.len.ensures ∙ c.self.inside.rows.ok.0 ∙ sym (length-map c.self.inside.rows.items (row_shown c.self.inside.aside)) ∙ ap (λ (k : CallsKept). length k.calls) c.self.view_is
