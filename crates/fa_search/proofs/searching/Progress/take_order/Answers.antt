use Rattle.std.proofs.Common.{◌∙◌, ◌++◌, List, ap, rules}
use Rattle.fa_order.specs.declared.entry.Entry.{Entry}
use Rattle.fa_search.proofs.searching.Progress.take_order.Goals as goal

pub returns : goal.returns
returns c = (
  c.index_mut.result.now,
  (0, c.requires, (let value = c.index_mut.ensures.value in search rules)),
  ap (λ v. v.items) c.replace.ensures.value ∙ c.in_ok-append.ensures.items ∙ ap (λ (es : List Entry). c.args.self.now.common.items ++ es) c.take_entries-entries.ensures.taken,
)
