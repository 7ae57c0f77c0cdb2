use Rattle.std.proofs.Common.{rules, Some, refl}
use Rattle.std.proofs.lemmas.Result.{IfErr-weaker, IfOk-weaker}
use Rattle.fa_audit.proofs.CodedLemmas.{no_start_coded}
use Rattle.fa_audit.proofs.SearchLemmas.{searched_coded}
use Rattle.fa_audit.proofs.SearchRunLemmas.{searched_or_memory, searched_from}
use Rattle.fa_audit.proofs.StoredLemmas.{bytes_stored}
use Rattle.fa_audit.proofs.searching.search_on_tree.Goals as goal

pub tell_search-requires-clause-coded : goal.tell_search-requires-clause-coded
tell_search-requires-clause-coded g c =
    IfOk-weaker c.searched.result _ _ (λ answer of. searched_coded c.in_ok-stored.stored _ answer (of c.in_ok-stored.stored (c.with_seed.ensures.same c.in_ok-stored.stored c.capture.ensures))) c.searched.ensures.answer

pub tell_search-requires-clause-coded_fault : goal.tell_search-requires-clause-coded_fault
tell_search-requires-clause-coded_fault g c =
    IfErr-weaker c.searched.result _ _ (λ error of. no_start_coded c.in_ok-stored.stored _ error (of c.in_ok-stored.stored (c.with_seed.ensures.same c.in_ok-stored.stored c.capture.ensures))) c.searched.ensures.none

pub returns-clause-told : goal.returns-clause-told
returns-clause-told g c =
    let read = bytes_stored _ _ c.with_seed.result c.in_ok-stored.ensures.capture (c.with_seed.ensures.same c.in_ok-stored.stored c.capture.ensures) in
    searched_from c.tell_search.result _ _ _ _ read.0 (Some c.in_ok-tree.tree.items) c.searched.result read.1
    (c.in_ok-tree.tree.items, refl, record { whole = c.in_ok-tree.ensures.bytes; within = (search rules) })
    (rw (← c.deref.ensures.value)
    (searched_or_memory _ _ c.searched.result (IfOk-weaker c.searched.result _ _ (λ answer of. of read.0 read.2) c.searched.ensures.answer)
    (IfErr-weaker c.searched.result _ _ (λ error of. of read.0 read.2) c.searched.ensures.none)))
    c.tell_search.ensures.told c.tell_search.ensures.answered
