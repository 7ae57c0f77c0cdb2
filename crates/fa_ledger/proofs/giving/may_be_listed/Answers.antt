use Rattle.std.proofs.Common.{◌++◌, ◌∷◌, [], refl, ap, sym, subst, ◌∙◌}
use Rattle.std.specs.Prelude.{All}
use Rattle.std.proofs.lemmas.List.Elements.{All-append}
use Rattle.fa_bodies.specs.Dirents.{dirent_shown}
use Rattle.fa_ledger.specs.Passing.{MayBeGiven}
use Rattle.fa_ledger.proofs.GivingLemmas.{listing_more, readdir_gives_none, none_may, entry_may, is_root, not_the_root, root_may_not}
use Rattle.fa_ledger.proofs.TakingLemmas.{moved_on}
use Rattle.fa_ledger.proofs.giving.may_be_listed.Goals as goal

pub loop-dirent-preserved : goal.loop-dirent-preserved
loop-dirent-preserved c =
    let front = c.loop-dirent.invariant.2.0 in
    let d = dirent_shown c.in-Some.dirent in
    let whole = moved_on _ front _ _ d c.loop-dirent.invariant.2.1 c.in-Some.ensures.steps in
    let may = entry_may d.entry d.name c.node_listed.result c.node_listed.ensures (not_the_root c.node_listed.result (sym c.eq.ensures ∙ c.if-eq.false)) in
    (tt, tt, (front ++ d ∷ [], whole, subst (All MayBeGiven) (sym (listing_more front d)) (All-append MayBeGiven _ _ c.loop-dirent.invariant.2.2 may)))

pub returns-then-eq : goal.returns-then-eq
returns-then-eq c =
    let front = c.loop-dirent.invariant.2.0 in
    let d = dirent_shown c.in-Some.dirent in
    let whole = c.loop-dirent.invariant.2.1 ∙ ap (λ ys. front ++ ys) c.in-Some.ensures.steps in
    ((λ no. absurd cc), (λ each. absurd (root_may_not _ front _ d c.node_listed.result whole c.node_listed.ensures (is_root c.node_listed.result (sym c.eq.ensures ∙ c.if-eq.true)) each)))

pub returns-then-not-is_plus : goal.returns-then-not-is_plus
returns-then-not-is_plus c = ((λ yes. none_may _ (readdir_gives_none c.args.listing (sym c.is_plus.ensures ∙ c.if-not-is_plus.true))), (λ each. refl))
