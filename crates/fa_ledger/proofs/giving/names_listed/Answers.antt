use Rattle.std.proofs.Common.{ℕ, ◌++◌, ◌∷◌, [], sym, ap, ◌∙◌, map, nat_eq}
use Rattle.std.proofs.lemmas.Result.{err_from_is_err_and}
use Rattle.indexmap.specs.IndexMap.{get}
use Rattle.fa_bodies.specs.Dirents.{dirent_shown}
use Rattle.fa_ledger.specs.declared.name.NodeName.{NodeName}
use Rattle.fa_ledger.specs.parts.Steps.{given_to}
use Rattle.fa_ledger.proofs.GivingLemmas.{readdir_gives_none, none_listed, one_listed, some_listed}
use Rattle.fa_ledger.proofs.TakingLemmas.{moved_on}
use Rattle.fa_ledger.proofs.giving.names_listed.Goals as goal

pub loop-dirent-preserved : goal.loop-dirent-preserved
loop-dirent-preserved c =
    let front = c.loop-dirent.invariant.2.0 in
    let d = dirent_shown c.in-Some.dirent in
    let whole = moved_on _ front _ _ d c.loop-dirent.invariant.2.1 c.in-Some.ensures.steps in
    let name : ℕ → NodeName = λ id. given_to id c.args.at (get nat_eq c.args.nodes.now.known id) in
    (tt, tt, (front ++ d ∷ [], whole, none_listed name front d c.node_listed.result _ c.loop-dirent.invariant.2.2 c.node_listed.ensures c.in_default.is))

pub loop-dirent-preserved-in_ok-push : goal.loop-dirent-preserved-in_ok-push
loop-dirent-preserved-in_ok-push c =
    let front = c.loop-dirent.invariant.2.0 in
    let d = dirent_shown c.in-Some.dirent in
    let whole = moved_on _ front _ _ d c.loop-dirent.invariant.2.1 c.in-Some.ensures.steps in
    let name : ℕ → NodeName = λ id. given_to id c.args.at (get nat_eq c.args.nodes.now.known id) in
    let pushed = c.in_ok-push.ensures.items in
    let named = c.name_given.ensures in
    (tt, tt, (front ++ d ∷ [], whole, pushed ∙ ap (λ n. c.loop-dirent.names.items ++ n ∷ []) named ∙ one_listed name front d c.node_listed.result c.in-Some-node_listed.id _ c.loop-dirent.invariant.2.2 c.node_listed.ensures c.in-Some-node_listed.is))

pub returns-in_err-push-clause-wanted : goal.returns-in_err-push-clause-wanted
returns-in_err-push-clause-wanted c =
    let front = c.loop-dirent.invariant.2.0 in
    let d = dirent_shown c.in-Some.dirent in
    let whole = c.loop-dirent.invariant.2.1 ∙ ap (λ ys. front ++ ys) c.in-Some.ensures.steps in
    let p = err_from_is_err_and c.from_residual.result c.from_residual.ensures.1 in
    rw p.1 (some_listed _ front _ d c.node_listed.result c.in-Some-node_listed.id whole c.node_listed.ensures c.in-Some-node_listed.is)

pub returns-then-not-is_plus-clause-named : goal.returns-then-not-is_plus-clause-named
returns-then-not-is_plus-clause-named c =
    let name : ℕ → NodeName = λ id. given_to id c.args.at (get nat_eq c.args.nodes.now.known id) in
    sym (ap (map name) (readdir_gives_none c.args.listing (sym c.is_plus.ensures ∙ c.if-not-is_plus.true)))
