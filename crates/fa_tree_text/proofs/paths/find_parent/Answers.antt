use Rattle.std.proofs.Common.{◌≡◌, true, Some, sym, ap, ◌∙◌, List, ℕ, subst}
use Rattle.std.specs.FinMap as map
use Rattle.percent_encoding.specs.Percent.{percent_decode}
use Rattle.fa_tree.specs.State.{HasName}
use Rattle.fa_tree_text.specs.Paths.{IsSpelledName}
use Rattle.fa_tree_text.specs.parts.Ways.{Reaches}
use Rattle.fa_tree_text.proofs.WayLemmas.{Steps, reaches_on, reaches_step, reaches_back, reaches_end, end_spelled}
use Rattle.fa_tree_text.proofs.paths.find_parent.Goals as goal

pub returns-then-not-branch-clause-none : goal.returns-then-not-branch-clause-none
returns-then-not-branch-clause-none c = λ parent last r.
    let step : Steps c.args.tree.now.store c.loop-spelled.directory c.in-Some.spelled.now c.in-Some.rest.now parent last =
    reaches_step c.args.tree.now.store c.loop-spelled.directory c.loop-spelled.left.now c.in-Some.spelled.now c.in-Some.rest.now c.in-Some.ensures.found.1 c.in-Some.ensures.found.0 parent last (c.loop-spelled.invariant.back parent last r) in
    let spelled : c.in_ok-decode_name.field-0 ≡ true = c.in_ok-decode_name.ensures.spelled.1 step.is_spelled in
    absurd cc

pub returns-in_default-find-clause-none : goal.returns-in_default-find-clause-none
returns-in_default-find-clause-none c = λ parent last r.
    let step : Steps c.args.tree.now.store c.loop-spelled.directory c.in-Some.spelled.now c.in-Some.rest.now parent last =
    reaches_step c.args.tree.now.store c.loop-spelled.directory c.loop-spelled.left.now c.in-Some.spelled.now c.in-Some.rest.now c.in-Some.ensures.found.1 c.in-Some.ensures.found.0 parent last (c.loop-spelled.invariant.back parent last r) in
    let decoded : c.deref.result.now ≡ percent_decode c.in-Some.spelled.now = c.deref.ensures.value ∙ c.in_ok-decode_name.ensures.decoded in
    let found : c.find.result ≡ Some step.next = c.find.ensures ∙ ap (λ (n : List ℕ). map.get c.args.tree.now.store.names (c.loop-spelled.directory, n)) decoded ∙ step.has in
    c.in_default-find.not-Some step.next found

pub loop-spelled-preserved : goal.loop-spelled-preserved
loop-spelled-preserved c =
    let is : IsSpelledName c.in-Some.spelled.now = c.in_ok-decode_name.ensures.spelled.0 c.if-not-branch.false in
    let decoded : c.deref.result.now ≡ percent_decode c.in-Some.spelled.now = c.deref.ensures.value ∙ c.in_ok-decode_name.ensures.decoded in
    let has : HasName c.args.tree.now.store c.loop-spelled.directory (percent_decode c.in-Some.spelled.now) c.in-Some-find.next =
    ap (λ (n : List ℕ). map.get c.args.tree.now.store.names (c.loop-spelled.directory, n)) (sym decoded) ∙ sym c.find.ensures ∙ c.in-Some-find.is in
    record {
      forth = λ to last r. c.loop-spelled.invariant.forth to last
          (reaches_on c.args.tree.now.store c.loop-spelled.directory c.in-Some-find.next c.loop-spelled.left.now c.in-Some.spelled.now c.in-Some.rest.now c.in-Some.ensures.found.1 is has to last r);
      back = λ to last r.
          reaches_back c.args.tree.now.store c.loop-spelled.directory c.in-Some-find.next c.loop-spelled.left.now c.in-Some.spelled.now c.in-Some.rest.now c.in-Some.ensures.found.1 c.in-Some.ensures.found.0 has to last
          (c.loop-spelled.invariant.back to last r);
    }

pub returns-then-branch-clause-found : goal.returns-then-branch-clause-found
returns-then-branch-clause-found c =
    let is : IsSpelledName c.loop-spelled.left.now = c.in_ok-decode_name-2.ensures.spelled.0 c.if-branch.true in
    c.loop-spelled.invariant.forth c.loop-spelled.directory c.decode_name-2.new.name.items
    (subst (Reaches c.args.tree.now.store c.loop-spelled.directory c.loop-spelled.left.now c.loop-spelled.directory) (sym c.in_ok-decode_name-2.ensures.decoded) (reaches_end c.args.tree.now.store c.loop-spelled.directory c.loop-spelled.left.now is))

pub returns-else-branch-clause-none : goal.returns-else-branch-clause-none
returns-else-branch-clause-none c = λ parent last r.
    let is : IsSpelledName c.loop-spelled.left.now =
    end_spelled c.args.tree.now.store c.loop-spelled.directory c.loop-spelled.left.now c.in_default.ensures.none parent last (c.loop-spelled.invariant.back parent last r) in
    let spelled : c.in_ok-decode_name-2.field-0 ≡ true = c.in_ok-decode_name-2.ensures.spelled.1 is in
    absurd cc
