use Rattle.std.proofs.Common.{◌≡◌, arith, ap, subst, sym, refl, ◌∙◌, true, false}
use Rattle.std.specs.FinMap.{len}
use Rattle.fa_tree.specs.State.{IsParent}
use Rattle.fa_tree.specs.parts.FileIdLaws.{same_equal, equal_tested}
use Rattle.fa_tree.specs.parts.StoredParts.{StoredShown}
use Rattle.fa_tree.specs.State.IsBelow.{child}
use Rattle.fa_tree.proofs.WalkLemmas.{still_tree, above_parent, none_above, climbs_up, climbs_few, tree_climbs}
use Rattle.fa_tree.proofs.stored.Stored.is_below.Goals as goal

pub loop-init : goal.loop-init
loop-init c =
    let s = c.args.self.now.store in
    let tree = still_tree _ c.args.self.now c.self.view_is c.self.invariant.0 in
    let way = tree_climbs s c.args.below tree in
    let few = climbs_few s c.args.below way.0 tree c.requires.directory way.1 in
    let files = ap (λ (t : StoredShown). len t.store.files) c.self.view_is in
    (c.requires.directory, (λ b. b, λ b. b), (way.0, way.1, omega (arith, few, files, c.len-end.ensures)))

pub returns-in-Some : goal.returns-in-Some
returns-in-Some c =
    let same = same_equal c.in-Some.parent.directory c.args.above (sym c.eq.ensures ∙ c.if-eq.true) in
    let is = subst (λ p. IsParent c.args.self.now.store p c.loop.at) same c.in-Some.ensures.there in
    (λ _. c.loop.invariant.1.1 (child c.args.above c.loop.at is), λ _. refl)

pub returns-in-None : goal.returns-in-None
returns-in-None c = (λ t. absurd cc, λ b. absurd (none_above c.args.self.now.store c.args.above c.loop.at (λ p is. c.in-None.ensures.none p is) (c.loop.invariant.1.0 b)))

pub loop-preserved : goal.loop-preserved
loop-preserved c =
    let s = c.args.self.now.store in
    let tree = still_tree _ c.args.self.now c.self.view_is c.self.invariant.0 in
    let p = c.in-Some.parent.directory in
    let is = c.in-Some.ensures.there in
    let was = c.loop.invariant in
    let way = was.2 in
    let up = climbs_up s c.loop.at p way.0 is.0 tree was.0 is.1 way.1 in
    let same = above_parent s c.args.above p c.loop.at is.0 tree is.1 was.0 (λ same. (let clash : false ≡ true = sym c.if-eq.false ∙ c.eq.ensures ∙ equal_tested p c.args.above same in absurd cc)) in
    (tree.inside p is.0 c.loop.at is.1, (λ b. same.0 (was.1.0 b), λ b. was.1.1 (same.1 b)), (up.0, up.2, omega (arith, way.2, up.1)))
