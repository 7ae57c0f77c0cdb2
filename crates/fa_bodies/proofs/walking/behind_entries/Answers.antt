use Rattle.std.proofs.Common.{◌++◌, ◌∷◌, [], arith}
use Rattle.fa_bodies.proofs.ListingLaws.{dirent-shorter, are-more}
use Rattle.fa_bodies.proofs.walking.behind_entries.Goals as goal

pub loop-after-smaller : goal.loop-after-smaller
loop-after-smaller c =
    let found = c.in-Some.ensures.found in
    omega (arith, dirent-shorter c.args.plus c.loop-after.rest.now found.0 c.in-Some.after.now found.1)

pub loop-after-preserved : goal.loop-after-preserved
loop-after-preserved c =
    let before = c.loop-after.invariant in
    let found = c.in-Some.ensures.found in
    (before.0 ++ found.0 ∷ [], are-more before.0 found.0 c.args.plus c.args.bytes.now c.loop-after.rest.now c.in-Some.after.now before.1 found.1)
