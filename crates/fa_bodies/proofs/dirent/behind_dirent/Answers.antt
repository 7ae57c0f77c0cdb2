use Rattle.fa_bodies.proofs.ListingLaws.{no-head, no-name, whole-dirent}
use Rattle.fa_bodies.proofs.dirent.behind_dirent.Goals as goal

pub returns-in_err-head-clause-none : goal.returns-in_err-head-clause-none
returns-in_err-head-clause-none c =
    let entry = c.in_ok-rest.ensures.found in
    rw c.from_residual-in_err-head.ensures (no-head c.args.plus c.args.bytes.now c.in_ok-rest.rest.now entry.0 entry.1 c.in_err-head.ensures.none)

pub returns-in_err-_name-clause-none : goal.returns-in_err-_name-clause-none
returns-in_err-_name-clause-none c =
    let entry = c.in_ok-rest.ensures.found in
    rw c.from_residual-in_err-_name.ensures (no-name c.args.plus c.args.bytes.now c.in_ok-rest.rest.now c.in_ok-head.rest.now entry.0 c.in_ok-head.head entry.1 c.in_ok-head.ensures.found c.in_err-_name.ensures.none)

pub returns-clause-found : goal.returns-clause-found
returns-clause-found c =
    let entry = c.in_ok-rest.ensures.found in
    let named = c.in_ok-_name.ensures.found in
    (_, whole-dirent c.args.plus c.args.bytes.now c.in_ok-rest.rest.now c.in_ok-head.rest.now c.in_ok-_name._name.now c.in_ok-_name.rest.now entry.0 c.in_ok-head.head entry.1 c.in_ok-head.ensures.found named.0 named.1)
