use Rattle.std.proofs.Common.{Some}
use Rattle.fa_bodies.specs.Views.{entry_shown}
use Rattle.fa_bodies.proofs.ListingLaws.{no-entry_out, with-entry_out}
use Rattle.fa_bodies.proofs.dirent.behind_entry_out.Goals as goal

pub returns-in_err-_entry-clause-none : goal.returns-in_err-_entry-clause-none
returns-in_err-_entry-clause-none c =
    rw c.from_residual.ensures (no-entry_out c.args.plus c.args.bytes.now c.if-not-plus.false c.in_err-_entry.ensures.none)

pub returns-clause-found : goal.returns-clause-found
returns-clause-found c =
    let entry = entry_shown c.in_ok-_entry._entry in
    (Some entry, with-entry_out c.args.plus c.args.bytes.now entry c.in_ok-_entry.rest.now c.if-not-plus.false c.in_ok-_entry.ensures.found)
