use Rattle.std.proofs.Common.{ℕ, List, Vec, Global, ap, ◌∙◌}
use Rattle.std.proofs.lemmas.Result.{err_from_is_err_and}
use Rattle.fa_capture.specs.Captures.{records_of}
use Rattle.fa_capture.specs.Device.{device_inner}
use Rattle.fa_capture.proofs.MigrateLemmas.{not_migrated, memory_refused, all_put}
use Rattle.fa_capture.proofs.migration.migrate.Goals as goal

pub returns-in-Some-clause-refused : goal.returns-in-Some-clause-refused
returns-in-Some-clause-refused c = not_migrated c.args.bytes.now (records_of c.read_capture-capture.result) c.read_capture-capture.result.fault c.in-Some.fault c.in-Some.is c.read_capture-capture.ensures

pub returns-in_err-with_capacity-clause-refused : goal.returns-in_err-with_capacity-clause-refused
returns-in_err-with_capacity-clause-refused c =
    let capture = c.read_capture-capture in
    let p = err_from_is_err_and c.from_residual.result c.from_residual.ensures.1 in
    rw (p.1, p.2) (memory_refused c.args.bytes.now (records_of capture.result) capture.result.fault c.in_default.not-Some capture.ensures)

pub returns-in-Err-clause-refused : goal.returns-in-Err-clause-refused
returns-in-Err-clause-refused c =
    let capture = c.read_capture-capture in
    memory_refused c.args.bytes.now (records_of capture.result) capture.result.fault c.in_default.not-Some capture.ensures

pub returns-in-Ok-clause-migrated : goal.returns-in-Ok-clause-migrated
returns-in-Ok-clause-migrated c =
    let capture = c.read_capture-capture in
    let items : Vec ℕ Global → List ℕ = λ v. v.items in
    let before = device_inner c.new-written.result in
    all_put c.args.bytes.now c.into_inner.result.items before.items (records_of capture.result) capture.result.fault c.in_default.not-Some capture.ensures
    (ap items c.new-written.ensures.inner ∙ c.in_ok-with_capacity.ensures.items) (ap items c.into_inner.ensures ∙ c.in-Ok.ensures.written)
