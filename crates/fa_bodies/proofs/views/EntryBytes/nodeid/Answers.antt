use Rattle.std.proofs.Common.{rules, sym, ◌∙◌}
use Rattle.fa_bodies.proofs.ViewLaws.{u64_said, nodeid_in}
use Rattle.fa_bodies.proofs.views.EntryBytes.nodeid.Goals as goal

pub returns : goal.returns
returns c =
    let bytes = c.args.self.now.bytes.now in
    let read = c.u64_at-nodeid in
    u64_said read.result.0 bytes read.result.1.now (search rules) read.ensures.value ∙ sym (nodeid_in bytes)
