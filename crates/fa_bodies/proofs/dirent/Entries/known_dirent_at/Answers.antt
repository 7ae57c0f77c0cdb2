use Rattle.std.proofs.Common.{arith, ◌∙◌}
use Rattle.fa_bodies.proofs.WholeLaws.{known_entry_room, known_head_room, known_name_room, known_padding_room, known_dirent}
use Rattle.fa_bodies.proofs.dirent.Entries.known_dirent_at.Goals as goal

pub known_entry_out-entry-requires : goal.known_entry_out-entry-requires
known_entry_out-entry-requires c is =
    known_entry_room c.args.plus c.args.bytes.now (λ i. omega (arith, c.type_inv.bytes i)) c.requires.whole c.requires.some is

pub at-requires : goal.at-requires
at-requires c =
    known_head_room c.args.plus c.args.bytes.now (λ i. omega (arith, c.type_inv.bytes i)) c.requires.whole c.requires.some
    c.known_entry_out-entry.result.1.now c.known_entry_out-entry.result.0 c.known_entry_out-entry.ensures

pub split_at-requires : goal.split_at-requires
split_at-requires c =
    known_name_room c.args.plus c.args.bytes.now (λ i. omega (arith, c.type_inv.bytes i)) c.requires.whole c.requires.some
    c.known_entry_out-entry.result.1.now c.known_entry_out-entry.result.0 c.known_entry_out-entry.ensures
    c.at.result.0 c.at.result.1.now c.at.ensures

pub split_at-requires-2 : goal.split_at-requires-2
split_at-requires-2 c =
    rw c.padding.ensures (known_padding_room c.args.plus c.args.bytes.now (λ i. omega (arith, c.type_inv.bytes i)) c.requires.whole c.requires.some
    c.known_entry_out-entry.result.1.now c.known_entry_out-entry.result.0 c.known_entry_out-entry.ensures
    c.at.result.0 c.at.result.1.now c.at.ensures
    c.split_at.result.0.now c.split_at.result.1.now c.split_at.ensures.by_index.0 c.split_at.ensures.front_len)

pub returns-clause-first : goal.returns-clause-first
returns-clause-first c =
    (known_dirent c.args.plus c.args.bytes.now (λ i. omega (arith, c.type_inv.bytes i)) c.requires.whole c.requires.some
    c.known_entry_out-entry.result.1.now c.known_entry_out-entry.result.0 c.known_entry_out-entry.ensures
    c.at.result.0 c.at.result.1.now c.at.ensures
    c.split_at.result.0.now c.split_at.result.1.now c.split_at.ensures.by_index.0 c.split_at.ensures.front_len
    c.split_at-2.result.0.now c.split_at-2.result.1.now c.split_at-2.ensures.by_index.0 (c.split_at-2.ensures.front_len ∙ c.padding.ensures)).0

pub returns-clause-left : goal.returns-clause-left
returns-clause-left c =
    (known_dirent c.args.plus c.args.bytes.now (λ i. omega (arith, c.type_inv.bytes i)) c.requires.whole c.requires.some
    c.known_entry_out-entry.result.1.now c.known_entry_out-entry.result.0 c.known_entry_out-entry.ensures
    c.at.result.0 c.at.result.1.now c.at.ensures
    c.split_at.result.0.now c.split_at.result.1.now c.split_at.ensures.by_index.0 c.split_at.ensures.front_len
    c.split_at-2.result.0.now c.split_at-2.result.1.now c.split_at-2.ensures.by_index.0 (c.split_at-2.ensures.front_len ∙ c.padding.ensures)).1
