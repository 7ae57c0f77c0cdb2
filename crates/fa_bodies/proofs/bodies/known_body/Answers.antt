use Rattle.std.proofs.Common.{List, ℕ, [], ◌∷◌, sym, subst}
use Rattle.fa_bodies.specs.Fields.{IsSpelled}
use Rattle.fa_bodies.specs.Fields.Field.{Name}
use Rattle.fa_bodies.proofs.BodyLaws.{lookup_body, unlink_body, rmdir_body, mkdir_body, link_body, create_body}
use Rattle.fa_bodies.proofs.KnownLaws.{known_body_there, ends_at_name, is_named}
use Rattle.fa_bodies.proofs.bodies.known_body.Goals as goal

pub known_name-requires : goal.known_name-requires
known_name-requires c = ends_at_name c.args.opcode c.args.body.now (λ b p. lookup_body c.args.body.now b (rw (← c.in-1.is) p)) c.requires

pub returns-in-1 : goal.returns-in-1
returns-in-1 c b p =
    let found = lookup_body c.args.body.now b (rw (← c.in-1.is) p) in
    (c.in-1.is, subst (λ (n : List ℕ). IsSpelled c.args.body.now (Name n ∷ [])) (sym (c.known_name.ensures found.0 found.1)) found.1)

pub known_name-requires-in-10 : goal.known_name-requires-in-10
known_name-requires-in-10 c = ends_at_name c.args.opcode c.args.body.now (λ b p. unlink_body c.args.body.now b (rw (← c.in-10.is) p)) c.requires

pub returns-in-10 : goal.returns-in-10
returns-in-10 c b p =
    let found = unlink_body c.args.body.now b (rw (← c.in-10.is) p) in
    (c.in-10.is, subst (λ (n : List ℕ). IsSpelled c.args.body.now (Name n ∷ [])) (sym (c.known_name-in-10.ensures found.0 found.1)) found.1)

pub known_name-requires-in-11 : goal.known_name-requires-in-11
known_name-requires-in-11 c = ends_at_name c.args.opcode c.args.body.now (λ b p. rmdir_body c.args.body.now b (rw (← c.in-11.is) p)) c.requires

pub returns-in-11 : goal.returns-in-11
returns-in-11 c b p =
    let found = rmdir_body c.args.body.now b (rw (← c.in-11.is) p) in
    (c.in-11.is, subst (λ (n : List ℕ). IsSpelled c.args.body.now (Name n ∷ [])) (sym (c.known_name-in-11.ensures found.0 found.1)) found.1)

pub known_named-umask-requires : goal.known_named-umask-requires
known_named-umask-requires c = is_named c.args.opcode c.args.body.now _ (λ b p. mkdir_body c.args.body.now b (rw (← c.in-9.is) p)) c.requires

pub returns-in-9 : goal.returns-in-9
returns-in-9 c b p =
    let found = mkdir_body c.args.body.now b (rw (← c.in-9.is) p) in
    (c.in-9.is, c.known_named-umask.ensures found.0 found.1 found.2)

pub known_named-oldnodeid-requires : goal.known_named-oldnodeid-requires
known_named-oldnodeid-requires c = is_named c.args.opcode c.args.body.now _ (λ b p. link_body c.args.body.now b (rw (← c.in-13.is) p)) c.requires

pub returns-in-13 : goal.returns-in-13
returns-in-13 c b p =
    let found = link_body c.args.body.now b (rw (← c.in-13.is) p) in
    (c.in-13.is, c.known_named-oldnodeid.ensures found.0 found.1 found.2)

pub known_named-umask-requires-in-35 : goal.known_named-umask-requires-in-35
known_named-umask-requires-in-35 c = is_named c.args.opcode c.args.body.now _ (λ b p. create_body c.args.body.now b (rw (← c.in-35.is) p)) c.requires

pub returns-in-35 : goal.returns-in-35
returns-in-35 c b p =
    let found = create_body c.args.body.now b (rw (← c.in-35.is) p) in
    (c.in-35.is, c.known_named-umask-in-35.ensures found.0 found.1 found.2)

pub unwrap-requires : goal.unwrap-requires
unwrap-requires c = known_body_there c.args.opcode c.args.body.now c.requires c.body_of.result c.body_of.ensures.none
