use Rattle.std.proofs.Common.{List, ℕ, [], refl, subst}
use Rattle.fa_bodies.specs.Fields.{BeginsWith}
use Rattle.fa_bodies.specs.Structs.{entry_out, open_out}
use Rattle.fa_bodies.specs.Views.{entry_shown}
use Rattle.fa_bodies.proofs.OptionLaws.{if_none}
use Rattle.fa_bodies.proofs.FieldLaws.{parts_of, then_fields, rest-one}
use Rattle.fa_bodies.proofs.successes.created.Goals as goal

pub returns-in_err-entry-clause-none : goal.returns-in_err-entry-clause-none
returns-in_err-entry-clause-none c =
    if_none c.from_residual.result _ (λ reply p.
    let parts = parts_of (entry_out p.0) (open_out p.1) c.args.body.now [] p.3 in
    c.in_err-entry.ensures.none p.0 parts.0 parts.1)

pub returns-in_err-open-clause-none : goal.returns-in_err-open-clause-none
returns-in_err-open-clause-none c =
    if_none c.from_residual-in_err-open.result _ (λ reply p.
    let parts = parts_of (entry_out p.0) (open_out p.1) c.args.body.now [] p.3 in
    let same = rest-one (entry_out p.0) (entry_out (entry_shown c.in_ok-entry.entry)) c.args.body.now parts.0 c.in_ok-entry.rest.now refl parts.1 c.in_ok-entry.ensures.found in
    c.in_err-open.ensures.none p.1 (subst (λ (x : List ℕ). BeginsWith x (open_out p.1) []) same parts.2))

pub returns-clause-found : goal.returns-clause-found
returns-clause-found c =
    let e = entry_shown c.in_ok-entry.entry in
    let o = c.in_ok-open.«open» in
    (e, o, refl, then_fields (entry_out e) (open_out o) c.args.body.now c.in_ok-entry.rest.now [] c.in_ok-entry.ensures.found c.in_ok-open.ensures.found)
