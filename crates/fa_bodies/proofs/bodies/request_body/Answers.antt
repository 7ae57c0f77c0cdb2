use Rattle.std.proofs.Common.{rules, ◌≡◌, true, false, refl, subst, inl, inr}
use Rattle.fa_bodies.specs.Requests.{PlainBody, IsRequestBody, IsWithinLimit, body_shown}
use Rattle.fa_bodies.proofs.BodyLaws.{body-one, operation_of}
use Rattle.fa_bodies.proofs.bodies.request_body.Goals as goal

pub returns-then-not-is_within_limit-clause-fault :
    goal.returns-then-not-is_within_limit-clause-fault
returns-then-not-is_within_limit-clause-fault c =
    let read = body_shown c.in-Some.body in
    let found : IsRequestBody c.args.opcode c.args.body.now (body_shown c.in-Some.body) = search rules in
    let past : IsWithinLimit (body_shown c.in-Some.body) → ⊥ =
    λ within. let yes : false ≡ true = c.if-not-is_within_limit.ensures.1 within in absurd cc in
    inr (
      operation_of c.args.opcode c.args.body.now read found,
      inr (
        (read, found),
        inl ((λ has. past (subst (λ (b : PlainBody). IsWithinLimit b) (body-one c.args.opcode c.args.body.now has.0 read has.1 found) has.2)), refl),
      ),
    )
