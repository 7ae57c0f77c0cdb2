use Rattle.std.proofs.Common.{Bor, sym, ap, ◌∙◌, arith, option_map, is_some}
use Rattle.std.specs.Prelude.{not}
use Rattle.fa_bodies.specs.Requests.{request_shown}
use Rattle.fa_session.specs.declared.waiting.Waiting.{Waiting}
use Rattle.fa_session.specs.parts.View.{waiting_shown}
use Rattle.fa_session.proofs.RequestLemmas.{headed_passes, headed_in_use, free_of_none, free_of_replaced, used_by_found}
use Rattle.fa_session.proofs.session.Session.check_request.Goals as goal

pub returns-in_default-clause-ok : goal.returns-in_default-clause-ok
returns-in_default-clause-ok c = λ before shows.
    headed_passes before c.args.self.now (request_shown c.args.request.now)
    (record {
      shows = shows;
      unique = omega arith;
      other = λ init. let yes = c.is_init.ensures.1 init in let no = c.if-is_init.false in absurd cc;
      some = λ zero. let yes = c.is_empty-2.ensures.1 zero in let no = c.if-is_empty.false in absurd cc;
      answered = ap is_some (sym c.negotiated.ensures) ∙ c.is_none.ensures ∙ ap not c.if-is_none.false;
    })
    (free_of_none before c.args.self.now (request_shown c.args.request.now) shows (sym c.waiting_for.ensures.found ∙ ap (option_map (λ (w : Bor Waiting). waiting_shown w.now)) c.in_default.is))

pub returns-then-not-may_replace-clause-fault : goal.returns-then-not-may_replace-clause-fault
returns-then-not-may_replace-clause-fault c = λ before shows.
    headed_in_use before c.args.self.now (request_shown c.args.request.now)
    (record {
      shows = shows;
      unique = omega arith;
      other = λ init. let yes = c.is_init.ensures.1 init in let no = c.if-is_init.false in absurd cc;
      some = λ zero. let yes = c.is_empty-2.ensures.1 zero in let no = c.if-is_empty.false in absurd cc;
      answered = ap is_some (sym c.negotiated.ensures) ∙ c.is_none.ensures ∙ ap not c.if-is_none.false;
    })
    (used_by_found before c.args.self.now (request_shown c.args.request.now) (waiting_shown c.in-Some.waiting.now) shows
    (sym c.waiting_for.ensures.found ∙ ap (option_map (λ (w : Bor Waiting). waiting_shown w.now)) c.in-Some.is) (λ both. let yes = c.may_replace.ensures.1 both in let no = c.if-not-may_replace.true in absurd cc))

pub returns-clause-ok : goal.returns-clause-ok
returns-clause-ok c = λ before shows.
    headed_passes before c.args.self.now (request_shown c.args.request.now)
    (record {
      shows = shows;
      unique = omega arith;
      other = λ init. let yes = c.is_init.ensures.1 init in let no = c.if-is_init.false in absurd cc;
      some = λ zero. let yes = c.is_empty-2.ensures.1 zero in let no = c.if-is_empty.false in absurd cc;
      answered = ap is_some (sym c.negotiated.ensures) ∙ c.is_none.ensures ∙ ap not c.if-is_none.false;
    })
    (free_of_replaced before c.args.self.now (request_shown c.args.request.now) (waiting_shown c.in-Some.waiting.now) shows
    (sym c.waiting_for.ensures.found ∙ ap (option_map (λ (w : Bor Waiting). waiting_shown w.now)) c.in-Some.is) (c.may_replace.ensures.0 c.if-not-may_replace.false))
