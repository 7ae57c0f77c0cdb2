use Rattle.std.proofs.Common.{ap, ◌∙◌, sym}
use Rattle.std.specs.Option.{option_map}
use Rattle.fa_session.specs.Plain.{PlainSession}
use Rattle.fa_session.specs.parts.Steps.{waiting_for}
use Rattle.fa_session.specs.parts.View.{waiting_shown}
use Rattle.fa_session.proofs.TableLemmas.{find_by_unique, shown_copied}
use Rattle.fa_session.proofs.session.Session.waiting_for.Goals as goal

pub returns-clause-found : goal.returns-clause-found
returns-clause-found c =
    shown_copied c.get.result
    ∙ ap (option_map waiting_shown) c.get.ensures.found
    ∙ sym (find_by_unique c.args.unique c.self.inside.waiting)
    ∙ ap (λ (s : PlainSession). waiting_for s c.args.unique) c.self.view_is
