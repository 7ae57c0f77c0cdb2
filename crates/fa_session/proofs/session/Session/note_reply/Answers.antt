use Rattle.std.proofs.Common.{refl, sym, subst}
use Rattle.fa_session.specs.Plain.{PlainSession}
use Rattle.fa_session.specs.parts.Steps.{NotesReply}
use Rattle.fa_session.proofs.TableLemmas.{answered_shown}
use Rattle.fa_session.proofs.session.Session.note_reply.Goals as goal

pub returns-clause-noted : goal.returns-clause-noted
returns-clause-noted c =
    subst (λ (s : PlainSession). NotesReply c.args.self.now s c.args.unique c.args.flags) (sym c.next_number.ensures.counted)
    (answered_shown c.self.inside c.args.self.now _ c.args.unique c.args.flags c.remove.new.self c.self.view_is refl c.or-self-inside.ensures refl c.remove.ensures)
