use Rattle.std.proofs.Common.{Option, refl, sym, subst}
use Rattle.fa_bodies.specs.Requests.{request_shown}
use Rattle.fa_ledger.specs.declared.tables.Used.{Used}
use Rattle.fa_ledger.specs.parts.TableParts.{IsUsedIfAny}
use Rattle.fa_ledger.proofs.LiveLemmas.{asked_shows, closed_shows, left_shows}
use Rattle.fa_ledger.proofs.live.Live.note_use.Goals as goal

pub returns-in_ok-insert-clause-shows : goal.returns-in_ok-insert-clause-shows
returns-in_ok-insert-clause-shows c = λ before m es stands named used.
    asked_shows before m es c.args.at (request_shown c.args.request.now) c.args.self.now _ c.args.node c.requires.5 (c.opens_its_node.ensures.0 c.if-opens_its_node.true) named refl
    c.in_ok-insert.ensures.updates.0 stands

pub returns-in-Some-clause-shows : goal.returns-in-Some-clause-shows
returns-in-Some-clause-shows c = λ before m es stands named used.
    closed_shows before m es c.args.at (request_shown c.args.request.now) c.args.self.now c.close.new.self c.in-Some.used c.requires.5 (sym c.if-is_closing.ensures)
    (λ opens. let yes = c.opens_its_node.ensures.1 opens in let no = c.if-opens_its_node.false in absurd cc)
    (subst (λ (u : Option Used). IsUsedIfAny es (request_shown c.args.request.now) c.args.self.now.tables.handles.opened.entries u) c.in-Some.is used)
    c.close.ensures.closed stands

pub returns-else-is_closing-clause-shows : goal.returns-else-is_closing-clause-shows
returns-else-is_closing-clause-shows c = λ before m es stands named used.
    left_shows before m es c.args.at (request_shown c.args.request.now) c.args.self.now c.requires.5 (sym c.if-is_closing.ensures)
    (λ opens. let yes = c.opens_its_node.ensures.1 opens in let no = c.if-opens_its_node.false in absurd cc) stands
