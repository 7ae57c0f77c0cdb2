use Rattle.std.proofs.Common.{List, sym, subst}
use Rattle.fa_capture.specs.Message.{Message}
use Rattle.fa_tree.specs.State.{TreeState}
use Rattle.fa_order.specs.declared.entry.Entry.{Entry}
use Rattle.fa_check.specs.Verdicts.{AreMessagesOf}
use Rattle.fa_tree.specs.Alike.{IsInUse}
use Rattle.fa_search.specs.parts.Configurations.{PlainConfiguration}
use Rattle.fa_search.specs.parts.Settling.{IsTraced, AreSettlingBy, IsFurther, IsIn, AreGrown}
use Rattle.fa_search.proofs.TakenLemmas.{put_grown, put_in, put_settling, in_further, on_ok}
use Rattle.fa_search.proofs.UseLemmas.{covers_from}
use Rattle.fa_search.proofs.settling.Settling.take_in.Goals as goal

pub returns-clause-grown : goal.returns-clause-grown
returns-clause-grown c =
    let old = c.args.self.now in
    let new = c.put.new.self in
    on_ok c.hold.result (AreGrown old.work.items old.settled.items new.work.items new.settled.items)
    (put_grown (IsInUse c.in_use-in_use.result) c.args.asked c.reckon.new.self old.work.items old.settled.items new.work.items new.settled.items c.in_ok-put.ensures)

pub returns-clause-taken : goal.returns-clause-taken
returns-clause-taken c =
    let old = c.args.self.now in
    let new = c.put.new.self in
    let x = c.reckon.new.self in
    let at = c.args.flight.now.at in
    on_ok c.hold.result ((messages : List Message) → AreMessagesOf c.args.tries.now.replay messages → IsIn messages at c.args.one new.work.items new.settled.items) (λ messages are.
    let further : IsFurther messages at c.args.one x = subst (λ (y : PlainConfiguration). IsFurther messages at c.args.one y) (sym c.reckon.ensures) (c.in_ok-place_keeping.ensures.further messages are) in
    in_further messages at c.args.one x new.work.items new.settled.items further
    (put_in (IsInUse c.in_use-in_use.result) c.args.asked x old.work.items old.settled.items new.work.items new.settled.items c.in_ok-put.ensures messages at
    (λ opened used. (c.in_use-in_use.ensures opened).1 (covers_from messages c.args.tries.now.replay.list are.are at c.args.flight.now.last_uses c.requires.uses opened used))))

pub returns-clause-settling : goal.returns-clause-settling
returns-clause-settling c =
    let old = c.args.self.now in
    let new = c.put.new.self in
    let x = c.reckon.new.self in
    let at = c.args.flight.now.at in
    let asked = c.args.asked in
    on_ok c.hold.result ((messages : List Message) (first : TreeState) (common : List Entry) (held : List PlainConfiguration) → AreMessagesOf c.args.tries.now.replay messages
    → IsTraced messages first common at c.args.one → AreSettlingBy messages first common at asked held old.work.items old.settled.items
    → AreSettlingBy messages first common at asked held new.work.items new.settled.items) (λ messages first common held are traced settling.
    let further : IsFurther messages at c.args.one x = subst (λ (y : PlainConfiguration). IsFurther messages at c.args.one y) (sym c.reckon.ensures) (c.in_ok-place_keeping.ensures.further messages are) in
    put_settling (IsInUse c.in_use-in_use.result) asked x old.work.items old.settled.items new.work.items new.settled.items c.in_ok-put.ensures messages first common at held (further.traced first common traced) settling)
