use Rattle.std.proofs.Common.{[], ◌∷◌, ◌++◌, subst}
use Rattle.std.specs.Prelude.{IfSome}
use Rattle.fa_check.specs.Replays.{IsReplayed}
use Rattle.fa_propose.specs.parts.Ready.{IsTriedSo}
use Rattle.fa_propose.proofs.MatchLemmas.{stuck}
use Rattle.fa_propose.proofs.NextLemmas.{placed_next}
use Rattle.fa_propose.proofs.ReadyLemmas.{each_may_come}
use Rattle.fa_propose.proofs.ready.Ready.place_next.Goals as goal

pub returns-in_default-clause-next : goal.returns-in_default-clause-next
returns-in_default-clause-next c = λ messages first es is so_far ready all.
    let plain = c.args.replay.now.list in
    let candidates = c.args.self.now.candidates in
    let seen = c.args.self.now.seen in
    let tried = c.in_ok-rank.ensures.tried messages first es is so_far (each_may_come messages plain es seen candidates ready) in
    stuck messages plain is.are es seen candidates ready all c.in_ok-rank.ensures.ordered c.args.tree.now
    (subst (IsTriedSo messages c.args.tree.now c.place_first.new.tree candidates) c.in_default.is tried)

pub returns-clause-replayed : goal.returns-clause-replayed
returns-clause-replayed c = λ first es so_far.
    subst (λ found. IfSome found (λ found. IsReplayed c.args.replay.now first c.place_first.new.tree (es ++ found.1 ∷ []) c.place_first.new.placing)) c.in-Some.is
    (c.in_ok-rank.ensures.replayed first es so_far)

pub returns-clause-next : goal.returns-clause-next
returns-clause-next c = λ messages first es is so_far ready all.
    let plain = c.args.replay.now.list in
    let candidates = c.args.self.now.candidates in
    let seen = c.args.self.now.seen in
    let tried = c.in_ok-rank.ensures.tried messages first es is so_far (each_may_come messages plain es seen candidates ready) in
    placed_next messages plain is.are es seen candidates c.remove.new.self ready all c.in_ok-rank.ensures.ordered c.args.tree.now c.place_first.new.tree
    (c.in-Some.rank, c.in-Some.entry) (subst (IsTriedSo messages c.args.tree.now c.place_first.new.tree candidates) c.in-Some.is tried) c.remove.ensures
