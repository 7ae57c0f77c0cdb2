use Rattle.std.proofs.Common.{Option, ap, inl, subst, ◌∷◌, []}
use Rattle.std.specs.Prelude.{nat_eq}
use Rattle.std.specs.Map.{lookup}
use Rattle.std.proofs.lemmas.Result.{err_from_is_err_and}
use Rattle.fa_bodies.specs.Items.{items_in}
use Rattle.fa_bodies.specs.Requests.{request_shown, body_shown}
use Rattle.fa_ledger.specs.declared.tables.Names.{Names}
use Rattle.fa_ledger.specs.Mentions.{mentions}
use Rattle.fa_ledger.specs.parts.TableParts.{AreNamesIfAny}
use Rattle.fa_ledger.specs.parts.Steps.{but_root}
use Rattle.fa_ledger.proofs.LiveLemmas.{taken_shows, none_shows}
use Rattle.fa_ledger.proofs.RequestLemmas.{takes_keep, takes_fail, takes_none, none_keep, names_there, uses_keep, uses_fail}
use Rattle.fa_ledger.proofs.NodeLemmas.{left_few}
use Rattle.fa_ledger.proofs.live.Live.note_request.Goals as goal

pub returns-in_err-forget-in-Forget-clause-refused : goal.returns-in_err-forget-in-Forget-clause-refused
returns-in_err-forget-in-Forget-clause-refused c =
    let r = request_shown c.args.request.now in
    let body = ap body_shown c.in-Forget.is in
    let p = err_from_is_err_and c.from_residual.result c.from_residual.ensures.1 in
    rw (p.1, p.2) (λ before m es stands.
    takes_fail es r c.args.self.now.tables.nodes.known.entries ((r.node, c.in-Forget.nlookup) ∷ []) _ (ap (λ b. (mentions b).names r.node) body) (ap (λ b. but_root ((mentions b).takes r.node)) body) stands.shown.nodes
    c.in_err-forget-in-Forget.ensures.refused.1 c.in_err-forget-in-Forget.ensures.refused.0)

pub forget_all-requires-clause-few : goal.forget_all-requires-clause-few
forget_all-requires-clause-few c = λ node.
    let stands = c.requires.3 in
    left_few c.requires.0 c.requires.2 node (lookup (nat_eq node) c.args.self.now.tables.nodes.known.entries) stands.are stands.few (stands.shown.nodes node)

pub returns-in_err-forget_all-in-BatchForget-clause-refused : goal.returns-in_err-forget_all-in-BatchForget-clause-refused
returns-in_err-forget_all-in-BatchForget-clause-refused c =
    let r = request_shown c.args.request.now in
    let body = ap body_shown c.in-BatchForget.is in
    let p = err_from_is_err_and c.from_residual-in_err-forget_all-in-BatchForget.result c.from_residual-in_err-forget_all-in-BatchForget.ensures.1 in
    rw (p.1, p.2) (λ before m es stands.
    takes_fail es r c.args.self.now.tables.nodes.known.entries (items_in c.in-BatchForget.items.now) _ (ap (λ b. (mentions b).names r.node) body) (ap (λ b. but_root ((mentions b).takes r.node)) body) stands.shown.nodes
    c.in_err-forget_all-in-BatchForget.ensures.refused.1 c.in_err-forget_all-in-BatchForget.ensures.refused.0)

pub returns-in_err-names-in_default-clause-refused : goal.returns-in_err-names-in_default-clause-refused
returns-in_err-names-in_default-clause-refused c =
    let p = err_from_is_err_and c.from_residual-in_err-names-in_default.result c.from_residual-in_err-names-in_default.ensures.1 in
    rw (p.1, p.2) (λ before m es stands.
    inl (c.in_err-names-in_default.ensures.unknown.1 es stands.shown.nodes, c.in_err-names-in_default.ensures.unknown.0))

pub returns-in_err-used-in_default-clause-refused : goal.returns-in_err-used-in_default-clause-refused
returns-in_err-used-in_default-clause-refused c =
    let r = request_shown c.args.request.now in
    let p = err_from_is_err_and c.from_residual-in_err-used-in_default.result c.from_residual-in_err-used-in_default.ensures.1 in
    let takes = takes_none r.node c.args.request.now.body c.in_default.not-Forget c.in_default.not-BatchForget in
    rw (p.1, p.2) (λ before m es stands.
    let are = names_there es r c.in-Some.names c.in-Some.is (c.in_ok-names-in_default.ensures.named es stands.shown.nodes) in
    uses_fail es r c.in-Some.names _ are takes (c.in_err-used-in_default.ensures.closed.1 es stands.shown.keys are.node) c.in_err-used-in_default.ensures.closed.0)

pub note_use-requires : goal.note_use-requires
note_use-requires c =
    let r = request_shown c.args.request.now in
    let es = c.requires.2 in
    let stands = c.requires.3 in
    let takes = takes_none r.node c.args.request.now.body c.in_default.not-Forget c.in_default.not-BatchForget in
    let are = names_there es r c.in-Some.names c.in-Some.is (c.in_ok-names-in_default.ensures.named es stands.shown.nodes) in
    (c.requires.0, c.requires.1, es, stands, c.in_ok-used-in_default.ensures.used es stands.shown.keys are.node, takes)

pub returns-in_err-note_use-in_default-clause-refused : goal.returns-in_err-note_use-in_default-clause-refused
returns-in_err-note_use-in_default-clause-refused c =
    let r = request_shown c.args.request.now in
    let p = err_from_is_err_and c.from_residual-in_err-note_use-in_default.result c.from_residual-in_err-note_use-in_default.ensures.1 in
    let takes = takes_none r.node c.args.request.now.body c.in_default.not-Forget c.in_default.not-BatchForget in
    rw (p.1, p.2) (λ before m es stands.
    let are = names_there es r c.in-Some.names c.in-Some.is (c.in_ok-names-in_default.ensures.named es stands.shown.nodes) in
    (uses_keep es r c.args.self.now.tables.handles.opened.entries c.in-Some.names c.in_ok-used-in_default.used are takes (c.in_ok-used-in_default.ensures.used es stands.shown.keys are.node), c.in_err-note_use-in_default.ensures.wanted))

pub returns-in_ok-forget-in-Forget-clause-keeps : goal.returns-in_ok-forget-in-Forget-clause-keeps
returns-in_ok-forget-in-Forget-clause-keeps c = λ before m es stands.
    let r = request_shown c.args.request.now in
    let body = ap body_shown c.in-Forget.is in
    takes_keep es r c.args.self.now.tables.nodes.known.entries ((r.node, c.in-Forget.nlookup) ∷ []) (ap (λ b. (mentions b).names r.node) body) (ap (λ b. but_root ((mentions b).takes r.node)) body) stands.shown.nodes
    c.in_ok-forget-in-Forget.ensures.within

pub returns-in_ok-forget-in-Forget-clause-shows : goal.returns-in_ok-forget-in-Forget-clause-shows
returns-in_ok-forget-in-Forget-clause-shows c = λ before m es stands.
    let r = request_shown c.args.request.now in
    let body = ap body_shown c.in-Forget.is in
    taken_shows before m es c.args.at r c.args.self.now c.forget.new.self ((r.node, c.in-Forget.nlookup) ∷ []) (ap (λ b. (mentions b).names r.node) body) (ap (λ b. but_root ((mentions b).takes r.node)) body)
    c.in_ok-forget-in-Forget.ensures.taken stands

pub returns-in_ok-forget_all-in-BatchForget-clause-keeps : goal.returns-in_ok-forget_all-in-BatchForget-clause-keeps
returns-in_ok-forget_all-in-BatchForget-clause-keeps c = λ before m es stands.
    let r = request_shown c.args.request.now in
    let body = ap body_shown c.in-BatchForget.is in
    takes_keep es r c.args.self.now.tables.nodes.known.entries (items_in c.in-BatchForget.items.now) (ap (λ b. (mentions b).names r.node) body) (ap (λ b. but_root ((mentions b).takes r.node)) body) stands.shown.nodes
    c.in_ok-forget_all-in-BatchForget.ensures.within

pub returns-in_ok-forget_all-in-BatchForget-clause-shows : goal.returns-in_ok-forget_all-in-BatchForget-clause-shows
returns-in_ok-forget_all-in-BatchForget-clause-shows c = λ before m es stands.
    let r = request_shown c.args.request.now in
    let body = ap body_shown c.in-BatchForget.is in
    taken_shows before m es c.args.at r c.args.self.now c.forget_all.new.self (items_in c.in-BatchForget.items.now) (ap (λ b. (mentions b).names r.node) body) (ap (λ b. but_root ((mentions b).takes r.node)) body)
    c.in_ok-forget_all-in-BatchForget.ensures.taken stands

pub returns-in_ok-note_use-in_default-clause-keeps : goal.returns-in_ok-note_use-in_default-clause-keeps
returns-in_ok-note_use-in_default-clause-keeps c = λ before m es stands.
    let r = request_shown c.args.request.now in
    let takes = takes_none r.node c.args.request.now.body c.in_default.not-Forget c.in_default.not-BatchForget in
    let are = names_there es r c.in-Some.names c.in-Some.is (c.in_ok-names-in_default.ensures.named es stands.shown.nodes) in
    uses_keep es r c.args.self.now.tables.handles.opened.entries c.in-Some.names c.in_ok-used-in_default.used are takes (c.in_ok-used-in_default.ensures.used es stands.shown.keys are.node)

pub returns-in_ok-note_use-in_default-clause-shows : goal.returns-in_ok-note_use-in_default-clause-shows
returns-in_ok-note_use-in_default-clause-shows c = λ before m es stands.
    let r = request_shown c.args.request.now in
    let are = names_there es r c.in-Some.names c.in-Some.is (c.in_ok-names-in_default.ensures.named es stands.shown.nodes) in
    c.in_ok-note_use-in_default.ensures.shows before m es stands are.node (c.in_ok-used-in_default.ensures.used es stands.shown.keys are.node)

pub returns-in_default-2-clause-keeps : goal.returns-in_default-2-clause-keeps
returns-in_default-2-clause-keeps c = λ before m es stands.
    let r = request_shown c.args.request.now in
    let takes = takes_none r.node c.args.request.now.body c.in_default.not-Forget c.in_default.not-BatchForget in
    let none = subst (λ (names : Option Names). AreNamesIfAny es r names) c.in_default-2.is (c.in_ok-names-in_default.ensures.named es stands.shown.nodes) in
    none_keep es r none takes

pub returns-in_default-2-clause-shows : goal.returns-in_default-2-clause-shows
returns-in_default-2-clause-shows c = λ before m es stands.
    let r = request_shown c.args.request.now in
    let takes = takes_none r.node c.args.request.now.body c.in_default.not-Forget c.in_default.not-BatchForget in
    let none = subst (λ (names : Option Names). AreNamesIfAny es r names) c.in_default-2.is (c.in_ok-names-in_default.ensures.named es stands.shown.nodes) in
    none_shows before m es c.args.at r c.args.self.now none takes stands
