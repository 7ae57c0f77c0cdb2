use Rattle.std.proofs.Common.{◌≡◌, ◌<◌, [], ◌∷◌, ◌++◌, length, map, sym, subst, arith}
use Rattle.std.proofs.lemmas.List.{length-append, length-map}
use Rattle.fa_capture.specs.declared.limits.TheConstants.{MAX_MESSAGES}
use Rattle.fa_capture.specs.Message.{message}
use Rattle.fa_ledger.specs.Standing.{PlainStanding, ShowsStanding}
use Rattle.fa_show.proofs.FollowLemmas.{Follows, follows_one, follows_on}
use Rattle.fa_show.proofs.following.turn_along.Goals as goal
use Rattle.fa_show.proofs.following.turn_along.Goals.{in-Ok+in_ok-take-in-Ok+in_ok-push-in-Ok, in-Err-BySession}

pub accept-requires : goal.accept-requires
accept-requires c =
    let (before, held) = c.requires.held in
    let now = c.loop.invariant.on before held in
    let here = before ++ map message c.loop.since.items in
    let few : length here < MAX_MESSAGES = omega (arith, c.if-len-ge-MAX_MESSAGES.false, c.len.ensures here now.shown.behind) in
    (here, now.shown, few)

pub rewound-requires : goal.rewound-requires
rewound-requires c =
    let (before, held) = c.requires.held in
    let now = c.loop.invariant.on before held in
    (before, held.shown.in_session, omega (arith, now.few, length-append before (map message c.loop.since.items), length-map c.loop.since.items message, c.deref.ensures.len))

pub returns-in-Err-Behind : goal.returns-in-Err-Behind
returns-in-Err-Behind c =
    let (before, held) = c.requires.held in
    let now = c.loop.invariant.on before held in
    let here = before ++ map message c.loop.since.items in (
      here,
      record {
        shown = record {
          in_session = rw c.deref.ensures.value at (c.in_ok-rewound-in-Err-Behind.ensures before held.shown.in_session);
          behind = subst (λ (s : PlainStanding). ShowsStanding here s) (sym c.in-Err-Behind.ensures.kept) now.shown.behind;
        };
        few = now.few;
      },
    )

pub loop-preserved : goal.loop-preserved
loop-preserved c =
    let few : c.len.result < MAX_MESSAGES = omega (arith, c.if-len-ge-MAX_MESSAGES.false) in
    elim c.match-accept.branch [
      | in-Ok+in_ok-take-in-Ok+in_ok-push-in-Ok w ↦
          let after : c.match-accept.since.items ≡ c.loop.since.items ++ c.in-Some.packet ∷ [] = rw w.since-is w.in_ok-push-in-Ok.ensures.items in
          subst (λ x. Follows c.args.parked.now c.args.standing.now x c.accept.new.session c.accept.new.standing) (sym after)
          (follows_one _ _ c.loop.since.items c.in-Some.packet _ _ _ _ c.len.result c.len.ensures few w.in-Ok.ensures.shows c.loop.invariant)
      | in-Err-BySession w ↦
          let after : c.match-accept.since.items ≡ c.loop.since.items = rw w.since-is in
          follows_on _ _ c.loop.since.items _ _ _ _ _ after ((rw w.in-Err-BySession.field-0-is at w.in-Err-BySession.ensures.session) tt) w.in-Err-BySession.ensures.kept c.loop.invariant
    ]
