-- Messages taken one after the other by a session and by what stands behind them.
use Rattle.std.proofs.Common.{◌≡◌, ℕ, ◌+◌, ◌<◌, ◌≤◌, List, [], ◌∷◌, ◌++◌, length, map, take, get_or, sym, ap, subst, ◌∙◌, append_assoc, arith}
use Rattle.std.proofs.lemmas.List.{append-nil, length-append, length-map, length-take, map-append, take_all, take_more}
use Rattle.fa_capture.specs.declared.limits.TheConstants.{MAX_MESSAGES}
use Rattle.fa_capture.specs.declared.packet.Packet.{Packet}
use Rattle.fa_capture.specs.Message.{Message, message}
use Rattle.fa_session.specs.Allowed.{IsAllowed}
use Rattle.fa_session.specs.Events.{PlainEvent, IsEvent}
use Rattle.fa_session.specs.Plain.{PlainSession}
use Rattle.fa_session.specs.Shows.{Shows}
use Rattle.fa_ledger.specs.Standing.{PlainStanding, ShowsStanding, IsNextBehind}
use Rattle.fa_show.specs.parts.Following.{AreShown, IsHeld}

-- the next event of a session is the next one behind the messages
pub next_behind : (c : List Message) (m : Message) (s : PlainSession) (l : PlainStanding) (e : PlainEvent) → AreShown c s l → length c < MAX_MESSAGES → IsAllowed c m → IsEvent c m e → IsNextBehind c m l e
next_behind c m s l e both few allowed event = record { shows = both.behind; few = few; allowed = allowed; event = event }

-- the messages behind some, and one more
messages_on : (c : List Message) (ps : List Packet) (p : Packet) → c ++ map message (ps ++ p ∷ []) ≡ (c ++ map message ps) ++ message p ∷ []
messages_on c ps p = ap (λ (x : List Message). c ++ x) (map-append message ps (p ∷ [])) ∙ sym (append_assoc c (map message ps) (message p ∷ []))

-- These messages were taken once more by the session that was put aside.
pub record IsReplayed (parked : PlainSession) (front : List Packet) (session : PlainSession) : Type 0 where
  pub shown : (c : List Message) → Shows c parked → Shows (c ++ map message front) session

-- none was taken
pub replays_none : (parked : PlainSession) (session : PlainSession) → session ≡ parked → IsReplayed parked [] session
replays_none parked session same = record {
  shown = λ c shows. subst (λ (x : List Message). Shows x session) (sym (append-nil c)) (subst (λ (s : PlainSession). Shows c s) (sym same) shows);
}

-- a message more may come
pub replay_few : (parked : PlainSession) (since : List Packet) (i : ℕ) (session : PlainSession) (c : List Message) → i < length since → Shows c parked → length c + length since ≤ MAX_MESSAGES
    → IsReplayed parked (take i since) session → session.messages < MAX_MESSAGES
replay_few parked since i session c more shows few on =
    let front = take i since in
    let counted = (on.shown c shows).counted in
    let sum : length (c ++ map message front) ≡ length c + length (map message front) = length-append c (map message front) in
    omega (arith, counted, sum, few, more, length-map front message, length-take i since)

-- one was
pub replays_one : (parked : PlainSession) (since : List Packet) (i : ℕ) (d : Packet) (session then : PlainSession) → i < length since
    → ((c : List Message) → Shows c session → Shows (c ++ message (get_or since i d) ∷ []) then) → IsReplayed parked (take i since) session → IsReplayed parked (take (i + 1) since) then
replays_one parked since i d session then more takes on = record {
  shown = λ c shows.
      let front = take i since in
      subst (λ (x : List Packet). Shows (c ++ map message x) then) (sym (take_more since i d more))
      (subst (λ (x : List Message). Shows x then) (sym (messages_on c front (get_or since i d))) (takes (c ++ map message front) (on.shown c shows)));
}

-- all were
pub replayed : (parked : PlainSession) (since : List Packet) (i : ℕ) (session next : PlainSession) → length since ≤ i → next ≡ session → IsReplayed parked (take i since) session
    → (c : List Message) → Shows c parked → Shows (c ++ map message since) next
replayed parked since i session next end same on c shows =
    subst (λ (s : PlainSession). Shows (c ++ map message since) s) (sym same)
    (subst (λ (x : List Packet). Shows (c ++ map message x) session) (take_all i since end) (on.shown c shows))

-- What a turn has come to: the messages behind which the session was put aside, and those since, are held.
pub record Follows (parked : PlainSession) (begun : PlainStanding) (since : List Packet) (session : PlainSession) (standing : PlainStanding) : Type 0 where
  pub on : (c : List Message) → IsHeld c parked begun → IsHeld (c ++ map message since) session standing

-- none came
pub follows_none : (parked : PlainSession) (begun : PlainStanding) (session : PlainSession) → session ≡ parked → Follows parked begun [] session begun
follows_none parked begun session same = record {
  on = λ c held. subst (λ (x : List Message). IsHeld x session begun) (sym (append-nil c)) (subst (λ (s : PlainSession). IsHeld c s begun) (sym same) held);
}

-- one came
pub follows_one : (parked : PlainSession) (begun : PlainStanding) (since : List Packet) (p : Packet) (session then : PlainSession) (standing stood : PlainStanding) (taken : ℕ)
    → ((c : List Message) → ShowsStanding c standing → taken ≡ length c) → taken < MAX_MESSAGES
    → ((c : List Message) → AreShown c session standing → length c < MAX_MESSAGES → AreShown (c ++ message p ∷ []) then stood)
    → Follows parked begun since session standing → Follows parked begun (since ++ p ∷ []) then stood
follows_one parked begun since p session then standing stood taken counts few takes follows = record {
  on = λ c held.
      let before = follows.on c held in
      let here = c ++ map message since in
      let short : length here < MAX_MESSAGES = omega (arith, counts here before.shown.behind, few) in
      subst (λ (x : List Message). IsHeld x then stood) (sym (messages_on c since p)) (record {
        shown = takes here before.shown short;
        few = omega (arith, short, length-append here (message p ∷ []));
      });
}

-- one came that the session refuses, and all is as it was
pub follows_on : (parked : PlainSession) (begun : PlainStanding) (since after : List Packet) (session then : PlainSession) (standing stood : PlainStanding) → after ≡ since → then ≡ session → stood ≡ standing
    → Follows parked begun since session standing → Follows parked begun after then stood
follows_on parked begun since after session then standing stood kept same stands follows =
    subst (λ (x : List Packet). Follows parked begun x then stood) (sym kept)
    (subst (λ (s : PlainSession). Follows parked begun since s stood) (sym same) (subst (λ (s : PlainStanding). Follows parked begun since session s) (sym stands) follows))
