-- A watch, pull by pull.
use Rattle.std.proofs.Common.{◌≡◌, ℕ, ◌+◌, ◌<◌, ◌≤◌, Bool, true, false, List, [], ◌++◌, length, Option, refl, sym, ap, subst, ◌∙◌, inl, inr, arith}
use Rattle.std.specs.Prelude.{◌||◌}
use Rattle.std.specs.Io.KnownBytes.{Consumes, Keeps, IsAtEnd}
use Rattle.std.proofs.Math.Bool.{or-false, or-true}
use Rattle.std.proofs.lemmas.Bool.{true≢false}
use Rattle.std.proofs.lemmas.List.{append-nil, length-append}
use Rattle.fa_capture.specs.Message.{without_times}
use Rattle.fa_capture.proofs.CallerLemmas.{recording_is_short, nothing_yet}
use Rattle.fa_session.specs.Plain.{PlainSession}
use Rattle.fa_watch.specs.declared.stream.Stream.{Stream}
use Rattle.fa_watch.specs.declared.watching.Seen.{Seen}
use Rattle.fa_watch.specs.declared.watching.TheConstants.{MAX_PULLS}
use Rattle.fa_watch.specs.Watched.{IsSeen, HaveNoFault, IsWatched}
use Rattle.fa_watch.specs.parts.Streams.{HasBeen, IsReadFurther, IsSeenAtOnce}
use Rattle.fa_watch.specs.parts.Watching.{IsSoFar}
use Rattle.fa_watch.proofs.InputLemmas.{consumes_nothing, consumes_more, consumes_none}

-- What the loop keeps: where a watch had come so far it has come so far now, once bytes were taken a pull was made, and a pull has room.
pub record ReadsOn (Before Now : Option (List ℕ) → Type 0) (before pulls taken : ℕ) (piece : List ℕ) : Type 0 where
  pub on : (first : Option (List ℕ)) → Before first → Now first
  pub no_fewer : before ≤ pulls
  pub moved : 0 < taken → before < pulls
  pub within : pulls ≤ MAX_PULLS
  pub room : length piece ≡ 65536

module _ (first now : Option (List ℕ)) (stream : Stream) (session : PlainSession) (failed interrupted : Bool) (pulls : ℕ) (so_far : IsSoFar first now stream session failed interrupted pulls) where
  -- what was read has no fault
  faultless : HaveNoFault so_far.bytes
  faultless = record {
    messages = without_times so_far.rs;
    framing = stream.incoming.fault;
    read = (so_far.rs, refl, so_far.been.come.recording);
    good = so_far.been.shown.behind.good;
    opens = so_far.opens;
  }

  -- the end
  pub seen_at_end : (then : Option (List ℕ)) (none : List ℕ) (seen : Seen) → none ≡ [] → Consumes now then none → IsAtEnd then → IsSeen so_far.bytes seen → IsWatched first then seen
  seen_at_end then none seen nothing read end is =
      let all : so_far.bytes ++ none ≡ so_far.bytes = ap (λ (x : List ℕ). so_far.bytes ++ x) nothing ∙ append-nil so_far.bytes in
      record {
        before = so_far.bytes;
        piece = none;
        read = consumes_more first now then so_far.bytes none so_far.read read;
        is_seen = subst (λ (b : List ℕ). IsSeen b seen) (sym all) is;
        whole = inl end;
        faultless = faultless;
        short = omega (arith, ap length nothing);
      }

  -- a fault
  pub seen_told : (then : Option (List ℕ)) (piece : List ℕ) (seen : Seen) → Consumes now then piece → length piece ≤ 65536 → IsSeenAtOnce (so_far.bytes ++ piece) seen → IsWatched first then seen
  seen_told then piece seen read few told = record {
    before = so_far.bytes;
    piece = piece;
    read = consumes_more first now then so_far.bytes piece so_far.read read;
    is_seen = told.now;
    whole = inr told.stays;
    faultless = faultless;
    short = few;
  }

  -- a piece without one
  pub piece_more : (then : Option (List ℕ)) (piece : List ℕ) (stood : Stream) (next : PlainSession) (failed_then interrupted_then : Bool) → Consumes now then piece → 0 < length piece → IsReadFurther (so_far.bytes ++ piece) so_far.rs stood next
      → failed_then ≡ (failed || false) → interrupted_then ≡ (interrupted || false) → IsSoFar first then stood next failed_then interrupted_then (pulls + 1)
  piece_more then piece stood next failed_then interrupted_then read some on failed_is interrupted_is =
      let long : length (so_far.bytes ++ piece) ≡ length so_far.bytes + length piece = length-append so_far.bytes piece in
      record {
        bytes = so_far.bytes ++ piece;
        rs = so_far.rs ++ on.more;
        read = consumes_more first now then so_far.bytes piece so_far.read read;
        been = on.been;
        opens = on.opens;
        short = recording_is_short (so_far.bytes ++ piece) (so_far.rs ++ on.more) stood.incoming.fault on.been.come.recording on.opens;
        unfailed = failed_is ∙ or-false failed ∙ so_far.unfailed;
        counted = λ calm. let pulled = so_far.counted (sym (interrupted_is ∙ or-false interrupted) ∙ calm) in omega (arith, pulled, long, some);
      }

  -- an interrupted pull
  pub none_more : (then : Option (List ℕ)) (failed_then interrupted_then : Bool) → Keeps now then → failed_then ≡ (failed || false) → interrupted_then ≡ (interrupted || true)
      → IsSoFar first then stream session failed_then interrupted_then (pulls + 1)
  none_more then failed_then interrupted_then kept failed_is interrupted_is = record {
    bytes = so_far.bytes;
    rs = so_far.rs;
    read = consumes_none first now then so_far.bytes so_far.read kept;
    been = so_far.been;
    opens = so_far.opens;
    short = so_far.short;
    unfailed = failed_is ∙ or-false failed ∙ so_far.unfailed;
    counted = λ calm. absurd (true≢false (sym (interrupted_is ∙ or-true interrupted) ∙ calm));
  }

-- ---- from one generation to the next

-- nothing was read
pub nothing_so_far : (first : Option (List ℕ)) (stream : Stream) (session : PlainSession) (failed interrupted : Bool) → HasBeen [] [] stream session → failed ≡ false → IsSoFar first first stream session failed interrupted 0
nothing_so_far first stream session failed interrupted been unfailed = record {
  bytes = [];
  rs = [];
  read = consumes_nothing first;
  been = been;
  opens = nothing_yet.1;
  short = omega arith;
  unfailed = unfailed;
  counted = λ calm. omega arith;
}

-- the session is put aside
pub put_aside : (first now : Option (List ℕ)) (stream : Stream) (session other : PlainSession) (failed interrupted : Bool) (pulls : ℕ) → session ≡ other
    → IsSoFar first now stream session failed interrupted pulls → IsSoFar first now stream other failed interrupted pulls
put_aside first now stream session other failed interrupted pulls same so_far = subst (λ (s : PlainSession). IsSoFar first now stream s failed interrupted pulls) same so_far
