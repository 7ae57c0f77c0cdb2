-- A capture that an input holds: what the loop keeps that feeds it in pieces, and what it comes to.
use Rattle.std.proofs.Common.{◌≡◌, ◌≢◌, ℕ, zero, suc, ◌+◌, ◌<◌, ◌≤◌, Bool, false, List, ◌++◌, length, Option, None, Some, IfSome, refl, sym, ap, subst, ◌∙◌, arith}
use Rattle.std.specs.Prelude.{◌||◌}
use Rattle.std.specs.Io.KnownBytes.{Consumes, IsAtEnd}
use Rattle.std.proofs.Math.Bool.{or-false, or-true}
use Rattle.std.proofs.lemmas.Bool.{true≢false}
use Rattle.std.proofs.lemmas.List.{append-nil, length-append}
use Rattle.fa_capture.specs.declared.capture.Capture.{Capture}
use Rattle.fa_capture.specs.declared.fault.CaptureFault.{CaptureFault}
use Rattle.fa_capture.specs.declared.input.TheConstants.{MAX_READ_LIMIT}
use Rattle.fa_capture.specs.Captures.{IsCaptureOf}
use Rattle.fa_capture.specs.Pieces.{IsDecided, PlainFeed}
use Rattle.fa_capture.specs.Streams.{is_failed, is_interrupted, pulled_count, PullsPiece}
use Rattle.fa_capture.specs.declared.input.Pull.{Pull}
use Rattle.fa_capture.specs.declared.input.Pull.TheVariants.{Got, Interrupted, Failed}
use Rattle.fa_capture.proofs.CallerLemmas.{decided_capture}
use Rattle.fa_watch.proofs.CallerLemmas.{consumes_more}
use Rattle.fa_audit.specs.Run.{AreBytesOf}

-- ---- the loop

-- The feed took the bytes that came in so many pulls, and told no fault; none failed. A pull that was not interrupted gave a byte or more.
pub record IsFedSoFar (old new : Option (List ℕ)) (feed : PlainFeed) (failed interrupted : Bool) (pulls : ℕ) : Type 0 where
  pub taken : Consumes old new feed.bytes
  pub untold : feed.told ≡ None
  pub short : length feed.bytes < MAX_READ_LIMIT + 65536
  pub unfailed : failed ≡ false
  pub counted : interrupted ≡ false → pulls ≤ length feed.bytes

-- bytes that a feed takes
pub taken_more : (old mid new : Option (List ℕ)) (feed fed : PlainFeed) (more : List ℕ) (told : Option CaptureFault) → Consumes old mid feed.bytes → Consumes mid new more
    → fed ≡ record { bytes = feed.bytes ++ more; told = told } → Consumes old new fed.bytes
taken_more old mid new feed fed more told taken next is =
    subst (λ (f : PlainFeed). Consumes old new f.bytes) (sym is) (consumes_more old mid new feed.bytes more taken next)

-- a pull more, which did not fail and was not the end
pub fed_more : (old mid new : Option (List ℕ)) (feed fed : PlainFeed) (pull : Pull) (piece : List ℕ) (failed failed_then interrupted interrupted_then : Bool) (pulls : ℕ)
    → IsFedSoFar old mid feed failed interrupted pulls → PullsPiece mid new pull piece → fed ≡ record { bytes = feed.bytes ++ piece; told = None }
    → length fed.bytes < MAX_READ_LIMIT + 65536 → pull ≢ Got 0 → pull ≢ Failed → failed_then ≡ (failed || is_failed pull) → interrupted_then ≡ (interrupted || is_interrupted pull)
    → IsFedSoFar old new fed failed_then interrupted_then (pulls + 1)
fed_more old mid new feed fed pull piece failed failed_then interrupted interrupted_then pulls so_far pulled is few some well failed_is interrupted_is =
    let bytes : fed.bytes ≡ feed.bytes ++ piece = ap (λ (f : PlainFeed). f.bytes) is in
    let long : length fed.bytes ≡ length feed.bytes + length piece = ap length bytes ∙ length-append feed.bytes piece in
    record {
      taken = taken_more old mid new feed fed piece None so_far.taken pulled.taken is;
      untold = ap (λ (f : PlainFeed). f.told) is;
      short = few;
      unfailed = failed_is ∙ ap (λ (b : Bool). failed || b) (unfailed pull well) ∙ or-false failed ∙ so_far.unfailed;
      counted = λ calm. counted pull pulled.counted some well (sym interrupted_is ∙ calm) so_far.counted long;
    }
  where
    unfailed : (pull : Pull) → pull ≢ Failed → is_failed pull ≡ false
    unfailed (Got n) well = refl
    unfailed Interrupted well = refl
    unfailed Failed well = absurd (well refl)

    counted : (pull : Pull) → length piece ≡ pulled_count pull → pull ≢ Got 0 → pull ≢ Failed → (interrupted || is_interrupted pull) ≡ false → (interrupted ≡ false → pulls ≤ length feed.bytes)
        → length fed.bytes ≡ length feed.bytes + length piece → pulls + 1 ≤ length fed.bytes
    counted (Got zero) one some well calm before long = absurd (some refl)
    counted (Got (suc n)) one some well calm before long = let pulled = before (sym (or-false interrupted) ∙ calm) in omega (arith, pulled, long, one)
    counted Interrupted one some well calm before long = absurd (true≢false (sym (or-true interrupted) ∙ calm))
    counted Failed one some well calm before long = absurd (well refl)

-- ---- what is stored

-- the bytes of the capture where its input came to its end
pub whole_stored : (old new : Option (List ℕ)) (fed : List ℕ) → Consumes old new fed → IsAtEnd new → IfSome old (λ bytes. (capture : Capture) → IsCaptureOf fed capture → IsCaptureOf bytes capture)
whole_stored None new fed taken end = tt
whole_stored (Some xs) None fed taken end = absurd taken
whole_stored (Some xs) (Some ys) fed taken end = λ capture is.
    let same : xs ≡ fed = taken ∙ ap (λ (l : List ℕ). fed ++ l) end ∙ append-nil fed in
    subst (λ (bytes : List ℕ). IsCaptureOf bytes capture) (sym same) is

-- and where a framing fault was decided
pub fault_stored : (old new : Option (List ℕ)) (fed : List ℕ) (fault : CaptureFault) → Consumes old new fed → IsDecided fed fault
    → IfSome old (λ bytes. (capture : Capture) → IsCaptureOf fed capture → IsCaptureOf bytes capture)
fault_stored None new fed fault taken decided = tt
fault_stored (Some xs) None fed fault taken decided = absurd taken
fault_stored (Some xs) (Some ys) fed fault taken decided = λ capture is.
    subst (λ (bytes : List ℕ). IsCaptureOf bytes capture) (sym taken) (decided_capture fed ys fault capture decided is)

-- the bytes that a capture is of that was stored
pub bytes_stored : (remaining : Option (List ℕ)) (stored : List ℕ) (capture : Capture) → IfSome remaining (λ bytes. (other : Capture) → IsCaptureOf stored other → IsCaptureOf bytes other)
    → IsCaptureOf stored capture → (bytes : List ℕ) × AreBytesOf remaining bytes × IsCaptureOf bytes capture
bytes_stored None stored capture reads is = (stored, tt, is)
bytes_stored (Some bytes) stored capture reads is = (bytes, refl, reads capture is)
