-- What pulls give, and what the loop that reads a whole input keeps.
use Rattle.std.proofs.Common.{◌≡◌, ℕ, ◌+◌, ◌≤◌, ◌<◌, Bool, false, List, [], ◌++◌, Option, None, Some, length, take, refl, sym, ap, ◌∙◌, arith, append_assoc, take-add, take-take, take_all, take_at, drop_at, length-take-le}
use Rattle.std.proofs.lemmas.List.{take-append-le, nil_from_length}
use Rattle.std.specs.Io.KnownBytes.{Consumes, Keeps}
use Rattle.fa_capture.specs.Streams.{pulled_count, IsWithin, Pulls, PullsPiece}
use Rattle.fa_capture.specs.declared.fault.CaptureFault.{CaptureFault}
use Rattle.fa_capture.specs.declared.input.Pull.{Pull}
use Rattle.fa_capture.specs.declared.input.Pull.TheVariants.{Got, Interrupted, Failed}

-- These bytes came in so many pulls, and none failed. A pull that was not interrupted gave a byte or more.
pub record IsPulled (old new : Option (List ℕ)) (bytes : List ℕ) (failed interrupted : Bool) (pulls limit : ℕ) : Type 0 where
  pub taken : Consumes old new bytes
  pub within : length bytes ≤ limit
  pub unfailed : failed ≡ false
  pub counted : interrupted ≡ false → pulls ≤ length bytes

-- what a pull put behind the first bytes, where all behind it is cut off
pub cut_behind : (bytes into post more : List ℕ) (len n most : ℕ) → len ≤ length bytes → n ≤ length into → len + n ≤ most
    → take (len + n) (take most (take len bytes ++ (into ++ post) ++ more)) ≡ take len bytes ++ take n into
cut_behind bytes into post more len n most within bound room =
    let front : length (take len bytes) ≡ len = length-take-le len bytes within in
    let after : List ℕ = into ++ (post ++ more) in
    let back : take n after ≡ take n into = take-append-le n into (post ++ more) bound in
    take-take (len + n) most (take len bytes ++ (into ++ post) ++ more) room
    ∙ ap (take (len + n)) (append_assoc (take len bytes) (into ++ post) more ∙ ap (λ (l : List ℕ). take len bytes ++ l) (append_assoc into post more))
    ∙ take-add len n (take len bytes ++ after)
    ∙ (rw (take_at (take len bytes) after _ front, drop_at (take len bytes) after _ front, back) refl)

-- the first bytes stay where others are put behind them
pub front_stays : (xs filled zs : List ℕ) (len more : ℕ) → len ≡ length xs → filled ≡ take (len + more) xs ++ zs → take len filled ≡ xs
front_stays xs filled zs len more whole is =
    ap (take len) (is ∙ ap (λ (l : List ℕ). l ++ zs) (take_all (len + more) xs (omega (arith, whole)))) ∙ take_at xs zs len (sym whole)

-- where no byte was pulled the input has what it had
none_taken : (old new : Option (List ℕ)) → Keeps old new → Consumes old new []
none_taken None new kept = tt
none_taken (Some xs) None kept = absurd kept
none_taken (Some xs) (Some ys) kept = sym kept

-- the first of the bytes that were put
pub piece_pulled : (old new : Option (List ℕ)) (pull : Pull) (into : List ℕ) → 0 < length into → IsWithin pull into → Pulls old new pull into → PullsPiece old new pull (take (pulled_count pull) into)
piece_pulled old new (Got n) into some bound pulls = record { taken = pulls.0; counted = length-take-le n into bound; end = λ none. pulls.1 (ap pulled_count none) some }
piece_pulled old new Interrupted into some bound pulls = record { taken = none_taken old new pulls; counted = refl; end = λ none. absurd cc }
piece_pulled old new Failed into some bound pulls = record { taken = none_taken old new pulls; counted = refl; end = λ none. absurd cc }

pub count_within : (pull : Pull) (into : List ℕ) → IsWithin pull into → pulled_count pull ≤ length into
count_within (Got n) into bound = bound
count_within Interrupted into bound = omega arith
count_within Failed into bound = omega arith

-- no byte comes where none is counted
pub none_pulled : (pull : Pull) (piece : List ℕ) → ((n : ℕ) → pull ≡ Got n → ⊥) → length piece ≡ pulled_count pull → piece ≡ []
none_pulled (Got n) piece other counted = absurd (other n refl)
none_pulled Interrupted piece other counted = nil_from_length piece counted
none_pulled Failed piece other counted = nil_from_length piece counted

pub never_told : (told : Option CaptureFault) → ((fault : CaptureFault) → told ≡ Some fault → ⊥) → told ≡ None
never_told None never = refl
never_told (Some fault) never = absurd (never fault refl)
