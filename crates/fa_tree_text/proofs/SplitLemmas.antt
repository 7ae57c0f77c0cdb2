-- Bytes are split at the first byte of a value in one way, and at the last.
use Rattle.std.proofs.Common.{◌≡◌, ◌≢◌, ℕ, ◌+◌, ◌<◌, List, [], ◌∷◌, ◌++◌, length, get_or, refl, ap, ◌∙◌, arith}
use Rattle.std.proofs.Math.Seq.{get_or-append_seam}
use Rattle.std.proofs.lemmas.List.{length-append}
use Rattle.std.proofs.lemmas.List.Elements.{All-tail}
use Rattle.fa_bodies.specs.Names.{LacksByte}

-- what has the byte does not lack it
pub no_split : (byte : ℕ) (bytes front rest : List ℕ) → LacksByte byte bytes → bytes ≡ front ++ byte ∷ rest → ⊥
no_split byte bytes front rest lacks e =
    let sum : length (front ++ byte ∷ rest) ≡ length front + length (byte ∷ rest) = length-append front (byte ∷ rest) in
    let same : length bytes ≡ length (front ++ byte ∷ rest) = ap length e in
    let within : length front < length bytes = omega arith in
    lacks (length front) 0 within (ap (λ (s : List ℕ). get_or s (length front) 0) e ∙ get_or-append_seam front byte rest 0)

-- two fronts without the byte
pub one_split : (byte : ℕ) (x y a b : List ℕ) → LacksByte byte x → LacksByte byte y → x ++ byte ∷ a ≡ y ++ byte ∷ b → (x ≡ y) × (a ≡ b)
one_split byte [] [] a b p q e = (refl, cc)
one_split byte [] (d ∷ y) a b p q e = let first : d ≡ byte = cc in absurd (q 0 0 (omega arith) first)
one_split byte (c ∷ x) [] a b p q e = let first : c ≡ byte = cc in absurd (p 0 0 (omega arith) first)
one_split byte (c ∷ x) (d ∷ y) a b p q e =
    let first : c ≡ d = cc in
    let later : x ++ byte ∷ a ≡ y ++ byte ∷ b = cc in
    let others = one_split byte x y a b (All-tail (λ n. n ≢ byte) c x p) (All-tail (λ n. n ≢ byte) d y q) later in
    (rw (first, others.0) refl, others.1)

-- two rests without the byte
pub one_last_split : (byte : ℕ) (x y a b : List ℕ) → LacksByte byte a → LacksByte byte b → x ++ byte ∷ a ≡ y ++ byte ∷ b → (x ≡ y) × (a ≡ b)
one_last_split byte [] [] a b p q e = (refl, cc)
one_last_split byte [] (d ∷ y) a b p q e = let behind : a ≡ y ++ byte ∷ b = cc in absurd (no_split byte a y b p behind)
one_last_split byte (c ∷ x) [] a b p q e = let behind : b ≡ x ++ byte ∷ a = cc in absurd (no_split byte b x a q behind)
one_last_split byte (c ∷ x) (d ∷ y) a b p q e =
    let first : c ≡ d = cc in
    let later : x ++ byte ∷ a ≡ y ++ byte ∷ b = cc in
    let others = one_last_split byte x y a b p q later in
    (rw (first, others.0) refl, others.1)
