-- What spells the bytes of a file spells them alone.
use Rattle.std.proofs.Common.{◌≡◌, ◌≢◌, ℕ, true, false, List, [], ◌∷◌, length, Option, Some, None, inl, inr, sym, ap, subst, ◌∙◌, arith}
use Rattle.std.specs.Prelude.{codes}
use Rattle.std.proofs.lemmas.List.Elements.{All-cons, All-nil, All-weaker}
use Rattle.hex.specs.Hex.{is_hex_digit}
use Rattle.hex.proofs.HexLemmas.{decode_of-ok, decode_of-same}
use Rattle.fa_bodies.specs.declared.mode.Kind.{Kind}
use Rattle.fa_bodies.specs.declared.mode.Kind.TheVariants.{Fifo, CharDevice, Directory, BlockDevice, Regular, Symlink, Socket}
use Rattle.fa_tree_text.specs.TreeLines.{SpellsBytes, SpellsBody, body_text}
use Rattle.fa_bodies.specs.Names.{LacksByte}

one_bytes : (spelled : Option (List ℕ)) (a b : List ℕ) → SpellsBytes spelled a → SpellsBytes spelled b → a ≡ b
one_bytes None a b is too = absurd is
one_bytes (Some digits) a b is too = decode_of-same digits a b is.1 too.1

-- `-` is no digits
no_digits : (spelled : Option (List ℕ)) (a : List ℕ) → SpellsBytes spelled a → spelled ≡ Some (codes "-") → ⊥
no_digits None a is e = is
no_digits (Some digits) a is e =
    let same : digits ≡ 45 ∷ [] = cc in
    let short : length digits ≡ 1 = ap length same in
    omega (arith, is.0, short)

pub one_spelled_body : (kind : Kind) (spelled : Option (List ℕ)) (a b : List ℕ) → SpellsBody kind spelled a → SpellsBody kind spelled b → a ≡ b
one_spelled_body Regular spelled a b (inl is) (inl too) = one_bytes spelled a b is too
one_spelled_body Regular spelled a b (inl is) (inr too) = absurd (no_digits spelled a is too.0)
one_spelled_body Regular spelled a b (inr is) (inl too) = absurd (no_digits spelled b too is.0)
one_spelled_body Regular spelled a b (inr is) (inr too) = is.1 ∙ sym too.1
one_spelled_body Symlink spelled a b is too = one_bytes spelled a b is too
one_spelled_body Directory spelled a b is too = is.1 ∙ sym too.1
one_spelled_body Fifo spelled a b is too = is.1 ∙ sym too.1
one_spelled_body CharDevice spelled a b is too = is.1 ∙ sym too.1
one_spelled_body BlockDevice spelled a b is too = is.1 ∙ sym too.1
one_spelled_body Socket spelled a b is too = is.1 ∙ sym too.1

-- ---- no line feed

-- a line feed is no hexadecimal digit
feed_no_digit : (b : ℕ) → is_hex_digit b ≡ true → b ≢ 10
feed_no_digit b is e = let no : is_hex_digit b ≡ false = ap is_hex_digit e in cc

no_feed_body : (b : Option (List ℕ)) (bytes : List ℕ) → SpellsBytes b bytes → LacksByte 10 (body_text b)
no_feed_body None bytes is = absurd is
no_feed_body (Some digits) bytes is =
    All-cons (λ b. b ≢ 10) 32 digits (λ e. omega (arith, e)) (All-weaker (λ b. is_hex_digit b ≡ true) (λ b. b ≢ 10) feed_no_digit digits (decode_of-ok digits bytes is.1).1)

no_feed_none : (spelled : Option (List ℕ)) → spelled ≡ None → LacksByte 10 (body_text spelled)
no_feed_none None e = All-nil (λ b. b ≢ 10)
no_feed_none (Some digits) e = absurd cc

no_feed_dash : (spelled : Option (List ℕ)) → spelled ≡ Some (codes "-") → LacksByte 10 (body_text spelled)
no_feed_dash None e = absurd cc
no_feed_dash (Some digits) e =
    let same : 45 ∷ [] ≡ digits = cc in
    subst (λ (d : List ℕ). LacksByte 10 (32 ∷ d)) same (All-cons (λ b. b ≢ 10) 32 (45 ∷ []) (λ e. omega (arith, e)) (All-cons (λ b. b ≢ 10) 45 [] (λ e. omega (arith, e)) (All-nil (λ b. b ≢ 10))))

pub body_no_feed : (kind : Kind) (spelled : Option (List ℕ)) (body : List ℕ) → SpellsBody kind spelled body → LacksByte 10 (body_text spelled)
body_no_feed Regular spelled body (inl is) = no_feed_body spelled body is
body_no_feed Regular spelled body (inr is) = no_feed_dash spelled is.0
body_no_feed Symlink spelled body is = no_feed_body spelled body is
body_no_feed Directory spelled body is = no_feed_none spelled is.0
body_no_feed Fifo spelled body is = no_feed_none spelled is.0
body_no_feed CharDevice spelled body is = no_feed_none spelled is.0
body_no_feed BlockDevice spelled body is = no_feed_none spelled is.0
body_no_feed Socket spelled body is = no_feed_none spelled is.0
