-- Names that stand for themselves.
use Rattle.std.proofs.Common.{◌≡◌, ℕ, List, [], ◌∷◌, length, All, inl, inr, sym, ap, ◌∙◌, arith}
use Rattle.std.proofs.lemmas.Bool.{cases_lt}
use Rattle.std.proofs.lemmas.List.{get_or_past}
use Rattle.std.proofs.lemmas.List.Elements.{All-head, All-tail, All-weaker}
use Rattle.percent_encoding.specs.Percent.{percent_decode}
use Rattle.percent_encoding.proofs.PercentLemmas.{percent_decode-nil, percent_decode_not_percent}
use Rattle.fa_tree_text.specs.Paths.{IsSpelledByte, HasWholeEscapes}
use Rattle.fa_tree_text.specs.parts.Unescaped.{IsUnescapedByte}

-- they decode to what they are
pub unescaped_decodes : (bs : List ℕ) → All IsUnescapedByte bs → percent_decode bs ≡ bs
unescaped_decodes [] are = percent_decode-nil
unescaped_decodes (b ∷ bs) are = percent_decode_not_percent b bs (All-head IsUnescapedByte b bs are).1 ∙ ap (λ x. b ∷ x) (unescaped_decodes bs (All-tail IsUnescapedByte b bs are))

pub unescaped_spelled : (bs : List ℕ) → All IsUnescapedByte bs → All IsSpelledByte bs
unescaped_spelled bs are = All-weaker IsUnescapedByte IsSpelledByte (λ b is. is.0) bs are

-- no escape begins in them
pub unescaped_whole : (bs : List ℕ) → All IsUnescapedByte bs → HasWholeEscapes bs
unescaped_whole bs are place is = absurd (elim (cases_lt place (length bs)) [
  | inl within ↦ (are place 0 within).1 is
  | inr past ↦ let clash : 0 ≡ 37 = sym (get_or_past bs place 0 past) ∙ is in omega (arith, clash)
])
