use Rattle.std.proofs.Common.{◌≡◌, ℕ, zero, suc, ◌<◌, List, ◌∷◌, length, take, get_or, inl, inr, sym, ap, subst, ◌∙◌, arith}
use Rattle.std.proofs.lemmas.List.{get_or-take, get_or_past, length-take, ext_get_or}
use Rattle.std.proofs.lemmas.Bool.{cases_lt}
use Rattle.std.proofs.lemmas.Bool.Decides.{Decides-eqb}
use Rattle.std.proofs.lemmas.Slice.Eq.{slice_eq-Decides}
use Rattle.fa_store.proofs.page.are_zeros.Goals as goal

module _ (first : ℕ) (rest : List ℕ) where
  -- where each number is what the one before it is, all are what the first is
  alike : first ≡ 0 → rest ≡ take (length rest) (first ∷ rest) → (i : ℕ) → get_or (first ∷ rest) i 0 ≡ 0
  alike is_zero same zero = is_zero
  alike is_zero same (suc i) = elim (cases_lt i (length rest)) [
    | inl within ↦ ap (λ l. get_or l i 0) same ∙ (get_or-take (length rest) (first ∷ rest) i 0 within ∙ alike is_zero same i)
    | inr past ↦ get_or_past rest i 0 past
  ]

  -- and where all are zeros, each is what the one before it is
  shifted : ((i : ℕ) → i < length (first ∷ rest) → get_or (first ∷ rest) i 0 ≡ 0) → rest ≡ take (length rest) (first ∷ rest)
  shifted zeros =
      let size : length (take (length rest) (first ∷ rest)) ≡ length rest = simp length-take (omega arith) in
      ext_get_or 0 rest (take (length rest) (first ∷ rest)) (sym size)
      (λ i within. zeros (suc i) (omega (arith, within)) ∙ sym (get_or-take (length rest) (first ∷ rest) i 0 within ∙ zeros i (omega (arith, within))))

pub returns-then-first-eq0 : goal.returns-then-first-eq0
returns-then-first-eq0 c =
    let is : c.args.bytes.now ≡ c.in-Some.first.now ∷ c.in-Some.rest.now = c.in-Some.ensures.cases.0 in
    let tells = slice_eq-Decides Decides-eqb c.in-Some.rest.now (take (length c.in-Some.rest.now) c.args.bytes.now) c.eq.result c.eq.ensures in (
      λ yes i within.
          ap (λ l. get_or l i 0) is
          ∙ alike c.in-Some.first.now c.in-Some.rest.now c.if-first-eq0.true (tells.0 yes ∙ ap (take (length c.in-Some.rest.now)) is) i,
      λ zeros.
          let all : (i : ℕ) → i < length (c.in-Some.first.now ∷ c.in-Some.rest.now) → get_or (c.in-Some.first.now ∷ c.in-Some.rest.now) i 0 ≡ 0 =
          subst (λ (l : List ℕ). (i : ℕ) → i < length l → get_or l i 0 ≡ 0) is zeros in
          tells.1 (shifted c.in-Some.first.now c.in-Some.rest.now all ∙ ap (take (length c.in-Some.rest.now)) (sym is)),
    )
