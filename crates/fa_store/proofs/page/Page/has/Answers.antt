use Rattle.std.proofs.Common.{◌≡◌, ℕ, ◌+◌, ◌-◌, ◌<◌, ◌≤◌, List, length, take, drop, get_or, min, inl, inr, sym, ap, ◌∙◌, arith}
use Rattle.std.proofs.lemmas.List.{take_rest, get_or-take, get_or-drop, get_or_past, length-take, length-drop, ext_get_or}
use Rattle.std.proofs.lemmas.Bool.{cases_lt, false≢true}
use Rattle.std.proofs.lemmas.Bool.Decides.{Decides-eqb}
use Rattle.std.proofs.lemmas.Slice.Eq.{slice_eq-Decides}
use Rattle.fa_store.specs.parts.PageParts.{IsPart}
use Rattle.fa_store.proofs.page.Page.has.Goals as goal

module _ (page part : List ℕ) (at from stored : ℕ) (start : from ≡ min (length page) at) (least : stored ≡ min (length (drop from page)) (length part)) where
  -- a byte behind the place
  rest_at : (i : ℕ) → get_or (drop from page) i 0 ≡ get_or page (at + i) 0
  rest_at i = elim (cases_lt (length page) at) [
    | inl short ↦ get_or-drop from page i 0 ∙ (get_or_past page (from + i) 0 (omega arith) ∙ sym (get_or_past page (at + i) 0 (omega arith)))
    | inr long ↦
        let same : from ≡ at = omega arith in
        get_or-drop from page i 0 ∙ ap (λ k. get_or page (k + i) 0) same
  ]

  has_part : take stored part ≡ take stored (drop from page)
      → ((i : ℕ) → i < length (drop stored part) → get_or (drop stored part) i 0 ≡ 0) → IsPart page at part
  has_part same zeros i within = elim (cases_lt i stored) [
    | inl front ↦
        sym (get_or-take stored part i 0 front) ∙ (ap (λ l. get_or l i 0) same ∙ (get_or-take stored (drop from page) i 0 front ∙ rest_at i))
    | inr behind ↦
        let sum : stored + (i - stored) ≡ i = omega arith in
        let here : get_or part i 0 ≡ get_or (drop stored part) (i - stored) 0 =
        sym (get_or-drop stored part (i - stored) 0 ∙ ap (λ k. get_or part k 0) sum) in
        let long : length (drop from page) ≤ i = omega arith in
        here ∙ (zeros (i - stored) (simp length-drop (omega arith)) ∙ (sym (get_or_past (drop from page) i 0 long) ∙ rest_at i))
  ]

  part_same : IsPart page at part → take stored part ≡ take stored (drop from page)
  part_same is =
      let size : length (take stored part) ≡ stored = simp length-take (omega arith) in
      let as_long : length (take stored (drop from page)) ≡ stored = simp length-take (omega arith) in
      ext_get_or 0 (take stored part) (take stored (drop from page)) (size ∙ sym as_long)
      (λ i within.
      let front : i < stored = omega arith in
      get_or-take stored part i 0 front ∙ (is i (omega arith) ∙ (sym (rest_at i) ∙ sym (get_or-take stored (drop from page) i 0 front))))

  part_zeros : IsPart page at part → (i : ℕ) → i < length (drop stored part) → get_or (drop stored part) i 0 ≡ 0
  part_zeros is i within =
      let size : length (drop stored part) ≡ length part - stored = length-drop stored part in
      let long : length (drop from page) ≤ stored + i = omega arith in
      get_or-drop stored part i 0 ∙ (is (stored + i) (omega arith) ∙ (sym (rest_at (stored + i)) ∙ get_or_past (drop from page) (stored + i) 0 long))

pub returns-then-eq : goal.returns-then-eq
returns-then-eq c =
    let bytes : List ℕ = c.as_slice-bytes.result.now in
    let is_page : bytes ≡ c.args.self.now = c.as_slice-bytes.ensures.value ∙ c.self.view_is in
    let rest = take_rest bytes c.min.result in
    let least = rw rest at c.min-stored.ensures in
    let eq = rw rest at c.eq.ensures in
    let same : take c.min-stored.result c.args.part.now ≡ take c.min-stored.result (drop c.min.result bytes) =
    (slice_eq-Decides Decides-eqb (take c.min-stored.result c.args.part.now) (take c.min-stored.result (drop c.min.result bytes)) c.eq.result eq).0 c.if-eq.true in
    let zeros = rw (take_rest c.args.part.now c.min-stored.result) at c.are_zeros.ensures in
    rw (sym is_page) (
      (λ yes. has_part bytes c.args.part.now c.args.at c.min.result c.min-stored.result c.min.ensures least same (zeros.0 yes)),
      (λ is. zeros.1 (part_zeros bytes c.args.part.now c.args.at c.min.result c.min-stored.result c.min.ensures least is)),
    )

pub returns-else-eq : goal.returns-else-eq
returns-else-eq c =
    let bytes : List ℕ = c.as_slice-bytes.result.now in
    let is_page : bytes ≡ c.args.self.now = c.as_slice-bytes.ensures.value ∙ c.self.view_is in
    let rest = take_rest bytes c.min.result in
    let least = rw rest at c.min-stored.ensures in
    let eq = rw rest at c.eq.ensures in
    rw (sym is_page) (
      (λ yes. absurd (false≢true (sym c.if-eq.false ∙ yes))),
      (λ is. (slice_eq-Decides Decides-eqb (take c.min-stored.result c.args.part.now) (take c.min-stored.result (drop c.min.result bytes)) c.eq.result eq).1 (part_same bytes c.args.part.now c.args.at c.min.result c.min-stored.result c.min.ensures least is)),
    )
