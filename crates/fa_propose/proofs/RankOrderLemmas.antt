-- The order of ranks: it is total, tells ranks apart, and is that in which candidates are tried.
use Rattle.std.proofs.Common.{◌≡◌, ℕ, zero, suc, ◌<◌, List, [], ◌∷◌, length, get_or, Less, Equal, refl, sym, ap, subst, ◌∙◌, inl, inr, arith}
use Rattle.std.specs.Prelude.{AllPairs}
use Rattle.std.specs.Cmp.{IsTotalOrder, nat_cmp_is}
use Rattle.std.specs.List.Sorted.{IsStrictlySortedBy}
use Rattle.std.specs.Map.{keys_of}
use Rattle.std.proofs.lemmas.List.{length-map, get_or-map}
use Rattle.std.proofs.lemmas.List.Elements.{All-from_recursion, All-map, recursion_from_All}
use Rattle.std.proofs.lemmas.Map.Keys.{sorted_head, sorted_tail}
use Rattle.std.proofs.lemmas.Cmp.{ranked}
use Rattle.std.proofs.lemmas.Map.Lookups.{CmpEqualImpliesEq, exact_unsigned}
use Rattle.fa_propose.specs.contracts.rank.RankOrd.TheImpl.Laws as laws
use Rattle.fa_propose.specs.declared.rank.Group.{Group}
use Rattle.fa_propose.specs.declared.rank.Group.TheVariants.{Unchanging, Changing, Unanswered}
use Rattle.fa_propose.specs.declared.rank.Rank.{Rank}
use Rattle.fa_propose.specs.Proposals.{IsBefore}
use Rattle.fa_propose.specs.parts.Candidates.{cmp}

-- ---- the order of ranks

-- it is a total order
pub cmp_total : IsTotalOrder cmp
cmp_total = laws.total-law

-- ranks of the same group and position are the same
pub rank_of_parts : (a b : Rank) → a.group ≡ b.group → a.position ≡ b.position → a ≡ b
rank_of_parts a b group position = ap (λ (g : Group). made g a.position) group ∙ ap (λ (p : ℕ). made b.group p) position
  where
    made : Group → ℕ → Rank
    made g p = record { group = g; position = p }

equal_parts : (g h : Group) (p q : ℕ) → cmp (record { group = g; position = p }) (record { group = h; position = q }) ≡ Equal → (g ≡ h) × (p ≡ q)
equal_parts Unchanging Unchanging p q e = (refl, exact_unsigned p q e)
equal_parts Unchanging Changing p q e = absurd cc
equal_parts Unchanging Unanswered p q e = absurd cc
equal_parts Changing Unchanging p q e = absurd cc
equal_parts Changing Changing p q e = (refl, exact_unsigned p q e)
equal_parts Changing Unanswered p q e = absurd cc
equal_parts Unanswered Unchanging p q e = absurd cc
equal_parts Unanswered Changing p q e = absurd cc
equal_parts Unanswered Unanswered p q e = (refl, exact_unsigned p q e)

-- it tells ranks apart
pub cmp_exact : CmpEqualImpliesEq cmp
cmp_exact a b e =
    let same = equal_parts a.group b.group a.position b.position e in
    rank_of_parts a b same.0 same.1

before_parts : (g h : Group) (p q : ℕ) → cmp (record { group = g; position = p }) (record { group = h; position = q }) ≡ Less
    → IsBefore (record { group = g; position = p }) (record { group = h; position = q })
before_parts Unchanging Unchanging p q e = inr (refl, ranked p q Less (sym e))
before_parts Unchanging Changing p q e = inl (omega arith)
before_parts Unchanging Unanswered p q e = inl (omega arith)
before_parts Changing Unchanging p q e = absurd cc
before_parts Changing Changing p q e = inr (refl, ranked p q Less (sym e))
before_parts Changing Unanswered p q e = inl (omega arith)
before_parts Unanswered Unchanging p q e = absurd cc
before_parts Unanswered Changing p q e = absurd cc
before_parts Unanswered Unanswered p q e = inr (refl, ranked p q Less (sym e))

-- what is less is tried before
pub less_before : (a b : Rank) → cmp a b ≡ Less → IsBefore a b
less_before a b e = before_parts a.group b.group a.position b.position e

-- ---- entries by rising ranks

-- keys that ascend are ranks, each before those behind it
pub ranked_pairs : {X : Type 0} (es : List (Rank × X)) → IsStrictlySortedBy cmp (keys_of es) → AllPairs (λ a b. IsBefore a.0 b.0) es
ranked_pairs [] sorted i j d before within = absurd (omega (arith, within))
ranked_pairs (e ∷ es) sorted zero zero d before within = absurd (omega (arith, before))
ranked_pairs {X = X} (e ∷ es) sorted zero (suc j) d before within =
    let behind = All-from_recursion (λ (k : Rank). cmp e.0 k ≡ Less) (keys_of es) (sorted_head cmp e.0 (keys_of es) sorted) in
    let within_keys : j < length (keys_of es) = omega (arith, within, length-map es (λ (x : Rank × X). x.0)) in
    let same : get_or (keys_of es) j d.0 ≡ (get_or es j d).0 = get_or-map (λ (x : Rank × X). x.0) es j d d.0 (omega (arith, within)) in
    less_before e.0 (get_or es j d).0 (subst (λ (k : Rank). cmp e.0 k ≡ Less) same (behind j d.0 within_keys))
ranked_pairs (e ∷ es) sorted (suc i) zero d before within = absurd (omega (arith, before))
ranked_pairs (e ∷ es) sorted (suc i) (suc j) d before within = ranked_pairs es (sorted_tail cmp e.0 (keys_of es) sorted) i j d (omega (arith, before)) (omega (arith, within))

less_parts : (g h : Group) (p q : ℕ) → IsBefore (record { group = g; position = p }) (record { group = h; position = q })
    → cmp (record { group = g; position = p }) (record { group = h; position = q }) ≡ Less
less_parts Unchanging Unchanging p q before = elim before [ inl lower ↦ absurd (omega (arith, lower)) | inr same ↦ sym (nat_cmp_is p q Less same.1) ]
less_parts Unchanging Changing p q before = refl
less_parts Unchanging Unanswered p q before = refl
less_parts Changing Unchanging p q before = elim before [ inl lower ↦ absurd (omega (arith, lower)) | inr same ↦ absurd (let group = same.0 in cc) ]
less_parts Changing Changing p q before = elim before [ inl lower ↦ absurd (omega (arith, lower)) | inr same ↦ sym (nat_cmp_is p q Less same.1) ]
less_parts Changing Unanswered p q before = refl
less_parts Unanswered Unchanging p q before = elim before [ inl lower ↦ absurd (omega (arith, lower)) | inr same ↦ absurd (let group = same.0 in cc) ]
less_parts Unanswered Changing p q before = elim before [ inl lower ↦ absurd (omega (arith, lower)) | inr same ↦ absurd (let group = same.0 in cc) ]
less_parts Unanswered Unanswered p q before = elim before [ inl lower ↦ absurd (omega (arith, lower)) | inr same ↦ sym (nat_cmp_is p q Less same.1) ]

-- what is tried before is less
pub before_less : (a b : Rank) → IsBefore a b → cmp a b ≡ Less
before_less a b before = less_parts a.group b.group a.position b.position before

-- and ranks of which each is before those behind it are keys that ascend
pub pairs_ranked : {X : Type 0} (es : List (Rank × X)) → AllPairs (λ a b. IsBefore a.0 b.0) es → IsStrictlySortedBy cmp (keys_of es)
unfolding IsStrictlySortedBy
pairs_ranked [] pairs = tt
pairs_ranked {X = X} (e ∷ es) pairs = (
  recursion_from_All (λ (k : Rank). cmp e.0 k ≡ Less) (keys_of es)
      (All-map (λ (k : Rank). cmp e.0 k ≡ Less) (λ (x : Rank × X). x.0) es (λ j d within. before_less e.0 (get_or es j d).0 (pairs zero (suc j) d (omega arith) (omega (arith, within))))),
  pairs_ranked es (λ i j d before within. pairs (suc i) (suc j) d (omega (arith, before)) (omega (arith, within))),
)
