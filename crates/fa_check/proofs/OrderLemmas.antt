-- Orders: the numbers of entries, and that an order is valid exactly where each entry passes the checks of its place.
use Rattle.std.proofs.Common.{◌≡◌, ◌≢◌, ℕ, ◌+◌, ◌<◌, ◌≤◌, ◌⊎◌, List, [], ◌∷◌, ◌++◌, length, take, drop, get_or, sym, ap, subst, inl, inr, arith}
use Rattle.std.specs.Prelude.{All, AllPairs, Contains}
use Rattle.std.proofs.lemmas.Bool.{cases_lt}
use Rattle.std.proofs.lemmas.List.{map-append}
use Rattle.std.proofs.lemmas.List.Elements.{Contains-append_cases, Contains-append_left, Contains-push}
use Rattle.fa_capture.specs.Checks.{AllHold}
use Rattle.fa_capture.specs.Message.{Message}
use Rattle.fa_capture.proofs.CallerLemmas.{contains_cases, contains_first, contains_behind, contains_longer, contains_front, contains_decided, parts_at, all_middle, pairs_before, pairs_behind}
use Rattle.fa_session.specs.Answers.{IsAnsweredBy}
use Rattle.fa_session.proofs.CallerLemmas.{answer_after}
use Rattle.fa_order.specs.declared.entry.Entry.{Entry}
use Rattle.fa_check.specs.Orders.{IsTreeRequestAt, numbers, IsChoice, IsValidOrder}
use Rattle.fa_check.specs.Faults.{order_checks, EachPlaced, IsAnsweredUnplaced}
use Rattle.fa_check.specs.Laws.{ValidWhereEachIsPlaced}

-- ---- the numbers of entries

-- a number of the entries is that of some entry
pub number_of : (es : List Entry) (p : ℕ) → Contains (numbers es) p → (e : Entry) × Contains es e × (e.at ≡ p)
number_of [] p has = absurd (omega (arith, has.1))
number_of (e ∷ es) p has =
    elim (contains_cases e.at (numbers es) p has) [
      | inl first ↦ (e, contains_first e es, first)
      | inr behind ↦ let found : (f : Entry) × Contains es f × (f.at ≡ p) = number_of es p behind in (found.0, contains_behind e es found.0 found.1, found.2)
    ]

-- an entry's number is among the numbers
pub number_in : (es : List Entry) (e : Entry) → Contains es e → Contains (numbers es) e.at
number_in [] e has = absurd (omega (arith, has.1))
number_in (f ∷ es) e has =
    elim (contains_cases f es e has) [
      | inl first ↦ subst (λ (k : ℕ). Contains (numbers (f ∷ es)) k) (ap (λ (x : Entry). x.at) first) (contains_first f.at (numbers es))
      | inr behind ↦ contains_behind f.at (numbers es) e.at (number_in es e behind)
    ]

-- a number of the whole is one before the entry, its own, or one behind it
number_cases : (es later : List Entry) (e : Entry) (p : ℕ) → Contains (numbers (es ++ e ∷ later)) p → Contains (numbers es) p ⊎ ((e.at ≡ p) ⊎ Contains (numbers later) p)
number_cases es later e p has =
    let apart : Contains (numbers es ++ numbers (e ∷ later)) p = subst (λ (xs : List ℕ). Contains xs p) (map-append (λ (x : Entry). x.at) es (e ∷ later)) has in
    elim (Contains-append_cases (numbers es) (numbers (e ∷ later)) p apart) [
      | inl before ↦ inl before
      | inr rest ↦ inr (contains_cases e.at (numbers later) p rest)
    ]

-- ---- places

-- each entry of a valid order passes its checks after those before it
pub valid_placed : (c : List Message) (es : List Entry) → IsValidOrder c es → EachPlaced c es
valid_placed c es valid earlier later e parts = (
  all_middle (λ (x : Entry). IsTreeRequestAt c x.at) earlier later e (subst (All (λ (x : Entry). IsTreeRequestAt c x.at)) parts valid.each),
  (
    (λ has. let found : (f : Entry) × Contains earlier f × (f.at ≡ e.at) = number_of earlier e.at has in
        pairs_before (λ (a b : Entry). a.at ≢ b.at) earlier later found.0 e (subst (AllPairs (λ (a b : Entry). a.at ≢ b.at)) parts valid.once) found.1 found.2),
    (
      (λ p q asked by before.
          elim (number_cases earlier later e p (subst (λ (xs : List Entry). Contains (numbers xs) p) parts (valid.complete p q asked by))) [
            | inl there ↦ there
            | inr rest ↦ elim rest [
              | inl own ↦ let after : p < q = answer_after c q p by.0 by.1 in absurd (omega (arith, own, after, before))
              | inr behind ↦
                  let found : (f : Entry) × Contains later f × (f.at ≡ p) = number_of later p behind in
                  let kept : e.at ≤ q = pairs_behind (λ (a b : Entry). (k : ℕ) → IsAnsweredBy c b.at k → a.at ≤ k) earlier later e found.0
                  (subst (AllPairs (λ (a b : Entry). (k : ℕ) → IsAnsweredBy c b.at k → a.at ≤ k)) parts valid.precedence) found.1 q (subst (λ (k : ℕ). IsAnsweredBy c k q) (sym found.2) by) in
                  absurd (omega (arith, kept, before))
            ]
          ]),
      (all_middle (IsChoice c) earlier later e (subst (All (IsChoice c)) parts valid.choices), tt),
    ),
  ),
)

-- the checks of the entry at a place
placed_at : (c : List Message) (es : List Entry) (k : ℕ) (d : Entry) → EachPlaced c es → k < length es → AllHold (order_checks c (take k es) (get_or es k d))
placed_at c es k d placed within = placed (take k es) (drop (k + 1) es) (get_or es k d) (parts_at es k d within)

-- of two entries the later one has another number
placed_apart : (c : List Message) (es : List Entry) (i j : ℕ) (d : Entry) → EachPlaced c es → i < j → j < length es → (get_or es i d).at ≢ (get_or es j d).at
placed_apart c es i j d placed before within same =
    (placed_at c es j d placed within).1.0
    (subst (Contains (numbers (take j es))) same (number_in (take j es) (get_or es i d) (contains_front es i j d before within)))

-- and it was not answered before the earlier one was sent
placed_behind : (c : List Message) (es : List Entry) (i j : ℕ) (d : Entry) (q : ℕ) → EachPlaced c es → i < j → j < length es → IsAnsweredBy c (get_or es j d).at q → (get_or es i d).at ≤ q
placed_behind c es i j d q placed before within by =
    elim (cases_lt q (get_or es i d).at) [
      | inl sent ↦
          let p = (get_or es j d).at in
          let has : Contains (numbers (take i es)) p = (placed_at c es i d placed (omega (arith, before, within))).1.1.0 p q (placed_at c es j d placed within).0 by sent in
          let found : (f : Entry) × Contains (take i es) f × (f.at ≡ p) = number_of (take i es) p has in
          let again : Contains (take j es) found.0 = contains_longer es i j found.0 (omega (arith, before)) found.1 in
          absurd ((placed_at c es j d placed within).1.0 (subst (Contains (numbers (take j es))) found.2 (number_in (take j es) found.0 again)))
      | inr kept ↦ kept
    ]

-- so of two entries that are placed the later one was not answered before the earlier one was sent
pub placed_precedence : (c : List Message) (es : List Entry) → EachPlaced c es → AllPairs (λ earlier later. (q : ℕ) → IsAnsweredBy c later.at q → earlier.at ≤ q) es
placed_precedence c es placed = λ i j d before within q by. placed_behind c es i j d q placed before within by

-- entries that are all placed and leave out no answered request are a valid order
pub placed_valid : (c : List Message) (es : List Entry) → EachPlaced c es → ((p : ℕ) → IsAnsweredUnplaced c es p → ⊥) → IsValidOrder c es
placed_valid c es placed none = record {
  each = λ k d within. (placed_at c es k d placed within).0;
  once = λ i j d before within. placed_apart c es i j d placed before within;
  complete = λ p q asked by. elim (contains_decided (numbers es) p) [
    | inl has ↦ has
    | inr lacks ↦ absurd (none p (asked, (q, by), lacks))
  ];
  precedence = placed_precedence c es placed;
  choices = λ k d within. (placed_at c es k d placed within).1.1.1.0;
}

-- an order is valid exactly where each is placed and none is left out
pub valid_where_each_is_placed : ValidWhereEachIsPlaced
valid_where_each_is_placed c es = (
  λ valid. (valid_placed c es valid, λ p unplaced. unplaced.2 (valid.complete p unplaced.1.0 unplaced.0 unplaced.1.1)),
  λ placed. placed_valid c es placed.0 placed.1,
)

-- ---- one more entry

-- the numbers of the entries and one more
pub numbers_more : (es : List Entry) (e : Entry) → numbers (es ++ e ∷ []) ≡ numbers es ++ e.at ∷ []
numbers_more es e = map-append (λ (x : Entry). x.at) es (e ∷ [])

-- a number among those of the entries and one more
pub number_more : (es : List Entry) (e : Entry) (p : ℕ) → Contains (numbers (es ++ e ∷ [])) p → Contains (numbers es) p ⊎ (e.at ≡ p)
number_more es e p there =
    elim (Contains-append_cases (numbers es) (e.at ∷ []) p (subst (λ (xs : List ℕ). Contains xs p) (numbers_more es e) there)) [
      | inl before ↦ inl before
      | inr last ↦ elim (contains_cases e.at [] p last) [ inl here ↦ inr here | inr none ↦ absurd (omega (arith, none.1)) ]
    ]

pub number_still : (es : List Entry) (e : Entry) (p : ℕ) → Contains (numbers es) p → Contains (numbers (es ++ e ∷ [])) p
number_still es e p there = subst (λ (xs : List ℕ). Contains xs p) (sym (numbers_more es e)) (Contains-append_left (numbers es) (e.at ∷ []) p there)

pub number_now : (es : List Entry) (e : Entry) → Contains (numbers (es ++ e ∷ [])) e.at
number_now es e = subst (λ (xs : List ℕ). Contains xs e.at) (sym (numbers_more es e)) (Contains-push (numbers es) e.at)
