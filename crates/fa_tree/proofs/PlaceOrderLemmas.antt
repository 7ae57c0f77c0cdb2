-- The names after an edit.
use Rattle.std.proofs.Common.{◌≡◌, ◌≢◌, ◌⊎◌, Bool, true, false, cond, Option, None, Some, refl, sym, ap, subst, ◌∙◌, inl, inr}
use Rattle.std.specs.Ordering.{eq_by_cmp, is_eq}
use Rattle.std.specs.Cmp.{tied_itself}
use Rattle.std.specs.FinMap.{FinMap, get, insert, remove, get-insert, get-remove, same_map}
use Rattle.fa_tree.specs.declared.id.FileId.{FileId}
use Rattle.fa_tree.specs.State.{Place, place_cmp}
use Rattle.fa_tree.specs.parts.PlaceLaws.{place_cmp_total, places_apart, same_place}

-- a place ties with itself
pub place_self : (a : Place) → eq_by_cmp place_cmp a a ≡ true
place_self a = ap is_eq (tied_itself place_cmp_total a)

-- a name after one is added: the one that is added, or one that was there
pub name_added : (names : FinMap place_cmp FileId) (added q : Place) (file : FileId) (x : FileId) → get (insert names added file) q ≡ Some x
    → ((q ≡ added) × (x ≡ file)) ⊎ (get names q ≡ Some x)
name_added names added q file x is =
    by (eq_by_cmp place_cmp q added) refl (sym (get-insert place_cmp_total names added file q) ∙ is)
  where
    by : (b : Bool) → eq_by_cmp place_cmp q added ≡ b → cond b (Some file) (get names q) ≡ Some x → ((q ≡ added) × (x ≡ file)) ⊎ (get names q ≡ Some x)
    by true tie is = inl (same_place q added tie, cc)
    by false apart is = inr is

-- a name after one is taken away: one that was there, at another place
pub name_left : (names : FinMap place_cmp FileId) (removed q : Place) (x : FileId) → get (remove names removed) q ≡ Some x
    → (q ≢ removed) × (get names q ≡ Some x)
name_left names removed q x is =
    by (eq_by_cmp place_cmp q removed) refl (sym (get-remove place_cmp_total names removed q) ∙ is)
  where
    by : (b : Bool) → eq_by_cmp place_cmp q removed ≡ b → cond b None (get names q) ≡ Some x → (q ≢ removed) × (get names q ≡ Some x)
    by true tie is = absurd cc
    by false apart is = ((λ same. let tie : eq_by_cmp place_cmp q removed ≡ true = subst (λ (p : Place). eq_by_cmp place_cmp q p ≡ true) same (place_self q) in absurd cc), is)

-- places that differ are told apart
place_told : (a b : Place) → a ≢ b → eq_by_cmp place_cmp a b ≡ false
place_told a b apart = by (eq_by_cmp place_cmp a b) refl
  where
    by : (tied : Bool) → eq_by_cmp place_cmp a b ≡ tied → tied ≡ false
    by true tie = absurd (apart (same_place a b tie))
    by false tie = refl

-- where one is added is its file
pub added_here : (names : FinMap place_cmp FileId) (added : Place) (file : FileId) → get (insert names added file) added ≡ Some file
added_here names added file = get-insert place_cmp_total names added file added ∙ ap (λ b. cond b (Some file) (get names added)) (place_self added)

-- names at other places stay where one is added, and where one is taken away
pub added_elsewhere : (names : FinMap place_cmp FileId) (added q : Place) (file : FileId) → q ≢ added → get (insert names added file) q ≡ get names q
added_elsewhere names added q file apart = get-insert place_cmp_total names added file q ∙ ap (λ b. cond b (Some file) (get names q)) (place_told q added apart)

pub removed_elsewhere : (names : FinMap place_cmp FileId) (removed q : Place) → q ≢ removed → get (remove names removed) q ≡ get names q
removed_elsewhere names removed q apart = get-remove place_cmp_total names removed q ∙ ap (λ b. cond b None (get names q)) (place_told q removed apart)

-- a name that goes after one is added at another place may go before it
pub name_goes_first : (names : FinMap place_cmp FileId) (added removed : Place) (file : FileId) → added ≢ removed
    → remove (insert names added file) removed ≡ insert (remove names removed) added file
name_goes_first names added removed file apart = same_map place_cmp_total places_apart _ _ (λ q.
    get-remove place_cmp_total (insert names added file) removed q
    ∙ ap (cond (eq_by_cmp place_cmp q removed) None) (get-insert place_cmp_total names added file q)
    ∙ either (eq_by_cmp place_cmp q removed) (eq_by_cmp place_cmp q added)
    (λ goes comes. apart (sym (same_place q added comes) ∙ same_place q removed goes)) (get names q)
    ∙ sym (get-insert place_cmp_total (remove names removed) added file q
    ∙ ap (cond (eq_by_cmp place_cmp q added) (Some file)) (get-remove place_cmp_total names removed q)))
  where
    either : (a b : Bool) → (a ≡ true → b ≡ true → ⊥) → (x : Option FileId) → cond a None (cond b (Some file) x) ≡ cond b (Some file) (cond a None x)
    either true true clash x = absurd (clash refl refl)
    either true false clash x = refl
    either false b clash x = refl
