-- The last opening of a directory by a request.
use Rattle.std.proofs.Common.{◌≡◌, ℕ, ◌+◌, ◌<◌, Bool, true, false, cond, List, [], ◌∷◌, ◌++◌, length, get_or, Option, None, Some, suc, refl, sym, ap, ◌∙◌, arith}
use Rattle.std.specs.Prelude.{nat_eq}
use Rattle.std.specs.Map.{lookup}
use Rattle.std.specs.Option.{option_map, option_or}
use Rattle.std.specs.Ordering.{nat_cmp}
use Rattle.std.specs.Cmp.{nat_cmp_total, nat_eq_equiv, unsigned_tied}
use Rattle.std.specs.FinMap as map
use Rattle.std.specs.FinMap.{FinMap}
use Rattle.fa_tree.specs.declared.id.FileId.{FileId}
use Rattle.fa_tree.specs.State.{OpenDirectory}
use Rattle.fa_tree.specs.declared.open.Opening.{Opening}
use Rattle.fa_tree.specs.declared.slots.Place.{Place}
use Rattle.fa_tree.specs.declared.slots.Slot.{Slot}
use Rattle.fa_tree.specs.parts.NameViews.{open_shown, handles_shown}
use Rattle.fa_tree.specs.parts.OpenParts.{last_opening, AreLast}

-- ---- what openings show

-- the directory that is open by a request is that of its last opening
get-handles_shown : (slots : List (Place × Slot)) (openings : List Opening) (at : ℕ) (handles : FinMap nat_cmp OpenDirectory) (asked : ℕ)
    → map.get (handles_shown slots at handles openings) asked
    ≡ option_or (option_map (λ p. open_shown slots p.1 p.0) (last_opening asked at openings)) (map.get handles asked)
get-handles_shown slots [] at handles asked = refl
get-handles_shown slots (o ∷ openings) at handles asked =
    get-handles_shown slots openings (at + 1) (map.insert handles o.asked (open_shown slots o.directory at)) asked
    ∙ ap (option_or (option_map shows (last_opening asked (at + 1) openings))) (map.get-insert nat_cmp_total handles o.asked (open_shown slots o.directory at) asked)
    ∙ ap (λ b. option_or (option_map shows (last_opening asked (at + 1) openings)) (cond b (Some (open_shown slots o.directory at)) (map.get handles asked))) (unsigned_tied asked o.asked)
    ∙ one (last_opening asked (at + 1) openings) (nat_eq asked o.asked)
  where
    shows : ℕ × FileId → OpenDirectory
    shows = λ p. open_shown slots p.1 p.0

    one : (later : Option (ℕ × FileId)) (b : Bool)
        → option_or (option_map shows later) (cond b (Some (open_shown slots o.directory at)) (map.get handles asked))
        ≡ option_or (option_map shows (option_or later (cond b (Some (at, o.directory)) None))) (map.get handles asked)
    one (Some p) b = refl
    one None true = refl
    one None false = refl

pub get-shown_openings : (slots : List (Place × Slot)) (openings : List Opening) (asked : ℕ)
    → map.get (handles_shown slots 0 map.empty openings) asked ≡ option_map (λ p. open_shown slots p.1 p.0) (last_opening asked 0 openings)
get-shown_openings slots openings asked =
    get-handles_shown slots openings 0 map.empty asked
    ∙ ap (option_or (option_map (λ p. open_shown slots p.1 p.0) (last_opening asked 0 openings))) (map.get-empty nat_cmp asked)
    ∙ or_none (option_map (λ p. open_shown slots p.1 p.0) (last_opening asked 0 openings))
  where
    or_none : (x : Option OpenDirectory) → option_or x None ≡ x
    or_none None = refl
    or_none (Some h) = refl

-- of an opening that is found its directory is open
pub found_shown : (slots : List (Place × Slot)) (openings : List Opening) (asked : ℕ) (found : Option (ℕ × Opening)) → option_map (λ (f : ℕ × Opening). (f.0, f.1.directory)) found ≡ last_opening asked 0 openings
    → map.get (handles_shown slots 0 map.empty openings) asked ≡ option_map (λ (f : ℕ × Opening). open_shown slots f.1.directory f.0) found
found_shown slots openings asked found is =
    get-shown_openings slots openings asked ∙ ap (option_map (λ p. open_shown slots p.1 p.0)) (sym is) ∙ by found
  where
    by : (x : Option (ℕ × Opening)) → option_map (λ (p : ℕ × FileId). open_shown slots p.1 p.0) (option_map (λ (f : ℕ × Opening). (f.0, f.1.directory)) x) ≡ option_map (λ (f : ℕ × Opening). open_shown slots f.1.directory f.0) x
    by None = refl
    by (Some f) = refl

-- ---- the last opening

-- it is in the list
last_in : (asked at : ℕ) (openings : List Opening) (p : ℕ × FileId) → last_opening asked at openings ≡ Some p
    → (i : ℕ) × (p.0 ≡ at + i) × (i < length openings) × ((other : Opening) → (get_or openings i other).directory ≡ p.1)
last_in asked at [] p is = absurd (let clash : None ≡ Some p = is in cc)
last_in asked at (o ∷ openings) p is = by (last_opening asked (at + 1) openings) (nat_eq asked o.asked) is (last_in asked (at + 1) openings p)
  where
    by : (later : Option (ℕ × FileId)) (b : Bool) → option_or later (cond b (Some (at, o.directory)) None) ≡ Some p
        → (later ≡ Some p → (i : ℕ) × (p.0 ≡ (at + 1) + i) × (i < length openings) × ((other : Opening) → (get_or openings i other).directory ≡ p.1))
        → (i : ℕ) × (p.0 ≡ at + i) × (i < length (o ∷ openings)) × ((other : Opening) → (get_or (o ∷ openings) i other).directory ≡ p.1)
    by (Some q) b is so = let rest = so is in (suc rest.0, omega (arith, rest.1), omega (arith, rest.2), rest.3)
    by None true is so =
        let same : (at, o.directory) ≡ p = cc in
        (0, ap (λ q. q.0) (sym same) ∙ omega arith, omega arith, λ other. ap (λ q. q.1) same)
    by None false is so = absurd (let clash : None ≡ Some p = is in cc)

-- the place of the last opening in the list of all is within it, and has its directory
pub last_within : (openings : List Opening) (places : List (ℕ × ℕ)) → AreLast places openings → (asked at : ℕ) → lookup (nat_eq asked) places ≡ Some at → at < length openings
last_within openings places last asked at there = by (last_opening asked 0 openings) refl (sym (last asked) ∙ there)
  where
    by : (x : Option (ℕ × FileId)) → last_opening asked 0 openings ≡ x → option_map (λ p. p.0) x ≡ Some at → at < length openings
    by None was is = absurd (let clash : None ≡ Some at = is in cc)
    by (Some p) was is =
        let same : p.0 ≡ at = cc in
        let found = last_in asked 0 openings p was in
        omega (arith, same, found.1, found.2)

pub last_is : (openings : List Opening) (places : List (ℕ × ℕ)) → AreLast places openings → (asked at : ℕ) → lookup (nat_eq asked) places ≡ Some at
    → (other : Opening) → last_opening asked 0 openings ≡ Some (at, (get_or openings at other).directory)
last_is openings places last asked at there other = by (last_opening asked 0 openings) refl (sym (last asked) ∙ there)
  where
    by : (x : Option (ℕ × FileId)) → last_opening asked 0 openings ≡ x → option_map (λ p. p.0) x ≡ Some at → x ≡ Some (at, (get_or openings at other).directory)
    by None was is = absurd (let clash : None ≡ Some at = is in cc)
    by (Some p) was is =
        let same : p.0 ≡ at = cc in
        let found = last_in asked 0 openings p was in
        let place : found.0 ≡ at = omega (arith, same, found.1) in
        let directory : p.1 ≡ (get_or openings at other).directory = sym (found.3 other) ∙ ap (λ i. (get_or openings i other).directory) place in
        λ i. Some (same i, directory i)

-- ---- one opening more

last_opening-push : (asked at : ℕ) (openings : List Opening) (o : Opening)
    → last_opening asked at (openings ++ o ∷ []) ≡ cond (nat_eq asked o.asked) (Some (at + length openings, o.directory)) (last_opening asked at openings)
last_opening-push asked at [] o =
    let count : at ≡ at + 0 = omega arith in
    ap (λ n. cond (nat_eq asked o.asked) (Some (n, o.directory)) None) count
last_opening-push asked at (p ∷ openings) o =
    let count : (at + 1) + length openings ≡ at + length (p ∷ openings) = omega arith in
    ap (λ x. option_or x (cond (nat_eq asked p.asked) (Some (at, p.directory)) None))
    (last_opening-push asked (at + 1) openings o
    ∙ ap (λ n. cond (nat_eq asked o.asked) (Some (n, o.directory)) (last_opening asked (at + 1) openings)) count)
    ∙ one (nat_eq asked o.asked) (last_opening asked (at + 1) openings)
  where
    one : (b : Bool) (x : Option (ℕ × FileId))
        → option_or (cond b (Some (at + length (p ∷ openings), o.directory)) x) (cond (nat_eq asked p.asked) (Some (at, p.directory)) None)
        ≡ cond b (Some (at + length (p ∷ openings), o.directory)) (option_or x (cond (nat_eq asked p.asked) (Some (at, p.directory)) None))
    one true x = refl
    one false x = refl

-- its place is written beside it
pub last_push : (openings : List Opening) (o : Opening) (places new : List (ℕ × ℕ)) → AreLast places openings
    → ((q : ℕ) → lookup (nat_eq q) new ≡ cond (nat_eq o.asked q) (Some (length openings)) (lookup (nat_eq q) places))
    → AreLast new (openings ++ o ∷ [])
last_push openings o places new last wrote q =
    wrote q
    ∙ ap (cond (nat_eq o.asked q) (Some (length openings))) (last q)
    ∙ ap (λ b. cond b (Some (length openings)) (option_map (λ p. p.0) (last_opening q 0 openings))) (nat_eq_equiv.symm o.asked q)
    ∙ one (nat_eq q o.asked)
    ∙ ap (option_map (λ p. p.0)) (sym (last_opening-push q 0 openings o))
  where
    count : length openings ≡ 0 + length openings
    count = omega arith

    one : (b : Bool) → cond b (Some (length openings)) (option_map (λ p. p.0) (last_opening q 0 openings))
        ≡ option_map (λ p. p.0) (cond b (Some (0 + length openings, o.directory)) (last_opening q 0 openings))
    one true = ap (λ n. Some n) count
    one false = refl
