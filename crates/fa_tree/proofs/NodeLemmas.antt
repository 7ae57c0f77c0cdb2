-- The map of nodes: its order, and what a table of nodes shows.
use Rattle.std.proofs.Common.{◌≡◌, ◌⊎◌, inl, inr, ℕ, ◌+◌, ◌<◌, Bool, true, false, cond, List, [], ◌∷◌, slice_get, Some, refl, sym, ap, subst, ◌∙◌, arith}
use Rattle.std.specs.Prelude.{◌&&◌, nat_eq}
use Rattle.std.proofs.lemmas.Bool.{cases_lt}
use Rattle.std.proofs.lemmas.Bool.Decides.{nat_tests}
use Rattle.std.proofs.lemmas.Cmp.{then_total, nat_cmp_total, eq_by_cmp_equiv}
use Rattle.std.specs.Cmp.{IsTotalOrder, on_total, tied_itself, unsigned_tied}
use Rattle.std.specs.Ordering.{nat_cmp, ordering_then, ordering_reverse, eq_by_cmp, is_eq}
use Rattle.std.specs.declared.cmp.Ordering.{Ordering}
use Rattle.std.specs.declared.cmp.Ordering.TheVariants.{Less, Equal, Greater}
use Rattle.std.specs.Map.{lookup}
use Rattle.std.specs.FinMap as map
use Rattle.std.specs.FinMap.{FinMap, IsAntisymmetric, find}
use Rattle.fa_ledger.specs.contracts.name.NodeNamePartialEq.TheImpl as derived
use Rattle.fa_ledger.specs.declared.name.NodeName.{NodeName}
use Rattle.fa_ledger.specs.declared.name.NodeName.TheVariants.{Root, Given}
use Rattle.fa_tree.specs.declared.id.FileId.{FileId}
use Rattle.fa_tree.specs.State.{node_cmp}

-- ---- the order of names of nodes

abbrev pair_cmp : ℕ × ℕ → ℕ × ℕ → Ordering
pair_cmp a b = ordering_then (nat_cmp a.0 b.0) (nat_cmp a.1 b.1)

pairs_total : IsTotalOrder pair_cmp
pairs_total = then_total (on_total (λ (p : ℕ × ℕ). p.0) nat_cmp_total) (on_total (λ (p : ℕ × ℕ). p.1) nat_cmp_total)

antisymm : (x y : NodeName) → node_cmp x y ≡ ordering_reverse (node_cmp y x)
antisymm Root Root = refl
antisymm Root (Given by id) = refl
antisymm (Given by id) Root = refl
antisymm (Given by id) (Given since other) = pairs_total.antisymm (id, by) (other, since)

trans : (x y z : NodeName) → node_cmp x y ≡ Less → node_cmp y z ≡ Less → node_cmp x z ≡ Less
trans Root Root z xy yz = yz
trans Root (Given by id) Root xy yz = absurd cc
trans Root (Given by id) (Given since other) xy yz = refl
trans (Given by id) Root z xy yz = absurd cc
trans (Given by id) (Given since other) Root xy yz = absurd cc
trans (Given by id) (Given since other) (Given last third) xy yz = pairs_total.trans (id, by) (other, since) (third, last) xy yz

congr : (x y z : NodeName) → node_cmp x y ≡ Equal → node_cmp x z ≡ node_cmp y z
congr Root Root z xy = refl
congr Root (Given by id) z xy = absurd cc
congr (Given by id) Root z xy = absurd cc
congr (Given by id) (Given since other) Root xy = refl
congr (Given by id) (Given since other) (Given last third) xy = pairs_total.congr (id, by) (other, since) (third, last) xy

pub node_total : IsTotalOrder node_cmp
node_total = record { antisymm = antisymm; trans = trans; congr = congr }

-- names that tie are one
numbers_same : (m n : ℕ) → nat_cmp m n ≡ Equal → m ≡ n
numbers_same m n tie = map.nat_cmp-IsAntisymmetric m n tie

pairs_same : (r s : Ordering) → ordering_then r s ≡ Equal → (r ≡ Equal) × (s ≡ Equal)
pairs_same Less s tie = absurd cc
pairs_same Equal s tie = (refl, tie)
pairs_same Greater s tie = absurd cc

pub node_same : IsAntisymmetric node_cmp
node_same Root Root tie = refl
node_same Root (Given by id) tie = absurd cc
node_same (Given by id) Root tie = absurd cc
node_same (Given by id) (Given since other) tie =
    let both : (nat_cmp id other ≡ Equal) × (nat_cmp by since ≡ Equal) = pairs_same (nat_cmp id other) (nat_cmp by since) tie in
    rw (numbers_same id other both.0, numbers_same by since both.1) refl

numbers_tied : (m n : ℕ) → is_eq (nat_cmp m n) ≡ nat_eq m n
numbers_tied m n = unsigned_tied m n ∙ grind (arith, nat_tests)

both_tied : (r s : Ordering) → is_eq (ordering_then r s) ≡ (is_eq r && is_eq s)
both_tied Less s = refl
both_tied Equal s = refl
both_tied Greater s = refl

either_way : (a b : Bool) → (a && b) ≡ (b && a)
either_way true true = refl
either_way true false = refl
either_way false true = refl
either_way false false = refl

-- the derived equality is that of the order
pub ties : (x y : NodeName) → eq_by_cmp node_cmp x y ≡ derived.eq-value.it x y
ties Root Root = refl
ties Root (Given by id) = refl
ties (Given by id) Root = refl
ties (Given by id) (Given since other) =
    both_tied (nat_cmp id other) (nat_cmp by since) ∙ (rw (numbers_tied id other, numbers_tied by since) (either_way (nat_eq id other) (nat_eq by since)))

-- ---- what a table of nodes shows

found : (q : NodeName) (es : List (NodeName × FileId)) → find node_cmp q es ≡ lookup (derived.eq-value.it q) es
found q [] = refl
found q (e ∷ es) = rw (ties q e.0, found q es) refl

pub get_shown : (es : List (NodeName × FileId)) (q : NodeName) → map.get (map.from_entries {R = node_cmp} es) q ≡ lookup (derived.eq-value.it q) es
get_shown es q = map.get-from_entries node_total es q ∙ found q es

-- a table after a write shows the map with this entry
pub shown_insert : (old new : List (NodeName × FileId)) (name : NodeName) (file : FileId)
    → ((q : NodeName) → lookup (derived.eq-value.it q) new ≡ cond (derived.eq-value.it name q) (Some file) (lookup (derived.eq-value.it q) old))
    → map.from_entries {R = node_cmp} new ≡ map.insert (map.from_entries old) name file
shown_insert old new name file wrote =
    map.same_map node_total node_same (map.from_entries new) (map.insert (map.from_entries old) name file) (λ q.
    get_shown new q ∙ (wrote q ∙ (rw (sym (ties name q), sym (get_shown old q), (eq_by_cmp_equiv node_total).symm name q) (sym (map.get-insert node_total (map.from_entries old) name file q)))))

-- ---- names that stand for one file

-- names that tie are one, and each ties with itself
pub name_same : (r s : NodeName) → eq_by_cmp node_cmp r s ≡ true → r ≡ s
name_same r s tie = by (node_cmp r s) refl tie
  where
    by : (o : Ordering) → node_cmp r s ≡ o → is_eq o ≡ true → r ≡ s
    by Less is tie = absurd cc
    by Equal is tie = node_same r s is
    by Greater is tie = absurd cc

name_self : (name : NodeName) → eq_by_cmp node_cmp name name ≡ true
name_self name = ap is_eq (tied_itself node_total name)

-- the first of the names given, as a table has them, and none of them stands for another file
pub record AreSeen (nodes seen : FinMap node_cmp FileId) (given : List (NodeName × FileId)) (i : ℕ) : Type 0 where
  pub known : (k : ℕ) (one : NodeName × FileId) → k < i → slice_get given k ≡ Some one → (other : FileId) → map.get nodes one.0 ≡ Some other → one.1 ≡ other
  pub found : (k : ℕ) (one : NodeName × FileId) → k < i → slice_get given k ≡ Some one → map.get seen one.0 ≡ Some one.1
  pub only : (name : NodeName) (file : FileId) → map.get seen name ≡ Some file → (k : ℕ) × (k < i) × (slice_get given k ≡ Some (name, file))

-- at first none is seen
pub none_seen : (nodes seen : FinMap node_cmp FileId) (given : List (NodeName × FileId)) → seen ≡ map.empty → AreSeen nodes seen given 0
none_seen nodes seen given is = record {
  known = λ k one less there. absurd (omega (arith, less));
  found = λ k one less there. absurd (omega (arith, less));
  only = λ name file found.
      let nothing = sym (map.get-empty node_cmp name) ∙ ap (λ m. map.get m name) (sym is) ∙ found in
      absurd cc;
}

-- one more, for a file that it does not contradict
module _ (nodes seen now : FinMap node_cmp FileId) (given : List (NodeName × FileId)) (i : ℕ) (one : NodeName × FileId)
    (before : AreSeen nodes seen given i) (there : slice_get given i ≡ Some one)
    (may : (other : FileId) → map.get nodes one.0 ≡ Some other → one.1 ≡ other)
    (same : (other : FileId) → map.get seen one.0 ≡ Some other → one.1 ≡ other)
    (put : now ≡ map.insert seen one.0 one.1) where
  now_has : (name : NodeName) → map.get now name ≡ cond (eq_by_cmp node_cmp name one.0) (Some one.1) (map.get seen name)
  now_has name = ap (λ m. map.get m name) put ∙ map.get-insert node_total seen one.0 one.1 name

  -- an earlier one, or this one
  earlier : (k : ℕ) (p : NodeName × FileId) → k < i + 1 → slice_get given k ≡ Some p → (k < i) ⊎ (p ≡ one)
  earlier k p less is =
      elim (cases_lt k i) [
        | inl before_i ↦ inl before_i
        | inr not_before ↦ inr (let own : k ≡ i = omega arith in let both : Some p ≡ Some one = sym is ∙ ap (slice_get given) own ∙ there in cc)
      ]

  known_now : (k : ℕ) (p : NodeName × FileId) → k < i + 1 → slice_get given k ≡ Some p → (other : FileId) → map.get nodes p.0 ≡ Some other → p.1 ≡ other
  known_now k p less is other stands =
      elim (earlier k p less is) [
        | inl before_i ↦ before.known k p before_i is other stands
        | inr own ↦ subst (λ (q : NodeName × FileId). map.get nodes q.0 ≡ Some other → q.1 ≡ other) (sym own) (may other) stands
      ]

  still : (name : NodeName) (file : FileId) → map.get seen name ≡ Some file → map.get now name ≡ Some file
  still name file is = by (eq_by_cmp node_cmp name one.0) refl (now_has name)
    where
      by : (b : Bool) → eq_by_cmp node_cmp name one.0 ≡ b → map.get now name ≡ cond b (Some one.1) (map.get seen name) → map.get now name ≡ Some file
      by true tie has = has ∙ ap (λ n. Some n) (same file (subst (λ n. map.get seen n ≡ Some file) (name_same name one.0 tie) is))
      by false apart has = has ∙ is

  found_now : (k : ℕ) (p : NodeName × FileId) → k < i + 1 → slice_get given k ≡ Some p → map.get now p.0 ≡ Some p.1
  found_now k p less is =
      elim (earlier k p less is) [
        | inl before_i ↦ still p.0 p.1 (before.found k p before_i is)
        | inr own ↦ subst (λ (q : NodeName × FileId). map.get now q.0 ≡ Some q.1) (sym own)
            (now_has one.0 ∙ ap (λ b. cond b (Some one.1) (map.get seen one.0)) (name_self one.0))
      ]

  only_now : (name : NodeName) (file : FileId) → map.get now name ≡ Some file → (k : ℕ) × (k < i + 1) × (slice_get given k ≡ Some (name, file))
  only_now name file is = by (eq_by_cmp node_cmp name one.0) refl (sym (now_has name) ∙ is)
    where
      by : (b : Bool) → eq_by_cmp node_cmp name one.0 ≡ b → cond b (Some one.1) (map.get seen name) ≡ Some file → (k : ℕ) × (k < i + 1) × (slice_get given k ≡ Some (name, file))
      by true tie has =
          let own : one.1 ≡ file = (let both : Some one.1 ≡ Some file = has in cc) in
          let pair : ◌≡◌ {A = NodeName × FileId} one (name, file) = λ j. (sym (name_same name one.0 tie) j, own j) in
          (i, omega arith, there ∙ ap (λ q. Some q) pair)
      by false apart has =
          let was = before.only name file has in
          let less = was.1 in
          (was.0, omega (arith, less), was.2)

  pub more_seen : AreSeen nodes now given (i + 1)
  more_seen = record { known = known_now; found = found_now; only = only_now }
