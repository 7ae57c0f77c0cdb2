-- Orders that come to a message past which none goes, by what is left there.
use Rattle.std.proofs.Common.{◌≡◌, ◌∙◌, ℕ, ◌<◌, List, [], ◌∷◌, ◌++◌, length, get_or, take, drop, map, Vec, sym, subst, ap, arith}
use Rattle.std.specs.Prelude.{Contains}
use Rattle.std.specs.declared.alloc.Global.{Global}
use Rattle.std.proofs.lemmas.List.{length-map, get_or-map, take-append-drop}
use Rattle.std.proofs.lemmas.List.Elements.{All-contains, All-contains_itself, All-map, All-push, All-weaker, Contains-append_left}
use Rattle.fa_capture.specs.Message.{Message}
use Rattle.fa_tree.specs.State.{TreeState}
use Rattle.fa_tree.proofs.CallerLemmas.{alike_on, alike_fewer}
use Rattle.fa_order.specs.declared.entry.Entry.{Entry}
use Rattle.fa_search.specs.Searches.{IsUsedFrom, ComesTo, AreTreesTo}
use Rattle.fa_search.specs.declared.coming.Alternatives.{Alternatives}
use Rattle.fa_search.specs.parts.Configurations.{PlainConfiguration}
use Rattle.fa_search.specs.parts.Settling.{AreLeft, AreMerged, EachLeadsTo, CameTo}
use Rattle.fa_search.proofs.MergedLemmas.{merged_some}

-- the tree of one of these is among theirs
tree_among : (xs : List PlainConfiguration) (x : PlainConfiguration) → Contains xs x → Contains (map (λ (y : PlainConfiguration). y.tree) xs) x.tree
tree_among xs x has = (
  has.0,
  (let within = has.1 in omega (arith, within, length-map xs (λ (y : PlainConfiguration). y.tree))),
  get_or-map (λ (y : PlainConfiguration). y.tree) xs has.0 x x.tree has.1 ∙ ap (λ (y : PlainConfiguration). y.tree) has.2,
)

module _ (c : List Message) (first : TreeState) (common : List Entry) (at : ℕ) (left : List PlainConfiguration) (are : AreLeft c first common at left) where
  -- what is left may be merged, where each opening of use counts
  pub left_by_merged : (Counts : ℕ → Type 0) → ((opened : ℕ) → IsUsedFrom c at opened → Counts opened) → (new : List PlainConfiguration) → AreMerged Counts left new → AreLeft c first common at new
  left_by_merged Counts counts new merged = record {
    stop = are.stop;
    some = merged_some Counts left new merged are.some;
    each = λ y has. are.each y (merged.each y has);
    complete = λ es tree request comes.
        let found = are.complete es tree request comes in
        let same = merged.all found.0 found.1 in
        (same.0, same.1, alike_on (IsUsedFrom c at) tree found.0.tree same.0.tree found.2 (alike_fewer Counts (IsUsedFrom c at) found.0.tree same.0.tree counts same.2.1));
  }

  -- its trees are all to which entries come,
  left_are_trees : AreTreesTo c first at (map (λ (x : PlainConfiguration). x.tree) left)
  left_are_trees = record {
    each = λ tree has. All-contains Such (map (λ (x : PlainConfiguration). x.tree) left) tree
        (All-map Such (λ (x : PlainConfiguration). x.tree) left
        (All-weaker (Contains left) (λ (x : PlainConfiguration). Such x.tree) (λ x there. (let comes = are.each x there in (common ++ x.entries, comes.0, comes.1))) left (All-contains_itself left)))
        has;
    complete = λ es tree request comes.
        let found = are.complete es tree request comes in
        (found.0.tree, tree_among left found.0 found.1, found.2);
  }
    where
      Such : TreeState → Type 0
      Such tree = (es : List Entry) × (request : ℕ) × ComesTo c first at es tree request

  -- and the orders that lead to some of it come to the message
  pub came_to : (found : Alternatives) → EachLeadsTo common left found.orders.items → found.trees ≡ length left → CameTo c first at found
  came_to found each many = record {
    stop = are.stop;
    orders =
        All-weaker (λ (order : Vec Entry Global). (x : PlainConfiguration) × Contains left x × (order.items ≡ common ++ x.entries))
        (λ (order : Vec Entry Global). (tree : TreeState) × (request : ℕ) × ComesTo c first at order.items tree request)
        (λ order leads. (let comes = are.each leads.0 leads.1 in (leads.0.tree, comes.0, subst (λ (es : List Entry). ComesTo c first at es leads.0.tree comes.0) (sym leads.2) comes.1)))
        found.orders.items each;
    trees = (map (λ (x : PlainConfiguration). x.tree) left, left_are_trees, length-map left (λ (x : PlainConfiguration). x.tree) ∙ sym many);
    some = (let some = are.some in omega (arith, some, many));
  }

-- ---- orders that lead to what is left

-- one at a place of the first ones is one of all
pub front_there : (left : List PlainConfiguration) (count place : ℕ) (x : PlainConfiguration) → place < length (take count left) → x ≡ get_or (take count left) place x → Contains left x
front_there left count place x within is =
    subst (λ (xs : List PlainConfiguration). Contains xs x) (take-append-drop count left) (Contains-append_left (take count left) (drop count left) x (place, within, sym is))

-- before the first
pub leads_none : (common : List Entry) (left : List PlainConfiguration) → EachLeadsTo common left []
leads_none common left k d within = absurd (omega (arith, within))

-- one order more
pub leads_more : (common : List Entry) (left : List PlainConfiguration) (orders : List (Vec Entry Global)) (order : Vec Entry Global) (x : PlainConfiguration) → Contains left x
    → order.items ≡ common ++ x.entries → EachLeadsTo common left orders → EachLeadsTo common left (orders ++ order ∷ [])
leads_more common left orders order x has is each =
    All-push (λ (one : Vec Entry Global). (y : PlainConfiguration) × Contains left y × (one.items ≡ common ++ y.entries)) orders order each (x, has, is)
