-- A path is spelled in one way, and leads to one file at most.
use Rattle.std.proofs.Common.{◌≡◌, ◌≢◌, ℕ, ◌≤◌, List, [], ◌∷◌, ◌++◌, All, Option, Some, None, refl, sym, ap, subst, ◌∙◌, arith}
use Rattle.std.specs.Prelude.{IfNone}
use Rattle.std.specs.FinMap as map
use Rattle.std.specs.List.{flat_map}
use Rattle.std.proofs.lemmas.List.Elements.{All-append, All-cons, All-head, All-nil, All-tail, All-weaker}
use Rattle.fa_tree.specs.declared.id.FileId.{FileId}
use Rattle.fa_tree.specs.State.{Store, root, HasName}
use Rattle.fa_tree_text.specs.Paths.{Path, path_text, slashed, IsSpelledName, IsPath, name_of, LeadsTo, IsParentOf, IsAt}
use Rattle.fa_bodies.specs.Names.{LacksByte}
use Rattle.fa_tree_text.specs.parts.Ways.{Reaches, IsFileAt}
use Rattle.fa_tree_text.proofs.SplitLemmas.{no_split, one_split}
use Rattle.fa_tree_text.proofs.WayLemmas.{no_slash, path_on}

-- ---- the bytes of a path

visible : (spelled : List ℕ) → IsSpelledName spelled → All (λ b. 33 ≤ b) spelled
visible spelled is k d within = (is.each_byte k d within).0

visible_directories : (ds : List (List ℕ)) → All IsSpelledName ds → All (λ b. 33 ≤ b) (flat_map slashed ds)
visible_directories [] are = All-nil (λ b. 33 ≤ b)
visible_directories (d ∷ ds) are =
    All-append (λ b. 33 ≤ b) (slashed d) (flat_map slashed ds)
    (All-append (λ b. 33 ≤ b) d (47 ∷ []) (visible d (All-head IsSpelledName d ds are)) (All-cons (λ b. 33 ≤ b) 47 [] (omega arith) (All-nil (λ b. 33 ≤ b))))
    (visible_directories ds (All-tail IsSpelledName d ds are))

-- each byte of a path is visible
pub path_visible : (p : Path) → IsPath p → All (λ b. 33 ≤ b) (path_text p)
path_visible p is = All-append (λ b. 33 ≤ b) (flat_map slashed p.directories) p.name (visible_directories p.directories is.directories) (visible p.name is.name)

pub path_no_space : (p : Path) → IsPath p → LacksByte 32 (path_text p)
path_no_space p is = All-weaker (λ b. 33 ≤ b) (λ b. b ≢ 32) (λ b low same. omega (arith, low, same)) (path_text p) (path_visible p is)

pub path_no_feed : (p : Path) → IsPath p → LacksByte 10 (path_text p)
path_no_feed p is = All-weaker (λ b. 33 ≤ b) (λ b. b ≢ 10) (λ b low same. omega (arith, low, same)) (path_text p) (path_visible p is)

-- ---- one path

one_way : (ds es : List (List ℕ)) (m n : List ℕ) → All IsSpelledName ds → All IsSpelledName es → IsSpelledName m → IsSpelledName n
    → flat_map slashed ds ++ m ≡ flat_map slashed es ++ n → (ds ≡ es) × (m ≡ n)
one_way [] [] m n are too is also e = (refl, e)
one_way [] (d ∷ es) m n are too is also e = absurd (no_split 47 m d (flat_map slashed es ++ n) (no_slash m is) (e ∙ path_on d es n))
one_way (d ∷ ds) [] m n are too is also e = absurd (no_split 47 n d (flat_map slashed ds ++ m) (no_slash n also) (sym e ∙ path_on d ds m))
one_way (d ∷ ds) (f ∷ es) m n are too is also e =
    let parts = one_split 47 d f (flat_map slashed ds ++ m) (flat_map slashed es ++ n) (no_slash d (All-head IsSpelledName d ds are)) (no_slash f (All-head IsSpelledName f es too)) (sym (path_on d ds m) ∙ e ∙ path_on f es n) in
    let later = one_way ds es m n (All-tail IsSpelledName d ds are) (All-tail IsSpelledName f es too) is also parts.1 in
    let first : d ≡ f = parts.0 in
    let others : ds ≡ es = later.0 in
    (cc, later.1)

pub one_path : (p q : Path) → IsPath p → IsPath q → path_text p ≡ path_text q → p ≡ q
one_path p q is too e =
    let parts = one_way p.directories q.directories p.name q.name is.directories too.directories is.name too.name e in
    let both : (p.directories, p.name) ≡ (q.directories, q.name) = (let first : p.directories ≡ q.directories = parts.0 in let second : p.name ≡ q.name = parts.1 in cc) in
    let made : List (List ℕ) × List ℕ → Path = λ x. record { directories = x.0; name = x.1 } in
    ap made both

-- ---- one file

pub leads_one : (s : Store) (from : FileId) (ds : List (List ℕ)) (to other : FileId) → LeadsTo s from ds to → LeadsTo s from ds other → to ≡ other
leads_one s from [] to other a b = a ∙ sym b
leads_one s from (d ∷ ds) to other a b =
    let there : Some a.0 ≡ Some b.0 = sym a.1 ∙ b.1 in
    let same : a.0 ≡ b.0 = cc in
    leads_one s b.0 ds to other (subst (λ (f : FileId). LeadsTo s f ds to) same a.2) b.2

pub at_one : (s : Store) (p : Path) (file other : FileId) → IsAt s file p → IsAt s other p → file ≡ other
at_one s p file other a b =
    let same : a.0 ≡ b.0 = leads_one s root p.directories a.0 b.0 a.1 b.1 in
    let there : Some file ≡ Some other = sym a.2 ∙ subst (λ (d : FileId). HasName s d (name_of p) other) (sym same) b.2 in
    cc

-- a path leads along the text that it has
pub reaches_path : (s : Store) (text : List ℕ) (parent : FileId) (p : Path) → text ≡ path_text p → IsPath p → IsParentOf s parent p → Reaches s root text parent (name_of p)
reaches_path s text parent p e is way = record { path = p; spelled = e; is_path = is; leads = way; last_is = refl }

-- and to where that text leads
pub reaches_same : (s : Store) (text : List ℕ) (parent other : FileId) (last : List ℕ) (p : Path) → Reaches s root text parent last → text ≡ path_text p → IsPath p → IsParentOf s other p → (other ≡ parent) × (name_of p ≡ last)
reaches_same s text parent other last p r e is way =
    let same : r.path ≡ p = one_path r.path p r.is_path is (sym r.spelled ∙ e) in (
      leads_one s root p.directories other parent way (subst (λ (q : Path). LeadsTo s root q.directories parent) same r.leads),
      sym (r.last_is ∙ ap name_of same),
    )

-- the file at the end of a path, as it is looked for
pub file_none : (s : Store) (text : List ℕ) (parent : FileId) (last : List ℕ) (r : Option FileId) → r ≡ map.get s.names (parent, last) → Reaches s root text parent last
    → IfNone r ((file : FileId) → IsFileAt s text file → ⊥)
file_none s text parent last None found r = λ file at.
    let same = reaches_same s text parent at.is_at.0 last at.path r at.spelled at.is_path at.is_at.1 in
    let there : HasName s parent last file = subst (λ (n : List ℕ). HasName s parent n file) same.1 (subst (λ (d : FileId). HasName s d (name_of at.path) file) same.0 at.is_at.2) in
    let none : None ≡ Some file = found ∙ there in
    absurd cc
file_none s text parent last (Some number) found r = tt

pub no_parent_none : (s : Store) (text : List ℕ) → ((parent : FileId) (last : List ℕ) → Reaches s root text parent last → ⊥) → (file : FileId) → IsFileAt s text file → ⊥
no_parent_none s text none file at = none at.is_at.0 (name_of at.path) (reaches_path s text at.is_at.0 at.path at.spelled at.is_path at.is_at.1)
