-- Ways down a tree, by the text of a path.
use Rattle.std.proofs.Common.{◌≡◌, ℕ, List, [], ◌∷◌, ◌++◌, All, Some, refl, sym, ap, subst, ◌∙◌, append_assoc}
use Rattle.std.specs.List.{flat_map}
use Rattle.std.proofs.lemmas.List.Elements.{All-cons, All-head, All-tail, All-nil}
use Rattle.percent_encoding.specs.Percent.{percent_decode}
use Rattle.fa_tree.specs.declared.id.FileId.{FileId}
use Rattle.fa_tree.specs.State.{Store, HasName}
use Rattle.fa_tree_text.specs.Paths.{slashed, IsSpelledName, LeadsTo}
use Rattle.fa_bodies.specs.Names.{LacksByte}
use Rattle.fa_tree_text.specs.parts.Ways.{Reaches}
use Rattle.fa_tree_text.proofs.SplitLemmas.{no_split, one_split}

-- ---- names

-- a spelled name has no slash
pub no_slash : (spelled : List ℕ) → IsSpelledName spelled → LacksByte 47 spelled
no_slash spelled is k d within = (is.each_byte k d within).2

-- ---- ways

-- a path that goes on: its first directory, and what stands behind it
pub path_on : (spelled : List ℕ) (ds : List (List ℕ)) (name : List ℕ) → flat_map slashed (spelled ∷ ds) ++ name ≡ spelled ++ 47 ∷ (flat_map slashed ds ++ name)
path_on spelled ds name =
    append_assoc (slashed spelled) (flat_map slashed ds) name ∙ append_assoc spelled (47 ∷ []) (flat_map slashed ds ++ name)

-- one directory more in front
pub reaches_on : (s : Store) (from next : FileId) (text spelled rest : List ℕ) → text ≡ spelled ++ 47 ∷ rest → IsSpelledName spelled → HasName s from (percent_decode spelled) next
    → (to : FileId) (last : List ℕ) → Reaches s next rest to last → Reaches s from text to last
reaches_on s from next text spelled rest whole is has to last r = record {
  path = record { directories = spelled ∷ r.path.directories; name = r.path.name };
  spelled = whole ∙ ap (λ (x : List ℕ). spelled ++ 47 ∷ x) r.spelled ∙ sym (path_on spelled r.path.directories r.path.name);
  is_path = record { directories = All-cons IsSpelledName spelled r.path.directories is r.is_path.directories; name = r.is_path.name };
  leads = (next, has, r.leads);
  last_is = r.last_is;
}

-- a way whose text has a slash, taken one step
pub record Steps (s : Store) (from : FileId) (spelled rest : List ℕ) (to : FileId) (last : List ℕ) : Type 0 where
  pub is_spelled : IsSpelledName spelled
  pub next : FileId
  pub has : HasName s from (percent_decode spelled) next
  pub reaches : Reaches s next rest to last

step_of : (s : Store) (from : FileId) (text spelled rest : List ℕ) (to : FileId) (last : List ℕ) (ds : List (List ℕ)) (name : List ℕ) → text ≡ spelled ++ 47 ∷ rest → LacksByte 47 spelled
    → text ≡ flat_map slashed ds ++ name → All IsSpelledName ds → IsSpelledName name → LeadsTo s from ds to → last ≡ percent_decode name → Steps s from spelled rest to last
step_of s from text spelled rest to last [] name whole lacks path are is leads last_is = absurd (no_split 47 text spelled rest (subst (LacksByte 47) (sym path) (no_slash name is)) whole)
step_of s from text spelled rest to last (d ∷ ds) name whole lacks path are is leads last_is =
    let first : IsSpelledName d = All-head IsSpelledName d ds are in
    let parts = one_split 47 spelled d rest (flat_map slashed ds ++ name) lacks (no_slash d first) (sym whole ∙ path ∙ path_on d ds name) in
    let same : d ≡ spelled = sym parts.0 in
    record {
      is_spelled = subst IsSpelledName same first;
      next = leads.0;
      has = subst (λ (x : List ℕ). HasName s from (percent_decode x) leads.0) same leads.1;
      reaches = record { path = record { directories = ds; name = name }; spelled = parts.1; is_path = record { directories = All-tail IsSpelledName d ds are; name = is }; leads = leads.2; last_is = last_is };
    }

pub reaches_step : (s : Store) (from : FileId) (text spelled rest : List ℕ) → text ≡ spelled ++ 47 ∷ rest → LacksByte 47 spelled → (to : FileId) (last : List ℕ) → Reaches s from text to last → Steps s from spelled rest to last
reaches_step s from text spelled rest whole lacks to last r =
    step_of s from text spelled rest to last r.path.directories r.path.name whole lacks r.spelled r.is_path.directories r.is_path.name r.leads r.last_is

-- the step leads to the file of the name
pub reaches_back : (s : Store) (from next : FileId) (text spelled rest : List ℕ) → text ≡ spelled ++ 47 ∷ rest → LacksByte 47 spelled → HasName s from (percent_decode spelled) next
    → (to : FileId) (last : List ℕ) → Reaches s from text to last → Reaches s next rest to last
reaches_back s from next text spelled rest whole lacks has to last r =
    let step = reaches_step s from text spelled rest whole lacks to last r in
    let there : Some step.next ≡ Some next = sym step.has ∙ has in
    let same : step.next ≡ next = cc in
    subst (λ (f : FileId). Reaches s f rest to last) same step.reaches

-- ---- the end of a way

-- a name alone leads no further
pub reaches_end : (s : Store) (from : FileId) (text : List ℕ) → IsSpelledName text → Reaches s from text from (percent_decode text)
reaches_end s from text is = record {
  path = record { directories = []; name = text };
  spelled = refl;
  is_path = record { directories = All-nil IsSpelledName; name = is };
  leads = refl;
  last_is = refl;
}

-- what has no slash is a name alone
end_of : (s : Store) (from : FileId) (text : List ℕ) (ds : List (List ℕ)) (name : List ℕ) → LacksByte 47 text → text ≡ flat_map slashed ds ++ name → IsSpelledName name → IsSpelledName text
end_of s from text [] name lacks path is = subst IsSpelledName (sym path) is
end_of s from text (d ∷ ds) name lacks path is = absurd (no_split 47 text d (flat_map slashed ds ++ name) lacks (path ∙ path_on d ds name))

pub end_spelled : (s : Store) (from : FileId) (text : List ℕ) → LacksByte 47 text → (to : FileId) (last : List ℕ) → Reaches s from text to last → IsSpelledName text
end_spelled s from text lacks to last r = end_of s from text r.path.directories r.path.name lacks r.spelled r.is_path.name
