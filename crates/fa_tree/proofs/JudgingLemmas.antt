-- The file that an answer speaks of, and what its attributes are judged by, after a request.
use Rattle.std.proofs.Common.{◌≡◌, ℕ, ◌+◌, Bool, true, false, cond, List, [], ◌∷◌, length, count_by, Option, None, Some, refl, sym, ap, subst, ◌∙◌, arith}
use Rattle.std.specs.Prelude.{replicate, ◌-◌, ◌≢◌, ◌↔◌, IsTrue, IfSome, IfNone, if◌then◌else◌}
use Rattle.std.specs.Option.{option_map_or}
use Rattle.std.specs.Ordering.{is_eq}
use Rattle.std.specs.declared.cmp.Ordering.TheVariants.{Less, Equal, Greater}
use Rattle.std.specs.FinMap.{FinMap, get, insert, entries, find, put, get-entries, entries-insert}
use Rattle.std.specs.FinMap.Entries.{by_order}
use Rattle.std.proofs.lemmas.List.{length-take, length-append, length-replicate}
use Rattle.std.proofs.lemmas.List.Sums.{sum_by-cons}
use Rattle.fa_bodies.specs.declared.attributes.Attributes.{Attributes}
use Rattle.fa_bodies.specs.declared.mode.Kind.{Kind}
use Rattle.fa_bodies.specs.declared.mode.Kind.TheVariants.{Regular}
use Rattle.fa_bodies.specs.declared.setattr.SetattrIn.{SetattrIn}
use Rattle.fa_bodies.specs.FlagBits.{fattr_size}
use Rattle.fa_bodies.specs.Flags.{has_flag, fattr_bits}
use Rattle.fa_bodies.specs.Modes.{type_number}
use Rattle.fa_tree.specs.declared.id.FileId.{FileId}
use Rattle.fa_tree.specs.declared.id.FileId.TheVariants as file_id
use Rattle.fa_tree.specs.State.{File, Store, Place, file_cmp, file_eq, place_cmp, IsFree, links}
use Rattle.fa_tree.specs.Attributes.{Fits}
use Rattle.fa_tree.specs.Rules.{with_file}
use Rattle.fa_store.specs.Contents.{filled, resized}
use Rattle.fa_tree.specs.Making.{emptied, files_created, HasMadeNone}
use Rattle.fa_tree.proofs.EditedLemmas.{insert_there}
use Rattle.fa_tree.proofs.ShapeLemmas.{put_here, no_name_yet}
use Rattle.fa_tree.specs.Edits.{names_after}
use Rattle.fa_tree.specs.Edits.Edit.{Added}
use Rattle.fa_tree.specs.Lookups.{bits_set, file_set}
use Rattle.fa_tree.specs.Linking.{MayBeLinked}
use Rattle.fa_tree.specs.Resolved.{OfOther}
use Rattle.fa_tree.specs.Shape.{IsTree}
use Rattle.fa_tree.specs.declared.facts.Facts.{Facts}
use Rattle.fa_tree.specs.parts.FileIdLaws.{file_self}
use Rattle.fa_tree.specs.parts.FactParts.{size_set, AreOpenedFacts, AreFactsOf, AreFit, AreFactsIfAny, AreNewFacts, AreFurtherFacts, AreSetFacts, AreCreatedFacts, IsFoundOrMade, SpokenFit, FitIfAny}
use Rattle.fa_tree.specs.parts.ShapeParts.{parent_in, parent_of}
use Rattle.fa_tree.specs.parts.StoredParts.{StoredShown}
use Rattle.fa_tree.specs.parts.PlaceLaws.{place_cmp_total}
use Rattle.fa_tree.proofs.StoredChangeLemmas.{with_there, with_none}
use Rattle.fa_tree.proofs.WalkLemmas.{parent_is}

-- ---- how many names a file has

-- how many entries are of a file
abbrev count_of : FileId → List (Place × FileId) → ℕ
count_of id es = count_by (λ entry. file_eq entry.1 id) es

-- one entry more
count_more : (id : FileId) (e : Place × FileId) (es : List (Place × FileId)) → count_of id (e ∷ es) ≡ cond (file_eq e.1 id) 1 0 + count_of id es
count_more id e es = sum_by-cons (λ entry. cond (file_eq entry.1 id) 1 0) e es

-- a name that comes is one more
count_put : (place : Place) (file id : FileId) (es : List (Place × FileId)) → find place_cmp place es ≡ None
    → count_of id (put place_cmp place file es) ≡ cond (file_eq file id) 1 0 + count_of id es
count_put place file id [] none = count_more id (place, file) []
count_put place file id (e ∷ es) none =
    elim (place_cmp place e.0) as (λ r. cond (is_eq r) (Some e.1) (find place_cmp place es) ≡ None
    → count_of id (by_order r ((place, file) ∷ e ∷ es) ((e.0, file) ∷ es) (e ∷ put place_cmp place file es)) ≡ cond (file_eq file id) 1 0 + count_of id (e ∷ es)) [
      | Less ↦ λ free. count_more id (place, file) (e ∷ es)
      | Equal ↦ λ free. absurd cc
      | Greater ↦ λ free. let rest = count_put place file id es free in
          let now = count_more id e (put place_cmp place file es) in
          let was = count_more id e es in
          omega (arith, rest, now, was)
    ] none

-- the store with one more name
abbrev named : Store → (directory : FileId) → (name : List ℕ) → (file : FileId) → FinMap file_cmp File → Store
named s directory name file files = record { names = insert s.names (directory, name) file; files = files }

-- and its names
links_more : (s : Store) (directory : FileId) (name : List ℕ) (file id : FileId) (files : FinMap file_cmp File) → IsFree s directory name
    → links (named s directory name file files) id ≡ cond (file_eq file id) 1 0 + links s id
links_more s directory name file id files free =
    ap (count_of id) (entries-insert place_cmp_total s.names (directory, name) file)
    ∙ count_put (directory, name) file id (entries s.names) (sym (get-entries s.names (directory, name)) ∙ free)

-- one more of the file itself
links_own : (s : Store) (directory : FileId) (name : List ℕ) (file : FileId) (files : FinMap file_cmp File) → IsFree s directory name
    → links (named s directory name file files) file ≡ 1 + links s file
links_own s directory name file files free =
    links_more s directory name file file files free ∙ ap (λ b. cond b 1 0 + links s file) (file_self file)

-- where no entry is the first for a file there is none
none_counted : (es : List (Place × FileId)) (file : FileId) → parent_in es file ≡ None → count_of file es ≡ 0
none_counted [] file none = refl
none_counted (e ∷ es) file none = count_more file e es ∙
    elim (file_eq e.1 file) as (λ b. cond b (Some e.0.0) (parent_in es file) ≡ None → cond b 1 0 + count_of file es ≡ 0) [
      | true ↦ λ is. absurd cc
      | false ↦ λ is. let rest = none_counted es file is in omega (arith, rest)
    ] none

-- no name is for a file that is not there
pub unnamed_yet : (s : Store) (id : FileId) → IsTree s → get s.files id ≡ None → links s id ≡ 0
unnamed_yet s id tree absent = none_counted (entries s.names) id (none (parent_of s id) refl)
  where
    none : (o : Option FileId) → parent_of s id ≡ o → o ≡ None
    none None is = refl
    none (Some parent) is = let one = parent_is s id parent is in absurd (no_name_yet s id tree absent parent one.0 one.1)

-- ---- a file that is made, and a further name

-- a name that comes is found
pub found_after : (s : Store) (directory : FileId) (name : List ℕ) (file : FileId) → get (insert s.names (directory, name) file) (directory, name) ≡ Some file
found_after s directory name file = insert_there place_cmp_total s.names (directory, name) file

-- the facts of a file that is made
pub made_facts : (s : Store) (id directory : FileId) (name : List ℕ) (new : File) (facts : Facts) → IsTree s → get s.files id ≡ None → IsFree s directory name
    → AreNewFacts new.kind new.bits (length new.bytes) facts
    → AreFactsIfAny (named s directory name id (insert s.files id new)) (get (insert s.names (directory, name) id) (directory, name)) (Some facts)
made_facts s id directory name new facts tree none free are = (
  id,
  found_after s directory name id,
  record {
    file = new;
    there = put_here s.files id new;
    kind = are.kind_is;
    bits = are.bits_are;
    size = are.size_is;
    names = links_own s directory name id (insert s.files id new) free ∙ ap (λ n. 1 + n) (unnamed_yet s id tree none) ∙ sym are.one_name;
  },
)

-- facts of a new file, of the same type, bits and size
pub same_new : (kind k : Kind) (bits b size : ℕ) (facts : Facts) → kind ≡ k → bits ≡ b → AreNewFacts kind bits size facts → AreNewFacts k b size facts
same_new kind k bits b size facts same also are = record {
  kind_is = are.kind_is ∙ same;
  bits_are = are.bits_are ∙ also;
  size_is = are.size_is;
  one_name = are.one_name;
}

-- the facts of a file that gets a further name
further_facts : (s : Store) (directory : FileId) (name : List ℕ) (file : FileId) (facts : Option Facts) → IsFree s directory name
    → AreFurtherFacts s (Some file) facts
    → AreFactsIfAny (named s directory name file s.files) (get (insert s.names (directory, name) file) (directory, name)) facts
further_facts s directory name file None free none = λ other is.
    none other (sym (found_after s directory name file) ∙ is)
further_facts s directory name file (Some facts) free (of, before, found, plain, are, same) =
    let own : file ≡ of = (let both : Some file ≡ Some of = found in cc) in
    let all : AreFactsOf s file before = subst (λ n. AreFactsOf s n before) (sym own) are in
    let links_now = links_own s directory name file s.files free in
    let was : links s file ≡ before.links + 0 = all.names ∙ ap (λ b. before.links + (if b then 1 else 0)) plain in
    let count : facts.links + (if facts.further then 1 else 0) ≡ before.links + 1 =
    ap (λ (f : Facts). f.links + (if f.further then 1 else 0)) same in (
      file,
      found_after s directory name file,
      record {
        file = all.file;
        there = all.there;
        kind = ap (λ (f : Facts). f.kind) same ∙ all.kind;
        bits = ap (λ (f : Facts). f.bits) same ∙ all.bits;
        size = ap (λ (f : Facts). f.size) same ∙ all.size;
        names = omega (arith, links_now, was, count);
      },
    )

-- the same, for LINK
pub linked_facts : (s : Store) (directory : FileId) (name : List ℕ) (other : Option FileId) (facts : Option Facts) → OfOther other (λ file. MayBeLinked s directory name file)
    → AreFurtherFacts s other facts
    → AreFactsIfAny (record { names = names_after (option_map_or (λ file. Added directory name file ∷ []) other []) s.names; files = s.files })
    (get (names_after (option_map_or (λ file. Added directory name file ∷ []) other []) s.names) (directory, name)) facts
linked_facts s directory name None facts may are = absurd may
linked_facts s directory name (Some file) facts may are = further_facts s directory name file facts may.1 are

-- and its file
pub linked_file : (s : Store) (directory : FileId) (name : List ℕ) (other : Option FileId) → OfOther other (λ file. MayBeLinked s directory name file)
    → other ≡ get (names_after (option_map_or (λ file. Added directory name file ∷ []) other []) s.names) (directory, name)
linked_file s directory name None may = absurd may
linked_file s directory name (Some file) may = sym (found_after s directory name file)

-- ---- CREATE

-- what CREATE leaves, by the file that has the name
abbrev pub created : Store → (asked : ℕ) → (truncates : Bool) → (directory : FileId) → (name : List ℕ) → (new : File) → Option FileId → Store
created s asked truncates directory name new found = record {
  names = names_after (option_map_or (λ file. []) found (Added directory name (file_id.Made asked) ∷ [])) s.names;
  files = files_created s.files asked truncates new found;
}

-- the facts of a file that is opened
opened_facts : (s : Store) (asked : ℕ) (truncates : Bool) (new : File) (id : FileId) (facts : Option Facts) → AreOpenedFacts s truncates id facts
    → AreFactsIfAny (record { names = s.names; files = files_created s.files asked truncates new (Some id) }) (Some id) facts
opened_facts s asked true new id None none = λ other is.
    let same : id ≡ other = (let both : Some id ≡ Some other = is in cc) in
    subst (λ n. get (with_file s.files id emptied) n ≡ None) same (with_none s.files id emptied none)
opened_facts s asked false new id None none = λ other is.
    let same : id ≡ other = (let both : Some id ≡ Some other = is in cc) in
    subst (λ n. get s.files n ≡ None) same none
opened_facts s asked true new id (Some facts) (before, are, same) = (
  id,
  refl,
  record {
    file = emptied are.file;
    there = with_there s.files id are.file emptied are.there;
    kind = ap (λ (f : Facts). f.kind) same ∙ are.kind;
    bits = ap (λ (f : Facts). f.bits) same ∙ are.bits;
    size = ap (λ (f : Facts). f.size) same;
    names = are.names ∙ sym (ap (λ (f : Facts). f.links + (if f.further then 1 else 0)) same);
  },
)
opened_facts s asked false new id (Some facts) (before, are, same) = (id, refl, subst (AreFactsOf s id) (sym same) are)

-- the facts of the file that it finds or makes
pub created_facts : (s : Store) (asked : ℕ) (truncates : Bool) (directory : FileId) (name : List ℕ) (new : File) (bits : ℕ) (facts : Option Facts) (found : Option FileId) → IsTree s
    → (found ≡ None → HasMadeNone s asked) → get s.names (directory, name) ≡ found
    → new.kind ≡ Regular → new.bytes ≡ [] → bits ≡ new.bits → AreCreatedFacts s truncates found bits facts
    → AreFactsIfAny (created s asked truncates directory name new found) (get (created s asked truncates directory name new found).names (directory, name)) facts
created_facts s asked truncates directory name new bits facts (Some file) tree none is kind bytes same_bits are =
    subst (λ found. AreFactsIfAny (created s asked truncates directory name new (Some file)) found facts) (sym is) (opened_facts s asked truncates new file facts are)
created_facts s asked truncates directory name new bits None None tree none is kind bytes same_bits are = absurd are
created_facts s asked truncates directory name new bits (Some facts) None tree none is kind bytes same_bits are =
    made_facts s (file_id.Made asked) directory name new facts tree (none refl) is (record {
      kind_is = are.kind_is ∙ sym kind;
      bits_are = are.bits_are ∙ same_bits;
      size_is = are.size_is ∙ sym (ap length bytes);
      one_name = are.one_name;
    })

-- the file that it finds or makes
pub created_file : (s : Store) (asked : ℕ) (truncates : Bool) (directory : FileId) (name : List ℕ) (new : File) (file : FileId) (found : Option FileId) → get s.names (directory, name) ≡ found
    → IsFoundOrMade asked found file → Some file ≡ get (created s asked truncates directory name new found).names (directory, name)
created_file s asked truncates directory name new file (Some other) is same = ap (λ n. Some n) same ∙ sym is
created_file s asked truncates directory name new file None is same = ap (λ n. Some n) same ∙ sym (found_after s directory name (file_id.Made asked))

-- ---- SETATTR

-- bytes that are cut or filled up have the length
resized_length : (bytes : List ℕ) (size : ℕ) → length (resized bytes size) ≡ size
resized_length bytes size =
    let taken = length-take size (filled bytes size) in
    let joined = length-append bytes (replicate (size - length bytes) 0) in
    let zeros = length-replicate {A = ℕ} (size - length bytes) 0 in
    omega (arith, taken, joined, zeros)

-- a file is as long after SETATTR as that says
as_long : (a : SetattrIn) (file : File) → length (file_set a file).bytes ≡ size_set a (length file.bytes)
as_long a file = by (has_flag (fattr_bits a.valid) fattr_size)
  where
    by : (b : Bool) → length (if b then resized file.bytes a.size else file.bytes) ≡ (if b then a.size else length file.bytes)
    by true = resized_length file.bytes a.size
    by false = refl

-- the facts of a file after SETATTR
pub set_facts : (s : Store) (a : SetattrIn) (id : FileId) (facts : Option Facts) → AreSetFacts s a id facts
    → AreFactsIfAny (record { names = s.names; files = with_file s.files id (file_set a) }) (Some id) facts
set_facts s a id None are = λ other is.
    let same : id ≡ other = (let both : Some id ≡ Some other = is in cc) in
    subst (λ n. get (with_file s.files id (file_set a)) n ≡ None) same (with_none s.files id (file_set a) are)
set_facts s a id (Some facts) (before, are, plain, same) = (
  id,
  refl,
  record {
    file = file_set a are.file;
    there = with_there s.files id are.file (file_set a) are.there;
    kind = ap (λ (f : Facts). f.kind) same ∙ are.kind;
    bits = ap (λ (f : Facts). f.bits) same ∙ (λ i. bits_set a (are.kind i) (are.bits i));
    size = ap (λ (f : Facts). f.size) same ∙ ap (size_set a) are.size ∙ sym (as_long a are.file);
    names = are.names ∙ ap (λ b. before.links + (if b then 1 else 0)) plain ∙ sym (ap (λ (f : Facts). f.links + (if f.further then 1 else 0)) same);
  },
)

-- ---- GETATTR

-- the facts of a file that stays
pub got_facts : (s : Store) (id : FileId) (facts : Option Facts) → IfSome facts (λ f. AreFactsOf s id f) → IfNone facts (get s.files id ≡ None)
    → AreFactsIfAny s (Some id) facts
got_facts s id None are none = λ other is.
    let same : id ≡ other = (let both : Some id ≡ Some other = is in cc) in
    subst (λ n. get s.files n ≡ None) same none
got_facts s id (Some facts) are none = (id, refl, are)

-- ---- attributes against facts

-- what fits the facts of a file fits it
fit_to : (s : Store) (id : FileId) (facts : Facts) (attr : Attributes) → AreFactsOf s id facts → AreFit facts attr → Fits s id attr
fit_to s id facts attr are fit = record {
  file = are.file;
  there = are.there;
  kind = fit.kind ∙ ap type_number are.kind;
  bits = λ other. fit.bits (λ is. other (sym are.kind ∙ is)) ∙ are.bits;
  size = λ regular. fit.size (are.kind ∙ regular) ∙ are.size;
  nlink = λ other. fit.nlink (λ is. other (sym are.kind ∙ is)) ∙ sym are.names;
}

-- and what fits a file fits its facts
fit_from : (s : Store) (id : FileId) (facts : Facts) (attr : Attributes) → AreFactsOf s id facts → Fits s id attr → AreFit facts attr
fit_from s id facts attr are fit =
    let same : fit.file ≡ are.file = (let both : Some fit.file ≡ Some are.file = sym fit.there ∙ are.there in cc) in
    let kind = are.kind ∙ sym (ap (λ (f : File). f.kind) same) in
    record {
      kind = fit.kind ∙ sym (ap type_number kind);
      bits = λ other. fit.bits (λ is. other (kind ∙ is)) ∙ ap (λ (f : File). f.bits) same ∙ sym are.bits;
      size = λ regular. fit.size (sym kind ∙ regular) ∙ ap (λ (f : File). length f.bytes) same ∙ sym are.size;
      nlink = λ other. fit.nlink (λ is. other (kind ∙ is)) ∙ are.names;
    }

-- so attributes fit the file that is spoken of where they fit its facts
pub spoken_fit : (s : Store) (found : Option FileId) (facts : Facts) (attr : Attributes) (b : Bool) → AreFactsIfAny s found (Some facts)
    → IsTrue b ↔ AreFit facts attr → IsTrue b ↔ SpokenFit s found attr
spoken_fit s found facts attr b (id, is, are) told = (
  λ t. (id, is, fit_to s id facts attr are (told.0 t)),
  λ fit.
      let same : id ≡ fit.0 = (let both : Some id ≡ Some fit.0 = sym is ∙ fit.1 in cc) in
      told.1 (fit_from s id facts attr are (subst (λ n. Fits s n attr) (sym same) fit.2)),
)

-- the same of facts that may be none
pub any_fit : (s : Store) (found : Option FileId) (facts : Option Facts) (attr : Attributes) (b : Bool) → AreFactsIfAny s found facts
    → IsTrue b ↔ FitIfAny facts attr → IsTrue b ↔ SpokenFit s found attr
any_fit s found None attr b none told = (
  λ t. absurd (told.0 t),
  λ fit. let clash = sym (none fit.0 fit.1) ∙ fit.2.there in absurd cc,
)
any_fit s found (Some facts) attr b are told = spoken_fit s found facts attr b are told

-- what fits a file is what is spoken of it
pub of_node : (s : Store) (id : FileId) (attr : Attributes) (b : Bool) → IsTrue b ↔ SpokenFit s (Some id) attr → IsTrue b ↔ Fits s id attr
of_node s id attr b told = (
  λ t.
      let fit = told.0 t in
      let same : id ≡ fit.0 = (let both : Some id ≡ Some fit.0 = fit.1 in cc) in
      subst (λ n. Fits s n attr) (sym same) fit.2,
  λ fit. told.1 (id, refl, fit),
)

-- and what fits the file of a name that is looked up, where its entry gives a node
pub of_entry : (s : Store) (found : Option FileId) (nodeid : ℕ) (attr : Attributes) (b : Bool) → nodeid ≢ 0 → IsTrue b ↔ SpokenFit s found attr
    → IsTrue b ↔ (nodeid ≢ 0 → SpokenFit s found attr)
of_entry s found nodeid attr b some told = (λ t other. told.0 t, λ fits. told.1 (fits some))

-- ---- the file that is known by this

-- what is found in the fields is there in what they show
pub file_there : (t u : StoredShown) (id : FileId) (file : File) → t ≡ u → Some file ≡ get t.store.files id → get u.store.files id ≡ Some file
file_there t u id file same is = ap (λ (v : StoredShown). get v.store.files id) (sym same) ∙ sym is

-- what is asked of a file that is there is asked of this one
pub of_this : (files : FinMap file_cmp File) (id : FileId) (file : File) (Such : File → Type 0) (told : Bool) → get files id ≡ Some file → IsTrue told ↔ Such file
    → IsTrue told ↔ ((f : File) × (get files id ≡ Some f) × Such f)
of_this files id file Such told is asks = (
  λ t. (file, is, asks.0 t),
  λ some. (let one : file ≡ some.0 = (let both : Some file ≡ Some some.0 = sym is ∙ some.1 in cc) in asks.1 (subst Such (sym one) some.2)),
)
