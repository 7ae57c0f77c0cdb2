-- A body has at most one reading, and only one of its operation.
use Rattle.std.proofs.Common.{rules, ◌≡◌, ℕ, ◌⊎◌, cond, eqb, Bool, true, false, List, [], ◌∷◌, ◌++◌, refl, ap, ◌∙◌, arith, inl, inr}
use Rattle.std.proofs.lemmas.Bool.{eq-eqb}
use Rattle.fa_bodies.specs.declared.getattr.GetattrIn.{GetattrIn}
use Rattle.fa_bodies.specs.declared.setattr.SetattrIn.{SetattrIn}
use Rattle.fa_bodies.specs.declared.flags.OpenFlags.{OpenFlags}
use Rattle.fa_bodies.specs.declared.handles.FlushIn.{FlushIn}
use Rattle.fa_bodies.specs.declared.handles.OpenIn.{OpenIn}
use Rattle.fa_bodies.specs.declared.handles.ReadIn.{ReadIn}
use Rattle.fa_bodies.specs.declared.handles.ReleaseIn.{ReleaseIn}
use Rattle.fa_bodies.specs.declared.init.InitIn.{InitIn}
use Rattle.fa_bodies.specs.declared.making.CreateIn.{CreateIn}
use Rattle.fa_bodies.specs.declared.making.LinkIn.{LinkIn}
use Rattle.fa_bodies.specs.declared.making.MkdirIn.{MkdirIn}
use Rattle.fa_bodies.specs.declared.mode.Mode.{Mode}
use Rattle.fa_bodies.specs.declared.rename_flags.RenameFlags.{RenameFlags}
use Rattle.fa_bodies.specs.declared.rename_flags.RenameFlags.TheVariants.{Replace, NoReplace, Exchange}
use Rattle.fa_bodies.specs.Flags.{rename_bits}
use Rattle.fa_bodies.specs.Fields.{Field, IsSpelled}
use Rattle.fa_bodies.specs.Fields.Field.{U32, U64, Unread, Name, Target}
use Rattle.fa_bodies.specs.Requests.{PlainBody, IsOneOf, IsOperation, IsOtherRename, IsRequestBody, bystanders, changers}
use Rattle.fa_bodies.specs.Requests.PlainBody.{Lookup, Forget, Getattr, Setattr, Readlink, Symlink, Mknod, Mkdir, Unlink, Rmdir, Rename, Link, Open, Read, Write, Release, Flush, Init, Opendir, Readdir, Releasedir, Create, BatchForget, Readdirplus, Rename2, Passed}
use Rattle.fa_bodies.specs.Structs.{forget_in, mknod_in, mkdir_in, rename_in, rename2_in, link_in, write_in, create_in, batch_forget_in}
use Rattle.fa_bodies.proofs.FieldLaws.{fields-one}
use Rattle.fa_bodies.proofs.StructLaws.{getattr_in-one, setattr_in-one, open_in-one, read_in-one, release_in-one, flush_in-one, init_in-one}

-- ---- operations that are read by their headers alone

-- whether a number is one of these
abbrev among : List ℕ → ℕ → Bool
among [] n = false
among (m ∷ ms) n = cond (eqb n m) true (among ms n)

either_way : (b : Bool) → cond b true true ≡ true
either_way true = refl
either_way false = refl

among-of : (ms : List ℕ) (n : ℕ) → IsOneOf ms n → among ms n ≡ true
among-of [] n p = absurd p
among-of (m ∷ ms) n p =
    elim p [
      | inl e ↦ rw (eq-eqb n m e) refl
      | inr q ↦ rw (among-of ms n q) (either_way (eqb n m))
    ]

abbrev passed : List ℕ
passed = bystanders ++ changers

one-of-both : (xs ys : List ℕ) (n : ℕ) → IsOneOf xs n ⊎ IsOneOf ys n → IsOneOf (xs ++ ys) n
one-of-both [] ys n p = elim p [ inl e ↦ absurd e | inr q ↦ q ]
one-of-both (x ∷ xs) ys n p =
    elim p [
      | inl q ↦ elim q [ inl e ↦ inl e | inr r ↦ inr (one-of-both xs ys n (inl r)) ]
      | inr r ↦ inr (one-of-both xs ys n (inr r))
    ]

-- a body that is not read is of an operation of their list
passed_number : (opcode : ℕ) (body : List ℕ) → IsRequestBody opcode body Passed → IsOneOf bystanders opcode ⊎ IsOneOf changers opcode
passed_number opcode body p = elim p [ inl q ↦ inl q | inr q ↦ inr q.0 ]

-- the number of an operation that is read by its header alone stands in their list
listed : (body : List ℕ) (opcode number : ℕ) → IsRequestBody opcode body Passed → opcode ≡ number → among passed number ≡ true
listed body opcode number p e = rw (← e) (among-of passed opcode (one-of-both bystanders changers opcode (passed_number opcode body p)))

-- a bystander stands in their list
bystander : (opcode number : ℕ) → IsOneOf bystanders opcode → opcode ≡ number → among bystanders number ≡ true
bystander opcode number p e = rw (← e) (among-of bystanders opcode p)

-- a RENAME2 that is not read has flags that are not judged
other_rename : (opcode : ℕ) (body : List ℕ) → IsRequestBody opcode body Passed → opcode ≡ 45 → IsOtherRename body
other_rename opcode body p e =
    elim p [
      | inl q ↦ let is : false ≡ true = bystander opcode 45 q e in absurd cc
      | inr q ↦ q.1 e
    ]

-- ---- each operation's number has its own body alone; of those that end at a name, what that is

pub lookup_body : (body : List ℕ) (b : PlainBody) → IsRequestBody 1 body b → (name : List ℕ) × IsSpelled body (Name name ∷ [])
lookup_body body (Lookup name) p = (name, p.1)
lookup_body body Passed p = let e : false ≡ true = listed body 1 1 p refl in absurd cc
lookup_body body other p = absurd (omega (arith, p.0))

pub no_lookup : (body : List ℕ) → ((name : List ℕ) → IsRequestBody 1 body (Lookup name) → ⊥) → (b : PlainBody) → IsRequestBody 1 body b → ⊥
no_lookup body none b p = let q = lookup_body body b p in none q.0 (refl, q.1)

pub no_forget : (body : List ℕ) → ((nlookup : ℕ) → IsRequestBody 2 body (Forget nlookup) → ⊥) → (b : PlainBody) → IsRequestBody 2 body b → ⊥
no_forget body none (Forget nlookup) p = none nlookup p
no_forget body none Passed p = let e : false ≡ true = listed body 2 2 p refl in absurd cc
no_forget body none other p = absurd (omega (arith, p.0))

pub no_getattr : (body : List ℕ) → ((g : GetattrIn) → IsRequestBody 3 body (Getattr g) → ⊥) → (b : PlainBody) → IsRequestBody 3 body b → ⊥
no_getattr body none (Getattr g) p = none g p
no_getattr body none Passed p = let e : false ≡ true = listed body 3 3 p refl in absurd cc
no_getattr body none other p = absurd (omega (arith, p.0))

pub no_setattr : (body : List ℕ) → ((s : SetattrIn) → IsRequestBody 4 body (Setattr s) → ⊥) → (b : PlainBody) → IsRequestBody 4 body b → ⊥
no_setattr body none (Setattr s) p = none s p
no_setattr body none Passed p = let e : false ≡ true = listed body 4 4 p refl in absurd cc
no_setattr body none other p = absurd (omega (arith, p.0))

pub no_readlink : (body : List ℕ) → (IsRequestBody 5 body Readlink → ⊥) → (b : PlainBody) → IsRequestBody 5 body b → ⊥
no_readlink body none Readlink p = none p
no_readlink body none Passed p = let e : false ≡ true = listed body 5 5 p refl in absurd cc
no_readlink body none other p = absurd (omega (arith, p.0))

pub no_symlink : (body : List ℕ) → ((name : List ℕ) (target : List ℕ) → IsRequestBody 6 body (Symlink name target) → ⊥) → (b : PlainBody) → IsRequestBody 6 body b → ⊥
no_symlink body none (Symlink name target) p = none name target p
no_symlink body none Passed p = let e : false ≡ true = listed body 6 6 p refl in absurd cc
no_symlink body none other p = absurd (omega (arith, p.0))

pub no_mknod : (body : List ℕ) → ((mode : Mode) (rdev : ℕ) (umask : ℕ) (name : List ℕ) → IsRequestBody 8 body (Mknod mode rdev umask name) → ⊥) → (b : PlainBody) → IsRequestBody 8 body b → ⊥
no_mknod body none (Mknod mode rdev umask name) p = none mode rdev umask name p
no_mknod body none Passed p = let e : false ≡ true = listed body 8 8 p refl in absurd cc
no_mknod body none other p = absurd (omega (arith, p.0))

pub mkdir_body : (body : List ℕ) (b : PlainBody) → IsRequestBody 9 body b → (block : MkdirIn) × (name : List ℕ) × IsSpelled body (mkdir_in block.mode block.umask ++ Name name ∷ [])
mkdir_body body (Mkdir mode umask name) p = (record { mode = mode; umask = umask }, name, p.1)
mkdir_body body Passed p = let e : false ≡ true = listed body 9 9 p refl in absurd cc
mkdir_body body other p = absurd (omega (arith, p.0))

pub no_mkdir : (body : List ℕ) → ((mode : Mode) (umask : ℕ) (name : List ℕ) → IsRequestBody 9 body (Mkdir mode umask name) → ⊥) → (b : PlainBody) → IsRequestBody 9 body b → ⊥
no_mkdir body none b p = let q = mkdir_body body b p in none q.0.mode q.0.umask q.1 (refl, q.2)

pub unlink_body : (body : List ℕ) (b : PlainBody) → IsRequestBody 10 body b → (name : List ℕ) × IsSpelled body (Name name ∷ [])
unlink_body body (Unlink name) p = (name, p.1)
unlink_body body Passed p = let e : false ≡ true = listed body 10 10 p refl in absurd cc
unlink_body body other p = absurd (omega (arith, p.0))

pub no_unlink : (body : List ℕ) → ((name : List ℕ) → IsRequestBody 10 body (Unlink name) → ⊥) → (b : PlainBody) → IsRequestBody 10 body b → ⊥
no_unlink body none b p = let q = unlink_body body b p in none q.0 (refl, q.1)

pub rmdir_body : (body : List ℕ) (b : PlainBody) → IsRequestBody 11 body b → (name : List ℕ) × IsSpelled body (Name name ∷ [])
rmdir_body body (Rmdir name) p = (name, p.1)
rmdir_body body Passed p = let e : false ≡ true = listed body 11 11 p refl in absurd cc
rmdir_body body other p = absurd (omega (arith, p.0))

pub no_rmdir : (body : List ℕ) → ((name : List ℕ) → IsRequestBody 11 body (Rmdir name) → ⊥) → (b : PlainBody) → IsRequestBody 11 body b → ⊥
no_rmdir body none b p = let q = rmdir_body body b p in none q.0 (refl, q.1)

pub no_rename : (body : List ℕ) → ((newdir : ℕ) (old_name : List ℕ) (new_name : List ℕ) → IsRequestBody 12 body (Rename newdir old_name new_name) → ⊥) → (b : PlainBody) → IsRequestBody 12 body b → ⊥
no_rename body none (Rename newdir old_name new_name) p = none newdir old_name new_name p
no_rename body none Passed p = let e : false ≡ true = listed body 12 12 p refl in absurd cc
no_rename body none other p = absurd (omega (arith, p.0))

pub link_body : (body : List ℕ) (b : PlainBody) → IsRequestBody 13 body b → (block : LinkIn) × (name : List ℕ) × IsSpelled body (link_in block.oldnodeid ++ Name name ∷ [])
link_body body (Link oldnodeid new_name) p = (record { oldnodeid = oldnodeid }, new_name, p.1)
link_body body Passed p = let e : false ≡ true = listed body 13 13 p refl in absurd cc
link_body body other p = absurd (omega (arith, p.0))

pub no_link : (body : List ℕ) → ((oldnodeid : ℕ) (new_name : List ℕ) → IsRequestBody 13 body (Link oldnodeid new_name) → ⊥) → (b : PlainBody) → IsRequestBody 13 body b → ⊥
no_link body none b p = let q = link_body body b p in none q.0.oldnodeid q.1 (refl, q.2)

pub no_open : (body : List ℕ) → ((o : OpenIn) → IsRequestBody 14 body (Open o) → ⊥) → (b : PlainBody) → IsRequestBody 14 body b → ⊥
no_open body none (Open o) p = none o p
no_open body none Passed p = let e : false ≡ true = listed body 14 14 p refl in absurd cc
no_open body none other p = absurd (omega (arith, p.0))

pub no_read : (body : List ℕ) → ((r : ReadIn) → IsRequestBody 15 body (Read r) → ⊥) → (b : PlainBody) → IsRequestBody 15 body b → ⊥
no_read body none (Read r) p = none r p
no_read body none Passed p = let e : false ≡ true = listed body 15 15 p refl in absurd cc
no_read body none other p = absurd (omega (arith, p.0))

pub no_write : (body : List ℕ) → ((fh : ℕ) (offset : ℕ) (size : ℕ) (write_flags : ℕ) (lock_owner : ℕ) (flags : OpenFlags) (payload : List ℕ) → IsRequestBody 16 body (Write fh offset size write_flags lock_owner flags payload) → ⊥) → (b : PlainBody) → IsRequestBody 16 body b → ⊥
no_write body none (Write fh offset size write_flags lock_owner flags payload) p = none fh offset size write_flags lock_owner flags payload p
no_write body none Passed p = let e : false ≡ true = listed body 16 16 p refl in absurd cc
no_write body none other p = absurd (omega (arith, p.0))

pub no_release : (body : List ℕ) → ((r : ReleaseIn) → IsRequestBody 18 body (Release r) → ⊥) → (b : PlainBody) → IsRequestBody 18 body b → ⊥
no_release body none (Release r) p = none r p
no_release body none Passed p = let e : false ≡ true = listed body 18 18 p refl in absurd cc
no_release body none other p = absurd (omega (arith, p.0))

pub no_flush : (body : List ℕ) → ((f : FlushIn) → IsRequestBody 25 body (Flush f) → ⊥) → (b : PlainBody) → IsRequestBody 25 body b → ⊥
no_flush body none (Flush f) p = none f p
no_flush body none Passed p = let e : false ≡ true = listed body 25 25 p refl in absurd cc
no_flush body none other p = absurd (omega (arith, p.0))

pub no_init : (body : List ℕ) → ((i : InitIn) → IsRequestBody 26 body (Init i) → ⊥) → (b : PlainBody) → IsRequestBody 26 body b → ⊥
no_init body none (Init i) p = none i p
no_init body none Passed p = let e : false ≡ true = listed body 26 26 p refl in absurd cc
no_init body none other p = absurd (omega (arith, p.0))

pub no_opendir : (body : List ℕ) → ((o : OpenIn) → IsRequestBody 27 body (Opendir o) → ⊥) → (b : PlainBody) → IsRequestBody 27 body b → ⊥
no_opendir body none (Opendir o) p = none o p
no_opendir body none Passed p = let e : false ≡ true = listed body 27 27 p refl in absurd cc
no_opendir body none other p = absurd (omega (arith, p.0))

pub no_readdir : (body : List ℕ) → ((r : ReadIn) → IsRequestBody 28 body (Readdir r) → ⊥) → (b : PlainBody) → IsRequestBody 28 body b → ⊥
no_readdir body none (Readdir r) p = none r p
no_readdir body none Passed p = let e : false ≡ true = listed body 28 28 p refl in absurd cc
no_readdir body none other p = absurd (omega (arith, p.0))

pub no_releasedir : (body : List ℕ) → ((r : ReleaseIn) → IsRequestBody 29 body (Releasedir r) → ⊥) → (b : PlainBody) → IsRequestBody 29 body b → ⊥
no_releasedir body none (Releasedir r) p = none r p
no_releasedir body none Passed p = let e : false ≡ true = listed body 29 29 p refl in absurd cc
no_releasedir body none other p = absurd (omega (arith, p.0))

pub create_body : (body : List ℕ) (b : PlainBody) → IsRequestBody 35 body b → (block : CreateIn) × (name : List ℕ) × IsSpelled body (create_in block.flags block.mode block.umask ++ Name name ∷ [])
create_body body (Create flags mode umask name) p = (record { flags = flags; mode = mode; umask = umask }, name, p.1)
create_body body Passed p = let e : false ≡ true = listed body 35 35 p refl in absurd cc
create_body body other p = absurd (omega (arith, p.0))

pub no_create : (body : List ℕ) → ((flags : OpenFlags) (mode : Mode) (umask : ℕ) (name : List ℕ) → IsRequestBody 35 body (Create flags mode umask name) → ⊥) → (b : PlainBody) → IsRequestBody 35 body b → ⊥
no_create body none b p = let q = create_body body b p in none q.0.flags q.0.mode q.0.umask q.1 (refl, q.2)

pub no_batch_forget : (body : List ℕ) → ((count : ℕ) (items : List ℕ) → IsRequestBody 42 body (BatchForget count items) → ⊥) → (b : PlainBody) → IsRequestBody 42 body b → ⊥
no_batch_forget body none (BatchForget count items) p = none count items p
no_batch_forget body none Passed p = let e : false ≡ true = listed body 42 42 p refl in absurd cc
no_batch_forget body none other p = absurd (omega (arith, p.0))

pub no_readdirplus : (body : List ℕ) → ((r : ReadIn) → IsRequestBody 44 body (Readdirplus r) → ⊥) → (b : PlainBody) → IsRequestBody 44 body b → ⊥
no_readdirplus body none (Readdirplus r) p = none r p
no_readdirplus body none Passed p = let e : false ≡ true = listed body 44 44 p refl in absurd cc
no_readdirplus body none other p = absurd (omega (arith, p.0))

-- RENAME2 has its form whatever its flags
pub no_rename2 : (body : List ℕ) → ((newdir flags : ℕ) (old_name new_name : List ℕ) → IsSpelled body (rename2_in newdir flags ++ Name old_name ∷ Name new_name ∷ []) → ⊥) → (b : PlainBody) → IsRequestBody 45 body b → ⊥
no_rename2 body none (Rename2 newdir flags old_name new_name) p = none newdir (rename_bits flags) old_name new_name p.1
no_rename2 body none Passed p = let o = other_rename 45 body p refl in none o.newdir o.flags o.old_name o.new_name o.spelled
no_rename2 body none other p = absurd (omega (arith, p.0))

-- ---- one reading

abbrev forget_of : List Field → PlainBody
forget_of (U64 nlookup ∷ rest) = Forget nlookup
forget_of _ = Passed

abbrev mknod_of : List Field → PlainBody
mknod_of (U32 mode ∷ U32 rdev ∷ U32 umask ∷ Unread n ∷ Name name ∷ rest) = Mknod (record { 0 = mode }) rdev umask name
mknod_of _ = Passed

abbrev mkdir_of : List Field → PlainBody
mkdir_of (U32 mode ∷ U32 umask ∷ Name name ∷ rest) = Mkdir (record { 0 = mode }) umask name
mkdir_of _ = Passed

abbrev rename_of : List Field → PlainBody
rename_of (U64 newdir ∷ Name old_name ∷ Name new_name ∷ rest) = Rename newdir old_name new_name
rename_of _ = Passed

abbrev newdir_of : List Field → ℕ
newdir_of (U64 newdir ∷ rest) = newdir
newdir_of _ = 0

abbrev flags_of : List Field → ℕ
flags_of (U64 newdir ∷ U32 flags ∷ rest) = flags
flags_of _ = 0

abbrev old_name_of : List Field → List ℕ
old_name_of (U64 newdir ∷ U32 flags ∷ Unread n ∷ Name old_name ∷ rest) = old_name
old_name_of _ = []

abbrev new_name_of : List Field → List ℕ
new_name_of (U64 newdir ∷ U32 flags ∷ Unread n ∷ Name old_name ∷ Name new_name ∷ rest) = new_name
new_name_of _ = []

-- flags are known by their bits
rename_flags-one : (a b : RenameFlags) → rename_bits a ≡ rename_bits b → a ≡ b
rename_flags-one Replace Replace same = refl
rename_flags-one NoReplace NoReplace same = refl
rename_flags-one Exchange Exchange same = refl
rename_flags-one a b same = absurd (omega (arith, same))

abbrev rename2_fields : (newdir flags : ℕ) (old_name new_name : List ℕ) → List Field
rename2_fields newdir flags old_name new_name = rename2_in newdir flags ++ Name old_name ∷ Name new_name ∷ []

-- the fields of a RENAME2 are known
pub rename2-one : (body : List ℕ) (newdir flags newdir' flags' : ℕ) (old_name new_name old_name' new_name' : List ℕ)
    → IsSpelled body (rename2_fields newdir flags old_name new_name) → IsSpelled body (rename2_fields newdir' flags' old_name' new_name')
    → rename2_fields newdir flags old_name new_name ≡ rename2_fields newdir' flags' old_name' new_name'
rename2-one body newdir flags newdir' flags' old_name new_name old_name' new_name' p q =
    (fields-one (rename2_fields newdir flags old_name new_name) (rename2_fields newdir' flags' old_name' new_name') body [] [] (refl, tt) p q).0

-- a RENAME2 is judged or not
rename2_is_judged : (opcode : ℕ) (body : List ℕ) (newdir : ℕ) (flags : RenameFlags) (old_name new_name : List ℕ)
    → IsRequestBody opcode body (Rename2 newdir flags old_name new_name) → IsRequestBody opcode body Passed → ⊥
rename2_is_judged opcode body newdir flags old_name new_name p q =
    let other = other_rename opcode body q p.0 in
    other.other flags (ap flags_of (rename2-one body newdir (rename_bits flags) other.newdir other.flags old_name new_name other.old_name other.new_name p.1 other.spelled))

abbrev link_of : List Field → PlainBody
link_of (U64 oldnodeid ∷ Name new_name ∷ rest) = Link oldnodeid new_name
link_of _ = Passed

abbrev create_of : List Field → PlainBody
create_of (U32 flags ∷ U32 mode ∷ U32 umask ∷ Unread n ∷ Name name ∷ rest) = Create (record { 0 = flags }) (record { 0 = mode }) umask name
create_of _ = Passed

abbrev symlink_of : List Field → PlainBody
symlink_of (Name name ∷ Target target ∷ rest) = Symlink name target
symlink_of _ = Passed

abbrev name_of : List Field → List ℕ
name_of (Name name ∷ rest) = name
name_of _ = []

abbrev write_of : List Field → List ℕ → PlainBody
write_of (U64 fh ∷ U64 offset ∷ U32 size ∷ U32 write_flags ∷ U64 lock_owner ∷ U32 flags ∷ rest) payload =
    Write fh offset size write_flags lock_owner (record { 0 = flags }) payload
write_of _ payload = Passed

abbrev batch_forget_of : List Field → List ℕ → PlainBody
batch_forget_of (U32 count ∷ rest) items = BatchForget count items
batch_forget_of _ items = Passed

name-one : (body x y : List ℕ) → IsSpelled body (Name x ∷ []) → IsSpelled body (Name y ∷ []) → x ≡ y
name-one body x y p q = ap name_of (fields-one (Name x ∷ []) (Name y ∷ []) body [] [] tt p q).0

pub body-one : (opcode : ℕ) (body : List ℕ) (x y : PlainBody) → IsRequestBody opcode body x → IsRequestBody opcode body y → x ≡ y
body-one opcode body (Lookup x) (Lookup y) p q = ap (λ (n : List ℕ). Lookup n) (name-one body x y p.1 q.1)
body-one opcode body (Forget nlookup) (Forget nlookup') p q =
    ap forget_of (fields-one (forget_in nlookup) (forget_in nlookup') body [] [] tt p.1 q.1).0
body-one opcode body (Getattr x) (Getattr y) p q = ap (λ (z : GetattrIn). Getattr z) (getattr_in-one x y body [] [] p.1 q.1)
body-one opcode body (Setattr x) (Setattr y) p q = ap (λ (z : SetattrIn). Setattr z) (setattr_in-one x y body [] [] p.1 q.1)
body-one opcode body Readlink Readlink p q = refl
body-one opcode body (Symlink name target) (Symlink name' target') p q =
    ap symlink_of (fields-one (Name name ∷ Target target ∷ []) (Name name' ∷ Target target' ∷ []) body [] [] tt p.1 q.1).0
body-one opcode body (Mknod mode rdev umask name) (Mknod mode' rdev' umask' name') p q =
    ap mknod_of (fields-one (mknod_in mode rdev umask ++ Name name ∷ []) (mknod_in mode' rdev' umask' ++ Name name' ∷ []) body [] [] (refl, tt) p.2 q.2).0
body-one opcode body (Mkdir mode umask name) (Mkdir mode' umask' name') p q =
    ap mkdir_of (fields-one (mkdir_in mode umask ++ Name name ∷ []) (mkdir_in mode' umask' ++ Name name' ∷ []) body [] [] tt p.1 q.1).0
body-one opcode body (Unlink x) (Unlink y) p q = ap (λ (n : List ℕ). Unlink n) (name-one body x y p.1 q.1)
body-one opcode body (Rmdir x) (Rmdir y) p q = ap (λ (n : List ℕ). Rmdir n) (name-one body x y p.1 q.1)
body-one opcode body (Rename newdir old_name new_name) (Rename newdir' old_name' new_name') p q =
    ap rename_of (fields-one (rename_in newdir ++ Name old_name ∷ Name new_name ∷ []) (rename_in newdir' ++ Name old_name' ∷ Name new_name' ∷ []) body [] [] tt p.1 q.1).0
body-one opcode body (Link oldnodeid new_name) (Link oldnodeid' new_name') p q =
    ap link_of (fields-one (link_in oldnodeid ++ Name new_name ∷ []) (link_in oldnodeid' ++ Name new_name' ∷ []) body [] [] tt p.1 q.1).0
body-one opcode body (Open x) (Open y) p q = ap (λ (z : OpenIn). Open z) (open_in-one x y body [] [] p.1 q.1)
body-one opcode body (Read x) (Read y) p q = ap (λ (z : ReadIn). Read z) (read_in-one x y body [] [] p.1 q.1)
body-one opcode body (Write fh offset size write_flags lock_owner flags payload) (Write fh' offset' size' write_flags' lock_owner' flags' payload') p q =
    let one = fields-one (write_in fh offset size write_flags lock_owner flags) (write_in fh' offset' size' write_flags' lock_owner' flags') body payload payload' (refl, tt) p.1 q.1 in
    ap (λ (fs : List Field). write_of fs payload) one.0 ∙ ap (λ (x : List ℕ). write_of (write_in fh' offset' size' write_flags' lock_owner' flags') x) one.1
body-one opcode body (Release x) (Release y) p q = ap (λ (z : ReleaseIn). Release z) (release_in-one x y body [] [] p.1 q.1)
body-one opcode body (Flush x) (Flush y) p q = ap (λ (z : FlushIn). Flush z) (flush_in-one x y body [] [] p.1 q.1)
body-one opcode body (Init i) (Init j) p q = ap (λ (z : InitIn). Init z) (init_in-one i j body p.1 q.1 p.2 q.2)
body-one opcode body (Opendir x) (Opendir y) p q = ap (λ (z : OpenIn). Opendir z) (open_in-one x y body [] [] p.1 q.1)
body-one opcode body (Readdir x) (Readdir y) p q = ap (λ (z : ReadIn). Readdir z) (read_in-one x y body [] [] p.1 q.1)
body-one opcode body (Releasedir x) (Releasedir y) p q = ap (λ (z : ReleaseIn). Releasedir z) (release_in-one x y body [] [] p.1 q.1)
body-one opcode body (Create flags mode umask name) (Create flags' mode' umask' name') p q =
    ap create_of (fields-one (create_in flags mode umask ++ Name name ∷ []) (create_in flags' mode' umask' ++ Name name' ∷ []) body [] [] (refl, tt) p.1 q.1).0
body-one opcode body (BatchForget count items) (BatchForget count' items') p q =
    let one = fields-one (batch_forget_in count) (batch_forget_in count') body items items' (refl, tt) p.1 q.1 in
    ap (λ (fs : List Field). batch_forget_of fs items) one.0 ∙ ap (λ (x : List ℕ). batch_forget_of (batch_forget_in count') x) one.1
body-one opcode body (Readdirplus x) (Readdirplus y) p q = ap (λ (z : ReadIn). Readdirplus z) (read_in-one x y body [] [] p.1 q.1)
body-one opcode body (Rename2 newdir flags old_name new_name) (Rename2 newdir' flags' old_name' new_name') p q =
    let one = rename2-one body newdir (rename_bits flags) newdir' (rename_bits flags') old_name new_name old_name' new_name' p.1 q.1 in
    let dirs : newdir ≡ newdir' = ap newdir_of one in
    let same : flags ≡ flags' = rename_flags-one flags flags' (ap flags_of one) in
    let olds : old_name ≡ old_name' = ap old_name_of one in
    let news : new_name ≡ new_name' = ap new_name_of one in
    rw (dirs, same, olds, news) refl
body-one opcode body (Rename2 newdir flags old_name new_name) Passed p q = absurd (rename2_is_judged opcode body newdir flags old_name new_name p q)
body-one opcode body Passed (Rename2 newdir flags old_name new_name) p q = absurd (rename2_is_judged opcode body newdir flags old_name new_name q p)
body-one opcode body Passed Passed p q = refl
body-one opcode body Passed y p q = let e : false ≡ true = listed body opcode _ p q.0 in absurd cc
body-one opcode body x Passed p q = let e : false ≡ true = listed body opcode _ q p.0 in absurd cc
body-one opcode body x y p q = absurd (omega (arith, p.0, q.0))

-- ---- the operations of bodies are of the set

abbrev pub EachIs : (ℕ → Type 0) → List ℕ → Type 0
EachIs Such [] = Unit {0}
EachIs Such (m ∷ ms) = Such m × EachIs Such ms

pub one_is : (Such : ℕ → Type 0) (ms : List ℕ) (n : ℕ) → EachIs Such ms → IsOneOf ms n → Such n
one_is Such [] n each p = absurd p
one_is Such (m ∷ ms) n each p = elim p [ inl e ↦ rw e each.0 | inr q ↦ one_is Such ms n each.1 q ]

bystander_in_set : EachIs IsOperation bystanders
bystander_in_set = search rules

changer_in_set : EachIs IsOperation changers
changer_in_set = search rules

pub operation_of : (opcode : ℕ) (body : List ℕ) (b : PlainBody) → IsRequestBody opcode body b → IsOperation opcode
operation_of opcode body Passed p =
    elim p [ inl q ↦ one_is IsOperation bystanders opcode bystander_in_set q | inr q ↦ one_is IsOperation changers opcode changer_in_set q.0 ]
operation_of opcode body other p = (omega (arith, p.0), omega (arith, p.0), (λ e. absurd (omega (arith, p.0, e))), (λ e. absurd (omega (arith, p.0, e))), λ e. absurd (omega (arith, p.0, e)))
