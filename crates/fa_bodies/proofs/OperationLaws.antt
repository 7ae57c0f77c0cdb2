-- Each operation that is read has some body.
use Rattle.std.proofs.Common.{◌≡◌, ◌≢◌, ℕ, zero, suc, ◌≤◌, ◌<◌, ◌^◌, List, [], ◌∷◌, ◌++◌, length, All, get_or, ap, refl, arith, inl, inr}
use Rattle.std.specs.Prelude.{◌↔◌}
use Rattle.std.proofs.lemmas.Bool.{cases_eq}
use Rattle.fa_bodies.specs.declared.getattr.GetattrIn.{GetattrIn}
use Rattle.fa_bodies.specs.declared.setattr.SetattrIn.{SetattrIn}
use Rattle.fa_bodies.specs.declared.handles.FlushIn.{FlushIn}
use Rattle.fa_bodies.specs.declared.handles.OpenIn.{OpenIn}
use Rattle.fa_bodies.specs.declared.handles.ReadIn.{ReadIn}
use Rattle.fa_bodies.specs.declared.handles.ReleaseIn.{ReleaseIn}
use Rattle.fa_bodies.specs.declared.init.InitIn.{InitIn}
use Rattle.fa_bodies.specs.declared.rename_flags.RenameFlags.TheVariants.{Replace}
use Rattle.fa_bodies.specs.Fields.{Field, BeginsWith, IsSpelled, le32, le64}
use Rattle.fa_bodies.specs.Fields.Field.{U32, U64, I32, Unread, Name, Target}
use Rattle.fa_bodies.specs.Names.{IsName, IsNameByte, IsTarget}
use Rattle.fa_bodies.specs.Requests.{PlainBody, IsOneOf, IsOperation, IsRequestBody, HasBody}
use Rattle.fa_bodies.specs.Requests.PlainBody.{Lookup, Forget, Getattr, Setattr, Readlink, Symlink, Mknod, Mkdir, Unlink, Rmdir, Rename, Link, Open, Read, Write, Release, Flush, Init, Opendir, Readdir, Releasedir, Create, BatchForget, Readdirplus, Rename2, Passed}
use Rattle.fa_bodies.specs.Structs.{forget_in, getattr_in, setattr_in, mknod_in, mkdir_in, rename_in, rename2_in, link_in, open_in, read_in, write_in, release_in, flush_in, init_in, create_in, batch_forget_in}
use Rattle.fa_bodies.proofs.BodyLaws.{EachIs, one_is, operation_of}

-- ---- fields can be spelled

-- values that fields can have
abbrev Fit : List Field → Type 0
Fit [] = Unit {0}
Fit (U32 n ∷ fields) = (n < 2 ^ 32) × Fit fields
Fit (U64 n ∷ fields) = (n < 2 ^ 64) × Fit fields
Fit (I32 z ∷ fields) = ⊥
Fit (Unread count ∷ fields) = Fit fields
Fit (Name name ∷ fields) = IsName name × Fit fields
Fit (Target target ∷ fields) = IsTarget target × Fit fields

zeros : (count : ℕ) → (bytes : List ℕ) × (length bytes ≡ count)
zeros zero = ([], refl)
zeros (suc count) = let others = zeros count in (0 ∷ others.0, omega (arith, others.1))

spelled : (fields : List Field) (rest : List ℕ) → Fit fields → (bytes : List ℕ) × BeginsWith bytes fields rest
spelled [] rest fit = (rest, refl)
spelled (U32 n ∷ fields) rest fit = let later = spelled fields rest fit.1 in (le32 n ++ later.0, (fit.0, later.0, refl, later.1))
spelled (U64 n ∷ fields) rest fit = let later = spelled fields rest fit.1 in (le64 n ++ later.0, (fit.0, later.0, refl, later.1))
spelled (I32 z ∷ fields) rest fit = absurd fit
spelled (Unread count ∷ fields) rest fit =
    let later = spelled fields rest fit in
    let skipped = zeros count in (skipped.0 ++ later.0, (skipped.0, later.0, skipped.1, refl, later.1))
spelled (Name name ∷ fields) rest fit = let later = spelled fields rest fit.1 in (name ++ 0 ∷ later.0, (fit.0, later.0, refl, later.1))
spelled (Target target ∷ fields) rest fit = let later = spelled fields rest fit.1 in (target ++ 0 ∷ later.0, (fit.0, later.0, refl, later.1))

-- ---- a name and structs to take

abbrev some_name : List ℕ
some_name = 97 ∷ []

only_byte : (Such : ℕ → Type 0) → Such 97 → All Such some_name
only_byte Such p zero d less = p
only_byte Such p (suc k) d less = absurd (omega (arith, less))

is_name : IsName some_name
is_name = record {
  filename = record {
    not_empty = omega arith;
    not_too_long = omega arith;
    each_byte = only_byte IsNameByte ((λ e. absurd (omega (arith, e))), λ e. absurd (omega (arith, e)));
  };
  not_dot = λ e. absurd (omega (arith, ap (λ (x : List ℕ). get_or x 0 0) e));
  not_dot_dot = λ e. absurd (omega (arith, ap (λ (x : List ℕ). get_or x 0 0) e));
}

is_target : IsTarget some_name
is_target = (omega arith, only_byte (λ b. b ≢ 0) (λ e. absurd (omega (arith, e))))

abbrev SomeBody : ℕ → Type 0
SomeBody opcode = (body : List ℕ) × HasBody opcode body

abbrev some_getattr : GetattrIn
some_getattr = record { getattr_flags = record { 0 = 0 }; fh = 0 }

abbrev some_setattr : SetattrIn
some_setattr = record { valid = record { 0 = 0 }; fh = 0; size = 0; lock_owner = 0; atime = 0; mtime = 0; ctime = 0; atimensec = 0; mtimensec = 0; ctimensec = 0; mode = record { 0 = 0 }; uid = 0; gid = 0 }

abbrev some_open : OpenIn
some_open = record { flags = record { 0 = 0 } }

abbrev some_read : ReadIn
some_read = record { fh = 0; offset = 0; size = 0; read_flags = 0; lock_owner = 0; flags = record { 0 = 0 } }

abbrev some_release : ReleaseIn
some_release = record { fh = 0; flags = record { 0 = 0 }; release_flags = 0; lock_owner = 0 }

abbrev some_flush : FlushIn
some_flush = record { fh = 0; lock_owner = 0 }

abbrev some_init : InitIn
some_init = record { major = 7; minor = 31; max_readahead = 0; flags = record { 0 = 0 } }

spelled_body : (opcode : ℕ) (b : PlainBody) (fields : List Field) → Fit fields
    → ((body : List ℕ) → IsSpelled body fields → IsRequestBody opcode body b) → SomeBody opcode
spelled_body opcode b fields fit is = let made = spelled fields [] fit in (made.0, (b, is made.0 made.1))

abbrev UnlessNone : ℕ → Type 0
UnlessNone opcode = opcode ≢ 7 → opcode ≢ 19 → opcode ≢ 41 → SomeBody opcode

up_to : ℕ → List ℕ
up_to zero = []
up_to (suc k) = suc k ∷ up_to k

in_up_to : (k n : ℕ) → 1 ≤ n → n ≤ k → IsOneOf (up_to k) n
unfolding up_to
in_up_to zero n a b = absurd (omega (arith, a, b))
in_up_to (suc k) n a b = elim (cases_eq n (suc k)) [ inl e ↦ inl e | inr other ↦ inr (in_up_to k n a (omega (arith, b, other))) ]

body_1 : UnlessNone 1
body_1 = λ a b c. spelled_body 1 (Lookup some_name) (Name some_name ∷ []) (is_name, tt) (λ body p. (refl, p))

body_2 : UnlessNone 2
body_2 = λ a b c. spelled_body 2 (Forget 0) (forget_in 0) (omega arith, tt) (λ body p. (refl, p))

body_3 : UnlessNone 3
body_3 = λ a b c. spelled_body 3 (Getattr some_getattr) (getattr_in some_getattr) (omega arith, (omega arith, tt)) (λ body p. (refl, p))

body_4 : UnlessNone 4
body_4 = λ a b c. spelled_body 4 (Setattr some_setattr) (setattr_in some_setattr) (omega arith, (omega arith, (omega arith, (omega arith, (omega arith, (omega arith, (omega arith, (omega arith, (omega arith, (omega arith, (omega arith, (omega arith, (omega arith, tt))))))))))))) (λ body p. (refl, p))

body_5 : UnlessNone 5
body_5 = λ a b c. ([], (Readlink, (refl, refl)))

body_6 : UnlessNone 6
body_6 = λ a b c. spelled_body 6 (Symlink some_name some_name) (Name some_name ∷ Target some_name ∷ []) (is_name, (is_target, tt)) (λ body p. (refl, p))

body_7 : UnlessNone 7
body_7 = λ a b c. absurd (a refl)

body_8 : UnlessNone 8
body_8 = λ a b c. spelled_body 8 (Mknod (record { 0 = 0 }) 0 0 some_name) (mknod_in (record { 0 = 0 }) 0 0 ++ Name some_name ∷ []) (omega arith, (omega arith, (omega arith, (is_name, tt)))) (λ body p. (refl, inl refl, p))

body_9 : UnlessNone 9
body_9 = λ a b c. spelled_body 9 (Mkdir (record { 0 = 0 }) 0 some_name) (mkdir_in (record { 0 = 0 }) 0 ++ Name some_name ∷ []) (omega arith, (omega arith, (is_name, tt))) (λ body p. (refl, p))

body_10 : UnlessNone 10
body_10 = λ a b c. spelled_body 10 (Unlink some_name) (Name some_name ∷ []) (is_name, tt) (λ body p. (refl, p))

body_11 : UnlessNone 11
body_11 = λ a b c. spelled_body 11 (Rmdir some_name) (Name some_name ∷ []) (is_name, tt) (λ body p. (refl, p))

body_12 : UnlessNone 12
body_12 = λ a b c. spelled_body 12 (Rename 0 some_name some_name) (rename_in 0 ++ Name some_name ∷ Name some_name ∷ []) (omega arith, (is_name, (is_name, tt))) (λ body p. (refl, p))

body_13 : UnlessNone 13
body_13 = λ a b c. spelled_body 13 (Link 0 some_name) (link_in 0 ++ Name some_name ∷ []) (omega arith, (is_name, tt)) (λ body p. (refl, p))

body_14 : UnlessNone 14
body_14 = λ a b c. spelled_body 14 (Open some_open) (open_in some_open) (omega arith, tt) (λ body p. (refl, p))

body_15 : UnlessNone 15
body_15 = λ a b c. spelled_body 15 (Read some_read) (read_in some_read) (omega arith, (omega arith, (omega arith, (omega arith, (omega arith, (omega arith, tt)))))) (λ body p. (refl, p))

body_16 : UnlessNone 16
body_16 = λ a b c. let made = spelled (write_in 0 0 0 0 0 (record { 0 = 0 })) [] (omega arith, (omega arith, (omega arith, (omega arith, (omega arith, (omega arith, tt)))))) in (made.0, (Write 0 0 0 0 0 (record { 0 = 0 }) [], (refl, made.1, refl)))

body_17 : UnlessNone 17
body_17 = λ a b c. ([], (Passed, inl (inl refl)))

body_18 : UnlessNone 18
body_18 = λ a b c. spelled_body 18 (Release some_release) (release_in some_release) (omega arith, (omega arith, (omega arith, (omega arith, tt)))) (λ body p. (refl, p))

body_19 : UnlessNone 19
body_19 = λ a b c. absurd (b refl)

body_20 : UnlessNone 20
body_20 = λ a b c. ([], (Passed, inl (inr (inl refl))))

body_21 : UnlessNone 21
body_21 = λ a b c. ([], (Passed, inl (inr (inr (inr (inl refl))))))

body_22 : UnlessNone 22
body_22 = λ a b c. ([], (Passed, inl (inr (inr (inr (inr (inl refl)))))))

body_23 : UnlessNone 23
body_23 = λ a b c. ([], (Passed, inl (inr (inr (inr (inr (inr (inl refl))))))))

body_24 : UnlessNone 24
body_24 = λ a b c. ([], (Passed, inl (inr (inr (inr (inr (inr (inr (inl refl)))))))))

body_25 : UnlessNone 25
body_25 = λ a b c. spelled_body 25 (Flush some_flush) (flush_in some_flush) (omega arith, (omega arith, tt)) (λ body p. (refl, p))

body_26 : UnlessNone 26
body_26 = λ a b c. let made = spelled (init_in some_init) [] (omega arith, (omega arith, (omega arith, (omega arith, tt)))) in (made.0, (Init some_init, (refl, [], made.1)))

body_27 : UnlessNone 27
body_27 = λ a b c. spelled_body 27 (Opendir some_open) (open_in some_open) (omega arith, tt) (λ body p. (refl, p))

body_28 : UnlessNone 28
body_28 = λ a b c. spelled_body 28 (Readdir some_read) (read_in some_read) (omega arith, (omega arith, (omega arith, (omega arith, (omega arith, (omega arith, tt)))))) (λ body p. (refl, p))

body_29 : UnlessNone 29
body_29 = λ a b c. spelled_body 29 (Releasedir some_release) (release_in some_release) (omega arith, (omega arith, (omega arith, (omega arith, tt)))) (λ body p. (refl, p))

body_30 : UnlessNone 30
body_30 = λ a b c. ([], (Passed, inl (inr (inr (inl refl)))))

body_31 : UnlessNone 31
body_31 = λ a b c. ([], (Passed, inl (inr (inr (inr (inr (inr (inr (inr (inl refl))))))))))

body_32 : UnlessNone 32
body_32 = λ a b c. ([], (Passed, inl (inr (inr (inr (inr (inr (inr (inr (inr (inl refl)))))))))))

body_33 : UnlessNone 33
body_33 = λ a b c. ([], (Passed, inl (inr (inr (inr (inr (inr (inr (inr (inr (inr (inl refl))))))))))))

body_34 : UnlessNone 34
body_34 = λ a b c. ([], (Passed, inl (inr (inr (inr (inr (inr (inr (inr (inr (inr (inr (inl refl)))))))))))))

body_35 : UnlessNone 35
body_35 = λ a b c. spelled_body 35 (Create (record { 0 = 0 }) (record { 0 = 0 }) 0 some_name) (create_in (record { 0 = 0 }) (record { 0 = 0 }) 0 ++ Name some_name ∷ []) (omega arith, (omega arith, (omega arith, (is_name, tt)))) (λ body p. (refl, p))

body_36 : UnlessNone 36
body_36 = λ a b c. ([], (Passed, inl (inr (inr (inr (inr (inr (inr (inr (inr (inr (inr (inr (inl refl))))))))))))))

body_37 : UnlessNone 37
body_37 = λ a b c. ([], (Passed, inl (inr (inr (inr (inr (inr (inr (inr (inr (inr (inr (inr (inr (inl refl)))))))))))))))

body_38 : UnlessNone 38
body_38 = λ a b c. ([], (Passed, inl (inr (inr (inr (inr (inr (inr (inr (inr (inr (inr (inr (inr (inr (inl refl))))))))))))))))

body_39 : UnlessNone 39
body_39 = λ a b c. ([], (Passed, inr (inl refl, λ is. absurd (omega (arith, is)))))

body_40 : UnlessNone 40
body_40 = λ a b c. ([], (Passed, inl (inr (inr (inr (inr (inr (inr (inr (inr (inr (inr (inr (inr (inr (inr (inl refl)))))))))))))))))

body_41 : UnlessNone 41
body_41 = λ a b c. absurd (c refl)

body_42 : UnlessNone 42
body_42 = λ a b c. let made = spelled (batch_forget_in 0) [] (omega arith, tt) in (made.0, (BatchForget 0 [], (refl, made.1, refl)))

body_43 : UnlessNone 43
body_43 = λ a b c. ([], (Passed, inr (inr (inl refl), λ is. absurd (omega (arith, is)))))

body_44 : UnlessNone 44
body_44 = λ a b c. spelled_body 44 (Readdirplus some_read) (read_in some_read) (omega arith, (omega arith, (omega arith, (omega arith, (omega arith, (omega arith, tt)))))) (λ body p. (refl, p))

body_45 : UnlessNone 45
body_45 = λ a b c. spelled_body 45 (Rename2 0 Replace some_name some_name) (rename2_in 0 0 ++ Name some_name ∷ Name some_name ∷ []) (omega arith, (omega arith, (is_name, (is_name, tt)))) (λ body p. (refl, p))

body_46 : UnlessNone 46
body_46 = λ a b c. ([], (Passed, inl (inr (inr (inr (inr (inr (inr (inr (inr (inr (inr (inr (inr (inr (inr (inr (inl refl))))))))))))))))))

body_47 : UnlessNone 47
body_47 = λ a b c. ([], (Passed, inr (inr (inr (inr (inl refl))), λ is. absurd (omega (arith, is)))))

each_has : EachIs UnlessNone (up_to 47)
unfolding up_to
each_has = (body_47, (body_46, (body_45, (body_44, (body_43, (body_42, (body_41, (body_40, (body_39, (body_38, (body_37, (body_36, (body_35, (body_34, (body_33, (body_32, (body_31, (body_30, (body_29, (body_28, (body_27, (body_26, (body_25, (body_24, (body_23, (body_22, (body_21, (body_20, (body_19, (body_18, (body_17, (body_16, (body_15, (body_14, (body_13, (body_12, (body_11, (body_10, (body_9, (body_8, (body_7, (body_6, (body_5, (body_4, (body_3, (body_2, (body_1, tt)))))))))))))))))))))))))))))))))))))))))))))))

pub operation-bodies : (opcode : ℕ) → IsOperation opcode ↔ SomeBody opcode
operation-bodies opcode = (
  (λ is. one_is UnlessNone (up_to 47) opcode each_has (in_up_to 47 opcode is.0 is.1) is.2 is.3 is.4),
  (λ some. operation_of opcode some.0 some.1.0 some.1.1),
)
