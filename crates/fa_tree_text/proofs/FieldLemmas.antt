-- The fields of a line are read in one way.
use Rattle.std.proofs.Common.{◌≡◌, ℕ, ◌+◌, ◌-◌, ◌/◌, ◌%◌, ◌==◌, ◌≤◌, if◌then◌else◌, List, ◌∷◌, ◌++◌, length, get_or, take, drop, Option, Some, None, refl, sym, ap, ◌∙◌, arith}
use Rattle.std.proofs.lemmas.List.{take_all, append-nil}
use Rattle.fa_bodies.specs.declared.mode.Kind.{Kind}
use Rattle.fa_bodies.specs.declared.mode.Kind.TheVariants.{Fifo, CharDevice, Directory, BlockDevice, Regular, Symlink, Socket}
use Rattle.fa_tree.specs.Attributes.{all_bits}
use Rattle.fa_order.specs.Lines.{LacksLine}
use Rattle.fa_tree_text.specs.TreeLines.{letter, octal, body_text}
use Rattle.fa_bodies.specs.Names.{LacksByte}
use Rattle.fa_tree_text.specs.parts.Fields.{IsFileLine, IsNameLine, LacksFile, LacksName}
use Rattle.fa_tree_text.proofs.SplitLemmas.{no_split, one_split}

-- what stands behind the first two bytes
pub behind_two : (a b : ℕ) (line x : List ℕ) → line ≡ a ∷ b ∷ x → take (length line - 2) (drop 2 line) ≡ x
behind_two a b line x e = ap (λ (l : List ℕ). take (length l - 2) (drop 2 l)) e ∙ take_all (length (a ∷ b ∷ x) - 2) x (omega arith)

-- what stands behind the letter of a type and a space
pub behind_letter : (kind : Kind) (line x : List ℕ) → line ≡ letter kind ++ 32 ∷ x → take (length line - 2) (drop 2 line) ≡ x
behind_letter Directory line x e = behind_two 100 32 line x e
behind_letter Regular line x e = behind_two 102 32 line x e
behind_letter Symlink line x e = behind_two 115 32 line x e
behind_letter Fifo line x e = behind_two 112 32 line x e
behind_letter CharDevice line x e = behind_two 99 32 line x e
behind_letter BlockDevice line x e = behind_two 98 32 line x e
behind_letter Socket line x e = behind_two 107 32 line x e

-- a line of a file has permission bits
pub no_bits : (line : List ℕ) → ((bits : ℕ) → bits ≤ all_bits → LacksLine (take (length line - 2) (drop 2 line)) (octal bits)) → LacksFile line
no_bits line none kind bits path body p =
    none bits p.are_bits (32 ∷ (path ++ body_text body)) (behind_letter kind line (octal bits ++ 32 ∷ (path ++ body_text body)) p.spelled)

-- a line of a further name has a space behind the first path
pub no_older : (line : List ℕ) → LacksByte 32 (take (length line - 2) (drop 2 line)) → LacksName line
no_older line none path older p = no_split 32 (take (length line - 2) (drop 2 line)) path older none (behind_two 104 32 line (path ++ 32 ∷ older) p.spelled)

-- ---- one list of fields

-- the type that a letter stands for
kind_at : ℕ → Kind
kind_at b =
    if b == 100 then Directory else if b == 102 then Regular else if b == 115 then Symlink else if b == 112 then Fifo else if b == 99 then CharDevice else if b == 98 then BlockDevice else Socket

letter_back : (kind : Kind) → kind_at (get_or (letter kind) 0 0) ≡ kind
unfolding kind_at
letter_back Directory = refl
letter_back Regular = refl
letter_back Symlink = refl
letter_back Fifo = refl
letter_back CharDevice = refl
letter_back BlockDevice = refl
letter_back Socket = refl

-- the first byte of a line is its letter
pub first_byte : (kind : Kind) (x : List ℕ) → get_or (letter kind ++ x) 0 0 ≡ get_or (letter kind) 0 0
first_byte Directory x = refl
first_byte Regular x = refl
first_byte Symlink x = refl
first_byte Fifo x = refl
first_byte CharDevice x = refl
first_byte BlockDevice x = refl
first_byte Socket x = refl

-- no type has the letter `h`
no_type : (kind : Kind) → get_or (letter kind) 0 0 ≡ 104 → ⊥
no_type Directory e = omega (arith, e)
no_type Regular e = omega (arith, e)
no_type Symlink e = omega (arith, e)
no_type Fifo e = omega (arith, e)
no_type CharDevice e = omega (arith, e)
no_type BlockDevice e = omega (arith, e)
no_type Socket e = omega (arith, e)

-- a path, and what stands behind it
one_body : (p q : List ℕ) (a b : Option (List ℕ)) → LacksByte 32 p → LacksByte 32 q → p ++ body_text a ≡ q ++ body_text b → (p ≡ q) × (a ≡ b)
one_body p q None None lacks too e = (sym (append-nil p) ∙ e ∙ append-nil q, refl)
one_body p q None (Some b) lacks too e = absurd (no_split 32 p q b lacks (sym (append-nil p) ∙ e))
one_body p q (Some a) None lacks too e = absurd (no_split 32 q p a too (sym (append-nil q) ∙ sym e))
one_body p q (Some a) (Some b) lacks too e = let parts = one_split 32 p q a b lacks too e in (parts.0, ap (λ (x : List ℕ). Some x) parts.1)

-- three octal digits
pub one_octal : (m n : ℕ) (x y : List ℕ) → m ≤ all_bits → n ≤ all_bits → octal m ++ x ≡ octal n ++ y → (m ≡ n) × (x ≡ y)
one_octal m n x y fits too e =
    let high : 48 + m / 64 ≡ 48 + n / 64 = cc in
    let middle : 48 + m / 8 % 8 ≡ 48 + n / 8 % 8 = cc in
    let low : 48 + m % 8 ≡ 48 + n % 8 = cc in
    (omega (arith, high, middle, low, fits, too), cc)

-- the fields of a file
pub record SameFile (kind : Kind) (bits : ℕ) (path : List ℕ) (body : Option (List ℕ)) (k : Kind) (b : ℕ) (p : List ℕ) (o : Option (List ℕ)) : Type 0 where
  pub kinds : kind ≡ k
  pub same_bits : bits ≡ b
  pub paths : path ≡ p
  pub bodies : body ≡ o

pub one_file : (line : List ℕ) (kind k : Kind) (bits b : ℕ) (path p : List ℕ) (body o : Option (List ℕ)) → IsFileLine line kind bits path body → IsFileLine line k b p o → SameFile kind bits path body k b p o
one_file line kind k bits b path p body o is too =
    let letters : get_or (letter kind) 0 0 ≡ get_or (letter k) 0 0 =
    sym (first_byte kind (32 ∷ (octal bits ++ 32 ∷ (path ++ body_text body)))) ∙ ap (λ (l : List ℕ). get_or l 0 0) (sym is.spelled ∙ too.spelled) ∙ first_byte k (32 ∷ (octal b ++ 32 ∷ (p ++ body_text o))) in
    let behind : octal bits ++ 32 ∷ (path ++ body_text body) ≡ octal b ++ 32 ∷ (p ++ body_text o) =
    sym (behind_letter kind line (octal bits ++ 32 ∷ (path ++ body_text body)) is.spelled) ∙ behind_letter k line (octal b ++ 32 ∷ (p ++ body_text o)) too.spelled in
    let digits = one_octal bits b (32 ∷ (path ++ body_text body)) (32 ∷ (p ++ body_text o)) is.are_bits too.are_bits behind in
    let spaced : 32 ∷ (path ++ body_text body) ≡ 32 ∷ (p ++ body_text o) = digits.1 in
    let rest : path ++ body_text body ≡ p ++ body_text o = cc in
    let parts = one_body path p body o is.no_space too.no_space rest in
    record {
      kinds = sym (letter_back kind) ∙ ap kind_at letters ∙ letter_back k;
      same_bits = digits.0;
      paths = parts.0;
      bodies = parts.1;
    }

-- the fields of a further name
pub one_name : (line path p older o : List ℕ) → IsNameLine line path older → IsNameLine line p o → (path ≡ p) × (older ≡ o)
one_name line path p older o is too =
    one_split 32 path p older o is.no_space too.no_space (sym (behind_two 104 32 line (path ++ 32 ∷ older) is.spelled) ∙ behind_two 104 32 line (p ++ 32 ∷ o) too.spelled)

-- a line of a file is none of a further name
pub file_or_name : (line : List ℕ) (kind : Kind) (bits : ℕ) (path : List ℕ) (body : Option (List ℕ)) (p o : List ℕ) → IsFileLine line kind bits path body → IsNameLine line p o → ⊥
file_or_name line kind bits path body p o is too =
    no_type kind (sym (first_byte kind (32 ∷ (octal bits ++ 32 ∷ (path ++ body_text body)))) ∙ ap (λ (l : List ℕ). get_or l 0 0) (sym is.spelled ∙ too.spelled))
