use Rattle.std.proofs.Common.{◌≡◌, ◌++◌, ℕ, List, length, drop, None, ap, sym, subst, refl, ◌∙◌, arith}
use Rattle.std.specs.Prelude.{IfSome}
use Rattle.fa_capture.specs.declared.codes.TheConstants.{NO_MAGIC}
use Rattle.fa_capture.specs.declared.format.Format.TheVariants.{Plain}
use Rattle.fa_capture.specs.Message.{Recorded}
use Rattle.fa_capture.specs.Incoming.{HasCome}
use Rattle.fa_capture.specs.Reading.{HasMagic}
use Rattle.fa_capture.specs.parts.Arrivals.{incoming_shown}
use Rattle.fa_capture.specs.Walks.{HaveRead}
use Rattle.fa_capture.specs.parts.Walks.{IsMagicBegun}
use Rattle.fa_capture.proofs.ArrivalLemmas.{piece_behind, come_without, decided_without, open_without, come_behind, decided_behind, open_behind, left_behind}
use Rattle.fa_capture.proofs.StopLemmas.{none_held, empty_records}
use Rattle.fa_capture.proofs.incoming.Incoming.take.Goals as goal
use Rattle.fa_capture.proofs.incoming.Incoming.take.Goals.{After-magic_fault, After-decided_fault}

pub of-requires : goal.of-requires
of-requires c = none_held Plain

-- the bytes that are kept before and with the piece are no magic
without : (c : After-magic_fault) → (c.self.inside.so_far ≡ None) × (HasMagic c.extend_from_slice.new.self.items → ⊥)
without c =
    let none = c.in_default.ensures.none refl in
    (none.0, λ has. none.1 (subst HasMagic (sym c.deref.ensures.value) has))

come_here : (c : After-magic_fault) (bytes : List ℕ) (rs : List Recorded) → HasCome bytes rs c.args.self.now
    → (bytes ++ c.args.piece.now ≡ c.extend_from_slice.new.self.items) × HasCome (bytes ++ c.args.piece.now) (rs ++ c.of.result.records.0) (incoming_shown (record { kept = c.extend_from_slice.new.self; so_far = c.self.inside.so_far; code = c.self.inside.code }))
come_here c bytes rs come =
    come_without bytes c.args.piece.now rs c.of.result.records.0 c.self.inside.kept.items c.extend_from_slice.new.self.items c.self.inside.so_far c.self.inside.code
    (without c).0 c.in_ok-extend_from_slice.ensures.items (without c).1 (empty_records c.of.result.format c.of.result.bytes.now c.of.ensures.bytes c.of.result.records)
    (subst (HasCome bytes rs) (sym c.self.view_is) come)

pub returns-in_default-clause-come : goal.returns-in_default-clause-come
returns-in_default-clause-come c bytes rs come = (come_here c bytes rs come).1

pub returns-in_default-clause-decided : goal.returns-in_default-clause-decided
returns-in_default-clause-decided c bytes rs come =
    decided_without (bytes ++ c.args.piece.now) c.extend_from_slice.new.self.items c.magic_fault.result (come_here c bytes rs come).0 (without c).1
    (subst (λ (b : List ℕ). IfSome c.magic_fault.result (λ f. (f ≡ record { whole = 0; code = NO_MAGIC }) × ((rest : List ℕ) → HasMagic (b ++ rest) → HasMagic b)))
    c.deref-in_default.ensures.value c.magic_fault.ensures.decided)

pub returns-in_default-clause-open : goal.returns-in_default-clause-open
returns-in_default-clause-open c bytes rs come =
    open_without (bytes ++ c.args.piece.now) c.extend_from_slice.new.self.items c.magic_fault.result (come_here c bytes rs come).0
    (λ none. subst IsMagicBegun c.deref-in_default.ensures.value (c.magic_fault.ensures.open none))

-- the walk has read what was read before
have_here : (c : After-decided_fault) (bytes : List ℕ) (rs : List Recorded) → HasCome bytes rs c.args.self.now → HaveRead (bytes ++ c.args.piece.now) rs c.in-Some.walk
have_here c bytes rs come =
    let old = subst (HasCome bytes rs) (sym c.self.view_is) come in
    c.in-Some.ensures.some (bytes ++ c.args.piece.now) rs
    (piece_behind bytes c.args.piece.now rs c.self.inside.kept.items c.deref.result.now c.self.inside.so_far (c.deref.ensures.value ∙ c.in_ok-extend_from_slice.ensures.items) old.read)

-- what stands behind the whole records is kept
kept_here : (c : After-decided_fault) → c.give_up.new.kept.items ≡ c.in_ok-whole.ensures.after.left
kept_here c =
    let kept : List ℕ = c.extend_from_slice.new.self.items in
    let on = c.in_ok-whole.ensures.on in
    let left : List ℕ = c.in_ok-whole.ensures.after.left in
    let all : length kept ≡ c.len.result = omega (arith, ap length c.deref.ensures.value, c.deref.ensures.len, c.len.ensures) in
    c.in_ok-give_up.ensures ∙ ap (λ (n : ℕ). drop n kept) (omega (arith, all, c.in_ok-whole.ensures.left))
    ∙ left_behind kept c.in-Some.ensures.left.0 on.over left c.in-Some.walk.left (sym c.deref.ensures.value ∙ c.in-Some.ensures.left.1) on.left

pub returns-clause-come : goal.returns-clause-come
returns-clause-come c bytes rs come =
    come_behind (bytes ++ c.args.piece.now) rs c.in-Some.walk c.in_ok-whole.whole c.in_ok-whole.ensures (have_here c bytes rs come) c.give_up.new.kept.items (kept_here c)

pub returns-clause-decided : goal.returns-clause-decided
returns-clause-decided c bytes rs come =
    decided_behind (bytes ++ c.args.piece.now) rs c.in-Some.walk c.in_ok-whole.whole c.in_ok-whole.ensures (have_here c bytes rs come) c.decided_fault.result c.decided_fault.ensures.decided

pub returns-clause-open : goal.returns-clause-open
returns-clause-open c bytes rs come =
    open_behind (bytes ++ c.args.piece.now) rs c.in-Some.walk c.in_ok-whole.whole c.in_ok-whole.ensures (have_here c bytes rs come) c.decided_fault.result c.decided_fault.ensures.open
