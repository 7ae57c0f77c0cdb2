use Rattle.std.proofs.Common.{◌≡◌, fold, ℕ, ◌<◌, ◌≤◌, length, List, [], ◌∷◌, take, drop, refl, sym, ap, ◌∙◌, arith, rules}
use Rattle.fa_tree.specs.parts.NameFed.{name_fed}
use Rattle.fa_tree.proofs.name_hash.feed_name.Goals as goal

-- of a name of more than eight bytes eight are fed, and then the others
eight_first : (name : List ℕ) → 8 < length name → name_fed name ≡ take 8 name ∷ name_fed (drop 8 name)
unfolding name_fed
eight_first [] long = absurd (omega (arith, long))
eight_first (a ∷ []) long = absurd (omega (arith, long))
eight_first (a ∷ b ∷ []) long = absurd (omega (arith, long))
eight_first (a ∷ b ∷ c ∷ []) long = absurd (omega (arith, long))
eight_first (a ∷ b ∷ c ∷ d ∷ []) long = absurd (omega (arith, long))
eight_first (a ∷ b ∷ c ∷ d ∷ e ∷ []) long = absurd (omega (arith, long))
eight_first (a ∷ b ∷ c ∷ d ∷ e ∷ f ∷ []) long = absurd (omega (arith, long))
eight_first (a ∷ b ∷ c ∷ d ∷ e ∷ f ∷ g ∷ []) long = absurd (omega (arith, long))
eight_first (a ∷ b ∷ c ∷ d ∷ e ∷ f ∷ g ∷ h ∷ []) long = absurd (omega (arith, long))
eight_first (a ∷ b ∷ c ∷ d ∷ e ∷ f ∷ g ∷ h ∷ i ∷ name) long = refl

-- and of a shorter one all at once
short_at_once : (name : List ℕ) → length name ≤ 8 → name_fed name ≡ name ∷ []
unfolding name_fed
short_at_once [] short = refl
short_at_once (a ∷ []) short = refl
short_at_once (a ∷ b ∷ []) short = refl
short_at_once (a ∷ b ∷ c ∷ []) short = refl
short_at_once (a ∷ b ∷ c ∷ d ∷ []) short = refl
short_at_once (a ∷ b ∷ c ∷ d ∷ e ∷ []) short = refl
short_at_once (a ∷ b ∷ c ∷ d ∷ e ∷ f ∷ []) short = refl
short_at_once (a ∷ b ∷ c ∷ d ∷ e ∷ f ∷ g ∷ []) short = refl
short_at_once (a ∷ b ∷ c ∷ d ∷ e ∷ f ∷ g ∷ h ∷ []) short = refl
short_at_once (a ∷ b ∷ c ∷ d ∷ e ∷ f ∷ g ∷ h ∷ i ∷ name) short = absurd (omega (arith, short))

pub loop-left-init : goal.loop-left-init
loop-left-init g c = refl

pub loop-left-smaller : goal.loop-left-smaller
loop-left-smaller g c = search rules

pub loop-left-preserved : goal.loop-left-preserved
loop-left-preserved g c =
    let part : List ℕ = take 8 c.loop-left.left.now in
    let once : c.write.new.self ≡ g.H.Hasher.write c.loop-left.state part = c.write.ensures ∙ ap (g.H.Hasher.write c.loop-left.state) c.split_at.ensures.front in
    ap (λ s. fold g.H.Hasher.write s (name_fed c.split_at.result.1.now)) once
    ∙ ap (λ (left : List ℕ). fold g.H.Hasher.write (g.H.Hasher.write c.loop-left.state part) (name_fed left)) c.split_at.ensures.back
    ∙ sym (ap (fold g.H.Hasher.write c.loop-left.state) (eight_first c.loop-left.left.now c.loop-left-test.true))
    ∙ c.loop-left.invariant

pub returns : goal.returns
returns g c =
    c.write-2.ensures
    ∙ sym (ap (fold g.H.Hasher.write c.loop-left.state) (short_at_once c.loop-left.left.now (omega (arith, c.loop-left-test.false))))
    ∙ c.loop-left.invariant
