-- What a put leaves of an output.
use Rattle.std.proofs.Common.{◌≡◌, Bool, true, false, ◌||◌, refl, ◌∙◌}

no_more : (b : Bool) → (b || false) ≡ b
no_more true = refl
no_more false = refl

-- an output that took what it was given is no more broken than it was
pub still_unbroken : (old between new : Bool) → between ≡ old → new ≡ (between || false) → new ≡ old
still_unbroken old between new before after = after ∙ no_more between ∙ before
