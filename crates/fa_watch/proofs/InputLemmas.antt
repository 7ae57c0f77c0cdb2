-- What pulls do to the bytes of an input.
use Rattle.std.proofs.Common.{List, [], ℕ, ◌++◌, Option, None, Some, refl, sym, ap, ◌∙◌, append_assoc}
use Rattle.std.specs.Io.KnownBytes.{Consumes, Keeps}

-- none were taken
pub consumes_nothing : (known : Option (List ℕ)) → Consumes known known []
consumes_nothing None = tt
consumes_nothing (Some xs) = refl

-- bytes that come behind others
pub consumes_more : (old mid new : Option (List ℕ)) (bytes more : List ℕ) → Consumes old mid bytes → Consumes mid new more → Consumes old new (bytes ++ more)
consumes_more None mid new bytes more taken next = tt
consumes_more (Some xs) None new bytes more taken next = absurd taken
consumes_more (Some xs) (Some ys) None bytes more taken next = absurd next
consumes_more (Some xs) (Some ys) (Some zs) bytes more taken next = taken ∙ ap (λ (l : List ℕ). bytes ++ l) next ∙ sym (append_assoc bytes more zs)

-- no bytes come
pub consumes_none : (old mid new : Option (List ℕ)) (bytes : List ℕ) → Consumes old mid bytes → Keeps mid new → Consumes old new bytes
consumes_none None mid new bytes taken kept = tt
consumes_none (Some xs) None new bytes taken kept = absurd taken
consumes_none (Some xs) (Some ys) None bytes taken kept = absurd kept
consumes_none (Some xs) (Some ys) (Some zs) bytes taken kept = taken ∙ ap (λ (l : List ℕ). bytes ++ l) (sym kept)
