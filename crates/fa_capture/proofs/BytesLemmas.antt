-- A slice holds bytes.
use Rattle.std.proofs.Common.{ℕ, ◌<◌, List, get_or}
use Rattle.std.specs.Prelude.{All}
use Rattle.std.proofs.lemmas.List.Elements.{All-from_get_or}

pub are_bytes : (bytes : List ℕ) → ((i : ℕ) → get_or bytes i 0 < 256) → All (λ b. b < 256) bytes
are_bytes bytes small = All-from_get_or (λ (b : ℕ). b < 256) bytes 0 (λ i within. small i)
