-- What a key is hashed to under a seed.
use Rattle.std.specs.Prelude.{ℕ, List, []}
use Rattle.std.specs.Hash.FoldHasher as folding
use Rattle.std.specs.declared.hash.FoldHasher.{FoldHasher}
use Rattle.fa_capture.specs.declared.seed.Seed.{Seed}
use Rattle.fa_capture.specs.declared.seed.KeyHasher.{KeyHasher}

-- what each key's hasher begins with
abbrev pub seed_state : Seed → FoldHasher
seed_state seed = seed.hasher

-- the hasher that each key is handed to
abbrev pub seed_hasher : Seed → KeyHasher
seed_hasher seed = record { state = seed_state seed }

-- the hasher behind these bytes
abbrev pub key_written : KeyHasher → List ℕ → KeyHasher
key_written hasher bytes = record { state = folding.write hasher.state bytes }

-- its number, with a product more
abbrev pub key_finished : KeyHasher → ℕ
key_finished hasher = folding.finish (folding.write hasher.state [])
