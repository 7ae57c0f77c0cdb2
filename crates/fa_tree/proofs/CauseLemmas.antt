-- The cause of an error by its number: each of the five errors asks for its own cause, and for no other.
use Rattle.std.proofs.Common.{◌≡◌, ℤ}
use Rattle.std.specs.Prelude.{◌↔◌}
use Rattle.fa_bodies.specs.declared.errno.TheConstants.{ENOENT, EEXIST, ENOTDIR, EISDIR, ENOTEMPTY}
use Rattle.fa_tree.specs.Rules.{Rule, HasCause}

-- ENOENT has its cause where something is missing
pub of_missing : {Asked : Type 0} {r : Rule} {error : ℤ} → error ≡ ENOENT
    → Asked ↔ r.missing → Asked ↔ HasCause r error
of_missing {Asked} {r} {error} is told = (
  λ asked. record {
    missing = λ e. told.0 asked;
    taken = λ e. absurd cc;
    no_directory = λ e. absurd cc;
    a_directory = λ e. absurd cc;
    not_empty = λ e. absurd cc;
  },
  λ caused. told.1 (caused.missing is),
)

-- EEXIST has its cause where a name is taken
pub of_taken : {Asked : Type 0} {r : Rule} {error : ℤ} → error ≡ EEXIST
    → Asked ↔ r.taken → Asked ↔ HasCause r error
of_taken {Asked} {r} {error} is told = (
  λ asked. record {
    missing = λ e. absurd cc;
    taken = λ e. told.0 asked;
    no_directory = λ e. absurd cc;
    a_directory = λ e. absurd cc;
    not_empty = λ e. absurd cc;
  },
  λ caused. told.1 (caused.taken is),
)

-- ENOTDIR has its cause where what should be a directory is none
pub of_no_directory : {Asked : Type 0} {r : Rule} {error : ℤ} → error ≡ ENOTDIR
    → Asked ↔ r.no_directory → Asked ↔ HasCause r error
of_no_directory {Asked} {r} {error} is told = (
  λ asked. record {
    missing = λ e. absurd cc;
    taken = λ e. absurd cc;
    no_directory = λ e. told.0 asked;
    a_directory = λ e. absurd cc;
    not_empty = λ e. absurd cc;
  },
  λ caused. told.1 (caused.no_directory is),
)

-- EISDIR has its cause where a directory is where none may be
pub of_a_directory : {Asked : Type 0} {r : Rule} {error : ℤ} → error ≡ EISDIR
    → Asked ↔ r.a_directory → Asked ↔ HasCause r error
of_a_directory {Asked} {r} {error} is told = (
  λ asked. record {
    missing = λ e. absurd cc;
    taken = λ e. absurd cc;
    no_directory = λ e. absurd cc;
    a_directory = λ e. told.0 asked;
    not_empty = λ e. absurd cc;
  },
  λ caused. told.1 (caused.a_directory is),
)

-- ENOTEMPTY has its cause where a directory is not empty
pub of_not_empty : {Asked : Type 0} {r : Rule} {error : ℤ} → error ≡ ENOTEMPTY
    → Asked ↔ r.not_empty → Asked ↔ HasCause r error
of_not_empty {Asked} {r} {error} is told = (
  λ asked. record {
    missing = λ e. absurd cc;
    taken = λ e. absurd cc;
    no_directory = λ e. absurd cc;
    a_directory = λ e. absurd cc;
    not_empty = λ e. told.0 asked;
  },
  λ caused. told.1 (caused.not_empty is),
)
