-- The text of each code.
use Rattle.std.specs.Prelude.{ℕ, ◌==◌, List, [], ◌∷◌, Option, codes}
use Rattle.std.specs.Map.{lookup}

-- Each code with its text, by rising codes. The numbers stand here as numerals, so that each constant of the code is
-- tied to its number by its text.
abbrev pub table : List (ℕ × List ℕ)
table =
    (1, codes "no FUSECAP1 or FUSECAP2 at the start")
    ∷ (2, codes "record cut off")
    ∷ (3, codes "direction byte")
    ∷ (4, codes "message too long")
    ∷ (5, codes "too many messages or bytes")
    ∷ (10, codes "header too short")
    ∷ (11, codes "length field differs from the record")
    ∷ (12, codes "operation out of the set")
    ∷ (13, codes "request body")
    ∷ (14, codes "limit of this profile")
    ∷ (15, codes "error value out of range")
    ∷ (16, codes "reply body")
    ∷ (17, codes "notification")
    ∷ (20, codes "first message is not INIT")
    ∷ (21, codes "second INIT")
    ∷ (22, codes "request before INIT was answered")
    ∷ (23, codes "INIT refused")
    ∷ (24, codes "version")
    ∷ (25, codes "negotiated flags")
    ∷ (30, codes "unique in use")
    ∷ (31, codes "no request waits for this reply")
    ∷ (32, codes "success of an operation left out")
    ∷ (33, codes "open without a file handle")
    ∷ (34, codes "request with unique 0")
    ∷ (40, codes "forgotten node")
    ∷ (41, codes "forgotten too often")
    ∷ (42, codes "node id not allowed")
    ∷ (50, codes "closed file handle")
    ∷ (60, codes "not an order text")
    ∷ (61, codes "not a tree text")
    ∷ (70, codes "no tree request")
    ∷ (71, codes "placed twice")
    ∷ (72, codes "an earlier answered request is not placed yet")
    ∷ (73, codes "answered request left out")
    ∷ (74, codes "choice not allowed")
    ∷ (80, codes "node or file handle not known here")
    ∷ (81, codes "success not allowed")
    ∷ (82, codes "error without a cause")
    ∷ (83, codes "attributes")
    ∷ (84, codes "node id of another file")
    ∷ (85, codes "bytes read")
    ∷ (86, codes "listing")
    ∷ []

-- the text of a code, if it is one
abbrev pub text_of : ℕ → Option (List ℕ)
text_of code = lookup (λ c. code == c) table
