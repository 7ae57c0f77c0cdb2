-- Text that was written, a piece behind the other.
use Rattle.std.proofs.Common.{ℕ, List, [], ◌++◌, Option, arith}
use Rattle.std.specs.Io.KnownBytes.{Appends}
use Rattle.std.proofs.KnownBytes.{Appends-nil, Appends-trans}
use Rattle.std.proofs.lemmas.List.Elements.{All-append}
use Rattle.fa_show.specs.Printing.{IsPrintingByte, IsPrinting}
use Rattle.fa_show.specs.Shown.{IsPrintingAdded}

-- nothing was written
pub added_nothing : (old : Option (List ℕ)) → IsPrintingAdded old old
added_nothing old = record { text = []; printing = λ k d few. absurd (omega (arith, few)); added = Appends-nil old }

-- a text was
pub added_text : (old new : Option (List ℕ)) (text : List ℕ) → IsPrinting text → Appends old new text → IsPrintingAdded old new
added_text old new text printing added = record { text = text; printing = printing; added = added }

-- and another one behind it
pub added_more : (old between new : Option (List ℕ)) → IsPrintingAdded old between → IsPrintingAdded between new → IsPrintingAdded old new
added_more old between new first second = record {
  text = first.text ++ second.text;
  printing = All-append IsPrintingByte first.text second.text first.printing second.printing;
  added = Appends-trans old between new first.text second.text first.added second.added;
}
