-- What follows from the definitions alone.
use Rattle.std.specs.Prelude.{◌≡◌, ◌⊎◌, ℕ, List, All}
use Rattle.fa_order.specs.declared.entry.Entry.{Entry}
use Rattle.fa_order.specs.Order.{IsInRange, IsOrderText, IsOrderFault}

-- bytes are the text of one list of entries at most
abbrev pub OneOrderText : Type 0
OneOrderText = (bytes : List ℕ) (es fs : List Entry) → IsOrderText bytes es → IsOrderText bytes fs → es ≡ fs

-- bytes have their fault at one line at most
abbrev pub OneOrderFault : Type 0
OneOrderFault = (bytes : List ℕ) (m n : ℕ) → IsOrderFault bytes m → IsOrderFault bytes n → m ≡ n

-- an order text has no fault
abbrev pub OrderTextHasNoFault : Type 0
OrderTextHasNoFault = (bytes : List ℕ) (es : List Entry) (n : ℕ) → IsOrderText bytes es → IsOrderFault bytes n → ⊥

-- bytes that are no order text have a fault
abbrev pub OrderTextOrFault : Type 0
OrderTextOrFault =
    (bytes : List ℕ) → ((((es : List Entry) × IsOrderText bytes es) ⊎ ((n : ℕ) × IsOrderFault bytes n)) → ⊥) → ⊥

-- entries within range have a text, and one alone
pub record HasOneText (es : List Entry) : Type 0 where
  pub text : List ℕ
  pub is_text : IsOrderText text es
  pub only : (other : List ℕ) → IsOrderText other es → other ≡ text

abbrev pub EachOrderHasOneText : Type 0
EachOrderHasOneText = (es : List Entry) → All IsInRange es → HasOneText es
