-- The list of the calls, and which of them wait for an answer.
use Rattle.std.specs.Prelude.{◌≡◌, ℕ, ◌-◌, nat_lt, if◌then◌else◌, Vec, false, List, map, slice_get, All, None, Some, vec_len, vec_capacity}
use Rattle.std.specs.declared.alloc.Global.{Global}
use Rattle.std.specs.Option.{option_map_or}
use Rattle.fa_ledger.specs.declared.call_book.CallBook.TheInside as book
use Rattle.fa_ledger.specs.declared.call_list.CallList.TheInside as list
use Rattle.fa_ledger.specs.declared.name.NodeName.{NodeName}
use Rattle.fa_ledger.specs.declared.row.Aside.{Aside}
use Rattle.fa_ledger.specs.declared.row.Row.{Row}
use Rattle.fa_ledger.specs.declared.row.WaitingCall.{WaitingCall}
use Rattle.fa_ledger.specs.Calls.{PlainCall}
use Rattle.fa_ledger.specs.parts.CallsKept.{CallsKept}
use Rattle.fa_ledger.specs.parts.RowParts.{row_shown, StandsIn}

-- at this place stands this call, which has this number and waits for its answer
pub record WaitsAt (calls : List PlainCall) (asked place : ℕ) (call : PlainCall) : Type 0 where
  pub there : slice_get calls place ≡ Some call
  pub numbered : call.asked ≡ asked
  pub unanswered : call.answer ≡ None

-- what is known of a call that waits
abbrev pub waiting_of : PlainCall → WaitingCall
waiting_of call =
    record { node = call.node; handle = call.handle; adrift = option_map_or (λ listing. listing.adrift) call.listing false }

-- what the rows show, where these stand beside them
abbrev pub calls_shown : Aside → List Row → List PlainCall
calls_shown aside rows = map (row_shown aside) rows

-- how many lists of names more there is room for; none where the next one has no place below 2 ^ 32
abbrev pub room_in : Vec (Vec NodeName Global) Global → ℕ
room_in listed = (if nat_lt (vec_len listed) 4294967296 then vec_capacity listed - vec_len listed else 0)

-- what the fields of a book of calls show
abbrev pub book_shown : book.Inside → CallsKept
book_shown s = record { calls = calls_shown s.aside s.rows.items; room = room_in s.aside.listed }

-- what only some calls have stands in their book
abbrev pub AllStand : book.Inside → Type 0
AllStand s = All (StandsIn s.aside) s.rows.items

-- what the fields of a list of calls show
abbrev pub list_shown : list.Inside → List PlainCall
list_shown s = s.book.calls
