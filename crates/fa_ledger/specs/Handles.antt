-- File handles: which replies open them and which requests close them.
use Rattle.std.specs.Prelude.{◌≡◌, ℕ, ◌+◌, ◌<◌, ◌≤◌, Bool, true, false, if◌then◌else◌, List, [], ◌∷◌, ◌++◌, length, slice_get, take, Option, Some, None, option_map}
use Rattle.std.specs.Option.{option_map_or}
use Rattle.fa_bodies.specs.declared.handles.OpenOut.{OpenOut}
use Rattle.fa_bodies.specs.FlagBits.{fopen_direct_io}
use Rattle.fa_bodies.specs.Flags.{HasFlag, fopen_bits}
use Rattle.fa_bodies.specs.Requests.{PlainRequest, PlainBody}
use Rattle.fa_bodies.specs.Requests.PlainBody.{Open, Release, Opendir, Releasedir, Create}
use Rattle.fa_bodies.specs.Replies.{PlainReply}
use Rattle.fa_bodies.specs.Replies.PlainReply.{Created, Opened}
use Rattle.fa_session.specs.Events.{PlainEvent}
use Rattle.fa_session.specs.Events.PlainEvent.{Asked, Answered}
use Rattle.fa_ledger.specs.declared.key.HandleKind.TheVariants.{File, Directory}
use Rattle.fa_ledger.specs.declared.key.Key.{Key}
use Rattle.fa_ledger.specs.Sums.{sum_of}
use Rattle.fa_ledger.specs.Keys.{key_eq, key_at, key_used}

-- ---- what is opened and closed

-- The key that a success opens, and how, by the events before its request and by those up to and with the answer. OPEN and
-- OPENDIR open under the name that their node had when they were asked; CREATE under the name that the node which it gives
-- has after the answer.
abbrev pub opened_by : (asked answered : List PlainEvent) → ℕ → PlainBody → PlainReply → Option (Key × OpenOut)
opened_by asked answered node (Open o) (Opened out) = option_map (λ key. (key, out)) (key_at asked node (out.fh, File))
opened_by asked answered node (Opendir o) (Opened out) = option_map (λ key. (key, out)) (key_at asked node (out.fh, Directory))
opened_by asked answered node (Create flags mode umask name) (Created entry out) =
    option_map (λ key. (key, out)) (key_at answered entry.nodeid (out.fh, File))
opened_by asked answered node body reply = None

-- the key that an event opens after the events before it, and how
abbrev pub opening : List PlainEvent → PlainEvent → Option (Key × OpenOut)
opening before (Answered at asked r reply) =
    opened_by (take asked before) (before ++ Answered at asked r reply ∷ []) r.node r.body reply
opening before other = None

-- the request closes one opening of its handle (FLUSH, at a descriptor's end, does not)
abbrev pub is_closing : PlainBody → Bool
is_closing (Release r) = true
is_closing (Releasedir r) = true
is_closing other = false

-- the key that an event closes after the events before it: at the request, whatever is answered
abbrev pub closing : List PlainEvent → PlainEvent → Option Key
closing before (Asked at r) = (if is_closing r.body then key_used before r else None)
closing before other = None

-- once if an event opens or closes the key, and else not at all
abbrev pub opens_once : Key → List PlainEvent → PlainEvent → ℕ
opens_once key before e = option_map_or (λ opened. if key_eq opened.0 key then 1 else 0) (opening before e) 0

abbrev pub closes_once : Key → List PlainEvent → PlainEvent → ℕ
closes_once key before e = option_map_or (λ closed. if key_eq closed key then 1 else 0) (closing before e) 0

-- how often these events opened the key, and how often they closed it
abbrev pub times_opened : List PlainEvent → Key → ℕ
times_opened es key = sum_of (opens_once key) es

abbrev pub times_closed : List PlainEvent → Key → ℕ
times_closed es key = sum_of (closes_once key) es

-- after these events the key is open: it was closed less often than opened
abbrev pub IsOpen : List PlainEvent → Key → Type 0
IsOpen es key = times_closed es key < times_opened es key

-- ---- handles

-- event r opens the key so
abbrev pub OpensAt : List PlainEvent → ℕ → Key → OpenOut → Type 0
OpensAt es r key out = (e : PlainEvent) × (slice_get es r ≡ Some e) × (opening (take r es) e ≡ Some (key, out))

-- The key is open since event r: that event opened it when it stood at zero, and it has been open from there on.
pub record IsOpenSince (es : List PlainEvent) (key : Key) (r : ℕ) : Type 0 where
  pub out : OpenOut
  pub opened : OpensAt es r key out
  pub anew : times_opened (take r es) key ≡ times_closed (take r es) key
  pub stays : (i : ℕ) → r < i → i ≤ length es → IsOpen (take i es) key

-- The handle of an open key has the name of the request whose answer opened the key when it last stood at zero.
pub record IsHandle (es : List PlainEvent) (key : Key) (name : ℕ) : Type 0 where
  pub since : ℕ
  pub stands : IsOpenSince es key since
  pub request : PlainRequest
  pub reply : PlainReply
  pub answer : slice_get es since ≡ Some (Answered since name request reply)

-- the handle is shared: its key stood above one since it was opened from zero
abbrev pub IsShared : List PlainEvent → Key → Type 0
IsShared es key =
    (r i : ℕ) × IsOpenSince es key r × (r < i) × (i ≤ length es) × (times_closed (take i es) key + 1 < times_opened (take i es) key)

-- the handle is direct: an opening of its key, since it was opened from zero, had FOPEN_DIRECT_IO (fuse.h)
abbrev pub IsDirect : List PlainEvent → Key → Type 0
IsDirect es key =
    (r i : ℕ) × (out : OpenOut) × IsOpenSince es key r × (r ≤ i) × OpensAt es i key out
    × HasFlag (fopen_bits out.open_flags) fopen_direct_io
