-- What is said of an option.
use Rattle.std.proofs.Common.{Option, Some, None}
use Rattle.std.specs.Prelude.{IfSome, IfNone, IfOk, IfErr}
use Rattle.std.specs.Option.{ok_or}

-- what holds anyway holds of a None
pub if_none : {X : Type 0} (o : Option X) (P : Type 0) → P → IfNone o P
if_none (Some x) P p = tt
if_none None P p = p

-- what is known of the value holds of it behind `ok_or`
pub ok_or_value : {X E : Type 0} (o : Option X) (e : E) (P Q : X → Type 0) → ((x : X) → P x → Q x) → IfSome o P → IfOk (ok_or o e) Q
ok_or_value (Some x) e P Q then p = then x p
ok_or_value None e P Q then p = tt

-- what is known where there is none holds of the error behind `ok_or`
pub ok_or_error : {X E : Type 0} (o : Option X) (e : E) (P : Type 0) (Q : E → Type 0) → (P → Q e) → IfNone o P → IfErr (ok_or o e) Q
ok_or_error (Some x) e P Q then p = tt
ok_or_error None e P Q then p = then p
