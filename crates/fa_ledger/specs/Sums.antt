-- Sums over events, where what an event adds depends on those before it, and the least number that passes a test.
use Rattle.std.specs.Prelude.{ℕ, zero, suc, ◌+◌, Bool, true, ◌&&◌, if◌then◌else◌, List, [], ◌∷◌, ◌++◌, Option, None, Some}
use Rattle.std.specs.Option.{option_or}
use Rattle.fa_session.specs.Events.{PlainEvent}

-- the sum over these events, each of which adds what it does after all events before it, of which these come first
abbrev pub sum_behind : (List PlainEvent → PlainEvent → ℕ) → List PlainEvent → List PlainEvent → ℕ
sum_behind adds before [] = 0
sum_behind adds before (e ∷ es) = adds before e + sum_behind adds (before ++ e ∷ []) es

-- the sum over events of what each adds after those before it
abbrev pub sum_of : (List PlainEvent → PlainEvent → ℕ) → List PlainEvent → ℕ
sum_of adds es = sum_behind adds [] es

-- the least number below a limit that passes a test
abbrev pub least_below : ℕ → (ℕ → Bool) → Option ℕ
least_below zero test = None
least_below (suc n) test = option_or (least_below n test) (if test n then Some n else None)

-- each number below a limit passes a test
abbrev pub each_below : ℕ → (ℕ → Bool) → Bool
each_below zero test = true
each_below (suc n) test = each_below n test && test n
