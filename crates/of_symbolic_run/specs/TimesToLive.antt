-- WHAT IS KNOWN OF THE TTL OF A PACKET after actions, in terms of that of the frame that came in (OpenFlow 1.3.5, 5.12).
use Rattle.std.specs.Prelude.{ℕ, ◌<◌, ⊤, ◌+◌, ◌-◌, ◌%◌, ◌^◌, ◌==◌, nat_le, nat_lt, Bool, false, List, Option, Some, None, if◌then◌else◌}
use Rattle.std.specs.List.{fold}
use Rattle.of_layers.specs.Reading.{layers_of}
use Rattle.of_rewrite.specs.TimeToLive.{ttl_of}
use Rattle.of_actions.specs.{declared.action.Action.Action, declared.action.Action.TheVariants.SetNwTtl, declared.action.Action.TheVariants.DecNwTtl}
use Rattle.of_symbolic_run.specs.{declared.known_ttl.KnownTtl.KnownTtl, declared.known_ttl.KnownTtl.TheVariants.Less, declared.known_ttl.KnownTtl.TheVariants.Fixed}

-- less by n, but not below 1; 0 stays 0
abbrev pub less : ℕ → ℕ → ℕ
less n t = if nat_le t n then (if t == 0 then 0 else 1) else t - n

-- less by one: 0 and 1 stay
abbrev pub one_less : ℕ → ℕ
one_less t = if nat_le t 1 then t else t - 1

abbrev pub ttl_decremented : KnownTtl → KnownTtl
ttl_decremented (Less n) = Less (n + 1)
ttl_decremented (Fixed t) = Fixed (one_less t)

abbrev pub ttl_by : Action → KnownTtl → KnownTtl
ttl_by (SetNwTtl t) k = Fixed (t % 2 ^ 8)
ttl_by DecNwTtl k = ttl_decremented k
ttl_by other k = k

-- after actions, the first one first
abbrev pub known_ttl : List Action → KnownTtl
known_ttl = fold (λ k a. ttl_by a k) (Less 0)

-- the TTL, where that of the frame that came in is this
abbrev pub ttl_as : KnownTtl → ℕ → ℕ
ttl_as (Less n) t = less n t
ttl_as (Fixed c) t = c

-- ---- DEC_NW_TTL

-- a TTL of 0 or 1 expires
abbrev pub is_last : Option ℕ → Bool
is_last None = false
is_last (Some t) = nat_le t 1

-- the greatest TTL of a frame for which it expires, if it does for any
abbrev pub ttl_limit_of : KnownTtl → Option ℕ
ttl_limit_of (Less n) = Some (if nat_lt n 255 then n + 1 else 255)
ttl_limit_of (Fixed c) = if nat_le c 1 then Some 255 else None

abbrev pub is_up_to : Option ℕ → Option ℕ → Bool
is_up_to (Some limit) (Some t) = nat_le t limit
is_up_to limit ttl = false

-- the frame has a TTL, of at most the limit
abbrev pub expires : Option ℕ → List ℕ → Bool
expires limit frame = is_up_to limit (ttl_of (layers_of frame))

-- ---- ranges

-- one more fits
abbrev pub IsBelowMost : KnownTtl → Type 0
IsBelowMost (Less n) = n + 1 < 2 ^ 64
IsBelowMost (Fixed t) = ⊤

abbrev pub lower_of : ℕ → ℕ → ℕ
lower_of x y = if nat_le x y then x else y

abbrev pub higher_of : ℕ → ℕ → ℕ
higher_of x y = if nat_le x y then y else x
