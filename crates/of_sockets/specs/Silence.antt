-- When a connection of which little is heard is given up, or gives way to another one.
use Rattle.std.specs.Prelude.{ℕ, ◌*◌, ◌+◌, ◌-◌, nat_le, not, ◌&&◌, Bool, false, List, ◌∷◌, length, Option, Some, None, if◌then◌else◌}
use Rattle.of_sockets.specs.{declared.calls.Ending.Ending, declared.silence.Heard.Heard}
use Rattle.of_sockets.specs.declared.silence.TheConstants.{GREETING_WAIT, PATIENCE, DOUBT}
use Rattle.of_sockets.specs.declared.calls.Ending.TheVariants as ending

-- a stream begins with a whole message: its header, and as many bytes as that says (7.1)
abbrev pub begins_whole : List ℕ → Bool
begins_whole (version ∷ type ∷ high ∷ low ∷ rest) = nat_le 4 (length rest) && nat_le (high * 256 + low) (length rest + 4)
begins_whole other = false

-- the nanoseconds in which nothing was heard
abbrev pub silence : Heard → (now : ℕ) → ℕ
silence heard now = now - heard.last

-- THE CONNECTION IS GIVEN UP if its first message is not whole in time, or if nothing was heard for as long as the user allows
abbrev pub is_unmet : Heard → (now : ℕ) → Bool
is_unmet heard now = not heard.is_met && nat_le GREETING_WAIT (now - heard.begun)

abbrev pub is_idle : Heard → (now : ℕ) → Option ℕ → Bool
is_idle heard now None = false
is_idle heard now (Some most) = nat_le most (silence heard now)

abbrev pub given_up : Heard → (now : ℕ) → Option ℕ → Option Ending
given_up heard now idle = if is_unmet heard now then Some ending.NoHello else if is_idle heard now idle then Some ending.Idle else None

-- IT GIVES WAY to the next one that connects, and another one is called beside it
abbrev pub gives_way : Heard → (now : ℕ) → Bool
gives_way heard now = nat_le PATIENCE (silence heard now)

abbrev pub is_doubted : Heard → (now : ℕ) → Bool
is_doubted heard now = nat_le DOUBT (silence heard now)
