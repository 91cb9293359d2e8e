-- Where the bytes of a packet's frame are. No public clause cites this module.
use Rattle.std.specs.Prelude.{ℕ, ◌≤◌, ◌<◌, ◌^◌, List, length, ⊤}
use Rattle.of_headers.specs.Known.{IsKnownOf}
use Rattle.of_machine.specs.{declared.packet_frame.Held.Held, declared.packet_frame.Held.TheVariants.Lent, declared.packet_frame.Held.TheVariants.Own}

abbrev pub held_bytes : Held → List ℕ
held_bytes (Lent bytes known) = bytes.now
held_bytes (Own frame) = frame

-- lent bytes are long enough for a frame, and not too long, and what is known of them holds
abbrev pub IsHeld : Held → Type 0
IsHeld (Lent bytes known) = (14 ≤ length bytes.now) × (length bytes.now < 2 ^ 61) × IsKnownOf known bytes.now
IsHeld (Own frame) = ⊤
