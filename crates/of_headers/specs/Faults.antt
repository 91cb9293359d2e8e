-- Why the switch does not accept bytes as a frame.
use Rattle.std.specs.Prelude.{nat_lt, if◌then◌else◌, ℕ, List, length, Option, Some, None}
use Rattle.of_headers.specs.{declared.headers.FrameFault.FrameFault, declared.headers.FrameFault.TheVariants.Short, declared.headers.FrameFault.TheVariants.Long}

-- two addresses and a type have 14 bytes (IEEE 802.3, 3.1.1)
abbrev pub inside_fault : List ℕ → Option FrameFault
inside_fault frame = if nat_lt (length frame) 14 then Some Short else None

-- the longest frame that is received has 9,216 bytes
abbrev pub frame_fault : List ℕ → Option FrameFault
frame_fault frame = if nat_lt 9216 (length frame) then Some Long else inside_fault frame
