-- What a run does besides what it counts: a reception is counted, a held frame is used, and frames are held.
use Rattle.std.specs.Prelude.{ℕ, List, Option, Some, None}
use Rattle.of_datapath.specs.{Buffers.Held, Buffers.HeldFrames, Buffers.hold_all, Buffers.used, declared.reception.Reception.Reception, Datapath.Forwarding, Datapath.count_port}

abbrev pub with_reception : Option Reception → Forwarding → Forwarding
with_reception None f = f
with_reception (Some r) f = count_port r.port r.what f

-- the frame of that id is used, if there is one
abbrev pub without_used : Option ℕ → HeldFrames → HeldFrames
without_used None b = b
without_used (Some id) b = used id b

-- and then others are held
abbrev pub with_held : Option ℕ → List Held → Forwarding → Forwarding
with_held id frames f = record f { held = hold_all frames (without_used id f.held) }
