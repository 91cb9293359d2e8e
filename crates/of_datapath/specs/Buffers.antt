-- FRAMES THAT ARE HELD FOR THE CONTROLLER, in OpenFlow's words buffered packets (OpenFlow 1.3.5, 6.1.2, 7.3.1 and 7.4.1): a PACKET_IN has the first
-- bytes of a frame and a buffer id, by which the controller sends the frame on.
use Rattle.std.specs.Prelude.{ℕ, ◌+◌, ◌-◌, ◌%◌, ◌==◌, ◌&&◌, nat_le, Bool, List, [], ◌∷◌, take, slice_set, slice_index_or, Option, Some, None, if◌then◌else◌}

-- a frame, and the port at which it was received
pub record Held : Type 0 where
  pub frame : List ℕ
  pub ingress : ℕ

-- the id that the next frame gets; and the places of the last ids, newest first, each empty once its frame was used
pub record HeldFrames : Type 0 where
  pub next : ℕ
  pub places : List (Option Held)

-- ids go round: 1 to the largest, and 1 again; OFP_NO_BUFFER is none of them
abbrev pub last_id : ℕ
last_id = 0xfffffffe

abbrev pub is_id : ℕ → Bool
is_id id = nat_le 1 id && nat_le id last_id

abbrev pub id_following : ℕ → ℕ
id_following id = if id == last_id then 1 else id + 1

-- how many frames are held at most, which is n_buffers of a FEATURES_REPLY (7.3.1)
abbrev pub most_held : ℕ
most_held = 256

abbrev pub none_held : HeldFrames
none_held = record { next = 1; places = [] }

-- a frame is held under the next id; the oldest place is given up where there are more than 256
abbrev pub hold : Held → HeldFrames → HeldFrames
hold h b = record { next = id_following b.next; places = take most_held (Some h ∷ b.places) }

-- one after the other
abbrev pub hold_all : List Held → HeldFrames → HeldFrames
hold_all [] b = b
hold_all (h ∷ hs) b = hold_all hs (hold h b)

-- how many ids were given after this one
abbrev pub given_since : ℕ → HeldFrames → ℕ
given_since id b = (b.next + (last_id - 1) - id) % last_id

-- the frame that is held under an id
abbrev pub held : ℕ → HeldFrames → Option Held
held id b = if is_id id then slice_index_or b.places (given_since id b) None else None

-- it is used: its place stays, empty
abbrev pub used : ℕ → HeldFrames → HeldFrames
used id b = if is_id id then record b { places = slice_set b.places (given_since id b) None } else b

-- the connection ends: no frame is held any more, and ids go on
abbrev pub forgotten : HeldFrames → HeldFrames
forgotten b = record b { places = [] }
