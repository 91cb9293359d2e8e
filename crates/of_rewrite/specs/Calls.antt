-- Calls that rewrite a frame, one after the other, and what is known of its headers after them.
use Rattle.std.specs.Prelude.{◌≡◌, ℕ, ◌+◌, ◌-◌, List, [], ◌∷◌, length, IsTrue, ⊤, if◌then◌else◌}
use Rattle.of_layers.specs.{declared.field.Field.Field, Fields.is_settable, Reading.is_tag_type, Reading.layers_of, WellFormed.AreBytes}
use Rattle.of_headers.specs.{declared.layout.Layout.Layout, declared.known.Known.Known}
use Rattle.of_headers.specs.{declared.known.Known.TheVariants.Nothing, declared.known.Known.TheVariants.Places, declared.known.Known.TheVariants.Fields, Places.layout_of}
use Rattle.of_rewrite.specs.Frames.{frame_set, frame_pushed, frame_popped, frame_ttl, frame_ttl_decremented}
use Rattle.of_rewrite.specs.{Tagging.has_tag, Loans.lent, Loans.with_bytes_at}

-- a call of a frame; that of a loan has the bytes that are written into it
pub data FrameCall : Type 0 where
  PushVlan : ℕ → FrameCall
  PopVlan : FrameCall
  Set : Field → ℕ → FrameCall
  SetTtl : ℕ → FrameCall
  DecTtl : FrameCall
  Lend : Field → List ℕ → FrameCall

-- what it requires: a tag's type, a field that may be set, and as many bytes as are lent
abbrev pub IsAllowed : FrameCall → List ℕ → Type 0
IsAllowed (PushVlan type) frame = IsTrue (is_tag_type type)
IsAllowed (Set field value) frame = IsTrue (is_settable field)
IsAllowed (Lend field bytes) frame = AreBytes bytes × (length bytes ≡ (lent field frame).1 - (lent field frame).0)
IsAllowed other frame = ⊤

-- the frame after it
abbrev pub frame_after : FrameCall → List ℕ → List ℕ
frame_after (PushVlan type) frame = frame_pushed type frame
frame_after PopVlan frame = frame_popped frame
frame_after (Set field value) frame = frame_set field value frame
frame_after (SetTtl value) frame = frame_ttl value frame
frame_after DecTtl frame = frame_ttl_decremented frame
frame_after (Lend field bytes) frame = with_bytes_at (lent field frame).0 frame bytes

-- where the layers begin after it: the addresses stay, and all else moves with the tags
abbrev pub places_after : FrameCall → Layout → Layout
places_after (PushVlan type) places = record places { tags = places.tags + 1 }
places_after PopVlan places = record places { tags = places.tags - 1 }
places_after other places = places

-- places that have moved are known, and no fields
abbrev pub with_places : (Layout → Layout) → Known → Known
with_places moved Nothing = Nothing
with_places moved (Places places) = Places (moved places)
with_places moved (Fields headers) = Places (moved headers.layout)

-- What is known after it. A pop without a tag changes nothing; to replace a number the layers are looked for, unless it is known where they begin; and a type may be written into a loan, so that nothing is known then.
abbrev pub known_after : FrameCall → List ℕ → Known → Known
known_after (PushVlan type) frame known = with_places (places_after (PushVlan type)) known
known_after PopVlan frame known = if has_tag frame then with_places (places_after PopVlan) known else known
known_after (Lend field bytes) frame known = Nothing
known_after other frame known = Places (layout_of (layers_of frame))

-- ---- of several calls, the first one first

abbrev pub AreAllowed : List FrameCall → List ℕ → Type 0
AreAllowed [] frame = ⊤
AreAllowed (call ∷ calls) frame = IsAllowed call frame × AreAllowed calls (frame_after call frame)

abbrev pub frame_after_all : List FrameCall → List ℕ → List ℕ
frame_after_all [] frame = frame
frame_after_all (call ∷ calls) frame = frame_after_all calls (frame_after call frame)

abbrev pub known_after_all : List FrameCall → List ℕ → Known → Known
known_after_all [] frame known = known
known_after_all (call ∷ calls) frame known = known_after_all calls (frame_after call frame) (known_after call frame known)
