-- SETS OF FRAMES THAT COME IN, each by a port (OpenFlow 1.3.5, 5.1).
use Rattle.std.specs.Prelude.{◌≡◌, ◌≤◌, ◌⊎◌, ◌/◌, ◌%◌, ℕ, Bool, true, false, List, [], ◌∷◌, length, Option, None, Some, IfSome}
use Rattle.of_layers.specs.{declared.field.Field.Field, declared.field.Field.TheVariants.Metadata, declared.field.Field.TheVariants.VlanPcp, declared.field.Field.TheVariants.VlanVid}
use Rattle.of_layers.specs.Reading.{layers_of}
use Rattle.of_oxm.specs.{declared.match_field.MatchField.MatchField, Relations.matches_map}
use Rattle.of_rewrite.specs.{Frames.IsFrame, TimeToLive.ttl_of}
use Rattle.of_actions.specs.{declared.action.Action.Action, declared.action.Action.TheVariants.PushVlan, declared.action.Action.TheVariants.SetField}
use Rattle.of_regions.specs.{declared.region.Region.Region, Witness.IsIngressPort}
use Rattle.of_regions.specs.declared.searching.Found.TheVariants as found
use Rattle.of_symbolic.specs.{InnerTags.description_of, Parts.FindsInPart, Parts.InPart, Parts.IsUnreceivedPart}
use Rattle.of_symbolic_run.specs.{declared.frame_set.FrameSet.FrameSet, declared.finding.FrameFound.FrameFound}
use Rattle.of_symbolic_run.specs.declared.finding.FrameFound.TheVariants.{Frame, Empty, Undecided}

-- ---- conditions

abbrev pub is_metadata : Field → Bool
is_metadata Metadata = true
is_metadata f = false

-- a condition on METADATA, which is 0 for each frame that comes in
abbrev pub is_about_metadata : MatchField → Bool
is_about_metadata e = is_metadata e.field

-- ---- sets

-- its TTL is in this range, if it has one
abbrev pub HasTtlIn : ℕ → ℕ → List ℕ → Type 0
HasTtlIn low high frame = IfSome (ttl_of (layers_of frame)) (λ t. (low ≤ t) × (t ≤ high))

-- a frame of the set
pub record InFrames (s : FrameSet) (frame : List ℕ) (port : ℕ) : Type 0 where
  pub part : InPart s.part (description_of s.inner frame port)
  pub ttl : HasTtlIn s.ttl_from s.ttl_to frame

-- those whose descriptions conditions do not match
pub record AreFramesWithout (m : List MatchField) (old new : FrameSet) : Type 0 where
  pub inner : new.inner ≡ old.inner
  pub within : (frame : List ℕ) (port : ℕ) → InFrames new frame port → InFrames old frame port × (matches_map m (description_of old.inner frame port) ≡ false)
  pub all : (frame : List ℕ) (port : ℕ) → InFrames old frame port → matches_map m (description_of old.inner frame port) ≡ false → InFrames new frame port

-- those that they match; the range is as before
pub record AreFramesMatching (m : List MatchField) (old new : FrameSet) : Type 0 where
  pub inner : new.inner ≡ old.inner
  pub least : new.ttl_from ≡ old.ttl_from
  pub most : new.ttl_to ≡ old.ttl_to
  pub within : (frame : List ℕ) (port : ℕ) → InFrames new frame port → InFrames old frame port × (matches_map m (description_of old.inner frame port) ≡ true)
  pub all : (frame : List ℕ) (port : ℕ) → IsFrame frame → InFrames old frame port → matches_map m (description_of old.inner frame port) ≡ true → InFrames new frame port

-- those of which a test is true
pub record AreFramesThat (test : List ℕ → Bool) (old new : FrameSet) : Type 0 where
  pub inner : new.inner ≡ old.inner
  pub within : (frame : List ℕ) (port : ℕ) → InFrames new frame port → InFrames old frame port
  pub tested : (frame : List ℕ) (port : ℕ) → IsFrame frame → InFrames new frame port → test frame ≡ true
  pub all : (frame : List ℕ) (port : ℕ) → IsFrame frame → InFrames old frame port → test frame ≡ true → InFrames new frame port

-- there may be none
abbrev pub AreFramesOrNone : (List ℕ → Bool) → FrameSet → Option FrameSet → Type 0
AreFramesOrNone test old None = (frame : List ℕ) (port : ℕ) → IsFrame frame → InFrames old frame port → test frame ≡ false
AreFramesOrNone test old (Some new) = AreFramesThat test old new

-- ---- what a search finds

-- the actions that make the outermost tag of a frame the inner one, with this number, below a tag with this VID and PCP
abbrev pub actions_put_below : ℕ → ℕ → ℕ → List Action
actions_put_below number vid pcp = SetField VlanVid (number % 0x1000) ∷ SetField VlanPcp (number / 0x2000 % 8) ∷ PushVlan 0x8100 ∷ SetField VlanVid vid ∷ SetField VlanPcp pcp ∷ []

-- a frame of it that a switch may receive; or it has no frame; or a search among the packets of its part found none
abbrev pub FindsFrame : FrameSet → ℕ → FrameFound → Type 0
FindsFrame s steps (Frame frame in_port) = IsFrame frame.items × (length frame.items ≤ 9216) × InFrames s frame.items in_port × IsIngressPort in_port
FindsFrame s steps Empty = (frame : List ℕ) (port : ℕ) → IsFrame frame → InFrames s frame port → ⊥
FindsFrame s steps Undecided = FindsInPart s.part steps found.Undecided ⊎ ((r : Region) × IsUnreceivedPart s.part r)
