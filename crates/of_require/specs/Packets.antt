-- WHICH FRAMES MAKE THE PACKETS of a path have some fields when they leave (OpenFlow 1.3.5, 5.12), and when that is not known.
use Rattle.std.specs.Prelude.{◌≡◌, ◌⊎◌, ℕ, Bool, true, List, [], ◌∷◌}
use Rattle.std.specs.{Global.Vec, List.Contains}
use Rattle.of_oxm.specs.declared.match_field.MatchField.{MatchField}
use Rattle.of_rewrite.specs.Frames.{IsFrame}
use Rattle.of_actions.specs.declared.action.Action.{Action}
use Rattle.of_symbolic.specs.{declared.overlay.Overlay.Overlay, declared.pulling.Pulled.Pulled, declared.pulling.Pulled.TheVariants.Never, declared.pulling.Pulled.TheVariants.When}
use Rattle.of_symbolic.specs.{Actions.frame_of_actions, Overlays.IsOverlay, Pulling.IsTrueOfFrames, Pulling.is_unknown_in}
use Rattle.of_symbolic_run.specs.declared.finding.FrameFound.TheVariants as found
use Rattle.of_symbolic_run.specs.{declared.frame_set.FrameSet.FrameSet, declared.state.Emission.Emission, declared.state.Emission.TheVariants.InvalidTtl, declared.state.Emission.TheVariants.Output}
use Rattle.of_symbolic_run.specs.FrameSets.{AreFramesMatching, AreFramesWithout, FindsFrame}
use Rattle.of_paths.specs.{declared.path.Path.Path, declared.path.PathClass.PathClass}
use Rattle.of_require.specs.{declared.requirement.Demand.Demand, declared.requirement.Demand.TheVariants.Has, Requirements.is_leaving}

-- the actions that made a packet of the frame that came in
abbrev pub packet_actions : Emission → List Action
packet_actions (Output packet port max_len) = packet.rewrites
packet_actions (InvalidTtl packet) = packet.rewrites

-- some field is asked of a tag of which that is not known: PUSH_VLAN copied it from a tag that the frame may lack, or POP_VLAN uncovered it, where inner tags are told or not (5.12, 7.2.3.7)
pub record IsUnknownPacket (told : Bool) (fields : List MatchField) (e : Emission) : Type 0 where
  pub overlay : Overlay
  pub tells : overlay.inner ≡ told
  pub is : IsOverlay overlay (packet_actions e)
  pub unknown : is_unknown_in overlay fields ≡ true

abbrev pub SomeUnknown : Bool → List MatchField → List Emission → Type 0
SomeUnknown told fields emitted = (e : Emission) × Contains emitted e × IsUnknownPacket told fields e

-- a packet has the fields exactly if this is so of the description of the frame that came in
pub record IsAskedBy (told : Bool) (fields : List MatchField) (e : Emission) (asked : Pulled) : Type 0 where
  pub frame : (f : List ℕ) → IsFrame f → IsFrame (frame_of_actions (packet_actions e) f)
  pub is : IsTrueOfFrames told (packet_actions e) 0 fields asked

-- the conditions that these packets ask of it, in this order; a packet that never has the fields asks none
abbrev pub AreAsked : Bool → List MatchField → List Emission → List (Vec MatchField) → Type 0
AreAsked told fields [] lists = lists ≡ []
AreAsked told fields (e ∷ es) lists =
    (IsAskedBy told fields e Never × AreAsked told fields es lists)
    ⊎ ((m : Vec MatchField) × (rest : List (Vec MatchField)) × (lists ≡ m ∷ rest) × IsAskedBy told fields e (When m) × AreAsked told fields es rest)

-- ---- frames, divided by such conditions

-- those that they match, or those that they do not match
abbrev pub IsPartBy : List MatchField → FrameSet → FrameSet → Type 0
IsPartBy m old new = AreFramesMatching m old new ⊎ AreFramesWithout m old new

-- divided by each of the lists, in this order
abbrev pub IsPartByAll : List (Vec MatchField) → FrameSet → FrameSet → Type 0
IsPartByAll [] old new = new ≡ old
IsPartByAll (m ∷ lists) old new = (between : FrameSet) × IsPartBy m.items old between × IsPartByAll lists between new

-- it is not known of some packet; or no frame was found of a set into which what the packets ask divides the frames of the path
abbrev pub IsUnknownPath : List MatchField → ℕ → Path → Type 0
IsUnknownPath fields steps p =
    SomeUnknown p.frames.inner fields p.emitted.items
    ⊎ ((lists : List (Vec MatchField)) × AreAsked p.frames.inner fields p.emitted.items lists × ((s : FrameSet) × IsPartByAll lists p.frames s × FindsFrame s steps found.Undecided))

-- of some path of a class, of which something leaves by the places
abbrev pub IsUnknownClass : Demand → List MatchField → ℕ → PathClass → Type 0
IsUnknownClass demand fields steps c = (is_leaving demand c.items.items ≡ true) × ((p : Path) × Contains c.paths.items p × IsUnknownPath fields steps p)

-- of some of these classes, if fields are asked
abbrev pub IsUnknownAmong : Demand → ℕ → List PathClass → Type 0
IsUnknownAmong (Has places fields) steps classes = (c : PathClass) × Contains classes c × IsUnknownClass (Has places fields) fields steps c
IsUnknownAmong other steps classes = ⊥
