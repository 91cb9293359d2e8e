-- For contracts inside this crate: classes of frames that decide a requirement, and the sets into which frames are divided by what packets ask.
use Rattle.std.specs.Prelude.{◌≡◌, ◌≤◌, ◌<◌, ◌^◌, ◌⊎◌, ℕ, Bool, true, false, not, List, [], ◌∷◌, length}
use Rattle.std.specs.{Global.Vec, List.Contains, List.list_all}
use Rattle.of_oxm.specs.declared.match_field.MatchField.{MatchField}
use Rattle.of_rewrite.specs.Frames.{IsFrame}
use Rattle.of_symbolic_run.specs.declared.finding.FrameFound.TheVariants as found
use Rattle.of_symbolic_run.specs.{declared.frame_set.FrameSet.FrameSet, FrameSets.FindsFrame, FrameSets.InFrames, PortNumbers.IsReceivingPort, PortNumbers.came_in_by, Received.items_at}
use Rattle.of_machine.specs.{declared.data.Step.Step, declared.data.Item.Item, TheWorld.TheWorld}
use Rattle.of_paths.specs.Paths.{ArePaths, InClasses, InPaths, IsPath, IsPathClass}
use Rattle.of_paths.specs.{declared.path.Path.Path, declared.destination.Destination.Destination, declared.path.PathClass.PathClass, declared.path.Paths.Paths}
use Rattle.of_paths.specs.declared.path.Merging.TheVariants as merging
use Rattle.of_require.specs.Packets.{IsPartBy, IsPartByAll, IsUnknownAmong, IsUnknownClass, IsUnknownPath}
use Rattle.of_require.specs.{declared.deciding.Decision.Decision, declared.deciding.Shown.Shown, declared.deciding.Sought.Sought}
use Rattle.of_require.specs.declared.deciding.Sought.TheVariants.{Frame, NoFrame, Undecided}
use Rattle.of_require.specs.{declared.requirement.Demand.Demand, declared.requirement.Demand.TheVariants.Has, declared.requirement.Requirement.Requirement}
use Rattle.of_require.specs.{Decisions.IsDeciding, Decisions.IsDecisionAmong, Decisions.decides, Requirements.is_leaving}

abbrev pub first_decides : Requirement → ℕ → List Path → List Item → Bool
first_decides r in_port [] items = false
first_decides r in_port (p ∷ rest) items = decides r in_port p.steps.items items

-- the frame of the class decides it, by the steps of its first path
abbrev pub class_decides : Requirement → PathClass → Bool
class_decides r c = first_decides r c.in_port c.paths.items c.items.items

-- it is the frame of the class, which decides
pub record IsShownOf (r : Requirement) (c : PathClass) (shown : Shown) : Type 0 where
  pub decides : class_decides r c ≡ true
  pub frame : shown.frame ≡ c.frame
  pub in_port : shown.in_port ≡ c.in_port
  pub items : shown.items ≡ c.items

-- what is decided for the frames that come in by the ports of a list
abbrev pub IsDecisionFor : List ℕ → TheWorld → Requirement → ℕ → Decision → Type 0
IsDecisionFor ports w r steps decision = IsDecisionAmong (λ port. Contains ports port) w r steps decision

-- a demand without fields
abbrev pub is_plain : Demand → Bool
is_plain (Has places fields) = false
is_plain other = true

-- no class has a frame that the requirement is about
abbrev pub none_leaves : Requirement → List PathClass → Bool
none_leaves r classes = list_all (λ c. not (is_leaving r.demand c.items.items)) classes

-- ---- what is found among some frames: one of them, which was run, decides; or none does; or it is unknown

abbrev pub IsSought : TheWorld → Requirement → (List ℕ → ℕ → Type 0) → Type 0 → Sought → Type 0
IsSought w r among unknown (Frame shown) = IsDeciding w r shown.frame.items shown.in_port × (shown.items.items ≡ items_at w shown.frame.items shown.in_port)
IsSought w r among unknown NoFrame = (frame : List ℕ) (port : ℕ) → among frame port → IsDeciding w r frame port → ⊥
IsSought w r among unknown Undecided = unknown

-- among the frames of classes, which come in by a port
abbrev pub IsSoughtInClasses : TheWorld → Requirement → ℕ → List PathClass → Sought → Type 0
IsSoughtInClasses w r steps classes sought =
    (port : ℕ) (found : Paths) → IsReceivingPort w.ports port → port < 2 ^ 32 → ArePaths merging.Each w (came_in_by port ∷ r.within.items) steps found → found.classes.items ≡ classes →
    IsSought w r (λ frame q. (q ≡ port) × InClasses classes frame q) (IsUnknownAmong r.demand steps classes) sought

-- among those of a path, if these fields are asked of what leaves
abbrev pub IsSoughtInPath : TheWorld → Requirement → List MatchField → ℕ → Path → Sought → Type 0
IsSoughtInPath w r fields steps p sought =
    (port : ℕ) (places : Vec Destination) → IsReceivingPort w.ports port → port < 2 ^ 32 → IsPath w (came_in_by port ∷ r.within.items) p → r.demand ≡ Has places fields →
    IsSought w r (λ frame q. (q ≡ port) × InFrames p.frames frame q) (IsUnknownPath fields steps p) sought

-- among those of the one path of a class; none of the others decides if nothing leaves
abbrev pub IsSoughtInClass : TheWorld → Requirement → List MatchField → ℕ → PathClass → Sought → Type 0
IsSoughtInClass w r fields steps c sought =
    (port : ℕ) (places : Vec Destination) → IsReceivingPort w.ports port → port < 2 ^ 32 → IsPathClass w (came_in_by port ∷ r.within.items) c → length c.paths.items ≡ 1 → r.demand ≡ Has places fields →
    IsSought w r (λ frame q. (q ≡ port) × InPaths c.paths.items frame q) (IsUnknownClass r.demand fields steps c) sought

-- in all of these: none if there is none in each, and otherwise as in one of them
abbrev pub IsSoughtInAll : {A : Type 0} → (A → Sought → Type 0) → List A → Sought → Type 0
IsSoughtInAll {A} is xs NoFrame = (x : A) → Contains xs x → is x NoFrame
IsSoughtInAll {A} is xs sought = (x : A) × Contains xs x × is x sought

abbrev pub IsSoughtInEach : TheWorld → Requirement → List MatchField → ℕ → List PathClass → Sought → Type 0
IsSoughtInEach w r fields steps classes sought = IsSoughtInAll (IsSoughtInClass w r fields steps) classes sought

-- what was found if no frame decides: it is known of all, or not
abbrev pub found_so_far : Bool → Sought
found_so_far true = NoFrame
found_so_far false = Undecided

-- ---- sets of frames, divided by conditions

abbrev pub InSomeSet : List FrameSet → List ℕ → ℕ → Type 0
InSomeSet sets frame port = (s : FrameSet) × Contains sets s × InFrames s frame port

-- all frames of some sets, by whether conditions match
pub record AreDivided (m : List MatchField) (old new : List FrameSet) : Type 0 where
  pub within : (s : FrameSet) → Contains new s → (o : FrameSet) × Contains old o × IsPartBy m o s
  pub all : (frame : List ℕ) (port : ℕ) → IsFrame frame → InSomeSet old frame port → InSomeSet new frame port

-- all frames of a set, by each of these lists of conditions
pub record AreDividedByAll (lists : List (Vec MatchField)) (old : FrameSet) (new : List FrameSet) : Type 0 where
  pub within : (s : FrameSet) → Contains new s → IsPartByAll lists old s
  pub all : (frame : List ℕ) (port : ℕ) → IsFrame frame → InFrames old frame port → InSomeSet new frame port

-- ---- searches in sets of frames with these steps

-- a frame of the set that is found, as a switch may receive it
pub record IsFrameFoundIn (s : FrameSet) (frame : List ℕ) (port : ℕ) : Type 0 where
  pub frame_is : IsFrame frame
  pub short : length frame ≤ 9216
  pub within : InFrames s frame port
  pub fits : port < 2 ^ 32

-- a frame decides, which was run; or the set has none, or one that was run does not; or none was found
abbrev pub IsSoughtInSet : TheWorld → Requirement → List Step → ℕ → FrameSet → Sought → Type 0
IsSoughtInSet w r lines steps s (Frame shown) =
    IsFrameFoundIn s shown.frame.items shown.in_port × (shown.items.items ≡ items_at w shown.frame.items shown.in_port) × (decides r shown.in_port lines shown.items.items ≡ true)
IsSoughtInSet w r lines steps s NoFrame =
    ((frame : List ℕ) (port : ℕ) → IsFrame frame → InFrames s frame port → ⊥)
    ⊎ ((frame : List ℕ) × (port : ℕ) × IsFrameFoundIn s frame port × (decides r port lines (items_at w frame port) ≡ false))
IsSoughtInSet w r lines steps s Undecided = FindsFrame s steps found.Undecided

abbrev pub IsSoughtInSets : TheWorld → Requirement → List Step → ℕ → List FrameSet → Sought → Type 0
IsSoughtInSets w r lines steps sets sought = IsSoughtInAll (IsSoughtInSet w r lines steps) sets sought
