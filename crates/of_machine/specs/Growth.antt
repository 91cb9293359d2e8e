-- How far a frame may still grow: four bytes for each VLAN tag that may be pushed (OpenFlow 1.3.5, 5.12).
use Rattle.std.specs.Prelude.{ℕ, ◌+◌, ◌*◌, ◌-◌, ◌≤◌, max, ◌==◌, if◌then◌else◌, List, [], ◌∷◌, length, ⊤}
use Rattle.std.specs.List.{All}
use Rattle.of_wire.specs.declared.limits.TheConstants.{OFPP_TABLE}
use Rattle.of_actions.specs.declared.instruction.Instruction.TheVariants.{Apply, Clear, Write, Metadata, Goto}
use Rattle.of_actions.specs.{declared.action.Action.Action, declared.action.Action.TheVariants.Output, declared.action.Action.TheVariants.PushVlan, declared.action.Action.TheVariants.Group}
use Rattle.of_rewrite.specs.Frames.{IsFrame}
use Rattle.of_action_set.specs.Sets.{with_actions, in_order}
use Rattle.of_machine.specs.Rows.{Work, Lookup, Do, RunSet, Act, Task}
use Rattle.of_machine.specs.{declared.data.Item.Item, declared.data.Item.TheVariants.Sent, declared.data.Item.TheVariants.PacketIn, TheWorld.TheWorld, Sound.longest}

-- 64 in the list of each table from t on, one in the last action set, one in the set of each group of a chain
abbrev pub table_pushes : ℕ → ℕ
table_pushes t = (16 - t) * 64 + (1 + longest)

-- the pushes of an action that `later` others follow; those of a copy do not add to the packet's
abbrev pub act_pushes : TheWorld → Action → ℕ → ℕ
act_pushes w (Output port max_len) later = if port == OFPP_TABLE then max (table_pushes 0) later else later
act_pushes w (PushVlan type) later = 1 + later
act_pushes w (Group group) later = max (w.chain group) later
act_pushes w other later = later

abbrev pub list_pushes : TheWorld → List Action → ℕ → ℕ
list_pushes w [] later = later
list_pushes w (a ∷ rest) later = act_pushes w a (list_pushes w rest later)

-- the pushes of a packet's work, with the action set that it finds
abbrev pub work_pushes : TheWorld → List Action → List Work → ℕ
work_pushes w set [] = 0
work_pushes w set (Lookup t ∷ rest) = table_pushes t
work_pushes w set (Do (Apply l) ∷ rest) = list_pushes w l (work_pushes w set rest)
work_pushes w set (Do Clear ∷ rest) = work_pushes w [] rest
work_pushes w set (Do (Write l) ∷ rest) = work_pushes w (with_actions set l) rest
work_pushes w set (Do (Metadata value mask) ∷ rest) = work_pushes w set rest
work_pushes w set (Do (Goto t) ∷ rest) = table_pushes t
work_pushes w set (RunSet ∷ rest) = list_pushes w (in_order set) (work_pushes w [] rest)
work_pushes w set (Act a ∷ rest) = act_pushes w a (work_pushes w set rest)

-- the packet's frame is a frame, and stays within `most` bytes
pub record IsLow (w : TheWorld) (most : ℕ) (t : Task) : Type 0 where
  pub frame : IsFrame t.packet.frame
  pub room : length t.packet.frame + 4 * work_pushes w t.packet.action_set t.work ≤ most

abbrev pub AllLow : TheWorld → ℕ → List Task → Type 0
AllLow w most [] = ⊤
AllLow w most (t ∷ rest) = IsLow w most t × AllLow w most rest

abbrev pub frame_of : Item → List ℕ
frame_of (Sent port frame) = frame
frame_of (PacketIn p) = p.frame

-- each frame that is emitted has at most `most` bytes
abbrev pub AllShort : ℕ → List Item → Type 0
AllShort most items = All (λ item. length (frame_of item) ≤ most) items

-- each is a frame, and so has at least 14
abbrev pub AllFrames : List Item → Type 0
AllFrames items = All (λ item. IsFrame (frame_of item)) items
