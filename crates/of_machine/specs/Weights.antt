-- How many steps are left at most (OpenFlow 1.3.5, 5.1): each row lowers the sum of the weights of the packets.
use Rattle.std.specs.Prelude.{ℕ, ◌+◌, ◌*◌, ◌-◌, ◌<◌, suc, zero, false, ◌==◌, if◌then◌else◌, List, [], ◌∷◌, IsTrue, ⊤}
use Rattle.std.specs.List.{list_all}
use Rattle.of_wire.specs.declared.limits.TheConstants.{OFPP_TABLE}
use Rattle.of_actions.specs.declared.instruction.Instruction.TheVariants.{Apply, Clear, Write, Metadata, Goto}
use Rattle.of_actions.specs.{declared.action.Action.Action, declared.action.Action.TheVariants.Output, declared.action.Action.TheVariants.Group, Supported.is_supported, Rising.is_ascending}
use Rattle.of_action_set.specs.Sets.{rank, with_actions, in_order}
use Rattle.of_machine.specs.Rows.{Work, Lookup, Do, RunSet, Act, Task}
use Rattle.of_machine.specs.{TheWorld.TheWorld, Sound.longest}

-- ---- where chains of groups have at most n groups

-- a bucket's copy: its set, at most 30 actions of which one is a group, and its end
unfoldable pub copy_steps : ℕ → ℕ
copy_steps zero = 0
copy_steps (suc n) = 32 + 16 * copy_steps n

-- an action of a flow: at most 16 buckets
unfoldable pub action_steps : ℕ → ℕ
action_steps n = 1 + 16 * copy_steps n

-- a table: the lookup, five instructions, 64 actions
unfoldable pub table_steps : ℕ → ℕ
table_steps n = 6 + 64 * action_steps n

-- the last set and the end
unfoldable pub set_steps : ℕ → ℕ
set_steps n = 32 + 16 * copy_steps n

-- the tables from t on
unfoldable pub lookup_steps : ℕ → ℕ → ℕ
lookup_steps n t = (16 - t) * table_steps n + set_steps n

-- the steps of a frame, which are those of the tables from the first one on
abbrev pub frame_step_bound : ℕ
frame_step_bound = 143271552

-- those of a PACKET_OUT: each of its 64 actions may be an output to TABLE; and its end
abbrev pub packet_out_step_bound : ℕ
packet_out_step_bound = 9169379393

-- ---- weights

abbrev pub output_weight : ℕ → ℕ
output_weight port = if port == OFPP_TABLE then 1 + lookup_steps longest 0 else 1

abbrev pub act_weight : TheWorld → Action → ℕ
act_weight w (Output port max_len) = output_weight port
act_weight w (Group group) = 1 + 16 * copy_steps (w.chain group)
act_weight w other = 1

abbrev pub acts_weight : TheWorld → List Action → ℕ
acts_weight w [] = 0
acts_weight w (a ∷ rest) = act_weight w a + acts_weight w rest

-- a packet's work, with the action set that it finds
abbrev pub work_weight : TheWorld → List Action → List Work → ℕ
work_weight w set [] = 1
work_weight w set (Lookup t ∷ rest) = lookup_steps longest t
work_weight w set (Do (Apply l) ∷ rest) = 1 + (acts_weight w l + work_weight w set rest)
work_weight w set (Do Clear ∷ rest) = 1 + work_weight w [] rest
work_weight w set (Do (Write l) ∷ rest) = 1 + work_weight w (with_actions set l) rest
work_weight w set (Do (Metadata value mask) ∷ rest) = 1 + work_weight w set rest
work_weight w set (Do (Goto t) ∷ rest) = 1 + lookup_steps longest t
work_weight w set (RunSet ∷ rest) = 1 + (acts_weight w (in_order set) + work_weight w [] rest)
work_weight w set (Act a ∷ rest) = act_weight w a + work_weight w set rest

abbrev pub task_weight : TheWorld → Task → ℕ
task_weight w t = work_weight w t.packet.action_set t.work

abbrev pub weight : TheWorld → List Task → ℕ
weight w [] = 0
weight w (t ∷ rest) = task_weight w t + weight w rest

-- ---- what a packet may have to do

-- its action set is a set: in ascending order of rank, and each action is allowed in a flow
pub record IsSet (set : List Action) : Type 0 where
  pub rising : IsTrue (is_ascending rank set)
  pub served : IsTrue (list_all (is_supported false) set)

abbrev pub IsFitWork : Work → Type 0
IsFitWork (Lookup t) = t < 16
IsFitWork (Do (Apply l)) = ⊤
IsFitWork (Do Clear) = ⊤
IsFitWork (Do (Write l)) = IsTrue (list_all (is_supported false) l)
IsFitWork (Do (Metadata value mask)) = ⊤
IsFitWork (Do (Goto t)) = t < 16
IsFitWork RunSet = ⊤
IsFitWork (Act a) = ⊤

abbrev pub AllFitWork : List Work → Type 0
AllFitWork [] = ⊤
AllFitWork (x ∷ rest) = IsFitWork x × AllFitWork rest

pub record IsFit (t : Task) : Type 0 where
  pub set : IsSet t.packet.action_set
  pub work : AllFitWork t.work

abbrev pub AllFit : List Task → Type 0
AllFit [] = ⊤
AllFit (t ∷ rest) = IsFit t × AllFit rest
