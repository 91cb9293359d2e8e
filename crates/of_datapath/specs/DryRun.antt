-- What a frame that is received at a port would do next: the steps of its run, and nothing changes.
use Rattle.std.specs.Prelude.{◌≡◌, ℕ, List, [], ◌∷◌, ◌++◌, Option, Some, None, if◌then◌else◌}
use Rattle.of_headers.specs.{declared.headers.FrameFault.FrameFault, Faults.frame_fault}
use Rattle.of_machine.specs.{declared.data.Step.Step, Rows.Lookup as LookUp, Rows.entering, Runs.run_of}
use Rattle.of_ports.specs.{declared.port.Port.Port, Ports.may_receive, Ports.port_at}
use Rattle.of_datapath.specs.Datapath.{Forwarding, world_of}

-- a received frame takes the steps of its run from the first table on (OpenFlow 1.3.5, 5.1): entries are named by their index by age, from 0
abbrev pub received_steps : ℕ → List ℕ → Forwarding → List Step
received_steps number bytes f = (run_of (world_of f) (entering bytes number) (LookUp 0 ∷ [])).lines

-- a frame that is too short or too long takes none
abbrev pub taken_in_steps : ℕ → List ℕ → Forwarding → Option FrameFault → List Step
taken_in_steps number bytes f (Some fault) = []
taken_in_steps number bytes f None = received_steps number bytes f

-- nor does one at a port that does not exist or may not receive
abbrev pub arriving_steps : ℕ → List ℕ → Forwarding → Option Port → List Step
arriving_steps number bytes f None = []
arriving_steps number bytes f (Some p) = if may_receive p then taken_in_steps number bytes f (frame_fault bytes) else []

-- THE STEPS of a frame that is received at a port
abbrev pub steps_in : ℕ → List ℕ → Forwarding → List Step
steps_in number bytes f = arriving_steps number bytes f (port_at f.ports number)

-- a log gained a prefix of the steps
pub record GainsPrefix (steps old new : List Step) : Type 0 where
  pub front : List Step
  pub rest : List Step
  pub parts : steps ≡ front ++ rest
  pub gained : new ≡ old ++ front
