-- Steps and runs of the machine (OpenFlow 1.3.5, 5.1).
use Rattle.std.specs.Prelude.{◌≡◌, ℕ, ◌<◌, suc, zero, Bool, true, List, [], ◌∷◌, ◌++◌, ⊤}
use Rattle.of_actions.specs.declared.instruction.Instruction.{Instruction}
use Rattle.of_machine.specs.Rows.{Work, Lookup, RunSet, Task, task, Row, row, works}
use Rattle.of_machine.specs.{declared.data.Packet.Packet, declared.data.Item.Item, declared.data.Count.Count, declared.data.Step.Step, declared.data.Outcome.Outcome, declared.machine.Going.Going}
use Rattle.of_machine.specs.{declared.machine.Going.TheVariants.Continues, declared.machine.Going.TheVariants.Ended, declared.tables.Next.Next}
use Rattle.of_machine.specs.declared.tables.Next.TheVariants.{Continues as Onward, Ended as Over, Lookup as To}
use Rattle.of_machine.specs.declared.tables.Then.{Then}
use Rattle.of_machine.specs.declared.tables.Then.TheVariants.{Lookup as ThenTo, Set as ThenSet, Ended as ThenOver}
use Rattle.of_machine.specs.{TheWorld.TheWorld, Weights.task_weight}

-- the packets with their work, and the items, counts and lines so far
pub record Machine : Type 0 where
  pub tasks : List Task
  pub items : List Item
  pub counts : List Count
  pub lines : List Step

-- the machine once this row was taken
abbrev pub taken : Machine → Row → List Task → Machine
taken m r others = record { tasks = r.left ++ others; items = m.items ++ r.items; counts = m.counts ++ r.counts; lines = m.lines ++ r.line ∷ [] }

abbrev pub first_step : TheWorld → Machine → List Task → Machine
first_step w m [] = m
first_step w m (t ∷ others) = taken m (row w t.packet t.work) others

-- one step: the first packet does its first work
unfoldable pub step : TheWorld → Machine → Machine
step w m = first_step w m m.tasks

-- after n steps
unfoldable pub after : TheWorld → ℕ → Machine → Machine
after w zero m = m
after w (suc n) m = step w (after w n m)

-- n steps, or fewer where no packet is left before
abbrev pub or_end : TheWorld → (Machine → Machine) → Machine → List Task → Machine
or_end w others m [] = m
or_end w others m (t ∷ ts) = others (step w m)

unfoldable pub until_none : TheWorld → ℕ → Machine → Machine
until_none w zero m = m
until_none w (suc n) m = or_end w (until_none w n) m m.tasks

-- the machine at the start
abbrev pub starting : Packet → List Work → Machine
starting p work = record { tasks = task p work ∷ []; items = []; counts = []; lines = [] }

-- THE RUN of a packet with its work: until no packet is left, which takes no more steps than its weight
unfoldable pub run_of : TheWorld → Packet → List Work → Machine
run_of w p work = until_none w (task_weight w (task p work)) (starting p work)

-- what the machine x gave after what b gave, with the packets of b after its own
abbrev pub ahead_of : Machine → Machine → Machine
ahead_of b x = record { tasks = x.tasks ++ b.tasks; items = b.items ++ x.items; counts = b.counts ++ x.counts; lines = b.lines ++ x.lines }

-- ---- what the code holds

pub record Point : Type 0 where
  pub tasks : List Task
  pub items : List Item
  pub counts : List Count
  pub told : List Step

abbrev pub point : List Task → Outcome → List Step → Point
point tasks outcome told = record { tasks = tasks; items = outcome.items.items; counts = outcome.counts.items; told = told }

-- the machine has come from `start` to this point, and a log that keeps steps has exactly these
pub record Reached (w : TheWorld) (keeps : Bool) (start : Machine) (here : Point) : Type 0 where
  pub steps : ℕ
  pub lines : List Step
  pub tells : keeps ≡ true → here.told ≡ lines
  pub reached : after w steps start ≡ record { tasks = here.tasks; items = here.items; counts = here.counts; lines = lines }

-- a log that keeps steps has the first steps of the machine from `start`
pub record Stopped (w : TheWorld) (keeps : Bool) (start : Machine) (told : List Step) : Type 0 where
  pub steps : ℕ
  pub tells : keeps ≡ true → told ≡ (after w steps start).lines

-- each machine that has come to the point `old` comes to the point `new`
abbrev pub Moves : TheWorld → Bool → Point → Point → Type 0
Moves w keeps old new = (start : Machine) → Reached w keeps start old → Reached w keeps start new

abbrev pub RunStops : TheWorld → Bool → Point → List Step → Type 0
RunStops w keeps old told = (start : Machine) → Reached w keeps start old → Stopped w keeps start told

-- ---- what a call does

-- the work that is left after actions
abbrev pub left_of : Going → List Work → List Work
left_of Continues rest = rest
left_of Ended rest = []

-- the packet does this work, and then the rest of its work or none
abbrev pub Acts : TheWorld → Bool → Packet → List Work → Outcome → List Step → Going → Packet → Outcome → List Step → Type 0
Acts w keeps p work outcome told going p' outcome' told' =
    (rest : List Work) (others : List Task) →
    Moves w keeps (point (task p (work ++ rest) ∷ others) outcome told) (point (task p' (left_of going rest) ∷ others) outcome' told')

-- a log that keeps steps has the first steps of that
abbrev pub Breaks : TheWorld → Bool → Packet → List Work → Outcome → List Step → List Step → Type 0
Breaks w keeps p work outcome told told' =
    (rest : List Work) (others : List Task) → RunStops w keeps (point (task p (work ++ rest) ∷ others) outcome told) told'

-- these packets, which come before the others, run to their ends
abbrev pub AllEnd : TheWorld → Bool → List Task → Outcome → List Step → Outcome → List Step → Type 0
AllEnd w keeps tasks outcome told outcome' told' =
    (others : List Task) → Moves w keeps (point (tasks ++ others) outcome told) (point others outcome' told')

abbrev pub AllFail : TheWorld → Bool → List Task → Outcome → List Step → List Step → Type 0
AllFail w keeps tasks outcome told told' =
    (others : List Task) → RunStops w keeps (point (tasks ++ others) outcome told) told'

-- the packet has this work alone, and comes to the packet p' with work'
abbrev pub Follows : TheWorld → Bool → Packet → List Work → Outcome → List Step → List Work → Packet → Outcome → List Step → Type 0
Follows w keeps p work outcome told work' p' outcome' told' =
    (others : List Task) →
    Moves w keeps (point (task p work ∷ others) outcome told) (point (task p' work' ∷ others) outcome' told')

-- the packet has this work alone, and is done with it
abbrev pub Ends : TheWorld → Bool → Packet → List Work → Outcome → List Step → Outcome → List Step → Type 0
Ends w keeps p work outcome told outcome' told' =
    (others : List Task) → Moves w keeps (point (task p work ∷ others) outcome told) (point others outcome' told')

abbrev pub RunFails : TheWorld → Bool → Packet → List Work → Outcome → List Step → List Step → Type 0
RunFails w keeps p work outcome told told' =
    (others : List Task) → RunStops w keeps (point (task p work ∷ others) outcome told) told'

-- the work after an instruction, where `rest` are the instructions after it
abbrev pub next_works : Next → List Instruction → List Work
next_works Onward rest = works rest
next_works Over rest = []
next_works (To t) rest = Lookup t ∷ []

abbrev pub then_works : Then → List Work
then_works (ThenTo t) = Lookup t ∷ []
then_works ThenSet = RunSet ∷ []
then_works ThenOver = []

-- the next table is a later one
abbrev pub IsUp : ℕ → Next → Type 0
IsUp table Onward = ⊤
IsUp table Over = ⊤
IsUp table (To t) = (table < t) × (t < 16)

abbrev pub IsLater : ℕ → Then → Type 0
IsLater table (ThenTo t) = (table < t) × (t < 16)
IsLater table ThenSet = ⊤
IsLater table ThenOver = ⊤

-- ---- what a run does

-- the run of the packet gave this outcome and left no packet, and a log that keeps steps gains its lines
pub record IsRun (w : TheWorld) (keeps : Bool) (p : Packet) (work : List Work) (outcome : Outcome) (old new : List Step) : Type 0 where
  pub lines : List Step
  pub run : run_of w p work ≡ record { tasks = []; items = outcome.items.items; counts = outcome.counts.items; lines = lines }
  pub tells : keeps ≡ true → new ≡ old ++ lines

-- a log that keeps steps gains the lines of the first steps
pub record IsPrefixOfRun (w : TheWorld) (keeps : Bool) (p : Packet) (work : List Work) (old new : List Step) : Type 0 where
  pub steps : ℕ
  pub tells : keeps ≡ true → new ≡ old ++ (after w steps (starting p work)).lines
