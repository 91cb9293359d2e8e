-- The invariants of a world.
use Rattle.std.specs.Prelude.{◌≡◌, ◌≢◌, ℕ, ◌<◌, ◌≤◌, List, [], ◌∷◌, Option, Some, None, length, false, IsTrue, ⊤}
use Rattle.of_layers.specs.declared.field.Field.{Field}
use Rattle.of_actions.specs.{declared.action.Action.Action, declared.action.Action.TheVariants.Group, Supported.are_supported, Rising.is_ascending}
use Rattle.of_actions.specs.InstructionLists.{are_kept, are_for}
use Rattle.of_ports.specs.Ports.{number_of_port}
use Rattle.of_table.specs.declared.flow.Flow.{Flow}
use Rattle.of_machine.specs.TheWorld.{TheWorld}

-- the longest chain of groups that a world may have
abbrev pub longest : ℕ
longest = 3

-- the chains of the group that an action names, if it names one, have fewer than n groups
abbrev pub IsBelow : TheWorld → ℕ → Action → Type 0
IsBelow w n (Group group) = w.chain group < n
IsBelow w n other = ⊤

abbrev pub AllBelow : TheWorld → ℕ → List Action → Type 0
AllBelow w n [] = ⊤
AllBelow w n (a ∷ rest) = IsBelow w n a × AllBelow w n rest

-- a bucket that exists: some bytes encode its actions, and the groups that they name have shorter chains than its own
pub record IsBucket (w : TheWorld) (group place : ℕ) : Type 0 where
  pub actions : List Action
  pub there : w.bucket group place ≡ Some actions
  pub served : IsTrue (are_supported false actions)
  pub below : AllBelow w (w.chain group) actions

abbrev pub AllBuckets : TheWorld → ℕ → List ℕ → Type 0
AllBuckets w group [] = ⊤
AllBuckets w group (place ∷ rest) = IsBucket w group place × AllBuckets w group rest

pub record IsSound (w : TheWorld) : Type 0 where
  -- each winner is the number of an entry
  pub found : (t : ℕ) (m : Field → Option ℕ) (n : ℕ) → w.winner t m ≡ Some n → w.flow t n ≢ None
  -- the instructions of an entry are in the order of execution, one of a type, and some bytes encode them
  pub kept : (t n : ℕ) (f : Flow) → w.flow t n ≡ Some f → IsTrue (are_kept f.instructions)
  -- and go on to later tables only
  pub onward : (t n : ℕ) (f : Flow) → w.flow t n ≡ Some f → IsTrue (are_for t f.instructions)
  -- the ports are in ascending order of number: in this order FLOOD sends
  pub rising : IsTrue (is_ascending number_of_port w.ports)
  -- chains of groups
  pub short : (g : ℕ) → w.chain g ≤ longest
  pub chained : (g : ℕ) (places : List ℕ) → w.chosen g ≡ Some places → 0 < w.chain g
  -- at most 16 buckets of a group run, and they exist
  pub few : (g : ℕ) (places : List ℕ) → w.chosen g ≡ Some places → length places ≤ 16
  pub buckets : (g : ℕ) (places : List ℕ) → w.chosen g ≡ Some places → AllBuckets w g places
