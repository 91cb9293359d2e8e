-- Runs where the entries of the tables have other numbers.
use Rattle.std.specs.Prelude.{◌≡◌, ℕ, Option, Some, map}
use Rattle.std.specs.Option.{option_map}
use Rattle.of_layers.specs.declared.field.Field.{Field}
use Rattle.of_machine.specs.declared.data.Count.TheVariants.{Lookup, Matched, TxDropped, Group, Bucket}
use Rattle.of_machine.specs.declared.data.Step.TheVariants.{Miss, Entry, Apply, Clear, Write, Metadata, Goto, Set, Act, TtlExpired, End}
use Rattle.of_machine.specs.{declared.data.Count.Count, declared.data.Step.Step, TheWorld.TheWorld, Runs.Machine}

-- the world v is w, but the entry n of table t has there the number `number t n`
pub record IsRenumbered (number : ℕ → ℕ → ℕ) (w v : TheWorld) : Type 0 where
  pub ports : v.ports ≡ w.ports
  pub winner : (t : ℕ) (m : Field → Option ℕ) → v.winner t m ≡ option_map (number t) (w.winner t m)
  pub flow : (t n : ℕ) (m : Field → Option ℕ) → w.winner t m ≡ Some n → v.flow t (number t n) ≡ w.flow t n
  pub chosen : (g : ℕ) → v.chosen g ≡ w.chosen g
  pub bucket : (g place : ℕ) → v.bucket g place ≡ w.bucket g place
  pub chain : (g : ℕ) → v.chain g ≡ w.chain g

abbrev pub renumbered_count : (ℕ → ℕ → ℕ) → Count → Count
renumbered_count number (Lookup t) = Lookup t
renumbered_count number (Matched t n bytes) = Matched t (number t n) bytes
renumbered_count number (TxDropped port) = TxDropped port
renumbered_count number (Group group bytes) = Group group bytes
renumbered_count number (Bucket group place bytes) = Bucket group place bytes

abbrev pub renumbered_step : (ℕ → ℕ → ℕ) → Step → Step
renumbered_step number (Miss t) = Miss t
renumbered_step number (Entry t n) = Entry t (number t n)
renumbered_step number Apply = Apply
renumbered_step number Clear = Clear
renumbered_step number Write = Write
renumbered_step number (Metadata value mask) = Metadata value mask
renumbered_step number (Goto t) = Goto t
renumbered_step number Set = Set
renumbered_step number (Act a) = Act a
renumbered_step number TtlExpired = TtlExpired
renumbered_step number End = End

-- the numbers in the counts and in the lines are changed, and nothing else is
abbrev pub renumbered_machine : (ℕ → ℕ → ℕ) → Machine → Machine
renumbered_machine number m = record m {
  counts = map (renumbered_count number) m.counts;
  lines = map (renumbered_step number) m.lines;
}
