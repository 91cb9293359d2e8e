-- A step of one run.
use Rattle.std.proofs.Common.{◌≡◌, ◌<◌, ◌≤◌, ℕ, Bool, List, length, refl, sym, subst, ◌⊎◌, inl, inr}
use Rattle.of_wire.specs.declared.limits.TheConstants.{TABLES}
use Rattle.of_table.specs.{Table.FlowEntry, Tables.table_at}
use Rattle.of_machine.specs.TheWorld.{TheWorld}
use Rattle.of_datapath.specs.Datapath.{Forwarding, world_of}
use Rattle.of_symbolic_run.specs.{declared.advance.Advance.TheVariants.Lookup, declared.dividing.Case.Case, declared.frame_set.FrameSet.FrameSet, declared.state.SymbolicState.SymbolicState}
use Rattle.of_symbolic_run.specs.{declared.state.SymbolicTask.SymbolicTask, Cases.AreCases, Cases.AsksUnknownOf, Cases.IsTableOf, States.IsAt, States.answer_to_tasks, declared.side.Side.Side}
use Rattle.of_symbolic_run.specs.{declared.side.Side.TheVariants.Advanced, declared.side.Side.TheVariants.Divided, declared.side.Side.TheVariants.Unknown, Sides.IsUnknownLookup, Sides.SideIs}
use Rattle.of_symbolic_run.proofs.NextLemmas.{next_from, states_from}

-- ---- a lookup

pub no_table : (told : Bool) (w : TheWorld) (s : SymbolicState) (table : ℕ) → answer_to_tasks s.tasks.items ≡ Lookup table → TABLES ≤ table → IsUnknownLookup told w s
no_table told w s table lookup past = record { table = table; lookup = lookup; unknown = inl past }

pub has_table : (f : Forwarding) (table : ℕ) (flows : List FlowEntry) → flows ≡ (table_at table f.tables).flows → IsTableOf (world_of f) table flows
has_table f table flows is = subst (IsTableOf (world_of f) table) (sym is) (record { winner = λ fields. refl; flow = λ place. refl })

pub asks_unknown : (told : Bool) (f : Forwarding) (s : SymbolicState) (table : ℕ) (flows : List FlowEntry) → answer_to_tasks s.tasks.items ≡ Lookup table → flows ≡ (table_at table f.tables).flows → AsksUnknownOf told s.tasks.items flows → IsUnknownLookup told (world_of f) s
asks_unknown told f s table flows lookup is asks = record { table = table; lookup = lookup; unknown = inr (flows, has_table f table flows is, asks) }

-- ---- a step before that kept the state of each run

pub cases_from : (w : TheWorld) (frames : FrameSet) (old new : SymbolicState) (cases : List Case) → ((frame : List ℕ) (port : ℕ) → IsAt w frame port old → IsAt w frame port new) → AreCases w frames new cases → AreCases w frames old cases
cases_from w frames old new cases keeps h = record { within = h.within; all = h.all; at = λ c there frame port is within at. h.at c there frame port is within (keeps frame port at) }

-- nothing changed before a lookup
pub side_from : (w : TheWorld) (frames : FrameSet) (old between : SymbolicState) (side : Side) → ((frame : List ℕ) (port : ℕ) → IsAt w frame port old → IsAt w frame port between) → between.tasks.items ≡ old.tasks.items → between.emitted.items ≡ old.emitted.items → between.steps.items ≡ old.steps.items → SideIs w frames between between side → SideIs w frames old between side
side_from w frames old between Advanced keeps tasks emitted steps h =
    (keeps, λ some. next_from w old between tasks emitted steps between (h.1 (subst (λ (ts : List SymbolicTask). 0 < length ts) (sym tasks) some)))
side_from w frames old between (Divided cases) keeps tasks emitted steps h = (cases_from w frames old between cases.items keeps h.0, states_from w old between tasks emitted steps cases.items h.1)
side_from w frames old between Unknown keeps tasks emitted steps h = record {
  table = h.table;
  lookup = subst (λ (ts : List SymbolicTask). answer_to_tasks ts ≡ Lookup h.table) tasks h.lookup;
  unknown = subst (λ (ts : List SymbolicTask). (TABLES ≤ h.table) ⊎ ((flows : List FlowEntry) × IsTableOf w h.table flows × AsksUnknownOf frames.inner ts flows)) tasks h.unknown;
}
