-- ENTRIES WHOSE TIMEOUTS ARE OVER at a moment (OpenFlow 1.3.5, 5.5), each in a line: by which timeout, and since when that counts.
use Rattle.std.specs.Prelude.{ℕ, nat_lt, List, [], ◌∷◌, ◌++◌, decimal, slice_get, Option, Some, None, if◌then◌else◌}
use Rattle.std.specs.{List.flat_map, Option.option_map_or}
use Rattle.of_wire.specs.{declared.reasons.FlowRemovedReason.FlowRemovedReason, declared.reasons.FlowRemovedReason.TheVariants.HardTimeout}
use Rattle.of_headers.specs.{declared.headers.FrameFault.FrameFault, Faults.frame_fault}
use Rattle.of_table.specs.{Table.FlowEntry, Tables.table_at, Selecting.timeout_reason}
use Rattle.of_machine.specs.{declared.data.Step.Step, declared.data.Step.TheVariants.Entry}
use Rattle.of_datapath.specs.{Datapath.Forwarding, DryRun.received_steps}
use Rattle.of_text.specs.Lines.{note}
use Rattle.of_values.specs.Filled.{filled}
use Rattle.of_trace.specs.Words.{found_words}
use Rattle.of_history.specs.declared.expiring.TheConstants as line

abbrev pub timeout_words : FlowEntry → FlowRemovedReason → List ℕ
timeout_words e HardTimeout = filled line.HARD (decimal e.created ∷ [])
timeout_words e other = option_map_or (λ last. filled line.IDLE (decimal last ∷ [])) e.last line.NEVER_HIT

unfoldable pub expiry_words : ℕ → FlowEntry → FlowRemovedReason → List ℕ
expiry_words table e reason = filled line.EXPIRED (decimal table ∷ []) ++ found_words (Some e.flow) ++ timeout_words e reason

abbrev pub expiry_by : ℕ → FlowEntry → Option FlowRemovedReason → List ℕ
expiry_by table e None = []
expiry_by table e (Some reason) = note (expiry_words table e reason)

unfoldable pub expiry_line : ℕ → ℕ → FlowEntry → List ℕ
expiry_line moment table e = expiry_by table e (timeout_reason moment e)

-- ---- on the way of a frame

abbrev pub expiry_of : ℕ → ℕ → Option FlowEntry → List ℕ
expiry_of moment table None = []
expiry_of moment table (Some e) = expiry_line moment table e

abbrev pub step_expiry : Forwarding → ℕ → Step → List ℕ
step_expiry f moment (Entry table place) = if nat_lt table 16 then expiry_of moment table (slice_get (table_at table f.tables).flows place) else []
step_expiry f moment other = []

abbrev pub expiring_unless_fault : ℕ → List ℕ → ℕ → Forwarding → Option FrameFault → List ℕ
expiring_unless_fault port frame moment f (Some fault) = []
expiring_unless_fault port frame moment f None = flat_map (step_expiry f moment) (received_steps port frame f)

unfoldable pub way_expiring : ℕ → List ℕ → ℕ → Forwarding → List ℕ
way_expiring port frame moment f = expiring_unless_fault port frame moment f (frame_fault frame)
