-- WHY AN ENTRY OF A TABLE WON OR DID NOT, for a packet of these fields (OpenFlow 1.3.5, 5.3).
use Rattle.std.specs.Prelude.{◌≡◌, ℕ, ◌<◌, ◌==◌, nat_lt, true, false, List, Option, Some, None, slice_get, if◌then◌else◌}
use Rattle.std.specs.Option.{option_map}
use Rattle.of_layers.specs.declared.field.Field.{Field}
use Rattle.of_oxm.specs.{declared.match_field.MatchField.MatchField, Relations.agrees, Relations.first_difference, Relations.matches_map}
use Rattle.of_table.specs.Table.{FlowEntry, winner_place}
use Rattle.of_tracing.specs.declared.reason.Reason.{Reason}
use Rattle.of_tracing.specs.declared.reason.Reason.TheVariants.{Won, Differs, LowerPriority, Younger}

-- a field of the entry's match does not agree with the packet, and each field before it does
pub record HasDifference (flows : List FlowEntry) (map : Field → Option ℕ) (place : ℕ) (e : MatchField) (found : Option ℕ) : Type 0 where
  pub entry : FlowEntry
  pub there : slice_get flows place ≡ Some entry
  pub stand : ℕ
  pub stands : slice_get entry.flow.fields stand ≡ Some e
  pub found_is : found ≡ map e.field
  pub differs : agrees e found ≡ false
  pub first : (k : ℕ) (x : MatchField) → k < stand → slice_get entry.flow.fields k ≡ Some x → agrees x (map x.field) ≡ true

-- the entry matches
pub record DoesMatch (flows : List FlowEntry) (map : Field → Option ℕ) (place : ℕ) : Type 0 where
  pub entry : FlowEntry
  pub there : slice_get flows place ≡ Some entry
  pub matches : matches_map entry.flow.fields map ≡ true

-- the entry matches, and another one wins
pub record IsBeaten (flows : List FlowEntry) (map : Field → Option ℕ) (place winner : ℕ) : Type 0 where
  pub entry : FlowEntry
  pub there : slice_get flows place ≡ Some entry
  pub matches : matches_map entry.flow.fields map ≡ true
  pub better : FlowEntry
  pub better_there : slice_get flows winner ≡ Some better
  pub wins : winner_place map flows ≡ Some winner

-- which has a higher priority
pub record HasLowerPriority (flows : List FlowEntry) (map : Field → Option ℕ) (place winner : ℕ) : Type 0 where
  pub beaten : IsBeaten flows map place winner
  pub lower : beaten.entry.flow.priority < beaten.better.flow.priority

-- or has the same priority and is older
pub record IsYounger (flows : List FlowEntry) (map : Field → Option ℕ) (place winner : ℕ) : Type 0 where
  pub beaten : IsBeaten flows map place winner
  pub same : beaten.entry.flow.priority ≡ beaten.better.flow.priority
  pub older : winner < place

-- what is said of the entry at a place; nothing where there is none
abbrev pub Explains : List FlowEntry → (Field → Option ℕ) → ℕ → Option Reason → Type 0
Explains flows map place None = slice_get flows place ≡ None
Explains flows map place (Some Won) = winner_place map flows ≡ Some place
Explains flows map place (Some (Differs field found)) = HasDifference flows map place field found
Explains flows map place (Some (LowerPriority winner)) = HasLowerPriority flows map place winner
Explains flows map place (Some (Younger winner)) = IsYounger flows map place winner

-- ---- the one reason that there is

abbrev pub beaten_by : FlowEntry → ℕ → Option FlowEntry → Reason
beaten_by e winner None = Younger winner
beaten_by e winner (Some better) = if nat_lt e.flow.priority better.flow.priority then LowerPriority winner else Younger winner

abbrev pub reason_of_entry : List FlowEntry → ℕ → FlowEntry → Option ℕ → Reason
reason_of_entry flows place e None = Won
reason_of_entry flows place e (Some winner) = if winner == place then Won else beaten_by e winner (slice_get flows winner)

abbrev pub reason_by : List FlowEntry → (Field → Option ℕ) → ℕ → FlowEntry → Option MatchField → Reason
reason_by flows map place e (Some x) = Differs x (map x.field)
reason_by flows map place e None = reason_of_entry flows place e (winner_place map flows)

abbrev pub reason_in : List FlowEntry → (Field → Option ℕ) → ℕ → Option Reason
reason_in flows map place = option_map (λ e. reason_by flows map place e (first_difference e.flow.fields map)) (slice_get flows place)
