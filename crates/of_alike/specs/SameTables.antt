-- WHAT THE ENTRIES OF A FLOW TABLE SAY, and which entries of two tables have no counterpart in the other (OpenFlow 1.3.5, 5.2 and 5.3).
use Rattle.std.specs.Prelude.{◌≡◌, ℕ, ◌<◌, Bool, true, false, List, [], ◌∷◌, length, map, Option, Some, None, slice_get, ⊤}
use Rattle.of_oxm.specs.declared.match_field.MatchField.{MatchField}
use Rattle.of_actions.specs.declared.instruction.Instruction.{Instruction}
use Rattle.of_table.specs.{Table.FlowEntry, declared.entry.Entry.Entry, Entries.entry_of}
use Rattle.of_alike.specs.{declared.tables.Changed.Changed, declared.tables.Move.Move}
use Rattle.of_alike.specs.declared.tables.Move.TheVariants.{Both, First, Second}

-- what an entry says: its counters, its times and its flags treat no packet otherwise
pub record EntrySays : Type 0 where
  pub priority : ℕ
  pub fields : List MatchField
  pub cookie : ℕ
  pub instructions : List Instruction

abbrev pub says_of : FlowEntry → EntrySays
says_of e = record { priority = e.flow.priority; fields = e.flow.fields; cookie = e.flow.cookie; instructions = e.flow.instructions }

-- the entries say the same, in the same order
abbrev pub SameTables : List FlowEntry → List FlowEntry → Type 0
SameTables fs gs = map says_of fs ≡ map says_of gs

-- ---- marked entries

-- the entries whose mark is false, in order
abbrev pub without_marked : List FlowEntry → List Bool → List FlowEntry
without_marked [] marks = []
without_marked (e ∷ flows) [] = []
without_marked (e ∷ flows) (true ∷ marks) = without_marked flows marks
without_marked (e ∷ flows) (false ∷ marks) = e ∷ without_marked flows marks

-- each entry has a mark, and those that are not marked say the same, in the same order
pub record AreChanged (fs gs : List FlowEntry) (changed : Changed) : Type 0 where
  pub first : length changed.a.items ≡ length fs
  pub second : length changed.b.items ≡ length gs
  pub others : SameTables (without_marked fs changed.a.items) (without_marked gs changed.b.items)

-- ---- a walk over two lists of entries. No public clause cites this part.

-- the marks of the entries that are passed
abbrev pub first_marks : Move → List Bool
first_marks Both = false ∷ []
first_marks First = true ∷ []
first_marks Second = []

abbrev pub second_marks : Move → List Bool
second_marks Both = false ∷ []
second_marks First = []
second_marks Second = true ∷ []

-- both lists have an entry, and these say the same, or one of them has an entry
abbrev pub IsMove : Move → List Entry → List Entry → Type 0
IsMove Both (e ∷ es) (f ∷ fs) = says_of (entry_of e) ≡ says_of (entry_of f)
IsMove Both es fs = ⊥
IsMove First es fs = 0 < length es
IsMove Second es fs = 0 < length fs

-- ---- what a packet hits

-- the entries at these places say the same
pub record SayTheSame (fs gs : List FlowEntry) (i j : ℕ) : Type 0 where
  pub first : FlowEntry
  pub first_there : slice_get fs i ≡ Some first
  pub second : FlowEntry
  pub second_there : slice_get gs j ≡ Some second
  pub same : says_of first ≡ says_of second

-- a miss, or an entry that is not marked
abbrev pub IsUnmarkedHit : List Bool → Option ℕ → Type 0
IsUnmarkedHit marks None = ⊤
IsUnmarkedHit marks (Some i) = slice_get marks i ≡ Some false

-- two misses, or entries that say the same
abbrev pub AreSameHits : List FlowEntry → List FlowEntry → Option ℕ → Option ℕ → Type 0
AreSameHits fs gs None None = ⊤
AreSameHits fs gs None (Some j) = ⊥
AreSameHits fs gs (Some i) None = ⊥
AreSameHits fs gs (Some i) (Some j) = SayTheSame fs gs i j
