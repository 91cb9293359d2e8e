-- WHAT IS SAID OF A FLOW ENTRY: a packet with which it wins, or the entries that leave it none (OpenFlow 1.3.5, 5.3).
use Rattle.std.specs.Prelude.{◌≡◌, ℕ, ◌^◌, ◌<◌, ◌≤◌, ◌⊎◌, ◌==◌, Bool, true, false, List, length, Option, Some, None, slice_get}
use Rattle.std.specs.List.{Contains, list_any}
use Rattle.of_layers.specs.{declared.field.Field.Field, Reading.layers_of, WellFormed.AreBytes}
use Rattle.of_headers.specs.FieldMap.{field_map}
use Rattle.of_oxm.specs.{declared.match_field.MatchField.MatchField, Relations.covers_match, Relations.matches_map, Relations.overlaps_match}
use Rattle.of_regions.specs.{declared.region.Region.Region, declared.rival.Rival.Rival, Conditions.AreConditions, Naming.AreAscending, Regions.InRegion}
use Rattle.of_regions.specs.{Searching.IsStart, Searching.IsUndecided, Searching.LeavesUnreceived, Witness.IsIngressPort}
use Rattle.of_table.specs.Table.{FlowEntry, winner_place}
use Rattle.of_check.specs.declared.verdict.Verdict.{Verdict}
use Rattle.of_check.specs.declared.verdict.Verdict.TheVariants.{Wins, Never, Unreceived, Open}

-- ---- packets

-- a frame, the port at which it was received, and the metadata that it has come to have
pub record Packet : Type 0 where
  pub frame : List ℕ
  pub in_port : ℕ
  pub metadata : ℕ

-- a frame of bytes has two addresses and a type at least; a port's number has 32 bits, metadata has 64
pub record IsPacket (p : Packet) : Type 0 where
  pub bytes : AreBytes p.frame
  pub long : 14 ≤ length p.frame
  pub port_fits : p.in_port < 2 ^ 32
  pub metadata_fits : p.metadata < 2 ^ 64

-- the fields that a lookup compares
abbrev pub fields_of : Packet → Field → Option ℕ
fields_of p = field_map (layers_of p.frame) p.in_port p.metadata

-- ---- the entries of a table, which are named by their places by age, from 0

-- the entry at a place matches the packet
pub record Matches (flows : List FlowEntry) (place : ℕ) (p : Packet) : Type 0 where
  pub entry : FlowEntry
  pub there : slice_get flows place ≡ Some entry
  pub matches : matches_map entry.flow.fields (fields_of p) ≡ true

-- one of these entries does
abbrev pub SomeMatches : List FlowEntry → List ℕ → Packet → Type 0
SomeMatches flows places p = (j : ℕ) × Contains places j × Matches flows j p

-- the entry at j goes before the one at k: it has a higher priority, or the same and is older
pub record GoesBefore (flows : List FlowEntry) (j k : ℕ) : Type 0 where
  pub first : FlowEntry
  pub first_there : slice_get flows j ≡ Some first
  pub second : FlowEntry
  pub second_there : slice_get flows k ≡ Some second
  pub before : (second.flow.priority < first.flow.priority) ⊎ ((first.flow.priority ≡ second.flow.priority) × (j < k))

-- ---- verdicts

-- the entry wins with this packet, which a switch may receive: its frame has at most 9,216 bytes
pub record WinsWith (flows : List FlowEntry) (k : ℕ) (p : Packet) : Type 0 where
  pub packet : IsPacket p
  pub short : length p.frame ≤ 9216
  pub ingress : IsIngressPort p.in_port
  pub wins : winner_place (fields_of p) flows ≡ Some k

-- the entry at j goes before the one at k, and its match covers that one's: each of its fields is there, with at least its mask and the same bits under it (6.4)
pub record Covers (flows : List FlowEntry) (j k : ℕ) : Type 0 where
  pub before : GoesBefore flows j k
  pub wider : covers_match before.first.flow.fields before.second.flow.fields ≡ true

-- the entry at j goes before the one at k, and both match all packets of a region (each region has a packet)
pub record TakesRegion (flows : List FlowEntry) (j k : ℕ) : Type 0 where
  pub before : GoesBefore flows j k
  pub region : Region
  pub own : (fields : Field → Option ℕ) → InRegion region fields → matches_map before.second.flow.fields fields ≡ true
  pub taken : (fields : Field → Option ℕ) → InRegion region fields → matches_map before.first.flow.fields fields ≡ true

-- each of these entries goes before this one, and covers it or matches all packets of a region that this one matches; and each packet that this one matches is
-- matched by one of them; they are named by age, each once
pub record NeverWins (flows : List FlowEntry) (k : ℕ) (by : List ℕ) : Type 0 where
  pub before : (j : ℕ) → Contains by j → GoesBefore flows j k
  pub shares : (j : ℕ) → Contains by j → Covers flows j k ⊎ TakesRegion flows j k
  pub covered : (p : Packet) → IsPacket p → Matches flows k p → SomeMatches flows by p
  pub by_age : AreAscending by

-- entries of one priority
abbrev pub are_level : Option FlowEntry → Option FlowEntry → Bool
are_level (Some a) (Some b) = a.flow.priority == b.flow.priority
are_level a b = false

-- one of these entries has the priority of the one at k: which of two such entries wins is undefined (5.3)
abbrev pub is_tie : List FlowEntry → ℕ → List ℕ → Bool
is_tie flows k places = list_any (λ j. are_level (slice_get flows j) (slice_get flows k)) places

-- the match of the entry, if there is one, covers the other match
abbrev pub is_covering : Option FlowEntry → List MatchField → Bool
is_covering None m = false
is_covering (Some e) m = covers_match e.flow.fields m

-- ---- what is not decided

-- the entries that go before the one at k, each with its place as its name; one may be left out if no packet has its match and that of the one at k
pub record AreRivals (flows : List FlowEntry) (k : ℕ) (own : FlowEntry) (rivals : List Rival) : Type 0 where
  pub each : (q : Rival) → Contains rivals q → (b : GoesBefore flows q.name k) × (q.fields.now ≡ b.first.flow.fields)
  pub conditions : (q : Rival) → Contains rivals q → AreConditions q.fields.now
  pub all : (j : ℕ) (b : GoesBefore flows j k) → ((q : Rival) × Contains rivals q × (q.name ≡ j)) ⊎ (overlaps_match b.first.flow.fields own.flow.fields ≡ false)

-- among the packets of the entry at k a search beside its rivals found this
pub record IsSearched (flows : List FlowEntry) (k : ℕ) (Outcome : List Region → List Rival → Type 0) : Type 0 where
  pub own : FlowEntry
  pub there : slice_get flows k ≡ Some own
  pub rivals : List Rival
  pub are : AreRivals flows k own rivals
  pub start : List Region
  pub begins : IsStart own.flow.fields start
  pub outcome : Outcome start rivals

-- it wins with some packets, but no switch receives any of these, since none has such a port
abbrev pub IsUnreceivedAlone : List FlowEntry → ℕ → Type 0
IsUnreceivedAlone flows k = IsSearched flows k (λ start rivals. (r : Region) × LeavesUnreceived start rivals r)

-- the search took so many steps, and was not done
abbrev pub IsOpen : List FlowEntry → ℕ → ℕ → Type 0
IsOpen flows k steps = IsSearched flows k (λ start rivals. IsUndecided start rivals steps)

-- a verdict on the entry at k after so many steps at most; `Unreceived` and `Open` say that no one entry covers it, and `Open` that there is no such entry, or that it is not decided
abbrev pub VerdictHolds : List FlowEntry → ℕ → ℕ → Verdict → Type 0
VerdictHolds flows k steps (Wins frame in_port metadata) = WinsWith flows k (record { frame = frame.items; in_port = in_port; metadata = metadata })
VerdictHolds flows k steps (Never by tie) = NeverWins flows k by.items × (tie ≡ is_tie flows k by.items)
VerdictHolds flows k steps Unreceived = ((j : ℕ) → ¬ (Covers flows j k)) × IsUnreceivedAlone flows k
VerdictHolds flows k steps Open = ((j : ℕ) → ¬ (Covers flows j k)) × ((slice_get flows k ≡ None) ⊎ IsOpen flows k steps)

abbrev pub is_never : Verdict → Bool
is_never (Never by tie) = true
is_never (Wins frame in_port metadata) = false
is_never Unreceived = true
is_never Open = false
