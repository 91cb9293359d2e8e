-- WHAT IS SAID OF A FLOW OF A FILE OF OVS-OFCTL: a packet with which it wins if its words hold and no others, or the flows that leave it no world (OpenFlow 1.3.5, 5.3).
use Rattle.std.specs.Prelude.{◌≡◌, ℕ, ◌<◌, ◌≤◌, ◌⊎◌, ◌==◌, Bool, true, false, List, length, Option, Some, None, IfSome, slice_get}
use Rattle.std.specs.List.{Contains, list_any}
use Rattle.of_layers.specs.declared.field.Field.{Field}
use Rattle.of_oxm.specs.{declared.match_field.MatchField.MatchField, Relations.covers_match, Relations.matches_map, Relations.overlaps_match}
use Rattle.of_regions.specs.{declared.region.Region.Region, declared.rival.Rival.Rival, Conditions.AreConditions, Naming.AreAscending, Regions.InRegion}
use Rattle.of_regions.specs.{Searching.IsStart, Searching.IsUndecided, Searching.LeavesUnreceived, Witness.IsIngressPort}
use Rattle.of_check.specs.{Verdicts.IsPacket, Verdicts.Packet, declared.finding.Finding.Finding, declared.verdict.Verdict.Verdict}
use Rattle.of_check.specs.declared.verdict.Verdict.TheVariants.{Wins, Never, Unreceived, Open}
use Rattle.of_shadowing.specs.Worlds.{World, all_hold, own_world, says_word, takes_world}
use Rattle.of_shadowing.specs.declared.listed_flow.ListedFlow.{ListedFlow}

-- ---- flows, which are named by their places in the order of the lines, from 0

-- the flow at a place takes the world
pub record Takes (flows : List ListedFlow) (place : ℕ) (w : World) : Type 0 where
  pub flow : ListedFlow
  pub there : slice_get flows place ≡ Some flow
  pub takes : takes_world flow w ≡ true

-- one of these flows does
abbrev pub SomeTakes : List ListedFlow → List ℕ → World → Type 0
SomeTakes flows places w = (j : ℕ) × Contains places j × Takes flows j w

-- of one table, with a higher priority, or the same and an earlier line
abbrev pub Precedes : ListedFlow → ℕ → ListedFlow → ℕ → Type 0
Precedes a j b k = (a.table ≡ b.table) × ((b.priority < a.priority) ⊎ ((a.priority ≡ b.priority) × (j < k)))

-- the flow at j goes before the one at k
pub record FlowGoesBefore (flows : List ListedFlow) (j k : ℕ) : Type 0 where
  pub first : ListedFlow
  pub first_there : slice_get flows j ≡ Some first
  pub second : ListedFlow
  pub second_there : slice_get flows k ≡ Some second
  pub before : Precedes first j second k

-- ---- verdicts

-- THE FLOW AT k WINS IN A WORLD: it takes it, and no flow that goes before does
pub record WinsIn (flows : List ListedFlow) (k : ℕ) (w : World) : Type 0 where
  pub takes : Takes flows k w
  pub first : (j : ℕ) → FlowGoesBefore flows j k → ¬ (Takes flows j w)

-- it wins with this packet, which a switch may receive, if its words hold and no others
pub record FlowWinsWith (flows : List ListedFlow) (k : ℕ) (p : Packet) : Type 0 where
  pub packet : IsPacket p
  pub short : length p.frame ≤ 9216
  pub ingress : IsIngressPort p.in_port
  pub own : ListedFlow
  pub there : slice_get flows k ≡ Some own
  pub wins : WinsIn flows k (own_world own p)

-- the flow at j goes before the one at k, asks for no other words, and its match covers that one's (6.4)
pub record FlowCovers (flows : List ListedFlow) (j k : ℕ) : Type 0 where
  pub before : FlowGoesBefore flows j k
  pub words : all_hold (says_word before.second) before.first ≡ true
  pub wider : covers_match before.first.fields before.second.fields ≡ true

-- or both match all packets of a region (each region has a packet)
pub record FlowTakesRegion (flows : List ListedFlow) (j k : ℕ) : Type 0 where
  pub before : FlowGoesBefore flows j k
  pub words : all_hold (says_word before.second) before.first ≡ true
  pub region : Region
  pub own : (fields : Field → Option ℕ) → InRegion region fields → matches_map before.second.fields fields ≡ true
  pub taken : (fields : Field → Option ℕ) → InRegion region fields → matches_map before.first.fields fields ≡ true

-- THE FLOW AT k NEVER WINS: each world that it takes is taken by one of these flows, which go before it; they are named by age, each once, and each takes some of its packets
pub record FlowNeverWins (flows : List ListedFlow) (k : ℕ) (by : List ℕ) : Type 0 where
  pub before : (j : ℕ) → Contains by j → FlowGoesBefore flows j k
  pub shares : (j : ℕ) → Contains by j → FlowCovers flows j k ⊎ FlowTakesRegion flows j k
  pub covered : (w : World) → IsPacket w.packet → Takes flows k w → SomeTakes flows by w
  pub by_age : AreAscending by

-- flows of one priority
abbrev pub are_level_flows : Option ListedFlow → Option ListedFlow → Bool
are_level_flows (Some a) (Some b) = a.priority == b.priority
are_level_flows a b = false

-- one of these flows has the priority of the one at k: which of two such flows wins is undefined (5.3)
abbrev pub is_tie_of_flows : List ListedFlow → ℕ → List ℕ → Bool
is_tie_of_flows flows k places = list_any (λ j. are_level_flows (slice_get flows j) (slice_get flows k)) places

-- the match of the flow, if there is one, covers the other match
abbrev pub is_covering_flow : Option ListedFlow → List MatchField → Bool
is_covering_flow None m = false
is_covering_flow (Some f) m = covers_match f.fields m

-- ---- what is not decided

-- the flows that go before the one at k and ask for no words but its own, each with its place as its name; one may be left out if no packet has its match and that of the one at k
pub record AreFlowRivals (flows : List ListedFlow) (k : ℕ) (own : ListedFlow) (rivals : List Rival) : Type 0 where
  pub each : (q : Rival) → Contains rivals q → (b : FlowGoesBefore flows q.name k) × (q.fields.now ≡ b.first.fields) × (all_hold (says_word own) b.first ≡ true)
  pub conditions : (q : Rival) → Contains rivals q → AreConditions q.fields.now
  pub all : (j : ℕ) (b : FlowGoesBefore flows j k) → all_hold (says_word own) b.first ≡ true → ((q : Rival) × Contains rivals q × (q.name ≡ j)) ⊎ (overlaps_match b.first.fields own.fields ≡ false)

-- among the packets of the flow at k a search beside its rivals found this
pub record IsSearchedFlow (flows : List ListedFlow) (k : ℕ) (Outcome : List Region → List Rival → Type 0) : Type 0 where
  pub own : ListedFlow
  pub there : slice_get flows k ≡ Some own
  pub rivals : List Rival
  pub are : AreFlowRivals flows k own rivals
  pub start : List Region
  pub begins : IsStart own.fields start
  pub outcome : Outcome start rivals

-- a verdict on the flow at k after so many steps at most: `Unreceived`, that it wins with some packets, but no switch receives any of these, since none has such a port;
-- `Open`, that there is no such flow, or that the search took so many steps and was not done; of both no one flow covers it
abbrev pub FlowVerdictHolds : List ListedFlow → ℕ → ℕ → Verdict → Type 0
FlowVerdictHolds flows k steps (Wins frame in_port metadata) = FlowWinsWith flows k (record { frame = frame.items; in_port = in_port; metadata = metadata })
FlowVerdictHolds flows k steps (Never by tie) = FlowNeverWins flows k by.items × (tie ≡ is_tie_of_flows flows k by.items)
FlowVerdictHolds flows k steps Unreceived = ((j : ℕ) → ¬ (FlowCovers flows j k)) × IsSearchedFlow flows k (λ start rivals. (r : Region) × LeavesUnreceived start rivals r)
FlowVerdictHolds flows k steps Open = ((j : ℕ) → ¬ (FlowCovers flows j k)) × ((slice_get flows k ≡ None) ⊎ IsSearchedFlow flows k (λ start rivals. IsUndecided start rivals steps))

-- a finding on the flow at k
pub record IsFindingOn (flows : List ListedFlow) (steps k : ℕ) (f : Finding) : Type 0 where
  pub place : f.place ≡ k
  pub table : IfSome (slice_get flows k) (λ own. f.table ≡ own.table)
  pub holds : FlowVerdictHolds flows k steps f.verdict

-- one finding on each flow, in their order
pub record AreVerdicts (flows : List ListedFlow) (steps : ℕ) (findings : List Finding) : Type 0 where
  pub count : length findings ≡ length flows
  pub each : (k : ℕ) (f : Finding) → slice_get findings k ≡ Some f → IsFindingOn flows steps k f
