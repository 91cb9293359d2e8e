-- THE ENTRIES THAT A FRAME HITS, AND WHICH OF THEM CHANGED: the other switch has no entry that says the same in that table (OpenFlow 1.3.5, 5.2).
use Rattle.std.specs.Prelude.{◌≡◌, ◌↔◌, ℕ, ◌==◌, ◌<◌, ◌&&◌, Bool, true, false, List, [], ◌∷◌, map, slice_get, Some, if◌then◌else◌}
use Rattle.std.specs.List.{All, Contains, flat_map}
use Rattle.of_table.specs.Table.{FlowEntry}
use Rattle.of_datapath.specs.{Datapath.Forwarding, DryRun.steps_in}
use Rattle.of_json.specs.{declared.hits.Hit.Hit, Hits.hits_at}
use Rattle.of_alike.specs.SameTables.{says_of}
use Rattle.of_diff.specs.Changing.{entries_in}
use Rattle.of_diff_report.specs.{declared.hits.MarkedHit.MarkedHit, declared.hits.SideHits.SideHits}

abbrev pub hits_in : ℕ → List ℕ → Forwarding → List Hit
hits_in port frame f = flat_map hits_at (steps_in port frame f)

-- the same table of the other switch has an entry with its priority, match, cookie and instructions
abbrev pub IsInOther : Forwarding → Forwarding → Hit → Type 0
IsInOther f g hit = (hit.table < 16) × (e : FlowEntry) × (slice_get (entries_in f hit.table) hit.number ≡ Some e) × Contains (map says_of (entries_in g hit.table)) (says_of e)

abbrev pub IsMarked : Forwarding → Forwarding → MarkedHit → Type 0
IsMarked f g h = (h.changed ≡ false) ↔ IsInOther f g h.hit

abbrev pub hit_of : MarkedHit → Hit
hit_of h = h.hit

abbrev pub changed_at : MarkedHit → List Hit
changed_at h = if h.changed then h.hit ∷ [] else []

-- all of them, each marked, and those that changed
pub record AreSideHits (f g : Forwarding) (port : ℕ) (frame : List ℕ) (hits : SideHits) : Type 0 where
  pub all : map hit_of hits.all.items ≡ hits_in port frame f
  pub marked : All (IsMarked f g) hits.all.items
  pub changed : hits.changed.items ≡ flat_map changed_at hits.all.items

abbrev pub are_same_hits : List Hit → List Hit → Bool
are_same_hits [] [] = true
are_same_hits (h ∷ hs) (k ∷ ks) = h.table == k.table && h.number == k.number && are_same_hits hs ks
are_same_hits hs ks = false
