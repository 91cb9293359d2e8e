-- The groups that a search asks, in descending order of best priority: the first ones, as far as an entry of them could win.
use Rattle.std.specs.Prelude.{◌≡◌, ℕ, ◌<◌, ◌≤◌, true, ◌⊎◌, List, [], ◌∷◌, length, Option, Some, None}
use Rattle.std.specs.List.{Contains}
use Rattle.slab.specs.Slab.{Slab, get}
use Rattle.of_layers.specs.declared.field.Field.{Field}
use Rattle.of_headers.specs.FieldMap.{either}
use Rattle.of_oxm.specs.{Masks.mask_at, Relations.matches_map}
use Rattle.of_mask_groups.specs.{declared.entry.Entry.Entry, declared.found.Found.Found, declared.group.Group.Group, Covering.found_of, Covering.IsFoundMatch, Covering.covered, Grouping.LooksLike}

-- So many groups are probed: the best of their entries that match is known, and none of them could be left out.
pub record AreProbed (entries : Slab Entry) (key : Field → Option ℕ) (groups : List Group) (best : Option Found) (probes : ℕ) : Type 0 where
  pub sound : (f : Found) → best ≡ Some f → IsFoundMatch entries key f
  pub covers : (n : ℕ) (e : Entry) (g : Group) → get entries n ≡ Some e → matches_map e.fields key ≡ true → Contains groups g → LooksLike g e → covered best (found_of n e) ≡ true
  pub above : (f : Found) (g : Group) → best ≡ Some f → Contains groups g → f.priority ≤ g.best
  pub count : probes ≡ length groups

-- a group that is not probed is below the best
pub record IsBelowBest (best : Option Found) (h : Group) : Type 0 where
  pub held : Found
  pub is : best ≡ Some held
  pub below : h.best < held.priority

abbrev pub IsDone : List Group → List Group → Option Found → Type 0
IsDone groups done best = (h : Group) → Contains groups h → Contains done h ⊎ IsBelowBest best h

-- the bits that the masks of some groups look at in a field, or none
abbrev pub groups_look : List Group → Field → Option ℕ
groups_look [] f = None
groups_look (g ∷ gs) f = either (mask_at g.mask f) (groups_look gs f)
