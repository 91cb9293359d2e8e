-- Regions all of whose packets have some fields.
use Rattle.std.proofs.Common.{◌≡◌, ◌<◌, ◌+◌, ℕ, true, List, length, get_or, take, Option, sym, subst, inl, inr}
use Rattle.of_layers.specs.declared.field.Field.{Field}
use Rattle.of_oxm.specs.{declared.match_field.MatchField.MatchField, Relations.matches_map}
use Rattle.of_regions.specs.{declared.meeting.Meeting.TheVariants.Whole, declared.region.Region.Region, Meeting.Meets, Regions.InRegion, Searching.InSome}
use Rattle.of_symbolic.proofs.PartLemmas.{first_or_next}

abbrev pub AreWhole : List MatchField → List Region → Type 0
AreWhole m regions = (fields : Field → Option ℕ) → InSome regions fields → matches_map m fields ≡ true

pub one_whole : (m : List MatchField) (regions : List Region) (i : ℕ) (r : Region) → r ≡ get_or regions i r → i < length regions → Meets r m Whole → AreWhole m (take i regions) → AreWhole m (take (i + 1) regions)
one_whole m regions i r is lt whole old fields h = elim (first_or_next regions i r h.0 is lt h.1) as (λ w. matches_map m fields ≡ true) [
  | inl first ↦ old fields (h.0, first, h.2)
  | inr same ↦ whole fields (subst (λ (x : Region). InRegion x fields) (sym same) h.2)
]
