-- Packets by the port by which they came in.
use Rattle.std.proofs.Common.{◌≡◌, ℕ, ◌<◌, ◌^◌, eqb, true, false, List, [], ◌∷◌, Option, Some, refl, sym, ap, subst, ◌∙◌}
use Rattle.std.specs.{Prelude.bit_and, Prelude.◌&&◌, Global.Vec, List.All, List.Contains}
use Rattle.std.proofs.{lemmas.Bool.and_from, lemmas.Bool.and_parts, lemmas.Bool.eq-eqb, lemmas.List.Elements.All-contains, lemmas.List.Elements.All-head, lemmas.List.Elements.All-tail}
use Rattle.of_layers.specs.{declared.field.Field.Field, declared.field.Field.TheVariants.InPort, Fields.ones_of}
use Rattle.of_oxm.{specs.declared.match_field.MatchField.MatchField, specs.Relations.agrees, specs.Relations.bits_looked_at, specs.Relations.matches_map}
use Rattle.of_regions.specs.{declared.meeting.Meeting.TheVariants.Apart, declared.meeting.Meeting.TheVariants.Whole, declared.region.Region.Region, Meeting.Meets}
use Rattle.of_regions.specs.Regions.{InRegion}
use Rattle.of_symbolic.specs.InnerTags.{description_of}
use Rattle.of_symbolic_run.{specs.declared.frame_set.FrameSet.FrameSet, specs.FrameSets.InFrames, specs.PortNumbers.came_in_by, proofs.ConditionLemmas.within_port}
use Rattle.of_alike.specs.IngressPorts.{HasNoneFrom, MatchesAllFrom}

met_from : (port : ℕ) → port < 2 ^ 32 → (fields : Field → Option ℕ) → fields InPort ≡ Some port → matches_map (came_in_by port ∷ []) fields ≡ true
met_from port fits fields from = ap (λ o. agrees (came_in_by port) o && true) from ∙ ap (λ b. b && true) (eq-eqb (bit_and port (ones_of InPort)) port (within_port port fits))

-- no packet of the region meets the condition
pub away_from : (lacks : List (Vec MatchField)) (r : Region) (port : ℕ) (e : MatchField) → port < 2 ^ 32 → e ≡ came_in_by port → Meets r (e ∷ []) Apart → HasNoneFrom lacks port r
away_from lacks r port e fits is apart fields within none from =
    let no : matches_map (came_in_by port ∷ []) fields ≡ false = subst (λ (x : MatchField). matches_map (x ∷ []) fields ≡ false) is (apart fields within) in
    let yes = met_from port fits fields from in
    absurd (let both : true ≡ false = sym yes ∙ no in cc)

pub agrees_by_port : (r : Region) (port : ℕ) (e : MatchField) → e.field ≡ InPort → eqb (bit_and port (bits_looked_at e)) e.value ≡ true → MatchesAllFrom r port e
agrees_by_port r port e is test fields within from = ap (agrees e) (ap fields is ∙ from) ∙ test

-- a condition that matches all packets of the region
pub agrees_if_whole : (r : Region) (port : ℕ) (e : MatchField) → Meets r (e ∷ []) Whole → MatchesAllFrom r port e
agrees_if_whole r port e whole fields within from = (and_parts (agrees e (fields e.field)) true (whole fields within)).0

all_match : (r : Region) (port : ℕ) (m : List MatchField) → All (MatchesAllFrom r port) m → (fields : Field → Option ℕ) → InRegion r fields → fields InPort ≡ Some port → matches_map m fields ≡ true
all_match r port [] all fields within from = refl
all_match r port (e ∷ m) all fields within from =
    and_from (agrees e (fields e.field)) (matches_map m fields) (All-head (MatchesAllFrom r port) e m all fields within from) (all_match r port m (All-tail (MatchesAllFrom r port) e m all) fields within from)

-- a list matches all that came in by the port
pub none_by_list : (lacks : List (Vec MatchField)) (r : Region) (port : ℕ) (m : Vec MatchField) (conditions : List MatchField) → Contains lacks m → conditions ≡ m.items → All (MatchesAllFrom r port) conditions → HasNoneFrom lacks port r
none_by_list lacks r port m conditions there is all fields within none from =
    let no : matches_map m.items fields ≡ false = none m there in
    let yes : matches_map m.items fields ≡ true = subst (λ (l : List MatchField). matches_map l fields ≡ true) is (all_match r port conditions all fields within from) in
    absurd (let both : true ≡ false = sym yes ∙ no in cc)

pub none_of_set : (s : FrameSet) (port : ℕ) → All (HasNoneFrom s.part.lacks.items port) s.part.regions.items → (frame : List ℕ) → InFrames s frame port → ⊥
none_of_set s port each frame h =
    let in_region = h.part.0 in
    All-contains (HasNoneFrom s.part.lacks.items port) s.part.regions.items in_region.0 each in_region.1
    (description_of s.inner frame port) in_region.2 h.part.1 refl
