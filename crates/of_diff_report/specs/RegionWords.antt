-- THE REGION OF A SET OF FRAMES: what all its frames have in common, in words that `paths --match` takes (ovs-fields(7)). The set may have fewer frames.
use Rattle.std.specs.Prelude.{◌≡◌, ℕ, ◌/◌, ◌%◌, ◌==◌, ◌&&◌, Bool, true, not, is_some, List, [], ◌∷◌, ◌++◌, length, filter, decimal, Option, Some, None, Ok, unwrap_or, if◌then◌else◌}
use Rattle.std.specs.{Global.Vec, List.list_all, List.list_any}
use Rattle.of_layers.specs.{declared.field.Field.TheVariants.InPort, declared.field.Field.TheVariants.Metadata, Fields.number_of}
use Rattle.of_headers.specs.FieldMap.{value}
use Rattle.of_oxm.specs.{declared.match_field.MatchField.MatchField, Relations.matches_map}
use Rattle.of_values.specs.Filled.{filled}
use Rattle.of_frame_words.specs.Conditions.{conditions_in_words}
use Rattle.of_regions.specs.declared.region.Region.{Region}
use Rattle.of_symbolic.specs.Parts.{received_fields}
use Rattle.of_symbolic_run.specs.{declared.frame_set.FrameSet.FrameSet, FrameSets.InFrames}
use Rattle.of_diff_report.specs.declared.region.DescribedSet.{DescribedSet}
use Rattle.of_diff_report.specs.declared.region.TheConstants as line

-- the words are read as conditions that each frame of the set fulfils
abbrev pub IsTrueOf : FrameSet → List ℕ → Type 0
IsTrueOf s words =
    (m : List MatchField) × (conditions_in_words words ≡ Ok m) × ((frame : List ℕ) (port : ℕ) → InFrames s frame port → matches_map m (received_fields frame port) ≡ true)

-- words for a set, and for the first of some sets, if there are such
abbrev pub IsRegionOfSet : FrameSet → Option DescribedSet → Type 0
IsRegionOfSet s None = Unit {0}
IsRegionOfSet s (Some d) = (d.frames.now ≡ s) × IsTrueOf s d.words.items

abbrev pub IsRegionOf : List FrameSet → Option DescribedSet → Type 0
IsRegionOf [] region = region ≡ None
IsRegionOf (s ∷ sets) region = IsRegionOfSet s region

-- ---- `ip,dl_vlan=7,nw_dst=10.2.0.0/16 with an inner VLAN tag with nw_ttl 2 to 255 without 1 match`

abbrev pub words_said : List ℕ → List ℕ
words_said words = if length words == 0 then line.ALL_FRAMES else words

-- the range of the TTL, if the frame has one and not each TTL is in it
abbrev pub ttl_range_part : ℕ → ℕ → List ℕ
ttl_range_part low high = if low == 0 && high == 255 then [] else filled line.TTL (decimal low ∷ decimal high ∷ [])

-- METADATA of the descriptions of its frames tells an inner tag
abbrev pub is_inner_region : Region → Bool
is_inner_region r = unwrap_or (value r.known Metadata) 0 / 0x1000 % 2 == 1

-- each frame has a tag below its outermost one; nothing is said of a set without regions
abbrev pub inner_part : List Region → List ℕ
inner_part [] = []
inner_part (r ∷ rs) = if list_all is_inner_region (r ∷ rs) then line.INNER else []

-- a condition on IN_PORT under a mask, which no entry has, leaves out the numbers of ports that the switches do not have
abbrev pub is_port_block : MatchField → Bool
is_port_block e = number_of e.field == number_of InPort && is_some e.mask

abbrev pub is_of_entry : Vec MatchField → Bool
is_of_entry m = list_any (λ e. not (is_port_block e)) m.items

-- how many of some lists of conditions are those of entries
abbrev pub count_of_entries : List (Vec MatchField) → ℕ
count_of_entries lacks = length (filter is_of_entry lacks)

-- how many matches of entries match no frame of the set
abbrev pub lacks_part : ℕ → List ℕ
lacks_part n = if n == 0 then [] else filled (if n == 1 then line.LACKS_ONE else line.LACKS) (decimal n ∷ [])

unfoldable pub region_words : DescribedSet → List ℕ
region_words d =
    words_said d.words.items ++ inner_part d.frames.now.part.regions.items ++ ttl_range_part d.frames.now.ttl_from d.frames.now.ttl_to ++ lacks_part (count_of_entries d.frames.now.part.lacks.items)

abbrev pub region_line : Option DescribedSet → List ℕ
region_line None = []
region_line (Some d) = line.REGION ++ region_words d ++ 10 ∷ []
