-- REQUIREMENTS IN WORDS, one a line: `no frame ip,nw_src=10.0.9.0/24 leaves by 2,3,4`. Words are separated by spaces. A match has the words of
-- ovs-fields(7), with commas between them.
use Rattle.std.specs.Prelude.{ℕ, ◌==◌, ◌||◌, Bool, true, false, List, [], ◌∷◌, length, codes, Result, Ok, Err, if◌then◌else◌}
use Rattle.std.specs.{List.list_any, Str.bytes_eq}
use Rattle.of_wire.specs.declared.limits.TheConstants.{OFPP_CONTROLLER, TABLES}
use Rattle.of_actions.specs.PortNumbers.{is_number as is_port_number}
use Rattle.of_lines.specs.Lines.{before, behind}
use Rattle.of_oxm.specs.declared.match_field.MatchField.{MatchField}
use Rattle.of_ovs_words.specs.{declared.why.Why.Why as WordWhy, declared.why.Why.TheVariants.Unknown, Outcomes.◌>>=◌, Outcomes.numbered, Ports.port_in, Words.words_from}
use Rattle.of_frame_words.specs.{Conditions.conditions_in_words, Said.WordRefusal, Fields.is_match}
use Rattle.of_paths.specs.declared.destination.Destination.{Destination}
use Rattle.of_paths.specs.declared.destination.Destination.TheVariants.{Controller, Nothing, Port}
use Rattle.of_require.specs.{declared.refusal.Why.Why, declared.requirement.Demand.Demand, declared.requirement.Quantifier.Quantifier}
use Rattle.of_require.specs.declared.requirement.Quantifier.TheVariants.{AtLeastOne, Each, No}
use Rattle.of_require.specs.{declared.requirement.Requirement.Requirement, Refusals.LineRefusal, Refusals.each_said, Refusals.word_refused, Requirements.is_nothing}
use Rattle.of_require.specs.declared.refusal.Why.TheVariants as whys
use Rattle.of_require.specs.declared.requirement.Demand.TheVariants as demands

-- ---- words

-- without the spaces in front
abbrev pub unspaced : List ℕ → List ℕ
unspaced [] = []
unspaced (b ∷ bs) = if b == 32 then unspaced bs else b ∷ bs

-- the first word, and the text behind it
abbrev pub first_word_in : List ℕ → List ℕ
first_word_in text = before 32 (unspaced text)

abbrev pub behind_word : List ℕ → List ℕ
behind_word text = behind 32 (unspaced text)

-- the text behind a word that has to be the first one
abbrev pub behind_expected : List ℕ → Why → List ℕ → Result (List ℕ) LineRefusal
behind_expected name why text = if bytes_eq (first_word_in text) name then Ok (behind_word text) else word_refused (first_word_in text) why

-- ---- matches

abbrev pub match_refused : Result (List MatchField) WordRefusal → Result (List MatchField) LineRefusal
match_refused (Ok fields) = Ok fields
match_refused (Err r) = word_refused r.word (whys.Match r.why)

-- ---- places: `2,3,controller`

abbrev pub place_at : List ℕ → Result ℕ WordWhy → Result Destination LineRefusal
place_at word (Err why) = word_refused word whys.Place
place_at word (Ok port) =
    if port == OFPP_CONTROLLER then Ok Controller
    else if is_port_number port then Ok (Port port)
    else word_refused word whys.Place

abbrev pub place_named : List ℕ → Result Destination LineRefusal
place_named word = if bytes_eq word (codes "drop") then Ok Nothing else place_at word (port_in Unknown word)

-- one place at least
abbrev pub places_in : List ℕ → Result (List Destination) LineRefusal
places_in text = if length text == 0 then word_refused text whys.Place else each_said place_named (words_from 0 text)

-- ---- what frames do: `leaves by 2,3`, `leaves only by 2,controller`, `leaving by 3 has eth_dst=02:00:00:00:00:03` or `passes table 1`

pub data SaidDemand : Type 0 where
  LeavesBy : List Destination → SaidDemand
  LeavesOnlyBy : List Destination → SaidDemand
  PassesTable : ℕ → SaidDemand
  Has : List Destination → List MatchField → SaidDemand

abbrev pub view_demand : Demand → SaidDemand
view_demand (demands.LeavesBy places) = LeavesBy places.items
view_demand (demands.LeavesOnlyBy places) = LeavesOnlyBy places.items
view_demand (demands.PassesTable table) = PassesTable table
view_demand (demands.Has places fields) = Has places.items fields

abbrev pub table_named : List ℕ → Result ℕ WordWhy → Result ℕ LineRefusal
table_named word (Err why) = word_refused word whys.Table
table_named word (Ok table) = Ok table

-- each with the text behind it
abbrev pub by_said : (List Destination → SaidDemand) → List ℕ → Result (SaidDemand × List ℕ) LineRefusal
by_said demand text =
    behind_expected (codes "by") whys.Demand text >>= λ rest. places_in (first_word_in rest) >>= λ places. Ok (demand places, behind_word rest)

abbrev pub leaving_said : List ℕ → Result (SaidDemand × List ℕ) LineRefusal
leaving_said text = if bytes_eq (first_word_in text) (codes "only") then by_said LeavesOnlyBy (behind_word text) else by_said LeavesBy text

abbrev pub passing_said : List ℕ → Result (SaidDemand × List ℕ) LineRefusal
passing_said text =
    behind_expected (codes "table") whys.Demand text
    >>= λ rest. table_named (first_word_in rest) (numbered TABLES (first_word_in rest)) >>= λ table. Ok (PassesTable table, behind_word rest)

-- something leaves by these
abbrev pub exits_in : List ℕ → Result (List Destination) LineRefusal
exits_in text = places_in text >>= λ places. if list_any is_nothing places then word_refused text whys.NoPlace else Ok places

-- one field at least
abbrev pub fields_worded : List ℕ → Result (List MatchField) LineRefusal
fields_worded text =
    if length text == 0 then word_refused text whys.Fields
    else match_refused (conditions_in_words text) >>= λ fields. if is_match fields then Ok fields else word_refused text whys.Fields

abbrev pub having_said : List ℕ → Result (SaidDemand × List ℕ) LineRefusal
having_said text =
    behind_expected (codes "by") whys.Demand text
    >>= λ rest. exits_in (first_word_in rest)
    >>= λ places. behind_expected (codes "has") whys.Demand (behind_word rest)
    >>= λ last. fields_worded (first_word_in last) >>= λ fields. Ok (Has places fields, behind_word last)

abbrev pub demand_said : List ℕ → Result (SaidDemand × List ℕ) LineRefusal
demand_said text =
    if bytes_eq (first_word_in text) (codes "leaves") then leaving_said (behind_word text)
    else if bytes_eq (first_word_in text) (codes "leaving") then having_said (behind_word text)
    else if bytes_eq (first_word_in text) (codes "passes") then passing_said (behind_word text)
    else word_refused (first_word_in text) whys.Demand

-- ---- the end of the line, or `except ttl`

abbrev pub is_blank : List ℕ → Bool
is_blank text = length (unspaced text) == 0

abbrev pub end_said : List ℕ → Result Bool LineRefusal
end_said text = if is_blank text then Ok true else word_refused (first_word_in text) whys.Ending

abbrev pub ending_said : List ℕ → Result Bool LineRefusal
ending_said text =
    if is_blank text then Ok false
    else behind_expected (codes "except") whys.Ending text >>= λ rest. behind_expected (codes "ttl") whys.Ending rest >>= λ last. end_said last

-- ---- the frames: those of a match, or all

abbrev pub is_demand_word : List ℕ → Bool
is_demand_word word = bytes_eq word (codes "leaves") || bytes_eq word (codes "leaving") || bytes_eq word (codes "passes")

abbrev pub match_said : List ℕ → Result (List MatchField × List ℕ) LineRefusal
match_said text =
    if is_demand_word (first_word_in text) then Ok ([], text)
    else match_refused (conditions_in_words (first_word_in text)) >>= λ fields. Ok (fields, behind_word text)

-- ---- THE REQUIREMENT of a line. Refused is the first word without a meaning.

abbrev pub quantifier_named : List ℕ → Result Quantifier LineRefusal
quantifier_named word =
    if bytes_eq word (codes "no") then Ok No
    else if bytes_eq word (codes "each") then Ok Each
    else if bytes_eq word (codes "some") then Ok AtLeastOne
    else word_refused word whys.Beginning

pub record SaidRequirement : Type 0 where
  pub quantifier : Quantifier
  pub within : List MatchField
  pub demand : SaidDemand
  pub except_expired : Bool

abbrev pub view_requirement : Requirement → SaidRequirement
view_requirement r = record { quantifier = r.quantifier; within = r.within.items; demand = view_demand r.demand; except_expired = r.except_expired }

-- behind the quantifier
abbrev pub frames_said : Quantifier → List ℕ → Result SaidRequirement LineRefusal
frames_said quantifier text =
    behind_expected (codes "frame") whys.Beginning text
    >>= λ rest. match_said rest
    >>= λ m. demand_said m.1
    >>= λ d. ending_said d.1
    >>= λ except. Ok (record { quantifier = quantifier; within = m.0; demand = d.0; except_expired = except })

unfoldable pub requirement_said : List ℕ → Result SaidRequirement LineRefusal
requirement_said line = quantifier_named (first_word_in line) >>= λ quantifier. frames_said quantifier (behind_word line)
