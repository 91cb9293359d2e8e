-- WHAT THE LINES OF A FILE OF OVS-OFCTL SAY, if match fields that OpenFlow 1.3 does not have are conditions of their own.
use Rattle.std.specs.Prelude.{ℕ, ◌+◌, ◌==◌, ◌&&◌, not, Bool, true, List, [], ◌∷◌, ◌++◌, codes, decimal, filter, find, Option, Some, None, if◌then◌else◌}
use Rattle.std.specs.{List.list_all, List.list_any, Str.bytes_eq}
use Rattle.of_oxm.specs.{declared.match_field.MatchField.MatchField, SameMatch.is_same_match}
use Rattle.of_frame_words.specs.Fields.{is_match}
use Rattle.of_text.specs.{Flows.Flow as TextFlow, Lines.before}
use Rattle.of_ovs_words.specs.declared.why.Why.TheVariants as whys
use Rattle.of_ovs_words.specs.Words.{words_from}
use Rattle.of_ovs_lines.specs.{PartialFlows.Refusal, LineContents.begins_group, LineContents.parsed_line, LineContents.trimmed, LineContents.with_words}
use Rattle.of_ovs_lines.specs.LineContents as lines
use Rattle.of_shadowing.specs.{declared.conditions.Need.Need, declared.listing.TheConstants.ANY_TABLE, declared.listing.TheConstants.NO_TABLE}
use Rattle.of_shadowing.specs.{Conditions.is_need_met, Conditions.need_of_word, Conditions.why_unmet, LineWords.LineWords, LineWords.no_line_words, LineWords.with_line_word}

-- a flow: its line, its table, its priority, its match, its conditions, and where its actions lead
pub record ListedText : Type 0 where
  pub line : ℕ
  pub table : ℕ
  pub priority : ℕ
  pub fields : List MatchField
  pub words : List (List ℕ)
  pub tables : List ℕ
  pub anywhere : Bool

pub data ListedContent : Type 0 where
  Nothing : ListedContent
  Flow : (flow : ListedText) → ListedContent
  Refused : (faults : List Refusal) → ListedContent

-- ---- what a line says

-- a flow with an action `conjunction` takes packets only together with others, so it has a condition that no other flow has
abbrev pub clause_name : ℕ → List ℕ
clause_name n = codes "conjunction of line " ++ decimal n

abbrev pub with_clause : ℕ → Bool → List (List ℕ) → List (List ℕ)
with_clause n is_clause conditions = if is_clause then conditions ++ clause_name n ∷ [] else conditions

-- the match has what the field of a condition needs
abbrev pub is_met_beside : List MatchField → Option Need → Bool
is_met_beside m None = true
is_met_beside m (Some need) = is_need_met m need

abbrev pub is_word_met : List MatchField → List ℕ → Bool
is_word_met m word = is_met_beside m (need_of_word word)

abbrev pub why_of : Option Need → List ℕ → Refusal
why_of None word = record { word = word; why = whys.Unknown }
why_of (Some need) word = record { word = word; why = why_unmet need }

abbrev pub unmet_fault : Option (List ℕ) → Option Refusal
unmet_fault None = None
unmet_fault (Some word) = Some (why_of (need_of_word word) word)

-- table 255 is none; then the first condition whose field lacks what it needs
abbrev pub listed_fault : TextFlow → List (List ℕ) → Option Refusal
listed_fault f conditions =
    if f.head.table == NO_TABLE then Some (record { word = codes "table"; why = whys.Value })
    else unmet_fault (find (λ word. not (is_word_met f.fields word)) conditions)

abbrev pub flow_or_fault : ℕ → LineWords → TextFlow → Option Refusal → ListedContent
flow_or_fault n s f (Some fault) = Refused (fault ∷ [])
flow_or_fault n s f None =
    if is_match f.fields then Flow (record { line = n; table = f.head.table; priority = f.head.priority; fields = f.fields; words = with_clause n s.is_clause s.conditions; tables = s.scan.tables; anywhere = s.scan.anywhere })
    else Refused (record { word = codes "match"; why = whys.Value } ∷ [])

-- of the line without its conditions this is read
abbrev pub listed_content : ℕ → LineWords → lines.LineContent → ListedContent
listed_content n s lines.Nothing = Nothing
listed_content n s (lines.Group g) = Nothing
listed_content n s (lines.Flow f marks) = flow_or_fault n s f (listed_fault f s.conditions)
listed_content n s (lines.Refused faults) = Refused faults

abbrev pub split_words : List ℕ → LineWords
split_words text = with_words with_line_word no_line_words (words_from 0 text)

abbrev pub listed_words : ℕ → LineWords → ListedContent
listed_words n s = listed_content n s (parsed_line ANY_TABLE [] s.plain)

-- WHAT A LINE SAYS: groups say nothing
unfoldable pub listed_text : ℕ → List ℕ → ListedContent
listed_text n text = if begins_group text then Nothing else listed_words n (split_words text)

abbrev pub listed_line : ℕ → List ℕ → ListedContent
listed_line n line = listed_text n (trimmed (before 35 line))

-- ---- one line after the other

pub record Listing : Type 0 where
  pub flows : List ListedText
  -- all refused words of a line
  pub faults : List (ℕ × List Refusal)

abbrev pub no_listing : Listing
no_listing = record { flows = []; faults = [] }

abbrev pub are_among_words : List (List ℕ) → List (List ℕ) → Bool
are_among_words words others = list_all (λ w. list_any (λ o. bytes_eq o w) others) words

-- of one table, one priority, one match and the same conditions
abbrev pub is_same_flow : ListedText → ListedText → Bool
is_same_flow a b = a.table == b.table && a.priority == b.priority && is_same_match a.fields b.fields && are_among_words a.words b.words && are_among_words b.words a.words

-- it replaces the flow that is the same
abbrev pub with_flow_listed : ListedText → List ListedText → List ListedText
with_flow_listed f flows = filter (λ g. not (is_same_flow g f)) flows ++ f ∷ []

abbrev pub with_listed : ℕ → ListedContent → Listing → Listing
with_listed n Nothing t = t
with_listed n (Flow f) t = record t { flows = with_flow_listed f t.flows }
with_listed n (Refused faults) t = record t { faults = t.faults ++ (n, faults) ∷ [] }

-- lines more, after so many
abbrev pub listing_from : ℕ → Listing → List (List ℕ) → Listing
listing_from n t [] = t
listing_from n t (line ∷ lines) = listing_from (n + 1) (with_listed (n + 1) (listed_line (n + 1) line) t) lines

-- WHAT THE LINES SAY
unfoldable pub listing_of : List (List ℕ) → Listing
listing_of lines = listing_from 0 no_listing lines
