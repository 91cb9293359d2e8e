-- A TRACE FOR PEOPLE: below a line there are notes, each after four spaces. Without them it is the text of the trace.
use Rattle.std.specs.Prelude.{ℕ, ◌+◌, ◌==◌, ◌&&◌, Bool, true, false, not, nat_lt, bit_and, List, [], ◌∷◌, ◌++◌, Option, Some, None, codes, decimal, suc, if◌then◌else◌}
use Rattle.std.specs.List.{flat_map, list_any}
use Rattle.of_layers.specs.{declared.field.Field.Field, Fields.name_of, Fields.number_of, Fields.ones_of, Reading.layers_of}
use Rattle.of_layers.specs.declared.field.TheConstants.Field as constants
use Rattle.of_rewrite.specs.TimeToLive.{ttl_of}
use Rattle.of_actions.specs.declared.action.Action.{Action}
use Rattle.of_actions.specs.declared.action.Action.TheVariants as actions
use Rattle.of_table.specs.{declared.flow.Flow.Flow, Table.FlowEntry, Table.flags_number, Tables.table_at}
use Rattle.of_machine.specs.declared.data.Step.TheVariants.{Miss, Entry, Metadata, Set, Act, TtlExpired, End}
use Rattle.of_machine.specs.declared.data.Step.{Step}
use Rattle.of_oxm.specs.declared.match_field.MatchField.{MatchField}
use Rattle.of_text.specs.{Lines.ended, Lines.note, Rows.row_encoding, Rows.value_word}
use Rattle.of_lines.specs.declared.row.FlowHead.{FlowHead}
use Rattle.of_lines.specs.declared.row.Row.TheVariants as rows
use Rattle.of_datapath.specs.{declared.effect.Effect.Effect, Datapath.Forwarding, Datapath.world_of}
use Rattle.of_replay.specs.Output.{text_of}
use Rattle.of_values.specs.Values.{value_words}
use Rattle.of_trace.specs.Words.{entering_sights, flow_there, heading, leaving_text, step_words, words_text}
use Rattle.of_trace.specs.{declared.form.Style.Style, declared.form.Style.TheVariants.Lines, declared.form.Style.TheVariants.Words, declared.form.Asked.Asked}
use Rattle.of_trace.specs.{declared.form.Asked.TheVariants.Nothing, declared.form.Asked.TheVariants.All, declared.form.Asked.TheVariants.Priority, declared.form.Output.Output}
use Rattle.of_trace.specs.{declared.form.Form.Form, declared.form.Form.TheVariants.Plain, declared.form.Form.TheVariants.Explained, declared.form.Form.TheVariants.Why, declared.sight.Sight.Sight}
use Rattle.of_trace.specs.{Sights.key_seen, Sights.sight_after, Sights.stepped, declared.unsent.Unsent.Unsent, Unsent.unsent_action, Unsent.unsent_words, Text.step_line, Text.trace_text}
use Rattle.of_trace.specs.Json.{trace_json}
use Rattle.of_trace.specs.declared.form.Output.TheVariants as outputs
use Rattle.of_tracing.specs.declared.reason.Reason.{Reason}
use Rattle.of_tracing.specs.declared.reason.Reason.TheVariants.{Won, Differs, LowerPriority, Younger}
use Rattle.of_tracing.specs.Why.{reason_in}

-- ---- values

-- a space and a value in the digits of its field's bytes; no value has a bit above the field's width
abbrev pub spaced_digits : Field → ℕ → List ℕ
spaced_digits f v = 32 ∷ value_word f (bit_and v (ones_of f))

abbrev pub value_text : Style → Field → ℕ → List ℕ
value_text Lines f v = spaced_digits f v
value_text Words f v = 32 ∷ value_words f v None

abbrev pub value_or_absent : Style → Field → Option ℕ → List ℕ
value_or_absent style f None = codes " absent"
value_or_absent style f (Some v) = value_text style f v

-- ---- the winning entry's `flow` line and its `match` lines, as flow text writes them

abbrev pub match_notes : List MatchField → List ℕ
match_notes fields = flat_map (λ e. note (row_encoding (rows.Match e))) fields

abbrev pub head_in : ℕ → Flow → FlowHead
head_in table f = record { table = table; priority = f.priority; cookie = f.cookie; idle = f.idle_timeout; hard = f.hard_timeout; flags = flags_number f.flags }

abbrev pub entry_notes : ℕ → Option Flow → List ℕ
entry_notes table None = []
entry_notes table (Some f) = note (row_encoding (rows.Flow (head_in table f))) ++ match_notes f.fields

-- in words they are in the line itself
abbrev pub found_notes : Style → ℕ → Option Flow → List ℕ
found_notes Lines table flow = entry_notes table flow
found_notes Words table flow = []

abbrev pub miss_notes : Style → ℕ → List ℕ
miss_notes Lines table = note (codes "no entry matches in table" ++ 32 ∷ decimal table)
miss_notes Words table = []

-- ---- what a table sees of a packet: each field that the match of some entry has

abbrev pub has_field : Field → List MatchField → Bool
has_field f fields = list_any (λ x. number_of x.field == number_of f) fields

abbrev pub looks_at : List FlowEntry → Field → Bool
looks_at flows f = list_any (λ e. has_field f e.flow.fields) flows

abbrev pub seen_note : Style → List FlowEntry → (Field → Option ℕ) → Field → List ℕ
seen_note style flows map f = if looks_at flows f then note (codes "sees " ++ name_of f ++ value_or_absent style f (map f)) else []

abbrev pub seen_notes : Style → List FlowEntry → (Field → Option ℕ) → List ℕ
seen_notes style flows map = flat_map (seen_note style flows map) constants.ALL

-- ---- why entries won or did not

abbrev pub mask_digits : Field → Option ℕ → List ℕ
mask_digits f None = []
mask_digits f (Some mask) = spaced_digits f mask

-- what a field of a match wants
abbrev pub wanted_text : Style → MatchField → List ℕ
wanted_text Lines e = spaced_digits e.field e.value ++ mask_digits e.field e.mask
wanted_text Words e = 32 ∷ value_words e.field e.value e.mask

abbrev pub reason_words : Style → Reason → List ℕ
reason_words style Won = codes "wins"
reason_words style (Differs e found) = name_of e.field ++ codes " is" ++ value_or_absent style e.field found ++ codes ", not" ++ wanted_text style e
reason_words style (LowerPriority winner) = codes "matches, but entry" ++ 32 ∷ decimal winner ++ codes " has a higher priority"
reason_words style (Younger winner) = codes "matches, but entry" ++ 32 ∷ decimal winner ++ codes " is older"

abbrev pub reason_note : Style → FlowEntry → ℕ → Option Reason → List ℕ
reason_note style e place None = []
reason_note style e place (Some r) = note (codes "entry" ++ 32 ∷ decimal place ++ codes " (priority" ++ 32 ∷ decimal e.flow.priority ++ codes "): " ++ reason_words style r)

abbrev pub is_asked : Asked → ℕ → FlowEntry → Bool
is_asked Nothing t e = false
is_asked All t e = true
is_asked (Priority table priority) t e = (table == t) && (priority == e.flow.priority)

-- of the entries from a place on
abbrev pub reasons_from : Style → Asked → ℕ → (Field → Option ℕ) → List FlowEntry → ℕ → List FlowEntry → List ℕ
reasons_from style asked t map flows place [] = []
reasons_from style asked t map flows place (e ∷ rest) = (if is_asked asked t e then reason_note style e place (reason_in flows map place) else []) ++ reasons_from style asked t map flows (suc place) rest

abbrev pub table_notes : Style → Asked → ℕ → (Field → Option ℕ) → List FlowEntry → List ℕ
table_notes style asked t map flows = seen_notes style flows map ++ reasons_from style asked t map flows 0 flows

abbrev pub look_notes : Style → Forwarding → Asked → ℕ → (Field → Option ℕ) → List ℕ
look_notes style f asked t map = if nat_lt t 16 then table_notes style asked t map (table_at t f.tables).flows else []

-- ---- what an action changed: each field that has another value then, or is present only before or after

abbrev pub same_value : Option ℕ → Option ℕ → Bool
same_value None None = true
same_value None (Some b) = false
same_value (Some a) None = false
same_value (Some a) (Some b) = a == b

abbrev pub change_note : Style → (Field → Option ℕ) → (Field → Option ℕ) → Field → List ℕ
change_note style old new f = if same_value (old f) (new f) then [] else note (name_of f ++ value_or_absent style f (old f) ++ codes " ->" ++ value_or_absent style f (new f))

abbrev pub change_notes : Style → (Field → Option ℕ) → (Field → Option ℕ) → List ℕ
change_notes style old new = flat_map (change_note style old new) constants.ALL

-- ---- whether it changed the TTL of IPv4 or the hop limit of IPv6 (RFC 791, 3.1; RFC 8200, 3)

abbrev pub ttl_seen : Sight → Option ℕ
ttl_seen s = ttl_of (layers_of s.frame)

abbrev pub ttl_words : Option ℕ → List ℕ
ttl_words None = codes " absent"
ttl_words (Some n) = 32 ∷ decimal n

abbrev pub ttl_note : Option ℕ → Option ℕ → List ℕ
ttl_note old new = if same_value old new then [] else note (codes "nw_ttl" ++ ttl_words old ++ codes " ->" ++ ttl_words new)

-- ---- why an output or a group sends nothing; in words that stands on the line

abbrev pub unsent_note : Style → Option Unsent → List ℕ
unsent_note style None = []
unsent_note Lines (Some u) = note (unsent_words u)
unsent_note Words (Some u) = []

-- ---- which buckets of a group run

abbrev pub bucket_notes : List ℕ → List ℕ
bucket_notes places = flat_map (λ place. note (codes "bucket" ++ 32 ∷ decimal place)) places

abbrev pub group_notes : Option (List ℕ) → List ℕ
group_notes None = []
group_notes (Some places) = bucket_notes places

abbrev pub running_notes : Forwarding → Action → List ℕ
running_notes f (actions.Group group) = group_notes ((world_of f).chosen group)
running_notes f other = []

-- ---- the notes of a step, which this packet takes

abbrev pub step_changes : Style → Step → Sight → List ℕ
step_changes style step s = change_notes style (key_seen s) (key_seen (sight_after step s)) ++ ttl_note (ttl_seen s) (ttl_seen (sight_after step s))

abbrev pub sending_notes : Style → Forwarding → Sight → Action → List ℕ
sending_notes style f s action = unsent_note style (unsent_action f s.ingress action) ++ running_notes f action

abbrev pub notes : Style → Forwarding → Asked → Sight → Step → List ℕ
notes style f asked s (Miss t) = miss_notes style t ++ look_notes style f asked t (key_seen s)
notes style f asked s (Entry t place) = found_notes style t (flow_there f t place) ++ look_notes style f asked t (key_seen s)
notes style f asked s (Metadata value mask) = step_changes style (Metadata value mask) s
notes style f asked s (Act action) = sending_notes style f s action ++ step_changes style (Act action) s
notes style f asked s TtlExpired = note (codes "its work ends here")
notes style f asked s other = []

-- ---- an action set without output: none of its actions sends, and the packet ends (5.10)

abbrev pub sends_packet : Action → Bool
sends_packet (actions.Output port max_len) = true
sends_packet (actions.Group group) = true
sends_packet other = false

-- of a step, where this is so of those after it
abbrev pub is_unsent_from : Step → Bool → Bool
is_unsent_from (Act action) behind = not (sends_packet action) && behind
is_unsent_from End behind = true
is_unsent_from other behind = false

abbrev pub is_unsent : List Step → Bool
is_unsent [] = false
is_unsent (step ∷ steps) = is_unsent_from step (is_unsent steps)

abbrev pub is_set : Step → Bool
is_set Set = true
is_set other = false

abbrev pub set_notes : Step → List Step → List ℕ
set_notes step behind = if is_set step && is_unsent behind then note (codes "the action set has no output") else []

-- ---- the text

-- the first packet takes the step
abbrev pub first_notes : Style → Forwarding → Asked → List Sight → Step → List ℕ
first_notes style f asked [] step = []
first_notes style f asked (s ∷ others) step = notes style f asked s step

abbrev pub step_line_in : Style → Forwarding → ℕ → Step → List ℕ
step_line_in Lines f port step = step_line step
step_line_in Words f port step = step_words f port step

-- of a frame that came in by this port
abbrev pub explained_from : Style → Forwarding → Asked → ℕ → List Sight → List Step → List ℕ
explained_from style f asked port sights [] = []
explained_from style f asked port sights (step ∷ steps) = ended (step_line_in style f port step) ++ first_notes style f asked sights step ++ set_notes step steps ++ explained_from style f asked port (stepped (world_of f) step sights) steps

-- in words the frame comes first
abbrev pub heading_in : Style → Forwarding → ℕ → List ℕ → List ℕ
heading_in Lines f port frame = []
heading_in Words f port frame = ended (heading f port frame)

abbrev pub text_of_effects : Style → List Effect → List ℕ
text_of_effects Lines effects = text_of effects
text_of_effects Words effects = leaving_text effects

abbrev pub explained_trace : Style → Forwarding → Asked → ℕ → List ℕ → List Step → List Effect → List ℕ
explained_trace style f asked port frame steps effects = heading_in style f port frame ++ explained_from style f asked port (entering_sights port frame) steps ++ text_of_effects style effects

abbrev pub plain_trace : Style → Forwarding → ℕ → List ℕ → List Step → List Effect → List ℕ
plain_trace Lines f port frame steps effects = trace_text steps effects
plain_trace Words f port frame steps effects = ended (heading f port frame) ++ words_text f port steps ++ leaving_text effects

-- THE TEXT OF A TRACE in one of its styles and forms
abbrev pub styled : Style → Form → Forwarding → ℕ → List ℕ → List Step → List Effect → List ℕ
styled style Plain f port frame steps effects = plain_trace style f port frame steps effects
styled style Explained f port frame steps effects = explained_trace style f Nothing port frame steps effects
styled style (Why asked) f port frame steps effects = explained_trace style f asked port frame steps effects

-- and what is written of it: one of these texts, or JSON
abbrev pub trace_output : Output → Forwarding → ℕ → List ℕ → List Step → List Effect → List ℕ
trace_output (outputs.Lines form) f port frame steps effects = styled Lines form f port frame steps effects
trace_output (outputs.Words form) f port frame steps effects = styled Words form f port frame steps effects
trace_output outputs.Json f port frame steps effects = trace_json f port frame steps effects
