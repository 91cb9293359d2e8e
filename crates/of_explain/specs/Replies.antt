-- WHAT IS BELOW THE NOTE OF AN ANSWER: of a multipart reply each of its rows in words, and of a flow entry its match (7.3.5); of FLOW_REMOVED its match.
use Rattle.std.specs.Prelude.{ℕ, zero, suc, nat_le, ◌+◌, ◌==◌, List, [], ◌∷◌, ◌++◌, length, take, drop, map, codes, Option, Some, None, Result, Ok, Err, if◌then◌else◌}
use Rattle.std.specs.List.{flat_map}
use Rattle.of_wire.specs.declared.code.Code.{Code}
use Rattle.of_formats.specs.{declared.messages.TheConstants.FLOW_REMOVED, declared.messages.TheConstants.MULTIPART_REPLY, Structs.size}
use Rattle.of_formats.specs.Tables as tables
use Rattle.of_oxm.specs.{declared.match_field.MatchField.MatchField, MatchReading.match_of}
use Rattle.of_lines.specs.declared.row.Row.{Row}
use Rattle.of_lines.specs.declared.row.Row.TheVariants as rows
use Rattle.of_text.specs.Lines.{ended}
use Rattle.of_explain.specs.Fields.{Field, fields, field_number, labelled_field, fields_words}
use Rattle.of_explain.specs.{declared.fields.Form.TheVariants.Plainly, declared.fields.Form.TheVariants.Named, declared.fields.Form.TheVariants.InHex, declared.names.Names.TheVariants.GroupTypes}
use Rattle.of_explain.specs.{Messages.multipart_type, Requests.row_line, Requests.row_lines}

-- ---- the rows

-- the length of the row at the front: of some types it is its first number, of others it is always the same, and others have no rows
unfoldable pub length_by : ℕ → Option ℕ → Option ℕ
length_by type first =
    if type == 1 then first  -- FLOW (7.3.5.2)
    else if type == 3 then Some (size tables.table_stats)  -- TABLE (7.3.5.4)
    else if type == 4 then Some (size tables.port_stats)  -- PORT_STATS (7.3.5.6)
    else if type == 6 then first  -- GROUP (7.3.5.9)
    else if type == 7 then first  -- GROUP_DESC (7.3.5.10)
    else if type == 13 then Some (size tables.port)  -- PORT_DESC (7.3.5.7)
    else None

-- a row has some bytes, and ends before the message does
abbrev pub within : ℕ → Option ℕ → Option ℕ
within most None = None
within most (Some size) = if nat_le 1 size then (if nat_le size most then Some size else None) else None

unfoldable pub front_row : ℕ → List ℕ → Option ℕ
front_row type body = within (length body) (length_by type (field_number "length" 0 tables.flow_stats body))

-- the row at the front, and then others
abbrev pub and_rows : (List ℕ → List (List ℕ)) → List ℕ → Option ℕ → List (List ℕ)
and_rows others body None = []
and_rows others body (Some size) = take size body ∷ others (drop size body)

-- at most n
abbrev pub first_rows : ℕ → ℕ → List ℕ → List (List ℕ)
first_rows zero type body = []
first_rows (suc n) type body = and_rows (first_rows n type) body (front_row type body)

-- all: each has some bytes
unfoldable pub rows_of_reply : ℕ → List ℕ → List (List ℕ)
rows_of_reply type body = first_rows (length body) type body

-- ---- what each says

-- 7.3.5.2
abbrev pub flow_row_fields : List Field
flow_row_fields =
    fields 0 tables.flow_stats
    (labelled_field "table_id" "table" Plainly ∷ labelled_field "priority" " priority" Plainly ∷ labelled_field "cookie" " cookie" InHex
    ∷ labelled_field "duration_sec" " seconds" Plainly ∷ labelled_field "packet_count" " packets" Plainly ∷ labelled_field "byte_count" " bytes" Plainly ∷ [])

-- 7.3.5.4
abbrev pub table_row_fields : List Field
table_row_fields =
    fields 0 tables.table_stats
    (labelled_field "table_id" "table" Plainly ∷ labelled_field "active_count" " flows" Plainly ∷ labelled_field "lookup_count" " lookups" Plainly
    ∷ labelled_field "matched_count" " matched" Plainly ∷ [])

-- 7.3.5.6
abbrev pub port_row_fields : List Field
port_row_fields =
    fields 0 tables.port_stats
    (labelled_field "port_no" "port" Plainly ∷ labelled_field "rx_packets" " rx_packets" Plainly ∷ labelled_field "rx_bytes" " rx_bytes" Plainly ∷ labelled_field "rx_dropped" " rx_dropped" Plainly
    ∷ labelled_field "tx_packets" " tx_packets" Plainly ∷ labelled_field "tx_bytes" " tx_bytes" Plainly ∷ labelled_field "tx_dropped" " tx_dropped" Plainly
    ∷ labelled_field "duration_sec" " seconds" Plainly ∷ [])

-- 7.3.5.9
abbrev pub group_row_fields : List Field
group_row_fields =
    fields 0 tables.group_stats
    (labelled_field "group_id" "group" Plainly ∷ labelled_field "ref_count" " references" Plainly ∷ labelled_field "packet_count" " packets" Plainly ∷ labelled_field "byte_count" " bytes" Plainly
    ∷ labelled_field "duration_sec" " seconds" Plainly ∷ [])

-- 7.3.5.10
abbrev pub group_desc_row : List Field
group_desc_row = fields 0 tables.group_desc (labelled_field "group_id" "group" Plainly ∷ labelled_field "type" " type" (Named GroupTypes) ∷ [])

-- the configuration and the state are sums of bits (7.2.1)
abbrev pub port_desc_row : List Field
port_desc_row =
    fields 0 tables.port
    (labelled_field "port_no" "port" Plainly ∷ labelled_field "hw_addr" " hw" InHex ∷ labelled_field "config" " config" Plainly ∷ labelled_field "state" " state" Plainly ∷ [])

unfoldable pub row_told : ℕ → List Field
row_told type =
    if type == 1 then flow_row_fields
    else if type == 3 then table_row_fields
    else if type == 4 then port_row_fields
    else if type == 6 then group_row_fields
    else if type == 7 then group_desc_row
    else if type == 13 then port_desc_row
    else []

-- the match of an entry; one that is refused has no lines
abbrev pub match_rows : Result (List MatchField × ℕ) Code → List Row
match_rows (Ok found) = map rows.Match found.0
match_rows (Err code) = []

unfoldable pub row_match : ℕ → List ℕ → List Row
row_match type r = if type == 1 then match_rows (match_of (drop (size tables.flow_stats) r)) else []

-- four spaces further in
unfoldable pub deeper_line : Row → List ℕ
deeper_line row = codes "    " ++ row_line row

abbrev pub deeper_lines : List Row → List ℕ
deeper_lines said = flat_map deeper_line said

-- a row in words, after eight spaces, and below it its match
unfoldable pub reply_row : ℕ → List ℕ → List ℕ
reply_row type r = (codes "        " ++ ended (fields_words (row_told type) r)) ++ deeper_lines (row_match type r)

abbrev pub rows_by : Option ℕ → List ℕ → List ℕ
rows_by None body = []
rows_by (Some type) body = flat_map (reply_row type) (rows_of_reply type body)

-- ---- FLOW_REMOVED (7.4.2): the match of the entry, as lines of flow text

unfoldable pub removed_lines : List ℕ → List ℕ
removed_lines m = row_lines (match_rows (match_of (drop (8 + size tables.flow_removed) m)))

-- ---- THE LINES BELOW AN ANSWER: of other messages none

abbrev pub lines_by : Option ℕ → List ℕ → List ℕ
lines_by None m = []
lines_by (Some kind) m =
    if kind == MULTIPART_REPLY then rows_by (multipart_type m) (drop 16 m)
    else if kind == FLOW_REMOVED then removed_lines m
    else []

unfoldable pub answer_lines : List ℕ → List ℕ
answer_lines m = lines_by (field_number "type" 0 tables.header m) m
