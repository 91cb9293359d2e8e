-- MULTIPART_REQUEST (OpenFlow 1.3.5, 7.3.5).
use Rattle.std.specs.Prelude.{ℕ, ◌+◌, ◌%◌, ◌==◌, Bool, not, ◌≡◌, ⊤, true, List, [], ◌∷◌, length, drop, Option, Some, None, is_none, Result, Ok, Err, if◌then◌else◌}
use Rattle.of_wire.specs.declared.limits.TheConstants.{OFPP_ANY, OFPG_ALL}
use Rattle.of_wire.specs.declared.codes.TheConstants.{OFPBRC_BAD_LEN, OFPBRC_BAD_MULTIPART, OFPBRC_BAD_TABLE_ID, OFPBRC_MULTIPART_BUFFER_OVERFLOW}
use Rattle.of_wire.specs.{declared.code.Code.Code, Refusals.first_of}
use Rattle.of_oxm.specs.MatchReading.{match_of}
use Rattle.of_formats.specs.{declared.messages.Size.Size, declared.messages.Size.TheVariants.Exact, declared.messages.Size.TheVariants.Least, Reading.◌>>=◌, Reading.unless}
use Rattle.of_formats.specs.{Structs.numbers, Structs.size, Messages.is_bad_size}
use Rattle.of_messages.specs.declared.multipart.MultipartRequest.TheVariants.{Description, Flow, Aggregate, Table, PortStats, Group, GroupDescription, GroupFeatures, PortDescription}
use Rattle.of_messages.specs.{declared.multipart.FlowStatsRequest.FlowStatsRequest, declared.multipart.MultipartKind.MultipartKind, declared.multipart.MultipartRequest.MultipartRequest}
use Rattle.of_messages.specs.Configs.{names_table}
use Rattle.of_messages.specs.declared.multipart.MultipartKind.TheVariants as kind
use Rattle.of_formats.specs.Tables as tables

-- what a number asks for
unfoldable pub multipart_kind_of : ℕ → Option MultipartKind
multipart_kind_of number =
    if number == 0 then Some kind.Description
    else if number == 1 then Some kind.Flow
    else if number == 2 then Some kind.Aggregate
    else if number == 3 then Some kind.Table
    else if number == 4 then Some kind.PortStats
    else if number == 6 then Some kind.Group
    else if number == 7 then Some kind.GroupDescription
    else if number == 8 then Some kind.GroupFeatures
    else if number == 13 then Some kind.PortDescription
    else None

-- the size of the whole message
abbrev pub multipart_size : MultipartKind → Size
multipart_size kind.Flow = Least (16 + size tables.flow_stats_request + 8)
multipart_size kind.Aggregate = Least (16 + size tables.flow_stats_request + 8)
multipart_size kind.PortStats = Exact (16 + size tables.port_stats_request)
multipart_size kind.Group = Exact (16 + size tables.group_stats_request)
multipart_size other = Exact 16

abbrev pub size_asked : Option MultipartKind → Option Size
size_asked None = None
size_asked (Some kind) = Some (multipart_size kind)

-- OFPBRC_BAD_MULTIPART for an unsupported type, OFPBRC_MULTIPART_BUFFER_OVERFLOW for a request in parts (OFPMPF_REQ_MORE), OFPBRC_BAD_LEN
abbrev pub refusals_by : List ℕ → ℕ → List (Bool × Code)
refusals_by (type ∷ flags ∷ []) len =
    (is_none (multipart_kind_of type), OFPBRC_BAD_MULTIPART)
    ∷ (flags % 2 == 1, OFPBRC_MULTIPART_BUFFER_OVERFLOW)
    ∷ (is_bad_size (size_asked (multipart_kind_of type)) len, OFPBRC_BAD_LEN)
    ∷ []
refusals_by other len = []

abbrev pub multipart_refusals : List ℕ → List (Bool × Code)
multipart_refusals m = refusals_by (numbers tables.multipart 8 m) (length m)

abbrev pub kind_by : List ℕ → Option MultipartKind
kind_by (type ∷ flags ∷ []) = multipart_kind_of type
kind_by other = None

abbrev pub multipart_kind_in : List ℕ → Option MultipartKind
multipart_kind_in m = kind_by (numbers tables.multipart 8 m)

-- FLOW AND AGGREGATE (7.3.5.2 and 7.3.5.3)

-- OFPBRC_BAD_TABLE_ID, and then the refusal of the match; what follows the match is not read
abbrev pub flow_stats_by : List ℕ → List ℕ → Result FlowStatsRequest Code
flow_stats_by (table ∷ out_port ∷ out_group ∷ cookie ∷ cookie_mask ∷ []) rest = do
  good ← unless ((not (names_table table), OFPBRC_BAD_TABLE_ID) ∷ [])
  m ← match_of rest
  Ok (record { table = table; out_port = out_port; out_group = out_group; cookie = cookie; cookie_mask = cookie_mask; fields = m.0 })
flow_stats_by other rest = Err OFPBRC_BAD_LEN

abbrev pub flow_stats_of : List ℕ → Result FlowStatsRequest Code
flow_stats_of m = flow_stats_by (numbers tables.flow_stats_request 16 m) (drop (16 + size tables.flow_stats_request) m)

-- BY KIND

-- OFPP_ANY is all ports, OFPG_ALL all groups
abbrev pub one_or_all : ℕ → ℕ → Option ℕ
one_or_all all number = if number == all then None else Some number

abbrev pub number_by : List ℕ → ℕ
number_by (number ∷ []) = number
number_by other = 0

-- of a port, or of a group
abbrev pub requested_number : List ℕ → ℕ
requested_number m = number_by (numbers tables.port_stats_request 16 m)

abbrev pub request_of : List ℕ → MultipartKind → Result MultipartRequest Code
request_of m kind.Description = Ok Description
request_of m kind.Flow = flow_stats_of m >>= λ r. Ok (Flow r)
request_of m kind.Aggregate = flow_stats_of m >>= λ r. Ok (Aggregate r)
request_of m kind.Table = Ok Table
request_of m kind.PortStats = Ok (PortStats (one_or_all OFPP_ANY (requested_number m)))
request_of m kind.Group = Ok (Group (one_or_all OFPG_ALL (requested_number m)))
request_of m kind.GroupDescription = Ok GroupDescription
request_of m kind.GroupFeatures = Ok GroupFeatures
request_of m kind.PortDescription = Ok PortDescription

-- an unsupported type is always refused, so the last line never applies
abbrev pub multipart_by : List ℕ → Option Code → Option MultipartKind → Result MultipartRequest Code
multipart_by m (Some code) kind = Err code
multipart_by m None (Some kind) = request_of m kind
multipart_by m None None = Err OFPBRC_BAD_MULTIPART

unfoldable pub multipart_of : List ℕ → Result MultipartRequest Code
multipart_of m = multipart_by m (first_of (multipart_refusals m)) (multipart_kind_in m)

-- WHAT HOLDS FOR WHAT WAS READ: a request for flows names a table, or all
abbrev pub IsSoundRequest : MultipartRequest → Type 0
IsSoundRequest (Flow r) = names_table r.table ≡ true
IsSoundRequest (Aggregate r) = names_table r.table ≡ true
IsSoundRequest other = ⊤
