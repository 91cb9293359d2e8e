-- MULTIPART_REQUEST (OpenFlow 1.3.5, 7.3.5, struct ofp_multipart_request), and the bodies of its types.
use Rattle.std.specs.Prelude.{◌≡◌, ◌<◌, ℕ, ◌⊎◌, ⊤, List, [], ◌∷◌, ◌++◌, Option, Some, None}
use Rattle.of_wire.specs.declared.limits.TheConstants.{OFPP_ANY, OFPG_ALL}
use Rattle.of_oxm.specs.{declared.match_field.MatchField.MatchField, MatchGrammar.EncodesMatch}
use Rattle.of_messages.specs.declared.multipart.MultipartRequest.TheVariants.{Description, Flow, Aggregate, Table, PortStats, Group, GroupDescription, GroupFeatures, PortDescription}
use Rattle.of_messages.specs.{declared.multipart.FlowStatsRequest.FlowStatsRequest, declared.multipart.MultipartRequest.MultipartRequest}
use Rattle.of_laws.specs.{StructCells.cells_of, Cells.StructCell, Cells.u16_cell, Cells.pad, Cells.even}
use Rattle.of_formats.specs.Tables as tables

-- the type of the request, OFPMP_*
abbrev pub request_type : MultipartRequest → ℕ
request_type Description = 0
request_type (Flow r) = 1
request_type (Aggregate r) = 2
request_type Table = 3
request_type (PortStats port) = 4
request_type (Group group) = 6
request_type GroupDescription = 7
request_type GroupFeatures = 8
request_type PortDescription = 13

abbrev pub or_all : ℕ → Option ℕ → ℕ
or_all all None = all
or_all all (Some number) = number

-- struct ofp_flow_stats_request and ofp_aggregate_stats_request, before the match (7.3.5.2 and 7.3.5.3)
abbrev pub flows_cells : FlowStatsRequest → List StructCell
flows_cells r = cells_of tables.flow_stats_request (r.table ∷ r.out_port ∷ r.out_group ∷ r.cookie ∷ r.cookie_mask ∷ []) []

-- 7.3.5.6 and 7.3.5.8: struct ofp_port_stats_request and ofp_group_stats_request
abbrev pub request_body_cells : MultipartRequest → List StructCell
request_body_cells (Flow r) = flows_cells r
request_body_cells (Aggregate r) = flows_cells r
request_body_cells (PortStats port) = cells_of tables.port_stats_request (or_all OFPP_ANY port ∷ []) []
request_body_cells (Group group) = cells_of tables.group_stats_request (or_all OFPG_ALL group ∷ []) []
request_body_cells other = []

-- the type, flags, of which OFPMPF_REQ_MORE is not set, padding, and the body
abbrev pub request_cells : MultipartRequest → List StructCell
request_cells r = u16_cell (request_type r) ∷ even 2 ∷ pad 4 ∷ request_body_cells r

-- the match, and what follows it, which is ignored
pub record BeginsMatch (fields : List MatchField) (bytes : List ℕ) : Type 0 where
  pub front : List ℕ
  pub rest : List ℕ
  pub whole : bytes ≡ front ++ rest
  pub encoded : EncodesMatch front fields

abbrev pub RequestTail : MultipartRequest → List ℕ → Type 0
RequestTail (Flow r) tail = BeginsMatch r.fields tail
RequestTail (Aggregate r) tail = BeginsMatch r.fields tail
RequestTail other tail = tail ≡ []

-- a table, 0 to 15, or OFPTT_ALL
abbrev pub NamesTable : ℕ → Type 0
NamesTable table = (table < 16) ⊎ (table ≡ 255)

-- one port or group, and not the number that stands for all
abbrev pub IsOne : ℕ → Option ℕ → Type 0
IsOne all None = ⊤
IsOne all (Some number) = ¬ (number ≡ all)

-- OFPBRC_BAD_TABLE_ID
abbrev pub IsValidRequest : MultipartRequest → Type 0
IsValidRequest (Flow r) = NamesTable r.table
IsValidRequest (Aggregate r) = NamesTable r.table
IsValidRequest (PortStats port) = IsOne OFPP_ANY port
IsValidRequest (Group group) = IsOne OFPG_ALL group
IsValidRequest other = ⊤
