-- Why a MULTIPART_REQUEST is refused and what it is answered, by the state of the switch (OpenFlow 1.3.5, 7.3.5).
use Rattle.std.specs.Prelude.{ℕ, Bool, false, not, List, [], ◌∷◌, Some, None}
use Rattle.of_wire.specs.{declared.limits.TheConstants.OFPTT_ALL, declared.limits.TheConstants.OFPP_ANY, declared.limits.TheConstants.OFPG_ANY, declared.codes.TheConstants.OFPBRC_BAD_PORT}
use Rattle.of_wire.specs.declared.code.Code.{Code}
use Rattle.of_messages.specs.declared.multipart.MultipartRequest.TheVariants.{Description, Flow, Aggregate, Table, PortStats, Group, GroupDescription, GroupFeatures, PortDescription}
use Rattle.of_messages.specs.{declared.multipart.FlowStatsRequest.FlowStatsRequest, declared.multipart.MultipartRequest.MultipartRequest}
use Rattle.of_table.specs.declared.selection.Selector.{Selector}
use Rattle.of_ports.specs.{declared.port.Port.Port, Ports.has_port}
use Rattle.of_statistics.specs.{Descriptions.description_bytes, Flows.aggregate_bytes, Flows.flow_bytes, Flows.table_bytes}
use Rattle.of_statistics.specs.{Groups.group_bytes, Groups.group_description_bytes, Groups.group_features_bytes, Ports.port_description_bytes, Ports.port_stats_bytes}
use Rattle.of_datapath.specs.{Commands.unless_any, Datapath.Forwarding}

-- the entries that are asked for: those that a DELETE with the same values would select
abbrev pub asked_selector : FlowStatsRequest → Selector
asked_selector r = record {
  table = unless_any OFPTT_ALL r.table;
  fields = r.fields;
  priority = None;
  cookie = r.cookie;
  cookie_mask = r.cookie_mask;
  out_port = unless_any OFPP_ANY r.out_port;
  out_group = unless_any OFPG_ANY r.out_group;
}

-- one port is asked for, and it does not exist
abbrev pub asks_absent_port : MultipartRequest → List Port → Bool
asks_absent_port Description ports = false
asks_absent_port (Flow r) ports = false
asks_absent_port (Aggregate r) ports = false
asks_absent_port Table ports = false
asks_absent_port (PortStats None) ports = false
asks_absent_port (PortStats (Some n)) ports = not (has_port n ports)
asks_absent_port (Group which) ports = false
asks_absent_port GroupDescription ports = false
asks_absent_port GroupFeatures ports = false
asks_absent_port PortDescription ports = false

-- OFPBRC_BAD_PORT (1/11)
abbrev pub absent_port_refusals : MultipartRequest → List Port → List (Bool × Code)
absent_port_refusals request ports = (asks_absent_port request ports, OFPBRC_BAD_PORT) ∷ []

-- the replies
abbrev pub multipart_bytes : ℕ → MultipartRequest → Forwarding → List (List ℕ)
multipart_bytes xid Description f = description_bytes xid ∷ []
multipart_bytes xid (Flow r) f = flow_bytes xid (asked_selector r) f.tables
multipart_bytes xid (Aggregate r) f = aggregate_bytes xid (asked_selector r) f.tables ∷ []
multipart_bytes xid Table f = table_bytes xid f.tables ∷ []
multipart_bytes xid (PortStats which) f = port_stats_bytes xid f.tables.latest which f.ports ∷ []
multipart_bytes xid (Group which) f = group_bytes xid which f.groups f.tables
multipart_bytes xid GroupDescription f = group_description_bytes xid f.groups
multipart_bytes xid GroupFeatures f = group_features_bytes xid ∷ []
multipart_bytes xid PortDescription f = port_description_bytes xid f.ports ∷ []
