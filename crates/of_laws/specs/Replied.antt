-- MULTIPART_REPLY: which bytes encode which reply of this switch (OpenFlow 1.3.5, 7.3.5, struct ofp_multipart_reply).
use Rattle.std.specs.Prelude.{◌≡◌, ℕ, ◌-◌, ◌^◌, Bool, true, false, List, [], ◌∷◌, ◌++◌, length, replicate, codes}
use Rattle.std.specs.List.{sum_by}
use Rattle.of_messages.specs.{declared.group_mod.NewGroup.NewGroup, declared.port_mod.PortDescription.PortDescription}
use Rattle.of_laws.specs.ReplyRows.{AreReplyRows, FlowStats, IsFlow, AggregateStats, TableStats, IsTable, PortStats, IsPort, GroupStats, IsGroupRow, IsDescribed, IsDescribedPort}
use Rattle.of_laws.specs.{ActionStructs.action_types, Cells.StructCell, Cells.Begins, StructCells.cells_of}
use Rattle.of_formats.specs.Tables as structs

-- DESC, FLOW, AGGREGATE, TABLE, PORT_STATS, GROUP, GROUP_DESC, GROUP_FEATURES and PORT_DESC
pub data Reply : Type 0 where
  description : Reply
  flows : List FlowStats → Reply
  aggregate : AggregateStats → Reply
  tables : List TableStats → Reply
  ports : List PortStats → Reply
  groups : List GroupStats → Reply
  described_groups : List NewGroup → Reply
  group_features : Reply
  described_ports : List PortDescription → Reply

-- OFPMP_*
abbrev pub reply_type : Reply → ℕ
reply_type description = 0
reply_type (flows rows) = 1
reply_type (aggregate totals) = 2
reply_type (tables rows) = 3
reply_type (ports rows) = 4
reply_type (groups rows) = 6
reply_type (described_groups rows) = 7
reply_type group_features = 8
reply_type (described_ports rows) = 13

-- a text, padded with zeros
abbrev pub text : ℕ → List ℕ → List ℕ
text size letters = letters ++ replicate (size - length letters) 0

-- struct ofp_desc (7.3.5.1): the manufacturer, the hardware, the software, the serial number, and what a person would call this datapath
abbrev pub description_cells : List StructCell
description_cells = cells_of structs.desc [] (text 256 (codes "ofswitch") ∷ text 256 (codes "software") ∷ text 256 (codes "1") ∷ text 32 (codes "0") ∷ text 256 (codes "ofswitch") ∷ [])

-- the bit of each action's type
abbrev pub bucket_actions : ℕ
bucket_actions = sum_by (λ n. 2 ^ n) action_types

-- struct ofp_group_features (7.3.5.11): the types ALL, INDIRECT and FAST-FAILOVER, chaining that is checked, and of the four types how many groups there can be, and their actions
abbrev pub group_features_cells : List StructCell
group_features_cells = cells_of structs.group_features (0x0d ∷ 0x0c ∷ 256 ∷ 0 ∷ 256 ∷ 256 ∷ bucket_actions ∷ 0 ∷ bucket_actions ∷ bucket_actions ∷ []) []

-- fields before the rows; struct ofp_aggregate_stats_reply (7.3.5.3)
abbrev pub reply_cells : Reply → List StructCell
reply_cells description = description_cells
reply_cells (flows rows) = []
reply_cells (aggregate t) = cells_of structs.aggregate_stats (t.packets ∷ t.bytes ∷ t.flows ∷ []) []
reply_cells (tables rows) = []
reply_cells (ports rows) = []
reply_cells (groups rows) = []
reply_cells (described_groups rows) = []
reply_cells group_features = group_features_cells
reply_cells (described_ports rows) = []

abbrev pub ReplyTail : Reply → List ℕ → Type 0
ReplyTail description tail = tail ≡ []
ReplyTail (flows rows) tail = AreReplyRows IsFlow rows tail
ReplyTail (aggregate totals) tail = tail ≡ []
ReplyTail (tables rows) tail = AreReplyRows IsTable rows tail
ReplyTail (ports rows) tail = AreReplyRows IsPort rows tail
ReplyTail (groups rows) tail = AreReplyRows IsGroupRow rows tail
ReplyTail (described_groups rows) tail = AreReplyRows IsDescribed rows tail
ReplyTail group_features tail = tail ≡ []
ReplyTail (described_ports rows) tail = AreReplyRows IsDescribedPort rows tail

-- OFPMPF_REPLY_MORE: more replies to the same request follow
abbrev pub flags : Bool → ℕ
flags false = 0
flags true = 1

-- version 4, type 19, length, transaction id, the type of the request, flags, padding, and the fields of the reply
abbrev pub reply_fixed_part : Reply → Bool → ℕ → ℕ → List StructCell
reply_fixed_part r more size xid = cells_of (structs.header ++ structs.multipart) (4 ∷ 19 ∷ size ∷ xid ∷ reply_type r ∷ flags more ∷ []) [] ++ reply_cells r

-- these bytes, all of them, encode the reply with this transaction id
pub record EncodesReply (xid : ℕ) (more : Bool) (r : Reply) (bytes : List ℕ) : Type 0 where
  pub tail : List ℕ
  pub front : Begins (reply_fixed_part r more (length bytes) xid) bytes tail
  pub behind : ReplyTail r tail

-- these messages encode all the rows, in their order: each some of them, and each but the last says that more follow
abbrev pub EncodeAll : {X : Type 0} → ℕ → (List X → Reply) → List X → List (List ℕ) → Type 0
EncodeAll {X} xid reply rows [] = ⊥
EncodeAll {X} xid reply rows (m ∷ []) = EncodesReply xid false (reply rows) m
EncodeAll {X} xid reply rows (m ∷ n ∷ ms) = (front : List X) × (behind : List X) × (rows ≡ front ++ behind) × EncodesReply xid true (reply front) m × EncodeAll xid reply behind (n ∷ ms)
