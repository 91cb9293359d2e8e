-- Replies that are written are encoded.
use Rattle.std.proofs.Common.{◌≡◌, ◌≤◌, ◌<◌, ◌^◌, ◌-◌, ℕ, Bool, true, false, List, [], ◌∷◌, ◌++◌, length, map, refl, sym, ap, subst, arith}
use Rattle.std.specs.{Prelude.codes, Prelude.replicate, Prelude.Option, List.All, List.concat, List.flat_map}
use Rattle.std.proofs.{lemmas.List.append-nil, lemmas.List.length-append, lemmas.List.length-replicate, lemmas.List.Elements.recursion_from_All}
use Rattle.byteorder.specs.Endian.{big_bytes}
use Rattle.of_groups.specs.declared.group.Group.{Group}
use Rattle.of_messages.specs.Written.{port_bytes}
use Rattle.of_ports.specs.declared.port.Port.{Port}
use Rattle.of_table.specs.{declared.selection.Selector.Selector, Tables.Tables}
use Rattle.of_statistics.specs.Flows.{aggregate as aggregate_body, aggregate_bytes, asked, flow_bytes, flow_row, from_tables, entries_with_tables, table_bytes, table_row, totals}
use Rattle.of_statistics.specs.Groups.{asked_groups, group_bytes, group_description, group_description_bytes, group_features_body as features_body, group_features_bytes, row_among}
use Rattle.of_statistics.specs.Ports.{asked_ports, described, port_description_bytes, port_row, port_stats_bytes}
use Rattle.of_statistics.proofs.Sizes.{length_aggregate, length_description, length_features, length_tables, stats_short}
use Rattle.of_statistics.specs.{Descriptions.description as description_body, Descriptions.description_bytes, Descriptions.padded_text, Replies.most, Replies.reply}
use Rattle.of_laws.specs.Replied.{Reply, EncodeAll, EncodesReply, ReplyTail, aggregate, described_groups, described_ports, description, description_cells, group_features_cells, flags, flows, group_features, groups, ports, reply_cells, reply_type, tables}
use Rattle.of_laws.specs.ReplyRows.{AreReplyRows, IsDescribed, IsDescribedPort, IsFlow, IsGroupRow, IsPort, port_stats_cells, table_cells}
use Rattle.of_laws.specs.Shown.{aggregate_shown, flow_shown, group_described, group_shown, IsDescribable, IsShownFlow, IsShownGroup, port_shown, tables_shown}
use Rattle.of_laws.proofs.WrittenReplyRows.{flow_short, flow_written, length_ports, port_described, port_written, tables_written}
use Rattle.of_laws.specs.{Cells.StructCell, Cells.FitsCells, Cells.u16_cell, Cells.pad, Told.port_cells}
use Rattle.of_laws.proofs.ManyReplyRows.{IsEncoded, flat_is, rows_written, encode_all}
use Rattle.of_laws.proofs.WrittenReplyGroups.{described_short, group_described_so, group_short, group_written}
use Rattle.of_laws.proofs.Writings.{fronted, encoding}

-- ---- a reply

head_text : (kind flag : ℕ) (cs : List StructCell) (body tail : List ℕ) → body ≡ encoding cs ++ tail → big_bytes 2 kind ++ (big_bytes 2 flag ++ (replicate 4 0 ++ body)) ≡ encoding (u16_cell kind ∷ u16_cell flag ∷ pad 4 ∷ cs) ++ tail
head_text kind flag cs body tail e = ap (λ (b : List ℕ). big_bytes 2 kind ++ (big_bytes 2 flag ++ (replicate 4 0 ++ b))) e

type_fits : (r : Reply) → reply_type r < 256 ^ 2
type_fits description = omega arith
type_fits (flows rows) = omega arith
type_fits (aggregate totals) = omega arith
type_fits (tables rows) = omega arith
type_fits (ports rows) = omega arith
type_fits (groups rows) = omega arith
type_fits (described_groups rows) = omega arith
type_fits group_features = omega arith
type_fits (described_ports rows) = omega arith

flags_fit : (more : Bool) → flags more < 256 ^ 2
flags_fit false = omega arith
flags_fit true = omega arith

replied : (r : Reply) (more : Bool) (xid : ℕ) (body tail : List ℕ) → body ≡ encoding (reply_cells r) ++ tail → xid < 256 ^ 4 → FitsCells (reply_cells r) → length body ≤ most → ReplyTail r tail
    → EncodesReply xid more r (reply xid (reply_type r) (flags more) body)
unfolding reply
replied r more xid body tail e x fits short behind =
    let kind = reply_type r in
    let flag = flags more in
    let whole = big_bytes 2 kind ++ (big_bytes 2 flag ++ (replicate 4 0 ++ body)) in
    record {
      tail = tail;
      front = fronted 19 xid (u16_cell kind ∷ u16_cell flag ∷ pad 4 ∷ reply_cells r) whole tail (head_text kind flag (reply_cells r) body tail e) (omega arith) x (type_fits r, (flags_fit more, fits)) (omega arith);
      behind = behind;
    }

-- ---- DESC, AGGREGATE and GROUP_FEATURES

length_text : (size : ℕ) (letters : List ℕ) → length letters ≤ size → length (padded_text size letters) ≡ size
length_text size letters le = omega (arith, le, length-append letters (replicate (size - length letters) 0), length-replicate {A = ℕ} (size - length letters) 0)

description_fits : FitsCells description_cells
description_fits =
    let name = length_text 256 (codes "ofswitch") (omega arith) in
    (name, (length_text 256 (codes "software") (omega arith), (length_text 256 (codes "1") (omega arith), (length_text 32 (codes "0") (omega arith), (name, tt)))))

description_text : description_body ≡ encoding description_cells ++ []
unfolding description_body
description_text = sym (append-nil _)

pub description_encoded : (xid : ℕ) → xid < 256 ^ 4 → EncodesReply xid false description (description_bytes xid)
description_encoded xid x = replied description false xid description_body [] description_text x description_fits (omega (arith, length_description)) refl

aggregate_text : (w : Selector) (ts : Tables) → aggregate_body (totals (asked w ts)) ≡ encoding (reply_cells (aggregate (aggregate_shown (asked w ts)))) ++ []
unfolding aggregate_body
aggregate_text w ts = refl

pub aggregate_encoded : (xid : ℕ) (which : Selector) (ts : Tables) → xid < 256 ^ 4 → FitsCells (reply_cells (aggregate (aggregate_shown (asked which ts))))
    → EncodesReply xid false (aggregate (aggregate_shown (asked which ts))) (aggregate_bytes xid which ts)
aggregate_encoded xid which ts x fits =
    let t = totals (asked which ts) in
    replied (aggregate (aggregate_shown (asked which ts))) false xid (aggregate_body t) [] (aggregate_text which ts) x fits (omega (arith, length_aggregate t)) refl

features_text : features_body ≡ encoding group_features_cells ++ []
unfolding features_body
features_text = refl

features_fit : FitsCells group_features_cells
features_fit = (omega arith, (omega arith, (omega arith, (omega arith, (omega arith, (omega arith, (omega arith, (omega arith, (omega arith, (omega arith, tt))))))))))

pub features_encoded : (xid : ℕ) → xid < 256 ^ 4 → EncodesReply xid false group_features (group_features_bytes xid)
features_encoded xid x = replied group_features false xid features_body [] features_text x features_fit (omega (arith, length_features)) refl

-- ---- TABLE, PORT_STATS and PORT_DESC: one reply with all rows

pub table_encoded : (xid : ℕ) (ts : Tables) → xid < 256 ^ 4 → length ts.tables ≤ 16 → All (λ s. FitsCells (table_cells s)) (tables_shown ts) → EncodesReply xid false (tables (tables_shown ts)) (table_bytes xid ts)
table_encoded xid ts x few all =
    let rows = from_tables table_row 0 ts.tables in
    replied (tables (tables_shown ts)) false xid rows rows refl x tt (omega (arith, few, length_tables 0 ts.tables)) (tables_written 0 ts.tables (recursion_from_All (λ s. FitsCells (table_cells s)) (tables_shown ts) all))

pub port_stats_encoded : (xid now : ℕ) (which : Option ℕ) (all : List Port) → xid < 256 ^ 4 → length all ≤ 64 → All (λ p. FitsCells (port_stats_cells (port_shown now p))) (asked_ports which all)
    → EncodesReply xid false (ports (map (port_shown now) (asked_ports which all))) (port_stats_bytes xid now which all)
port_stats_encoded xid now which all x few each =
    let these = asked_ports which all in
    let rows = flat_map (port_row now) these in
    let Holds : Port → Type 0 = λ p. FitsCells (port_stats_cells (port_shown now p)) in
    let are = rows_written IsPort (port_shown now) (port_row now) Holds (port_written now) these (recursion_from_All Holds these each) in
    let behind = subst (λ (b : List ℕ). AreReplyRows IsPort (map (port_shown now) these) b) (sym (flat_is (port_row now) these)) are in
    replied (ports (map (port_shown now) these)) false xid rows rows refl x tt (omega (arith, stats_short now which all few)) behind

pub port_description_encoded : (xid : ℕ) (all : List Port) → xid < 256 ^ 4 → length all ≤ 64 → All (λ p. FitsCells (port_cells (described p))) all → EncodesReply xid false (described_ports (map described all)) (port_description_bytes xid all)
port_description_encoded xid all x few each =
    let row : Port → List ℕ = λ p. port_bytes (described p) in
    let rows = flat_map row all in
    let Holds : Port → Type 0 = λ p. FitsCells (port_cells (described p)) in
    let holds = recursion_from_All Holds all each in
    let are = rows_written IsDescribedPort described row Holds (λ p rest fits. port_described (described p) rest fits) all holds in
    let behind = subst (λ (b : List ℕ). AreReplyRows IsDescribedPort (map described all) b) (sym (flat_is row all)) are in
    replied (described_ports (map described all)) false xid rows rows refl x tt (omega (arith, few, length_ports all holds)) behind

-- ---- FLOW, GROUP and GROUP_DESC: as many replies as it takes

flows_encoded : (xid now : ℕ) → xid < 256 ^ 4 → IsEncoded xid 1 (λ part. flows (map (flow_shown now) part)) (flow_row now) (IsShownFlow now)
flows_encoded xid now x more part all short =
    let rows = concat (map (flow_row now) part) in
    replied (flows (map (flow_shown now) part)) more xid rows rows refl x tt short (rows_written IsFlow (flow_shown now) (flow_row now) (IsShownFlow now) (flow_written now) part all)

pub flow_encoded : (xid : ℕ) (which : Selector) (ts : Tables) → xid < 256 ^ 4 → All (IsShownFlow ts.latest) (entries_with_tables which ts) → EncodeAll xid (λ part. flows (map (flow_shown ts.latest) part)) (entries_with_tables which ts) (flow_bytes xid which ts)
flow_encoded xid which ts x all =
    let now = ts.latest in
    encode_all xid 1 (λ part. flows (map (flow_shown now) part)) (flow_row now) (IsShownFlow now) (flows_encoded xid now x) (flow_short now) (entries_with_tables which ts) all

groups_encoded : (xid : ℕ) (all : List Group) (ts : Tables) → xid < 256 ^ 4 → IsEncoded xid 6 (λ part. groups (map (group_shown all ts) part)) (row_among all ts) (λ g. IsShownGroup (group_shown all ts g))
groups_encoded xid all ts x more part each short =
    let rows = concat (map (row_among all ts) part) in
    replied (groups (map (group_shown all ts) part)) more xid rows rows refl x tt short (rows_written IsGroupRow (group_shown all ts) (row_among all ts) (λ g. IsShownGroup (group_shown all ts g)) (group_written all ts) part each)

pub group_encoded : (xid : ℕ) (which : Option ℕ) (all : List Group) (ts : Tables) → xid < 256 ^ 4 → All (λ g. IsShownGroup (group_shown all ts g)) (asked_groups which all)
    → EncodeAll xid (λ part. groups (map (group_shown all ts) part)) (asked_groups which all) (group_bytes xid which all ts)
group_encoded xid which all ts x each =
    encode_all xid 6 (λ part. groups (map (group_shown all ts) part)) (row_among all ts) (λ g. IsShownGroup (group_shown all ts g)) (groups_encoded xid all ts x) (group_short all ts) (asked_groups which all) each

descriptions_encoded : (xid : ℕ) → xid < 256 ^ 4 → IsEncoded xid 7 (λ part. described_groups (map group_described part)) group_description IsDescribable
descriptions_encoded xid x more part all short =
    let rows = concat (map group_description part) in
    replied (described_groups (map group_described part)) more xid rows rows refl x tt short (rows_written IsDescribed group_described group_description IsDescribable group_described_so part all)

pub group_description_encoded : (xid : ℕ) (all : List Group) → xid < 256 ^ 4 → All IsDescribable all → EncodeAll xid (λ part. described_groups (map group_described part)) all (group_description_bytes xid all)
group_description_encoded xid all x each = encode_all xid 7 (λ part. described_groups (map group_described part)) group_description IsDescribable (descriptions_encoded xid x) described_short all each
