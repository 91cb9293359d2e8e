-- How long bodies are.
use Rattle.std.proofs.Common.{◌≡◌, ◌≤◌, ℕ, ◌*◌, ◌-◌, suc, List, [], ◌∷◌, ◌++◌, length, refl, ap, arith}
use Rattle.std.specs.Prelude.{codes, replicate, Option, Some, None}
use Rattle.std.{specs.List.flat_map, specs.Option.option_to_list, proofs.lemmas.List.length-append, proofs.lemmas.List.length-replicate}
use Rattle.of_table.specs.Table.{Table}
use Rattle.of_ports.specs.{declared.port.Port.Port, Ports.port_at}
use Rattle.of_statistics.specs.{Descriptions.padded_text, Descriptions.description, declared.aggregate.Totals.Totals, Flows.aggregate, Flows.from_tables, Flows.table_row, Groups.group_features_body}
use Rattle.of_statistics.specs.Ports.{asked_ports, port_row}

-- a body after a head fits a message
pub room : (head body out : List ℕ) → head ≡ replicate 16 0 → out ≡ head ++ body → length body ≤ 65519 → length out ≤ 65535
room head body out head_is is le = omega (arith, le, ap length is, ap length head_is, length-append head body)

length_padded : (size : ℕ) (text : List ℕ) → length text ≤ size → length (padded_text size text) ≡ size
length_padded size text le = omega (arith, le, length-append text (replicate (size - length text) 0), length-replicate {A = ℕ} (size - length text) 0)

pub length_description : length description ≡ 1056
unfolding description
length_description =
    let name = codes "ofswitch" in
    let a = padded_text 256 name in
    let b = padded_text 256 (codes "software") in
    let c = padded_text 256 (codes "1") in
    let d = padded_text 32 (codes "0") in
    omega (
      arith,
      length_padded 256 name (omega arith),
      length_padded 256 (codes "software") (omega arith),
      length_padded 256 (codes "1") (omega arith),
      length_padded 32 (codes "0") (omega arith),
      length-append a (b ++ (c ++ (d ++ a))),
      length-append b (c ++ (d ++ a)),
      length-append c (d ++ a),
      length-append d a,
    )

pub length_features : length group_features_body ≡ 40
unfolding group_features_body
length_features = refl

length_stats : (now : ℕ) (p : Port) → length (port_row now p) ≡ 112
unfolding port_row
length_stats now p = refl

length_all_stats : (now : ℕ) (ports : List Port) → length (flat_map (port_row now) ports) ≡ 112 * length ports
length_all_stats now [] = refl
length_all_stats now (p ∷ ports) = omega (arith, length_stats now p, length_all_stats now ports, length-append (port_row now p) (flat_map (port_row now) ports))

pub stats_short : (now : ℕ) (which : Option ℕ) (ports : List Port) → length ports ≤ 64 → length (flat_map (port_row now) (asked_ports which ports)) ≤ 7168
stats_short now None ports few = omega (arith, few, length_all_stats now ports)
stats_short now (Some n) ports few = one_at_most (port_at ports n)
  where
    one_at_most : (found : Option Port) → length (flat_map (port_row now) (option_to_list found)) ≤ 7168
    one_at_most None = omega arith
    one_at_most (Some p) = omega (arith, length_all_stats now (p ∷ []))

length_table : (k : ℕ) (t : Table) → length (table_row k t) ≡ 24
unfolding table_row
length_table k t = refl

pub length_tables : (k : ℕ) (ts : List Table) → length (from_tables table_row k ts) ≡ 24 * length ts
length_tables k [] = refl
length_tables k (t ∷ ts) = omega (arith, length_table k t, length_tables (suc k) ts, length-append (table_row k t) (from_tables table_row (suc k) ts))

pub length_aggregate : (t : Totals) → length (aggregate t) ≡ 24
unfolding aggregate
length_aggregate t = refl
