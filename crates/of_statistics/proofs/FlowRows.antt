-- Rows of entries.
use Rattle.std.proofs.Common.{◌≡◌, ◌≤◌, ℕ, List, [], ◌∷◌, ◌++◌, length, drop, ap, ◌∙◌, append_assoc, arith}
use Rattle.std.proofs.lemmas.List.{length-append}
use Rattle.byteorder.specs.Endian.{big_bytes}
use Rattle.of_oxm.specs.Canonical.{canonical}
use Rattle.of_actions.specs.CanonicalInstructions.{canonical_instructions}
use Rattle.of_table.specs.Table.{FlowEntry}
use Rattle.of_statistics.specs.Flows.{EntryInTable, flow_row, flow_row_size, flow_times, flow_counts}

-- what is written before the length is known: two zeros, and all that follows
pub row_begun : (now table : ℕ) (e : FlowEntry) {s1 s2 s3 s4 : List ℕ} (s0 s5 : List ℕ) → s0 ≡ [] → s1 ≡ s0 ++ 0 ∷ 0 ∷ table ∷ 0 ∷ [] → s2 ≡ s1 ++ flow_times now e → s3 ≡ s2 ++ flow_counts e → s4 ≡ s3 ++ canonical e.flow.fields
    → s5 ≡ s4 ++ canonical_instructions e.flow.instructions → s5 ≡ 0 ∷ 0 ∷ table ∷ 0 ∷ (flow_times now e ++ (flow_counts e ++ (canonical e.flow.fields ++ canonical_instructions e.flow.instructions)))
row_begun now table e s0 s5 e0 e1 e2 e3 e4 e5 =
    let whole : s5 ≡ (((([] ++ 0 ∷ 0 ∷ table ∷ 0 ∷ []) ++ flow_times now e) ++ flow_counts e) ++ canonical e.flow.fields) ++ canonical_instructions e.flow.instructions = cc in
    whole ∙ simp append_assoc

pub row_length : (now table : ℕ) (e : FlowEntry) (s5 : List ℕ) → s5 ≡ 0 ∷ 0 ∷ table ∷ 0 ∷ (flow_times now e ++ (flow_counts e ++ (canonical e.flow.fields ++ canonical_instructions e.flow.instructions))) → length s5 ≡ flow_row_size e
unfolding flow_times flow_counts
row_length now table e s5 is = omega (arith, ap length is, length-append (canonical e.flow.fields) (canonical_instructions e.flow.instructions))

pub row_is : (now table n : ℕ) (e : FlowEntry) (s5 s6 : List ℕ) → s5 ≡ 0 ∷ 0 ∷ table ∷ 0 ∷ (flow_times now e ++ (flow_counts e ++ (canonical e.flow.fields ++ canonical_instructions e.flow.instructions))) → n ≡ flow_row_size e
    → s6 ≡ big_bytes 2 n ++ drop 2 s5 → s6 ≡ flow_row now (record { table = table; entry = e })
unfolding flow_row flow_times flow_counts
row_is now table n e s5 s6 is n_is e6 = e6 ∙ ap (λ (x : List ℕ). big_bytes 2 n ++ drop 2 x) is ∙ ap (λ (x : ℕ). big_bytes 2 x ++ table ∷ 0 ∷ (flow_times now e ++ (flow_counts e ++ (canonical e.flow.fields ++ canonical_instructions e.flow.instructions)))) n_is

pub row_short : (now : ℕ) (l : EntryInTable) → length (canonical l.entry.flow.fields) ≤ 1128 → length (canonical_instructions l.entry.flow.instructions) ≤ 3128 → length (flow_row now l) ≤ 65519
unfolding flow_row
row_short now l fields instructions = omega (arith, fields, instructions, length-append (canonical l.entry.flow.fields) (canonical_instructions l.entry.flow.instructions))
