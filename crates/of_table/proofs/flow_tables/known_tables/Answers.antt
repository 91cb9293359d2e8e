use Rattle.std.proofs.Common.{◌≡◌, ℕ, ◌+◌, ◌<◌, ◌≤◌, Bool, true, false, List, length, get_or, ltb, ltb-true, ltb-false, refl, sym, subst, arith}
use Rattle.std.proofs.lemmas.List.{get_or_read}
use Rattle.of_wire.specs.Numbered.{is_distinct}
use Rattle.of_table.{specs.Entries.Numbered, specs.Entries.no_entries, specs.Entries.entry_number, proofs.TablesLemmas.get_or_past}
use Rattle.of_table.proofs.flow_tables.known_tables.Goals as goal

-- what holds of the tables below i and of the one at i
one_more : (P : Numbered → Type 0) (ts : List Numbered) (i k : ℕ) (t d : Numbered) (b : Bool) → ltb k i ≡ b → i < length ts → t ≡ get_or ts i t → P t → (k < i → P (get_or ts k d)) → k < i + 1 → P (get_or ts k d)
one_more P ts i k t d true e lt is p below more = below (ltb-true k i e)
one_more P ts i k t d false e lt is p below more =
    let last : i ≡ k = omega (arith, ltb-false k i e, more) in
    subst (λ (j : ℕ). P (get_or ts j d)) last (subst P (get_or_read ts i t lt is d) p)

-- what holds of all tables and of the default
everywhere : (P : Numbered → Type 0) (ts : List Numbered) (n k : ℕ) (d : Numbered) (b : Bool) → ltb k n ≡ b → length ts ≤ n → P d → (k < n → P (get_or ts k d)) → P (get_or ts k d)
everywhere P ts n k d true e all p below = below (ltb-true k n e)
everywhere P ts n k d false e all p below = subst P (sym (get_or_past ts k d (omega (arith, ltb-false k n e, all)))) p

pub loop-table-preserved : goal.loop-table-preserved
loop-table-preserved g c =
    λ k. one_more (λ (t : Numbered). is_distinct entry_number t.entries ≡ true) c.args.tables.now c.loop-table.table-index k c.table-item.result no_entries _ refl c.loop-table-test.true c.table-item.is
    c.known.ensures.distinct (c.loop-table.invariant k)

pub returns : goal.returns
returns g c =
    λ k. everywhere (λ (t : Numbered). is_distinct entry_number t.entries ≡ true) c.args.tables.now c.loop-table.table-index k no_entries _ refl c.loop-table-test.false refl (c.loop-table.invariant k)
