use Rattle.std.proofs.Common.{◌≡◌, ◌∙◌, ℕ, ◌≤◌, true, ◌+◌, List, length, refl, sym, arith, ap}
use Rattle.std.proofs.lemmas.Result.{err_from_is_err_and}
use Rattle.of_actions.specs.declared.instruction.Instruction.{Instruction}
use Rattle.of_table.specs.Tables.{NumberedTables, is_in, each_from, modified_numbered, tables_of, all_modified}
use Rattle.of_table.specs.{declared.selection.Selector.Selector, Copies.Supply, Copies.wanted_from, Entries.Numbered, Sound.are_instructions_fit}
use Rattle.of_table.proofs.{TablesLemmas.tables_modified, Replaced.written}
use Rattle.of_table.proofs.flow_tables.FlowTables.modify.Goals as goal

at_most : (n : ℕ) → n ≡ 16 → n ≤ 16
at_most n e = omega (arith, e)

enough : (w : Selector) (s new : Supply) (ts us ns : List Numbered) → new ≡ record s { count = s.count + wanted_from w 0 ts } → ts ≡ ns → us ≡ ns → wanted_from w 0 us ≤ new.count
enough w s new ts us ns e a b =
    let same : us ≡ ts = b ∙ sym a in
    let count : new.count ≡ s.count + wanted_from w 0 ts = ap (λ (x : Supply). x.count) e in
    rw same (omega (arith, count))

pub returns-clause-tables : goal.returns-clause-tables
returns-clause-tables g c =
    let n : NumberedTables = record { tables = c.self.inside.tables.items; latest = c.self.inside.latest } in
    let new : NumberedTables = record { tables = c.modify_tables.new.tables; latest = c.self.inside.latest } in
    let same : c.copies_for_all.new.copies.instructions ≡ c.args.instructions.now = ap (λ (s : Supply). s.instructions) c.in_ok-copies_for_all.ensures in
    let tables : c.modify_tables.new.tables ≡ each_from (modified_numbered c.args.which.now c.args.instructions.now c.args.reset) 0 n.tables = c.modify_tables.ensures.tables
    ∙ ap (λ (is : List Instruction). each_from (modified_numbered c.args.which.now is c.args.reset) 0 c.deref_mut.result.now) same
    ∙ ap (λ (ns : List Numbered). each_from (modified_numbered c.args.which.now c.args.instructions.now c.args.reset) 0 ns) c.deref_mut.ensures.value in
    let is : new ≡ all_modified c.args.which.now c.args.instructions.now c.args.reset n = λ i. record { tables = tables i; latest = c.self.inside.latest } in
    rw (← c.self.view_is, written c.modify_tables.new.tables c.self.inside.tables.items c.self.inside.tables.len (omega arith) (omega arith))
    (ap tables_of is ∙ tables_modified c.args.which.now c.args.instructions.now c.args.reset n)

pub returns-clause-ok : goal.returns-clause-ok
returns-clause-ok g c =
    let ns = c.self.inside.tables.items in
    let same : c.copies_for_all.new.copies.instructions ≡ c.args.instructions.now = ap (λ (s : Supply). s.instructions) c.in_ok-copies_for_all.ensures in
    let tables : c.modify_tables.new.tables ≡ each_from (modified_numbered c.args.which.now c.args.instructions.now c.args.reset) 0 ns = c.modify_tables.ensures.tables
    ∙ ap (λ (is : List Instruction). each_from (modified_numbered c.args.which.now is c.args.reset) 0 c.deref_mut.result.now) same
    ∙ ap (λ (ts : List Numbered). each_from (modified_numbered c.args.which.now c.args.instructions.now c.args.reset) 0 ts) c.deref_mut.ensures.value in
    rw (← c.self.view_is, written c.modify_tables.new.tables ns c.self.inside.tables.len (omega arith) (omega arith))
    (λ i. record { tables = tables i; latest = c.self.inside.latest })

pub invariant_of-self : goal.invariant_of-self
invariant_of-self g c =
    let same : c.copies_for_all.new.copies.instructions ≡ c.args.instructions.now = ap (λ (s : Supply). s.instructions) c.in_ok-copies_for_all.ensures in
    let fits : (k : ℕ) → is_in c.args.which.now.table k ≡ true → are_instructions_fit k c.args.instructions.now ≡ true = (λ k for. rw (c.as_slice.ensures.kept, c.requires.fit k for) refl) in
    rw (written c.modify_tables.new.tables c.self.inside.tables.items c.self.inside.tables.len (omega arith) (omega arith)) (
      c.modify_tables.ensures.length ∙ ap length c.deref_mut.ensures.value ∙ c.self.invariant.0,
      c.modify_tables.ensures.sound (λ k for. rw same (fits k for)) (rw same c.requires.checked) (rw c.deref_mut.ensures.value c.self.invariant.1),
    )

pub copies_for_all-requires : goal.copies_for_all-requires
copies_for_all-requires g c = at_most (length c.deref.result.now) (ap length c.deref.ensures.value ∙ c.self.invariant.0)

pub modify_tables-requires-clause-few : goal.modify_tables-requires-clause-few
modify_tables-requires-clause-few g c = at_most (length c.deref_mut.result.now) (ap length c.deref_mut.ensures.value ∙ c.self.invariant.0)

pub returns-in_err-copies_for_all-clause-tables : goal.returns-in_err-copies_for_all-clause-tables
returns-in_err-copies_for_all-clause-tables g c =
    let p = err_from_is_err_and c.from_residual.result c.from_residual.ensures.1 in
    rw p.1 tt

pub returns-in_err-copies_for_all-clause-ok : goal.returns-in_err-copies_for_all-clause-ok
returns-in_err-copies_for_all-clause-ok g c =
    let p = err_from_is_err_and c.from_residual.result c.from_residual.ensures.1 in
    rw p.1 tt

pub returns-in_err-copies_for_all-clause-err : goal.returns-in_err-copies_for_all-clause-err
returns-in_err-copies_for_all-clause-err g c =
    let p = err_from_is_err_and c.from_residual.result c.from_residual.ensures.1 in
    rw p.1 refl

pub modify_tables-requires-clause-copies : goal.modify_tables-requires-clause-copies
modify_tables-requires-clause-copies g c =
    enough c.args.which.now _ c.copies_for_all.new.copies c.deref.result.now c.deref_mut.result.now c.self.inside.tables.items c.in_ok-copies_for_all.ensures c.deref.ensures.value c.deref_mut.ensures.value
