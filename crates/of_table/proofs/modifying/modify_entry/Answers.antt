use Rattle.std.proofs.Common.{◌≡◌, ◌∙◌, true, sym, subst, List}
use Rattle.of_actions.specs.{declared.instruction.Instruction.Instruction, FlowCheck.all_go_with}
use Rattle.of_table.{specs.Entries.entry_of, specs.Selecting.modifies, proofs.CheckLemmas.modified_goes}
use Rattle.of_table.proofs.modifying.modify_entry.Goals as goal

pub returns-then-reset-clause-checked : goal.returns-then-reset-clause-checked
returns-then-reset-clause-checked c = λ goes was.
    let modified : modifies c.args.which.now (entry_of c.args.entry.now) ≡ true = sym c.modifies.ensures ∙ c.if-modifies.true in
    let still = modified_goes c.args.which.now (entry_of c.args.entry.now) c.args.copies.now.instructions c.known.ensures c.known-then-modifies.ensures modified goes in
    subst (λ (is : List Instruction). all_go_with c.args.entry.now.flow.fields is ≡ true) (sym c.take.ensures.copy) still

pub returns-else-reset-clause-checked : goal.returns-else-reset-clause-checked
returns-else-reset-clause-checked c = λ goes was.
    let modified : modifies c.args.which.now (entry_of c.args.entry.now) ≡ true = sym c.modifies.ensures ∙ c.if-modifies.true in
    let still = modified_goes c.args.which.now (entry_of c.args.entry.now) c.args.copies.now.instructions c.known.ensures c.known-then-modifies.ensures modified goes in
    subst (λ (is : List Instruction). all_go_with c.args.entry.now.flow.fields is ≡ true) (sym c.take.ensures.copy) still
