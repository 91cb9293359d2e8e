use Rattle.std.proofs.{Common.◌∙◌, Common.sym, Common.ap, lemmas.Result.err_from_is_err_and}
use Rattle.of_groups.{specs.Faults.add_fault, proofs.Soundness.same_add, proofs.Soundness.sound_added, proofs.groups.Groups.add.Goals.in-Ok, proofs.groups.Groups.add.Goals.in-Err}
use Rattle.of_groups.proofs.groups.Groups.add.Goals as goal

pub returns-in_err-check_add-clause-fault : goal.returns-in_err-check_add-clause-fault
returns-in_err-check_add-clause-fault c =
    let p = err_from_is_err_and c.from_residual.result c.from_residual.ensures.1 in
    rw (p.1, p.2) (same_add _ _ _ _ _ c.make_group-group.ensures.group (c.deref.ensures.value ∙ c.self.view_is) c.in_err-check_add.ensures.fault)

pub invariant_of-self : goal.invariant_of-self
invariant_of-self c =
    sound_added c.insert_group.result c.make_group-group.result c.self.inside.groups.items c.insert_group.new.groups.items c.self.invariant c.make_group-group.ensures.fit
    (sym (c.in_ok-check_add.ensures.exact ∙ ap (add_fault c.make_group-group.result) c.deref.ensures.value)) c.insert_group.ensures.ok c.insert_group.ensures.err

pub returns-clause-fault : goal.returns-clause-fault
returns-clause-fault c =
    let none = same_add _ _ _ _ _ c.make_group-group.ensures.group (c.deref.ensures.value ∙ c.self.view_is) c.in_ok-check_add.ensures.exact in
    elim c.match-insert_group.branch [ in-Ok w ↦ rw w.result-is none | in-Err w ↦ rw w.result-is none ]
