use Rattle.std.proofs.{Common.◌∙◌, Common.sym, Common.ap, lemmas.Result.err_from_is_err_and}
use Rattle.of_groups.{specs.Groups.new_group, specs.Groups.created_at, specs.Faults.modify_fault, proofs.Soundness.same_modify, proofs.Soundness.same_with, proofs.Soundness.sound_modified}
use Rattle.of_groups.proofs.groups.Groups.modify.Goals as goal

pub returns-in_err-check_modify-clause-fault : goal.returns-in_err-check_modify-clause-fault
returns-in_err-check_modify-clause-fault c =
    let p = err_from_is_err_and c.from_residual.result c.from_residual.ensures.1 in
    let moment = c.moment_of.ensures ∙ ap (created_at c.args.id) (c.deref.ensures.value ∙ c.self.view_is) in
    let group = c.make_group-group.ensures.group ∙ ap (new_group c.args.id c.args.kind c.args.buckets) moment in
    rw (p.1, p.2) (same_modify _ _ _ _ _ group (c.deref-2.ensures.value ∙ c.self.view_is) c.in_err-check_modify.ensures.exact)

pub invariant_of-self : goal.invariant_of-self
invariant_of-self c =
    sound_modified c.make_group-group.result c.self.inside.groups.items c.replace_group.new.groups.items c.self.invariant c.make_group-group.ensures.fit
    (sym (c.in_ok-check_modify.ensures.exact ∙ ap (modify_fault c.make_group-group.result) c.deref-2.ensures.value)) c.replace_group.ensures

pub returns-clause-fault : goal.returns-clause-fault
returns-clause-fault c =
    let moment = c.moment_of.ensures ∙ ap (created_at c.args.id) (c.deref.ensures.value ∙ c.self.view_is) in
    let group = c.make_group-group.ensures.group ∙ ap (new_group c.args.id c.args.kind c.args.buckets) moment in
    same_modify _ _ _ _ _ group (c.deref-2.ensures.value ∙ c.self.view_is) c.in_ok-check_modify.ensures.exact

pub returns-clause-ok : goal.returns-clause-ok
returns-clause-ok c =
    let moment = c.moment_of.ensures ∙ ap (created_at c.args.id) (c.deref.ensures.value ∙ c.self.view_is) in
    let group = c.make_group-group.ensures.group ∙ ap (new_group c.args.id c.args.kind c.args.buckets) moment in
    same_with _ _ _ _ _ group c.self.view_is c.replace_group.ensures
