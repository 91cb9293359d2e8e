use Rattle.std.proofs.Common.{◌∙◌, List, [], ◌∷◌, ◌++◌, ap}
use Rattle.of_oxm.specs.declared.match_field.MatchField.{MatchField}
use Rattle.of_symbolic_run.proofs.AbsenceLemmas.{absence_more, named_last, named_more, one_absence}
use Rattle.of_symbolic_run.proofs.ports.push_block.Goals as goal

pub returns-clause-absences : goal.returns-clause-absences
returns-clause-absences c =
    let own = one_absence c.args.ports.now c.args.block.number c.args.block.mask c.condition.result c.requires.fits c.condition.ensures c.requires.none c.push.new.self.items (c.in_ok-push.ensures.items ∙ ap (λ (xs : List MatchField). xs ++ c.condition.result ∷ []) c.new-fields.ensures.items) in
    absence_more c.args.ports.now c.args.absent.now.items c.push-2.new.self.items c.push.new.self c.in_ok-push-2.ensures.items own

pub returns-clause-more : goal.returns-clause-more
returns-clause-more c = named_more c.args.absent.now.items c.push-2.new.self.items c.push.new.self c.in_ok-push-2.ensures.items

pub returns-clause-own : goal.returns-clause-own
returns-clause-own c =
    named_last c.args.absent.now.items c.push-2.new.self.items c.push.new.self c.args.block.number c.args.block.mask c.condition.result c.in_ok-push-2.ensures.items
    (c.in_ok-push.ensures.items ∙ ap (λ (xs : List MatchField). xs ++ c.condition.result ∷ []) c.new-fields.ensures.items) c.condition.ensures
