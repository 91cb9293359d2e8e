use Rattle.std.proofs.Common.{None, Some, Ok, sym, ◌∙◌, ap}
use Rattle.of_cache.proofs.{Splitting.stored, Masks.used_after}
use Rattle.of_cache.proofs.keeping.push_row.Goals as goal

pub returns-in-Ok-None-clause-rows : goal.returns-in-Ok-None-clause-rows
returns-in-Ok-None-clause-rows c = (stored c.push.result c.args.rows.now c.push.new.self c.args.region c.args.answer c.requires.new c.push.ensures.entries c.push.ensures.err).entries

pub returns-in-Ok-Some-clause-rows : goal.returns-in-Ok-Some-clause-rows
returns-in-Ok-Some-clause-rows c = (stored c.push.result c.args.rows.now c.push.new.self c.args.region c.args.answer c.requires.new c.push.ensures.entries c.push.ensures.err).entries

pub returns-in-Ok-None-clause-used : goal.returns-in-Ok-None-clause-used
returns-in-Ok-None-clause-used c = λ t. used_after c.push.result c.args.rows.now c.push.new.self c.args.region c.args.answer c.requires.new c.len.ensures.valid c.push.ensures.entries c.push.ensures.old None (c.in-Ok-None.is ∙ ap Ok c.in-Ok-None.field-0-is) tt

pub returns-in-Ok-Some-clause-used : goal.returns-in-Ok-Some-clause-used
returns-in-Ok-Some-clause-used c = λ t. used_after c.push.result c.args.rows.now c.push.new.self c.args.region c.args.answer c.requires.new c.len.ensures.valid c.push.ensures.entries c.push.ensures.old (Some (c.in-Ok-Some.gone, c.in-Ok-Some.field-0-0-1)) (c.in-Ok-Some.is ∙ ap Ok c.in-Ok-Some.field-0-is) (sym c.is_used.ensures ∙ t)
