use Rattle.std.proofs.Common.{◌<◌, length, arith, sym, ◌∙◌}
use Rattle.of_table.specs.{Entries.entry_of, Tables.table_at}
use Rattle.of_check.proofs.TieLemmas.{is_tied, not_tied}
use Rattle.of_check.proofs.ties.is_tied.Goals as goal

pub returns-then-is_level : goal.returns-then-is_level
returns-then-is_level g c =
    let flows = (table_at c.args.table c.args.switch.now.core.forwarding.tables).flows in
    let within : c.loop-other.other-index < length c.args.by.now = omega arith in
    sym (is_tied flows c.args.place (entry_of c.args.own.now) c.requires.there c.args.by.now c.loop-other.other-index _ within (sym c.is_level.ensures ∙ c.if-is_level.true))

pub returns : goal.returns
returns g c =
    let flows = (table_at c.args.table c.args.switch.now.core.forwarding.tables).flows in
    sym (not_tied flows c.args.place (entry_of c.args.own.now) c.requires.there c.args.by.now (λ i lt. c.loop-other.invariant i (omega (arith, lt))))
