use Rattle.std.proofs.Common.{◌≡◌, refl, rules, true}
use Rattle.of_table.specs.{Entries.entry_of, Tables.table_at}
use Rattle.of_check.proofs.RivalLemmas.{is_rival, outlines_tell}
use Rattle.of_check.proofs.rivals.rival_at.Goals as goal

pub returns-then-not-may_be_rival-clause-none : goal.returns-then-not-may_be_rival-clause-none
returns-then-not-may_be_rival-clause-none g c = λ b.
    outlines_tell (table_at c.args.table c.args.switch.now.core.forwarding.tables).flows c.args.place (entry_of c.args.own.now) c.requires.there c.args.at b c.args.other.now c.args.outline.now
    c.requires.other c.requires.outline (λ both. let so : c.may_be_rival.result ≡ true = c.may_be_rival.ensures.1 both in let not_so = c.if-not-may_be_rival.true in absurd cc)

pub returns-clause-some : goal.returns-clause-some
returns-clause-some g c = (
  refl,
  is_rival (table_at c.args.table c.args.switch.now.core.forwarding.tables).flows c.args.place (entry_of c.args.own.now) c.requires.there c.args.at (entry_of c.in_ok-entry.entry.now) c.fields.result.now (search rules)
      c.args.other.now c.args.outline.now c.requires.other c.requires.outline (c.may_be_rival.ensures.0 c.if-not-may_be_rival.false).0 c.fields.ensures c.known.ensures,
)
