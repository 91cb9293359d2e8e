use Rattle.std.proofs.Common.{◌≡◌, rules}
use Rattle.of_replay.specs.declared.event_file.Ended.TheVariants.{Done, WriteFault}
use Rattle.of_report.proofs.shadowing.write_flow_report.Goals as goal

pub returns-clause-output : goal.returns-clause-output
returns-clause-output g c =
    (c.deref-3.result.now, (c.in-Ok.findings.items, c.in-Ok-unreachable_tables.tables.items, search rules, search rules, search rules, λ e. (let h : WriteFault ≡ Done = e in cc)), c.if-write_all.ensures.front)
