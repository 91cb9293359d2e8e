use Rattle.std.{specs.Prelude.slice_get, specs.List.All, proofs.Common.◌≡◌, proofs.Common.false, proofs.Common.take}
use Rattle.of_table.specs.Tables.{table_at}
use Rattle.of_regions.specs.declared.rival.Rival.{Rival}
use Rattle.of_check.specs.Verdicts.{is_covering}
use Rattle.of_check.proofs.rivals.first_cover.Given as goal

abbrev pub invariant-loop-rival : goal.invariant-loop-rival
invariant-loop-rival g l =
    All (λ (r : Rival). is_covering (slice_get (table_at l.table l.switch.core.forwarding.tables).flows r.name) l.own.flow.fields ≡ false) (take l.rival-index l.rivals)
