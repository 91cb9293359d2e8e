use Rattle.std.proofs.Common.{sym, eqb, ◌&&◌}
use Rattle.of_oxm.specs.Relations.{overlaps_match}
use Rattle.of_table.{specs.Entries.entry_of, proofs.PlaceLemmas.any-map}
use Rattle.of_table.proofs.entries.is_overlapped.Goals as goal

pub returns-then-flow : goal.returns-then-flow
returns-then-flow c = rw (c.if-flow.true, c.has_rival.ensures) (sym (any-map entry_of (λ e. eqb e.flow.priority c.args.flow.now.priority && overlaps_match e.flow.fields c.args.flow.now.fields) c.args.entries.now))
