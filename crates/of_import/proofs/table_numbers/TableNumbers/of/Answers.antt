use Rattle.std.{specs.Prelude.map, proofs.Common.ap, proofs.Common.◌-◌, proofs.Common.arith}
use Rattle.of_import.proofs.NumberLemmas.{count_more, count_start, moves_more, moves_start, numbers_made, numbers_more, numbers_start}
use Rattle.of_import.specs.{ParsedLinesViews.view_flow_line, TableNumbers.TableNumbers}
use Rattle.of_import.proofs.table_numbers.TableNumbers.of.Goals as goal

pub loop-table-preserved : goal.loop-table-preserved
loop-table-preserved c = record {
  small = omega (arith, c.loop-table-test.true);
  numbers = numbers_more (map view_flow_line c.args.flows.now) c.loop-table.table c.loop-table.made.count c.add.new.self.count c.loop-table.made.numbers.items c.add.new.self.numbers.items _ (omega (arith, c.loop-table-test.true)) c.in_ok-add.ensures.numbers c.in_ok-add.ensures.count c.loop-table.invariant.numbers;
  moves = moves_more (map view_flow_line c.args.flows.now) c.loop-table.table c.loop-table.made.count c.add.new.self.count c.loop-table.made.moves.items c.add.new.self.moves.items _ (omega (arith, c.loop-table-test.true)) c.in_ok-add.ensures.moves c.in_ok-add.ensures.count c.loop-table.invariant.moves;
  count = count_more (map view_flow_line c.args.flows.now) c.loop-table.table c.loop-table.made.count c.add.new.self.count _ (omega (arith, c.loop-table-test.true)) c.in_ok-add.ensures.count c.loop-table.invariant.count;
}

pub loop-table-init : goal.loop-table-init
loop-table-init c = record {
  small = omega arith;
  numbers = numbers_start (map view_flow_line c.args.flows.now) c.same-made.result.numbers.items c.same-made.result.count (ap (λ (n : TableNumbers). n.numbers) c.same-made.ensures) (ap (λ (n : TableNumbers). n.count) c.same-made.ensures);
  moves = moves_start (map view_flow_line c.args.flows.now) c.same-made.result.moves.items c.same-made.result.count (ap (λ (n : TableNumbers). n.moves) c.same-made.ensures) (ap (λ (n : TableNumbers). n.count) c.same-made.ensures);
  count = count_start (map view_flow_line c.args.flows.now) c.same-made.result.count (ap (λ (n : TableNumbers). n.count) c.same-made.ensures);
}

pub returns : goal.returns
returns c = numbers_made (map view_flow_line c.args.flows.now) c.loop-table.table (256 - c.loop-table.table) c.loop-table.made.count c.loop-table.made.numbers.items c.loop-table.made.moves.items (omega (arith, c.loop-table-test.false, c.loop-table.invariant.small)) c.loop-table.invariant.numbers c.loop-table.invariant.moves c.loop-table.invariant.count
