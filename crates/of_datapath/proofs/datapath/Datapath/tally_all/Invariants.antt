use Rattle.std.proofs.Common.{◌≡◌, drop}
use Rattle.of_table.specs.Tables.{all_numbers}
use Rattle.of_datapath.specs.{Datapath.all_tallied, Numbers.forwarding_of, Numbers.all_placed}
use Rattle.of_datapath.proofs.datapath.Datapath.tally_all.Given as goal

abbrev pub invariant-loop-count : goal.invariant-loop-count
invariant-loop-count g l = record {
  numbers : all_numbers l.self.tables ≡ all_numbers l.fn.self.tables;
  so_far : all_tallied (all_placed l.fn.self.tables (drop l.count-index l.counts)) (forwarding_of l.self) ≡ all_tallied (all_placed l.fn.self.tables l.counts) (forwarding_of l.fn.self);
}
