use Rattle.std.proofs.Common.{◌≡◌, ◌-◌, ℕ, true, map, length, take}
use Rattle.of_actions.specs.FlowCheck.{all_go_with}
use Rattle.of_table.specs.{Entries.table_of, Tables.is_in, Tables.modified_numbered, Copies.wanted_from, Sound.AllSound, Sound.are_instructions_fit}
use Rattle.of_table.proofs.TablesLemmas.{each_to}
use Rattle.of_table.proofs.each_table.modify_tables.Given as goal

abbrev pub invariant-loop-number : goal.invariant-loop-number
invariant-loop-number g l = record {
  changed : l.tables ≡ each_to (modified_numbered l.which l.initial.copies.instructions l.reset) 0 l.number l.initial.tables;
  copies : l.copies ≡ record l.initial.copies { count = l.initial.copies.count - wanted_from l.which 0 (take l.number l.initial.tables) };
  length : length l.tables ≡ length l.initial.tables;
  sound : ((k : ℕ) → is_in l.which.table k ≡ true → are_instructions_fit k l.initial.copies.instructions ≡ true) → all_go_with l.which.fields l.initial.copies.instructions ≡ true → AllSound 0 (map table_of l.initial.tables) → AllSound 0 (map table_of l.tables);
}
