use Rattle.std.proofs.Common.{◌≡◌, ◌-◌, ℕ, true, length, take}
use Rattle.of_table.specs.{Sound.AreSoundEntries, Sound.are_instructions_fit, Entries.flows_of, Entries.rows_of, Entries.on_entry, Selecting.modified_by, Copies.wanted}
use Rattle.of_actions.specs.FlowCheck.{all_go_with}
use Rattle.of_wire.proofs.Changing.{changed_to}
use Rattle.of_table.proofs.modifying.modify_all.Given as goal

abbrev pub invariant-loop-place : goal.invariant-loop-place
invariant-loop-place l = record {
  rows : rows_of l.entries ≡ rows_of l.initial.entries;
  entries : l.entries ≡ changed_to (on_entry (modified_by l.which l.initial.copies.instructions l.reset)) l.place l.initial.entries;
  copies : l.copies ≡ record l.initial.copies { count = l.initial.copies.count - wanted l.which (take l.place l.initial.entries) };
  length : length l.entries ≡ length l.initial.entries;
  sound : (k : ℕ) → are_instructions_fit k l.initial.copies.instructions ≡ true → all_go_with l.which.fields l.initial.copies.instructions ≡ true → AreSoundEntries k (flows_of l.initial.entries) → AreSoundEntries k (flows_of l.entries);
}
