-- A copy of one flow table, which can change places with it: so a FLOW_MOD can be taken back (OpenFlow 1.3.5, 6.4 and 7.3.4.1).
use Rattle.std.specs.Prelude.{ℕ, slice_set}
use Rattle.of_table.specs.{Entries.Numbered, Tables.NumberedTables, Tables.numbered_at}

-- the number of the table, and the copy, whose entries may have other numbers than the table's
pub record NumberedCopy : Type 0 where
  pub table : ℕ
  pub copy : Numbered

-- the tables, with the copy in the place of its table
abbrev pub swapped_in : NumberedCopy → NumberedTables → NumberedTables
swapped_in c n = record n { tables = slice_set n.tables c.table c.copy }

-- and the table in the place of the copy
abbrev pub swapped_out : NumberedCopy → NumberedTables → NumberedCopy
swapped_out c n = record c { copy = numbered_at c.table n }
