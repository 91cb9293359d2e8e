-- New numbers of tables, apart from their layout in memory.
use Rattle.of_import.specs.{declared.table_numbers.TableNumbers.TableNumbers as Declared, TableNumbers.TableNumbers}

abbrev pub view_numbers : Declared → TableNumbers
view_numbers n = record { numbers = n.numbers.items; moves = n.moves.items; count = n.count }
