-- The words of a line, apart from their layout in memory.
use Rattle.of_values.specs.Origins.{view_words}
use Rattle.of_shadowing.specs.{Leads.view_scan, declared.line_words.LineWords.LineWords as Declared, LineWords.LineWords}

abbrev pub view_line_words : Declared → LineWords
view_line_words s = record { plain = s.plain.items; conditions = view_words s.conditions.items; is_rarp = s.is_rarp; in_actions = s.in_actions; is_clause = s.is_clause; scan = view_scan s.scan }
