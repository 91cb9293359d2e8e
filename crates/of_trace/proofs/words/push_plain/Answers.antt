use Rattle.of_trace.specs.Words.{plain_line}
use Rattle.of_trace.proofs.words.push_plain.Goals as goal

pub returns-in-Metadata : goal.returns-in-Metadata
unfolding plain_line
returns-in-Metadata c = rw c.in-Metadata.is c.push_metadata.ensures

pub returns-in-Goto : goal.returns-in-Goto
unfolding plain_line
returns-in-Goto c = rw c.in-Goto.is (rw c.from.ensures at c.push_numbered.ensures)

pub returns-in-TtlExpired : goal.returns-in-TtlExpired
unfolding plain_line
returns-in-TtlExpired c = rw c.in-TtlExpired.is c.push_phrase-in-TtlExpired.ensures
