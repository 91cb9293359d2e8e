use Rattle.of_rewrite.proofs.Putting.{piece_put}
use Rattle.of_rewrite.proofs.writing.put_piece.Goals as goal

pub returns-clause-bits : goal.returns-clause-bits
returns-clause-bits c =
    rw (c.put_word.ensures, c.with_part-new.ensures, c.word_at-old.ensures)
    (piece_put c.args.first c.args.width c.args.value c.args.bytes.now c.all_bytes.ensures c.requires.room c.requires.word)
