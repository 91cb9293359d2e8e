use Rattle.of_lines.specs.{Rows.Fits, declared.row.Row.TheVariants.Apply}
use Rattle.of_text.{specs.Texts.line_of_row, proofs.PushLemmas.row_fits, proofs.PushLemmas.row_written}
use Rattle.of_text.proofs.text.push_lines.Goals as goal

pub loop-row-preserved : goal.loop-row-preserved
loop-row-preserved c = record {
  fits = row_fits Fits c.args.rows.now c.loop-row.row-index Apply c.loop-row-test.true c.loop-row.invariant.fits;
  text = row_written line_of_row c.loop-row.out.items c.push_line.new.out.items _ c.args.rows.now c.loop-row.row-index _ c.loop-row-test.true c.loop-row.invariant.text c.in_ok-push_line.ensures;
}
