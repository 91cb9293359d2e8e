use Rattle.std.proofs.Common.{ap}
use Rattle.of_layers.specs.declared.field.FieldRow.{FieldRow}
use Rattle.of_headers.specs.FieldMap.{value}
use Rattle.of_frame_words.proofs.SaidLemmas.{setting_more, settings_end}
use Rattle.of_frame_words.proofs.said.key_said.Goals as goal

pub loop-e-preserved : goal.loop-e-preserved
loop-e-preserved c =
    setting_more c.args.settings.now c.loop-e.e-index _ _ (value c.loop-e.key) (value c.put.new.self) _ c.loop-e-test.true (ap (λ (r : FieldRow). r.ones) c.row.ensures.row) c.put.ensures c.loop-e.invariant

pub returns : goal.returns
returns c = settings_end c.args.settings.now c.loop-e.e-index (value c.loop-e.key) _ c.loop-e-test.false c.loop-e.invariant
