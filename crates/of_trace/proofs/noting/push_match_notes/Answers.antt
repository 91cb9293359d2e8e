use Rattle.std.proofs.Common.{None}
use Rattle.of_layers.specs.declared.field.Field.TheVariants.{InPort}
use Rattle.of_oxm.specs.declared.match_field.MatchField.{MatchField}
use Rattle.of_trace.proofs.PrintingLemmas.{match_fits}
use Rattle.of_trace.proofs.noting.push_match_notes.Goals as goal

pub push_row_note-requires : goal.push_row_note-requires
push_row_note-requires c =
    let default : MatchField = record { field = InPort; value = 0; mask = None } in
    match_fits c.args.fields.now c.loop-field.field-index default c.loop-field.invariant.kept c.loop-field-test.true
