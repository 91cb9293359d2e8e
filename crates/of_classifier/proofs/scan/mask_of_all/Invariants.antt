-- the bits of the rows before, which are matches
use Rattle.std.{specs.List.All, proofs.Common.◌≡◌, proofs.Common.take}
use Rattle.of_layers.specs.declared.field.Field.{Field}
use Rattle.of_oxm.specs.{Masks.mask_at, NormalForm.IsMatch}
use Rattle.of_classifier.specs.{declared.Row.Row, Looking.looked_by}
use Rattle.of_classifier.proofs.scan.mask_of_all.Given as goal

abbrev pub invariant-loop-row : goal.invariant-loop-row
invariant-loop-row l = record {
  bits : (f : Field) → mask_at l.mask f ≡ looked_by (take l.row-index l.rows) f;
  normal : All (λ (r : Row). IsMatch r.fields) (take l.row-index l.rows);
}
