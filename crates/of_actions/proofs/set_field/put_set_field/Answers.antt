use Rattle.std.proofs.Common.{rules, ◌≡◌, ◌+◌, ◌-◌, ◌*◌, ◌++◌, ◌∷◌, [], replicate}
use Rattle.std.specs.Prelude.{OnOk}
use Rattle.byteorder.specs.Endian.{big_bytes}
use Rattle.of_layers.specs.Fields.{number_of, bytes_of}
use Rattle.of_actions.{specs.SetField.set_len, proofs.SetFieldText.set_text_if}
use Rattle.of_actions.proofs.set_field.put_set_field.Goals as goal

pub returns : goal.returns
returns c =
    let f = c.args.field in
    let a : c.extend_from_slice.new.self.items ≡ c.args.out.now.items ++ 0 ∷ 25 ∷ 0 ∷ set_len f ∷ [] = search rules in
    let b : c.extend_from_slice-2.new.self.items ≡ c.extend_from_slice.new.self.items ++ 128 ∷ 0 ∷ 2 * number_of f ∷ bytes_of f ∷ [] = search rules in
    let value : c.put_number.new.out.items ≡ c.extend_from_slice-2.new.self.items ++ big_bytes (bytes_of f) c.args.value = search rules in
    let zeros : OnOk c.put_zeros.result (c.put_zeros.new.out.items ≡ c.put_number.new.out.items ++ replicate (set_len f - (8 + bytes_of f)) 0) = search rules in
    set_text_if c.put_zeros.result f c.args.value c.args.out.now.items c.extend_from_slice.new.self.items c.extend_from_slice-2.new.self.items c.put_number.new.out.items c.put_zeros.new.out.items a b value zeros
