use Rattle.std.proofs.Common.{◌<◌, ◌*◌, ◌^◌, length, sym, ◌∙◌, arith}
use Rattle.of_layers.specs.Fields.{number_of}
use Rattle.of_rewrite.proofs.{Unset.place_facts, Unset.replaceable, Unset.unset_frame, Framing.is_set, KeptLayers.layers_are, KeptLayers.leaves, StayingRight.stay_right, StayingOff.stay_off}
use Rattle.of_rewrite.proofs.rewrite.set_field.Goals as goal

pub set_number-requires-clause-most : goal.set_number-requires-clause-most
set_number-requires-clause-most c =
    let short : 8 * length c.args.bytes.now < 2 ^ 64 = omega (arith, c.requires.short) in
    (place_facts (number_of c.args.field) c.args.bytes.now c.in-Some.place c.all_bytes.ensures c.requires.long c.requires.short
    (sym (c.place.ensures c.args.bytes.now c.requires.long short c.requires.layout) ∙ c.in-Some.is)).0

pub set_number-requires-clause-fits : goal.set_number-requires-clause-fits
set_number-requires-clause-fits c =
    let short : 8 * length c.args.bytes.now < 2 ^ 64 = omega (arith, c.requires.short) in
    (place_facts (number_of c.args.field) c.args.bytes.now c.in-Some.place c.all_bytes.ensures c.requires.long c.requires.short
    (sym (c.place.ensures c.args.bytes.now c.requires.long short c.requires.layout) ∙ c.in-Some.is)).1

pub set_number-requires-clause-room : goal.set_number-requires-clause-room
set_number-requires-clause-room c =
    let short : 8 * length c.args.bytes.now < 2 ^ 64 = omega (arith, c.requires.short) in
    (place_facts (number_of c.args.field) c.args.bytes.now c.in-Some.place c.all_bytes.ensures c.requires.long c.requires.short
    (sym (c.place.ensures c.args.bytes.now c.requires.long short c.requires.layout) ∙ c.in-Some.is)).2

pub returns-in-Some-clause-bits : goal.returns-in-Some-clause-bits
returns-in-Some-clause-bits c =
    let short : 8 * length c.args.bytes.now < 2 ^ 64 = omega (arith, c.requires.short) in
    c.set_number.ensures (number_of c.args.field) (replaceable c.args.field) (sym (c.place.ensures c.args.bytes.now c.requires.long short c.requires.layout) ∙ c.in-Some.is)

pub returns-in-Some-clause-frame : goal.returns-in-Some-clause-frame
returns-in-Some-clause-frame c =
    let short : 8 * length c.args.bytes.now < 2 ^ 64 = omega (arith, c.requires.short) in
    is_set c.args.field c.args.value c.args.bytes.now c.set_number.new.bytes (λ i. omega (arith, c.type_inv.bytes i))
    (c.set_number.ensures (number_of c.args.field) (replaceable c.args.field) (sym (c.place.ensures c.args.bytes.now c.requires.long short c.requires.layout) ∙ c.in-Some.is))

pub returns-in_default-clause-bits : goal.returns-in_default-clause-bits
returns-in_default-clause-bits c =
    let short : 8 * length c.args.bytes.now < 2 ^ 64 = omega (arith, c.requires.short) in
    unset_frame (number_of c.args.field) c.args.value c.args.bytes.now c.all_bytes.ensures c.requires.long
    (sym (c.place.ensures c.args.bytes.now c.requires.long short c.requires.layout) ∙ c.in_default.is)

pub returns-in_default-clause-frame : goal.returns-in_default-clause-frame
returns-in_default-clause-frame c =
    let short : 8 * length c.args.bytes.now < 2 ^ 64 = omega (arith, c.requires.short) in
    is_set c.args.field c.args.value c.args.bytes.now c.args.bytes.now c.all_bytes.ensures
    (unset_frame (number_of c.args.field) c.args.value c.args.bytes.now c.all_bytes.ensures c.requires.long
    (sym (c.place.ensures c.args.bytes.now c.requires.long short c.requires.layout) ∙ c.in_default.is))

pub returns-in-Some-clause-layers : goal.returns-in-Some-clause-layers
returns-in-Some-clause-layers c =
    let short : 8 * length c.args.bytes.now < 2 ^ 64 = omega (arith, c.requires.short) in
    layers_are (number_of c.args.field) c.args.value c.args.bytes.now c.set_number.new.bytes (replaceable c.args.field) (leaves c.args.field c.requires.settable) c.all_bytes.ensures c.requires.long (λ i. omega (arith, c.type_inv.bytes i))
    (c.set_number.ensures (number_of c.args.field) (replaceable c.args.field) (sym (c.place.ensures c.args.bytes.now c.requires.long short c.requires.layout) ∙ c.in-Some.is))

pub returns-in_default-clause-layers : goal.returns-in_default-clause-layers
returns-in_default-clause-layers c =
    let short : 8 * length c.args.bytes.now < 2 ^ 64 = omega (arith, c.requires.short) in
    layers_are (number_of c.args.field) c.args.value c.args.bytes.now c.args.bytes.now (replaceable c.args.field) (leaves c.args.field c.requires.settable) c.all_bytes.ensures c.requires.long c.all_bytes.ensures
    (unset_frame (number_of c.args.field) c.args.value c.args.bytes.now c.all_bytes.ensures c.requires.long
    (sym (c.place.ensures c.args.bytes.now c.requires.long short c.requires.layout) ∙ c.in_default.is))

pub returns-in-Some-clause-checksums : goal.returns-in-Some-clause-checksums
returns-in-Some-clause-checksums c =
    let short : 8 * length c.args.bytes.now < 2 ^ 64 = omega (arith, c.requires.short) in
    stay_right (number_of c.args.field) c.args.value c.args.bytes.now c.set_number.new.bytes c.all_bytes.ensures c.requires.long (replaceable c.args.field) (leaves c.args.field c.requires.settable)
    (layers_are (number_of c.args.field) c.args.value c.args.bytes.now c.set_number.new.bytes (replaceable c.args.field) (leaves c.args.field c.requires.settable) c.all_bytes.ensures c.requires.long (λ i. omega (arith, c.type_inv.bytes i))
    (c.set_number.ensures (number_of c.args.field) (replaceable c.args.field) (sym (c.place.ensures c.args.bytes.now c.requires.long short c.requires.layout) ∙ c.in-Some.is)))

pub returns-in_default-clause-checksums : goal.returns-in_default-clause-checksums
returns-in_default-clause-checksums c =
    let short : 8 * length c.args.bytes.now < 2 ^ 64 = omega (arith, c.requires.short) in
    stay_right (number_of c.args.field) c.args.value c.args.bytes.now c.args.bytes.now c.all_bytes.ensures c.requires.long (replaceable c.args.field) (leaves c.args.field c.requires.settable)
    (layers_are (number_of c.args.field) c.args.value c.args.bytes.now c.args.bytes.now (replaceable c.args.field) (leaves c.args.field c.requires.settable) c.all_bytes.ensures c.requires.long c.all_bytes.ensures
    (unset_frame (number_of c.args.field) c.args.value c.args.bytes.now c.all_bytes.ensures c.requires.long
    (sym (c.place.ensures c.args.bytes.now c.requires.long short c.requires.layout) ∙ c.in_default.is)))

pub returns-in-Some-clause-off : goal.returns-in-Some-clause-off
returns-in-Some-clause-off c =
    let short : 8 * length c.args.bytes.now < 2 ^ 64 = omega (arith, c.requires.short) in
    stay_off (number_of c.args.field) c.args.value c.args.bytes.now c.set_number.new.bytes c.all_bytes.ensures c.requires.long (replaceable c.args.field) (leaves c.args.field c.requires.settable)
    (layers_are (number_of c.args.field) c.args.value c.args.bytes.now c.set_number.new.bytes (replaceable c.args.field) (leaves c.args.field c.requires.settable) c.all_bytes.ensures c.requires.long (λ i. omega (arith, c.type_inv.bytes i))
    (c.set_number.ensures (number_of c.args.field) (replaceable c.args.field) (sym (c.place.ensures c.args.bytes.now c.requires.long short c.requires.layout) ∙ c.in-Some.is)))

pub returns-in_default-clause-off : goal.returns-in_default-clause-off
returns-in_default-clause-off c =
    let short : 8 * length c.args.bytes.now < 2 ^ 64 = omega (arith, c.requires.short) in
    stay_off (number_of c.args.field) c.args.value c.args.bytes.now c.args.bytes.now c.all_bytes.ensures c.requires.long (replaceable c.args.field) (leaves c.args.field c.requires.settable)
    (layers_are (number_of c.args.field) c.args.value c.args.bytes.now c.args.bytes.now (replaceable c.args.field) (leaves c.args.field c.requires.settable) c.all_bytes.ensures c.requires.long c.all_bytes.ensures
    (unset_frame (number_of c.args.field) c.args.value c.args.bytes.now c.all_bytes.ensures c.requires.long
    (sym (c.place.ensures c.args.bytes.now c.requires.long short c.requires.layout) ∙ c.in_default.is)))
