use Rattle.std.proofs.Common.{◌≤◌, ◌<◌, length, arith}
use Rattle.of_layers.specs.Layers.{ttl}
use Rattle.of_rewrite.proofs.Unset.{TtlIs, ttl_is, no_ttl, packet_below, unset_frame}
use Rattle.of_rewrite.{specs.Renewal.packet_at, proofs.Framing.is_ttl, proofs.KeptLayers.layers_are, proofs.KeptLayers.leaves_ttl, proofs.StayingRight.stay_right, proofs.StayingOff.stay_off}
use Rattle.of_rewrite.proofs.rewrite.set_ttl.Goals as goal

pub ttl_byte-requires : goal.ttl_byte-requires
ttl_byte-requires c = let r : packet_at c.args.layout ≤ length c.args.bytes.now = packet_below c.args.bytes.now c.args.layout c.all_bytes.ensures c.requires.long c.requires.layout in omega (arith, c.requires.short)

pub overflow_mul-place : goal.overflow_mul-place
overflow_mul-place c =
    let t : TtlIs c.args.bytes.now c.in-Some.at = ttl_is c.args.bytes.now c.args.layout c.ttl_byte.result c.in-Some.at c.all_bytes.ensures c.requires.long c.requires.layout c.ttl_byte.ensures c.in-Some.is in
    let i : c.in-Some.at < length c.args.bytes.now = t.inside in
    omega (arith, c.requires.short)

pub set_number-requires-clause-fits : goal.set_number-requires-clause-fits
set_number-requires-clause-fits c =
    let t : TtlIs c.args.bytes.now c.in-Some.at = ttl_is c.args.bytes.now c.args.layout c.ttl_byte.result c.in-Some.at c.all_bytes.ensures c.requires.long c.requires.layout c.ttl_byte.ensures c.in-Some.is in
    let i : c.in-Some.at < length c.args.bytes.now = t.inside in
    omega (arith, c.requires.short)

pub set_number-requires-clause-room : goal.set_number-requires-clause-room
set_number-requires-clause-room c =
    (ttl_is c.args.bytes.now c.args.layout c.ttl_byte.result c.in-Some.at c.all_bytes.ensures c.requires.long c.requires.layout c.ttl_byte.ensures c.in-Some.is).words

pub returns-in-Some-clause-bits : goal.returns-in-Some-clause-bits
returns-in-Some-clause-bits c =
    let t : TtlIs c.args.bytes.now c.in-Some.at = ttl_is c.args.bytes.now c.args.layout c.ttl_byte.result c.in-Some.at c.all_bytes.ensures c.requires.long c.requires.layout c.ttl_byte.ensures c.in-Some.is in
    rw (← c.from.ensures) (c.set_number.ensures ttl (omega arith, omega arith) t.place)

pub returns-in-Some-clause-frame : goal.returns-in-Some-clause-frame
returns-in-Some-clause-frame c =
    let t : TtlIs c.args.bytes.now c.in-Some.at = ttl_is c.args.bytes.now c.args.layout c.ttl_byte.result c.in-Some.at c.all_bytes.ensures c.requires.long c.requires.layout c.ttl_byte.ensures c.in-Some.is in
    rw (← c.from.ensures) (is_ttl c.from.result c.args.bytes.now c.set_number.new.bytes (λ i. omega (arith, c.type_inv.bytes i)) (c.set_number.ensures ttl (omega arith, omega arith) t.place))

pub returns-in_default-clause-bits : goal.returns-in_default-clause-bits
returns-in_default-clause-bits c =
    unset_frame ttl c.args.value c.args.bytes.now c.all_bytes.ensures c.requires.long
    (no_ttl c.args.bytes.now c.args.layout c.ttl_byte.result c.all_bytes.ensures c.requires.long c.requires.layout c.ttl_byte.ensures c.in_default.is)

pub returns-in_default-clause-frame : goal.returns-in_default-clause-frame
returns-in_default-clause-frame c =
    is_ttl c.args.value c.args.bytes.now c.args.bytes.now c.all_bytes.ensures (unset_frame ttl c.args.value c.args.bytes.now c.all_bytes.ensures c.requires.long
    (no_ttl c.args.bytes.now c.args.layout c.ttl_byte.result c.all_bytes.ensures c.requires.long c.requires.layout c.ttl_byte.ensures c.in_default.is))

pub returns-in-Some-clause-layers : goal.returns-in-Some-clause-layers
returns-in-Some-clause-layers c =
    let t : TtlIs c.args.bytes.now c.in-Some.at = ttl_is c.args.bytes.now c.args.layout c.ttl_byte.result c.in-Some.at c.all_bytes.ensures c.requires.long c.requires.layout c.ttl_byte.ensures c.in-Some.is in
    rw (← c.from.ensures) (layers_are ttl c.from.result c.args.bytes.now c.set_number.new.bytes (omega arith, omega arith) leaves_ttl c.all_bytes.ensures c.requires.long (λ i. omega (arith, c.type_inv.bytes i)) (c.set_number.ensures ttl (omega arith, omega arith) t.place))

pub returns-in_default-clause-layers : goal.returns-in_default-clause-layers
returns-in_default-clause-layers c =
    layers_are ttl c.args.value c.args.bytes.now c.args.bytes.now (omega arith, omega arith) leaves_ttl c.all_bytes.ensures c.requires.long c.all_bytes.ensures (unset_frame ttl c.args.value c.args.bytes.now c.all_bytes.ensures c.requires.long
    (no_ttl c.args.bytes.now c.args.layout c.ttl_byte.result c.all_bytes.ensures c.requires.long c.requires.layout c.ttl_byte.ensures c.in_default.is))

pub returns-in-Some-clause-checksums : goal.returns-in-Some-clause-checksums
returns-in-Some-clause-checksums c =
    let t : TtlIs c.args.bytes.now c.in-Some.at = ttl_is c.args.bytes.now c.args.layout c.ttl_byte.result c.in-Some.at c.all_bytes.ensures c.requires.long c.requires.layout c.ttl_byte.ensures c.in-Some.is in
    stay_right ttl c.from.result c.args.bytes.now c.set_number.new.bytes c.all_bytes.ensures c.requires.long (omega arith, omega arith) leaves_ttl (layers_are ttl c.from.result c.args.bytes.now c.set_number.new.bytes (omega arith, omega arith) leaves_ttl c.all_bytes.ensures c.requires.long (λ i. omega (arith, c.type_inv.bytes i)) (c.set_number.ensures ttl (omega arith, omega arith) t.place))

pub returns-in_default-clause-checksums : goal.returns-in_default-clause-checksums
returns-in_default-clause-checksums c =
    stay_right ttl c.args.value c.args.bytes.now c.args.bytes.now c.all_bytes.ensures c.requires.long (omega arith, omega arith) leaves_ttl (layers_are ttl c.args.value c.args.bytes.now c.args.bytes.now (omega arith, omega arith) leaves_ttl c.all_bytes.ensures c.requires.long c.all_bytes.ensures (unset_frame ttl c.args.value c.args.bytes.now c.all_bytes.ensures c.requires.long
    (no_ttl c.args.bytes.now c.args.layout c.ttl_byte.result c.all_bytes.ensures c.requires.long c.requires.layout c.ttl_byte.ensures c.in_default.is)))

pub returns-in-Some-clause-off : goal.returns-in-Some-clause-off
returns-in-Some-clause-off c =
    let t : TtlIs c.args.bytes.now c.in-Some.at = ttl_is c.args.bytes.now c.args.layout c.ttl_byte.result c.in-Some.at c.all_bytes.ensures c.requires.long c.requires.layout c.ttl_byte.ensures c.in-Some.is in
    stay_off ttl c.from.result c.args.bytes.now c.set_number.new.bytes c.all_bytes.ensures c.requires.long (omega arith, omega arith) leaves_ttl (layers_are ttl c.from.result c.args.bytes.now c.set_number.new.bytes (omega arith, omega arith) leaves_ttl c.all_bytes.ensures c.requires.long (λ i. omega (arith, c.type_inv.bytes i)) (c.set_number.ensures ttl (omega arith, omega arith) t.place))

pub returns-in_default-clause-off : goal.returns-in_default-clause-off
returns-in_default-clause-off c =
    stay_off ttl c.args.value c.args.bytes.now c.args.bytes.now c.all_bytes.ensures c.requires.long (omega arith, omega arith) leaves_ttl (layers_are ttl c.args.value c.args.bytes.now c.args.bytes.now (omega arith, omega arith) leaves_ttl c.all_bytes.ensures c.requires.long c.all_bytes.ensures (unset_frame ttl c.args.value c.args.bytes.now c.all_bytes.ensures c.requires.long
    (no_ttl c.args.bytes.now c.args.layout c.ttl_byte.result c.all_bytes.ensures c.requires.long c.requires.layout c.ttl_byte.ensures c.in_default.is)))
