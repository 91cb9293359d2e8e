use Rattle.std.proofs.Common.{◌≡◌, ℕ, List, sym, ap, ◌∙◌, length, subst, refl}
use Rattle.of_layers.{specs.Bits.bits_of, specs.Reading.layers_of, specs.Layers.encoded, proofs.FrameLemmas.frame_encoded, proofs.FrameLemmas.are_layers}
use Rattle.of_headers.specs.{declared.layout.Layout.Layout, Places.layout_of}
use Rattle.of_rewrite.specs.{declared.sums.Sums.Sums, Spans.AreEven, Spans.both_followed, Renewal.sums_of, Renewal.with_header, Renewal.with_carried}
use Rattle.of_rewrite.proofs.{Covering.set_where, Unset.frame_stands, Renewing.renewed_all, Renewing.sums_even, Renewing.room_for}
use Rattle.of_rewrite.proofs.rewrite.set_number.Goals as goal

pub sums_in-sums-requires : goal.sums_in-sums-requires
sums_in-sums-requires c = room_for (layers_of c.args.bytes.now) c.args.layout c.args.bytes.now (length c.args.bytes.now) (frame_stands c.args.bytes.now c.all_bytes.ensures c.requires.long) c.requires.layout refl

pub put_number-sums-requires-clause-even : goal.put_number-sums-requires-clause-even
put_number-sums-requires-clause-even c =
    let P : Sums → Type 0 = λ m. AreEven m in
    subst P (sym c.sums_in-sums.ensures) (sums_even (layers_of c.args.bytes.now) c.args.layout c.args.bytes.now c.args.bytes.now (frame_stands c.args.bytes.now c.all_bytes.ensures c.requires.long) c.requires.layout)

pub put_sums-requires : goal.put_sums-requires
put_sums-requires c = room_for (layers_of c.args.bytes.now) c.args.layout c.args.bytes.now (length c.put_number-sums.new.bytes) (frame_stands c.args.bytes.now c.all_bytes.ensures c.requires.long) c.requires.layout c.put_number-sums.auto.bytes

pub returns : goal.returns
returns c = λ n free place.
    let s : List ℕ = c.args.bytes.now in
    let t : List ℕ = c.put_number-sums.new.bytes in
    let m : c.put_number-sums.result ≡ both_followed (sums_of (layout_of (layers_of c.args.bytes.now)) c.args.bytes.now) c.args.bytes.now c.put_number-sums.new.bytes =
    c.put_number-sums.ensures.sums ∙ ap (λ (k : Sums). both_followed k c.args.bytes.now c.put_number-sums.new.bytes) (c.sums_in-sums.ensures ∙ ap (λ (y : Layout). sums_of y c.args.bytes.now) c.requires.layout) in
    ap bits_of (c.put_sums.ensures ∙ ap (λ (y : Layout). with_carried y c.put_number-sums.result (with_header y c.put_number-sums.result c.put_number-sums.new.bytes)) c.requires.layout)
    ∙ renewed_all n c.args.value c.args.place (layers_of c.args.bytes.now) c.args.bytes.now c.put_number-sums.new.bytes (frame_stands c.args.bytes.now c.all_bytes.ensures c.requires.long)
    (frame_encoded c.args.bytes.now c.all_bytes.ensures c.requires.long) c.all_bytes.ensures c.all_bytes-2.ensures c.put_number-sums.auto.bytes free place c.put_number-sums.ensures.bits c.put_number-sums.result m
    ∙ ap encoded (sym (set_where n c.args.value (layers_of c.args.bytes.now) (are_layers c.args.bytes.now c.all_bytes.ensures c.requires.long)))
