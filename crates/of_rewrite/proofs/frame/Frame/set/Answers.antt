use Rattle.std.proofs.Common.{◌≡◌, sym, ◌∙◌, ap, List, ℕ, length}
use Rattle.of_layers.specs.{Fields.number_of, Reading.layers_of}
use Rattle.of_headers.specs.Places.{layout_of}
use Rattle.of_rewrite.{specs.Replaced.layers_set, specs.Right.StayOff, specs.Right.StayRight, proofs.KeptPlaces.kept, proofs.KeptPlaces.stays_set, proofs.KeptPlaces.written}
use Rattle.of_rewrite.proofs.frame.Frame.set.Goals as goal

pub invariant_of-self : goal.invariant_of-self
invariant_of-self c =
    kept c.self.inside.bytes.len c.self.inside.bytes.items c.set_field.new.bytes c.layout-layout.result
    (sym c.deref.ensures.len ∙ ap length c.deref.ensures.value)
    (c.set_field.auto.bytes ∙ ap length c.deref_mut.ensures.value)
    c.self.invariant.0 c.self.invariant.1
    (stays_set (number_of c.args.field) c.args.value c.deref_mut.result.now c.set_field.new.bytes c.layout-layout.result
    (c.layout-layout.ensures ∙ ap (λ (s : List ℕ). layout_of (layers_of s)) (c.deref.ensures.value ∙ sym c.deref_mut.ensures.value)) c.set_field.ensures.layers)

pub returns-clause-layers : goal.returns-clause-layers
returns-clause-layers c =
    written (λ (s t : List ℕ). layers_of t ≡ layers_set (number_of c.args.field) c.args.value (layers_of s)) c.self.inside.bytes.len c.args.self.now c.self.inside.bytes.items c.deref_mut.result.now c.set_field.new.bytes
    c.self.view_is c.deref_mut.ensures.value (sym c.deref.ensures.len ∙ ap length c.deref.ensures.value) (c.set_field.auto.bytes ∙ ap length c.deref_mut.ensures.value) c.set_field.ensures.layers

pub returns-clause-checksums : goal.returns-clause-checksums
returns-clause-checksums c =
    written StayRight c.self.inside.bytes.len c.args.self.now c.self.inside.bytes.items c.deref_mut.result.now c.set_field.new.bytes
    c.self.view_is c.deref_mut.ensures.value (sym c.deref.ensures.len ∙ ap length c.deref.ensures.value) (c.set_field.auto.bytes ∙ ap length c.deref_mut.ensures.value) c.set_field.ensures.checksums

pub returns-clause-off : goal.returns-clause-off
returns-clause-off c =
    written StayOff c.self.inside.bytes.len c.args.self.now c.self.inside.bytes.items c.deref_mut.result.now c.set_field.new.bytes
    c.self.view_is c.deref_mut.ensures.value (sym c.deref.ensures.len ∙ ap length c.deref.ensures.value) (c.set_field.auto.bytes ∙ ap length c.deref_mut.ensures.value) c.set_field.ensures.off
