use Rattle.std.proofs.Common.{◌≡◌, sym, ◌∙◌, ap, List, ℕ, length}
use Rattle.of_layers.specs.Reading.{layers_of}
use Rattle.of_headers.specs.Places.{layout_of}
use Rattle.of_rewrite.specs.{Right.StayOff, Right.StayRight, TimeToLive.layers_ttl_decremented, TimeToLive.ttl_of}
use Rattle.of_rewrite.proofs.KeptPlaces.{kept, stays_aged, written}
use Rattle.of_rewrite.proofs.frame.Frame.dec_ttl.Goals as goal

pub invariant_of-self : goal.invariant_of-self
invariant_of-self c =
    kept c.self.inside.bytes.len c.self.inside.bytes.items c.dec_ttl-ttl.new.bytes c.layout-layout.result
    (sym c.deref.ensures.len ∙ ap length c.deref.ensures.value)
    (c.dec_ttl-ttl.auto.bytes ∙ ap length c.deref_mut.ensures.value)
    c.self.invariant.0 c.self.invariant.1
    (stays_aged (ttl_of (layers_of c.deref_mut.result.now)) c.deref_mut.result.now c.dec_ttl-ttl.new.bytes c.layout-layout.result
    (c.layout-layout.ensures ∙ ap (λ (s : List ℕ). layout_of (layers_of s)) (c.deref.ensures.value ∙ sym c.deref_mut.ensures.value)) c.dec_ttl-ttl.ensures.layers)

pub returns-clause-layers : goal.returns-clause-layers
returns-clause-layers c =
    written (λ (s t : List ℕ). layers_of t ≡ layers_ttl_decremented (ttl_of (layers_of s)) (layers_of s)) c.self.inside.bytes.len c.args.self.now c.self.inside.bytes.items c.deref_mut.result.now c.dec_ttl-ttl.new.bytes
    c.self.view_is c.deref_mut.ensures.value (sym c.deref.ensures.len ∙ ap length c.deref.ensures.value) (c.dec_ttl-ttl.auto.bytes ∙ ap length c.deref_mut.ensures.value) c.dec_ttl-ttl.ensures.layers

pub returns-clause-checksums : goal.returns-clause-checksums
returns-clause-checksums c =
    written StayRight c.self.inside.bytes.len c.args.self.now c.self.inside.bytes.items c.deref_mut.result.now c.dec_ttl-ttl.new.bytes
    c.self.view_is c.deref_mut.ensures.value (sym c.deref.ensures.len ∙ ap length c.deref.ensures.value) (c.dec_ttl-ttl.auto.bytes ∙ ap length c.deref_mut.ensures.value) c.dec_ttl-ttl.ensures.checksums

pub returns-clause-off : goal.returns-clause-off
returns-clause-off c =
    written StayOff c.self.inside.bytes.len c.args.self.now c.self.inside.bytes.items c.deref_mut.result.now c.dec_ttl-ttl.new.bytes
    c.self.view_is c.deref_mut.ensures.value (sym c.deref.ensures.len ∙ ap length c.deref.ensures.value) (c.dec_ttl-ttl.auto.bytes ∙ ap length c.deref_mut.ensures.value) c.dec_ttl-ttl.ensures.off
