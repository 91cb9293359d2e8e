use Rattle.std.proofs.Common.{◌≡◌, Some, None, sym, ◌∙◌}
use Rattle.of_headers.specs.FieldMap.{value}
use Rattle.of_oxm.specs.Masks.{mask_at}
use Rattle.of_regions.proofs.{WitnessLemmas.port_known, region.Region.ingress.Goals.in_default-via-in-Some+in_default, region.Region.ingress.Goals.in_default-via-in_default}
use Rattle.of_regions.proofs.region.Region.ingress.Goals as goal

pub unreachable-requires : goal.unreachable-requires
unreachable-requires c =
    let r = c.args.self.now in
    let both = port_known r.shape (mask_at r.masks) (value r.known) r.tagging r.each in
    let m : c.get.result ≡ Some both.bits = c.get.ensures ∙ both.mask_is in
    let k : c.get-2.result ≡ Some both.value = c.get-2.ensures ∙ both.known_is in
    elim c.in_default.branch as (λ w. ⊥) [
      | in_default-via-in-Some+in_default w ↦ (let none : Some both.value ≡ None = sym k ∙ w.in_default.is-1 in cc)
      | in_default-via-in_default w ↦ (let none : Some both.bits ≡ None = sym m ∙ w.in_default.is-0 in cc)
    ]
