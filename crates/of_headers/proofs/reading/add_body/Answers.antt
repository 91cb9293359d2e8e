use Rattle.std.proofs.Common.{◌≡◌, [], ◌∷◌, sym, ap, ◌∙◌}
use Rattle.std.specs.Option.{option_or}
use Rattle.of_layers.specs.{Fields.number_of, Layers.Body, Layers.cells_in, Layers.ether_type, Layers.body_cells, Looking.look, declared.field.Field.Field, Reading.body_of}
use Rattle.of_headers.proofs.KeyLemmas.{arp_at, ipv4_at, ipv6_at, put_plain, put_arp}
use Rattle.of_headers.{specs.declared.key.FieldKey.FieldKey, specs.FieldMap.value, proofs.LookLemmas.put_two, proofs.LookLemmas.look-append}
use Rattle.of_headers.proofs.reading.add_body.Goals.{in-Plain, in-Arp, in-Ipv4, in-Ipv6}
use Rattle.of_headers.proofs.reading.add_body.Goals as goal

pub add_arp-requires : goal.add_arp-requires
add_arp-requires c = (arp_at c.args.kind c.args.packet.now (sym c.in-Arp.is ∙ c.requires)).long

pub add_ipv4_packet-requires-clause-header : goal.add_ipv4_packet-requires-clause-header
add_ipv4_packet-requires-clause-header c = (ipv4_at c.args.kind c.args.packet.now c.in-Ipv4.payload (sym c.in-Ipv4.is ∙ c.requires)).header

pub add_ipv4_packet-requires-clause-places : goal.add_ipv4_packet-requires-clause-places
add_ipv4_packet-requires-clause-places c = (ipv4_at c.args.kind c.args.packet.now c.in-Ipv4.payload (sym c.in-Ipv4.is ∙ c.requires)).places

pub add_ipv6_packet-requires-clause-header : goal.add_ipv6_packet-requires-clause-header
add_ipv6_packet-requires-clause-header c = (ipv6_at c.args.kind c.args.packet.now c.in-Ipv6.named c.in-Ipv6.payload (sym c.in-Ipv6.is ∙ c.requires)).header

pub add_ipv6_packet-requires-clause-places : goal.add_ipv6_packet-requires-clause-places
add_ipv6_packet-requires-clause-places c = (ipv6_at c.args.kind c.args.packet.now c.in-Ipv6.named c.in-Ipv6.payload (sym c.in-Ipv6.is ∙ c.requires)).places

body_put : (c : goal.After-add_type) (f : Field) → value c.match-network.key f ≡ option_or (look f (body_cells (body_of c.args.kind c.args.packet.now))) (value c.args.key.now f)
body_put c f = elim c.match-network.branch [
  | in-Plain w ↦ ap (λ (k : FieldKey). value k f) w.key-is ∙ put_plain f c.args.kind c.args.packet.now (value c.args.key.now f) (sym w.in-Plain.is ∙ c.requires)
  | in-Arp w ↦ ap (λ (k : FieldKey). value k f) w.key-is ∙ w.add_arp.ensures f ∙ put_arp f c.args.kind c.args.packet.now (value c.args.key.now f) (sym w.in-Arp.is ∙ c.requires)
  | in-Ipv4 w ↦ ap (λ (k : FieldKey). value k f) w.key-is ∙ w.add_ipv4_packet.ensures f
      ∙ ap (λ (b : Body). option_or (look f (body_cells b)) (value c.args.key.now f)) (sym (ipv4_at c.args.kind c.args.packet.now w.in-Ipv4.payload (sym w.in-Ipv4.is ∙ c.requires)).body)
  | in-Ipv6 w ↦ ap (λ (k : FieldKey). value k f) w.key-is ∙ w.add_ipv6_packet.ensures f
      ∙ ap (λ (b : Body). option_or (look f (body_cells b)) (value c.args.key.now f)) (sym (ipv6_at c.args.kind c.args.packet.now w.in-Ipv6.named w.in-Ipv6.payload (sym w.in-Ipv6.is ∙ c.requires)).body)
]

pub returns : goal.returns
returns c = λ f.
    put_two _ _ _ _ _ _ (c.add_type.ensures f) (body_put c f)
    (sym (look-append (number_of f) (cells_in ether_type (c.args.kind ∷ [])) (body_cells (body_of c.args.kind c.args.packet.now))))
