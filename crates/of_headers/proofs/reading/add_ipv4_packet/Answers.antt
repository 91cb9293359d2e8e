use Rattle.of_headers.proofs.{CarriedLemmas.ipv4_payload, CarriedLemmas.look_ipv4, LookLemmas.put_two}
use Rattle.of_layers.specs.Fields.{number_of}
use Rattle.of_headers.proofs.reading.add_ipv4_packet.Goals as goal

pub rest_from-requires : goal.rest_from-requires
rest_from-requires c = (ipv4_payload c.args.packet.now c.args.payload c.requires.header c.requires.places).room

pub add_transport-requires : goal.add_transport-requires
add_transport-requires c = rw c.rest_from.ensures (ipv4_payload c.args.packet.now c.args.payload c.requires.header c.requires.places).size

pub returns : goal.returns
returns c = λ f.
    let inner = rw c.rest_from.ensures at (c.add_transport.ensures f) in
    put_two _ _ _ _ _ _ (c.add_ipv4.ensures f) inner
    (look_ipv4 (number_of f) c.args.packet.now c.args.payload (ipv4_payload c.args.packet.now c.args.payload c.requires.header c.requires.places))
