use Rattle.of_headers.proofs.{KeyLemmas.ipv6_payload, KeyLemmas.look_ipv6, LookLemmas.put_two}
use Rattle.of_headers.proofs.reading.add_ipv6_packet.Goals as goal

pub rest_from-requires : goal.rest_from-requires
rest_from-requires c = (ipv6_payload c.args.packet.now c.args.named c.args.payload c.requires.header c.requires.places).room

pub add_transport-requires : goal.add_transport-requires
add_transport-requires c = rw c.rest_from.ensures (ipv6_payload c.args.packet.now c.args.named c.args.payload c.requires.header c.requires.places).size

pub add_ipv6-requires-clause-within : goal.add_ipv6-requires-clause-within
add_ipv6-requires-clause-within c = (ipv6_payload c.args.packet.now c.args.named c.args.payload c.requires.header c.requires.places).low

pub returns : goal.returns
returns c = λ f.
    let inner = rw c.rest_from.ensures at (c.add_transport.ensures f) in
    put_two _ _ _ _ _ _ (c.add_ipv6.ensures f) inner
    (look_ipv6 f c.args.packet.now c.args.named c.args.payload (ipv6_payload c.args.packet.now c.args.named c.args.payload c.requires.header c.requires.places))
