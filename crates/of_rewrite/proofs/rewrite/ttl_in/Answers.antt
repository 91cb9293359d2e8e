use Rattle.std.proofs.Common.{◌≤◌, length, sym, arith}
use Rattle.of_layers.{specs.Reading.layers_of, specs.Layers.cells, specs.Layers.ttl, proofs.FrameLemmas.frame_encoded}
use Rattle.of_rewrite.{specs.Renewal.packet_at, proofs.Finding.not_found, proofs.Unset.ttl_is, proofs.Unset.no_ttl, proofs.Unset.packet_below, proofs.Framing.bytes_are}
use Rattle.of_rewrite.proofs.rewrite.ttl_in.Goals as goal

pub ttl_byte-requires : goal.ttl_byte-requires
ttl_byte-requires c = let r : packet_at c.args.layout ≤ length c.args.bytes.now = packet_below c.args.bytes.now c.args.layout c.all_bytes.ensures c.requires.long c.requires.layout in omega (arith, c.requires.short)

pub bounds-bytes-at : goal.bounds-bytes-at
bounds-bytes-at c = (ttl_is c.args.bytes.now c.args.layout c.ttl_byte.result c.in-Some.at c.all_bytes.ensures c.requires.long c.requires.layout c.ttl_byte.ensures c.in-Some.is).inside

pub returns-in-Some-clause-value : goal.returns-in-Some-clause-value
returns-in-Some-clause-value c = (ttl_is c.args.bytes.now c.args.layout c.ttl_byte.result c.in-Some.at c.all_bytes.ensures c.requires.long c.requires.layout c.ttl_byte.ensures c.in-Some.is).value

pub returns-in-Some-clause-encoded : goal.returns-in-Some-clause-encoded
returns-in-Some-clause-encoded c = frame_encoded c.args.bytes.now c.all_bytes.ensures c.requires.long

pub returns-in-None-clause-value : goal.returns-in-None-clause-value
returns-in-None-clause-value c =
    sym (not_found ttl 0 (cells (layers_of c.args.bytes.now)) (λ x. x) (no_ttl c.args.bytes.now c.args.layout c.ttl_byte.result c.all_bytes.ensures c.requires.long c.requires.layout c.ttl_byte.ensures c.in-None.is)).1

pub returns-in-None-clause-encoded : goal.returns-in-None-clause-encoded
returns-in-None-clause-encoded c = frame_encoded c.args.bytes.now c.all_bytes.ensures c.requires.long

pub returns-in-Some-clause-frame : goal.returns-in-Some-clause-frame
returns-in-Some-clause-frame c = bytes_are (cells (layers_of c.args.bytes.now)) c.args.bytes.now c.all_bytes.ensures (frame_encoded c.args.bytes.now c.all_bytes.ensures c.requires.long)

pub returns-in-None-clause-frame : goal.returns-in-None-clause-frame
returns-in-None-clause-frame c = bytes_are (cells (layers_of c.args.bytes.now)) c.args.bytes.now c.all_bytes.ensures (frame_encoded c.args.bytes.now c.all_bytes.ensures c.requires.long)
