use Rattle.std.proofs.Common.{◌≡◌, ◌-◌, true, false, length, drop, sym, ◌∙◌, arith}
use Rattle.std.proofs.lemmas.List.{length-drop}
use Rattle.of_layers.specs.Reading.{over_ipv6, whole_in, extension_size, has_extension, is_later}
use Rattle.of_headers.proofs.ChainLemmas.{walk_stop, walk_later, walk_more, size_fits}
use Rattle.of_headers.proofs.chain.chain_in.Goals as goal

pub returns-then-is_later_at : goal.returns-then-is_later_at
returns-then-is_later_at c =
    let whole : has_extension c.loop-rest.kind (drop c.loop-rest.at c.args.packet.now) ≡ true = cc in
    let later : is_later c.loop-rest.kind (drop c.loop-rest.at c.args.packet.now) ≡ true = cc in
    sym (walk_later c.loop-rest.named c.loop-rest.at c.loop-rest.kind c.args.packet.now whole later) ∙ c.loop-rest.invariant.all

pub loop-rest-preserved : goal.loop-rest-preserved
loop-rest-preserved c =
    let whole : has_extension c.loop-rest.kind (drop c.loop-rest.at c.args.packet.now) ≡ true = cc in
    let first : is_later c.loop-rest.kind (drop c.loop-rest.at c.args.packet.now) ≡ false = cc in
    let size : c.size_at-at.result ≡ extension_size c.loop-rest.kind (drop c.loop-rest.at c.args.packet.now) = cc in
    record {
      room = omega (arith, size_fits c.loop-rest.kind (drop c.loop-rest.at c.args.packet.now) whole, length-drop c.loop-rest.at c.args.packet.now);
      all = rw (size, c.rest_from-rest.ensures) (sym (walk_more c.loop-rest.named c.loop-rest.at c.loop-rest.kind c.args.packet.now whole first) ∙ c.loop-rest.invariant.all);
    }

pub returns : goal.returns
returns c =
    let none : has_extension c.loop-rest.kind (drop c.loop-rest.at c.args.packet.now) ≡ false = cc in
    let kind : c.transport_in-transport.result ≡ whole_in (over_ipv6 c.loop-rest.kind) (length c.args.packet.now - c.loop-rest.at) = cc in
    rw kind (sym (walk_stop c.loop-rest.named c.loop-rest.at c.loop-rest.kind c.args.packet.now none) ∙ c.loop-rest.invariant.all)
