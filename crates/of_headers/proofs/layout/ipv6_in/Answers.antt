use Rattle.std.proofs.Common.{◌≡◌, ℕ, ◌+◌, List, take, length, min, ap, ◌∙◌}
use Rattle.std.proofs.lemmas.List.{take_min}
use Rattle.of_layers.specs.Reading.{word}
use Rattle.of_headers.proofs.LayoutLemmas.{ipv6_network}
use Rattle.of_headers.proofs.layout.ipv6_in.Goals as goal

pub returns : goal.returns
returns c =
    let p : List ℕ = c.args.packet.now in
    let end : c.min-end.result ≡ min (40 + word c.args.packet.now 4) (length c.args.packet.now) = cc in
    let cut : take c.min-end.result c.args.packet.now ≡ take (40 + word c.args.packet.now 4) c.args.packet.now = ap (λ (n : ℕ). take n c.args.packet.now) end ∙ take_min (40 + word c.args.packet.now 4) c.args.packet.now in
    c.chain_in.ensures ∙ ipv6_network c.args.packet.now (take c.min-end.result c.args.packet.now) cut
