use Rattle.std.proofs.Common.{◌≡◌, ◌+◌, ◌*◌, ◌^◌, ◌%◌, ◌<◌, ◌≤◌, length, drop, sym, ap, ◌∙◌, arith}
use Rattle.std.proofs.lemmas.List.{length-drop}
use Rattle.of_layers.specs.{Fields.number_of, Layers.Body, Layers.cells_in, Layers.items_of, Layers.body_cells, Reading.numbers_of, Looking.locate_at}
use Rattle.of_headers.proofs.KeyLemmas.{IsIpv4At, ipv4_at, IsIpv6At, ipv6_at, IsIpv6Payload, ipv6_payload}
use Rattle.of_headers.proofs.PlaceLemmas.{place_plain, place_arp, place_ipv4, place_ipv6, width_carried, behind_at}
use Rattle.of_headers.{specs.Places.width, proofs.CarriedLemmas.IsIpv4Payload, proofs.CarriedLemmas.ipv4_payload}
use Rattle.of_headers.proofs.layout.Network.place.Goals as goal

pub returns-in-Plain : goal.returns-in-Plain
returns-in-Plain c = λ kind p l e. place_plain (number_of c.args.field) kind p (sym c.in-Plain.is ∙ e)

pub returns-in-Arp : goal.returns-in-Arp
returns-in-Arp c = λ kind p l e. place_arp (number_of c.args.field) kind p c.arp_place.result (sym c.in-Arp.is ∙ e) (c.arp_place.ensures p)

pub returns-in-Ipv4 : goal.returns-in-Ipv4
returns-in-Ipv4 c = λ kind p l e.
    let at : IsIpv4At kind p c.in-Ipv4.payload = ipv4_at kind p c.in-Ipv4.payload (sym c.in-Ipv4.is ∙ e) in
    let is : IsIpv4Payload p c.in-Ipv4.payload = ipv4_payload p c.in-Ipv4.payload at.header at.places in
    let room : c.in-Ipv4.payload.at ≤ length p = is.room in
    let exact : c.in-Ipv4.payload.at * 8 % 2 ^ 64 ≡ 8 * c.in-Ipv4.payload.at = omega arith in
    let fits : 8 * c.in-Ipv4.payload.at + width (cells_in (items_of c.in-Ipv4.payload.transport) (numbers_of c.in-Ipv4.payload.transport (drop c.in-Ipv4.payload.at p))) < 2 ^ 64 =
    omega (arith, width_carried c.in-Ipv4.payload.transport (drop c.in-Ipv4.payload.at p), is.size, length-drop c.in-Ipv4.payload.at p) in
    let inner = behind_at (c.in-Ipv4.payload.at * 8 % 2 ^ 64) (8 * c.in-Ipv4.payload.at) (number_of c.args.field) (cells_in (items_of c.in-Ipv4.payload.transport) (numbers_of c.in-Ipv4.payload.transport (drop c.in-Ipv4.payload.at p))) c.behind.result exact fits
    (λ h. c.behind.ensures (number_of c.args.field) (cells_in (items_of c.in-Ipv4.payload.transport) (numbers_of c.in-Ipv4.payload.transport (drop c.in-Ipv4.payload.at p))) h (c.transport_place-inner.ensures (drop c.in-Ipv4.payload.at p))) in
    c.or.ensures
    ∙ place_ipv4 (number_of c.args.field) p c.in-Ipv4.payload c.ipv4_place.result c.behind.result at.header is (c.ipv4_place.ensures p) inner
    ∙ ap (λ (b : Body). locate_at 0 (number_of c.args.field) (body_cells b)) (sym at.body)

pub returns-in-Ipv6 : goal.returns-in-Ipv6
returns-in-Ipv6 c = λ kind p l e.
    let at : IsIpv6At kind p c.in-Ipv6.named c.in-Ipv6.payload = ipv6_at kind p c.in-Ipv6.named c.in-Ipv6.payload (sym c.in-Ipv6.is ∙ e) in
    let is : IsIpv6Payload p c.in-Ipv6.named c.in-Ipv6.payload = ipv6_payload p c.in-Ipv6.named c.in-Ipv6.payload at.header at.places in
    let room : c.in-Ipv6.payload.at ≤ length p = is.room in
    let low : c.in-Ipv6.named < length p = is.low in
    let exact : c.in-Ipv6.payload.at * 8 % 2 ^ 64 ≡ 8 * c.in-Ipv6.payload.at = omega arith in
    let fits : 8 * c.in-Ipv6.payload.at + width (cells_in (items_of c.in-Ipv6.payload.transport) (numbers_of c.in-Ipv6.payload.transport (drop c.in-Ipv6.payload.at p))) < 2 ^ 64 =
    omega (arith, width_carried c.in-Ipv6.payload.transport (drop c.in-Ipv6.payload.at p), is.size, length-drop c.in-Ipv6.payload.at p) in
    let inner = behind_at (c.in-Ipv6.payload.at * 8 % 2 ^ 64) (8 * c.in-Ipv6.payload.at) (number_of c.args.field) (cells_in (items_of c.in-Ipv6.payload.transport) (numbers_of c.in-Ipv6.payload.transport (drop c.in-Ipv6.payload.at p))) c.behind-in-Ipv6.result exact fits
    (λ h. c.behind-in-Ipv6.ensures (number_of c.args.field) (cells_in (items_of c.in-Ipv6.payload.transport) (numbers_of c.in-Ipv6.payload.transport (drop c.in-Ipv6.payload.at p))) h (c.transport_place-inner-in-Ipv6.ensures (drop c.in-Ipv6.payload.at p))) in
    let small : 8 * c.in-Ipv6.named < 2 ^ 64 = omega arith in
    c.or-in-Ipv6.ensures
    ∙ place_ipv6 c.args.field p c.in-Ipv6.named c.in-Ipv6.payload c.ipv6_place.result c.behind-in-Ipv6.result is (c.ipv6_place.ensures p small) inner
    ∙ ap (λ (b : Body). locate_at 0 (number_of c.args.field) (body_cells b)) (sym at.body)
