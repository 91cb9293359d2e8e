-- What a switch tells the controller of the packets that go to it depends on the ports that are silent.
use Rattle.std.proofs.Common.{◌≡◌, ◌∙◌, sym, ap, ◌^◌, Bool, true, false, cond, not, ◌&&◌, List, [], ◌∷◌, Option, Some, None, refl}
use Rattle.std.specs.{List.filter, Option.option_map, Option.option_map_or}
use Rattle.of_wire.specs.Reasons.{packet_in_number}
use Rattle.of_ports.specs.{declared.port.Port.Port, Ports.port_at}
use Rattle.of_machine.specs.{declared.data.Item.Item, declared.data.Item.TheVariants.PacketIn, declared.data.Item.TheVariants.Sent, declared.data.ToController.ToController}
use Rattle.of_datapath.specs.{declared.control.AsyncConfig.AsyncConfig, Control.lets_pass, Told.given_items, Told.is_given, Told.is_no_match}
use Rattle.of_alike.specs.{Alike.LeavesAlike, Alike.to_controller, SamePorts.PortKey, SamePorts.SamePorts, SamePorts.port_key, declared.alike.Compared.TheVariants.All}
use Rattle.of_alike.proofs.EmissionLemmas.{same_port_at}

-- whether a packet to the controller is told
tells : AsyncConfig → List Port → ToController → Bool
tells heard ports p = is_given heard ports (PacketIn p)

told_first : (b : Bool) (p : ToController) (rest : List Item) (others : List ToController) → to_controller rest ≡ others → to_controller (cond b (PacketIn p ∷ rest) rest) ≡ cond b (p ∷ others) others
told_first true p rest others h = ap (λ (xs : List ToController). p ∷ xs) h
told_first false p rest others h = h

-- those that are given are those of the packets that are told
told_given : (heard : AsyncConfig) (ports : List Port) (items : List Item) → to_controller (given_items heard ports items) ≡ filter (tells heard ports) (to_controller items)
unfolding tells
told_given heard ports [] = refl
told_given heard ports (Sent port frame ∷ items) = told_given heard ports items
told_given heard ports (PacketIn p ∷ items) = told_first (is_given heard ports (PacketIn p)) p (given_items heard ports items) (filter (tells heard ports) (to_controller items)) (told_given heard ports items)

silent_alike : (p q : Option Port) → option_map port_key p ≡ option_map port_key q → option_map_or (λ (x : Port). x.config.no_packet_in) p false ≡ option_map_or (λ (x : Port). x.config.no_packet_in) q false
silent_alike None None e = refl
silent_alike None (Some y) e = absurd cc
silent_alike (Some x) None e = absurd cc
silent_alike (Some x) (Some y) e =
    let h : Some (port_key x) ≡ Some (port_key y) = e in
    let k : port_key x ≡ port_key y = cc in
    ap (λ (key : PortKey). key.silent) k

tells_alike : (heard : AsyncConfig) (ps qs : List Port) → SamePorts ps qs → (p : ToController) → tells heard ps p ≡ tells heard qs p
unfolding tells
tells_alike heard ps qs same p =
    ap (λ (b : Bool). lets_pass heard.packet_in (2 ^ packet_in_number p.reason) && not (is_no_match p.reason && b)) (silent_alike (port_at ps p.ingress) (port_at qs p.ingress) (same_port_at p.ingress ps qs same))

filter_if : {X : Type 0} (a b : Bool) (x : X) (xs ys : List X) → a ≡ b → xs ≡ ys → cond a (x ∷ xs) xs ≡ cond b (x ∷ ys) ys
filter_if true true x xs ys e h = ap (λ zs. x ∷ zs) h
filter_if true false x xs ys e h = absurd cc
filter_if false true x xs ys e h = absurd cc
filter_if false false x xs ys e h = h

filter_alike : {X : Type 0} (f g : X → Bool) → ((x : X) → f x ≡ g x) → (xs : List X) → filter f xs ≡ filter g xs
filter_alike f g same [] = refl
filter_alike f g same (x ∷ xs) = filter_if (f x) (g x) x (filter f xs) (filter g xs) (same x) (filter_alike f g same xs)

pub told_alike : (heard : AsyncConfig) (ps qs : List Port) (a b : List Item) → SamePorts ps qs → LeavesAlike All a b → to_controller (given_items heard ps a) ≡ to_controller (given_items heard qs b)
told_alike heard ps qs a b ports alike =
    told_given heard ps a ∙ filter_alike (tells heard ps) (tells heard qs) (tells_alike heard ps qs ports) (to_controller a) ∙ ap (filter (tells heard qs)) (alike.told refl) ∙ sym (told_given heard qs b)
