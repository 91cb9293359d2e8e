-- What frames with the same emissions do is the same if they come in by one port.
use Rattle.std.proofs.Common.{◌≡◌, ℕ, eqb, Bool, true, false, cond, List, [], ◌∷◌, ◌++◌, map, Option, Some, None, refl, sym, ap, ◌∙◌}
use Rattle.std.{specs.Prelude.◌||◌, specs.Prelude.◌&&◌, specs.List.list_all, specs.List.list_any, proofs.lemmas.List.length-map, proofs.lemmas.List.map-append}
use Rattle.of_wire.specs.declared.limits.TheConstants.{OFPP_ALL, OFPP_CONTROLLER, OFPP_FLOOD, OFPP_IN_PORT}
use Rattle.of_ports.specs.{declared.port.Port.Port, Ports.may_send, Ports.port_at, Ports.other_ports}
use Rattle.of_machine.specs.Rows.{Emitted, emission, empty_emitted, flooded, output_reason, packet_in_emitted, to_port}
use Rattle.of_machine.specs.{declared.data.Packet.Packet, declared.data.Item.Item, declared.data.Item.TheVariants.PacketIn, declared.data.Item.TheVariants.Sent, declared.data.Step.Step}
use Rattle.of_symbolic_run.specs.{declared.state.Emission.Emission, declared.state.Emission.TheVariants.InvalidTtl, declared.state.Emission.TheVariants.Output}
use Rattle.of_symbolic_run.specs.States.{items_for, items_of_emission, packet_for}
use Rattle.of_paths.specs.{declared.destination.Destination.Destination, Places.leaves_to}
use Rattle.of_paths.specs.declared.destination.Destination.TheVariants as places
use Rattle.of_require.specs.Requirements.{is_done, goes_among, is_dropped, is_leaving, is_nothing}
use Rattle.of_require.specs.declared.requirement.Demand.{Demand}
use Rattle.of_require.specs.declared.requirement.Demand.TheVariants.{Has, LeavesBy, LeavesOnlyBy, PassesTable}
use Rattle.of_require.specs.{declared.requirement.Quantifier.Quantifier, Deciding.is_plain}

-- an item without its frame
abbrev pub bare : Item → Item
bare (Sent port frame) = Sent port []
bare (PacketIn p) = PacketIn (record p { frame = [] })

-- ---- what is emitted

module _ (p : Packet) where
  abbrev blank : Packet
  blank = record p { frame = [] }

  bare_port : (o : Option Port) → map bare (to_port o p).items ≡ (to_port o blank).items
  bare_port None = refl
  bare_port (Some q) = by_test (may_send q) refl
    where
      by_test : (t : Bool) → may_send q ≡ t → map bare (to_port (Some q) p).items ≡ (to_port (Some q) blank).items
      by_test true e = rw e refl
      by_test false e = rw e refl

  bare_flood : (qs : List Port) → map bare (map (λ (q : Port). Sent q.number p.frame) qs) ≡ map (λ (q : Port). Sent q.number []) qs
  bare_flood [] = refl
  bare_flood (q ∷ qs) = ap (λ (l : List Item). Sent q.number [] ∷ l) (bare_flood qs)

  module _ (ports : List Port) (n max_len : ℕ) where
    -- what an OUTPUT emits, by the tests on its port
    abbrev emitted_by : Packet → Bool → Bool → Bool → Bool → Emitted
    emitted_by r a b c d = cond a (to_port (port_at ports r.ingress) r) (cond b (flooded ports r) (cond c (packet_in_emitted (output_reason r) (Some max_len) r) (cond d empty_emitted (to_port (port_at ports n) r))))

    bare_by : (a b c d : Bool) → map bare (emitted_by p a b c d).items ≡ (emitted_by blank a b c d).items
    bare_by true b c d = bare_port (port_at ports p.ingress)
    bare_by false true c d = bare_flood (other_ports ports p.ingress)
    bare_by false false true d = refl
    bare_by false false false true = refl
    bare_by false false false false = bare_port (port_at ports n)

    bare_emission : map bare (emission ports p n max_len).items ≡ (emission ports blank n max_len).items
    bare_emission = bare_by (eqb n OFPP_IN_PORT) (eqb n OFPP_FLOOD || eqb n OFPP_ALL) (eqb n OFPP_CONTROLLER) (eqb n p.ingress)

module _ (ports : List Port) (f g : List ℕ) (port : ℕ) where
  pub bare_one : (e : Emission) → map bare (items_of_emission ports e f port) ≡ map bare (items_of_emission ports e g port)
  bare_one (Output packet n max_len) = bare_emission (packet_for packet f port) ports n max_len ∙ sym (bare_emission (packet_for packet g port) ports n max_len)
  bare_one (InvalidTtl packet) = refl

  -- two frames that come in by one port emit the same, except for the frames
  pub bare_all : (es : List Emission) → map bare (items_for ports es f port) ≡ map bare (items_for ports es g port)
  bare_all [] = refl
  bare_all (e ∷ es) =
      map-append bare (items_of_emission ports e f port) (items_for ports es f port)
      ∙ ap (λ (l : List Item). l ++ map bare (items_for ports es f port)) (bare_one e)
      ∙ ap (λ (l : List Item). map bare (items_of_emission ports e g port) ++ l) (bare_all es)
      ∙ sym (map-append bare (items_of_emission ports e g port) (items_for ports es g port))

-- ---- what a frame does

leaves_bare : (to : Destination) (item : Item) → leaves_to to (bare item) ≡ leaves_to to item
leaves_bare (places.Port n) (Sent port frame) = refl
leaves_bare (places.Port n) (PacketIn p) = refl
leaves_bare places.Controller (Sent port frame) = refl
leaves_bare places.Controller (PacketIn p) = refl
leaves_bare places.Nothing item = refl

pub goes_bare : (tos : List Destination) (item : Item) → goes_among tos (bare item) ≡ goes_among tos item
goes_bare [] item = refl
goes_bare (to ∷ tos) item = rw (leaves_bare to item, goes_bare tos item) refl

module _ (tos : List Destination) where
  any_bare : (items : List Item) → list_any (goes_among tos) (map bare items) ≡ list_any (goes_among tos) items
  any_bare [] = refl
  any_bare (item ∷ items) = rw (goes_bare tos item, any_bare items) refl

  all_bare : (items : List Item) → list_all (goes_among tos) (map bare items) ≡ list_all (goes_among tos) items
  all_bare [] = refl
  all_bare (item ∷ items) = rw (goes_bare tos item, all_bare items) refl

  dropped_bare : (items : List Item) → is_dropped tos (map bare items) ≡ is_dropped tos items
  dropped_bare items = ap (λ (n : ℕ). (eqb n 0) && list_any is_nothing tos) (length-map items bare)

does_bare : (q : Quantifier) (d : Demand) (port : ℕ) (lines : List Step) (items : List Item) → is_plain d ≡ true → is_done q d port lines (map bare items) ≡ is_done q d port lines items
does_bare q (LeavesBy tos) port lines items plain = rw (any_bare tos.items items, dropped_bare tos.items items) refl
does_bare q (LeavesOnlyBy tos) port lines items plain = all_bare tos.items items
does_bare q (PassesTable table) port lines items plain = refl
does_bare q (Has tos fields) port lines items plain = absurd cc

pub same_does : (q : Quantifier) (d : Demand) (port : ℕ) (lines : List Step) (xs ys : List Item) → is_plain d ≡ true → map bare xs ≡ map bare ys → is_done q d port lines xs ≡ is_done q d port lines ys
same_does q d port lines xs ys plain same = sym (does_bare q d port lines xs plain) ∙ ap (is_done q d port lines) same ∙ does_bare q d port lines ys plain

leaving_bare : (d : Demand) (items : List Item) → is_leaving d (map bare items) ≡ is_leaving d items
leaving_bare (Has tos fields) items = any_bare tos.items items
leaving_bare other items = refl

pub same_leaving : (d : Demand) (xs ys : List Item) → map bare xs ≡ map bare ys → is_leaving d xs ≡ is_leaving d ys
same_leaving d xs ys same = sym (leaving_bare d xs) ∙ ap (is_leaving d) same ∙ leaving_bare d ys
