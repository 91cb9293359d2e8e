-- Frames whose packets are alike do the same, if fields are asked of what leaves.
use Rattle.std.proofs.Common.{◌≡◌, ℕ, eqb, Bool, true, false, cond, List, [], ◌∷◌, ◌++◌, map, Option, Some, None, refl, sym, ap, ◌∙◌}
use Rattle.std.{specs.Prelude.◌||◌, specs.Prelude.◌&&◌, specs.Prelude.not, specs.List.AllByRecursion, specs.List.list_all, specs.List.list_any, proofs.lemmas.List.map-append}
use Rattle.of_wire.specs.declared.limits.TheConstants.{OFPP_ALL, OFPP_CONTROLLER, OFPP_FLOOD, OFPP_IN_PORT}
use Rattle.of_oxm.specs.declared.match_field.MatchField.{MatchField}
use Rattle.of_ports.specs.{declared.port.Port.Port, Ports.may_send, Ports.port_at, Ports.other_ports}
use Rattle.of_machine.specs.Rows.{Emitted, emission, empty_emitted, flooded, output_reason, packet_in_emitted, to_port}
use Rattle.of_machine.specs.{declared.data.Packet.Packet, declared.data.Item.Item, declared.data.Item.TheVariants.Sent}
use Rattle.of_symbolic.specs.Actions.{frame_of_actions}
use Rattle.of_symbolic_run.specs.{declared.state.Emission.Emission, declared.state.Emission.TheVariants.InvalidTtl, declared.state.Emission.TheVariants.Output}
use Rattle.of_symbolic_run.specs.States.{items_for, items_of_emission, packet_for}
use Rattle.of_paths.specs.declared.destination.Destination.{Destination}
use Rattle.of_require.specs.declared.requirement.Quantifier.{Quantifier}
use Rattle.of_require.specs.declared.requirement.Quantifier.TheVariants.{Each, No}
use Rattle.of_require.specs.{Packets.packet_actions, Requirements.frame_has, Requirements.goes_among, Requirements.has_fields, Requirements.have}
use Rattle.of_require.proofs.BareLemmas.{bare, bare_one, goes_bare}
use Rattle.of_json.specs.ChangesInWords.{item_frame}

-- ---- what is emitted has the frame of the packet

abbrev Carries : List ℕ → List Item → Type 0
Carries frame items = AllByRecursion (λ (item : Item). item_frame item ≡ frame) items

module _ (p : Packet) where
  carried_port : (o : Option Port) → Carries p.frame (to_port o p).items
  carried_port None = tt
  carried_port (Some q) = by_test (may_send q) refl
    where
      by_test : (t : Bool) → may_send q ≡ t → Carries p.frame (to_port (Some q) p).items
      by_test true e = rw e (refl, tt)
      by_test false e = rw e tt

  carried_flood : (qs : List Port) → Carries p.frame (map (λ (q : Port). Sent q.number p.frame) qs)
  carried_flood [] = tt
  carried_flood (q ∷ qs) = (refl, carried_flood qs)

  module _ (ports : List Port) (n max_len : ℕ) where
    abbrev emitted_by : Bool → Bool → Bool → Bool → Emitted
    emitted_by a b c d = cond a (to_port (port_at ports p.ingress) p) (cond b (flooded ports p) (cond c (packet_in_emitted (output_reason p) (Some max_len) p) (cond d empty_emitted (to_port (port_at ports n) p))))

    carried_by : (a b c d : Bool) → Carries p.frame (emitted_by a b c d).items
    carried_by true b c d = carried_port (port_at ports p.ingress)
    carried_by false true c d = carried_flood (other_ports ports p.ingress)
    carried_by false false true d = (refl, tt)
    carried_by false false false true = tt
    carried_by false false false false = carried_port (port_at ports n)

    carried_emission : Carries p.frame (emission ports p n max_len).items
    carried_emission = carried_by (eqb n OFPP_IN_PORT) (eqb n OFPP_FLOOD || eqb n OFPP_ALL) (eqb n OFPP_CONTROLLER) (eqb n p.ingress)

carried : (ports : List Port) (e : Emission) (f : List ℕ) (port : ℕ) → Carries (frame_of_actions (packet_actions e) f) (items_of_emission ports e f port)
carried ports (Output packet n max_len) f port = carried_emission (packet_for packet f port) ports n max_len
carried ports (InvalidTtl packet) f port = (refl, tt)

-- ---- items with whether their frames have the fields

module _ (fields : List MatchField) (port : ℕ) where
  abbrev mark : Item → Item × Bool
  mark item = (bare item, has_fields fields port item)

  -- all of one packet have them, or none has
  marks_of : (frame : List ℕ) (items : List Item) → Carries frame items → map mark items ≡ map (λ (b : Item). (b, frame_has fields port frame)) (map bare items)
  marks_of frame [] h = refl
  marks_of frame (item ∷ items) (is, rest) = rw (ap (λ (l : List ℕ). frame_has fields port l) is, marks_of frame items rest) refl

  abbrev has_after : Emission → List ℕ → Bool
  has_after e f = frame_has fields port (frame_of_actions (packet_actions e) f)

  module _ (ports : List Port) (f g : List ℕ) where
    one_alike : (e : Emission) → has_after e f ≡ has_after e g → map mark (items_of_emission ports e f port) ≡ map mark (items_of_emission ports e g port)
    one_alike e same =
        marks_of _ (items_of_emission ports e f port) (carried ports e f port)
        ∙ rw (same, bare_one ports f g port e) refl
        ∙ sym (marks_of _ (items_of_emission ports e g port) (carried ports e g port))

    pub marked_alike : (es : List Emission) → AllByRecursion (λ (e : Emission). has_after e f ≡ has_after e g) es → map mark (items_for ports es f port) ≡ map mark (items_for ports es g port)
    marked_alike [] h = refl
    marked_alike (e ∷ es) (same, rest) =
        map-append mark (items_of_emission ports e f port) (items_for ports es f port)
        ∙ ap (λ (l : List (Item × Bool)). l ++ map mark (items_for ports es f port)) (one_alike e same)
        ∙ ap (λ (l : List (Item × Bool)). map mark (items_of_emission ports e g port) ++ l) (marked_alike es rest)
        ∙ sym (map-append mark (items_of_emission ports e g port) (items_for ports es g port))

  -- ---- what is demanded, by these marks

  abbrev marks_have : Quantifier → List Destination → List (Item × Bool) → Bool
  marks_have Each tos marks = list_all (λ (m : Item × Bool). not (goes_among tos m.0) || m.1) marks
  marks_have other tos marks = list_any (λ (m : Item × Bool). goes_among tos m.0 && m.1) marks

  module _ (tos : List Destination) where
    each_marked : (items : List Item) → marks_have Each tos (map mark items) ≡ have Each tos fields port items
    each_marked [] = refl
    each_marked (item ∷ items) = rw (goes_bare tos item, each_marked items) refl

    some_marked : (items : List Item) → marks_have No tos (map mark items) ≡ have No tos fields port items
    some_marked [] = refl
    some_marked (item ∷ items) = rw (goes_bare tos item, some_marked items) refl

    have_marked : (q : Quantifier) (items : List Item) → marks_have q tos (map mark items) ≡ have q tos fields port items
    have_marked Each items = each_marked items
    have_marked other items = some_marked items

    pub same_have : (q : Quantifier) (xs ys : List Item) → map mark xs ≡ map mark ys → have q tos fields port xs ≡ have q tos fields port ys
    same_have q xs ys same = sym (have_marked q xs) ∙ ap (marks_have q tos) same ∙ have_marked q ys
