-- Where the items of a run go follows from its steps, and from the port by which the packet came in.
use Rattle.std.proofs.Common.{◌≡◌, ℕ, zero, suc, eqb, Bool, true, false, cond, List, [], ◌∷◌, ◌++◌, length, Option, Some, None, refl, sym, ap, subst, ◌∙◌}
use Rattle.std.specs.{Prelude.◌||◌, Prelude.map, List.AllByRecursion, List.flat_map, List.list_any}
use Rattle.std.proofs.{lemmas.List.append-nil, lemmas.List.length-map, lemmas.List.map-append, lemmas.List.Concat.flat_map-append}
use Rattle.of_wire.specs.declared.limits.TheConstants.{OFPP_ALL, OFPP_CONTROLLER, OFPP_FLOOD, OFPP_IN_PORT, OFPP_TABLE}
use Rattle.of_layers.specs.Reading.{layers_of}
use Rattle.of_rewrite.specs.{declared.frame.Ttl.Ttl, declared.frame.Ttl.TheVariants.Expired}
use Rattle.of_rewrite.specs.TimeToLive.{dec_ttl_result, ttl_of}
use Rattle.of_actions.specs.declared.action.Action.TheVariants.{DecNwTtl, Group, Output}
use Rattle.of_actions.specs.declared.instruction.Instruction.TheVariants.{Apply}
use Rattle.of_actions.specs.{declared.action.Action.Action, declared.instruction.Instruction.Instruction}
use Rattle.of_table.specs.declared.flow.Flow.{Flow}
use Rattle.of_ports.specs.{declared.port.Port.Port, Ports.may_send, Ports.other_ports, Ports.port_at}
use Rattle.of_machine.specs.Rows.{Act, Do, Emitted, Lookup, Row, RunSet, Task, Work, copies, dec_ttl_row, emission, empty_emitted, entering, entry_row, flooded, group_action_row, key_of, lookup_row, output_reason, output_row, packet_in_emitted, row, task, to_port}
use Rattle.of_machine.specs.Runs.{Machine, first_step, or_end, run_of, starting, step, taken, until_none}
use Rattle.of_machine.specs.{declared.data.Packet.Packet, declared.data.Item.Item, declared.data.Item.TheVariants.PacketIn, declared.data.Item.TheVariants.Sent, declared.data.Step.Step}
use Rattle.of_machine.specs.{TheWorld.TheWorld, Weights.task_weight}
use Rattle.of_machine.specs.declared.data.Step.TheVariants as steps
use Rattle.of_symbolic_run.specs.Received.{items_at}
use Rattle.of_paths.specs.{declared.destination.Destination.Destination, Places.lead_to, Places.leaves_to, Places.place_of_item, Ways.line_but_entry, Ways.lines_at, Ways.way_of}
use Rattle.of_paths.specs.declared.destination.Destination.TheVariants as places

-- ---- the places to which a step sends a packet that came in by a port

-- those of an OUTPUT, whatever else the packet is; one to TABLE only looks it up again
abbrev places_of_output : List Port → ℕ → ℕ → ℕ → List Destination
places_of_output ports ingress port max_len = cond (eqb port OFPP_TABLE) [] (map place_of_item (emission ports (entering [] ingress) port max_len).items)

by_test_of_table : (ports : List Port) (ingress port max_len : ℕ) (t : Bool) → eqb port OFPP_TABLE ≡ t → places_of_output ports ingress port max_len ≡ cond t [] (map place_of_item (emission ports (entering [] ingress) port max_len).items)
by_test_of_table ports ingress port max_len t e = ap (λ (b : Bool). cond b [] (map place_of_item (emission ports (entering [] ingress) port max_len).items)) e

abbrev places_of_step : List Port → ℕ → Step → List Destination
places_of_step ports ingress (steps.Act (Output port max_len)) = places_of_output ports ingress port max_len
places_of_step ports ingress steps.TtlExpired = places.Controller ∷ []
places_of_step ports ingress other = []

-- each packet came in by the port
abbrev Came : ℕ → List Task → Type 0
Came ingress tasks = AllByRecursion (λ t. t.packet.ingress ≡ ingress) tasks

came_both : (i : ℕ) (xs ys : List Task) → Came i xs → Came i ys → Came i (xs ++ ys)
came_both i [] ys h k = k
came_both i (x ∷ xs) ys h k = (h.0, came_both i xs ys h.1 k)

-- ---- of one row

-- its items go to the places of its line, and the packets that it leaves came in by the port
abbrev IsPlaced : TheWorld → ℕ → Row → Type 0
IsPlaced w ingress r = (map place_of_item r.items ≡ places_of_step w.ports ingress r.line) × Came ingress r.left

module _ (p : Packet) where
  abbrev blank : Packet
  blank = entering [] p.ingress

  port_places : (o : Option Port) → map place_of_item (to_port o p).items ≡ map place_of_item (to_port o blank).items
  port_places None = refl
  port_places (Some q) = by_test (may_send q) refl
    where
      by_test : (t : Bool) → may_send q ≡ t → map place_of_item (to_port (Some q) p).items ≡ map place_of_item (to_port (Some q) blank).items
      by_test true e = rw e refl
      by_test false e = rw e refl

  flood_places : (qs : List Port) → map place_of_item (map (λ (q : Port). Sent q.number p.frame) qs) ≡ map place_of_item (map (λ (q : Port). Sent q.number []) qs)
  flood_places [] = refl
  flood_places (q ∷ qs) = ap (λ (l : List Destination). places.Port q.number ∷ l) (flood_places qs)

  module _ (ports : List Port) (n max_len : ℕ) where
    -- what an OUTPUT emits, by the tests on its port
    abbrev emitted_by : Packet → Bool → Bool → Bool → Bool → Emitted
    emitted_by r a b c d = cond a (to_port (port_at ports r.ingress) r) (cond b (flooded ports r) (cond c (packet_in_emitted (output_reason r) (Some max_len) r) (cond d empty_emitted (to_port (port_at ports n) r))))

    places_by : (a b c d : Bool) → map place_of_item (emitted_by p a b c d).items ≡ map place_of_item (emitted_by blank a b c d).items
    places_by true b c d = port_places (port_at ports p.ingress)
    places_by false true c d = flood_places (other_ports ports p.ingress)
    places_by false false true d = refl
    places_by false false false true = refl
    places_by false false false false = port_places (port_at ports n)

    emission_places : map place_of_item (emission ports p n max_len).items ≡ map place_of_item (emission ports blank n max_len).items
    emission_places = places_by (eqb n OFPP_IN_PORT) (eqb n OFPP_FLOOD || eqb n OFPP_ALL) (eqb n OFPP_CONTROLLER) (eqb n p.ingress)

copies_came : (w : TheWorld) (group : ℕ) (p : Packet) (places : List ℕ) → Came p.ingress (copies w group p places)
copies_came w group p [] = tt
copies_came w group p (x ∷ xs) = (refl, copies_came w group p xs)

module _ (w : TheWorld) (p : Packet) (rest : List Work) where
  entry_placed : (t n : ℕ) (o : Option Flow) → IsPlaced w p.ingress (entry_row p t n o)
  entry_placed t n None = (refl, (refl, tt))
  entry_placed t n (Some f) = (refl, (refl, tt))

  lookup_placed : (t : ℕ) (o : Option ℕ) → IsPlaced w p.ingress (lookup_row w p t o)
  lookup_placed t None = (refl, (refl, tt))
  lookup_placed t (Some n) = entry_placed t n (w.flow t n)

  group_placed : (group : ℕ) (o : Option (List ℕ)) → IsPlaced w p.ingress (group_action_row w p rest group o)
  group_placed group None = (refl, (refl, tt))
  group_placed group (Some chosen) = (refl, came_both p.ingress (copies w group p chosen) (task p rest ∷ []) (copies_came w group p chosen) (refl, tt))

  ttl_placed : (t : Ttl) → IsPlaced w p.ingress (dec_ttl_row p rest t)
  ttl_placed Expired = (refl, (refl, tt))
  ttl_placed other = (refl, (refl, tt))

  by_table : (port max_len : ℕ) (t : Bool) → eqb port OFPP_TABLE ≡ t → IsPlaced w p.ingress (output_row w p rest (Output port max_len) port max_len)
  by_table port max_len true e = rw e (sym (by_test_of_table w.ports p.ingress port max_len true e), (refl, (refl, tt)))
  by_table port max_len false e = rw e (emission_places p w.ports port max_len ∙ sym (by_test_of_table w.ports p.ingress port max_len false e), (refl, tt))

  act_placed : (a : Action) → IsPlaced w p.ingress (row w p (Act a ∷ rest))
  act_placed (Output port max_len) = by_table port max_len (eqb port OFPP_TABLE) refl
  act_placed (Group group) = group_placed group (w.chosen group)
  act_placed DecNwTtl = ttl_placed (dec_ttl_result (ttl_of (layers_of p.frame)))
  act_placed other = (refl, (refl, tt))

  do_placed : (i : Instruction) → IsPlaced w p.ingress (row w p (Do i ∷ rest))
  do_placed (Apply l) = (refl, (refl, tt))
  do_placed other = (refl, (refl, tt))

row_placed : (w : TheWorld) (p : Packet) (work : List Work) → IsPlaced w p.ingress (row w p work)
row_placed w p [] = (refl, tt)
row_placed w p (Lookup t ∷ rest) = lookup_placed w p rest t (w.winner t (key_of p))
row_placed w p (Do i ∷ rest) = do_placed w p rest i
row_placed w p (RunSet ∷ rest) = (refl, (refl, tt))
row_placed w p (Act a ∷ rest) = act_placed w p rest a

-- ---- of a run

module _ (w : TheWorld) (i : ℕ) where
  abbrev places_of : List Step → List Destination
  places_of lines = flat_map (places_of_step w.ports i) lines

  abbrev IsPlacedMachine : Machine → Type 0
  IsPlacedMachine m = (map place_of_item m.items ≡ places_of m.lines) × Came i m.tasks

  taken_placed : (m : Machine) (r : Row) (others : List Task) → IsPlacedMachine m → IsPlaced w i r → Came i others → IsPlacedMachine (taken m r others)
  taken_placed m r others old own came = (
    map-append place_of_item m.items r.items
        ∙ ap (λ (l : List Destination). l ++ map place_of_item r.items) old.0
        ∙ ap (λ (l : List Destination). places_of m.lines ++ l) (own.0 ∙ sym (append-nil (places_of_step w.ports i r.line)))
        ∙ sym (flat_map-append (places_of_step w.ports i) m.lines (r.line ∷ [])),
    came_both i r.left others own.1 came,
  )

  first_placed : (m : Machine) → IsPlacedMachine m → (ts : List Task) → Came i ts → IsPlacedMachine (first_step w m ts)
  first_placed m old [] came = old
  first_placed m old (t ∷ others) came = taken_placed m (row w t.packet t.work) others old (subst (λ (n : ℕ). IsPlaced w n (row w t.packet t.work)) came.0 (row_placed w t.packet t.work)) came.1

  step_placed : (m : Machine) → IsPlacedMachine m → IsPlacedMachine (step w m)
  unfolding step
  step_placed m old = first_placed m old m.tasks old.1

  until_placed : (n : ℕ) (m : Machine) → IsPlacedMachine m → IsPlacedMachine (until_none w n m)
  unfolding until_none
  until_placed zero m old = old
  until_placed (suc n) m old = by_tasks m.tasks (until_placed n (step w m) (step_placed m old))
    where
      by_tasks : (ts : List Task) → IsPlacedMachine (until_none w n (step w m)) → IsPlacedMachine (or_end w (until_none w n) m ts)
      by_tasks [] further = old
      by_tasks (t ∷ others) further = further

  run_placed : (p : Packet) (work : List Work) → p.ingress ≡ i → map place_of_item (run_of w p work).items ≡ places_of (run_of w p work).lines
  unfolding run_of
  run_placed p work e = (until_placed (task_weight w (task p work)) (starting p work) (refl, (e, tt))).0

-- ---- of one way

one_same : (ports : List Port) (i : ℕ) (s : Step) → places_of_step ports i (line_but_entry s) ≡ places_of_step ports i s
one_same ports i (steps.Entry t k) = refl
one_same ports i other = refl

way_places : (ports : List Port) (i : ℕ) (lines : List Step) → flat_map (places_of_step ports i) (way_of lines) ≡ flat_map (places_of_step ports i) lines
way_places ports i [] = refl
way_places ports i (s ∷ lines) = rw (one_same ports i s, way_places ports i lines) refl

pub same_places : (w : TheWorld) (frame other : List ℕ) (port : ℕ) → way_of (lines_at w frame port) ≡ way_of (lines_at w other port) → map place_of_item (items_at w frame port) ≡ map place_of_item (items_at w other port)
same_places w frame other port same =
    run_placed w port (entering frame port) (Lookup 0 ∷ []) refl
    ∙ sym (way_places w.ports port (lines_at w frame port))
    ∙ ap (flat_map (places_of_step w.ports port)) same
    ∙ way_places w.ports port (lines_at w other port)
    ∙ sym (run_placed w port (entering other port) (Lookup 0 ∷ []) refl)

-- ---- what depends on the places alone

abbrev is_place : Destination → Destination → Bool
is_place (places.Port n) (places.Port m) = eqb m n
is_place (places.Port n) places.Controller = false
is_place (places.Port n) places.Nothing = false
is_place places.Controller (places.Port m) = false
is_place places.Controller places.Controller = true
is_place places.Controller places.Nothing = false
is_place places.Nothing other = false

pub leaves_by_place : (to : Destination) (item : Item) → leaves_to to item ≡ is_place to (place_of_item item)
leaves_by_place (places.Port n) (Sent port frame) = refl
leaves_by_place (places.Port n) (PacketIn p) = refl
leaves_by_place places.Controller (Sent port frame) = refl
leaves_by_place places.Controller (PacketIn p) = refl
leaves_by_place places.Nothing item = refl

any_by_place : (to : Destination) (items : List Item) → list_any (leaves_to to) items ≡ list_any (is_place to) (map place_of_item items)
any_by_place to [] = refl
any_by_place to (item ∷ items) = rw (leaves_by_place to item, any_by_place to items) refl

any_alike : (to : Destination) (xs ys : List Item) → map place_of_item xs ≡ map place_of_item ys → list_any (leaves_to to) xs ≡ list_any (leaves_to to) ys
any_alike to xs ys same = any_by_place to xs ∙ ap (list_any (is_place to)) same ∙ sym (any_by_place to ys)

pub lead_alike : (to : Destination) (xs ys : List Item) → map place_of_item xs ≡ map place_of_item ys → lead_to to xs ≡ lead_to to ys
lead_alike places.Nothing xs ys same = ap (λ (n : ℕ). eqb n 0) (sym (length-map xs place_of_item) ∙ ap length same ∙ length-map ys place_of_item)
lead_alike other xs ys same = any_alike other xs ys same
