-- The port by which a packet came stays, and an OUTPUT to it by its number does nothing.
use Rattle.std.proofs.Common.{◌≡◌, ℕ, suc, zero, ◌==◌, eqb, Bool, true, false, List, [], ◌∷◌, ◌++◌, Option, Some, None, refl, sym, ◌∙◌, ap, subst, arith, if◌then◌else◌}
use Rattle.std.specs.Prelude.{map, ◌&&◌, ◌-◌, ◌^◌, ◌%◌, ◌<◌, bit_and, is_none, length, slice_get, slice_index_or}
use Rattle.std.{specs.Option.option_map, specs.List.AllByRecursion, specs.List.Contains, proofs.lemmas.Bool.eq-eqb, proofs.lemmas.Bool.eqb-true, proofs.Math.Nat.mod-eq_of_lt}
use Rattle.std.proofs.{lemmas.Nat.and_mask, lemmas.Bool.Decides.nat_tests, lemmas.List.append-nil}
use Rattle.of_wire.specs.declared.limits.TheConstants.{OFPP_ALL, OFPP_CONTROLLER, OFPP_FLOOD, OFPP_IN_PORT, OFPP_TABLE}
use Rattle.of_layers.specs.{Fields.row_of, Reading.layers_of, declared.field.Field.Field, declared.field.Field.TheVariants.InPort}
use Rattle.of_rewrite.specs.{declared.frame.Ttl.Ttl, declared.frame.Ttl.TheVariants.Expired}
use Rattle.of_rewrite.specs.TimeToLive.{ttl_of, dec_ttl_result}
use Rattle.of_actions.specs.declared.action.Action.TheVariants.{Output, Group, DecNwTtl}
use Rattle.of_actions.specs.declared.instruction.Instruction.TheVariants.{Apply}
use Rattle.of_actions.specs.{declared.action.Action.Action, declared.instruction.Instruction.Instruction, PortNumbers.is_number}
use Rattle.of_oxm.specs.{declared.match_field.MatchField.MatchField, Relations.agrees, Relations.bits_looked_at, Relations.matches_map}
use Rattle.of_check.{specs.Actions.is_in_port, specs.Actions.required_port, proofs.WinnerLemmas.winner_agrees}
use Rattle.of_table.specs.{declared.flow.Flow.Flow, Table.FlowEntry, Table.flow_at, Tables.table_at}
use Rattle.of_datapath.specs.Datapath.{Forwarding, flow_in, winner_in}
use Rattle.of_machine.specs.Rows.{Work, Lookup, Do, RunSet, Act, Task, task, Row, row, goes_on, key_of, lookup_row, entry_row, do_row, act_row, group_action_row, dec_ttl_row, copies, Emitted, emits, output_to_table_row}
use Rattle.of_machine.specs.Runs.{Machine, step, first_step, taken, after, starting}
use Rattle.of_machine.specs.{declared.data.Packet.Packet, declared.data.Item.Item, declared.data.Count.Count, declared.data.Step.Step, declared.data.Step.TheVariants.Act as DidAct}
use Rattle.of_machine.specs.TheWorld.{TheWorld}

-- ---- the port stays

abbrev Came : ℕ → List Task → Type 0
Came i tasks = AllByRecursion (λ t. t.packet.ingress ≡ i) tasks

came_both : (i : ℕ) (xs ys : List Task) → Came i xs → Came i ys → Came i (xs ++ ys)
came_both i [] ys h k = k
came_both i (x ∷ xs) ys h k = (h.0, came_both i xs ys h.1 k)

entry_came : (i : ℕ) (p : Packet) → p.ingress ≡ i → (t n : ℕ) (o : Option Flow) → Came i (entry_row p t n o).left
entry_came i p e t n None = (e, tt)
entry_came i p e t n (Some f) = (e, tt)

lookup_came : (i : ℕ) (w : TheWorld) (p : Packet) → p.ingress ≡ i → (t : ℕ) (o : Option ℕ) → Came i (lookup_row w p t o).left
lookup_came i w p e t None = (e, tt)
lookup_came i w p e t (Some n) = entry_came i p e t n (w.flow t n)

do_came : (i : ℕ) (p : Packet) → p.ingress ≡ i → (rest : List Work) (j : Instruction) → Came i (do_row p rest j).left
do_came i p e rest (Apply l) = (e, tt)
do_came i p e rest other = (e, tt)

output_came : (i : ℕ) (p : Packet) → p.ingress ≡ i → (rest : List Work) (a : Action) (line : Step) (x : Emitted) (b : Bool) → Came i (if b then output_to_table_row p rest a else emits line x (task p rest ∷ [])).left
output_came i p e rest a line x true = (e, (e, tt))
output_came i p e rest a line x false = (e, tt)

copies_came : (i : ℕ) (w : TheWorld) (g : ℕ) (p : Packet) → p.ingress ≡ i → (places : List ℕ) → Came i (copies w g p places)
copies_came i w g p e [] = tt
copies_came i w g p e (x ∷ xs) = (e, copies_came i w g p e xs)

group_came : (i : ℕ) (w : TheWorld) (p : Packet) → p.ingress ≡ i → (rest : List Work) (g : ℕ) (o : Option (List ℕ)) → Came i (group_action_row w p rest g o).left
group_came i w p e rest g None = (e, tt)
group_came i w p e rest g (Some places) = came_both i (copies w g p places) (task p rest ∷ []) (copies_came i w g p e places) (e, tt)

ttl_came : (i : ℕ) (p : Packet) → p.ingress ≡ i → (rest : List Work) (t : Ttl) → Came i (dec_ttl_row p rest t).left
ttl_came i p e rest Expired = (e, tt)
ttl_came i p e rest other = (e, tt)

act_came : (i : ℕ) (w : TheWorld) (p : Packet) → p.ingress ≡ i → (rest : List Work) (a : Action) → Came i (act_row w p rest a).left
act_came i w p e rest (Output port max_len) = output_came i p e rest (Output port max_len) _ _ (port == OFPP_TABLE)
act_came i w p e rest (Group g) = group_came i w p e rest g (w.chosen g)
act_came i w p e rest DecNwTtl = ttl_came i p e rest (dec_ttl_result (ttl_of (layers_of p.frame)))
act_came i w p e rest other = (e, tt)

row_came : (i : ℕ) (w : TheWorld) (p : Packet) → p.ingress ≡ i → (work : List Work) → Came i (row w p work).left
row_came i w p e [] = tt
row_came i w p e (Lookup t ∷ rest) = lookup_came i w p e t (w.winner t (key_of p))
row_came i w p e (Do j ∷ rest) = do_came i p e rest j
row_came i w p e (RunSet ∷ rest) = (e, tt)
row_came i w p e (Act a ∷ rest) = act_came i w p e rest a

first_came : (i : ℕ) (w : TheWorld) (m : Machine) → Came i m.tasks → (ts : List Task) → Came i ts → Came i (first_step w m ts).tasks
first_came i w m h [] k = h
first_came i w m h (t ∷ others) k = came_both i (row w t.packet t.work).left others (row_came i w t.packet k.0 t.work) k.1

step_came : (i : ℕ) (w : TheWorld) (m : Machine) → Came i m.tasks → Came i (step w m).tasks
unfolding step
step_came i w m h = first_came i w m h m.tasks h

after_came : (i : ℕ) (w : TheWorld) (k : ℕ) (m : Machine) → Came i m.tasks → Came i (after w k m).tasks
unfolding after
after_came i w zero m h = h
after_came i w (suc k) m h = step_came i w (after w k m) (after_came i w k m h)

-- ---- an OUTPUT to it

record IsPlain (port : ℕ) : Type 0 where
  pub no_table : eqb port OFPP_TABLE ≡ false
  pub no_in_port : eqb port OFPP_IN_PORT ≡ false
  pub no_flood : eqb port OFPP_FLOOD ≡ false
  pub no_all : eqb port OFPP_ALL ≡ false
  pub no_controller : eqb port OFPP_CONTROLLER ≡ false

plain : (port : ℕ) → is_number port ≡ true → IsPlain port
plain port h = record {
  no_table = grind (arith, nat_tests, h);
  no_in_port = grind (arith, nat_tests, h);
  no_flood = grind (arith, nat_tests, h);
  no_all = grind (arith, nat_tests, h);
  no_controller = grind (arith, nat_tests, h);
}

nothing_emitted : (w : TheWorld) (q : Packet) (rest : List Work) (port max_len : ℕ) → is_number port ≡ true → q.ingress ≡ port → act_row w q rest (Output port max_len) ≡ goes_on (DidAct (Output port max_len)) q rest
nothing_emitted w q rest port max_len h e =
    let p = plain port h in
    let same : eqb port q.ingress ≡ true = eq-eqb port q.ingress (sym e) in
    rw (p.no_table, p.no_in_port, p.no_flood, p.no_all, p.no_controller, same) refl

abbrev pub passed_by : Machine → List Task → Step → Machine
passed_by m tasks line = record { tasks = tasks; items = m.items; counts = m.counts; lines = m.lines ++ line ∷ [] }

passed : (w : TheWorld) (m : Machine) (q : Packet) (rest : List Work) (port max_len : ℕ) (others : List Task) → is_number port ≡ true → q.ingress ≡ port
    → first_step w m (task q (Act (Output port max_len) ∷ rest) ∷ others) ≡ passed_by m (task q rest ∷ others) (DidAct (Output port max_len))
passed w m q rest port max_len others h e =
    let line = DidAct (Output port max_len) in
    ap (λ (r : Row). taken m r others) (nothing_emitted w q rest port max_len h e)
    ∙ (ap (λ (x : List Item). record { tasks = task q rest ∷ others; items = x; counts = m.counts ++ []; lines = m.lines ++ line ∷ [] }) (append-nil m.items)
    ∙ ap (λ (x : List Count). record { tasks = task q rest ∷ others; items = m.items; counts = x; lines = m.lines ++ line ∷ [] }) (append-nil m.counts))

pub drops : (w : TheWorld) (p : Packet) (work : List Work) (k max_len : ℕ) (q : Packet) (rest : List Work) (others : List Task) → is_number p.ingress ≡ true
    → (after w k (starting p work)).tasks ≡ task q (Act (Output p.ingress max_len) ∷ rest) ∷ others
    → step w (after w k (starting p work)) ≡ passed_by (after w k (starting p work)) (task q rest ∷ others) (DidAct (Output p.ingress max_len))
unfolding step
drops w p work k max_len q rest others h is =
    let m = after w k (starting p work) in
    let came : Came p.ingress m.tasks = after_came p.ingress w k (starting p work) (refl, tt) in
    let mine : Came p.ingress (task q (Act (Output p.ingress max_len) ∷ rest) ∷ others) = subst (λ (ts : List Task). Came p.ingress ts) is came in
    ap (λ (ts : List Task). first_step w m ts) is ∙ passed w m q rest p.ingress max_len others h mine.0

-- ---- a match that requires the port

ingress_field : (f : Field) → is_in_port f ≡ true → f ≡ InPort
ingress_field InPort h = refl
ingress_field other h = absurd cc

is_unmasked : (o : Option ℕ) → is_none o ≡ true → o ≡ None
is_unmasked None h = refl
is_unmasked (Some m) h = absurd cc

and_parts : (a b : Bool) → (a && b) ≡ true → (a ≡ true) × (b ≡ true)
and_parts true b h = (refl, h)
and_parts false b h = absurd cc

record Requires (e : MatchField) (port : ℕ) : Type 0 where
  pub field : e.field ≡ InPort
  pub whole : e.mask ≡ None
  pub value : e.value ≡ port

required : (e : MatchField) (port : ℕ) (b : Bool) → (is_in_port e.field && (is_none e.mask && is_number e.value)) ≡ b → (if b then Some e.value else None) ≡ Some port → Requires e port
required e port true t h =
    let one = and_parts (is_in_port e.field) (is_none e.mask && is_number e.value) t in
    let two = and_parts (is_none e.mask) (is_number e.value) one.1 in
    record { field = ingress_field e.field one.0; whole = is_unmasked e.mask two.0; value = cc }
required e port false t h = absurd cc

agrees_with : (e : MatchField) (port v : ℕ) → Requires e port → v < 2 ^ 32 → agrees e (Some v) ≡ true → v ≡ port
unfolding row_of
agrees_with e port v r small h =
    let bits : bits_looked_at e ≡ 2 ^ 32 - 1 = rw (r.whole, r.field) refl in
    let seen : bit_and v (2 ^ 32 - 1) ≡ e.value = rw bits at (eqb-true (bit_and v (bits_looked_at e)) e.value h) in
    let all : v % 2 ^ 32 ≡ v = mod-eq_of_lt small in
    sym all ∙ (sym (and_mask v 32) ∙ (seen ∙ r.value))

each_agrees : (m : List MatchField) (map : Field → Option ℕ) (e : MatchField) (k : ℕ) → k < length m → slice_index_or m k e ≡ e → matches_map m map ≡ true → agrees e (map e.field) ≡ true
each_agrees [] map e k lt is h = absurd (omega (arith, lt))
each_agrees (x ∷ xs) map e zero lt is h = subst (λ (y : MatchField). agrees y (map y.field) ≡ true) is (and_parts (agrees x (map x.field)) (matches_map xs map) h).0
each_agrees (x ∷ xs) map e (suc k) lt is h = each_agrees xs map e k (omega (arith, lt)) is (and_parts (agrees x (map x.field)) (matches_map xs map) h).1

came_by : (flows : List FlowEntry) (n : ℕ) (q : Packet) (flow : Flow) (e : MatchField) (port : ℕ) (entry : FlowEntry) → slice_get flows n ≡ Some entry → matches_map entry.flow.fields (key_of q) ≡ true
    → q.ingress < 2 ^ 32 → flow_at n flows ≡ Some flow → Contains flow.fields e → required_port e ≡ Some port → q.ingress ≡ port
came_by flows n q flow e port entry there m small at c r =
    let own : flow_at n flows ≡ Some entry.flow = ap (λ (o : Option FlowEntry). option_map (λ (x : FlowEntry). x.flow) o) there in
    let both : Some entry.flow ≡ Some flow = sym own ∙ at in
    let same : entry.flow ≡ flow = cc in
    let is = required e port _ refl r in
    let agreed : agrees e (key_of q e.field) ≡ true = each_agrees flow.fields (key_of q) e c.0 c.1 c.2 (subst (λ (x : Flow). matches_map x.fields (key_of q) ≡ true) same m) in
    agrees_with e port q.ingress is small (subst (λ (f : Field). agrees e (key_of q f) ≡ true) is.field agreed)

pub comes_by : (f : Forwarding) (t n : ℕ) (q : Packet) (flow : Flow) (e : MatchField) (port : ℕ) → q.ingress < 2 ^ 32 → winner_in f t (key_of q) ≡ Some n → flow_in f t n ≡ Some flow → Contains flow.fields e → required_port e ≡ Some port → q.ingress ≡ port
comes_by f t n q flow e port small wins at c r =
    let flows = (table_at t f.tables).flows in
    let won = winner_agrees flows (key_of q) n _ refl wins in
    came_by flows n q flow e port won.0 won.1 won.2 small at c r
