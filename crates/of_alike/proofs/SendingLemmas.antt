-- What is sent by a port, and told to the controller, of a frame that came in by another one.
use Rattle.std.proofs.Common.{◌≡◌, ℕ, eqb, cond, Bool, true, false, List, [], ◌∷◌, ◌++◌, map, Option, Some, None, filter, refl, sym, ap, subst, ◌∙◌, if◌then◌else◌, arith}
use Rattle.std.specs.Prelude.{not, nat_lt, ◌&&◌, ◌||◌, IsTrue}
use Rattle.std.proofs.lemmas.Bool.{and_parts, eqb-false, eqb-true, ltb-true, ne_eqb}
use Rattle.std.{specs.List.All, specs.List.AllByRecursion, specs.List.list_all, specs.Option.option_map_or, proofs.lemmas.List.Elements.recursion_from_All}
use Rattle.of_wire.specs.declared.limits.TheConstants.{OFPP_ALL, OFPP_CONTROLLER, OFPP_FLOOD, OFPP_IN_PORT}
use Rattle.of_actions.specs.Rising.{is_ascending}
use Rattle.of_ports.specs.Ports.{may_receive, may_send, number_of_port, other_ports, port_at}
use Rattle.of_ports.specs.declared.port.Port.{Port}
use Rattle.of_machine.specs.Rows.{Emitted, emission, empty_emitted, flooded, output_reason, packet_in_emitted, to_port}
use Rattle.of_machine.specs.{declared.data.Count.TheVariants.TxDropped, declared.data.Item.Item, declared.data.Item.TheVariants.Sent, declared.data.Packet.Packet}
use Rattle.of_symbolic.specs.Actions.{frame_of_actions}
use Rattle.of_symbolic_run.specs.{declared.frame_set.FrameSet.FrameSet, declared.state.Emission.Emission, declared.state.Emission.TheVariants.InvalidTtl, declared.state.Emission.TheVariants.Output}
use Rattle.of_symbolic_run.specs.{FrameSets.InFrames, States.items_for, States.items_of_emission, States.packet_for}
use Rattle.of_alike.specs.Emitting.{EmitAlikeAt, IsAlikeBy, IsAlikeFrom, LeaveAlike, SendAlikeFrom, emits_at, emitting_at, is_flooding, is_for_controller, may_send_at, output_goes_by, rewrites_of, rewrites_sent, sends_by}
use Rattle.of_alike.specs.{declared.alike.Compared.Compared, declared.alike.Compared.TheVariants.All as AllIsCompared}
use Rattle.of_alike.specs.{declared.alike.Where.TheVariants.Controller, declared.alike.Where.TheVariants.Port as ByPort, Alike.LeavesAlike, Alike.sent_by, Alike.to_controller, SamePorts.SamePorts}
use Rattle.of_alike.proofs.{AlikeLemmas.sent_front, AlikeLemmas.told_front, EmissionLemmas.same_emission}

-- ---- what is sent to one port

-- the frame leaves once, or not
abbrev once : Bool → List ℕ → List (List ℕ)
once b frame = cond b (frame ∷ []) []

once_and_true : (b : Bool) (frame : List ℕ) → once b frame ≡ once (b && true) frame
once_and_true true frame = refl
once_and_true false frame = refl

never : (b : Bool) (frame : List ℕ) → [] ≡ once (b && false) frame
never true frame = refl
never false frame = refl

abbrev sends_out : Port → List ℕ → Emitted
sends_out r frame = record { items = Sent r.number frame ∷ []; counts = [] }

abbrev drops : Port → Emitted
drops r = record { items = []; counts = TxDropped r.number ∷ [] }

sent_if : (s : Bool) (r : Port) (q : ℕ) (frame : List ℕ) → eqb r.number q ≡ true → sent_by q (cond s (sends_out r frame) (drops r)).items ≡ once s frame
sent_if true r q frame e = rw e refl
sent_if false r q frame e = refl

silent_if : (s : Bool) (r : Port) (q : ℕ) (frame : List ℕ) → eqb r.number q ≡ false → sent_by q (cond s (sends_out r frame) (drops r)).items ≡ []
silent_if true r q frame e = rw e refl
silent_if false r q frame e = refl

to_port_here : (ps : List Port) (q : ℕ) (p : Packet) → sent_by q (to_port (port_at ps q) p).items ≡ once (may_send_at ps q) p.frame
to_port_here [] q p = refl
to_port_here (r ∷ ps) q p = by_test (eqb r.number q) refl (to_port_here ps q p)
  where
    by_test : (b : Bool) → eqb r.number q ≡ b → sent_by q (to_port (port_at ps q) p).items ≡ once (may_send_at ps q) p.frame
        → sent_by q (to_port (cond b (Some r) (port_at ps q)) p).items ≡ once (option_map_or may_send (cond b (Some r) (port_at ps q)) false) p.frame
    by_test true e h = sent_if (may_send r) r q p.frame e
    by_test false e h = h

to_port_elsewhere : (ps : List Port) (n q : ℕ) (p : Packet) → eqb n q ≡ false → sent_by q (to_port (port_at ps n) p).items ≡ []
to_port_elsewhere [] n q p other = refl
to_port_elsewhere (r ∷ ps) n q p other = by_test (eqb r.number n) (eqb-true r.number n) (to_port_elsewhere ps n q p other)
  where
    by_test : (b : Bool) → (b ≡ true → r.number ≡ n) → sent_by q (to_port (port_at ps n) p).items ≡ [] → sent_by q (to_port (cond b (Some r) (port_at ps n)) p).items ≡ []
    by_test true same h = silent_if (may_send r) r q p.frame (subst (λ m. eqb m q ≡ false) (sym (same refl)) other)
    by_test false same h = h

to_port_sent : (ps : List Port) (n q : ℕ) (p : Packet) → sent_by q (to_port (port_at ps n) p).items ≡ once (may_send_at ps q && eqb q n) p.frame
to_port_sent ps n q p = by_test (eqb q n) refl
  where
    by_test : (b : Bool) → eqb q n ≡ b → sent_by q (to_port (port_at ps n) p).items ≡ once (may_send_at ps q && b) p.frame
    by_test true e = subst (λ m. sent_by q (to_port (port_at ps m) p).items ≡ once (may_send_at ps q && true) p.frame) (eqb-true q n e) (to_port_here ps q p ∙ once_and_true (may_send_at ps q) p.frame)
    by_test false e = to_port_elsewhere ps n q p (ne_eqb n q (λ h. eqb-false q n e (sym h))) ∙ never (may_send_at ps q) p.frame

-- ---- what FLOOD and ALL send

abbrev flood : List Port → ℕ → List ℕ → List Item
flood ps r frame = map (λ (x : Port). Sent x.number frame) (other_ports ps r)

-- what it sends if there is one port more, by which it sends or not
abbrev flood_if : Port → List Port → ℕ → List ℕ → Bool → List Item
flood_if y ps r frame b = map (λ (x : Port). Sent x.number frame) (cond b (y ∷ other_ports ps r) (other_ports ps r))

-- ports of larger numbers
larger_silent : (ps : List Port) (q r : ℕ) (frame : List ℕ) → list_all (λ (y : Port). nat_lt q y.number) ps ≡ true → sent_by q (flood ps r frame) ≡ []
larger_silent [] q r frame h = refl
larger_silent (y ∷ ps) q r frame h =
    let parts = and_parts (nat_lt q y.number) (list_all (λ (z : Port). nat_lt q z.number) ps) h in
    let larger = ltb-true q y.number parts.0 in
    by_test (may_send y && not (eqb y.number r)) (ne_eqb y.number q (λ same. omega (arith, larger, same))) (larger_silent ps q r frame parts.1)
  where
    by_test : (b : Bool) → eqb y.number q ≡ false → sent_by q (flood ps r frame) ≡ [] → sent_by q (flood_if y ps r frame b) ≡ []
    by_test true e none = rw e none
    by_test false e none = none

flooded_sent : (ps : List Port) (q r : ℕ) (frame : List ℕ) → IsTrue (is_ascending number_of_port ps) → sent_by q (flood ps r frame) ≡ once (may_send_at ps q && not (eqb q r)) frame
flooded_sent [] q r frame rising = refl
flooded_sent (y ∷ ps) q r frame rising =
    let parts = and_parts (list_all (λ (z : Port). nat_lt y.number z.number) ps) (is_ascending number_of_port ps) rising in
    by_number (eqb y.number q) refl parts.0 (flooded_sent ps q r frame parts.1)
  where
    own : (s t : Bool) → eqb y.number q ≡ true → sent_by q (flood ps r frame) ≡ [] → sent_by q (flood_if y ps r frame (s && not t)) ≡ once (s && not t) frame
    own true true e none = none
    own true false e none = rw e (ap (λ xs. frame ∷ xs) none)
    own false t e none = none

    others : (b : Bool) → eqb y.number q ≡ false → sent_by q (flood_if y ps r frame b) ≡ sent_by q (flood ps r frame)
    others true e = rw e refl
    others false e = refl

    by_number : (b : Bool) → eqb y.number q ≡ b → list_all (λ (z : Port). nat_lt y.number z.number) ps ≡ true → sent_by q (flood ps r frame) ≡ once (may_send_at ps q && not (eqb q r)) frame
        → sent_by q (flood_if y ps r frame (may_send y && not (eqb y.number r))) ≡ once (option_map_or may_send (cond b (Some y) (port_at ps q)) false && not (eqb q r)) frame
    by_number true e larger h =
        let same : y.number ≡ q = eqb-true y.number q e in
        own (may_send y) (eqb y.number r) e (larger_silent ps q r frame (subst (λ n. list_all (λ (z : Port). nat_lt n z.number) ps ≡ true) same larger))
        ∙ ap (λ n. once (may_send y && not (eqb n r)) frame) same
    by_number false e larger h = others (may_send y && not (eqb y.number r)) e ∙ h

-- ---- an emission

chosen_sent : (a b c d s t e : Bool) (x y z v : Emitted) (q : ℕ) (frame : List ℕ) → sent_by q x.items ≡ once (s && t) frame → sent_by q y.items ≡ once (s && not t) frame → sent_by q z.items ≡ [] → sent_by q v.items ≡ once (s && e) frame →
    sent_by q (if a then x else if b then y else if c then z else if d then empty_emitted else v).items ≡ once (s && (if a then t else if b then not t else (e && (not c && not d)))) frame
chosen_sent true b c d s t e x y z v q frame hx hy hz hv = hx
chosen_sent false true c d s t e x y z v q frame hx hy hz hv = hy
chosen_sent false false true d s t true x y z v q frame hx hy hz hv = hz ∙ never s frame
chosen_sent false false true d s t false x y z v q frame hx hy hz hv = hz ∙ never s frame
chosen_sent false false false true s t true x y z v q frame hx hy hz hv = never s frame
chosen_sent false false false true s t false x y z v q frame hx hy hz hv = never s frame
chosen_sent false false false false s t true x y z v q frame hx hy hz hv = hv
chosen_sent false false false false s t false x y z v q frame hx hy hz hv = hv

module _ (ps : List Port) (rising : IsTrue (is_ascending number_of_port ps)) (r : ℕ) (frame : List ℕ) where
  output_sent : (q : ℕ) (p : Packet) (port max_len : ℕ) → sent_by q (emission ps p port max_len).items ≡ once (may_send_at ps q && output_goes_by p.ingress q port) p.frame
  output_sent q p port max_len =
      chosen_sent (eqb port OFPP_IN_PORT) (is_flooding port) (eqb port OFPP_CONTROLLER) (eqb port p.ingress) (may_send_at ps q) (eqb q p.ingress) (eqb q port)
      (to_port (port_at ps p.ingress) p) (flooded ps p) (packet_in_emitted (output_reason p) (Some max_len) p) (to_port (port_at ps port) p) q p.frame
      (to_port_sent ps p.ingress q p) (flooded_sent ps q p.ingress p.frame rising) refl (to_port_sent ps port q p)

  emission_sent : (q : ℕ) (e : Emission) → sent_by q (items_of_emission ps e frame r) ≡ once (sends_by ps r q e) (frame_of_actions (rewrites_of e) frame)
  emission_sent q (Output p port max_len) = output_sent q (packet_for p frame r) port max_len
  emission_sent q (InvalidTtl p) = never (may_send_at ps q) (frame_of_actions p.rewrites frame)

  -- what leaves by a port
  pub sent_is : (q : ℕ) (es : List Emission) → sent_by q (items_for ps es frame r) ≡ map (λ l. frame_of_actions l frame) (rewrites_sent ps r q es)
  sent_is q [] = refl
  sent_is q (e ∷ es) =
      sent_front q (items_of_emission ps e frame r) (items_for ps es frame r)
      ∙ (ap (λ xs. xs ++ sent_by q (items_for ps es frame r)) (emission_sent q e) ∙ by_test (sends_by ps r q e) (sent_is q es))
    where
      by_test : (b : Bool) → sent_by q (items_for ps es frame r) ≡ map (λ l. frame_of_actions l frame) (rewrites_sent ps r q es)
          → once b (frame_of_actions (rewrites_of e) frame) ++ sent_by q (items_for ps es frame r) ≡ map (λ l. frame_of_actions l frame) (map rewrites_of (cond b (e ∷ filter (sends_by ps r q) es) (filter (sends_by ps r q) es)))
      by_test true h = ap (λ xs. frame_of_actions (rewrites_of e) frame ∷ xs) h
      by_test false h = h

  sent_alike : (a b : List Emission) → SendAlikeFrom ps r a b → (q : ℕ) → sent_by q (items_for ps a frame r) ≡ sent_by q (items_for ps b frame r)
  sent_alike a b h q = sent_is q a ∙ (ap (map (λ l. frame_of_actions l frame)) (h q) ∙ sym (sent_is q b))

-- ---- what an OUTPUT to another port than CONTROLLER tells the controller

untold_if : (b : Bool) (x y : Emitted) → to_controller x.items ≡ [] → to_controller y.items ≡ [] → to_controller (cond b x y).items ≡ []
untold_if true x y h k = h
untold_if false x y h k = k

to_port_untold : (o : Option Port) (p : Packet) → to_controller (to_port o p).items ≡ []
to_port_untold None p = refl
to_port_untold (Some r) p = untold_if (may_send r) (sends_out r p.frame) (drops r) refl refl

flooded_untold : (rs : List Port) (frame : List ℕ) → to_controller (map (λ (r : Port). Sent r.number frame) rs) ≡ []
flooded_untold [] frame = refl
flooded_untold (r ∷ rs) frame = flooded_untold rs frame

untold_sends : (a b c d : Bool) (x y z v : Emitted) → to_controller x.items ≡ [] → to_controller y.items ≡ [] → c ≡ false → to_controller v.items ≡ [] →
    to_controller (if a then x else if b then y else if c then z else if d then empty_emitted else v).items ≡ []
untold_sends true b c d x y z v hx hy other hv = hx
untold_sends false true c d x y z v hx hy other hv = hy
untold_sends false false true d x y z v hx hy other hv = absurd cc
untold_sends false false false true x y z v hx hy other hv = refl
untold_sends false false false false x y z v hx hy other hv = hv

untold_emission : (ps : List Port) (p : Packet) (port max_len : ℕ) → eqb port OFPP_CONTROLLER ≡ false → to_controller (emission ps p port max_len).items ≡ []
untold_emission ps p port max_len other =
    untold_sends (eqb port OFPP_IN_PORT) (eqb port OFPP_FLOOD || eqb port OFPP_ALL) (eqb port OFPP_CONTROLLER) (eqb port p.ingress)
    (to_port (port_at ps p.ingress) p) (flooded ps p) (packet_in_emitted (output_reason p) (Some max_len) p) (to_port (port_at ps port) p)
    (to_port_untold (port_at ps p.ingress) p) (flooded_untold (other_ports ps p.ingress) p.frame) other (to_port_untold (port_at ps port) p)

module _ (ps : List Port) (r : ℕ) (frame : List ℕ) where
  untold : (e : Emission) → is_for_controller e ≡ false → to_controller (items_of_emission ps e frame r) ≡ []
  untold (Output p port max_len) out = untold_emission ps (packet_for p frame r) port max_len out
  untold (InvalidTtl p) out = absurd cc

  told_more : (e : Emission) (es kept : List Emission) (b : Bool) → (b ≡ false → to_controller (items_of_emission ps e frame r) ≡ []) →
      to_controller (items_for ps es frame r) ≡ to_controller (items_for ps kept frame r) → to_controller (items_for ps (e ∷ es) frame r) ≡ to_controller (items_for ps (cond b (e ∷ kept) kept) frame r)
  told_more e es kept true none h =
      told_front (items_of_emission ps e frame r) (items_for ps es frame r) ∙ (ap (λ xs. to_controller (items_of_emission ps e frame r) ++ xs) h ∙ sym (told_front (items_of_emission ps e frame r) (items_for ps kept frame r)))
  told_more e es kept false none h = told_front (items_of_emission ps e frame r) (items_for ps es frame r) ∙ (ap (λ xs. xs ++ to_controller (items_for ps es frame r)) (none refl) ∙ h)

  told_is : (es : List Emission) → to_controller (items_for ps es frame r) ≡ to_controller (items_for ps (emitting_at r Controller es) frame r)
  told_is [] = refl
  told_is (e ∷ es) = told_more e es (emitting_at r Controller es) (is_for_controller e) (untold e) (told_is es)

  told_alike : (a b : List Emission) → EmitAlikeAt r Controller a b → to_controller (items_for ps a frame r) ≡ to_controller (items_for ps b frame r)
  told_alike a b h = told_is a ∙ (ap to_controller (h ps ps refl frame r) ∙ sym (told_is b))

-- ---- from one port

pub alike_from : (c : Compared) (ps : List Port) (r : ℕ) (a b : List Emission) → IsTrue (is_ascending number_of_port ps) → (c ≡ AllIsCompared → EmitAlikeAt r Controller a b) → SendAlikeFrom ps r a b →
    (frame : List ℕ) → LeavesAlike c (items_for ps a frame r) (items_for ps b frame r)
alike_from c ps r a b rising told sent frame = record { sent = sent_alike ps rising r frame a b sent; told = λ all. told_alike ps r frame a b (told all) }

none_kept : (es : List Emission) → filter (λ (e : Emission). false) es ≡ []
none_kept [] = refl
none_kept (e ∷ es) = none_kept es

-- a port that may send is one of those that were compared
at_port : (ps : List Port) (r q : ℕ) (a b : List Emission) → AllByRecursion (IsAlikeBy r a b) ps → may_send_at ps q ≡ true → EmitAlikeAt r (ByPort q) a b
at_port [] r q a b each sends = absurd cc
at_port (y ∷ ps) r q a b each sends = by_test (eqb y.number q) (eqb-true y.number q) sends (at_port ps r q a b each.1)
  where
    by_test : (t : Bool) → (t ≡ true → y.number ≡ q) → option_map_or may_send (cond t (Some y) (port_at ps q)) false ≡ true → (may_send_at ps q ≡ true → EmitAlikeAt r (ByPort q) a b) → EmitAlikeAt r (ByPort q) a b
    by_test true same k later = subst (λ n. EmitAlikeAt r (ByPort n) a b) (same refl) (each.0 k)
    by_test false same k later = later k

pub alike_by_each : (ps : List Port) (r : ℕ) (a b : List Emission) → All (IsAlikeBy r a b) ps → SendAlikeFrom ps r a b
alike_by_each ps r a b each q = by_test (may_send_at ps q) (at_port ps r q a b (recursion_from_All (IsAlikeBy r a b) ps each))
  where
    by_test : (s : Bool) → (s ≡ true → EmitAlikeAt r (ByPort q) a b) → map rewrites_of (filter (λ (e : Emission). s && emits_at r (ByPort q) e) a) ≡ map rewrites_of (filter (λ (e : Emission). s && emits_at r (ByPort q) e) b)
    by_test true same = same refl
    by_test false same = ap (map rewrites_of) (none_kept a ∙ sym (none_kept b))

-- ---- from each port

module _ (c : Compared) (ps : List Port) (s : FrameSet) (a b : List Emission) where
  abbrev AreAlike : ℕ → Type 0
  AreAlike n = (frame : List ℕ) → InFrames s frame n → LeavesAlike c (items_for ps a frame n) (items_for ps b frame n)

  at_ingress : (rs : List Port) → AllByRecursion (IsAlikeFrom c ps s a b) rs → (port : ℕ) (x : Port) → port_at rs port ≡ Some x → may_receive x ≡ true → AreAlike port
  at_ingress [] each port x there receives = absurd cc
  at_ingress (y ∷ rs) each port x there receives = by_test (eqb y.number port) (eqb-true y.number port) there (at_ingress rs each.1 port x)
    where
      by_test : (t : Bool) → (t ≡ true → y.number ≡ port) → cond t (Some y) (port_at rs port) ≡ Some x → (port_at rs port ≡ Some x → may_receive x ≡ true → AreAlike port) → AreAlike port
      by_test true same k later = let one : y ≡ x = cc in subst AreAlike (same refl) (each.0 (ap may_receive one ∙ receives))
      by_test false same k later = later k receives

items_same : (ps qs : List Port) → SamePorts ps qs → (frame : List ℕ) (r : ℕ) (es : List Emission) → items_for ps es frame r ≡ items_for qs es frame r
items_same ps qs same frame r [] = refl
items_same ps qs same frame r (e ∷ es) = ap (λ xs. xs ++ items_for ps es frame r) (one e) ∙ ap (λ xs. items_of_emission qs e frame r ++ xs) (items_same ps qs same frame r es)
  where
    one : (x : Emission) → items_of_emission ps x frame r ≡ items_of_emission qs x frame r
    one (Output p port max_len) = same_emission ps qs same (packet_for p frame r) port max_len
    one (InvalidTtl p) = refl

pub alike_from_each : (c : Compared) (ps : List Port) (s : FrameSet) (a b : List Emission) → All (IsAlikeFrom c ps s a b) ps → LeaveAlike c ps s a b
alike_from_each c ps s a b each qs same frame port receives within =
    subst (λ (items : List Item). LeavesAlike c (items_for ps a frame port) items) (items_same ps qs same frame port b) (at_ingress c ps s a b ps (recursion_from_All (IsAlikeFrom c ps s a b) ps each) port receives.port receives.there receives.receives frame within)

pub none_leave_alike : (c : Compared) (ps : List Port) (s : FrameSet) (a b : List Emission) → a ≡ [] → b ≡ [] → LeaveAlike c ps s a b
none_leave_alike c ps s a b first second qs same frame port receives within = rw (first, second) (record { sent = λ q. refl; told = λ e. refl })
