-- What two runs emit, by the actions on the frame.
use Rattle.std.proofs.Common.{◌≡◌, ℕ, ◌==◌, cond, Bool, true, false, List, [], ◌∷◌, ◌++◌, map, Option, Some, None, refl, sym, ap, subst, ◌∙◌, if◌then◌else◌}
use Rattle.std.{specs.Prelude.not, specs.Prelude.◌||◌, specs.Option.IfNone, specs.Option.is_some, proofs.lemmas.Bool.eqb-true}
use Rattle.of_wire.specs.declared.limits.TheConstants.{OFPP_ALL, OFPP_CONTROLLER, OFPP_FLOOD, OFPP_IN_PORT}
use Rattle.of_wire.specs.declared.reasons.PacketInReason.{PacketInReason}
use Rattle.of_wire.specs.declared.reasons.PacketInReason.TheVariants as reasons
use Rattle.of_ports.specs.{declared.port.Port.Port, Ports.may_send, Ports.port_at}
use Rattle.of_machine.specs.Rows.{Emitted, empty_emitted, output_reason, packet_in_emitted, to_port}
use Rattle.of_machine.specs.{declared.data.Item.Item, declared.data.Item.TheVariants.Sent, declared.data.Count.TheVariants.TxDropped}
use Rattle.of_symbolic_run.specs.{declared.frame_set.FrameSet.FrameSet, declared.state.Emission.Emission, declared.state.Emission.TheVariants.Output, declared.state.SymbolicPacket.SymbolicPacket}
use Rattle.of_symbolic_run.specs.States.{items_for, items_of_emission, packet_for}
use Rattle.of_alike.specs.Emitting.{AlikeIfRest, AreSameAt, AreSamePackets, EmitTheSame, IsSameAt, LeaveAlike, SameOutputs, SendAlike, rewrites_of}
use Rattle.of_alike.specs.{declared.alike.Compared.Compared, declared.alike.Where.Where, declared.alike.Where.TheVariants.Controller, declared.alike.Where.TheVariants.Port as ByPort}
use Rattle.of_alike.{specs.Alike.LeavesAlike, specs.Alike.sent_by, specs.Alike.to_controller, proofs.AlikeLemmas.sent_front, proofs.AlikeLemmas.told_front, proofs.EmissionLemmas.same_emission}

-- ---- what leaves alike

pub alike_behind : (c : Compared) (x a b : List Item) → LeavesAlike c a b → LeavesAlike c (x ++ a) (x ++ b)
alike_behind c x a b h = record {
  sent = λ q. sent_front q x a ∙ (ap (λ xs. sent_by q x ++ xs) (h.sent q) ∙ sym (sent_front q x b));
  told = λ e. told_front x a ∙ (ap (λ xs. to_controller x ++ xs) (h.told e) ∙ sym (told_front x b));
}

-- ---- one output

chosen_same : (a b c d : Bool) (x y z v x' y' z' v' : Emitted) → x.items ≡ x'.items → y.items ≡ y'.items → (c ≡ true → z.items ≡ z'.items) → v.items ≡ v'.items →
    (if a then x else if b then y else if c then z else if d then empty_emitted else v).items ≡ (if a then x' else if b then y' else if c then z' else if d then empty_emitted else v').items
chosen_same true b c d x y z v x' y' z' v' hx hy hz hv = hx
chosen_same false true c d x y z v x' y' z' v' hx hy hz hv = hy
chosen_same false false true d x y z v x' y' z' v' hx hy hz hv = hz refl
chosen_same false false false true x y z v x' y' z' v' hx hy hz hv = refl
chosen_same false false false false x y z v x' y' z' v' hx hy hz hv = hv

module _ (p q : SymbolicPacket) (frame : List ℕ) (ingress : ℕ) where
  to_port_same : p.rewrites ≡ q.rewrites → (o : Option Port) → (to_port o (packet_for p frame ingress)).items ≡ (to_port o (packet_for q frame ingress)).items
  to_port_same e None = refl
  to_port_same e (Some port) = by_test (may_send port)
    where
      sent : SymbolicPacket → Emitted
      sent r = record { items = Sent port.number (packet_for r frame ingress).frame ∷ []; counts = [] }

      dropped : Emitted
      dropped = record { items = []; counts = TxDropped port.number ∷ [] }

      by_test : (b : Bool) → (cond {A = Emitted} b (sent p) dropped).items ≡ (cond {A = Emitted} b (sent q) dropped).items
      by_test true = rw e refl
      by_test false = refl

  packet_in_same : (reason : PacketInReason) (max_len : Option ℕ) → AreSamePackets p q → (packet_in_emitted reason max_len (packet_for p frame ingress)).items ≡ (packet_in_emitted reason max_len (packet_for q frame ingress)).items
  packet_in_same reason max_len h = rw (h.rewrites, h.metadata, h.cookie, h.table) refl

  told_same : (max_len : Option ℕ) → AreSamePackets p q → (packet_in_emitted (output_reason (packet_for p frame ingress)) max_len (packet_for p frame ingress)).items ≡ (packet_in_emitted (output_reason (packet_for q frame ingress)) max_len (packet_for q frame ingress)).items
  told_same max_len h = rw (h.rewrites, h.metadata, h.cookie, h.table, h.miss) refl

pub same_outputs : (p q : SymbolicPacket) (port max_len : ℕ) → SameOutputs p q port → EmitTheSame (Output p port max_len) (Output q port max_len)
same_outputs p q port max_len h ps qs same frame ingress =
    same_emission ps qs same (packet_for p frame ingress) port max_len
    ∙ chosen_same (port == OFPP_IN_PORT) ((port == OFPP_FLOOD) || (port == OFPP_ALL)) (port == OFPP_CONTROLLER) (port == ingress) _ _ _ _ _ _ _ _
    (to_port_same p q frame ingress h.rewrites (port_at qs ingress))
    (rw h.rewrites refl)
    (λ is. told_same p q frame ingress (Some max_len) (h.told (eqb-true port OFPP_CONTROLLER is)))
    (to_port_same p q frame ingress h.rewrites (port_at qs port))

pub both_outputs : (x y : Emission) (p q : SymbolicPacket) (port by max_len most : ℕ) → x ≡ Output p port max_len → y ≡ Output q by most → SendAlike port max_len by most → SameOutputs p q port → EmitTheSame x y
both_outputs x y p q port by max_len most left right alike h = rw (left, right) (λ ps qs same frame ingress. same_outputs p q port max_len h ps qs same frame ingress ∙ alike qs (packet_for q frame ingress))

-- ---- lists

begin_alike : (c : Compared) (ports : List Port) (s : FrameSet) (behind rest : List Emission) (e f : Emission) → EmitTheSame e f → LeaveAlike c ports s behind rest → LeaveAlike c ports s (e ∷ behind) (f ∷ rest)
begin_alike c ps s behind rest e f same others qs ports frame port receives within =
    subst (λ (x : List Item). LeavesAlike c (items_of_emission ps e frame port ++ items_for ps behind frame port) (x ++ items_for qs rest frame port)) (same ps qs ports frame port)
    (alike_behind c (items_of_emission ps e frame port) _ _ (others qs ports frame port receives within))

pub behind_alike : (a b behind rest : List Emission) (e f : Emission) → a ≡ e ∷ behind → b ≡ f ∷ rest → EmitTheSame e f → AlikeIfRest a b behind rest
behind_alike a b behind rest e f first second same c ports s others = rw (first, second) (begin_alike c ports s behind rest e f same others)

-- ---- at one place

pub same_more : (at : Where) (xs ys behind rest : List Emission) (e f : Emission) → xs ≡ e ∷ behind → ys ≡ f ∷ rest → IsSameAt at e f → AreSameAt at behind rest → AreSameAt at xs ys
same_more Controller xs ys behind rest e f first second same others =
    rw (first, second) (λ ps qs ports frame port. ap (λ x. x ++ items_for ps behind frame port) (same ps qs ports frame port) ∙ ap (λ y. items_of_emission qs f frame port ++ y) (others ps qs ports frame port))
same_more (ByPort q) xs ys behind rest e f first second same others = ap (map rewrites_of) first ∙ (ap (λ x. x ∷ map rewrites_of behind) same ∙ (ap (λ l. rewrites_of f ∷ l) others ∙ sym (ap (map rewrites_of) second)))

pub same_end : (at : Where) (xs ys : List Emission) → xs ≡ [] → ys ≡ [] → AreSameAt at xs ys
same_end Controller xs ys first second = rw (first, second) (λ ps qs ports frame port. refl)
same_end (ByPort q) xs ys first second = ap (map rewrites_of) (first ∙ sym second)

pub none_if : {Y : Type 0} (r : Option Y) (P : Type 0) (b : Bool) → IfNone r P → is_some r ≡ not b → b ≡ true → P
none_if None P b h is true_is = h
none_if (Some y) P true h is true_is = absurd cc
none_if (Some y) P false h is true_is = absurd cc
