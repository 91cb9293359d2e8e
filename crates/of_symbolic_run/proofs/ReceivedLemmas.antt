-- Frames that come in by a port that is there.
use Rattle.std.proofs.Common.{◌≡◌, ℕ, zero, suc, ◌+◌, ◌≤◌, ◌<◌, ◌^◌, eqb, cond, Bool, true, false, List, [], ◌∷◌, get_or, length, take, Some, refl, sym, ap, subst, ◌∙◌, arith, inl, inr}
use Rattle.std.{specs.Prelude.nat_lt, specs.Prelude.◌&&◌, specs.Global.Vec, specs.List.Contains, specs.List.list_all, proofs.lemmas.Bool.eq-eqb, proofs.lemmas.Bool.eqb-true}
use Rattle.std.proofs.{lemmas.Bool.Decides.nat_tests, lemmas.List.Folds.list_all_at}
use Rattle.of_actions.specs.Rising.{is_ascending}
use Rattle.of_oxm.specs.{declared.match_field.MatchField.MatchField, Relations.matches_map}
use Rattle.of_rewrite.specs.Frames.{IsFrame}
use Rattle.of_ports.specs.{declared.port.Port.Port, Ports.number_of_port, Ports.port_at}
use Rattle.of_machine.specs.TheWorld.{TheWorld}
use Rattle.of_symbolic.{specs.InnerTags.description_of, proofs.PartLemmas.first_or_next}
use Rattle.of_symbolic_run.specs.{declared.frame_set.FrameSet.FrameSet, FrameSets.AreFramesWithout, FrameSets.InFrames, Received.AreReceived, Received.IsReceivedAt}
use Rattle.of_symbolic_run.specs.PortNumbers.{IsAbsence, IsReceiverOrNamed, IsReceivingPort}

record IsThere (ports : List Port) (n : ℕ) (p : Port) : Type 0 where
  pub listed : Contains ports p
  pub number : p.number ≡ n

port_there : (n : ℕ) (ports : List Port) (p : Port) → port_at ports n ≡ Some p → IsThere ports n p
port_there n [] p h = absurd cc
port_there n (q ∷ qs) p h = by_test (eqb q.number n) refl (port_there n qs p) h
  where
    by_test : (b : Bool) → eqb q.number n ≡ b → (port_at qs n ≡ Some p → IsThere qs n p) → cond b (Some q) (port_at qs n) ≡ Some p → IsThere (q ∷ qs) n p
    by_test true e later k = let same : q ≡ p = cc in subst (λ (x : Port). IsThere (q ∷ qs) n x) same (record { listed = (0, omega arith, refl); number = eqb-true q.number n e })
    by_test false e later k = let h = later k in record { listed = (suc h.listed.0, (let lt = h.listed.1 in omega (arith, lt)), h.listed.2); number = h.number }

-- the frames that come in by a port that is there
abbrev pub HasReceived : TheWorld → FrameSet → Type 0
HasReceived w frames = (frame : List ℕ) (port : ℕ) → IsReceivedAt w frame port → InFrames frames frame port

pub still_received : (w : TheWorld) (m : List MatchField) (old new : FrameSet) → IsAbsence w.ports m → AreFramesWithout m old new → HasReceived w old → HasReceived w new
still_received w m old new absence less h frame port received =
    let there = port_there port w.ports received.ingress received.there in
    less.all frame port (h frame port received) (absence.absent received.ingress there.listed received.receives (description_of old.inner frame port) (ap (λ (n : ℕ). Some n) (sym there.number)))

pub is_received : (w : TheWorld) (frame : List ℕ) (port : ℕ) → IsFrame frame → length frame ≤ 9216 → IsReceivingPort w.ports port → IsReceivedAt w frame port
is_received w frame port is short receives = record { frame_is = is; short = short; ingress = receives.port; there = receives.there; receives = receives.receives }

-- ---- no frame comes in by another port

-- none of these lists of conditions matches a frame of the set
abbrev pub AreWithoutAll : List (Vec MatchField) → FrameSet → Type 0
AreWithoutAll lists frames = (m : Vec MatchField) → Contains lists m → (frame : List ℕ) (port : ℕ) → InFrames frames frame port → matches_map m.items (description_of frames.inner frame port) ≡ false

pub without_one_more : (lists : List (Vec MatchField)) (i : ℕ) (x : Vec MatchField) → x ≡ get_or lists i x → i < length lists → (old new : FrameSet) → AreFramesWithout x.items old new → AreWithoutAll (take i lists) old → AreWithoutAll (take (i + 1) lists) new
without_one_more lists i x is lt old new less all m c frame port h = subst (λ (b : Bool). matches_map m.items (description_of b frame port) ≡ false) (sym less.inner) (elim (first_or_next lists i x m is lt c) as (λ w. matches_map m.items (description_of old.inner frame port) ≡ false) [
  | inl before ↦ all m before frame port (less.within frame port h).0
  | inr same ↦ subst (λ (y : Vec MatchField). matches_map y.items (description_of old.inner frame port) ≡ false) same (less.within frame port h).1
])

above_all : (n : ℕ) (ports : List Port) (q : Port) → list_all (λ p. nat_lt n p.number) ports ≡ true → Contains ports q → eqb n q.number ≡ false
above_all n ports q all c = by_test (nat_lt n q.number) refl
  where
    by_test : (b : Bool) → nat_lt n q.number ≡ b → eqb n q.number ≡ false
    by_test true lt = grind (arith, nat_tests)
    by_test false e = let none : list_all (λ p. nat_lt n p.number) ports ≡ false = list_all_at (λ p. nat_lt n p.number) ports c.0 q c.1 (ap (λ (p : Port). nat_lt n p.number) c.2 ∙ e) in absurd cc

-- in ascending order no two ports have the same number
port_of_number : (ports : List Port) (q : Port) → is_ascending number_of_port ports ≡ true → Contains ports q → port_at ports q.number ≡ Some q
port_of_number [] q rising c = absurd (omega (arith, c.1))
port_of_number (p ∷ ports) q rising c = by_place c.0 c.1 c.2 (port_of_number ports q)
  where
    parts : (a b : Bool) → (a && b) ≡ true → (a ≡ true) × (b ≡ true)
    parts true true h = (refl, refl)
    parts true false h = absurd cc
    parts false b h = absurd cc

    above : (list_all (λ y. nat_lt p.number y.number) ports ≡ true) × (is_ascending number_of_port ports ≡ true)
    above = parts (list_all (λ y. nat_lt p.number y.number) ports) (is_ascending number_of_port ports) rising

    by_place : (k : ℕ) → k < length (p ∷ ports) → get_or (p ∷ ports) k q ≡ q → (is_ascending number_of_port ports ≡ true → Contains ports q → port_at ports q.number ≡ Some q) → port_at (p ∷ ports) q.number ≡ Some q
    by_place zero lt same later = let own : p ≡ q = same in ap (λ b. cond b (Some p) (port_at ports q.number)) (eq-eqb p.number q.number (ap (λ (x : Port). x.number) own)) ∙ ap (λ (x : Port). Some x) own
    by_place (suc k) lt same later =
        let there : Contains ports q = (k, (let less : k < length ports = omega (arith, lt) in less), same) in
        ap (λ b. cond b (Some p) (port_at ports q.number)) (above_all p.number ports q above.0 there) ∙ later above.1 there

pub all_received : (ports : List Port) (lists : List (Vec MatchField)) (frames : FrameSet) → is_ascending number_of_port ports ≡ true → ((number : ℕ) → number < 2 ^ 32 → IsReceiverOrNamed ports lists number) → AreWithoutAll lists frames → AreReceived ports frames
all_received ports lists frames rising each none frame port fits h = elim (each port fits) as (λ x. IsReceivingPort ports port) [
  | inl r ↦ record { port = r.port; there = subst (λ (n : ℕ). port_at ports n ≡ Some r.port) r.own (port_of_number ports r.port rising r.listed); receives = r.receives }
  | inr named ↦ (let odd : true ≡ false = sym (named.2 (description_of frames.inner frame port) refl) ∙ none named.0 named.1 frame port h in absurd cc)
]

-- fewer frames
pub fewer_received : (ports : List Port) (old new : FrameSet) → ((frame : List ℕ) (port : ℕ) → InFrames new frame port → InFrames old frame port) → AreReceived ports old → AreReceived ports new
fewer_received ports old new within received frame port fits h = received frame port fits (within frame port h)

-- ---- a port that does not receive

pub silent_port : (ports listed : List Port) (port : ℕ) (b : Bool) → listed ≡ ports → (IsReceivingPort listed port → b ≡ true) → b ≡ false → IsReceivingPort ports port → ⊥
silent_port ports listed port true same tells is_not receives = absurd cc
silent_port ports listed port false same tells is_not receives = let h : false ≡ true = tells (subst (λ (l : List Port). IsReceivingPort l port) (sym same) receives) in absurd cc
