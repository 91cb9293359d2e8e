-- What is decided for all ports of a switch is decided for all frames that it receives.
use Rattle.std.proofs.Common.{◌≡◌, ◌<◌, ◌≤◌, ◌+◌, ℕ, suc, eqb, Bool, true, false, cond, List, [], ◌∷◌, ◌++◌, length, get_or, map, take, Some, refl, subst, ap, ◌∙◌, arith}
use Rattle.std.{specs.List.Contains, proofs.Math.Seq.take-suc, proofs.lemmas.Bool.eqb-true, proofs.lemmas.List.map-append, proofs.lemmas.List.take_all}
use Rattle.of_ports.specs.{declared.port.Port.Port, Ports.number_of_port, Ports.port_at}
use Rattle.of_machine.specs.TheWorld.{TheWorld}
use Rattle.of_require.specs.declared.deciding.Decision.{Decision}
use Rattle.of_require.specs.declared.deciding.Decision.TheVariants.{NoFrame, NoneMatches}
use Rattle.of_require.{specs.declared.requirement.Requirement.Requirement, specs.Deciding.IsDecisionFor, specs.Decisions.IsDecision, specs.Decisions.NoneMatch, proofs.DecidingLemmas.only_in}
use Rattle.of_symbolic_run.specs.PortNumbers.{IsReceivingPort}

-- ---- lists of ports

pub no_ports : (w : TheWorld) (r : Requirement) → NoneMatch w r (λ q. Contains [] q)
no_ports w r frame port there received matched leaving = absurd (omega (arith, there.1))

pub one_more_port : (items : List Port) (i : ℕ) (d : Port) → i < length items → map number_of_port (take (i + 1) items) ≡ map number_of_port (take i items) ++ (get_or items i d).number ∷ []
one_more_port items i d lt =
    let more : i + 1 ≡ suc i = omega arith in
    ap (λ (n : ℕ). map number_of_port (take n items)) more ∙ (ap (map number_of_port) (take-suc items i d lt) ∙ map-append number_of_port (take i items) (get_or items i d ∷ []))

pub whole_list : (items : List Port) (i : ℕ) → length items ≤ i → map number_of_port (take i items) ≡ map number_of_port items
whole_list items i le = ap (map number_of_port) (take_all i items le)

later : {A : Type 0} (x : A) (xs : List A) (y : A) → Contains xs y → Contains (x ∷ xs) y
later x xs y (i, lt, is) = (suc i, omega (arith, lt), is)

number_listed : (ports : List Port) (n : ℕ) (q : Port) → port_at ports n ≡ Some q → Contains (map number_of_port ports) n
number_listed [] n q h = absurd cc
number_listed (p ∷ ports) n q h = by_test (eqb p.number n) refl (number_listed ports n q) h
  where
    by_test : (t : Bool) → eqb p.number n ≡ t → (port_at ports n ≡ Some q → Contains (map number_of_port ports) n) → cond t (Some p) (port_at ports n) ≡ Some q → Contains (p.number ∷ map number_of_port ports) n
    by_test true e others k = (0, omega arith, eqb-true p.number n e)
    by_test false e others k = later p.number (map number_of_port ports) n (others k)

-- by a port that does not receive no frame comes in
pub none_received : (w : TheWorld) (r : Requirement) (port : ℕ) → (IsReceivingPort w.ports port → ⊥) → NoneMatch w r (λ q. Contains (port ∷ []) q)
none_received w r port silent frame q there received matched leaving =
    let at : q ≡ port = only_in port q there in
    silent (subst (IsReceivingPort w.ports) at (record { port = received.ingress; there = received.there; receives = received.receives }))

-- ---- all frames

pub all_ports : (w : TheWorld) (r : Requirement) (steps : ℕ) (d : Decision) → IsDecisionFor (map number_of_port w.ports) w r steps d → IsDecision w r steps d
all_ports w r steps NoFrame h = λ frame port any deciding. h frame port (number_listed w.ports port deciding.about.received.ingress deciding.about.received.there) deciding
all_ports w r steps NoneMatches h = λ frame port any received matched leaving. h frame port (number_listed w.ports port received.ingress received.there) received matched leaving
all_ports w r steps other h = h
