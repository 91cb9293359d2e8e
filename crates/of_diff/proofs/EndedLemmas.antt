-- Runs that are done.
use Rattle.std.proofs.Common.{◌≡◌, ◌<◌, ◌^◌, ◌∙◌, ℕ, List, [], ◌∷◌, Option, Some, None, refl, sym, ap, arith, inl, inr}
use Rattle.std.specs.Option.{option_map}
use Rattle.of_machine.specs.{TheWorld.TheWorld, Rows.Lookup, Rows.entering, Runs.run_of, Sound.IsSound}
use Rattle.of_symbolic_run.specs.{declared.state.SymbolicState.SymbolicState, FrameSets.InFrames, States.IsAt, States.items_for, Received.IsReceivedAt, Received.items_at}
use Rattle.of_symbolic_run.specs.PortNumbers.{IsReceivingPort}
use Rattle.of_alike.specs.{declared.alike.Compared.Compared, Emitting.LeaveAlike, SamePorts.PortKey, SamePorts.SamePorts, SamePorts.port_key}
use Rattle.of_alike.proofs.EmissionLemmas.{receives_at, same_port_at}
use Rattle.of_diff.specs.{declared.pair.Pair.Pair, Differences.IsTreatedAlike, Pairs.AreStatesOfRuns}
use Rattle.of_ports.specs.{declared.port.Port.Port, Ports.port_at}
use Rattle.of_regions.specs.Witness.{IsIngressPort}

pub same_receiving : (ps qs : List Port) (n : ℕ) → SamePorts ps qs → IsReceivingPort ps n → IsReceivingPort qs n
same_receiving ps qs n same r = by_port (port_at qs n) refl (same_port_at n ps qs same)
  where
    by_port : (o : Option Port) → port_at qs n ≡ o → option_map port_key (port_at ps n) ≡ option_map port_key (port_at qs n) → IsReceivingPort qs n
    by_port None e keys = let odd : Some (port_key r.port) ≡ None = sym (ap (option_map port_key) r.there) ∙ (keys ∙ ap (option_map port_key) e) in absurd cc
    by_port (Some q) e keys =
        let both : Some (port_key r.port) ≡ Some (port_key q) = sym (ap (option_map port_key) r.there) ∙ (keys ∙ ap (option_map port_key) e) in
        let own : port_key r.port ≡ port_key q = cc in
        record { port = q; there = e; receives = sym (ap (λ (k : PortKey). k.receives) own) ∙ r.receives }

pub ingress_fits : (port : ℕ) → IsIngressPort port → port < 2 ^ 32
ingress_fits port (inl some) = let most = some.1 in omega (arith, most)
ingress_fits port (inr controller) = omega (arith, controller)

-- a state without packets gives what the run of each of its frames gives
abbrev pub GivesRuns : Type 0
GivesRuns = (w : TheWorld) (frame : List ℕ) (port : ℕ) (s : SymbolicState) → IsSound w → IsAt w frame port s → s.tasks.items ≡ [] → (run_of w (entering frame port) (Lookup 0 ∷ [])).items ≡ items_for w.ports s.emitted.items frame port

pub ended_alike : (c : Compared) (w v : TheWorld) (pair : Pair) → GivesRuns → IsSound w → IsSound v → SamePorts w.ports v.ports → pair.first.tasks.items ≡ [] → pair.second.tasks.items ≡ [] → LeaveAlike c w.ports pair.frames pair.first.emitted.items pair.second.emitted.items →
    AreStatesOfRuns w v pair → (frame : List ℕ) (port : ℕ) → IsReceivedAt w frame port → InFrames pair.frames frame port → IsTreatedAlike c w v frame port
ended_alike c w v pair gives sound sound' ports done done' same h frame port received within =
    let at = h.at frame port received.frame_is within in
    let first : items_at w frame port ≡ items_for w.ports pair.first.emitted.items frame port = gives w frame port pair.first sound at.0 done in
    let second : items_at v frame port ≡ items_for v.ports pair.second.emitted.items frame port = gives v frame port pair.second sound' at.1 done' in
    rw (first, second) (same v.ports ports frame port (receives_at w frame port received) within)
