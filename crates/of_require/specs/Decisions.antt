-- WHETHER A REQUIREMENT IS MET, as it is decided: by a frame, or since no frame decides it (OpenFlow 1.3.5, 5.1).
use Rattle.std.specs.Prelude.{◌≡◌, ◌<◌, ℕ, ◌&&◌, ◌⊎◌, Bool, true, not, List, ◌∷◌, length, ⊤}
use Rattle.of_oxm.specs.Relations.{matches_map}
use Rattle.of_machine.specs.{declared.data.Item.Item, declared.data.Step.Step, TheWorld.TheWorld}
use Rattle.of_symbolic.specs.Parts.{received_fields}
use Rattle.of_symbolic_run.specs.{PortNumbers.IsReceivingPort, PortNumbers.came_in_by, Received.IsReceivedAt, Received.items_at}
use Rattle.of_paths.specs.{Paths.ArePaths, declared.path.Paths.Paths}
use Rattle.of_paths.specs.declared.path.Merging.TheVariants as merging
use Rattle.of_require.specs.Requirements.{IsAbout, IsMet, is_done, does_at, is_counted, is_leaving}
use Rattle.of_require.specs.declared.deciding.Decision.{Decision}
use Rattle.of_require.specs.declared.deciding.Decision.TheVariants.{Frame, NoFrame, NoneMatches, Undecided}
use Rattle.of_require.specs.declared.requirement.Quantifier.{Quantifier}
use Rattle.of_require.specs.declared.requirement.Quantifier.TheVariants.{AtLeastOne, Each, No}
use Rattle.of_require.specs.{declared.requirement.Requirement.Requirement, declared.deciding.Verdict.Verdict, Packets.IsUnknownAmong}
use Rattle.of_require.specs.declared.deciding.Verdict.TheVariants as verdicts

-- a frame of which it is asked whether it does something decides: against `each` if it does not, against `no` and for `some` if it does
abbrev pub decides_so : Quantifier → Bool → Bool
decides_so Each is_done = not is_done
decides_so No is_done = is_done
decides_so AtLeastOne is_done = is_done

-- by the port at which it came in, and the steps and the items of its run; one that the requirement is not about decides nothing
abbrev pub decides : Requirement → ℕ → List Step → List Item → Bool
decides r in_port lines items = is_counted r.except_expired lines && is_leaving r.demand items && decides_so r.quantifier (is_done r.quantifier r.demand in_port lines items)

-- A FRAME DECIDES a requirement that is about it
pub record IsDeciding (w : TheWorld) (r : Requirement) (frame : List ℕ) (port : ℕ) : Type 0 where
  pub about : IsAbout w r frame port
  pub decides : decides_so r.quantifier (does_at w r frame port) ≡ true

-- no frame decides it that comes in by one of these ports
abbrev pub NoneDecides : TheWorld → Requirement → (ℕ → Type 0) → Type 0
NoneDecides w r among = (frame : List ℕ) (port : ℕ) → among port → IsDeciding w r frame port → ⊥

-- no frame is received that comes in by one of these ports, that its conditions match, and of which something leaves by the places that it is about
abbrev pub NoneMatch : TheWorld → Requirement → (ℕ → Type 0) → Type 0
NoneMatch w r among =
    (frame : List ℕ) (port : ℕ) → among port → IsReceivedAt w frame port → matches_map r.within.items (received_fields frame port) ≡ true →
    is_leaving r.demand (items_at w frame port) ≡ true → ⊥

-- of the frames that come in by a port of the switch, which receives, it is not known of all what they do, or which of them make packets have fields
pub record IsUndecidedAtPort (w : TheWorld) (r : Requirement) (steps : ℕ) (port : ℕ) : Type 0 where
  pub receives : IsReceivingPort w.ports port
  pub found : Paths
  pub paths : ArePaths merging.Each w (came_in_by port ∷ r.within.items) steps found
  pub some : (0 < length found.undecided.items) ⊎ IsUnknownAmong r.demand steps found.classes.items

-- WHAT IS DECIDED for the frames that come in by some ports: a frame, which was run; or no frame decides it, and none may match
abbrev pub IsDecisionAmong : (ℕ → Type 0) → TheWorld → Requirement → ℕ → Decision → Type 0
IsDecisionAmong among w r steps (Frame shown) = IsDeciding w r shown.frame.items shown.in_port × (shown.items.items ≡ items_at w shown.frame.items shown.in_port)
IsDecisionAmong among w r steps NoFrame = NoneDecides w r among
IsDecisionAmong among w r steps NoneMatches = NoneMatch w r among
IsDecisionAmong among w r steps (Undecided port) = IsUndecidedAtPort w r steps port

-- for all frames
abbrev pub IsDecision : TheWorld → Requirement → ℕ → Decision → Type 0
IsDecision w r steps decision = IsDecisionAmong (λ port. ⊤) w r steps decision

-- ---- THE VERDICT: a frame shows that `some` is met, and that `no` or `each` is not

abbrev pub verdict_by_frame : Quantifier → Verdict
verdict_by_frame AtLeastOne = verdicts.Holds
verdict_by_frame No = verdicts.Fails
verdict_by_frame Each = verdicts.Fails

abbrev pub verdict_by_none : Quantifier → Verdict
verdict_by_none AtLeastOne = verdicts.Fails
verdict_by_none No = verdicts.Holds
verdict_by_none Each = verdicts.Holds

abbrev pub verdict_by : Quantifier → Decision → Verdict
verdict_by quantifier (Frame shown) = verdict_by_frame quantifier
verdict_by quantifier NoFrame = verdict_by_none quantifier
verdict_by quantifier NoneMatches = verdict_by_none quantifier
verdict_by quantifier (Undecided port) = verdicts.Undecided

-- it is right
abbrev pub IsRight : TheWorld → Requirement → Verdict → Type 0
IsRight w r verdicts.Holds = IsMet w r
IsRight w r verdicts.Fails = IsMet w r → ⊥
IsRight w r verdicts.Undecided = ⊤
