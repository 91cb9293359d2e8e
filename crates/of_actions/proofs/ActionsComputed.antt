-- What the grammar of actions says, computed.
use Rattle.std.proofs.Common.{◌≡◌, ℕ, Bool, List, [], length, Option, Some, None, Result, Ok, Err, arith}
use Rattle.std.{specs.Prelude.IfOk, specs.Prelude.IfErr, proofs.lemmas.Bool.ltb-false}
use Rattle.of_wire.specs.{declared.code.Code.Code, declared.code.ReadError.ReadError, Failures.Fails, Failures.Reads, Items.TakesBytes, Items.outcome}
use Rattle.of_wire.proofs.{ItemsRead.items_are, FirstLemmas.none_applies, FirstLemmas.first_false}
use Rattle.of_wire.specs.declared.code.ReadError.TheVariants as errors
use Rattle.of_actions.specs.{declared.action.Action.Action, Beginnings.len_at, Actions.actions_of, Actions.wire_action_refusals, Actions.actions_said, Actions.AreActions}

actions_take : (packet_out : Bool) → TakesBytes (actions_of packet_out)
unfolding wire_action_refusals
actions_take packet_out seen bytes some none =
    let low = first_false _ _ (first_false _ _ (none_applies (wire_action_refusals packet_out seen bytes) none).1.1.0) in
    omega (arith, ltb-false (len_at bytes) 8 low)

pub actions_are : (packet_out : Bool) (bytes : List ℕ) (actions : List Action) (fault : Option Code) → AreActions packet_out [] bytes actions fault → actions_said packet_out bytes ≡ outcome actions fault
unfolding actions_said
actions_are packet_out bytes actions fault h = items_are (actions_of packet_out) (length bytes) [] bytes actions fault (actions_take packet_out) (omega arith) h

pub actions_computed : (packet_out : Bool) (bytes : List ℕ) (r : Result (List Action) ReadError) → IfOk r (λ actions. AreActions packet_out [] bytes actions None)
    → IfErr r (Fails (λ code. (before : List Action) × AreActions packet_out [] bytes before (Some code))) → Reads r (actions_said packet_out bytes)
actions_computed packet_out bytes (Ok actions) found refused = actions_are packet_out bytes actions None found
actions_computed packet_out bytes (Err errors.Memory) found refused = tt
actions_computed packet_out bytes (Err (errors.Refused code)) found refused = actions_are packet_out bytes refused.0 (Some code) refused.1
