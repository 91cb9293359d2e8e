-- Work that comes to no table before one.
use Rattle.std.proofs.Common.{◌≡◌, ℕ, true, false, ◌-◌, List, [], ◌∷◌, length, drop, take, ap, subst, ◌∙◌, arith, length-drop}
use Rattle.std.{specs.Prelude.slice_index_or, specs.List.list_all, proofs.lemmas.List.take_all}
use Rattle.of_actions.specs.{declared.action.Action.Action, Supported.is_supported}
use Rattle.of_action_set.specs.Sets.{with_actions}
use Rattle.of_alike.{specs.Agreeing.AreNoTable, proofs.Agreeing.set_with_all, proofs.AgreeingRuns.all_no_table}
use Rattle.of_diff.specs.Changing.{FirstSetIsOfPorts}
use Rattle.of_symbolic_run.specs.{declared.state.SymbolicTask.SymbolicTask, States.answer_to_tasks}
use Rattle.of_symbolic_run.specs.declared.advance.Advance.TheVariants as advances

-- the action set of the first packet
pub first_set : (ts : List SymbolicTask) (x : SymbolicTask) (written : List Action) (t : ℕ) → answer_to_tasks ts ≡ advances.Lookup t → x ≡ slice_index_or ts 0 x → written ≡ x.packet.written → list_all (is_supported false) written ≡ true → FirstSetIsOfPorts ts
first_set [] x written t answer is same served = absurd cc
first_set (y ∷ ts) x written t answer is same served = subst (λ (l : List Action). AreNoTable (with_actions [] l)) (same ∙ ap (λ (z : SymbolicTask). z.packet.written) is) (set_with_all [] written tt (all_no_table written served))

-- all packets but the first
pub all_behind : (ts : List SymbolicTask) → take (length ts - 1) (drop 1 ts) ≡ drop 1 ts
all_behind ts = take_all (length ts - 1) (drop 1 ts) (omega (arith, length-drop 1 ts))
