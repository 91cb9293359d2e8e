-- The type of an action with what it says is the action's again.
use Rattle.std.proofs.Common.{◌≡◌, ℕ, Some, refl, arith}
use Rattle.std.proofs.lemmas.Bool.Decides.{nat_tests}
use Rattle.of_actions.specs.{declared.action.Action.Action, declared.action.Action.TheVariants.PopVlan, declared.argument.Argument.Argument, declared.argument.Argument.TheVariants.Nothing}
use Rattle.of_actions.specs.Rows.{said, action_saying}

-- an action has this type, and says this
pub record Is (type : ℕ) (s : Argument) (a : Action) : Type 0 where
  pub kind : (said a).0.kind ≡ type
  pub says : (said a).1 ≡ s

pub is_said : (type : ℕ) (s : Argument) (a : Action) → action_saying type s ≡ Some a → Is type s a
is_said type Nothing a h = record { kind = grind (arith, nat_tests, h); says = grind (arith, nat_tests, h) }
is_said type other a h = record { kind = grind (arith, nat_tests, h); says = grind (arith, nat_tests, h) }

pub said_again : (a : Action) → action_saying (said a).0.kind (said a).1 ≡ Some a
said_again PopVlan = refl
said_again other = refl
