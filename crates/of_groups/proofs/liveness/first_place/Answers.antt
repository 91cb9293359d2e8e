use Rattle.std.proofs.Common.{◌∙◌, sym, ap, ◌++◌, ◌∷◌, [], ℕ, List}
use Rattle.std.specs.Option.{option_to_list}
use Rattle.of_groups.proofs.liveness.first_place.Goals as goal

pub returns-in-Some : goal.returns-in-Some
returns-in-Some g c =
    c.push.ensures ∙ (ap (λ (xs : List ℕ). xs ++ c.in-Some.place ∷ []) c.new-places.ensures ∙ ap option_to_list (sym c.in-Some.is ∙ c.first_live.ensures))

pub returns-in_default : goal.returns-in_default
returns-in_default g c = c.new-places.ensures ∙ ap option_to_list (sym c.in_default.is ∙ c.first_live.ensures)
