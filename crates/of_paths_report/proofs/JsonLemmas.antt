-- Classes of paths in an array.
use Rattle.std.proofs.Common.{◌≡◌, ℕ, ◌≤◌, Bool, true, false, List, [], ◌++◌, length, drop, refl, sym, ap, ◌∙◌, drop_of_length-le}
use Rattle.std.{specs.Prelude.Option, proofs.lemmas.List.append-nil}
use Rattle.of_paths.specs.{declared.path.PathClass.PathClass, declared.destination.Destination.Destination}
use Rattle.of_paths_report.specs.PathsJson.{listed_behind, shown_classes}

none_behind : (begun : Bool) (text : PathClass → List ℕ) → listed_behind begun text [] ≡ []
none_behind true text = refl
none_behind false text = refl

-- behind the last class nothing follows
pub all_shown : (begun : Bool) (text : PathClass → List ℕ) (to : Option Destination) (classes : List PathClass) (i : ℕ) (out all : List ℕ) → length classes ≤ i →
    out ++ listed_behind begun text (shown_classes to (drop i classes)) ≡ all → out ≡ all
all_shown begun text to classes i out all le so_far =
    let none : listed_behind begun text (shown_classes to (drop i classes)) ≡ [] = ap (λ (cs : List PathClass). listed_behind begun text (shown_classes to cs)) (drop_of_length-le classes le) ∙ none_behind begun text in
    sym (append-nil out) ∙ (ap (λ (xs : List ℕ). out ++ xs) (sym none) ∙ so_far)
