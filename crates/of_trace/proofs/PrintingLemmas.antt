-- What is printed of a trace.
use Rattle.std.proofs.Common.{◌≡◌, ℕ, suc, ◌<◌, List, ◌∷◌, get_or, drop, length, drop-cons}
use Rattle.std.specs.List.{AllByRecursion}
use Rattle.of_oxm.specs.{declared.match_field.MatchField.MatchField, NormalForm.IsKept}
use Rattle.of_lines.specs.declared.row.Row.TheVariants as rows
use Rattle.of_text.{specs.Rows.Fits, proofs.KeptLemmas.field_fits}

-- a field of a match that a table keeps
pub match_fits : (xs : List MatchField) (i : ℕ) (d : MatchField) → AllByRecursion IsKept (drop i xs) → i < length xs → Fits (rows.Match (get_or xs i d))
match_fits xs i d h lt =
    let split : drop i xs ≡ get_or xs i d ∷ drop (suc i) xs = drop-cons xs i d lt in
    field_fits (get_or xs i d) (rw split at h).0
