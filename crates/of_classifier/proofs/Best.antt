-- The winner, one more entry at a time.
use Rattle.std.proofs.Common.{◌≡◌, ℕ, ◌+◌, ◌<◌, Bool, true, false, cond, List, [], ◌∷◌, ◌++◌, length, get_or, take, Option, Some, None, refl, ◌∙◌, ap}
use Rattle.std.{specs.Prelude.nat_le, proofs.lemmas.List.take_more, proofs.lemmas.List.append-nil, proofs.lemmas.List.Elements.filter-append}
use Rattle.of_layers.specs.declared.field.Field.{Field}
use Rattle.of_wire.{specs.Highest.oldest_highest, proofs.HighestLemmas.better, proofs.HighestLemmas.oldest_more}
use Rattle.of_classifier.specs.{declared.Row.Row, Rows.row_priority, Winner.is_matching, Winner.matching, Winner.winner_of, Scanning.pair_of, Scanning.better_of}

pair-better : (o : Option Row) (r : Row) → pair_of (better row_priority o r) ≡ better_of (pair_of o) r
pair-better None r = refl
pair-better (Some b) r = by_test (nat_le r.priority b.priority)
  where
    by_test : (t : Bool) → pair_of (cond t (Some b) (Some r)) ≡ cond t (Some (b.number, b.priority)) (Some (r.number, r.priority))
    by_test true = refl
    by_test false = refl

one_more : (ms : List Row) (r : Row) (b : Bool) → pair_of (oldest_highest row_priority (ms ++ cond b (r ∷ []) [])) ≡ cond b (better_of (pair_of (oldest_highest row_priority ms)) r) (pair_of (oldest_highest row_priority ms))
one_more ms r true = ap pair_of (oldest_more row_priority ms r) ∙ pair-better (oldest_highest row_priority ms) r
one_more ms r false = ap (λ (xs : List Row). pair_of (oldest_highest row_priority xs)) (append-nil ms)

-- one more entry, at a key
pub winner_more : (rows : List Row) (key : Field → Option ℕ) (i : ℕ) (r : Row) → i < length rows → r ≡ get_or rows i r →
    pair_of (winner_of (take (i + 1) rows) key) ≡ cond (is_matching key r) (better_of (pair_of (winner_of (take i rows) key)) r) (pair_of (winner_of (take i rows) key))
winner_more rows key i r lt is =
    let e : matching (take (i + 1) rows) key ≡ matching (take i rows) key ++ matching (r ∷ []) key = rw (take_more rows i r lt, ← is) (filter-append (is_matching key) (take i rows) (r ∷ [])) in
    ap (λ (xs : List Row). pair_of (oldest_highest row_priority xs)) e ∙ one_more (matching (take i rows) key) r (is_matching key r)
