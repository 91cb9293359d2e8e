-- The winner is the oldest of the matching entries of the highest priority.
use Rattle.std.proofs.Common.{◌≡◌, ℕ, ◌<◌, ◌≤◌, Bool, true, false, List, Option, Some, None, refl, sym, ap, subst, ◌∙◌, arith, inl, inr, ◌⊎◌}
use Rattle.std.specs.Prelude.{find, nat_le, slice_get, ◌&&◌, ◌↔◌}
use Rattle.std.{specs.List.list_all, proofs.lemmas.Bool.cases_lt, proofs.lemmas.Bool.Decides.nat_tests}
use Rattle.of_layers.specs.declared.field.Field.{Field}
use Rattle.of_wire.{specs.Highest.is_highest, specs.Highest.oldest_highest, proofs.HighestLemmas.oldest_highest-none}
use Rattle.of_classifier.specs.Winner.{is_matching, matching, winner_of, Wins, NoneMatches}
use Rattle.of_classifier.proofs.Finding.{FoundAt, found_at, find_from, find-filter, kept_at, kept_all, filter_empty, filter_none}
use Rattle.of_classifier.specs.{declared.Row.Row, Rows.row_priority}

-- it matches, and no matching entry has a higher priority
abbrev tops : List Row → (Field → Option ℕ) → Row → Bool
tops rows key r = is_highest row_priority (matching rows key) r

abbrev passes : List Row → (Field → Option ℕ) → Row → Bool
passes rows key r = is_matching key r && tops rows key r

winner-find : (rows : List Row) (key : Field → Option ℕ) → winner_of rows key ≡ find (passes rows key) rows
winner-find rows key = find-filter (is_matching key) (tops rows key) rows

record Both (a b : Bool) : Type 0 where
  left : a ≡ true
  right : b ≡ true

both : (a b : Bool) → (a && b) ≡ true → Both a b
both true b e = record { left = refl; right = e }
both false b e = absurd cc

nat_le-true : (a b : ℕ) → nat_le a b ≡ true → a ≤ b
nat_le-true a b e = grind (arith, nat_tests)

true-nat_le : (a b : ℕ) → a ≤ b → nat_le a b ≡ true
true-nat_le a b e = grind (arith, nat_tests)

-- where none is higher than an entry, none is higher than another of its priority
tops_same : (rows : List Row) (key : Field → Option ℕ) (r s : Row) → s.priority ≡ r.priority → tops rows key r ≡ true → tops rows key s ≡ true
tops_same rows key r s same h = subst (λ (p : ℕ). list_all (λ x. nat_le x.priority p) (matching rows key) ≡ true) (sym same) h

not_false : (a : Bool) → a ≡ true → a ≡ false → ⊥
not_false a e f = let g : true ≡ false = sym e ∙ f in cc

found_wins : (rows : List Row) (key : Field → Option ℕ) (r : Row) (place : ℕ) → FoundAt (passes rows key) rows place r → Wins rows key place r
found_wins rows key r place f =
    let p = both (is_matching key r) (tops rows key r) f.passes in
    record {
      stands = f.stands;
      matches = p.left;
      highest = λ k s g m. nat_le-true s.priority r.priority (kept_at (is_matching key) (λ x. nat_le x.priority r.priority) rows p.right k s g m);
      oldest = λ k s g m same. not_before k s g m same p.right (cases_lt k place);
    }
  where
    not_before : (k : ℕ) (s : Row) → slice_get rows k ≡ Some s → is_matching key s ≡ true → s.priority ≡ r.priority → tops rows key r ≡ true → (k < place) ⊎ (place ≤ k) → place ≤ k
    not_before k s g m same top (inl lt) =
        let top_s = tops_same rows key r s same top in
        let passed : passes rows key s ≡ true = rw (m, top_s) refl in
        absurd (not_false (passes rows key s) passed (f.first k s lt g))
    not_before k s g m same top (inr le) = le

wins_found : (rows : List Row) (key : Field → Option ℕ) (r : Row) (place : ℕ) → Wins rows key place r → FoundAt (passes rows key) rows place r
wins_found rows key r place w = record {
  stands = w.stands;
  passes = rw (w.matches, kept_all (is_matching key) (λ x. nat_le x.priority r.priority) rows (λ k s g m. true-nat_le s.priority r.priority (w.highest k s g m))) refl;
  first = λ k s lt g. fails k s lt g (passes rows key s) refl;
}
  where
    fails : (k : ℕ) (s : Row) → k < place → slice_get rows k ≡ Some s → (b : Bool) → passes rows key s ≡ b → passes rows key s ≡ false
    fails k s lt g false e = e
    fails k s lt g true e =
        let p = both (is_matching key s) (tops rows key s) e in
        let below : s.priority ≤ r.priority = w.highest k s g p.left in
        let above : r.priority ≤ s.priority = nat_le-true r.priority s.priority (kept_at (is_matching key) (λ x. nat_le x.priority s.priority) rows p.right place r w.stands w.matches) in
        let later : place ≤ k = w.oldest k s g p.left (omega arith) in
        absurd (omega arith)

pub wins_both : (rows : List Row) (key : Field → Option ℕ) (r : Row) → (winner_of rows key ≡ Some r) ↔ ((place : ℕ) × Wins rows key place r)
wins_both rows key r = (
  λ h. (let f = found_at (passes rows key) rows r (sym (winner-find rows key) ∙ h) in (f.0, found_wins rows key r f.0 f.1)),
  λ w. winner-find rows key ∙ find_from (passes rows key) rows w.0 r (wins_found rows key r w.0 w.1),
)

pub none_both : (rows : List Row) (key : Field → Option ℕ) → (winner_of rows key ≡ None) ↔ NoneMatches rows key
none_both rows key = (
  λ h. filter_empty (is_matching key) rows (oldest_highest-none row_priority (matching rows key) h),
  λ h. ap (oldest_highest row_priority) (filter_none (is_matching key) rows h),
)
