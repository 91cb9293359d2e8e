-- Entries that one entry covers.
use Rattle.std.proofs.Common.{◌≡◌, ℕ, ◌≤◌, true, Option, Some, None, List, [], ◌∷◌, length, refl, subst, arith, inl, inr}
use Rattle.std.{specs.Prelude.slice_get, specs.List.Contains, proofs.lemmas.Option.slice_get_cases}
use Rattle.of_layers.specs.declared.field.Field.{Field}
use Rattle.of_oxm.specs.{declared.match_field.MatchField.MatchField, Relations.covers_match, Relations.matches_map}
use Rattle.of_table.specs.Table.{FlowEntry}
use Rattle.of_regions.proofs.NamingLemmas.{first_or_behind}
use Rattle.of_check.specs.Verdicts.{NeverWins, GoesBefore, Covers, fields_of}

one_entry : (flows : List FlowEntry) (j : ℕ) (e f : FlowEntry) → slice_get flows j ≡ Some e → slice_get flows j ≡ Some f → e ≡ f
one_entry flows j e f a b = cc

module _ (covered : (d m : List MatchField) (map : Field → Option ℕ) → covers_match d m ≡ true → matches_map m map ≡ true → matches_map d map ≡ true) where
  -- the entry at k never wins
  pub cover_takes : (flows : List FlowEntry) (j k : ℕ) → Covers flows j k → NeverWins flows k (j ∷ [])
  cover_takes flows j k c = record {
    before = λ i h. subst (λ x. GoesBefore flows x k) (only_one i h) c.before;
    shares = λ i h. inl (subst (λ x. Covers flows x k) (only_one i h) c);
    covered = λ p is m.
        let same : m.entry ≡ c.before.second = one_entry flows k m.entry c.before.second m.there c.before.second_there in
        (j, (0, omega arith, refl), record { entry = c.before.first; there = c.before.first_there; matches = covered c.before.first.flow.fields c.before.second.flow.fields (fields_of p) c.wider (subst (λ x. matches_map x.flow.fields (fields_of p) ≡ true) same m.matches) });
    by_age = (tt, tt);
  }
    where
      only_one : (i : ℕ) → Contains (j ∷ []) i → j ≡ i
      only_one i h = elim (first_or_behind j i [] h) as (λ w. j ≡ i) [ inl old ↦ absurd (omega (arith, old.1)) | inr e ↦ e ]

-- ---- none covers

pub ends_at : (flows : List FlowEntry) (n : ℕ) → slice_get flows n ≡ None → length flows ≤ n
ends_at flows n none = elim (slice_get_cases flows n).1 as (λ w. length flows ≤ n) [
  | inl some ↦ (let at = some.2 in absurd cc)
  | inr past ↦ past.0
]

-- the entry at k does not cover itself from a place that has no entry
pub none_absent : (flows : List FlowEntry) (k : ℕ) → slice_get flows k ≡ None → (j : ℕ) → ¬ (Covers flows j k)
none_absent flows k none j c = let there = c.before.second_there in absurd cc
