-- What covers a match overlaps it, so an entry that covers one is among its rivals.
use Rattle.std.proofs.Common.{◌≡◌, ℕ, zero, suc, ◌<◌, true, false, List, [], ◌∷◌, Option, None, Some, length, refl, sym, ap, subst, ◌∙◌, arith, inl, inr}
use Rattle.std.specs.{Prelude.IfSome, Prelude.slice_get, Prelude.slice_index_or, List.All, Option.option_map}
use Rattle.of_layers.specs.declared.field.Field.{Field}
use Rattle.of_headers.specs.FieldMap.{seen}
use Rattle.of_oxm.specs.{declared.match_field.MatchField.MatchField, NormalForm.IsKept, NormalForm.IsMatch}
use Rattle.of_oxm.specs.{Relations.bits_looked_at, Relations.covers_match, Relations.matches_map, Relations.overlaps_match, Masks.first_at, Masks.value_of}
use Rattle.of_oxm.proofs.{Joined.covered, Joined.found_if, Related.covered_matched, Related.matched_overlap, Seen.seen_matched}
use Rattle.of_table.specs.Table.{FlowEntry}
use Rattle.of_regions.specs.declared.rival.Rival.{Rival}
use Rattle.of_check.specs.Verdicts.{AreRivals, Covers, GoesBefore, is_covering}

own_seen : (f : Field) (o : Option MatchField) → IfSome o (λ y. IsKept y × (y.field ≡ f)) → seen (option_map bits_looked_at o) (option_map (λ (y : MatchField). y.value) o) ≡ option_map (λ (y : MatchField). y.value) o
own_seen f None h = refl
own_seen f (Some y) h = ap Some (covered y h.0)

-- the values that a match asks for
matched_by_values : (m : List MatchField) → IsMatch m → matches_map m (value_of m) ≡ true
matched_by_values m fine = seen_matched m (value_of m) fine (λ f. own_seen f (first_at m f) (found_if m f (first_at m f) fine.each refl))

covering_overlaps : (d m : List MatchField) → IsMatch m → covers_match d m ≡ true → overlaps_match d m ≡ true
covering_overlaps d m fine covers =
    let own = matched_by_values m fine in
    matched_overlap d m (value_of m) (covered_matched d m (value_of m) covers own) own

one_entry : (flows : List FlowEntry) (j : ℕ) (a b : FlowEntry) → slice_get flows j ≡ Some a → slice_get flows j ≡ Some b → a ≡ b
one_entry flows j a b at is = cc

module _ (flows : List FlowEntry) (k : ℕ) (own : FlowEntry) (own_there : slice_get flows k ≡ Some own) where
  pub rival_covers : (j : ℕ) → GoesBefore flows j k → is_covering (slice_get flows j) own.flow.fields ≡ true → Covers flows j k
  rival_covers j b covering =
      let wide : covers_match b.first.flow.fields own.flow.fields ≡ true = ap (λ (e : Option FlowEntry). is_covering e own.flow.fields) (sym b.first_there) ∙ covering in
      record { before = b; wider = subst (λ (x : FlowEntry). covers_match b.first.flow.fields x.flow.fields ≡ true) (one_entry flows k own b.second own_there b.second_there) wide }

  covering_own : (j : ℕ) (c : Covers flows j k) → covers_match c.before.first.flow.fields own.flow.fields ≡ true
  covering_own j c = subst (λ (x : FlowEntry). covers_match c.before.first.flow.fields x.flow.fields ≡ true) (one_entry flows k c.before.second own c.before.second_there own_there) c.wider

  pub none_covers : (rivals : List Rival) → IsMatch own.flow.fields → AreRivals flows k own rivals → All (λ (r : Rival). is_covering (slice_get flows r.name) own.flow.fields ≡ false) rivals → (j : ℕ) → ¬ (Covers flows j k)
  none_covers rivals fine are none j c = elim (are.all j c.before) as (λ w. ⊥) [
    | inl kept ↦ (
        let q = kept.0 in
        let there = kept.1 in
        let not_so : is_covering (slice_get flows q.name) own.flow.fields ≡ false = subst (λ (r : Rival). is_covering (slice_get flows r.name) own.flow.fields ≡ false) there.2 (none there.0 q there.1) in
        let at_j : is_covering (slice_get flows j) own.flow.fields ≡ false = subst (λ (n : ℕ). is_covering (slice_get flows n) own.flow.fields ≡ false) kept.2 not_so in
        let so : is_covering (slice_get flows j) own.flow.fields ≡ true = ap (λ (e : Option FlowEntry). is_covering e own.flow.fields) c.before.first_there ∙ covering_own j c in
        absurd cc)
    | inr apart ↦ (
        let overlap : overlaps_match c.before.first.flow.fields own.flow.fields ≡ true = covering_overlaps c.before.first.flow.fields own.flow.fields fine (covering_own j c) in
        absurd cc)
  ]

-- which value is there past the end makes no difference
pub any_default : {A : Type 0} (xs : List A) (k : ℕ) (d e : A) → k < length xs → slice_index_or xs k d ≡ slice_index_or xs k e
any_default [] k d e lt = absurd (omega (arith, lt))
any_default (x ∷ xs) zero d e lt = refl
any_default (x ∷ xs) (suc k) d e lt = any_default xs k d e (omega (arith, lt))
