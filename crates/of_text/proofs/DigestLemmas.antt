-- Flows of one table, priority and match have the same digest.
use Rattle.std.proofs.Common.{◌≡◌, ℕ, ◌<◌, eqb, Bool, true, false, cond, List, [], ◌∷◌, ◌++◌, length, get_or, set, refl, sym, ap, ◌∙◌}
use Rattle.std.specs.{Prelude.◌&&◌, Prelude.slice_index_or, HashSet.HashSet, HashSet.contains, List.list_any, Cmp.Lexicographic.pointwise}
use Rattle.std.proofs.{lemmas.Bool.eqb-true, lemmas.Bool.eq-eqb, lemmas.List.get_or-set_same, lemmas.List.get_or-set_other, lemmas.List.Folds.list_any-append}
use Rattle.of_oxm.{specs.SameMatch.is_same_match, specs.declared.match_field.MatchField.MatchField, proofs.Same.same_fields, proofs.Same.same_match}
use Rattle.of_oxm.specs.contracts.match_field.MatchFieldPartialEq.TheImpl as the_match_field
use Rattle.of_text.specs.{Flows.Flow, Refusals.has_same_match, Configs.with_flow_in_table, Digests.flow_digest, Digests.ShowsRepeats}

and_both : (a b : Bool) → (a && b) ≡ true → (a ≡ true) × (b ≡ true)
and_both true b h = (refl, h)
and_both false b h = absurd cc

pub equal_fields : (xs ys : List MatchField) → is_same_match xs ys ≡ true → xs ≡ ys
equal_fields xs ys h = (same_fields xs ys (pointwise the_match_field.eq-value.it xs ys) refl).0 (same_match xs ys (pointwise the_match_field.eq-value.it xs ys) refl ∙ h)

pub digest_same : (a b : Flow) → b.head.table ≡ a.head.table → b.head.priority ≡ a.head.priority → b.fields ≡ a.fields → flow_digest a ≡ flow_digest b
unfolding flow_digest
digest_same a b t p f = rw (t, p, f) refl

same_in_table : (f g : Flow) → g.head.table ≡ f.head.table → has_same_match f g ≡ true → flow_digest g ≡ flow_digest f
same_in_table f g t h =
    let both = and_both (eqb g.head.priority f.head.priority) (is_same_match g.fields f.fields) h in
    sym (digest_same f g t (eqb-true g.head.priority f.head.priority both.0) (equal_fields g.fields f.fields both.1))

apart : (f x : Flow) → x.head.table ≡ f.head.table → eqb (flow_digest x) (flow_digest f) ≡ false → has_same_match f x ≡ false
apart f x t e = by_test (has_same_match f x) refl
  where
    by_test : (b : Bool) → has_same_match f x ≡ b → has_same_match f x ≡ false
    by_test false r = r
    by_test true r = let same : eqb (flow_digest x) (flow_digest f) ≡ true = eq-eqb (flow_digest x) (flow_digest f) (same_in_table f x t r) in absurd cc

pub shows_none : {S : Type 0} (digests : HashSet ℕ S) (tables : List (List Flow)) → ((t : ℕ) → slice_index_or tables t [] ≡ []) → ShowsRepeats digests tables
shows_none digests tables empty f e = ap (λ (fs : List Flow). list_any (has_same_match f) fs) (empty f.head.table)

pub shows_more : {S : Type 0} (old new : HashSet ℕ S) (x : Flow) (tables : List (List Flow)) → ShowsRepeats old tables → x.head.table < length tables
    → ((q : ℕ) → contains eqb new q ≡ cond (eqb (flow_digest x) q) true (contains eqb old q)) → ShowsRepeats new (with_flow_in_table x tables)
shows_more old new x tables h lt put f e = by_digest (eqb (flow_digest x) (flow_digest f)) refl
  where
    more : List Flow
    more = get_or tables x.head.table [] ++ x ∷ []

    by_table : eqb (flow_digest x) (flow_digest f) ≡ false → list_any (has_same_match f) (get_or tables f.head.table []) ≡ false → (t : Bool) → eqb f.head.table x.head.table ≡ t → list_any (has_same_match f) (get_or (set tables x.head.table more) f.head.table []) ≡ false
    by_table d before true t =
        let there : f.head.table ≡ x.head.table = eqb-true f.head.table x.head.table t in
        ap (λ (n : ℕ). list_any (has_same_match f) (get_or (set tables x.head.table more) n [])) there
        ∙ (ap (λ (fs : List Flow). list_any (has_same_match f) fs) (get_or-set_same tables x.head.table more [] lt)
        ∙ (list_any-append (has_same_match f) (get_or tables x.head.table []) (x ∷ [])
        ∙ rw (apart f x (sym there) d, ap (λ (n : ℕ). list_any (has_same_match f) (get_or tables n [])) (sym there) ∙ before) refl))
    by_table d before false t =
        let other : f.head.table ≡ x.head.table → ⊥ = λ (is : f.head.table ≡ x.head.table). let same : eqb f.head.table x.head.table ≡ true = eq-eqb f.head.table x.head.table is in absurd cc in
        ap (λ (fs : List Flow). list_any (has_same_match f) fs) (get_or-set_other tables x.head.table f.head.table more [] other) ∙ before

    by_digest : (b : Bool) → eqb (flow_digest x) (flow_digest f) ≡ b → list_any (has_same_match f) (get_or (set tables x.head.table more) f.head.table []) ≡ false
    by_digest true d = let there : contains eqb new (flow_digest f) ≡ true = put (flow_digest f) ∙ rw d refl in absurd cc
    by_digest false d = by_table d (h f (sym (put (flow_digest f) ∙ rw d refl) ∙ e)) (eqb f.head.table x.head.table) refl
