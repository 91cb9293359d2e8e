-- `==` tells fields of matches apart, and so lists of them.
use Rattle.std.proofs.Common.{◌≡◌, ℕ, Bool, true, false, eqb, ◌&&◌, List, Option, Some, None, ap, refl, sym, ◌∙◌, rules}
use Rattle.std.{specs.Prelude.nat_eq, specs.Bool.Decides, specs.Option.option_eq, specs.Cmp.Lexicographic.pointwise, proofs.lemmas.Bool.eqb-true, proofs.lemmas.Bool.eq-eqb}
use Rattle.std.proofs.{lemmas.Bool.Decides.Decides-and, lemmas.Bool.Decides.Decides-eqb, lemmas.Bool.Decides.Decides-like, lemmas.Slice.Eq.slice_eq-Decides}
use denote.Enum.Bare.{same_true}
use Rattle.of_layers.{specs.contracts.field.Field.the_type, specs.declared.field.Field.Field, specs.declared.field.Field.TheVariants.InPort, specs.Fields.number_of, proofs.Table.same_number}
use Rattle.of_layers.specs.contracts.field.FieldPartialEq.TheImpl as the_field
use Rattle.of_oxm.specs.contracts.match_field.MatchFieldPartialEq.TheImpl as the_match_field
use Rattle.of_oxm.specs.{declared.match_field.MatchField.MatchField, SameMatch.is_same_field, SameMatch.is_same_match}

-- a field of a match, by its parts
abbrev made : Field → ℕ → Option ℕ → MatchField
made f v m = record { field = f; value = v; mask = m }

same_made : (f g : Field) (v w : ℕ) (m n : Option ℕ) → f ≡ g → v ≡ w → m ≡ n → made f v m ≡ made g w n
same_made f g v w m n p q r = cc

same_mask : (m n : Option ℕ) → Decides (option_eq nat_eq m n) (m ≡ n)
same_mask None None = (λ h. refl, λ h. refl)
same_mask None (Some n) = (λ h. absurd cc, λ h. absurd cc)
same_mask (Some m) None = (λ h. absurd cc, λ h. absurd cc)
same_mask (Some m) (Some n) = (λ h. ap Some (eqb-true m n h), λ h. let e : m ≡ n = cc in eq-eqb m n e)

-- whatever tells fields apart tells fields of matches apart
same_parts : (r : Bool) (a b : MatchField) → Decides r (a.field ≡ b.field) → Decides (r && (eqb a.value b.value && option_eq nat_eq a.mask b.mask)) (a ≡ b)
same_parts r a b fields =
    Decides-like _ (λ h. same_made _ _ _ _ _ _ h.0 h.1.0 h.1.1) (λ h. (ap (λ (m : MatchField). m.field) h, (ap (λ (m : MatchField). m.value) h, ap (λ (m : MatchField). m.mask) h)))
    (Decides-and _ _ fields (Decides-and _ _ (Decides-eqb a.value b.value) (same_mask a.mask b.mask)))

-- by number
same_field : (a b : MatchField) → Decides (is_same_field a b) (a ≡ b)
same_field a b =
    same_parts _ a b (λ h. same_number a.field b.field (eqb-true _ _ h), λ h. eq-eqb _ _ (ap number_of h))

-- by the derived `==`
field_self : (f : Field) → the_field.eq-value.it f f ≡ true
field_self f = elim f as (λ f. the_field.eq-value.it f f ≡ true) [ InPort ↦ refl | _ ↦ refl ]

field_like : (f g : Field) → f ≡ g → the_field.eq-value.it f g ≡ true
field_like f g e = ap (the_field.eq-value.it f) (sym e) ∙ field_self f

field_same : (f g : Field) → the_field.eq-value.it f g ≡ true → f ≡ g
field_same f g h = same_true the_type (search rules) _ _ h

derived_same : (a b : MatchField) → Decides (the_match_field.eq-value.it a b) (a ≡ b)
derived_same a b = same_parts (the_field.eq-value.it a.field b.field) a b (field_same a.field b.field, field_like a.field b.field)

two_tests : (r s : Bool) (P : Type 0) → Decides r P → Decides s P → r ≡ s
two_tests true true P h k = refl
two_tests true false P h k = sym (k.1 (h.0 refl))
two_tests false true P h k = h.1 (k.0 refl)
two_tests false false P h k = refl

pub same_fields : (xs ys : List MatchField) (r : Bool) → r ≡ pointwise the_match_field.eq-value.it xs ys → Decides r (xs ≡ ys)
same_fields xs ys r e = slice_eq-Decides derived_same xs ys r e

pub same_match : (xs ys : List MatchField) (r : Bool) → r ≡ pointwise the_match_field.eq-value.it xs ys → r ≡ is_same_match xs ys
same_match xs ys r e =
    two_tests r (is_same_match xs ys) (xs ≡ ys) (same_fields xs ys r e) (slice_eq-Decides same_field xs ys (is_same_match xs ys) refl)
