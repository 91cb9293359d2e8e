-- `==` tells actions apart, and so lists of them.
use Rattle.std.proofs.Common.{◌≡◌, Bool, true, List, ap, refl, sym, ◌∙◌, rules}
use Rattle.std.{specs.Bool.Decides, specs.Cmp.Lexicographic.pointwise, proofs.lemmas.Bool.Decides.Decides-and, proofs.lemmas.Bool.Decides.Decides-eqb, proofs.lemmas.Bool.Decides.Decides-like}
use Rattle.std.proofs.lemmas.Slice.Eq.{slice_eq-Decides}
use denote.Enum.Bare.{same_true}
use Rattle.of_layers.specs.{contracts.field.Field.the_type, declared.field.Field.Field, declared.field.Field.TheVariants.InPort}
use Rattle.of_layers.specs.contracts.field.FieldPartialEq.TheImpl as the_field
use Rattle.of_actions.specs.contracts.action.ActionPartialEq.TheImpl as the_action
use Rattle.of_actions.specs.declared.action.Action.TheVariants.{Output, PushVlan, PopVlan, Group, SetNwTtl, DecNwTtl, SetField}
use Rattle.of_actions.specs.declared.action.Action.{Action}

field_self : (f : Field) → the_field.eq-value.it f f ≡ true
field_self f = elim f as (λ f. the_field.eq-value.it f f ≡ true) [ InPort ↦ refl | _ ↦ refl ]

one_field : (f g : Field) → Decides (the_field.eq-value.it f g) (f ≡ g)
one_field f g = (λ h. same_true the_type (search rules) _ _ h, λ e. ap (the_field.eq-value.it f) (sym e) ∙ field_self f)

one_action : (a b : Action) → Decides (the_action.eq-value.it a b) (a ≡ b)
one_action (Output p m) (Output q n) =
    Decides-like _ (λ h. let x = h.0 in let y = h.1 in cc) (λ h. (let e : p ≡ q = cc in e, let e : m ≡ n = cc in e)) (Decides-and _ _ (Decides-eqb p q) (Decides-eqb m n))
one_action (Output p m) other = (λ h. absurd cc, λ h. absurd cc)
one_action (PushVlan x) (PushVlan y) = Decides-like _ (λ h. ap PushVlan h) (λ h. let e : x ≡ y = cc in e) (Decides-eqb x y)
one_action (PushVlan x) other = (λ h. absurd cc, λ h. absurd cc)
one_action PopVlan PopVlan = (λ h. refl, λ h. refl)
one_action PopVlan other = (λ h. absurd cc, λ h. absurd cc)
one_action (Group x) (Group y) = Decides-like _ (λ h. ap Group h) (λ h. let e : x ≡ y = cc in e) (Decides-eqb x y)
one_action (Group x) other = (λ h. absurd cc, λ h. absurd cc)
one_action (SetNwTtl x) (SetNwTtl y) = Decides-like _ (λ h. ap SetNwTtl h) (λ h. let e : x ≡ y = cc in e) (Decides-eqb x y)
one_action (SetNwTtl x) other = (λ h. absurd cc, λ h. absurd cc)
one_action DecNwTtl DecNwTtl = (λ h. refl, λ h. refl)
one_action DecNwTtl other = (λ h. absurd cc, λ h. absurd cc)
one_action (SetField f v) (SetField g w) =
    Decides-like _ (λ h. let x = h.0 in let y = h.1 in cc) (λ h. (let e : f ≡ g = cc in e, let e : v ≡ w = cc in e)) (Decides-and _ _ (one_field f g) (Decides-eqb v w))
one_action (SetField f v) other = (λ h. absurd cc, λ h. absurd cc)

pub same_actions : (xs ys : List Action) (r : Bool) → r ≡ pointwise the_action.eq-value.it xs ys → Decides r (xs ≡ ys)
same_actions xs ys r e = slice_eq-Decides one_action xs ys r e
