-- What a match does with a region.
use Rattle.std.proofs.Common.{◌≡◌, ℕ, suc, Bool, true, false, cond, eqb, List, [], ◌∷◌, Option, Some, None, refl, sym, ap, ◌∙◌, arith}
use Rattle.std.specs.Prelude.{bit_and, not, find, ◌&&◌, ◌||◌}
use Rattle.std.{specs.List.Contains, specs.List.list_any, specs.Int.Bits.and_comm, proofs.lemmas.Bool.eqb-true, proofs.lemmas.Bool.eq-eqb, proofs.lemmas.Nat.and_assoc}
use Rattle.of_layers.specs.declared.field.Field.{Field}
use Rattle.of_headers.specs.FieldMap.{value, seen}
use Rattle.of_oxm.specs.{declared.match_field.MatchField.MatchField, Masks.mask_at, Relations.bits_looked_at, Relations.agrees, Relations.matches_map}
use Rattle.of_oxm.proofs.Related.{and_true}
use Rattle.of_regions.specs.{declared.region.Region.Region, Regions.InRegion, Meeting.IsCrossed, Meeting.is_apart, Meeting.is_settled}

abbrev settled : Region → MatchField → Bool
settled r e = is_settled e (mask_at r.masks e.field) (value r.known e.field)

abbrev apart : Region → MatchField → Bool
apart r e = is_apart e (mask_at r.masks e.field) (value r.known e.field)

-- ---- fields that are settled

bits_agree : (v bits mask known wanted : ℕ) → bit_and v mask ≡ known → bit_and bits mask ≡ bits → bit_and known bits ≡ wanted → bit_and v bits ≡ wanted
bits_agree v bits mask known wanted is wide same =
    ap (bit_and v) (sym wide ∙ and_comm bits mask) ∙ sym (and_assoc bits v mask) ∙ ap (λ (n : ℕ). bit_and n bits) is ∙ same

settled_agrees : (e : MatchField) (mask known o : Option ℕ) → seen mask o ≡ known → is_settled e mask known ≡ true → agrees e o ≡ true
settled_agrees e None known o is h = absurd cc
settled_agrees e (Some m) None o is h = absurd cc
settled_agrees e (Some m) (Some x) None is h = absurd cc
settled_agrees e (Some m) (Some x) (Some v) is h =
    let k : bit_and v m ≡ x = cc in
    let p = and_true (eqb (bit_and (bits_looked_at e) m) (bits_looked_at e)) (eqb (bit_and x (bits_looked_at e)) e.value) h in
    eq-eqb _ _ (bits_agree v (bits_looked_at e) m x e.value k (eqb-true (bit_and (bits_looked_at e) m) (bits_looked_at e) p.0) (eqb-true (bit_and x (bits_looked_at e)) e.value p.1))

settled_by : (r : Region) (e : MatchField) (m : List MatchField) (map : Field → Option ℕ) → InRegion r map → (b : Bool) → settled r e ≡ b
    → cond (not b) (Some e) (find (λ x. not (settled r x)) m) ≡ None → (find (λ x. not (settled r x)) m ≡ None → matches_map m map ≡ true) → (agrees e (map e.field) && matches_map m map) ≡ true
settled_by r e m map h false is none ih = absurd cc
settled_by r e m map h true is none ih = rw (settled_agrees e (mask_at r.masks e.field) (value r.known e.field) (map e.field) (h e.field) is) (ih none)

-- a match of which every field is settled matches
pub none_unsettled : (r : Region) (m : List MatchField) → find (λ e. not (settled r e)) m ≡ None → (map : Field → Option ℕ) → InRegion r map → matches_map m map ≡ true
none_unsettled r [] none map h = refl
none_unsettled r (e ∷ m) none map h = settled_by r e m map h (settled r e) refl none (λ n. none_unsettled r m n map h)

-- ---- fields that are apart

seen_apart : (v bits mask known wanted : ℕ) → bit_and v mask ≡ known → bit_and v bits ≡ wanted → bit_and known bits ≡ bit_and wanted mask
seen_apart v bits mask known wanted is same = ap (λ (n : ℕ). bit_and n bits) (sym is) ∙ and_assoc bits v mask ∙ ap (bit_and v) (and_comm mask bits) ∙ sym (and_assoc mask v bits) ∙ ap (λ (n : ℕ). bit_and n mask) same

not_both : (a b : ℕ) → not (eqb a b) ≡ true → a ≡ b → ⊥
not_both a b h e = let t : eqb a b ≡ true = eq-eqb a b e in cc

value_by : (e : MatchField) (m x v : ℕ) → bit_and v m ≡ x → not (eqb (bit_and x (bits_looked_at e)) (bit_and e.value m)) ≡ true → (b : Bool) → eqb (bit_and v (bits_looked_at e)) e.value ≡ b → b ≡ false
value_by e m x v k h true t = absurd (not_both _ _ h (seen_apart v (bits_looked_at e) m x e.value k (eqb-true _ _ t)))
value_by e m x v k h false t = refl

apart_disagrees : (e : MatchField) (mask known o : Option ℕ) → seen mask o ≡ known → is_apart e mask known ≡ true → agrees e o ≡ false
apart_disagrees e None known o is h = absurd cc
apart_disagrees e (Some m) None None is h = refl
apart_disagrees e (Some m) None (Some v) is h = absurd cc
apart_disagrees e (Some m) (Some x) None is h = absurd cc
apart_disagrees e (Some m) (Some x) (Some v) is h = let k : bit_and v m ≡ x = cc in value_by e m x v k h (eqb (bit_and v (bits_looked_at e)) e.value) refl

and_false : (a b : Bool) → b ≡ false → (a && b) ≡ false
and_false true b h = h
and_false false b h = refl

apart_by : (r : Region) (e : MatchField) (m : List MatchField) (map : Field → Option ℕ) → InRegion r map → (b : Bool) → apart r e ≡ b → (b || list_any (apart r) m) ≡ true → (list_any (apart r) m ≡ true → matches_map m map ≡ false) → (agrees e (map e.field) && matches_map m map) ≡ false
apart_by r e m map h true is some ih = rw (apart_disagrees e (mask_at r.masks e.field) (value r.known e.field) (map e.field) (h e.field) is) refl
apart_by r e m map h false is some ih = and_false (agrees e (map e.field)) (matches_map m map) (ih some)

-- a match with a field that is apart matches nothing
pub some_apart : (r : Region) (m : List MatchField) → list_any (apart r) m ≡ true → (map : Field → Option ℕ) → InRegion r map → matches_map m map ≡ false
some_apart r [] some map h = absurd cc
some_apart r (e ∷ m) some map h = apart_by r e m map h (apart r e) refl some (λ s. some_apart r m s map h)

-- ---- fields that are neither

or_false : (a b : Bool) → (a || b) ≡ false → (a ≡ false) × (b ≡ false)
or_false true b h = absurd cc
or_false false b h = (refl, h)

crossed_by : (r : Region) (e x : MatchField) (m : List MatchField) (b : Bool) → settled r x ≡ b → apart r x ≡ false → cond (not b) (Some x) (find (λ y. not (settled r y)) m) ≡ Some e
    → (find (λ y. not (settled r y)) m ≡ Some e → Contains m e × IsCrossed r e) → Contains (x ∷ m) e × IsCrossed r e
crossed_by r e x m false is near found ih = let same : x ≡ e = cc in rw (sym same) ((0, omega arith, refl), record { unsettled = is; near = near })
crossed_by r e x m true is near found ih = let behind = ih found in ((suc behind.0.0, omega (arith, behind.0.1), behind.0.2), behind.1)

pub first_crossed : (r : Region) (m : List MatchField) (e : MatchField) → list_any (apart r) m ≡ false → find (λ y. not (settled r y)) m ≡ Some e → Contains m e × IsCrossed r e
first_crossed r [] e none found = absurd cc
first_crossed r (x ∷ m) e none found =
    let both = or_false (apart r x) (list_any (apart r) m) none in
    crossed_by r e x m (settled r x) refl both.0 found (first_crossed r m e both.1)
