-- What a search in a part finds.
use Rattle.std.proofs.Common.{◌≡◌, ◌⊎◌, ◌<◌, ℕ, zero, suc, true, false, List, [], ◌∷◌, length, get_or, map, Option, refl, sym, ap, subst, ◌∙◌, arith, inl, inr}
use Rattle.std.specs.{List.Contains, Global.Vec}
use Rattle.of_layers.specs.{declared.field.Field.Field, Reading.layers_of}
use Rattle.of_headers.specs.FieldMap.{field_map}
use Rattle.of_oxm.specs.{declared.match_field.MatchField.MatchField, Relations.matches_map}
use Rattle.of_regions.specs.{declared.rival.Rival.Rival, declared.searching.Found.Found, Conditions.AreConditions, Searching.IsFoundBySearch, Searching.IsUnrivalled, Witness.fields_in}
use Rattle.of_regions.specs.declared.searching.Found.TheVariants as found
use Rattle.of_symbolic.{specs.declared.part.Part.Part, specs.Parts.FindsInPart, specs.Parts.HaveConditions, specs.Parts.NoneOfMatches, proofs.PartLemmas.none_of}

first_or_behind : {X : Type 0} (y x : X) (xs : List X) → Contains (y ∷ xs) x → Contains xs x ⊎ (y ≡ x)
first_or_behind {X} y x xs c = at c.0 c.1 c.2
  where
    at : (k : ℕ) → k < length (y ∷ xs) → get_or (y ∷ xs) k x ≡ x → Contains xs x ⊎ (y ≡ x)
    at zero lt is = inr is
    at (suc k) lt is = inl (k, omega (arith, lt), is)

-- two lists whose elements have the same parts
same_part : {X Y Z : Type 0} (f : X → Z) (g : Y → Z) (xs : List X) (ys : List Y) → map f xs ≡ map g ys → (x : X) → Contains xs x → (y : Y) × Contains ys y × (f x ≡ g y)
same_part f g [] ys is x c = absurd (none_of x c)
same_part f g (a ∷ xs) [] is x c = absurd cc
same_part {X} {Y} f g (a ∷ xs) (b ∷ ys) is x c =
    let first : f a ≡ g b = cc in
    let rest : map f xs ≡ map g ys = cc in
    elim (first_or_behind a x xs c) as (λ w. (y : Y) × Contains (b ∷ ys) y × (f x ≡ g y)) [
      | inl behind ↦ (let y = same_part f g xs ys rest x behind in (y.0, (suc y.1.0, omega (arith, y.1.1), y.1.2), y.2))
      | inr same ↦ (b, (0, omega arith, refl), ap f (sym same) ∙ first)
    ]

rival_list : (lacks : List (Vec MatchField)) (rivals : List Rival) → HaveConditions lacks rivals → (q : Rival) → Contains rivals q → (m : Vec MatchField) × Contains lacks m × (q.fields.now ≡ m.items)
rival_list lacks rivals is q c = same_part (λ (y : Rival). y.fields.now) (λ (m : Vec MatchField). m.items) rivals lacks is q c

list_rival : (lacks : List (Vec MatchField)) (rivals : List Rival) → HaveConditions lacks rivals → (m : Vec MatchField) → Contains lacks m → (q : Rival) × Contains rivals q × (m.items ≡ q.fields.now)
list_rival lacks rivals is m c = same_part (λ (y : Vec MatchField). y.items) (λ (q : Rival). q.fields.now) lacks rivals (sym is) m c

pub rivals_kept : (lacks : List (Vec MatchField)) (rivals : List Rival) → HaveConditions lacks rivals → ((m : Vec MatchField) → Contains lacks m → AreConditions m.items) → (q : Rival) → Contains rivals q → AreConditions q.fields.now
rivals_kept lacks rivals is each q c = let m = rival_list lacks rivals is q c in subst AreConditions (sym m.2) (each m.0 m.1)

module _ (part : Part) (rivals : List Rival) (are : HaveConditions part.lacks.items rivals) where
  unrivalled_none : (fields : Field → Option ℕ) → IsUnrivalled rivals fields → NoneOfMatches part.lacks.items fields
  unrivalled_none fields h m c = let q = list_rival part.lacks.items rivals are m c in ap (λ (x : List MatchField). matches_map x fields) q.2 ∙ h q.0 q.1

  none_unrivalled : (fields : Field → Option ℕ) → NoneOfMatches part.lacks.items fields → IsUnrivalled rivals fields
  none_unrivalled fields h q c = let m = rival_list part.lacks.items rivals are q c in ap (λ (x : List MatchField). matches_map x fields) m.2 ∙ h m.0 m.1

  pub finds : (steps : ℕ) (f : Found) → IsFoundBySearch part.regions.items rivals steps f → FindsInPart part steps f
  finds steps (found.Free p) h = (h.received, h.short, (h.within, unrivalled_none (fields_in p) h.unrivalled))
  finds steps (found.Taken names) h = λ frame port metadata is i.
      let taken = h.covered frame port metadata is i.0 in
      let m = rival_list part.lacks.items rivals are taken.0 taken.1 in
      let no = i.1 m.0 m.1 in
      let yes : matches_map m.0.items (field_map (layers_of frame) port metadata) ≡ true = ap (λ (x : List MatchField). matches_map x (field_map (layers_of frame) port metadata)) (sym m.2) ∙ taken.3 in
      absurd (let g : true ≡ false = sym yes ∙ no in cc)
  finds steps (found.Unreceived r) h = record {
    within = λ fields i. (h.is.within fields i, unrivalled_none fields (h.is.unrivalled fields i));
    ports = h.is.ports;
    none = λ p received i. h.none p received i.0 (none_unrivalled (fields_in p) i.1);
  }
  finds steps found.Undecided h = (rivals, are, h)
