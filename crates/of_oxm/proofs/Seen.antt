-- What a match looks at in each field, and what it matches.
use Rattle.std.proofs.Common.{◌≡◌, ℕ, zero, suc, ◌+◌, ◌<◌, Bool, true, false, cond, eqb, List, [], ◌∷◌, length, get_or, take, Option, Some, None, refl, sym, ap, subst, ◌∙◌, arith}
use Rattle.std.specs.{Prelude.bit_and, Prelude.◌&&◌, Prelude.◌↔◌, List.AllByRecursion, Option.option_map}
use Rattle.std.proofs.lemmas.Bool.{eqb-true, eqb-false, eq-eqb, ne_eqb}
use Rattle.of_layers.{specs.declared.field.Field.Field, specs.Fields.number_of, proofs.Table.same_number}
use Rattle.of_headers.specs.FieldMap.{seen}
use Rattle.of_oxm.specs.{declared.match_field.MatchField.MatchField, NormalForm.IsAscending, NormalForm.IsMatch, Relations.bits_looked_at, Relations.agrees, Relations.matches_map}
use Rattle.of_oxm.{specs.Masks.first_at, specs.Masks.looked_at, specs.Masks.value_of, specs.Masks.Agree, proofs.Related.and_true}

-- ---- one field more

all_at : (P : MatchField → Type 0) (xs : List MatchField) (i : ℕ) (d : MatchField) → AllByRecursion P xs → i < length xs → P (get_or xs i d)
all_at P [] i d h lt = absurd (omega arith)
all_at P (x ∷ xs) zero d h lt = h.0
all_at P (x ∷ xs) (suc i) d h lt = all_at P xs i d h.1 (omega arith)

-- of ascending numbers the next is that of no field before it
first_more : (g : MatchField → ℕ) (m : List MatchField) (i : ℕ) (d : MatchField) (f : Field) → IsAscending m → i < length m
    → cond (eqb (number_of f) (number_of (get_or m i d).field)) (Some (g (get_or m i d))) (option_map g (first_at (take i m) f)) ≡ option_map g (first_at (take (suc i) m) f)
first_more g [] i d f up lt = absurd (omega arith)
first_more g (x ∷ xs) zero d f up lt =
    let split : (b : Bool) → eqb (number_of x.field) (number_of f) ≡ b → cond (eqb (number_of f) (number_of x.field)) (Some (g x)) None ≡ option_map g (cond b (Some x) None)
    = λ b. elim b as (λ b. eqb (number_of x.field) (number_of f) ≡ b → cond (eqb (number_of f) (number_of x.field)) (Some (g x)) None ≡ option_map g (cond b (Some x) None)) [
      | true ↦ λ t. rw (eq-eqb (number_of f) (number_of x.field) (sym (eqb-true _ _ t))) refl
      | false ↦ λ t. rw (ne_eqb (number_of f) (number_of x.field) (λ e. eqb-false _ _ t (sym e))) refl
    ] in
    split (eqb (number_of x.field) (number_of f)) refl
first_more g (x ∷ xs) (suc i) d f up lt =
    let e = get_or xs i d in
    let above : number_of x.field < number_of e.field = all_at (λ y. number_of x.field < number_of y.field) xs i d up.0 (omega arith) in
    let rest = first_more g xs i d f up.1 (omega arith) in
    let split : (b : Bool) → eqb (number_of x.field) (number_of f) ≡ b
    → cond (eqb (number_of f) (number_of e.field)) (Some (g e)) (option_map g (cond b (Some x) (first_at (take i xs) f))) ≡ option_map g (cond b (Some x) (first_at (take (suc i) xs) f))
    = λ b. elim b as (λ b. eqb (number_of x.field) (number_of f) ≡ b
    → cond (eqb (number_of f) (number_of e.field)) (Some (g e)) (option_map g (cond b (Some x) (first_at (take i xs) f))) ≡ option_map g (cond b (Some x) (first_at (take (suc i) xs) f))) [
      | true ↦ λ t. rw (ne_eqb (number_of f) (number_of e.field) (λ s. omega (arith, above, s, eqb-true _ _ t))) refl
      | false ↦ λ t. rest
    ] in
    split (eqb (number_of x.field) (number_of f)) refl

pub one_more : (g : MatchField → ℕ) (m : List MatchField) (i n : ℕ) (d : MatchField) (old new : Field → Option ℕ) → IsAscending m → i < length m → ((f : Field) → old f ≡ option_map g (first_at (take i m) f))
    → n ≡ g (get_or m i d) → ((f : Field) → new f ≡ cond (eqb (number_of f) (number_of (get_or m i d).field)) (Some n) (old f)) → (f : Field) → new f ≡ option_map g (first_at (take (i + 1) m) f)
one_more g m i n d old new up lt before is made f =
    let next : i + 1 ≡ suc i = omega arith in
    rw next (made f
    ∙ ap (λ (k : ℕ). cond (eqb (number_of f) (number_of (get_or m i d).field)) (Some k) (old f)) is
    ∙ ap (λ (o : Option ℕ). cond (eqb (number_of f) (number_of (get_or m i d).field)) (Some (g (get_or m i d))) o) (before f)
    ∙ first_more g m i d f up lt)

-- ---- the place of each field

found_after : (x : MatchField) (xs ys : List MatchField) → AllByRecursion (λ y. number_of x.field < number_of y.field) ys → AllByRecursion (λ y. first_at xs y.field ≡ Some y) ys → AllByRecursion (λ y. first_at (x ∷ xs) y.field ≡ Some y) ys
found_after x xs [] up h = tt
found_after x xs (y ∷ ys) up h = (rw (ne_eqb (number_of x.field) (number_of y.field) (λ s. omega (arith, s, up.0))) h.0, found_after x xs ys up.1 h.1)

-- each field is the first with its number
each_found : (m : List MatchField) → IsAscending m → AllByRecursion (λ e. first_at m e.field ≡ Some e) m
each_found [] up = tt
each_found (x ∷ xs) up = (rw (eq-eqb (number_of x.field) (number_of x.field) refl) refl, found_after x xs xs up.0 (each_found xs up.1))

-- ---- what is matched

same_agrees : (e : MatchField) (a b : Option ℕ) → seen (Some (bits_looked_at e)) a ≡ seen (Some (bits_looked_at e)) b → agrees e a ≡ agrees e b
same_agrees e None None h = refl
same_agrees e None (Some b) h = absurd cc
same_agrees e (Some a) None h = absurd cc
same_agrees e (Some a) (Some b) h = let s : bit_and a (bits_looked_at e) ≡ bit_and b (bits_looked_at e) = cc in ap (λ (n : ℕ). eqb n e.value) s

alike_each : (m es : List MatchField) (j k : Field → Option ℕ) → Agree (looked_at m) j k → AllByRecursion (λ e. first_at m e.field ≡ Some e) es → matches_map es j ≡ matches_map es k
alike_each m [] j k h found = refl
alike_each m (e ∷ es) j k h found =
    let here : seen (Some (bits_looked_at e)) (j e.field) ≡ seen (Some (bits_looked_at e)) (k e.field)
    = subst (λ (o : Option MatchField). seen (option_map bits_looked_at o) (j e.field) ≡ seen (option_map bits_looked_at o) (k e.field)) found.0 (h e.field) in
    let one : agrees e (j e.field) ≡ agrees e (k e.field) = same_agrees e (j e.field) (k e.field) here in
    let others : matches_map es j ≡ matches_map es k = alike_each m es j k h found.1 in
    ap (λ (b : Bool). b && matches_map es j) one ∙ ap (λ (b : Bool). agrees e (k e.field) && b) others

pub matched_alike : (m : List MatchField) (j k : Field → Option ℕ) → IsMatch m → Agree (looked_at m) j k → matches_map m j ≡ matches_map m k
matched_alike m j k fine h = alike_each m m j k h (each_found m fine.rising)

agrees_seen : (e : MatchField) (o : Option ℕ) → agrees e o ≡ true → seen (Some (bits_looked_at e)) o ≡ Some e.value
agrees_seen e None h = absurd cc
agrees_seen e (Some v) h = ap Some (eqb-true _ _ h)

seen_agrees : (e : MatchField) (o : Option ℕ) → seen (Some (bits_looked_at e)) o ≡ Some e.value → agrees e o ≡ true
seen_agrees e None h = absurd cc
seen_agrees e (Some v) h = let s : bit_and v (bits_looked_at e) ≡ e.value = cc in eq-eqb _ _ s

matched_seen : (m : List MatchField) (k : Field → Option ℕ) → matches_map m k ≡ true → (f : Field) → seen (looked_at m f) (k f) ≡ value_of m f
matched_seen [] k h f = refl
matched_seen (x ∷ xs) k h f =
    let p = and_true (agrees x (k x.field)) (matches_map xs k) h in
    let rest = matched_seen xs k p.1 f in
    let split : (b : Bool) → eqb (number_of x.field) (number_of f) ≡ b → seen (option_map bits_looked_at (cond b (Some x) (first_at xs f))) (k f) ≡ option_map (λ e. e.value) (cond b (Some x) (first_at xs f))
    = λ b. elim b as (λ b. eqb (number_of x.field) (number_of f) ≡ b → seen (option_map bits_looked_at (cond b (Some x) (first_at xs f))) (k f) ≡ option_map (λ e. e.value) (cond b (Some x) (first_at xs f))) [
      | true ↦ λ t. agrees_seen x (k f) (subst (λ (g : Field). agrees x (k g) ≡ true) (same_number x.field f (eqb-true _ _ t)) p.0)
      | false ↦ λ t. rest
    ] in
    split (eqb (number_of x.field) (number_of f)) refl

seen_each : (m es : List MatchField) (k : Field → Option ℕ) → ((f : Field) → seen (looked_at m f) (k f) ≡ value_of m f) → AllByRecursion (λ e. first_at m e.field ≡ Some e) es → matches_map es k ≡ true
seen_each m [] k h found = refl
seen_each m (e ∷ es) k h found =
    let here : seen (Some (bits_looked_at e)) (k e.field) ≡ Some e.value
    = subst (λ (o : Option MatchField). seen (option_map bits_looked_at o) (k e.field) ≡ option_map (λ x. x.value) o) found.0 (h e.field) in
    rw (seen_agrees e (k e.field) here) (seen_each m es k h found.1)

pub seen_matched : (m : List MatchField) (k : Field → Option ℕ) → IsMatch m → ((f : Field) → seen (looked_at m f) (k f) ≡ value_of m f) → matches_map m k ≡ true
seen_matched m k fine h = seen_each m m k h (each_found m fine.rising)

pub matched_exactly : (m : List MatchField) (k : Field → Option ℕ) → IsMatch m → (matches_map m k ≡ true) ↔ ((f : Field) → seen (looked_at m f) (k f) ≡ value_of m f)
matched_exactly m k fine = (matched_seen m k, seen_matched m k fine)
