-- The normal form of fields is a match's.
use Rattle.std.proofs.Common.{◌≡◌, ℕ, ◌%◌, ◌^◌, ◌<◌, ◌≤◌, Bool, true, false, cond, eqb, ltb, List, [], ◌∷◌, ◌++◌, Option, Some, None, refl, sym, ap, subst, ◌∙◌, arith, inl, inr}
use Rattle.std.proofs.lemmas.Bool.{ltb-false, ltb-true, eqb-true, eqb-false, eq-eqb}
use Rattle.std.specs.{Prelude.bit_and, Prelude.IfSome, Prelude.◌||◌, List.list_any, List.AllByRecursion, Int.Bits.and_self}
use Rattle.std.proofs.{lemmas.Nat.and_mask, lemmas.Nat.and_assoc, Math.Pow.pow_pos, Math.Nat.mod-eq_of_lt, Math.Nat.mod-lt}
use Rattle.of_layers.{specs.declared.field.Field.Field, specs.Fields.number_of, specs.Fields.bit_count, specs.Fields.ones_of, specs.Fields.is_maskable, proofs.Table.ones_is}
use Rattle.of_oxm.specs.NormalForm.{under, kept, with_field, with_kept_field, normal, IsKept, IsAscending}
use Rattle.of_oxm.specs.{declared.match_field.MatchField.MatchField, MatchFieldWire.IsEncoded, MatchFieldWire.IsAllowedMask, MatchFieldWire.is_among, MatchGrammar.AreFieldsAfter}

-- ---- a field occurs once

pub among_append : (f : Field) (xs ys : List MatchField) → is_among f (xs ++ ys) ≡ (is_among f xs || is_among f ys)
among_append f [] ys = refl
among_append f (x ∷ xs) ys =
    let split : (b : Bool) → (b || is_among f (xs ++ ys)) ≡ ((b || is_among f xs) || is_among f ys)
    = λ b. elim b as (λ b. (b || is_among f (xs ++ ys)) ≡ ((b || is_among f xs) || is_among f ys)) [ true ↦ refl | false ↦ among_append f xs ys ] in
    split (eqb (number_of x.field) (number_of f))

or_true : (a : Bool) → (a || true) ≡ true
or_true true = refl
or_true false = refl

pub or_false : (a b : Bool) → (a || b) ≡ false → (a ≡ false) × (b ≡ false)
or_false true b h = absurd cc
or_false false b h = (refl, h)

-- what came before does not occur after
never_again : (f : Field) (seen fs : List MatchField) → AreFieldsAfter seen fs → is_among f seen ≡ true → is_among f fs ≡ false
never_again f seen [] fine h = refl
never_again f seen (x ∷ xs) fine h =
    let other : is_among f xs ≡ false = never_again f (seen ++ x ∷ []) xs fine.2 (among_append f seen (x ∷ []) ∙ ap (λ (b : Bool). b || is_among f (x ∷ [])) h) in
    let split : (b : Bool) → eqb (number_of x.field) (number_of f) ≡ b → (b || is_among f xs) ≡ false
    = λ b. elim b as (λ b. eqb (number_of x.field) (number_of f) ≡ b → (b || is_among f xs) ≡ false) [
      | true ↦ λ same. let again : is_among f seen ≡ false = ap (λ (n : ℕ). list_any (λ e. eqb (number_of e.field) n) seen) (sym (eqb-true _ _ same)) ∙ fine.1 in absurd cc
      | false ↦ λ same. other
    ] in
    split (eqb (number_of x.field) (number_of f)) refl

-- ---- in its place

among_put : (f : Field) (e : MatchField) (xs : List MatchField) → eqb (number_of e.field) (number_of f) ≡ false → is_among f xs ≡ false → is_among f (with_field e xs) ≡ false
among_put f e [] ne h = rw ne refl
among_put f e (x ∷ xs) ne h =
    let p = or_false (eqb (number_of x.field) (number_of f)) (is_among f xs) h in
    let split : (b : Bool) → is_among f (cond b (e ∷ x ∷ xs) (x ∷ with_field e xs)) ≡ false
    = λ b. elim b as (λ b. is_among f (cond b (e ∷ x ∷ xs) (x ∷ with_field e xs)) ≡ false) [
      | true ↦ rw ne h
      | false ↦ rw (p.0) (among_put f e xs ne p.1)
    ] in
    split (ltb (number_of e.field) (number_of x.field))

all_put : (P : MatchField → Type 0) (e : MatchField) (xs : List MatchField) → P e → AllByRecursion P xs → AllByRecursion P (with_field e xs)
all_put P e [] one others = (one, tt)
all_put P e (x ∷ xs) one others =
    let split : (b : Bool) → AllByRecursion P (cond b (e ∷ x ∷ xs) (x ∷ with_field e xs))
    = λ b. elim b as (λ b. AllByRecursion P (cond b (e ∷ x ∷ xs) (x ∷ with_field e xs))) [ true ↦ (one, others) | false ↦ (others.0, all_put P e xs one others.1) ] in
    split (ltb (number_of e.field) (number_of x.field))

all_above : (n m : ℕ) (xs : List MatchField) → n < m → AllByRecursion (λ x. m < number_of x.field) xs → AllByRecursion (λ x. n < number_of x.field) xs
all_above n m [] lt h = tt
all_above n m (x ∷ xs) lt h = (omega (arith, h.0), all_above n m xs lt h.1)

rising_put : (e : MatchField) (xs : List MatchField) → IsAscending xs → is_among e.field xs ≡ false → IsAscending (with_field e xs)
rising_put e [] up h = (tt, tt)
rising_put e (x ∷ xs) up h =
    let p = or_false (eqb (number_of x.field) (number_of e.field)) (is_among e.field xs) h in
    let split : (b : Bool) → ltb (number_of e.field) (number_of x.field) ≡ b → IsAscending (cond b (e ∷ x ∷ xs) (x ∷ with_field e xs))
    = λ b. elim b as (λ b. ltb (number_of e.field) (number_of x.field) ≡ b → IsAscending (cond b (e ∷ x ∷ xs) (x ∷ with_field e xs))) [
      | true ↦ λ t. let lt = ltb-true _ _ t in ((lt, all_above _ _ xs lt up.0), up)
      | false ↦ λ t. let le = ltb-false _ _ t in let ne = eqb-false _ _ p.0 in (all_put (λ y. number_of x.field < number_of y.field) e xs (omega (arith, le, ne)) up.0, rising_put e xs up.1 p.1)
    ] in
    split (ltb (number_of e.field) (number_of x.field)) refl

-- ---- what is kept

and_ones : (f : Field) (n : ℕ) → bit_and n (ones_of f) ≡ n % 2 ^ bit_count f
and_ones f n = ap (bit_and n) (ones_is f) ∙ and_mask n (bit_count f)

ones_pos : (f : Field) → 0 < 2 ^ bit_count f
ones_pos f = pow_pos (bit_count f)

pub under_ones : (f : Field) (n : ℕ) → n ≤ ones_of f → bit_and n (ones_of f) ≡ n
under_ones f n h = and_ones f n ∙ mod-eq_of_lt (omega (arith, h, ones_is f, ones_pos f))

at_most_ones : (f : Field) (n : ℕ) → bit_and n (ones_of f) ≤ ones_of f
at_most_ones f n = omega (arith, and_ones f n, ones_is f, mod-lt n (ones_pos f))

pub record Keeps (e k : MatchField) : Type 0 where
  pub field : k.field ≡ e.field
  pub kept : IsKept k

keeps_masked : (e k : MatchField) (m : ℕ) → e.value ≤ ones_of e.field → IsAllowedMask e.field e.value m → under e (bit_and m (ones_of e.field)) ≡ Some k → Keeps e k
keeps_masked e k m fits mask h =
    let f = e.field in
    let w = bit_and m (ones_of f) in
    let whole : (b : Bool) → eqb w (ones_of f) ≡ b → 0 < w → cond b (Some (record e { mask = None })) (Some (record e { mask = Some w })) ≡ Some k → Keeps e k
    = λ b. elim b as (λ b. eqb w (ones_of f) ≡ b → 0 < w → cond b (Some (record e { mask = None })) (Some (record e { mask = Some w })) ≡ Some k → Keeps e k) [
      | true ↦ λ t some h.
          let same : record e { mask = None } ≡ k = cc in
          subst (λ (x : MatchField). Keeps e x) same (record { field = refl; kept = record { value = fits; mask = tt } })
      | false ↦ λ t some h.
          let same : record e { mask = Some w } ≡ k = cc in
          let ne : w ≡ ones_of f → ⊥ = eqb-false _ _ t in
          let maskable : is_maskable f ≡ true = elim mask.allowed [ inl p ↦ p | inr q ↦ absurd (ne q) ] in
          subst (λ (x : MatchField). Keeps e x) same (record {
            field = refl;
            kept = record {
              value = fits;
              mask = record {
                maskable = maskable;
                some = some;
                not_all = omega (arith, at_most_ones f m, ne);
                within = and_assoc (ones_of f) m (ones_of f) ∙ ap (bit_and m) (and_self (ones_of f));
                covers = sym (and_assoc (ones_of f) e.value m) ∙ ap (λ (x : ℕ). bit_and x (ones_of f)) mask.covers ∙ under_ones f e.value fits;
              };
            };
          })
    ] in
    let first : (b : Bool) → eqb w 0 ≡ b → cond b None (cond (eqb w (ones_of f)) (Some (record e { mask = None })) (Some (record e { mask = Some w }))) ≡ Some k → Keeps e k
    = λ b. elim b as (λ b. eqb w 0 ≡ b → cond b None (cond (eqb w (ones_of f)) (Some (record e { mask = None })) (Some (record e { mask = Some w }))) ≡ Some k → Keeps e k) [
      | true ↦ λ t h. absurd cc
      | false ↦ λ t h. whole (eqb w (ones_of f)) refl (let ne = eqb-false _ _ t in omega (arith, ne)) h
    ] in
    first (eqb w 0) refl h

keeps_by : (f : Field) (v : ℕ) (mask : Option ℕ) (k : MatchField) → v ≤ ones_of f → IfSome mask (IsAllowedMask f v) → let e : MatchField = record { field = f; value = v; mask = mask } in kept e ≡ Some k → Keeps e k
unfolding kept
keeps_by f v None k fits mask h =
    let e : MatchField = record { field = f; value = v; mask = None } in
    let same : e ≡ k = cc in
    subst (λ (x : MatchField). Keeps e x) same (record { field = refl; kept = record { value = fits; mask = tt } })
keeps_by f v (Some m) k fits mask h = keeps_masked (record { field = f; value = v; mask = Some m }) k m fits mask h

keeps : (e k : MatchField) → IsEncoded e → kept e ≡ Some k → Keeps e k
keeps e k encoded h = keeps_by e.field e.value e.mask k encoded.value encoded.mask h

among_normal : (f : Field) (seen es : List MatchField) → AreFieldsAfter seen es → is_among f es ≡ false → is_among f (normal es) ≡ false
among_normal f seen [] fine h = refl
among_normal f seen (e ∷ es) fine h =
    let p = or_false (eqb (number_of e.field) (number_of f)) (is_among f es) h in
    let others = among_normal f (seen ++ e ∷ []) es fine.2 p.1 in
    let split : (o : Option MatchField) → kept e ≡ o → is_among f (with_kept_field o (normal es)) ≡ false
    = λ o. elim o as (λ o. kept e ≡ o → is_among f (with_kept_field o (normal es)) ≡ false) [
      | None ↦ λ k. others
      | Some x ↦ λ k. among_put f x (normal es) (ap (λ (g : Field). eqb (number_of g) (number_of f)) ((keeps e x fine.0 k).field) ∙ p.0) others
    ] in
    split (kept e) refl

pub rising_normal : (seen fs : List MatchField) → AreFieldsAfter seen fs → IsAscending (normal fs) × AllByRecursion IsKept (normal fs)
rising_normal seen [] fine = (tt, tt)
rising_normal seen (e ∷ es) fine =
    let others = rising_normal (seen ++ e ∷ []) es fine.2 in
    let once : is_among e.field es ≡ false = never_again e.field (seen ++ e ∷ []) es fine.2 (among_append e.field seen (e ∷ []) ∙ ap (λ (b : Bool). is_among e.field seen || (b || false)) (eq-eqb (number_of e.field) (number_of e.field) refl) ∙ or_true (is_among e.field seen)) in
    let none = among_normal e.field (seen ++ e ∷ []) es fine.2 once in
    let split : (o : Option MatchField) → kept e ≡ o → IsAscending (with_kept_field o (normal es)) × AllByRecursion IsKept (with_kept_field o (normal es))
    = λ o. elim o as (λ o. kept e ≡ o → IsAscending (with_kept_field o (normal es)) × AllByRecursion IsKept (with_kept_field o (normal es))) [
      | None ↦ λ k. others
      | Some x ↦ λ k. (rising_put x (normal es) others.0 (subst (λ (g : Field). is_among g (normal es) ≡ false) (sym ((keeps e x fine.0 k).field)) none), all_put IsKept x (normal es) ((keeps e x fine.0 k).kept) others.1)
    ] in
    split (kept e) refl
