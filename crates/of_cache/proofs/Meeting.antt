-- A match and a region that have a field map in common.
use Rattle.std.proofs.Common.{◌≡◌, ℕ, ◌≤◌, Bool, true, false, cond, ◌&&◌, List, [], ◌∷◌, Option, Some, None, refl, sym, ◌∙◌, ap, subst, arith}
use Rattle.std.specs.Prelude.{nat_eq, bit_and, bit_or, find, IfSome, ◌==◌}
use Rattle.std.{specs.Bool.Decides, specs.Int.bit_at, specs.List.list_all, specs.Option.option_eq, specs.Option.option_map, proofs.lemmas.Bool.eqb-true, proofs.lemmas.Bool.eq-eqb}
use Rattle.std.proofs.{lemmas.Nat.and_le_r, lemmas.Nat.Bits.bit_at_and, lemmas.Nat.Bits.bit_at_or, lemmas.Nat.Bits.same_from_bits}
use Rattle.of_layers.{specs.declared.field.Field.Field, specs.Fields.number_of, specs.Fields.field_at, specs.Fields.all_fields, specs.Fields.ones_of, proofs.Table.field_at-number_of}
use Rattle.of_headers.{specs.declared.key.FieldKey.FieldKey, specs.FieldMap.value, specs.FieldMap.seen, proofs.SameFields.same_key, proofs.SameFields.equal_keys, proofs.SameFields.key_itself}
use Rattle.of_headers.specs.contracts.key.FieldKeyPartialEq.TheImpl as the_key
use Rattle.of_oxm.specs.{declared.match_field.MatchField.MatchField, declared.masks.FieldMask.FieldMask, NormalForm.IsKept, NormalForm.IsMatch}
use Rattle.of_oxm.specs.{Relations.IsWithinBits, Relations.bits_looked_at, Relations.matches_map, Masks.first_at, Masks.looked_at, Masks.value_of, Masks.mask_at}
use Rattle.of_oxm.proofs.{Seen.matched_exactly, Seen.seen_matched, Joined.covered, Joined.found_if, Joined.at_most, Joined.kept_within}
use Rattle.of_cache.specs.Regions.{Holds, IsRegion, IsWithin, agrees_in, meets_seen, meets}
use Rattle.of_cache.specs.declared.region.Region.{Region}

-- ---- all fields

and_true : (a b : Bool) → (a && b) ≡ true → (a ≡ true) × (b ≡ true)
and_true true b h = (refl, h)
and_true false b h = absurd cc

all_true : (p : Field → Bool) (fs : List Field) → ((f : Field) → p f ≡ true) → list_all p fs ≡ true
all_true p [] h = refl
all_true p (f ∷ fs) h = rw (h f, all_true p fs h) refl

found_true : (p q : Field → Bool) (fs : List Field) (f : Field) → list_all p fs ≡ true → find q fs ≡ Some f → p f ≡ true
found_true p q [] f h e = absurd cc
found_true p q (g ∷ fs) f h e = by_test (q g) e (found_true p q fs f (and_true (p g) (list_all p fs) h).1)
  where
    by_test : (b : Bool) → cond b (Some g) (find q fs) ≡ Some f → (find q fs ≡ Some f → p f ≡ true) → p f ≡ true
    by_test true e later = let same : g ≡ f = cc in subst (λ (x : Field). p x ≡ true) same (and_true (p g) (list_all p fs) h).0
    by_test false e later = later e

pub each_field : (p : Field → Bool) → list_all p all_fields ≡ true → (f : Field) → p f ≡ true
unfolding field_at
each_field p h f = found_true p (λ g. number_of g == number_of f) all_fields f h (field_at-number_of f)

pub same_option : (m n : Option ℕ) → Decides (option_eq nat_eq m n) (m ≡ n)
same_option None None = (λ h. refl, λ h. refl)
same_option None (Some n) = (λ h. absurd cc, λ h. absurd cc)
same_option (Some m) None = (λ h. absurd cc, λ h. absurd cc)
same_option (Some m) (Some n) = (λ h. ap Some (eqb-true m n h), λ h. let e : m ≡ n = cc in eq-eqb m n e)

-- ---- two keys that are compared

pub two_tests : (r s : Bool) (P : Type 0) → Decides r P → Decides s P → r ≡ s
two_tests true true P h k = refl
two_tests true false P h k = sym (k.1 (h.0 refl))
two_tests false true P h k = h.1 (k.0 refl)
two_tests false false P h k = refl

pub keys_tell : (a b : FieldKey) (p q : Field → Option ℕ) → ((f : Field) → value a f ≡ p f) → ((f : Field) → value b f ≡ q f) → the_key.eq-value.it a b ≡ list_all (λ f. option_eq nat_eq (p f) (q f)) all_fields
keys_tell a b p q pa qb =
    two_tests (the_key.eq-value.it a b) (list_all (λ f. option_eq nat_eq (p f) (q f)) all_fields) ((f : Field) → p f ≡ q f) (
      λ h f. sym (pa f) ∙ ap (λ (k : FieldKey). value k f) (equal_keys a b h) ∙ qb f,
      λ h. subst (λ (k : FieldKey). the_key.eq-value.it a k ≡ true) (same_key a b (λ f. pa f ∙ h f ∙ sym (qb f))) (key_itself a),
    ) (
      λ h f. (same_option (p f) (q f)).0 (each_field (λ g. option_eq nat_eq (p g) (q g)) h f),
      λ h. all_true (λ g. option_eq nat_eq (p g) (q g)) all_fields (λ f. (same_option (p f) (q f)).1 (h f)),
    )

-- ---- a map in common is seen alike

and_swap : (v m n : ℕ) → bit_and (bit_and v n) m ≡ bit_and (bit_and v m) n
and_swap v m n = same_from_bits _ _ (λ i. omega (arith, bit_at_and (bit_and v n) m i, bit_at_and v n i, bit_at_and (bit_and v m) n i, bit_at_and v m i))

seen_swap : (m n v : Option ℕ) → seen m (seen n v) ≡ seen n (seen m v)
seen_swap None None v = refl
seen_swap None (Some n) v = refl
seen_swap (Some m) None v = refl
seen_swap (Some m) (Some n) None = refl
seen_swap (Some m) (Some n) (Some v) = ap Some (and_swap v m n)

pub met : (m : List MatchField) (region : Region) (map : Field → Option ℕ) → IsMatch m → Holds region map → matches_map m map ≡ true → meets m region ≡ true
unfolding meets_seen
met m region map fine h e = all_true (agrees_in (looked_at m) (value_of m) region) all_fields (λ f. (same_option _ _).1 (at_field f))
  where
    at_field : (f : Field) → seen (mask_at region.mask f) (value_of m f) ≡ seen (looked_at m f) (value region.key f)
    at_field f =
        ap (seen (mask_at region.mask f)) (sym ((matched_exactly m map fine).0 e f))
        ∙ seen_swap (mask_at region.mask f) (looked_at m f) (map f)
        ∙ ap (seen (looked_at m f)) (h f)

-- ---- what is seen alike has a map in common

joined : Option ℕ → Option ℕ → Option ℕ
joined None b = b
joined (Some a) None = Some a
joined (Some a) (Some b) = Some (bit_or a b)

first_kept : (x y a b : ℕ) → bit_and x a ≡ x → bit_and y b ≡ y → bit_and y a ≡ bit_and x b → bit_and (bit_or x y) a ≡ x
first_kept x y a b p q r = same_from_bits _ _ (λ i.
    let px : bit_at (bit_and x a) i ≡ bit_at x i = ap (λ (n : ℕ). bit_at n i) p in
    let rx : bit_at (bit_and y a) i ≡ bit_at (bit_and x b) i = ap (λ (n : ℕ). bit_at n i) r in
    let o : bit_at (bit_or x y) i ≡ _ = bit_at_or x y i in
    omega (arith, px, rx, o, bit_at_and (bit_or x y) a i, bit_at_and x a i, bit_at_and y a i, bit_at_and x b i))

second_kept : (x y a b : ℕ) → bit_and x a ≡ x → bit_and y b ≡ y → bit_and y a ≡ bit_and x b → bit_and (bit_or x y) b ≡ y
second_kept x y a b p q r = same_from_bits _ _ (λ i.
    let qx : bit_at (bit_and y b) i ≡ bit_at y i = ap (λ (n : ℕ). bit_at n i) q in
    let rx : bit_at (bit_and y a) i ≡ bit_at (bit_and x b) i = ap (λ (n : ℕ). bit_at n i) r in
    let o : bit_at (bit_or x y) i ≡ _ = bit_at_or x y i in
    omega (arith, qx, rx, o, bit_at_and (bit_or x y) b i, bit_at_and y b i, bit_at_and y a i, bit_at_and x b i))

some_is : (a b : ℕ) → Some a ≡ Some b → a ≡ b
some_is a b e = cc

-- in one field: the region's mask and value, the match's mask and value
record Fits (r m k v : Option ℕ) : Type 0 where
  alike : seen r v ≡ seen m k
  region : seen r k ≡ k
  match_ : seen m v ≡ v

region_sees : (r m k v : Option ℕ) → Fits r m k v → seen r (joined k v) ≡ k
unfolding joined
region_sees None m k v h = h.region
region_sees (Some w) m None None h = refl
region_sees (Some w) None None (Some y) h = absurd (let e = h.match_ in cc)
region_sees (Some w) (Some b) None (Some y) h = absurd (let e = h.alike in cc)
region_sees (Some w) m (Some x) None h = h.region
region_sees (Some w) None (Some x) (Some y) h = absurd (let e = h.match_ in cc)
region_sees (Some w) (Some b) (Some x) (Some y) h = ap Some (first_kept x y w b (some_is _ _ h.region) (some_is _ _ h.match_) (some_is _ _ h.alike))

match_sees : (r m k v : Option ℕ) → Fits r m k v → seen m (joined k v) ≡ v
unfolding joined
match_sees r None k v h = h.match_
match_sees r (Some b) None v h = h.match_
match_sees None (Some b) (Some x) None h = absurd (let e = h.region in cc)
match_sees (Some w) (Some b) (Some x) None h = absurd (let e = h.alike in cc)
match_sees None (Some b) (Some x) (Some y) h = absurd (let e = h.region in cc)
match_sees (Some w) (Some b) (Some x) (Some y) h = ap Some (second_kept x y w b (some_is _ _ h.region) (some_is _ _ h.match_) (some_is _ _ h.alike))

-- a value lies under its mask, and within its field
own_value : (f : Field) (o : Option MatchField) → IfSome o (λ x. IsKept x × (x.field ≡ f)) → seen (option_map bits_looked_at o) (option_map (λ (e : MatchField). e.value) o) ≡ option_map (λ (e : MatchField). e.value) o
own_value f None h = refl
own_value f (Some x) h = ap Some (covered x h.0)

own_within : (f : Field) (o : Option MatchField) → IfSome o (λ x. IsKept x × (x.field ≡ f)) → IfSome (option_map (λ (e : MatchField). e.value) o) (λ v. v ≤ ones_of f)
own_within f None h = tt
own_within f (Some x) h = kept_within f x h

seen_within : (f : Field) (r k : Option ℕ) → IfSome r (λ v. v ≤ ones_of f) → seen r k ≡ k → IfSome k (λ v. v ≤ ones_of f)
seen_within f r None h e = tt
seen_within f None (Some x) h e = absurd cc
seen_within f (Some w) (Some x) h e = let s : bit_and x w ≡ x = cc in omega (arith, s, and_le_r x w)

joined_within : (f : Field) (k v : Option ℕ) → IfSome k (λ n. n ≤ ones_of f) → IfSome v (λ n. n ≤ ones_of f) → IfSome (joined k v) (λ n. n ≤ ones_of f)
unfolding joined
joined_within f None v h g = g
joined_within f (Some x) None h g = h
joined_within f (Some x) (Some y) h g = at_most f x y h g

pub common : (m : List MatchField) (region : Region) → IsMatch m → IsRegion region → IsWithinBits (mask_at region.mask) → meets m region ≡ true → (map : Field → Option ℕ) × IsWithinBits map × Holds region map × (matches_map m map ≡ true)
unfolding meets_seen
common m region fine own bits h = (
  λ f. joined (value region.key f) (value_of m f),
  λ f. joined_within f (value region.key f) (value_of m f) (seen_within f (mask_at region.mask f) (value region.key f) (bits f) (own f)) (own_within f (first_at m f) (found_if m f (first_at m f) fine.each refl)),
  λ f. region_sees (mask_at region.mask f) (looked_at m f) (value region.key f) (value_of m f) (fits f),
  seen_matched m (λ f. joined (value region.key f) (value_of m f)) fine (λ f. match_sees (mask_at region.mask f) (looked_at m f) (value region.key f) (value_of m f) (fits f)),
)
  where
    fits : (f : Field) → Fits (mask_at region.mask f) (looked_at m f) (value region.key f) (value_of m f)
    fits f = record {
      alike = (same_option _ _).0 (each_field (agrees_in (looked_at m) (value_of m) region) h f);
      region = own f;
      match_ = own_value f (first_at m f) (found_if m f (first_at m f) fine.each refl);
    }

-- ---- a mask within another

wider_keeps : (v a b : ℕ) → bit_and a b ≡ a → bit_and v a ≡ v → bit_and v b ≡ v
wider_keeps v a b h g = same_from_bits _ _ (λ i.
    let x : bit_at (bit_and a b) i ≡ bit_at a i = ap (λ (n : ℕ). bit_at n i) h in
    let y : bit_at (bit_and v a) i ≡ bit_at v i = ap (λ (n : ℕ). bit_at n i) g in
    omega (arith, x, y, bit_at_and a b i, bit_at_and v a i, bit_at_and v b i))

-- what lies under a mask lies under a wider one
wider_sees : (w m k : Option ℕ) → seen w m ≡ m → seen m k ≡ k → seen w k ≡ k
wider_sees None None None h g = refl
wider_sees (Some b) None None h g = refl
wider_sees w None (Some v) h g = absurd cc
wider_sees None (Some a) k h g = absurd cc
wider_sees (Some b) (Some a) None h g = refl
wider_sees (Some b) (Some a) (Some v) h g = ap Some (wider_keeps v a b (some_is _ _ h) (some_is _ _ g))

-- a match that looks at all that a region's mask looks at meets the region exactly where its values lie in it
pub met_holds : (mask : FieldMask) (key : FieldKey) (region : Region) → IsRegion region → IsWithin region.mask mask → meets_seen (mask_at mask) (value key) region ≡ true → Holds region (value key)
unfolding meets_seen
met_holds mask key region own within h f =
    (same_option _ _).0 (each_field (agrees_in (mask_at mask) (value key) region) h f) ∙ wider_sees (mask_at mask f) (mask_at region.mask f) (value region.key f) (within f) (own f)

pub holds_met : (mask : FieldMask) (key : FieldKey) (region : Region) → IsRegion region → IsWithin region.mask mask → Holds region (value key) → meets_seen (mask_at mask) (value key) region ≡ true
unfolding meets_seen
holds_met mask key region own within h =
    all_true (agrees_in (mask_at mask) (value key) region) all_fields (λ f. (same_option _ _).1 (h f ∙ sym (wider_sees (mask_at mask f) (mask_at region.mask f) (value region.key f) (within f) (own f))))
