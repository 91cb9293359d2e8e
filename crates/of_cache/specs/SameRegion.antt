-- Equal regions hash alike, and are the same.
use Rattle.std.proofs.Common.{◌≡◌, Bool, true, false, ◌&&◌, refl, ap}
use Rattle.std.specs.{Prelude.IsTrue, List.flat_map}
use Rattle.std.specs.Hash as fed
use Rattle.of_headers.{specs.declared.key.FieldKey.FieldKey, specs.Digest.key_words, proofs.SameFields.equal_keys, proofs.SameFields.key_itself}
use Rattle.of_headers.specs.contracts.key.FieldKeyPartialEq.TheImpl as the_key
use Rattle.of_cache.specs.declared.region.Region.{Region}
use Rattle.of_cache.specs.contracts.region.RegionPartialEq.TheImpl as the_region

record Both (a b : Bool) : Type 0 where
  left : a ≡ true
  right : b ≡ true

both : (a b : Bool) → (a && b) ≡ true → Both a b
both true b e = record { left = refl; right = e }
both false b e = absurd cc

keys_of_both : (x y : Region) → the_region.eq-value.it x y ≡ true → Both (the_key.eq-value.it x.key y.key) (the_key.eq-value.it x.mask.masks y.mask.masks)
keys_of_both x y h = both (the_key.eq-value.it x.key y.key) (the_key.eq-value.it x.mask.masks y.mask.masks) h

pub equal_regions : (x y : Region) → the_region.eq-value.it x y ≡ true → x ≡ y
equal_regions x y h =
    let b = keys_of_both x y h in
    let key : x.key ≡ y.key = equal_keys x.key y.key b.left in
    let mask : x.mask.masks ≡ y.mask.masks = equal_keys x.mask.masks y.mask.masks b.right in
    λ i. record { key = key i; mask = record { masks = mask i } }

both_true : (a b : Bool) → a ≡ true → b ≡ true → (a && b) ≡ true
both_true true true p q = refl
both_true true false p q = absurd cc
both_true false b p q = absurd cc

pub region_itself : (x : Region) → the_region.eq-value.it x x ≡ true
region_itself x = both_true (the_key.eq-value.it x.key x.key) (the_key.eq-value.it x.mask.masks x.mask.masks) (key_itself x.key) (key_itself x.mask.masks)

pub same_region_fed : (x y : Region) → IsTrue (the_region.eq-value.it x y) → flat_map fed.u128 (key_words x.key.numbers) ≡ flat_map fed.u128 (key_words y.key.numbers)
same_region_fed x y h = ap (λ (k : FieldKey). flat_map fed.u128 (key_words k.numbers)) (equal_keys x.key y.key (keys_of_both x y h).left)
