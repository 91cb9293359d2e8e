-- What bytes carry is behind a header with which they begin.
use Rattle.std.proofs.Common.{arith, refl, ◌≡◌, ℕ, List, [], ◌∷◌, ◌++◌, length, drop, Some, None, Bool, true, false, nat_lt, subst, ◌+◌}
use Rattle.std.{specs.Prelude.◌==◌, specs.Prelude.◌||◌, specs.Prelude.if◌then◌else◌, proofs.lemmas.Grind.common_steps}
use Rattle.byteorder.specs.Endian.{big_number}
use Rattle.of_live.specs.Header.{BeginsWithHeader, Encapsulated, carried, has_vni, vxlan_header}

kept : {A : Type 0} (test : Bool) (x y : A) → (if test then None else Some x) ≡ Some y → (test ≡ false) × (x ≡ y)
kept true x y e = grind (arith)
kept false x y e = grind (arith)

valid : (short : Bool) (flags : ℕ) → (short || has_vni flags == 0) ≡ false → has_vni flags ≡ 1
valid true flags e = grind (arith, common_steps)
valid false flags e = grind (arith, common_steps)

begun : (a b c g h i j k : ℕ) (frame : List ℕ) → has_vni a ≡ 1
    → BeginsWithHeader (a ∷ b ∷ c ∷ g ∷ h ∷ i ∷ j ∷ k ∷ frame) (big_number 3 (h ∷ i ∷ j ∷ k ∷ frame)) frame
begun a b c g h i j k frame v = record {
  flags = a;
  reserved = b ∷ c ∷ g ∷ [];
  number = h ∷ i ∷ j ∷ [];
  last = k;
  valid = v;
  three = (refl, refl);
  vni_is = refl;
  bytes_are = refl;
}

pub begins : (bytes : List ℕ) (d : Encapsulated) → carried bytes ≡ Some d → BeginsWithHeader bytes d.vni d.frame
begins [] d e = grind (arith)
begins (a ∷ []) d e = grind (arith)
begins (a ∷ b ∷ []) d e = grind (arith)
begins (a ∷ b ∷ c ∷ []) d e = grind (arith)
begins (a ∷ b ∷ c ∷ g ∷ []) d e = grind (arith)
begins (a ∷ b ∷ c ∷ g ∷ h ∷ []) d e = grind (arith)
begins (a ∷ b ∷ c ∷ g ∷ h ∷ i ∷ []) d e = grind (arith)
begins (a ∷ b ∷ c ∷ g ∷ h ∷ i ∷ j ∷ []) d e = grind (arith)
begins (a ∷ b ∷ c ∷ g ∷ h ∷ i ∷ j ∷ k ∷ frame) d e =
    let bytes = a ∷ b ∷ c ∷ g ∷ h ∷ i ∷ j ∷ k ∷ frame in
    let p = kept (nat_lt (length bytes) 8 || has_vni a == 0) (record { vni = big_number 3 (drop 4 bytes); frame = frame }) d e in
    subst (λ x. BeginsWithHeader bytes x.vni x.frame) p.1 (begun a b c g h i j k frame (valid (nat_lt (length bytes) 8) a p.0))

-- the elements of a list of three
pub record Three (xs : List ℕ) : Type 0 where
  first : ℕ
  second : ℕ
  third : ℕ
  are : xs ≡ first ∷ second ∷ third ∷ []

three : (xs : List ℕ) → length xs ≡ 3 → Three xs
three [] e = grind (arith)
three (a ∷ []) e = grind (arith)
three (a ∷ b ∷ []) e = grind (arith)
three (a ∷ b ∷ c ∷ []) e = record { first = a; second = b; third = c; are = refl }
three (a ∷ b ∷ c ∷ d ∷ xs) e = grind (arith)

read_of : (flags b c g h i j last : ℕ) (frame : List ℕ) → has_vni flags ≡ 1
    → carried (vxlan_header flags (b ∷ c ∷ g ∷ []) (h ∷ i ∷ j ∷ []) last ++ frame) ≡ Some (record { vni = big_number 3 (h ∷ i ∷ j ∷ []); frame = frame })
read_of flags b c g h i j last frame v = rw v (grind (arith, common_steps))

-- bytes that begin with a header carry what is behind it
pub read : (bytes : List ℕ) (vni : ℕ) (frame : List ℕ) → BeginsWithHeader bytes vni frame → carried bytes ≡ Some (record { vni = vni; frame = frame })
read bytes vni frame b =
    let r = three b.reserved b.three.0 in
    let n = three b.number b.three.1 in
    rw (b.bytes_are, b.vni_is, r.are, n.are) (read_of b.flags r.first r.second r.third n.first n.second n.third b.last frame b.valid)
