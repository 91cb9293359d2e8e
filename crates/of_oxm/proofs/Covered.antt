-- The prerequisites of a match are in each match that it covers.
use Rattle.std.proofs.Common.{◌≡◌, ℕ, Bool, true, false, eqb, List, [], ◌∷◌, Option, Some, None, refl, sym, ap, ◌∙◌}
use Rattle.std.specs.Prelude.{bit_and, not, ◌&&◌, ◌||◌, unwrap_or, IfSome}
use Rattle.std.{specs.List.list_any, specs.List.AllByRecursion, specs.Int.Bits.and_zero_l, proofs.lemmas.Bool.eqb-true, proofs.lemmas.Bool.eq-eqb}
use Rattle.of_layers.specs.declared.field.Prerequisite.TheVariants.{Nothing, Tag, Ip, Ipv4, Ipv6, Arp, Tcp, Udp, Icmpv4, Icmpv6}
use Rattle.of_layers.specs.{declared.field.Field.Field, declared.field.Prerequisite.Prerequisite, Fields.row_of, Fields.number_of, Fields.ones_of, Fields.is_maskable}
use Rattle.of_layers.proofs.Table.{same_number}
use Rattle.of_layers.specs.declared.field.Field.TheVariants as fields
use Rattle.of_oxm.specs.{declared.match_field.MatchField.MatchField, Prerequisites.has, Prerequisites.is_met, NormalForm.IsKept, NormalForm.IsKeptMask, NormalForm.IsMatch}
use Rattle.of_oxm.{specs.Relations.bits_looked_at, specs.Relations.is_within, specs.Relations.covers_match, proofs.Normal.under_ones, proofs.Related.and_true}

-- where each x with the test has a y with it within, the test passes among what is covered
some_within : (t : MatchField → Bool) (x : MatchField) (m : List MatchField) → AllByRecursion IsKept m → ((y : MatchField) → IsKept y → is_within x y ≡ true → t y ≡ true) → list_any (λ y. is_within x y) m ≡ true → list_any t m ≡ true
some_within t x [] kept step h = h
some_within t x (y ∷ ys) kept step h = split (is_within x y) refl h (some_within t x ys kept.1 step)
  where
    or_true : (b c : Bool) → b ≡ true → (b || c) ≡ true
    or_true true c e = refl
    or_true false c e = absurd cc

    or_other : (b c : Bool) → c ≡ true → (b || c) ≡ true
    or_other true c e = refl
    or_other false c e = e

    split : (b : Bool) → is_within x y ≡ b → (b || list_any (λ z. is_within x z) ys) ≡ true → (list_any (λ z. is_within x z) ys ≡ true → list_any t ys ≡ true) → (t y || list_any t ys) ≡ true
    split true within some ih = or_true _ _ (step y kept.0 within)
    split false within some ih = or_other _ _ (ih some)

any_covered : (t : MatchField → Bool) (d m : List MatchField) → AllByRecursion IsKept d → AllByRecursion IsKept m → ((x y : MatchField) → IsKept x → IsKept y → is_within x y ≡ true → t x ≡ true → t y ≡ true) → covers_match d m ≡ true → list_any t d ≡ true → list_any t m ≡ true
any_covered t [] m kept others step covers h = absurd cc
any_covered t (x ∷ xs) m kept others step covers h =
    let p = and_true (list_any (λ y. is_within x y) m) (covers_match xs m) covers in
    split (t x) refl h p.0 (any_covered t xs m kept.1 others step p.1)
  where
    split : (b : Bool) → t x ≡ b → (b || list_any t xs) ≡ true → list_any (λ y. is_within x y) m ≡ true → (list_any t xs ≡ true → list_any t m ≡ true) → list_any t m ≡ true
    split true passes some within ih = some_within t x m others (λ y k w. step x y kept.0 k w passes) within
    split false passes some within ih = ih some

-- ---- fields without masks

no_mask : (f : Field) (value : ℕ) (mask : Option ℕ) → is_maskable f ≡ false → IfSome mask (IsKeptMask f value) → unwrap_or mask (ones_of f) ≡ ones_of f
no_mask f value None plain kept = refl
no_mask f value (Some m) plain kept = let never : true ≡ false = sym kept.maskable ∙ plain in absurd cc

same_value : (f : Field) (v : ℕ) → is_maskable f ≡ false → (x y : MatchField) → IsKept x → IsKept y → is_within x y ≡ true →
    (eqb (number_of x.field) (number_of f) && eqb x.value v) ≡ true → (eqb (number_of y.field) (number_of f) && eqb y.value v) ≡ true
same_value f v plain x y kx ky within h =
    let p = and_true _ _ within in
    let q = and_true _ _ p.0 in
    let r = and_true _ _ h in
    let x_field : x.field ≡ f = same_number x.field f (eqb-true _ _ r.0) in
    let y_field : y.field ≡ x.field = same_number y.field x.field (eqb-true _ _ q.0) in
    let plain_x : is_maskable x.field ≡ false = ap is_maskable x_field ∙ plain in
    let all : bits_looked_at x ≡ ones_of x.field = no_mask x.field x.value x.mask plain_x kx.mask in
    let ones : ones_of y.field ≡ ones_of x.field = ap ones_of y_field in
    let under : bit_and y.value (bits_looked_at x) ≡ y.value = ap (bit_and y.value) (all ∙ sym ones) ∙ under_ones y.field y.value ky.value in
    let value : y.value ≡ v = sym under ∙ eqb-true _ _ p.1 ∙ eqb-true _ _ r.1 in
    let number : number_of y.field ≡ number_of f = ap number_of (y_field ∙ x_field) in
    rw (eq-eqb _ _ number, eq-eqb _ _ value) refl

has_covered : (f : Field) (v : ℕ) → is_maskable f ≡ false → (d m : List MatchField) → IsMatch d → IsMatch m → covers_match d m ≡ true → has d f v ≡ true → has m f v ≡ true
has_covered f v plain d m md mm covers h = any_covered (λ e. eqb (number_of e.field) (number_of f) && eqb e.value v) d m md.each mm.each (same_value f v plain) covers h

type_plain : is_maskable fields.EthType ≡ false
unfolding row_of
type_plain = refl

protocol_plain : is_maskable fields.IpProto ≡ false
unfolding row_of
protocol_plain = refl

-- ---- the tag

tag_within : (x y : MatchField) → IsKept x → IsKept y → is_within x y ≡ true → (eqb (number_of x.field) (number_of fields.VlanVid) && not (eqb x.value 0)) ≡ true → (eqb (number_of y.field) (number_of fields.VlanVid) && not (eqb y.value 0)) ≡ true
tag_within x y kx ky within h =
    let p = and_true _ _ within in
    let q = and_true _ _ p.0 in
    let r = and_true _ _ h in
    let number : number_of y.field ≡ number_of fields.VlanVid = eqb-true _ _ q.0 ∙ eqb-true _ _ r.0 in
    rw (eq-eqb _ _ number) (split (eqb y.value 0) refl (eqb-true _ _ p.1) r.1)
  where
    split : (b : Bool) → eqb y.value 0 ≡ b → bit_and y.value (bits_looked_at x) ≡ x.value → not (eqb x.value 0) ≡ true → not b ≡ true
    split true zero under some =
        let none : x.value ≡ 0 = sym under ∙ ap (λ (n : ℕ). bit_and n (bits_looked_at x)) (eqb-true _ _ zero) ∙ and_zero_l (bits_looked_at x) in
        let never : false ≡ true = rw none at some in
        absurd cc
    split false zero under some = refl

or_both : (a b c d : Bool) → (a ≡ true → c ≡ true) → (b ≡ true → d ≡ true) → (a || b) ≡ true → (c || d) ≡ true
or_both true b c d f g h = rw (f refl) refl
or_both false b true d f g h = refl
or_both false b false d f g h = g h

and_both : (a b c d : Bool) → (a ≡ true → c ≡ true) → (b ≡ true → d ≡ true) → (a && b) ≡ true → (c && d) ≡ true
and_both a b c d f g h = let p = and_true a b h in rw (f p.0, g p.1) refl

pub covered_has_prerequisites : (d m : List MatchField) (n : Prerequisite) → IsMatch d → IsMatch m → covers_match d m ≡ true → is_met d n ≡ true → is_met m n ≡ true
covered_has_prerequisites d m Nothing md mm covers h = refl
covered_has_prerequisites d m Tag md mm covers h = any_covered (λ e. eqb (number_of e.field) (number_of fields.VlanVid) && not (eqb e.value 0)) d m md.each mm.each tag_within covers h
covered_has_prerequisites d m Ip md mm covers h = or_both _ _ _ _ (has_covered fields.EthType 0x0800 type_plain d m md mm covers) (has_covered fields.EthType 0x86dd type_plain d m md mm covers) h
covered_has_prerequisites d m Ipv4 md mm covers h = has_covered fields.EthType 0x0800 type_plain d m md mm covers h
covered_has_prerequisites d m Ipv6 md mm covers h = has_covered fields.EthType 0x86dd type_plain d m md mm covers h
covered_has_prerequisites d m Arp md mm covers h = has_covered fields.EthType 0x0806 type_plain d m md mm covers h
covered_has_prerequisites d m Tcp md mm covers h = has_covered fields.IpProto 6 protocol_plain d m md mm covers h
covered_has_prerequisites d m Udp md mm covers h = has_covered fields.IpProto 17 protocol_plain d m md mm covers h
covered_has_prerequisites d m Icmpv4 md mm covers h = and_both _ _ _ _ (has_covered fields.EthType 0x0800 type_plain d m md mm covers) (has_covered fields.IpProto 1 protocol_plain d m md mm covers) h
covered_has_prerequisites d m Icmpv6 md mm covers h = and_both _ _ _ _ (has_covered fields.EthType 0x86dd type_plain d m md mm covers) (has_covered fields.IpProto 58 protocol_plain d m md mm covers) h
