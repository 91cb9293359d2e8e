-- What follows the type: encoded by its body, by no other, and well formed.
use Rattle.std.proofs.Common.{◌≡◌, ℕ, Bool, true, false, cond, List, refl, sym, ap, ◌∙◌}
use Rattle.std.{specs.Prelude.◌==◌, specs.Prelude.◌&&◌, specs.Prelude.◌||◌, proofs.lemmas.Bool.eqb-true, proofs.lemmas.Bool.eq-eqb}
use Rattle.of_layers.specs.Layers.{Body, Plain, Arp, Ipv4, Ipv6, body_cells, encoded}
use Rattle.of_layers.specs.Reading.{is_arp, is_ipv4, is_ipv6, arp_of, ipv4_of, ipv6_of, body_of}
use Rattle.of_layers.{specs.Bits.bits_of, specs.WellFormed.AreBytes, specs.WellFormed.has_packet, specs.WellFormed.IsBody, proofs.EncodingLemmas.encoded_bytes, proofs.FrontLemmas.bytes_same}
use Rattle.of_layers.proofs.{TestLemmas.and_true, ArpLemmas.arp_encoded, ArpLemmas.arp_fits, ArpLemmas.arp_is, Ipv4Lemmas.ipv4_encoded, Ipv4Lemmas.ipv4_fits, Ipv4Lemmas.ipv4_is}
use Rattle.of_layers.proofs.Ipv6Lemmas.{ipv6_encoded, ipv6_fits, ipv6_is}

-- the first of three that is there, or none
by_body : (P : Body → Type 0) (a b c : Bool) (w x y z : Body) → (a ≡ true → P w) → (b ≡ true → P x) → (c ≡ true → P y) → ((a || b || c) ≡ false → P z) → P (cond a w (cond b x (cond c y z)))
by_body P true b c w x y z f g h k = f refl
by_body P false true c w x y z f g h k = g refl
by_body P false false true w x y z f g h k = h refl
by_body P false false false w x y z f g h k = k refl

none_by : (a b c : Bool) (w x y z : Body) → (a || b || c) ≡ false → cond a w (cond b x (cond c y z)) ≡ z
none_by true b c w x y z e = absurd cc
none_by false true c w x y z e = absurd cc
none_by false false true w x y z e = absurd cc
none_by false false false w x y z e = refl

body_by : (P : Body → Type 0) (type : ℕ) (p : List ℕ) →
    (((type == 0x0806) && is_arp p) ≡ true → P (arp_of p)) → (((type == 0x0800) && is_ipv4 p) ≡ true → P (ipv4_of p)) → (((type == 0x86dd) && is_ipv6 p) ≡ true → P (ipv6_of p)) → (has_packet type p ≡ false → P (Plain p)) →
    P (body_of type p)
unfolding body_of
body_by P type p = by_body P ((type == 0x0806) && is_arp p) ((type == 0x0800) && is_ipv4 p) ((type == 0x86dd) && is_ipv6 p) (arp_of p) (ipv4_of p) (ipv6_of p) (Plain p)

pub body_encoded : (type : ℕ) (p : List ℕ) → AreBytes p → bits_of p ≡ encoded (body_cells (body_of type p))
body_encoded type p b =
    body_by (λ x. bits_of p ≡ encoded (body_cells x)) type p
    (λ e. arp_encoded p b (and_true (type == 0x0806) (is_arp p) e).1)
    (λ e. ipv4_encoded p b (and_true (type == 0x0800) (is_ipv4 p) e).1)
    (λ e. ipv6_encoded p b (and_true (type == 0x86dd) (is_ipv6 p) e).1)
    (λ e. sym (encoded_bytes p))

arp_body : (type : ℕ) (p : List ℕ) → AreBytes p → ((type == 0x0806) && is_arp p) ≡ true → IsBody type (arp_of p)
unfolding arp_of
arp_body type p b e = let t = and_true (type == 0x0806) (is_arp p) e in (eqb-true type 0x0806 t.0, arp_fits p b t.1)

ipv4_body : (type : ℕ) (p : List ℕ) → AreBytes p → ((type == 0x0800) && is_ipv4 p) ≡ true → IsBody type (ipv4_of p)
unfolding ipv4_of
ipv4_body type p b e = let t = and_true (type == 0x0800) (is_ipv4 p) e in (eqb-true type 0x0800 t.0, ipv4_fits p b t.1)

ipv6_body : (type : ℕ) (p : List ℕ) → AreBytes p → ((type == 0x86dd) && is_ipv6 p) ≡ true → IsBody type (ipv6_of p)
unfolding ipv6_of
ipv6_body type p b e = let t = and_true (type == 0x86dd) (is_ipv6 p) e in (eqb-true type 0x86dd t.0, ipv6_fits p b t.1)

pub body_fits : (type : ℕ) (p : List ℕ) → AreBytes p → IsBody type (body_of type p)
body_fits type p b = body_by (IsBody type) type p (arp_body type p b) (ipv4_body type p b) (ipv6_body type p b) (λ e. (b, e))

-- ---- what a type makes of bytes

both : {a b : Bool} → a ≡ true → b ≡ true → (a && b) ≡ true
both p q = λ j. p j && q j

body_plain : (type : ℕ) (p : List ℕ) → has_packet type p ≡ false → body_of type p ≡ Plain p
unfolding body_of
body_plain type p e = none_by ((type == 0x0806) && is_arp p) ((type == 0x0800) && is_ipv4 p) ((type == 0x86dd) && is_ipv6 p) (arp_of p) (ipv4_of p) (ipv6_of p) (Plain p) e

body_arp : (type : ℕ) (p : List ℕ) → type ≡ 0x0806 → is_arp p ≡ true → body_of type p ≡ arp_of p
unfolding body_of
body_arp type p t e = let a : ((type == 0x0806) && is_arp p) ≡ true = both (eq-eqb type 0x0806 t) e in rw a refl

body_ipv4 : (type : ℕ) (p : List ℕ) → type ≡ 0x0800 → is_ipv4 p ≡ true → body_of type p ≡ ipv4_of p
unfolding body_of
body_ipv4 type p t e =
    let a : ((type == 0x0806) && is_arp p) ≡ false = ap (λ (k : ℕ). (k == 0x0806) && is_arp p) t in
    let b : ((type == 0x0800) && is_ipv4 p) ≡ true = both (eq-eqb type 0x0800 t) e in
    rw (a, b) refl

body_ipv6 : (type : ℕ) (p : List ℕ) → type ≡ 0x86dd → is_ipv6 p ≡ true → body_of type p ≡ ipv6_of p
unfolding body_of
body_ipv6 type p t e =
    let a : ((type == 0x0806) && is_arp p) ≡ false = ap (λ (k : ℕ). (k == 0x0806) && is_arp p) t in
    let b : ((type == 0x0800) && is_ipv4 p) ≡ false = ap (λ (k : ℕ). (k == 0x0800) && is_ipv4 p) t in
    let c : ((type == 0x86dd) && is_ipv6 p) ≡ true = both (eq-eqb type 0x86dd t) e in
    rw (a, b, c) refl

pub body_is : (type : ℕ) (x : Body) (p : List ℕ) → IsBody type x → AreBytes p → bits_of p ≡ encoded (body_cells x) → x ≡ body_of type p
body_is type (Plain q) p h b e =
    let same : q ≡ p = bytes_same q p h.0 b (sym (e ∙ encoded_bytes q)) in
    sym (body_plain type q h.1) ∙ ap (body_of type) same
body_is type (Arp ns rest) p h b e = let r = arp_is ns rest p h.1 b e in r.0 ∙ sym (body_arp type p h.0 r.1)
body_is type (Ipv4 ns opts carried rest) p h b e = let r = ipv4_is ns opts carried rest p h.1 b e in r.0 ∙ sym (body_ipv4 type p h.0 r.1)
body_is type (Ipv6 ns extensions carried rest) p h b e = let r = ipv6_is ns extensions carried rest p h.1 b e in r.0 ∙ sym (body_ipv6 type p h.0 r.1)
