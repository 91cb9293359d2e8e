-- What is seen of a key under a mask, field by field.
use Rattle.std.proofs.Common.{◌≡◌, ℕ, [], ◌∷◌, get_or, refl, ap, ◌∙◌, arith, inl, inr}
use Rattle.std.{specs.Prelude.bit_and, specs.Int.bit_at, proofs.lemmas.Nat.Bits.bit_at_and, proofs.lemmas.Nat.Bits.bit_at-zero}
use Rattle.of_layers.specs.declared.field.Field.TheVariants.{TcpSrc, TcpDst, UdpSrc, UdpDst, InPort, Metadata, EthDst, EthSrc, VlanVid, VlanPcp, EthType, IpDscp, IpEcn, IpProto, Ipv4Src, Ipv4Dst, Icmpv4Type, Icmpv4Code, ArpOp, ArpSpa, ArpTpa, ArpSha, ArpTha, Ipv6Src, Ipv6Dst, Ipv6Flabel, Icmpv6Type, Icmpv6Code}
use Rattle.of_layers.specs.{declared.field.Field.Field, Fields.row_of, Fields.number_of}
use Rattle.of_headers.specs.{declared.key.FieldKey.FieldKey, declared.numbers.Numbers.Numbers, FieldMap.there, FieldMap.value, FieldMap.seen, Numbers.numbers_in, Seeing.IsSeen, Seeing.AreSeen}
use Rattle.of_headers.proofs.PresenceLemmas.{there_under}

-- a mask without any of these bits lacks the field of each
pub lacks : (p bits n : ℕ) → bit_and p bits ≡ 0 → bit_at bits n ≡ 1 → bit_at p n ≡ 0
lacks p bits n none one =
    let zero_is : bit_at (bit_and p bits) n ≡ 0 = ap (λ (m : ℕ). bit_at m n) none ∙ bit_at-zero n in
    omega (arith, zero_is, one, bit_at_and p bits n)

-- of the four groups, each field
pub each_seen : (s k m : Numbers) → AreSeen s k m (13 ∷ 14 ∷ 15 ∷ 16 ∷ []) → AreSeen s k m (0 ∷ 2 ∷ 3 ∷ 4 ∷ 6 ∷ 7 ∷ []) → AreSeen s k m (5 ∷ 8 ∷ 9 ∷ 10 ∷ 11 ∷ 12 ∷ []) → AreSeen s k m (19 ∷ 20 ∷ 21 ∷ 22 ∷ 23 ∷ 24 ∷ 25 ∷ 26 ∷ 27 ∷ 28 ∷ 29 ∷ 30 ∷ []) → (f : Field) → IsSeen s k m (number_of f)
unfolding row_of AreSeen
each_seen s k m p o w r TcpSrc = p.0
each_seen s k m p o w r TcpDst = p.1.0
each_seen s k m p o w r UdpSrc = p.1.1.0
each_seen s k m p o w r UdpDst = p.1.1.1.0
each_seen s k m p o w r InPort = o.0
each_seen s k m p o w r Metadata = o.1.0
each_seen s k m p o w r EthDst = o.1.1.0
each_seen s k m p o w r EthSrc = o.1.1.1.0
each_seen s k m p o w r VlanVid = o.1.1.1.1.0
each_seen s k m p o w r VlanPcp = o.1.1.1.1.1.0
each_seen s k m p o w r EthType = w.0
each_seen s k m p o w r IpDscp = w.1.0
each_seen s k m p o w r IpEcn = w.1.1.0
each_seen s k m p o w r IpProto = w.1.1.1.0
each_seen s k m p o w r Ipv4Src = w.1.1.1.1.0
each_seen s k m p o w r Ipv4Dst = w.1.1.1.1.1.0
each_seen s k m p o w r Icmpv4Type = r.0
each_seen s k m p o w r Icmpv4Code = r.1.0
each_seen s k m p o w r ArpOp = r.1.1.0
each_seen s k m p o w r ArpSpa = r.1.1.1.0
each_seen s k m p o w r ArpTpa = r.1.1.1.1.0
each_seen s k m p o w r ArpSha = r.1.1.1.1.1.0
each_seen s k m p o w r ArpTha = r.1.1.1.1.1.1.0
each_seen s k m p o w r Ipv6Src = r.1.1.1.1.1.1.1.0
each_seen s k m p o w r Ipv6Dst = r.1.1.1.1.1.1.1.1.0
each_seen s k m p o w r Ipv6Flabel = r.1.1.1.1.1.1.1.1.1.0
each_seen s k m p o w r Icmpv6Type = r.1.1.1.1.1.1.1.1.1.1.0
each_seen s k m p o w r Icmpv6Code = r.1.1.1.1.1.1.1.1.1.1.1.0

seen_alone : (p n : ℕ) (s k m : Numbers) → p ≡ bit_and k.present m.present → IsSeen s k m n →
    there p n (get_or (numbers_in s) n 0) ≡ seen (there m.present n (get_or (numbers_in m) n 0)) (there k.present n (get_or (numbers_in k) n 0))
seen_alone p n s k m e (inl none) =
    let off : bit_at p n ≡ 0 = omega (arith, none, ap (λ (w : ℕ). bit_at w n) e, bit_at_and k.present m.present n) in
    rw (off, none) refl
seen_alone p n s k m e (inr same) =
    ap (λ (w : ℕ). there w n (get_or (numbers_in s) n 0)) e
    ∙ ap (there (bit_and k.present m.present) n) same
    ∙ there_under k.present m.present n (get_or (numbers_in k) n 0) (get_or (numbers_in m) n 0)

pub value_seen : (r k m : FieldKey) → r.numbers.present ≡ bit_and k.numbers.present m.numbers.present → ((f : Field) → IsSeen r.numbers k.numbers m.numbers (number_of f)) →
    (f : Field) → value r f ≡ seen (value m f) (value k f)
unfolding value
value_seen r k m e all f = seen_alone r.numbers.present (number_of f) r.numbers k.numbers m.numbers e (all f)
