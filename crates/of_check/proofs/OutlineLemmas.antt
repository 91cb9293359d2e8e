-- Where two outlines do not agree, the matches do not overlap.
use Rattle.std.proofs.Common.{◌≡◌, ℕ, zero, suc, Bool, true, false, cond, eqb, List, [], ◌∷◌, Option, Some, None, length, refl, sym, ap, subst, ◌∙◌}
use Rattle.std.specs.Prelude.{bit_and, not, ◌&&◌, ◌||◌, slice_get}
use Rattle.std.{specs.Int.Bits.and_comm, specs.List.list_all, specs.Option.option_map, proofs.lemmas.Bool.eqb-true, proofs.lemmas.Bool.eq-eqb}
use Rattle.of_layers.specs.{declared.field.Field.Field, Fields.number_of}
use Rattle.of_layers.specs.declared.field.Field.TheVariants as field
use Rattle.of_oxm.specs.{declared.match_field.MatchField.MatchField, Masks.first_at, Relations.bits_looked_at, Relations.can_both, Relations.overlaps_match}
use Rattle.of_oxm.proofs.Related.{and_true}
use Rattle.of_table.specs.Table.{FlowEntry}
use Rattle.of_check.specs.Outlines.{outline_of, outlines_agree, outlines_of, part_of, parts_agree}
use Rattle.of_check.specs.declared.outline.Outline.{Outline}

-- ---- the first field of a number

found_at : (m : List MatchField) (f : Field) (x : MatchField) → first_at m f ≡ Some x → number_of x.field ≡ number_of f
found_at [] f x e = absurd cc
found_at (y ∷ ys) f x e =
    let split : (b : Bool) → eqb (number_of y.field) (number_of f) ≡ b → cond b (Some y) (first_at ys f) ≡ Some x → number_of x.field ≡ number_of f
    = λ b. elim b as (λ b. eqb (number_of y.field) (number_of f) ≡ b → cond b (Some y) (first_at ys f) ≡ Some x → number_of x.field ≡ number_of f) [
      | true ↦ λ t h. let same : y ≡ x = cc in subst (λ (z : MatchField). number_of z.field ≡ number_of f) same (eqb-true _ _ t)
      | false ↦ λ t h. found_at ys f x h
    ] in
    split (eqb (number_of y.field) (number_of f)) refl e

found_passes : (p : MatchField → Bool) (m : List MatchField) (f : Field) (x : MatchField) → list_all p m ≡ true → first_at m f ≡ Some x → p x ≡ true
found_passes p [] f x all e = absurd cc
found_passes p (y ∷ ys) f x all e =
    let h = and_true (p y) (list_all p ys) all in
    let split : (b : Bool) → cond b (Some y) (first_at ys f) ≡ Some x → p x ≡ true
    = λ b. elim b as (λ b. cond b (Some y) (first_at ys f) ≡ Some x → p x ≡ true) [
      | true ↦ λ k. let same : y ≡ x = cc in subst (λ (z : MatchField). p z ≡ true) same h.0
      | false ↦ λ k. found_passes p ys f x h.1 k
    ] in
    split (eqb (number_of y.field) (number_of f)) e

-- ---- parts

and_zero : (n : ℕ) → bit_and n 0 ≡ 0
and_zero n = and_comm n 0

can_at : (x y : MatchField) → number_of y.field ≡ number_of x.field → can_both x y ≡ true → parts_agree (part_of (Some x)) (part_of (Some y)) ≡ true
can_at x y same h = subst (λ (b : Bool). (not b || eqb (bit_and y.value (bits_looked_at x)) (bit_and x.value (bits_looked_at y))) ≡ true) (eq-eqb _ _ same) h

both : (a b : Bool) → a ≡ true → b ≡ true → (a && b) ≡ true
both true b p q = q
both false b p q = absurd cc

module _ (m n : List MatchField) (overlap : overlaps_match m n ≡ true) where
  part_agrees : (f : Field) (o p : Option MatchField) → first_at m f ≡ o → first_at n f ≡ p → parts_agree (part_of o) (part_of p) ≡ true
  part_agrees f None None a b = refl
  part_agrees f None (Some y) a b = eq-eqb _ _ (and_zero y.value)
  part_agrees f (Some x) None a b = eq-eqb _ _ (sym (and_zero x.value))
  part_agrees f (Some x) (Some y) a b =
      can_at x y (found_at n f y b ∙ sym (found_at m f x a)) (found_passes (λ z. can_both x z) n f y (found_passes (λ w. list_all (λ z. can_both w z) n) m f x overlap a) b)

  agrees_at : (f : Field) → parts_agree (part_of (first_at m f)) (part_of (first_at n f)) ≡ true
  agrees_at f = part_agrees f (first_at m f) (first_at n f) refl refl

outlines_of_overlapping : (x y : FlowEntry) → overlaps_match x.flow.fields y.flow.fields ≡ true → outlines_agree (outline_of x) (outline_of y) ≡ true
outlines_of_overlapping x y overlap =
    let at = λ (f : Field). agrees_at x.flow.fields y.flow.fields overlap f in
    both _ _ (both _ _ (both _ _ (both _ _ (both _ _ (both _ _ (both _ _ (both _ _ (at field.Ipv4Dst) (at field.Ipv4Src)) (at field.TcpDst)) (at field.UdpDst)) (at field.IpProto)) (at field.EthDst)) (at field.Ipv6Dst)) (at field.VlanVid)) (at field.InPort)

pub none_overlap : (x y : FlowEntry) → outlines_agree (outline_of x) (outline_of y) ≡ false → overlaps_match x.flow.fields y.flow.fields ≡ false
none_overlap x y apart = by_test (overlaps_match x.flow.fields y.flow.fields) refl
  where
    by_test : (t : Bool) → overlaps_match x.flow.fields y.flow.fields ≡ t → overlaps_match x.flow.fields y.flow.fields ≡ false
    by_test false t = t
    by_test true t = let agree : outlines_agree (outline_of x) (outline_of y) ≡ true = outlines_of_overlapping x y t in absurd cc

-- ---- the outlines of a table

pub outline_at : (flows : List FlowEntry) (at : ℕ) (other : Outline) → slice_get (outlines_of flows) at ≡ Some other → option_map outline_of (slice_get flows at) ≡ Some other
outline_at [] at other e = absurd cc
outline_at (x ∷ flows) zero other e = e
outline_at (x ∷ flows) (suc at) other e = outline_at flows at other e

pub as_many : (flows : List FlowEntry) → length (outlines_of flows) ≡ length flows
as_many [] = refl
as_many (x ∷ flows) = ap suc (as_many flows)
