-- Ports that are the same, and numbers that are not there.
use Rattle.std.proofs.Common.{◌≡◌, ℕ, zero, suc, ◌+◌, ◌-◌, ◌*◌, ◌/◌, ◌%◌, ◌∷◌, ◌++◌, ◌^◌, ◌<◌, ◌≤◌, Bool, true, false, cond, List, [], Option, Some, None, Result, Ok, Err, refl, sym, ap, subst, ◌∙◌, inl, inr, arith}
use Rattle.std.specs.Prelude.{bit_and, find, is_some, not, IfSome, ◌&&◌, ◌||◌, ◌⊎◌}
use Rattle.std.{specs.List.Contains, specs.List.list_any, specs.Option.option_map, specs.Result.OnOk, specs.Global.Vec, proofs.lemmas.Bool.eq-eqb, proofs.lemmas.Bool.eqb-true}
use Rattle.std.proofs.{lemmas.List.Elements.Contains-append_left, lemmas.List.Elements.Contains-push, lemmas.List.Elements.Contains-push_cases, lemmas.List.Folds.list_any_at}
use Rattle.std.proofs.{lemmas.Nat.div-mul-add, lemmas.Nat.pow_pos, lemmas.Nat.Bits.and_high_mask, lemmas.Nat.Bits.bit_at_and, lemmas.Nat.Bits.same_from_bits}
use Rattle.std.proofs.Math.Nat.{div-div-eq-div-mul, mul-suc, pow-suc}
use Rattle.of_layers.specs.{Fields.ones_of, Fields.row_of, declared.field.Field.TheVariants.InPort}
use Rattle.of_oxm.{specs.declared.match_field.MatchField.MatchField, specs.Relations.agrees, specs.Relations.matches_map, proofs.Normal.under_ones}
use Rattle.of_regions.specs.Conditions.{AreConditions}
use Rattle.of_ports.specs.{declared.port.Port.Port, Ports.may_receive, Ports.number_of_port}
use Rattle.of_symbolic_run.specs.PortNumbers.{AreAbsences, HasReceiver, IsAbsence, IsConditionOf, IsNamedNumber, IsReceiverOrNamed, agrees_under, receiver_under}

pub on_ok_then : {X E : Type 0} (r : Result X E) (P Q R : Type 0) → (P → Q) → OnOk r (Q → R) → OnOk r (P → R)
on_ok_then (Ok x) P Q R first second = λ p. second (first p)
on_ok_then (Err e) P Q R first second = tt

-- ---- the first port of which a test is true

none_any : (p : Port → Bool) (ports : List Port) → option_map number_of_port (find p ports) ≡ None → list_any p ports ≡ false
none_any p [] none = refl
none_any p (q ∷ ports) none = by_test (p q) none (none_any p ports)
  where
    by_test : (b : Bool) → option_map number_of_port (cond b (Some q) (find p ports)) ≡ None → (option_map number_of_port (find p ports) ≡ None → list_any p ports ≡ false) → (b || list_any p ports) ≡ false
    by_test true h later = absurd cc
    by_test false h later = later h

any_false : (p : Port → Bool) (ports : List Port) → list_any p ports ≡ false → (q : Port) → Contains ports q → p q ≡ false
any_false p ports none q c = by_test (p q) refl
  where
    by_test : (b : Bool) → p q ≡ b → p q ≡ false
    by_test true e = let some : list_any p ports ≡ true = list_any_at p ports c.0 q c.1 (ap p c.2 ∙ e) in absurd cc
    by_test false e = e

record IsFound (p : Port → Bool) (ports : List Port) (number : ℕ) : Type 0 where
  pub port : Port
  pub listed : Contains ports port
  pub passes : p port ≡ true
  pub own : port.number ≡ number

first_found : (p : Port → Bool) (ports : List Port) (number : ℕ) → option_map number_of_port (find p ports) ≡ Some number → IsFound p ports number
first_found p [] number h = absurd cc
first_found p (q ∷ ports) number h = by_test (p q) refl h (first_found p ports number)
  where
    by_test : (b : Bool) → p q ≡ b → option_map number_of_port (cond b (Some q) (find p ports)) ≡ Some number → (option_map number_of_port (find p ports) ≡ Some number → IsFound p ports number) → IsFound p (q ∷ ports) number
    by_test true e h later = record { port = q; listed = (0, omega arith, refl); passes = e; own = cc }
    by_test false e h later = let f = later h in record { port = f.port; listed = (suc f.listed.0, (let lt = f.listed.1 in omega (arith, lt)), f.listed.2); passes = f.passes; own = f.own }

both : (a b : Bool) → (a && b) ≡ true → (a ≡ true) × (b ≡ true)
both true true h = (refl, refl)
both true false h = absurd cc
both false b h = absurd cc

-- ---- blocks of numbers

-- the numbers whose bits but so many of the lowest are a prefix
module _ (prefix low : ℕ) (few : low ≤ 32) (within : (prefix + 1) * 2 ^ low ≤ 2 ^ 32) where
  first_below : prefix * 2 ^ low < 2 ^ 32
  first_below = let some = pow_pos low in omega (arith, within, some)

  first_under : bit_and (prefix * 2 ^ low) (2 ^ 32 - 2 ^ low) ≡ prefix * 2 ^ low
  first_under =
      let own : (prefix * 2 ^ low + 0) / 2 ^ low ≡ prefix = div-mul-add prefix (2 ^ low) 0 (pow_pos low) in
      let same : prefix * 2 ^ low + 0 ≡ prefix * 2 ^ low = omega arith in
      and_high_mask 32 low few (prefix * 2 ^ low) first_below ∙ ap (λ (n : ℕ). n * 2 ^ low) (ap (λ (n : ℕ). n / 2 ^ low) (sym same) ∙ own)

  pub in_block : (number : ℕ) → number < 2 ^ 32 → number / 2 ^ low ≡ prefix → agrees_under (2 ^ 32 - 2 ^ low) (prefix * 2 ^ low) number ≡ true
  in_block number fits is = eq-eqb _ _ (and_high_mask 32 low few number fits ∙ ap (λ (n : ℕ). n * 2 ^ low) is ∙ sym first_under)

-- a block of one number
single : (prefix number : ℕ) → (prefix + 1) * 2 ^ 0 ≤ 2 ^ 32 → number < 2 ^ 32 → agrees_under (2 ^ 32 - 2 ^ 0) (prefix * 2 ^ 0) number ≡ true → number ≡ prefix
single prefix number within fits h =
    let few : 0 ≤ 32 = omega arith in
    let same : number / 2 ^ 0 * 2 ^ 0 ≡ prefix * 2 ^ 0 = sym (and_high_mask 32 0 few number fits) ∙ (eqb-true _ _ h ∙ first_under prefix 0 few within) in
    omega (arith, same)

pub single_receives : (ports : List Port) (prefix found : ℕ) → (prefix + 1) * 2 ^ 0 ≤ 2 ^ 32 → found < 2 ^ 32 → receiver_under (2 ^ 32 - 2 ^ 0) (prefix * 2 ^ 0) ports ≡ Some found → (number : ℕ) → number / 2 ^ 0 ≡ prefix → HasReceiver ports number
single_receives ports prefix found within fits is number in_it =
    let f = first_found (λ q. may_receive q && agrees_under (2 ^ 32 - 2 ^ 0) (prefix * 2 ^ 0) q.number) ports found is in
    let passes = both (may_receive f.port) (agrees_under (2 ^ 32 - 2 ^ 0) (prefix * 2 ^ 0) f.port.number) f.passes in
    let agrees : agrees_under (2 ^ 32 - 2 ^ 0) (prefix * 2 ^ 0) found ≡ true = subst (λ (n : ℕ). agrees_under (2 ^ 32 - 2 ^ 0) (prefix * 2 ^ 0) n ≡ true) f.own passes.1 in
    let one : found ≡ prefix = single prefix found within fits agrees in
    let same : found ≡ number = omega (arith, one, in_it) in
    record { port = f.port; listed = f.listed; receives = passes.0; own = f.own ∙ same }

-- the halves of a block
pub half_of : (number prefix half : ℕ) → number / 2 ^ (suc half) ≡ prefix → (number / 2 ^ half ≡ 2 * prefix + 1) ⊎ (number / 2 ^ half ≡ 2 * prefix)
half_of number prefix half is = by_rest (number / 2 ^ half % 2) refl
  where
    halved : number / 2 ^ half / 2 ≡ prefix
    halved = div-div-eq-div-mul number (2 ^ half) 2 ∙ (ap (λ (n : ℕ). number / n) (sym (pow-suc 2 half)) ∙ is)

    by_rest : (r : ℕ) → number / 2 ^ half % 2 ≡ r → (number / 2 ^ half ≡ 2 * prefix + 1) ⊎ (number / 2 ^ half ≡ 2 * prefix)
    by_rest zero e = inr (omega (arith, halved, e))
    by_rest (suc r) e = inl (omega (arith, halved, e))

twice_as_many : (p x y m : ℕ) → y ≡ 2 * x → (p + 1) * y ≤ m → ((2 * p + 1 + 1) * x ≤ m) × ((2 * p + 1) * x ≤ m)
twice_as_many p x y m e h =
    let k : (p + 1) * (2 * x) ≤ m = rw e at h in
    (omega (arith, k), omega (arith, k))

factor_le : (a x m : ℕ) → 0 < x → a * x ≤ m → a ≤ m
factor_le a zero m some h = absurd (omega (arith, some))
factor_le a (suc k) m some h = omega (arith, h, mul-suc a k)

pub record AreHalves (prefix low : ℕ) : Type 0 where
  pub upper : (2 * prefix + 1 + 1) * 2 ^ (low - 1) ≤ 2 ^ 32
  pub lower : (2 * prefix + 1) * 2 ^ (low - 1) ≤ 2 ^ 32
  pub fits : 2 * prefix + 1 < 2 ^ 32
  pub either : (number : ℕ) → number / 2 ^ low ≡ prefix → (number / 2 ^ (low - 1) ≡ 2 * prefix + 1) ⊎ (number / 2 ^ (low - 1) ≡ 2 * prefix)

pub halves : (prefix low : ℕ) → 0 < low → (prefix + 1) * 2 ^ low ≤ 2 ^ 32 → AreHalves prefix low
halves prefix zero some within = absurd (omega (arith, some))
halves prefix (suc half) some within =
    let e : half ≡ suc half - 1 = omega arith in
    let twice : 2 ^ suc half ≡ 2 * 2 ^ half = omega (arith, pow-suc 2 half) in
    let h = twice_as_many prefix (2 ^ half) (2 ^ suc half) (2 ^ 32) twice within in
    let few : 2 * prefix + 1 + 1 ≤ 2 ^ 32 = factor_le (2 * prefix + 1 + 1) (2 ^ half) (2 ^ 32) (pow_pos half) h.0 in
    record {
      upper = subst (λ (n : ℕ). (2 * prefix + 1 + 1) * 2 ^ n ≤ 2 ^ 32) e h.0;
      lower = subst (λ (n : ℕ). (2 * prefix + 1) * 2 ^ n ≤ 2 ^ 32) e h.1;
      fits = omega (arith, few);
      either = λ number is. subst (λ (n : ℕ). (number / 2 ^ n ≡ 2 * prefix + 1) ⊎ (number / 2 ^ n ≡ 2 * prefix)) e (half_of number prefix half is);
    }

-- a block of one number in which a port receives
pub block_receives : (ports : List Port) (prefix low first mask : ℕ) (found : Option ℕ) → low ≡ 0 → (prefix + 1) * 2 ^ low ≤ 2 ^ 32 → first ≡ prefix * 2 ^ low → mask ≡ 2 ^ 32 - 2 ^ low → found ≡ receiver_under mask first ports → IfSome found (λ n. n < 2 ^ 32) → (none : Bool) → is_some found ≡ not none → none ≡ false →
    (number : ℕ) → number / 2 ^ low ≡ prefix → HasReceiver ports number
block_receives ports prefix low first mask None one within first_is mask_is is fits none tells some number in_it = let odd : false ≡ not false = tells ∙ ap not some in absurd cc
block_receives ports prefix low first mask (Some found) one within first_is mask_is is fits none tells some number in_it =
    single_receives ports prefix found (rw one at within) fits (rw (mask_is, first_is, one) at (sym is)) number (rw one at in_it)

-- ---- numbers that are not there

twice : (n mask : ℕ) → bit_and (bit_and n mask) mask ≡ bit_and n mask
twice n mask = same_from_bits _ _ (λ i. omega (arith, bit_at_and (bit_and n mask) mask i, bit_at_and n mask i))

within_ones : (mask : ℕ) → mask < 2 ^ 32 → bit_and mask (ones_of InPort) ≡ mask
unfolding row_of
within_ones mask fits = under_ones InPort mask (omega (arith, fits))

pub one_absence : (ports : List Port) (number mask : ℕ) (e : MatchField) → mask < 2 ^ 32 → IsConditionOf number mask e → receiver_under mask number ports ≡ None → (fields : List MatchField) → fields ≡ e ∷ [] → IsAbsence ports fields
one_absence ports number mask e fits is none fields alone = record {
  condition = e;
  alone = alone;
  ingress = is.ingress;
  conditions = subst AreConditions (sym alone) (record { within = rw (is.looks, is.ingress) (within_ones mask fits); value = rw (is.value, is.looks) (twice number mask) }, tt);
  absent = λ q c receives packet at.
      let neither : (may_receive q && agrees_under mask number q.number) ≡ false = any_false (λ q. may_receive q && agrees_under mask number q.number) ports (none_any (λ q. may_receive q && agrees_under mask number q.number) ports none) q c in
      let differs : agrees_under mask number q.number ≡ false = sym (ap (λ b. b && agrees_under mask number q.number) receives) ∙ neither in
      let asked : agrees e (Some q.number) ≡ false = rw (is.looks, is.value) differs in
      ap (λ m. matches_map m packet) alone ∙ ap (λ o. agrees e o && true) (ap packet is.ingress ∙ at) ∙ ap (λ b. b && true) asked;
}

pub absence_more : (ports : List Port) (old new : List (Vec MatchField)) (own : Vec MatchField) → new ≡ old ++ own ∷ [] → IsAbsence ports own.items → AreAbsences ports old → AreAbsences ports new
absence_more ports old new own is absence each m c = elim (Contains-push_cases old own m (subst (λ (ms : List (Vec MatchField)). Contains ms m) is c)) as (λ w. IsAbsence ports m.items) [
  | inl before ↦ each m before
  | inr same ↦ subst (λ (y : Vec MatchField). IsAbsence ports y.items) same absence
]

-- ---- numbers that are named

pub named_more : (old new : List (Vec MatchField)) (own : Vec MatchField) → new ≡ old ++ own ∷ [] → (number : ℕ) → IsNamedNumber old number → IsNamedNumber new number
named_more old new own is number h = (h.0, subst (λ (l : List (Vec MatchField)). Contains l h.0) (sym is) (Contains-append_left old (own ∷ []) h.0 h.1), h.2)

pub named_last : (old new : List (Vec MatchField)) (own : Vec MatchField) (number mask : ℕ) (e : MatchField) → new ≡ old ++ own ∷ [] → own.items ≡ e ∷ [] → IsConditionOf number mask e → (other : ℕ) → agrees_under mask number other ≡ true → IsNamedNumber new other
named_last old new own number mask e is alone condition other agree = (
  own,
  subst (λ (l : List (Vec MatchField)). Contains l own) (sym is) (Contains-push old own),
  λ packet at.
      let asked : agrees e (Some other) ≡ true = rw (condition.looks, condition.value) agree in
      ap (λ m. matches_map m packet) alone ∙ ap (λ o. agrees e o && true) (ap packet condition.ingress ∙ at) ∙ ap (λ b. b && true) asked,
)

-- those of both halves
pub from_halves : {X E : Type 0} (r : Result X E) (ports : List Port) (between new : List (Vec MatchField)) (prefix low : ℕ) → AreHalves prefix low → ((number : ℕ) → number < 2 ^ 32 → number / 2 ^ (low - 1) ≡ 2 * prefix + 1 → IsReceiverOrNamed ports between number) →
    OnOk r ((number : ℕ) → IsNamedNumber between number → IsNamedNumber new number) → OnOk r ((number : ℕ) → number < 2 ^ 32 → number / 2 ^ (low - 1) ≡ 2 * prefix → IsReceiverOrNamed ports new number) →
    OnOk r ((number : ℕ) → number < 2 ^ 32 → number / 2 ^ low ≡ prefix → IsReceiverOrNamed ports new number)
from_halves (Err e) ports between new prefix low h upper more lower = tt
from_halves (Ok x) ports between new prefix low h upper more lower = λ number fits is. elim (h.either number is) as (λ w. IsReceiverOrNamed ports new number) [
  | inl above ↦ elim (upper number fits above) as (λ w. IsReceiverOrNamed ports new number) [ inl receives ↦ inl receives | inr named ↦ inr (more number named) ]
  | inr below ↦ lower number fits below
]
