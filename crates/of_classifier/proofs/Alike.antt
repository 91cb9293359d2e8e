-- Field maps that agree in all bits that entries look at have one winner.
use Rattle.std.proofs.Common.{◌≡◌, ℕ, ◌+◌, ◌<◌, Bool, cond, List, [], ◌∷◌, ◌++◌, length, get_or, take, Option, Some, None, refl, sym, ◌∙◌, ap, subst, arith}
use Rattle.std.{specs.Prelude.bit_and, specs.Prelude.bit_or, specs.Int.bit_at, specs.List.All, proofs.lemmas.List.take_more}
use Rattle.std.proofs.{lemmas.List.Elements.All-head, lemmas.List.Elements.All-tail, lemmas.Nat.Bits.bit_at_and, lemmas.Nat.Bits.bit_at_or, lemmas.Nat.Bits.same_from_bits}
use Rattle.of_layers.specs.declared.field.Field.{Field}
use Rattle.of_headers.specs.FieldMap.{seen, either}
use Rattle.of_oxm.{specs.NormalForm.IsMatch, specs.Masks.looked_at, specs.Masks.Agree, proofs.Seen.matched_alike}
use Rattle.of_classifier.specs.{declared.Row.Row, Winner.is_matching, Winner.matching, Looking.looked_by}

-- ---- two masks in one

pub or_assoc : (a b c : ℕ) → bit_or a (bit_or b c) ≡ bit_or (bit_or a b) c
or_assoc a b c = same_from_bits _ _ (λ i. omega (arith, bit_at_or a (bit_or b c) i, bit_at_or b c i, bit_at_or (bit_or a b) c i, bit_at_or a b i))

pub either_none : (a : Option ℕ) → either a None ≡ a
either_none None = refl
either_none (Some a) = refl

pub either_assoc : (a b c : Option ℕ) → either a (either b c) ≡ either (either a b) c
either_assoc None b c = refl
either_assoc (Some a) None c = refl
either_assoc (Some a) (Some b) None = refl
either_assoc (Some a) (Some b) (Some c) = ap Some (or_assoc a b c)

first_bits : (m n v w : ℕ) → bit_and v (bit_or m n) ≡ bit_and w (bit_or m n) → bit_and v m ≡ bit_and w m
first_bits m n v w h = same_from_bits _ _ (λ i.
    let e : bit_at (bit_and v (bit_or m n)) i ≡ bit_at (bit_and w (bit_or m n)) i = ap (λ (k : ℕ). bit_at k i) h in
    omega (arith, e, bit_at_and v (bit_or m n) i, bit_at_and w (bit_or m n) i, bit_at_or m n i, bit_at_and v m i, bit_at_and w m i))

other_bits : (m n v w : ℕ) → bit_and v (bit_or m n) ≡ bit_and w (bit_or m n) → bit_and v n ≡ bit_and w n
other_bits m n v w h = same_from_bits _ _ (λ i.
    let e : bit_at (bit_and v (bit_or m n)) i ≡ bit_at (bit_and w (bit_or m n)) i = ap (λ (k : ℕ). bit_at k i) h in
    omega (arith, e, bit_at_and v (bit_or m n) i, bit_at_and w (bit_or m n) i, bit_at_or m n i, bit_at_and v n i, bit_at_and w n i))

-- what is seen the same under both masks in one is seen the same under each
pub seen_first : (a b v w : Option ℕ) → seen (either a b) v ≡ seen (either a b) w → seen a v ≡ seen a w
seen_first None b v w h = refl
seen_first (Some m) None v w h = h
seen_first (Some m) (Some n) None None h = refl
seen_first (Some m) (Some n) None (Some w) h = absurd cc
seen_first (Some m) (Some n) (Some v) None h = absurd cc
seen_first (Some m) (Some n) (Some v) (Some w) h = let e : bit_and v (bit_or m n) ≡ bit_and w (bit_or m n) = cc in ap Some (first_bits m n v w e)

pub seen_other : (a b v w : Option ℕ) → seen (either a b) v ≡ seen (either a b) w → seen b v ≡ seen b w
seen_other None b v w h = h
seen_other (Some m) None v w h = refl
seen_other (Some m) (Some n) None None h = refl
seen_other (Some m) (Some n) None (Some w) h = absurd cc
seen_other (Some m) (Some n) (Some v) None h = absurd cc
seen_other (Some m) (Some n) (Some v) (Some w) h = let e : bit_and v (bit_or m n) ≡ bit_and w (bit_or m n) = cc in ap Some (other_bits m n v w e)

-- ---- all entries

pub agree_by : (m n j k : Field → Option ℕ) → ((f : Field) → m f ≡ n f) → Agree m j k → Agree n j k
agree_by m n j k e a f = subst (λ (o : Option ℕ). seen o (j f) ≡ seen o (k f)) (e f) (a f)

pub matching_alike : (rows : List Row) (j k : Field → Option ℕ) → All (λ r. IsMatch r.fields) rows → Agree (looked_by rows) j k → matching rows j ≡ matching rows k
matching_alike [] j k n a = refl
matching_alike (r ∷ rows) j k n a =
    let first : is_matching j r ≡ is_matching k r = matched_alike r.fields j k (All-head (λ (x : Row). IsMatch x.fields) r rows n) (λ f. seen_first (looked_at r.fields f) (looked_by rows f) (j f) (k f) (a f)) in
    let rest : matching rows j ≡ matching rows k = matching_alike rows j k (All-tail (λ (x : Row). IsMatch x.fields) r rows n) (λ f. seen_other (looked_at r.fields f) (looked_by rows f) (j f) (k f) (a f)) in
    ap (λ (b : Bool). cond b (r ∷ matching rows j) (matching rows j)) first ∙ ap (λ (xs : List Row). cond (is_matching k r) (r ∷ xs) xs) rest

-- ---- one more entry

looked-push : (rows : List Row) (r : Row) (f : Field) → looked_by (rows ++ r ∷ []) f ≡ either (looked_by rows f) (looked_at r.fields f)
looked-push [] r f = either_none (looked_at r.fields f)
looked-push (x ∷ rows) r f = ap (either (looked_at x.fields f)) (looked-push rows r f) ∙ either_assoc (looked_at x.fields f) (looked_by rows f) (looked_at r.fields f)

pub looked_more : (rows : List Row) (i : ℕ) (r : Row) (old new one : Field → Option ℕ) → i < length rows → r ≡ get_or rows i r → ((f : Field) → old f ≡ looked_by (take i rows) f) → ((f : Field) → one f ≡ looked_at r.fields f)
    → ((f : Field) → new f ≡ either (old f) (one f)) → (f : Field) → new f ≡ looked_by (take (i + 1) rows) f
looked_more rows i r old new one lt is before mine both f =
    both f ∙ ap (λ (o : Option ℕ). either o (one f)) (before f) ∙ ap (either (looked_by (take i rows) f)) (mine f)
    ∙ sym (ap (λ (xs : List Row). looked_by xs f) (take_more rows i r lt ∙ ap (λ (x : Row). take i rows ++ x ∷ []) (sym is)) ∙ looked-push (take i rows) r f)
