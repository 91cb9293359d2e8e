-- Numbers among cells: where they are encoded, and what becomes of the encoding where one changes.
use Rattle.std.proofs.Common.{◌≡◌, ℕ, ◌+◌, ◌*◌, ◌/◌, ◌%◌, ◌^◌, ◌<◌, ◌≤◌, ◌≢◌, inl, inr, true, false, cond, List, [], ◌∷◌, ◌++◌, length, take, drop, set, Option, Some, None, refl, sym, ap, ◌∙◌, arith, append_assoc}
use Rattle.std.proofs.lemmas.List.{length-append, length-take-le, get_or-set_same, get_or-set_other, set_past}
use Rattle.std.proofs.lemmas.Bool.{cases_eq, cases_lt, ne_eqb, eqb-true}
use Rattle.of_layers.specs.{declared.place.Place.Place, Bits.bits, Bits.bits_of, Layers.Cell, Layers.encoded, Looking.name_is, Looking.look_up, Looking.locate_at, Reading.word, WellFormed.AreBytes}
use Rattle.of_layers.proofs.BitLemmas.{length-bits, length-bits_of, bits_front, append_same}
use Rattle.of_rewrite.{specs.Rewriting.change_at, specs.Spans.over_bits, specs.Spans.with_word, proofs.Putting.put_after, proofs.Putting.word_bits_of, proofs.Putting.frame_parts}

-- each number is within its bits
abbrev pub Sound : List Cell → Type 0
Sound [] = Unit {0}
Sound (c ∷ cs) = (c.value < 2 ^ c.width) × Sound cs

pub record Found (n at : ℕ) (cs : List Cell) (p : Place) : Type 0 where
  pub value : ℕ
  pub front : List ℕ
  pub back : List ℕ
  pub below : at + length front ≡ p.first
  pub is : encoded cs ≡ front ++ (bits p.bits value ++ back)
  pub changed : (f : ℕ → ℕ) → encoded (change_at n f cs) ≡ front ++ (bits p.bits (f value) ++ back)
  pub look : look_up n cs ≡ Some value
  pub small : Sound cs → value < 2 ^ p.bits

some_is : (x y : Place) → Some x ≡ Some y → x ≡ y
some_is x y e = cc

found_here : (n at : ℕ) (c : Cell) (cs : List Cell) (p : Place) → name_is n c.name ≡ true → Some (record { first = at; bits = c.width }) ≡ Some p → Found n at (c ∷ cs) p
found_here n at c cs p t e =
    let s = some_is (record { first = at; bits = c.width }) p e in
    let first : at ≡ p.first = ap (λ (x : Place). x.first) s in
    let width : c.width ≡ p.bits = ap (λ (x : Place). x.bits) s in
    record {
      value = c.value;
      front = [];
      back = encoded cs;
      below = omega arith;
      is = ap (λ (w : ℕ). bits w c.value ++ encoded cs) width;
      changed = λ f. rw t (ap (λ (w : ℕ). bits w (f c.value) ++ encoded cs) width);
      look = rw t refl;
      small = λ h. let k : c.value < 2 ^ c.width = h.0 in rw (← width) k;
    }

found_later : (n at : ℕ) (c : Cell) (cs : List Cell) (p : Place) → name_is n c.name ≡ false → Found n (at + c.width) cs p → Found n at (c ∷ cs) p
found_later n at c cs p t r =
    let l : length (bits c.width c.value) ≡ c.width = length-bits c.width c.value in
    let b : at + c.width + length r.front ≡ p.first = r.below in
    record {
      value = r.value;
      front = bits c.width c.value ++ r.front;
      back = r.back;
      below = omega (arith, length-append (bits c.width c.value) r.front);
      is = ap (λ (x : List ℕ). bits c.width c.value ++ x) r.is ∙ sym (append_assoc (bits c.width c.value) r.front (bits p.bits r.value ++ r.back));
      changed = λ f. rw t (ap (λ (x : List ℕ). bits c.width c.value ++ x) (r.changed f) ∙ sym (append_assoc (bits c.width c.value) r.front (bits p.bits (f r.value) ++ r.back)));
      look = rw t r.look;
      small = λ h. r.small h.1;
    }

pub found : (n at : ℕ) (cs : List Cell) (p : Place) → locate_at at n cs ≡ Some p → Found n at cs p
found n at [] p e = absurd cc
found n at (c ∷ cs) p e =
    elim (name_is n c.name) as (λ t. name_is n c.name ≡ t → cond t (Some (record { first = at; bits = c.width })) (locate_at (at + c.width) n cs) ≡ Some p → Found n at (c ∷ cs) p) [
      | true ↦ λ t h. found_here n at c cs p t h
      | false ↦ λ t h. found_later n at c cs p t (found n (at + c.width) cs p h)
    ] refl e

-- no cell of that name
pub not_found : (n at : ℕ) (cs : List Cell) (f : ℕ → ℕ) → locate_at at n cs ≡ None → (change_at n f cs ≡ cs) × (look_up n cs ≡ None)
not_found n at [] f e = (refl, refl)
not_found n at (c ∷ cs) f e =
    elim (name_is n c.name) as (λ t. cond t (Some (record { first = at; bits = c.width })) (locate_at (at + c.width) n cs) ≡ None → (cond t (record c { value = f c.value } ∷ cs) (c ∷ change_at n f cs) ≡ c ∷ cs) × (cond t (Some c.value) (look_up n cs) ≡ None)) [
      | true ↦ λ h. absurd cc
      | false ↦ λ h. let r = not_found n (at + c.width) cs f h in (λ j. c ∷ r.0 j, r.1)
    ] e

pub put_changed : (n : ℕ) (cs : List Cell) (p : Place) (f : ℕ → ℕ) (r : Found n 0 cs p) → encoded (change_at n f cs) ≡ over_bits p.first p.bits (f r.value) (encoded cs)
put_changed n cs p f r =
    let l : length r.front ≡ p.first = omega (arith, r.below) in
    r.changed f ∙ sym (ap (over_bits p.first p.bits (f r.value)) r.is ∙ put_after r.front p.first p.bits (f r.value) r.value r.back l)

-- ---- other numbers

pub names_apart : (m n : ℕ) (a : Option ℕ) → m ≢ n → name_is n a ≡ true → name_is m a ≡ false
names_apart m n None ne t = refl
names_apart m n (Some k) ne t = let e : n ≡ k = eqb-true n k t in ne_eqb m k (λ q. ne (q ∙ sym e))

pub others : (m n at : ℕ) (f : ℕ → ℕ) (cs : List Cell) → m ≢ n → (locate_at at m (change_at n f cs) ≡ locate_at at m cs) × (look_up m (change_at n f cs) ≡ look_up m cs)
others m n at f [] ne = (refl, refl)
others m n at f (c ∷ cs) ne =
    let r = others m n (at + c.width) f cs ne in
    elim (name_is n c.name) as (λ t. name_is n c.name ≡ t → (locate_at at m (cond t (record c { value = f c.value } ∷ cs) (c ∷ change_at n f cs)) ≡ locate_at at m (c ∷ cs)) × (look_up m (cond t (record c { value = f c.value } ∷ cs) (c ∷ change_at n f cs)) ≡ look_up m (c ∷ cs))) [
      | true ↦ λ t. let k : name_is m c.name ≡ false = names_apart m n c.name ne t in (rw k refl, rw k refl)
      | false ↦ λ t. (ap (λ (x : Option Place). cond (name_is m c.name) (Some (record { first = at; bits = c.width })) x) r.0, ap (λ (x : Option ℕ). cond (name_is m c.name) (Some c.value) x) r.1)
    ] refl

-- ---- words of bytes

pub word_put : (at w : ℕ) (s : List ℕ) → AreBytes s → at + 2 ≤ length s → w < 65536 → bits_of (with_word at w s) ≡ over_bits (8 * at) 16 w (bits_of s)
word_put at w s b h small =
    let l : length (bits_of (take at s)) ≡ 8 * at = length-bits_of (take at s) ∙ ap (λ (k : ℕ). 8 * k) (length-take-le at s (omega arith)) in
    word_bits_of at w s h small ∙ sym (ap (over_bits (8 * at) 16 w) (frame_parts at s b h) ∙ put_after (bits_of (take at s)) (8 * at) 16 w (word s at) (bits_of (drop (at + 2) s)) l)

pub word_found : (n at : ℕ) (cs : List Cell) (s : List ℕ) (p : Place) (r : Found n 0 cs p) → p ≡ record { first = 8 * at; bits = 16 } → AreBytes s → at + 2 ≤ length s → bits_of s ≡ encoded cs → r.value < 65536 → r.value ≡ word s at
word_found n at cs s p r e b h is small =
    let first : p.first ≡ 8 * at = ap (λ (x : Place). x.first) e in
    let width : p.bits ≡ 16 = ap (λ (x : Place). x.bits) e in
    let l : length (bits_of (take at s)) ≡ 8 * at = length-bits_of (take at s) ∙ ap (λ (k : ℕ). 8 * k) (length-take-le at s (omega arith)) in
    let m : length r.front ≡ length (bits_of (take at s)) = omega (arith, r.below) in
    let same = append_same r.front (bits_of (take at s)) (bits p.bits r.value ++ r.back) (bits 16 (word s at) ++ bits_of (drop (at + 2) s)) m (sym r.is ∙ sym is ∙ frame_parts at s b h) in
    let word_small : word s at < 65536 = omega (arith, b at, b (at + 1)) in
    (bits_front 16 r.value (word s at) r.back (bits_of (drop (at + 2) s)) small word_small (ap (λ (w : ℕ). bits w r.value ++ r.back) (sym width) ∙ same.1)).0

bytes_set : (s : List ℕ) (i v : ℕ) → AreBytes s → v < 256 → AreBytes (set s i v)
bytes_set s i v b h j = elim (cases_eq j i) [
  | inl e ↦ elim (cases_lt i (length s)) [
    | inl l ↦ rw (e, get_or-set_same s i v 0 l) h
    | inr r ↦ rw (set_past s i v r) (b j)
  ]
  | inr ne ↦ rw (get_or-set_other s i j v 0 ne) (b j)
]

pub bytes_with_word : (at w : ℕ) (s : List ℕ) → AreBytes s → w < 65536 → AreBytes (with_word at w s)
bytes_with_word at w s b h = bytes_set (set s at (w / 256)) (at + 1) (w % 256) (bytes_set s at (w / 256) b (omega arith)) (omega arith)
