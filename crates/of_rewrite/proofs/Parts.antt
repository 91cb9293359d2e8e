-- The words of a part of a frame's cells, where a number changes.
use Rattle.std.proofs.Common.{◌≡◌, ℕ, zero, suc, ◌*◌, ◌/◌, ◌≤◌, Bool, true, false, cond, List, [], ◌∷◌, ◌++◌, length, take, drop, Option, Some, None, refl, sym, ap, ◌∙◌, arith}
use Rattle.std.proofs.lemmas.List.{length-append, take-append-le, drop-append-le, length-drop, drop_at, append-nil}
use Rattle.std.{specs.Prelude.◌&&◌, specs.Prelude.◌||◌, specs.Prelude.not, proofs.lemmas.Bool.eqb-true}
use Rattle.of_layers.specs.Layers.{Item, Cell, cells_in, byte_cells, encoded}
use Rattle.of_layers.{specs.Bits.bits, specs.Looking.name_is, proofs.BitLemmas.length-bits, proofs.TestLemmas.and_true, proofs.EncodingLemmas.encoded-append}
use Rattle.of_rewrite.specs.{Checksum.number_of_bits, Checksum.words_of, Rewriting.change_at, Rewriting.words}

-- ---- whether a cell of a name is there

abbrev pub has : ℕ → List Cell → Bool
has n [] = false
has n (c ∷ cs) = name_is n c.name || has n cs

change_front : (n : ℕ) (f : ℕ → ℕ) (a b : List Cell) → has n a ≡ true → change_at n f (a ++ b) ≡ change_at n f a ++ b
change_front n f [] b h = absurd cc
change_front n f (c ∷ a) b h =
    elim (name_is n c.name) as (λ t. (t || has n a) ≡ true → cond t (record c { value = f c.value } ∷ (a ++ b)) (c ∷ change_at n f (a ++ b)) ≡ cond t (record c { value = f c.value } ∷ a) (c ∷ change_at n f a) ++ b) [
      | true ↦ λ g. refl
      | false ↦ λ g. ap (λ (x : List Cell). c ∷ x) (change_front n f a b g)
    ] h

change_back : (n : ℕ) (f : ℕ → ℕ) (a b : List Cell) → has n a ≡ false → change_at n f (a ++ b) ≡ a ++ change_at n f b
change_back n f [] b h = refl
change_back n f (c ∷ a) b h =
    elim (name_is n c.name) as (λ t. (t || has n a) ≡ false → cond t (record c { value = f c.value } ∷ (a ++ b)) (c ∷ change_at n f (a ++ b)) ≡ c ∷ (a ++ change_at n f b)) [
      | true ↦ λ g. absurd cc
      | false ↦ λ g. ap (λ (x : List Cell). c ∷ x) (change_back n f a b g)
    ] h

pub change_none_in : (n : ℕ) (f : ℕ → ℕ) (a : List Cell) → has n a ≡ false → change_at n f a ≡ a
change_none_in n f a h = ap (change_at n f) (sym (append-nil a)) ∙ change_back n f a [] h ∙ append-nil a

pub length_changed : (n : ℕ) (f : ℕ → ℕ) (a : List Cell) → length (encoded (change_at n f a)) ≡ length (encoded a)
length_changed n f [] = refl
length_changed n f (c ∷ a) =
    elim (name_is n c.name) as (λ t. length (encoded (cond t (record c { value = f c.value } ∷ a) (c ∷ change_at n f a))) ≡ length (bits c.width c.value ++ encoded a)) [
      | true ↦ omega (arith, length-append (bits c.width (f c.value)) (encoded a), length-append (bits c.width c.value) (encoded a), length-bits c.width c.value, length-bits c.width (f c.value))
      | false ↦ omega (arith, length-append (bits c.width c.value) (encoded (change_at n f a)), length-append (bits c.width c.value) (encoded a), length_changed n f a)
    ]

-- ---- a part in the middle

record Middle (n : ℕ) (f : ℕ → ℕ) (a c b : List Cell) : Type 0 where
  pub front : List ℕ
  pub back : List ℕ
  pub is : encoded (change_at n f (a ++ (c ++ b))) ≡ front ++ (encoded (change_at n f c) ++ back)
  pub long : length front ≡ length (encoded a)

three : (a c b : List Cell) → encoded (a ++ (c ++ b)) ≡ encoded a ++ (encoded c ++ encoded b)
three a c b = encoded-append a (c ++ b) ∙ ap (λ (x : List ℕ). encoded a ++ x) (encoded-append c b)

middle : (n : ℕ) (f : ℕ → ℕ) (a c b : List Cell) → (has n a ≡ true → has n c ≡ false) → Middle n f a c b
middle n f a c b apart =
    elim (has n a) as (λ t. has n a ≡ t → Middle n f a c b) [
      | true ↦ λ h. record {
        front = encoded (change_at n f a);
        back = encoded b;
        is = ap encoded (change_front n f a (c ++ b) h) ∙ three (change_at n f a) c b ∙ ap (λ (x : List Cell). encoded (change_at n f a) ++ (encoded x ++ encoded b)) (sym (change_none_in n f c (apart h)));
        long = length_changed n f a;
      }
      | false ↦ λ h. elim (has n c) as (λ t. has n c ≡ t → Middle n f a c b) [
        | true ↦ λ g. record { front = encoded a; back = encoded b; is = ap encoded (change_back n f a (c ++ b) h ∙ ap (λ (x : List Cell). a ++ x) (change_front n f c b g)) ∙ three a (change_at n f c) b; long = refl }
        | false ↦ λ g. record {
          front = encoded a;
          back = encoded (change_at n f b);
          is = ap encoded (change_back n f a (c ++ b) h ∙ ap (λ (x : List Cell). a ++ x) (change_back n f c b g)) ∙ three a c (change_at n f b) ∙ ap (λ (x : List Cell). encoded a ++ (encoded x ++ encoded (change_at n f b))) (sym (change_none_in n f c g));
          long = refl;
        }
      ] refl
    ] refl

words_front : (k : ℕ) (a b : List ℕ) → 16 * k ≤ length a → words_of k (a ++ b) ≡ words_of k a
unfolding words_of
words_front zero a b h = refl
words_front (suc k) a b h =
    let t : take 16 (a ++ b) ≡ take 16 a = take-append-le 16 a b (omega arith) in
    let d : drop 16 (a ++ b) ≡ drop 16 a ++ b = drop-append-le 16 a b (omega arith) in
    let r : words_of k (drop 16 a ++ b) ≡ words_of k (drop 16 a) = words_front k (drop 16 a) b (omega (arith, length-drop 16 a)) in
    λ j. number_of_bits (t j) ∷ (ap (words_of k) d ∙ r) j

pub part_words : (n : ℕ) (f : ℕ → ℕ) (a c b : List Cell) (at k : ℕ) → (has n a ≡ true → has n c ≡ false) → length (encoded a) ≡ 8 * at → length (encoded c) ≡ 16 * k →
    words_of k (drop (8 * at) (encoded (change_at n f (a ++ (c ++ b))))) ≡ words (change_at n f c)
part_words n f a c b at k apart la lc =
    let m : Middle n f a c b = middle n f a c b apart in
    let l : length m.front ≡ 8 * at = m.long ∙ la in
    let s : length (encoded (change_at n f c)) ≡ 16 * k = length_changed n f c ∙ lc in
    let e : length (encoded (change_at n f c)) / 16 ≡ k = omega arith in
    ap (λ (x : List ℕ). words_of k (drop (8 * at) x)) m.is
    ∙ ap (words_of k) (drop_at m.front (encoded (change_at n f c) ++ m.back) (8 * at) l)
    ∙ words_front k (encoded (change_at n f c)) m.back (omega arith)
    ∙ ap (λ (j : ℕ). words_of j (encoded (change_at n f c))) (sym e)

-- ---- names apart

abbrev pub All : (ℕ → Bool) → List Cell → Type 0
All q [] = Unit {0}
All q (c ∷ cs) = ((n : ℕ) → name_is n c.name ≡ true → q n ≡ true) × All q cs

pub all_has : (q : ℕ → Bool) (n : ℕ) (cs : List Cell) → All q cs → has n cs ≡ true → q n ≡ true
all_has q n [] h e = absurd cc
all_has q n (c ∷ cs) h e =
    elim (name_is n c.name) as (λ t. (name_is n c.name ≡ t) → (t || has n cs) ≡ true → q n ≡ true) [
      | true ↦ λ g k. h.0 n g
      | false ↦ λ g k. all_has q n cs h.1 k
    ] refl e

pub apart_by : (q : ℕ → Bool) (a c : List Cell) → All q a → All (λ n. not (q n)) c → (n : ℕ) → has n a ≡ true → has n c ≡ false
apart_by q a c h k n e =
    let yes : q n ≡ true = all_has q n a h e in
    elim (has n c) as (λ t. has n c ≡ t → t ≡ false) [
      | true ↦ λ g. absurd (let no : not (q n) ≡ true = all_has (λ n. not (q n)) n c k g in let z : not true ≡ true = ap not (sym yes) ∙ no in cc)
      | false ↦ λ g. refl
    ] refl

pub all_append : (q : ℕ → Bool) (a b : List Cell) → All q a → All q b → All q (a ++ b)
all_append q [] b h k = k
all_append q (c ∷ a) b h k = (h.0, all_append q a b h.1 k)

pub all_bytes : (q : ℕ → Bool) (s : List ℕ) → All q (byte_cells s)
all_bytes q [] = tt
all_bytes q (b ∷ s) = ((λ n e. absurd cc), all_bytes q s)

abbrev name_passes : (ℕ → Bool) → Option ℕ → Bool
name_passes q None = true
name_passes q (Some m) = q m

abbrev pub passes : (ℕ → Bool) → List Item → Bool
passes q [] = true
passes q (i ∷ is) = name_passes q i.name && passes q is

name_by : (q : ℕ → Bool) (o : Option ℕ) → name_passes q o ≡ true → (n : ℕ) → name_is n o ≡ true → q n ≡ true
name_by q None h n e = absurd cc
name_by q (Some m) h n e = ap q (eqb-true n m e) ∙ h

pub all_in : (q : ℕ → Bool) (is : List Item) (ns : List ℕ) → passes q is ≡ true → All q (cells_in is ns)
all_in q [] ns h = tt
all_in q (i ∷ is) [] h = tt
all_in q (i ∷ is) (m ∷ ns) h = let r = and_true (name_passes q i.name) (passes q is) h in (name_by q i.name r.0, all_in q is ns r.1)
