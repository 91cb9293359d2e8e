-- Which bytes of a frame are lent, and the frame after a loan.
use Rattle.std.proofs.Common.{◌≡◌, ◌≢◌, ℕ, ◌+◌, ◌/◌, ◌%◌, ◌≤◌, List, ◌++◌, length, take, drop, Some, None, refl, arith}
use Rattle.std.proofs.{lemmas.Bool.ne_eqb, lemmas.Bool.eq-eqb, lemmas.List.length-append, lemmas.List.length-take-le, lemmas.List.length-drop, lemmas.List.take_all}
use Rattle.of_layers.specs.{declared.field.Field.Field, declared.place.Place.Place, Layers.cells, Looking.locate, Reading.layers_of}
use Rattle.of_rewrite.specs.Loans.{lent, with_bytes_at}

pub lent_whole : (f : Field) (s : List ℕ) (p : Place) → locate f (cells (layers_of s)) ≡ Some p → p.first % 8 ≡ 0 → p.bits % 8 ≡ 0 → (p.first / 8, (p.first + p.bits) / 8) ≡ lent f s
unfolding lent
lent_whole f s p e h k = rw (e, eq-eqb (p.first % 8) 0 h, eq-eqb (p.bits % 8) 0 k) refl

pub lent_begun : (f : Field) (s : List ℕ) (p : Place) → locate f (cells (layers_of s)) ≡ Some p → p.first % 8 ≢ 0 → ◌≡◌ {A = ℕ × ℕ} (0, 0) (lent f s)
unfolding lent
lent_begun f s p e h = rw (e, ne_eqb (p.first % 8) 0 h) refl

pub lent_ended : (f : Field) (s : List ℕ) (p : Place) → locate f (cells (layers_of s)) ≡ Some p → p.first % 8 ≡ 0 → p.bits % 8 ≢ 0 → ◌≡◌ {A = ℕ × ℕ} (0, 0) (lent f s)
unfolding lent
lent_ended f s p e h k = rw (e, eq-eqb (p.first % 8) 0 h, ne_eqb (p.bits % 8) 0 k) refl

pub lent_absent : (f : Field) (s : List ℕ) → locate f (cells (layers_of s)) ≡ None → ◌≡◌ {A = ℕ × ℕ} (0, 0) (lent f s)
unfolding lent
lent_absent f s e = rw e refl

-- a loan keeps its length, and all bytes around it are as before
pub around : (i : ℕ) (s w : List ℕ) → i + length w ≤ length s → with_bytes_at i s w ≡ take i s ++ (w ++ drop (i + length w) s)
around i s w h =
    let f : length (take i s) ≡ i = length-take-le i s (omega arith) in
    take_all (length s) (take i s ++ (w ++ drop (i + length w) s)) (omega (arith, f, length-append (take i s) (w ++ drop (i + length w) s), length-append w (drop (i + length w) s), length-drop (i + length w) s))

pub length_with : (i : ℕ) (s w : List ℕ) → i ≤ length s → length (with_bytes_at i s w) ≡ length s
length_with i s w h =
    let f : length (take i s) ≡ i = length-take-le i s h in
    length-take-le (length s) (take i s ++ (w ++ drop (i + length w) s))
    (omega (arith, f, length-append (take i s) (w ++ drop (i + length w) s), length-append w (drop (i + length w) s), length-drop (i + length w) s))
