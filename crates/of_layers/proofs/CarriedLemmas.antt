-- What an IP packet carries: encoded by its numbers and the bytes after them, by no others, and well formed.
use Rattle.std.proofs.Common.{◌≡◌, ℕ, ◌*◌, ◌≤◌, Bool, true, false, cond, List, ◌++◌, length, get_or, drop, refl, sym, ap, ◌∙◌, arith, append_assoc}
use Rattle.std.{specs.Prelude.nat_le, proofs.lemmas.Bool.leb-true, proofs.lemmas.List.length-append, proofs.lemmas.List.length-drop}
use Rattle.of_layers.specs.declared.transport.Transport.TheVariants.{Nothing, Tcp, Udp}
use Rattle.of_layers.specs.Layers.{Carried, items_of, size_of, cells_in, byte_cells, carried_cells, encoded}
use Rattle.of_layers.specs.Reading.{word, double, whole_in, numbers_of, carried_as, carried_of}
use Rattle.of_layers.proofs.EncodingLemmas.{AreBytes-drop, then_bits, byte_from, word_from, double_from, word_small, double_small, encoded-append, encoded_bytes}
use Rattle.of_layers.specs.{declared.transport.Transport.Transport, Bits.bits, Bits.bits_of, WellFormed.AreBytes, WellFormed.FitsItems, WellFormed.IsCarried, WellFormed.carried_size}
use Rattle.of_layers.proofs.{BitLemmas.length-bits_of, FrontLemmas.front_same, FrontLemmas.bytes_same, FrontLemmas.total, FrontLemmas.length_fits}

-- ---- the headers

numbers_encoded : (kind : Transport) (s : List ℕ) → AreBytes s → size_of kind ≤ length s → bits_of s ≡ encoded (cells_in (items_of kind) (numbers_of kind s)) ++ bits_of (drop (size_of kind) s)
unfolding numbers_of
numbers_encoded Nothing s b h = refl
numbers_encoded Tcp s b h = simp append_assoc
    (then_bits (bits 16 (word s 0)) (word_from s 0 b (omega arith))
    (then_bits (bits 16 (word s 2)) (word_from s 2 b (omega arith))
    (then_bits (bits 32 (double s 4)) (double_from s 4 b (omega arith))
    (then_bits (bits 32 (double s 8)) (double_from s 8 b (omega arith))
    (then_bits (bits 16 (word s 12)) (word_from s 12 b (omega arith))
    (then_bits (bits 16 (word s 14)) (word_from s 14 b (omega arith))
    (then_bits (bits 16 (word s 16)) (word_from s 16 b (omega arith))
    (word_from s 18 b (omega arith)))))))))
numbers_encoded Udp s b h = simp append_assoc
    (then_bits (bits 16 (word s 0)) (word_from s 0 b (omega arith))
    (then_bits (bits 16 (word s 2)) (word_from s 2 b (omega arith))
    (then_bits (bits 16 (word s 4)) (word_from s 4 b (omega arith))
    (word_from s 6 b (omega arith)))))
numbers_encoded other s b h = simp append_assoc
    (then_bits (bits 8 (get_or s 0 0)) (byte_from s 0 (omega arith))
    (then_bits (bits 8 (get_or s 1 0)) (byte_from s 1 (omega arith))
    (word_from s 2 b (omega arith))))

numbers_fit : (kind : Transport) (s : List ℕ) → AreBytes s → FitsItems (items_of kind) (numbers_of kind s)
unfolding numbers_of
numbers_fit Nothing s b = tt
numbers_fit Tcp s b = (word_small s 0 b, (word_small s 2 b, (double_small s 4 b, (double_small s 8 b, (word_small s 12 b, (word_small s 14 b, (word_small s 16 b, (word_small s 18 b, tt))))))))
numbers_fit Udp s b = (word_small s 0 b, (word_small s 2 b, (word_small s 4 b, (word_small s 6 b, tt))))
numbers_fit other s b = (b 0, (b 1, (word_small s 2 b, tt)))

total_is : (kind : Transport) → total (items_of kind) ≡ 8 * size_of kind
total_is Nothing = refl
total_is other = refl

-- ---- whole or not there

room_by : (t : Bool) (kind : Transport) (n : ℕ) → nat_le (size_of kind) n ≡ t → size_of (cond t kind Nothing) ≤ n
room_by true kind n e = leb-true (size_of kind) n e
room_by false kind n e = omega arith

room : (kind : Transport) (n : ℕ) → size_of (whole_in kind n) ≤ n
room kind n = room_by (nat_le (size_of kind) n) kind n refl

-- ---- what is read

as_encoded : (kind : Transport) (s : List ℕ) → AreBytes s → size_of kind ≤ length s → bits_of s ≡ encoded (carried_cells (carried_as kind s))
as_encoded kind s b h =
    numbers_encoded kind s b h ∙ ap (λ (t : List ℕ). encoded (cells_in (items_of kind) (numbers_of kind s)) ++ t) (sym (encoded_bytes (drop (size_of kind) s)))
    ∙ sym (encoded-append (cells_in (items_of kind) (numbers_of kind s)) (byte_cells (drop (size_of kind) s)))

pub carried_encoded : (kind : Transport) (s : List ℕ) → AreBytes s → bits_of s ≡ encoded (carried_cells (carried_of kind s))
carried_encoded kind s b = as_encoded (whole_in kind (length s)) s b (room kind (length s))

as_bytes : (kind : Transport) (s : List ℕ) → size_of kind ≤ length s → carried_size (carried_as kind s) ≡ length s
as_bytes kind s h = omega (arith, length-drop (size_of kind) s)

pub carried_bytes : (kind : Transport) (s : List ℕ) → carried_size (carried_of kind s) ≡ length s
carried_bytes kind s = as_bytes (whole_in kind (length s)) s (room kind (length s))

pub carries : (kind : Transport) (s : List ℕ) → AreBytes s → IsCarried kind (carried_of kind s)
carries kind s b = record {
  there = ap (whole_in kind) (sym (carried_bytes kind s));
  numbers = numbers_fit (whole_in kind (length s)) s b;
  rest = AreBytes-drop (size_of (whole_in kind (length s))) s b;
}

-- ---- nothing else

pub length_carried : (kind : Transport) (c : Carried) → IsCarried kind c → length (encoded (carried_cells c)) ≡ 8 * carried_size c
length_carried kind c h =
    omega (
      arith,
      ap length (encoded-append (cells_in (items_of c.kind) c.numbers) (byte_cells c.rest)),
      length-append (encoded (cells_in (items_of c.kind) c.numbers)) (encoded (byte_cells c.rest)),
      length_fits (items_of c.kind) c.numbers h.numbers,
      total_is c.kind,
      ap length (encoded_bytes c.rest),
      length-bits_of c.rest,
    )

pub carried_is : (kind : Transport) (c : Carried) (s : List ℕ) → IsCarried kind c → AreBytes s → bits_of s ≡ encoded (carried_cells c) → c ≡ carried_of kind s
carried_is kind c s h b e =
    let size : carried_size c ≡ length s = omega (arith, length_carried kind c h, ap length e, length-bits_of s) in
    let parts : bits_of s ≡ encoded (cells_in (items_of c.kind) c.numbers) ++ bits_of c.rest =
    e ∙ encoded-append (cells_in (items_of c.kind) c.numbers) (byte_cells c.rest) ∙ ap (λ (t : List ℕ). encoded (cells_in (items_of c.kind) c.numbers) ++ t) (encoded_bytes c.rest) in
    let r = front_same (items_of c.kind) c.numbers (numbers_of c.kind s) (bits_of c.rest) (bits_of (drop (size_of c.kind) s)) h.numbers (numbers_fit c.kind s b) (sym parts ∙ numbers_encoded c.kind s b (omega arith)) in
    let q : c.rest ≡ drop (size_of c.kind) s = bytes_same c.rest (drop (size_of c.kind) s) h.rest (AreBytes-drop (size_of c.kind) s b) r.1 in
    let same : c ≡ carried_as c.kind s = λ j. record { kind = c.kind; numbers = r.0 j; rest = q j } in
    same ∙ ap (λ (k : Transport). carried_as k s) (h.there ∙ ap (whole_in kind) size)
