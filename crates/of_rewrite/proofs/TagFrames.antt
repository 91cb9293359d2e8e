-- A frame with a tag pushed or popped, as bytes.
use Rattle.std.proofs.Common.{◌≡◌, ℕ, zero, suc, ◌+◌, ◌/◌, ◌%◌, ◌<◌, ◌≤◌, true, false, List, [], ◌∷◌, ◌++◌, length, take, drop, ap, ◌∙◌, arith}
use Rattle.std.proofs.lemmas.List.{length-take-le, length-drop, length-append}
use Rattle.of_layers.{specs.Reading.is_tag_type, specs.WellFormed.AreBytes, proofs.EncodingLemmas.AreBytes-take, proofs.EncodingLemmas.AreBytes-drop}
use Rattle.of_rewrite.proofs.TagPut.{tagged, four, push_is, pop_is, untagged_pops, Tagged, is_tagged}
use Rattle.of_rewrite.{specs.Tagging.has_tag, specs.Tagging.control_in, specs.Frames.frame_pushed, specs.Frames.frame_popped, proofs.Framing.is_pushed, proofs.Framing.is_popped}

pub bytes_append : (a b : List ℕ) → AreBytes a → AreBytes b → AreBytes (a ++ b)
bytes_append [] b h k i = k i
bytes_append (x ∷ a) b h k zero = h 0
bytes_append (x ∷ a) b h k (suc i) = bytes_append a b (λ i. h (suc i)) k i

four_below : (a b c d : ℕ) → a < 256 → b < 256 → c < 256 → d < 256 → AreBytes (four a b c d)
four_below a b c d f g h k zero = f
four_below a b c d f g h k (suc zero) = g
four_below a b c d f g h k (suc (suc zero)) = h
four_below a b c d f g h k (suc (suc (suc zero))) = k
four_below a b c d f g h k (suc (suc (suc (suc i)))) = omega arith

pub record Pushed (type : ℕ) (s r : List ℕ) : Type 0 where
  pub frame : r ≡ frame_pushed type s
  pub long : length r ≡ length s + 4

pub tag_pushed : (type control : ℕ) (s r : List ℕ) → 14 ≤ length s → AreBytes s → type < 65536 → control < 65536 → is_tag_type type ≡ true → control ≡ control_in s →
    r ≡ tagged (four (type / 256) (type % 256) (control / 256) (control % 256)) s → Pushed type s r
tag_pushed type control s r h b small low t e is =
    let x : List ℕ = four (type / 256) (type % 256) (control / 256) (control % 256) in
    let fours : AreBytes (four (type / 256) (type % 256) (control / 256) (control % 256)) = four_below (type / 256) (type % 256) (control / 256) (control % 256) (omega arith) (omega arith) (omega arith) (omega arith) in
    let all : AreBytes (tagged x s) = bytes_append (take 12 s) (x ++ drop 12 s) (AreBytes-take 12 s b) (bytes_append x (drop 12 s) fours (AreBytes-drop 12 s b)) in
    let long : length r ≡ length s + 4 = ap length is ∙ omega (arith, length-append (take 12 s) (x ++ drop 12 s), length-take-le 12 s (omega arith), length-append x (drop 12 s), length-drop 12 s) in
    record { frame = is_pushed type s r (λ i. rw is (all i)) (omega arith) (push_is type control s r h t e is); long = long }

pub record Popped (s r : List ℕ) : Type 0 where
  pub frame : r ≡ frame_popped s
  pub long : length r ≤ length s

pub tag_popped : (s r : List ℕ) → 14 ≤ length s → AreBytes s → has_tag s ≡ true → r ≡ take 12 s ++ drop 16 s → Popped s r
tag_popped s r h b has is =
    let t : Tagged s = is_tagged s has in
    let room : 18 ≤ length s = t.long in
    let all : AreBytes (take 12 s ++ drop 16 s) = bytes_append (take 12 s) (drop 16 s) (AreBytes-take 12 s b) (AreBytes-drop 16 s b) in
    let long : length r + 4 ≡ length s = ap (λ (z : List ℕ). length z + 4) is ∙ omega (arith, length-append (take 12 s) (drop 16 s), length-take-le 12 s (omega arith), length-drop 16 s) in
    record { frame = is_popped s r (λ i. rw is (all i)) (omega arith) (pop_is s r has is); long = omega arith }

pub none_popped : (s : List ℕ) → 14 ≤ length s → AreBytes s → has_tag s ≡ false → s ≡ frame_popped s
none_popped s h b none = is_popped s s b h (untagged_pops s none)
