-- Where a number of layers is replaced, checksums that were wrong stay off by as much.
use Rattle.std.proofs.Common.{◌≡◌, ℕ, ◌+◌, ◌%◌, ◌<◌, Bool, true, false, cond, List, ◌∷◌, ◌++◌, length, sum, Some, ◌⊎◌, inl, inr, refl, sym, ap, ◌∙◌, arith, subst}
use Rattle.std.{specs.Prelude.◌==◌, specs.Prelude.◌&&◌, specs.Prelude.◌||◌, specs.Prelude.not, proofs.lemmas.Bool.cases_eq, proofs.lemmas.Bool.ne_eqb, proofs.lemmas.List.length-append}
use Rattle.of_layers.specs.declared.transport.Transport.TheVariants.{Nothing, Tcp, Udp, Icmpv4, Icmpv6}
use Rattle.of_layers.specs.{declared.transport.Transport.Transport, Layers.Cell, Layers.cells_in, Layers.items_of, Looking.look_up}
use Rattle.of_rewrite.specs.Checksum.{differ, updated, never_zero, udp_updated, carried_updated, AreWords}
use Rattle.of_rewrite.proofs.RightLayers.{HeaderWords, PacketWords, nothing_carried, never_left_out, sum_more}
use Rattle.of_rewrite.{specs.Rewriting.change_at, specs.Rewriting.words, specs.Right.is_left_out, proofs.Changes.off_again, proofs.Changes.without_word, proofs.Kept.cut_at}
use Rattle.of_rewrite.proofs.Righting.{sum_mid, differ_same}

-- ---- sums modulo 65535

-- the sum of all others is m more
renewed_off : (m c w : ℕ) (a b x y : List ℕ) → c < 65536 → AreWords (a ++ b) → length a ≡ length x → length b ≡ length y → w ≡ updated c (a ++ (c ∷ b)) (x ++ (c ∷ y)) → (m + sum (x ++ (w ∷ y))) % 65535 ≡ (m + sum (a ++ (c ∷ b))) % 65535
renewed_off m c w a b x y small are f g e =
    let z : w ≡ updated c (a ++ b) (x ++ y) = e ∙ without_word c c a x b y f in
    let s : sum (a ++ (c ∷ b)) ≡ c + sum (a ++ b) = sum_mid a b c in
    let t : sum (x ++ (w ∷ y)) ≡ w + sum (x ++ y) = sum_mid x y w in
    let o : (updated c (a ++ b) (x ++ y) + sum (x ++ y)) % 65535 ≡ (c + sum (a ++ b)) % 65535 = off_again c (a ++ b) (x ++ y) small are (omega (arith, length-append a b, length-append x y)) in
    let p : (w + sum (x ++ y)) % 65535 ≡ (c + sum (a ++ b)) % 65535 = ap (λ (k : ℕ). (k + sum (x ++ y)) % 65535) z ∙ o in
    omega (arith, s, t, p)

-- 65535 in the place of 0
never_zero_off : (m n : ℕ) (x y : List ℕ) → (m + sum (x ++ (never_zero n ∷ y))) % 65535 ≡ (m + sum (x ++ (n ∷ y))) % 65535
never_zero_off m n x y = elim (cases_eq n 0) [
  | inl e ↦
      let s : sum (x ++ (n ∷ y)) ≡ n + sum (x ++ y) = sum_mid x y n in
      let t : sum (x ++ (65535 ∷ y)) ≡ 65535 + sum (x ++ y) = sum_mid x y 65535 in
      let u : never_zero n ≡ 65535 = ap never_zero e in
      subst (λ (k : ℕ). (m + sum (x ++ (k ∷ y))) % 65535 ≡ (m + sum (x ++ (n ∷ y))) % 65535) (sym u) (omega (arith, s, t, e))
  | inr ne ↦ let u : never_zero n ≡ n = rw (ne_eqb n 0 ne) refl in ap (λ (k : ℕ). (m + sum (x ++ (k ∷ y))) % 65535) u
]

-- ---- for each kind of what is carried

-- where a checksum was computed
udp_off : (lack : Bool) (m c w : ℕ) (a b x y : List ℕ) → c < 65536 → AreWords (a ++ b) → length a ≡ length x → length b ≡ length y →
    w ≡ udp_updated lack c (a ++ (c ∷ b)) (x ++ (c ∷ y)) → (lack && (c == 0)) ≡ false → (m + sum (x ++ (w ∷ y))) % 65535 ≡ (m + sum (a ++ (c ∷ b))) % 65535
udp_off lack m c w a b x y small are f g e there =
    let l : length (a ++ (c ∷ b)) ≡ length (x ++ (c ∷ y)) = omega (arith, length-append a (c ∷ b), length-append x (c ∷ y)) in
    let n : ℕ = updated c (a ++ (c ∷ b)) (x ++ (c ∷ y)) in
    let is : w ≡ cond (not (differ (a ++ (c ∷ b)) (x ++ (c ∷ y)))) c (never_zero (updated c (a ++ (c ∷ b)) (x ++ (c ∷ y)))) = e ∙ ap (λ (t : Bool). cond (t || not (differ (a ++ (c ∷ b)) (x ++ (c ∷ y)))) c (never_zero n)) there in
    elim (differ (a ++ (c ∷ b)) (x ++ (c ∷ y))) as (λ t. differ (a ++ (c ∷ b)) (x ++ (c ∷ y)) ≡ t → w ≡ cond (not t) c (never_zero (updated c (a ++ (c ∷ b)) (x ++ (c ∷ y)))) → (m + sum (x ++ (w ∷ y))) % 65535 ≡ (m + sum (a ++ (c ∷ b))) % 65535) [
      | true ↦ λ d k. ap (λ (z : ℕ). (m + sum (x ++ (z ∷ y))) % 65535) k ∙ never_zero_off m n x y ∙ renewed_off m c n a b x y small are f g refl
      | false ↦ λ d k. ap (λ (z : ℕ). (m + sum (x ++ (z ∷ y))) % 65535) k ∙ ap (λ (z : List ℕ). (m + sum z) % 65535) (sym (differ_same (a ++ (c ∷ b)) (x ++ (c ∷ y)) l d))
    ] refl is

kind_off : (lack : Bool) (t : Transport) (m c w : ℕ) (a b x y : List ℕ) → c < 65536 → AreWords (a ++ b) → length a ≡ length x → length b ≡ length y →
    w ≡ carried_updated lack t c (a ++ (c ∷ b)) (x ++ (c ∷ y)) → (lack && is_left_out t (Some c)) ≡ false → (m + sum (x ++ (w ∷ y))) % 65535 ≡ (m + sum (a ++ (c ∷ b))) % 65535
kind_off lack Udp m c w a b x y small are f g e there = udp_off lack m c w a b x y small are f g e there
kind_off lack other m c w a b x y small are f g e there = renewed_off m c w a b x y small are f g e

-- a checksum that was computed is never written as 0, which would say that it was left out
never_zero_some : (n : ℕ) → (never_zero n == 0) ≡ false
never_zero_some n = elim (cases_eq n 0) [
  | inl e ↦ ap (λ (k : ℕ). never_zero k == 0) e
  | inr ne ↦ let u : never_zero n ≡ n = rw (ne_eqb n 0 ne) refl in ap (λ (k : ℕ). k == 0) u ∙ ne_eqb n 0 ne
]

udp_left_out : (c w n : ℕ) (d : Bool) → w ≡ cond ((c == 0) || not d) c (never_zero n) → (w == 0) ≡ (c == 0)
udp_left_out c w n d e =
    elim (c == 0) as (λ t. (c == 0) ≡ t → w ≡ cond (t || not d) c (never_zero n) → (w == 0) ≡ t) [
      | true ↦ λ t k. ap (λ (z : ℕ). z == 0) k ∙ t
      | false ↦ λ t k. elim d as (λ d. w ≡ cond (not d) c (never_zero n) → (w == 0) ≡ false) [
        | true ↦ λ k. ap (λ (z : ℕ). z == 0) k ∙ never_zero_some n
        | false ↦ λ k. ap (λ (z : ℕ). z == 0) k ∙ t
      ] k
    ] refl e

kind_left_out : (lack : Bool) (t : Transport) (c w : ℕ) (old new : List ℕ) → w ≡ carried_updated lack t c old new → (lack && is_left_out t (Some w)) ≡ (lack && is_left_out t (Some c))
kind_left_out lack Nothing c w old new e = refl
kind_left_out lack Tcp c w old new e = refl
kind_left_out true Udp c w old new e = udp_left_out c w (updated c old new) (differ old new) e
kind_left_out false Udp c w old new e = refl
kind_left_out lack Icmpv4 c w old new e = refl
kind_left_out lack Icmpv6 c w old new e = refl

-- ---- one packet

pub header_off_step : (old new : List Cell) (g : ℕ → ℕ) → HeaderWords old new g → sum (words (change_at 102 g new)) % 65535 ≡ sum (words old) % 65535
header_off_step old new g w =
    let o : (0 + sum (w.x ++ (g w.v ∷ w.y))) % 65535 ≡ (0 + sum (w.a ++ (w.v ∷ w.b))) % 65535 = renewed_off 0 w.v (g w.v) w.a w.b w.x w.y w.small w.are w.front w.back w.rule in
    omega (arith, o, ap sum w.before, ap sum w.after)

pub kinds_off : (lack : Bool) (t : Transport) (ns ms p q more : List ℕ) (k : ℕ → ℕ) → (t ≡ Nothing → p ≡ q) → (t ≡ Nothing) ⊎ PacketWords lack t ns ms p q k →
    (lack && is_left_out t (look_up 103 (cells_in (items_of t) ns))) ≡ false →
    sum (more ++ (q ++ words (change_at 103 k (cells_in (items_of t) ms)))) % 65535 ≡ sum (more ++ (p ++ words (cells_in (items_of t) ns))) % 65535
kinds_off lack t ns ms p q more k none (inl is) there = λ j. sum (more ++ nothing_carried t ns ms p q k is none j) % 65535
kinds_off lack t ns ms p q more k none (inr w) there =
    let o : (sum more + sum (w.x ++ (k w.c ∷ w.y))) % 65535 ≡ (sum more + sum (w.a ++ (w.c ∷ w.b))) % 65535 =
    kind_off lack t (sum more) w.c (k w.c) w.a w.b w.x w.y w.small w.are w.front w.back w.rule (ap (λ z. lack && is_left_out t z) (sym w.look) ∙ there) in
    ap (λ (z : ℕ). z % 65535) (sum_more more (q ++ words (change_at 103 k (cells_in (items_of t) ms))) (w.x ++ (k w.c ∷ w.y)) w.after) ∙ o ∙
    ap (λ (z : ℕ). z % 65535) (sym (sum_more more (p ++ words (cells_in (items_of t) ns)) (w.a ++ (w.c ∷ w.b)) w.before))

pub kinds_left_out : (lack : Bool) (t : Transport) (ns ms p q : List ℕ) (k : ℕ → ℕ) → (t ≡ Nothing) ⊎ PacketWords lack t ns ms p q k →
    (lack && is_left_out t (look_up 103 (cut_at 103 k (cells_in (items_of t) ms)))) ≡ (lack && is_left_out t (look_up 103 (cells_in (items_of t) ns)))
kinds_left_out lack t ns ms p q k (inl is) = ap (λ z. lack && z) (never_left_out t (look_up 103 (cut_at 103 k (cells_in (items_of t) ms))) (look_up 103 (cells_in (items_of t) ns)) is)
kinds_left_out lack t ns ms p q k (inr w) =
    ap (λ z. lack && is_left_out t z) w.looked ∙ kind_left_out lack t w.c (k w.c) (w.a ++ (w.c ∷ w.b)) (w.x ++ (w.c ∷ w.y)) w.rule ∙ ap (λ z. lack && is_left_out t z) (sym w.look)
