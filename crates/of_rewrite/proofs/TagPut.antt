-- A tag that is put after the addresses is the outermost of the frame's, and all else is as before.
use Rattle.std.proofs.Common.{◌≡◌, ℕ, suc, ◌+◌, ◌*◌, ◌/◌, ◌%◌, ◌<◌, ◌≤◌, true, false, cond, List, [], ◌∷◌, ◌++◌, length, get_or, take, drop, refl, sym, ap, ◌∙◌, arith}
use Rattle.std.proofs.lemmas.List.{drop_at, take_at, drop-drop, length-drop, length-take-le, get_or-take, get_or_append_left, length-append, drop_more, take-append-drop}
use Rattle.std.{specs.Prelude.nat_le, specs.Prelude.◌&&◌, proofs.lemmas.Bool.leb-true, proofs.lemmas.Bool.leb-false}
use Rattle.of_layers.specs.Reading.{word, six, tag_count, tags_of, tag_numbers, is_tag_type, body_of, layers_of}
use Rattle.of_layers.{specs.Layers.Layers, proofs.TestLemmas.and_true, proofs.FrontLemmas.word_behind}
use Rattle.of_layers.proofs.TagLemmas.{tag_step, tag_count_more, tag_count_none, tag_count_short}
use Rattle.of_headers.specs.Tags.{tag_before, pushed, inner_tags, popped}
use Rattle.of_rewrite.specs.Tagging.{has_tag, control_in}

-- a frame with four bytes after the addresses
abbrev pub tagged : List ℕ → List ℕ → List ℕ
tagged x s = take 12 s ++ (x ++ drop 12 s)

front_same : (x s : List ℕ) (i : ℕ) → 12 ≤ length s → i < 12 → get_or (tagged x s) i 0 ≡ get_or s i 0
front_same x s i h k =
    let l : length (take 12 s) ≡ 12 = length-take-le 12 s h in
    get_or_append_left (take 12 s) (x ++ drop 12 s) 0 i (omega arith) ∙ get_or-take 12 s i 0 k

six_of : (a b c d e f a' b' c' d' e' f' : ℕ) → a ≡ a' → b ≡ b' → c ≡ c' → d ≡ d' → e ≡ e' → f ≡ f' →
    65536 * (65536 * (256 * a + b) + (256 * c + d)) + (256 * e + f) ≡ 65536 * (65536 * (256 * a' + b') + (256 * c' + d')) + (256 * e' + f')
six_of a b c d e f a' b' c' d' e' f' p q r s t u = omega arith

six_front : (x s : List ℕ) (i : ℕ) → 12 ≤ length s → i < 7 → six (tagged x s) i ≡ six s i
six_front x s i h k = six_of _ _ _ _ _ _ _ _ _ _ _ _
    (front_same x s i h (omega arith)) (front_same x s (i + 1) h (omega arith)) (front_same x s (i + 2) h (omega arith))
    (front_same x s (i + 2 + 1) h (omega arith)) (front_same x s (i + 4) h (omega arith)) (front_same x s (i + 4 + 1) h (omega arith))

behind : (x s : List ℕ) → 12 ≤ length s → drop 12 (tagged x s) ≡ x ++ drop 12 s
behind x s h = drop_at (take 12 s) (x ++ drop 12 s) 12 (length-take-le 12 s h)

-- from byte 12 + 4 + k on as from byte 12 + k on before
drop_behind : (x s : List ℕ) (k : ℕ) → length x ≡ 4 → 12 ≤ length s → drop (16 + k) (tagged x s) ≡ drop (12 + k) s
drop_behind x s k l h =
    let e : 16 + k ≡ 12 + (4 + k) = omega arith in
    ap (λ (n : ℕ). drop n (tagged x s)) e
    ∙ sym (drop-drop (4 + k) 12 (tagged x s)) ∙ ap (drop (4 + k)) (behind x s h)
    ∙ sym (drop-drop k 4 (x ++ drop 12 s))
    ∙ ap (drop k) (drop_at x (drop 12 s) 4 l)
    ∙ drop-drop k 12 s

-- the layers where there are n tags
abbrev layers_at : ℕ → List ℕ → Layers
layers_at n frame = record { ends = six frame 0 ∷ six frame 6 ∷ []; tags = tags_of n (drop 12 frame); type = word frame (12 + 4 * n); body = body_of (word frame (12 + 4 * n)) (drop (12 + 4 * n + 2) frame) }

layers_are : (s : List ℕ) (n : ℕ) → tag_count (drop 12 s) ≡ n → layers_of s ≡ layers_at n s
unfolding layers_of
layers_are s n e = ap (λ (k : ℕ). layers_at k s) e

abbrev pub four : ℕ → ℕ → ℕ → ℕ → List ℕ
four a b c d = a ∷ b ∷ c ∷ d ∷ []

tag_more : (a b c d : ℕ) (s : List ℕ) → 2 ≤ length s → is_tag_type (256 * a + b) ≡ true → tag_count (four a b c d ++ s) ≡ suc (tag_count s)
tag_more a b c d s h t = tag_step (four a b c d ++ s) (omega (arith, length-append (four a b c d) s)) t

pub tag_put : (a b c d : ℕ) (s : List ℕ) → 14 ≤ length s → is_tag_type (256 * a + b) ≡ true →
    layers_of (tagged (four a b c d) s) ≡ record (layers_of s) { tags = tag_numbers (four a b c d) ∷ (layers_of s).tags }
tag_put a b c d s h t =
    let x : List ℕ = four a b c d in
    let n : ℕ = tag_count (drop 12 s) in
    let count : tag_count (drop 12 (tagged (four a b c d) s)) ≡ suc (tag_count (drop 12 s)) = ap tag_count (behind (four a b c d) s (omega arith)) ∙ tag_more a b c d (drop 12 s) (omega (arith, length-drop 12 s)) t in
    let at : 12 + 4 * suc n ≡ 16 + 4 * n + 0 = omega arith in
    let after : 12 + 4 * suc n + 2 ≡ 16 + (4 * n + 2) = omega arith in
    let type : word (tagged (four a b c d) s) (12 + 4 * suc n) ≡ word s (12 + 4 * n) =
    ap (word (tagged (four a b c d) s)) at ∙ sym (word_behind (tagged (four a b c d) s) (16 + 4 * n) 0)
    ∙ ap (λ (r : List ℕ). word r 0) (drop_behind (four a b c d) s (4 * n) refl (omega arith)) ∙ word_behind s (12 + 4 * n) 0 ∙ ap (word s) (omega arith) in
    let rest : drop (12 + 4 * suc n + 2) (tagged (four a b c d) s) ≡ drop (12 + 4 * n + 2) s =
    ap (λ (k : ℕ). drop k (tagged (four a b c d) s)) after ∙ drop_behind (four a b c d) s (4 * n + 2) refl (omega arith) ∙ ap (λ (k : ℕ). drop k s) (omega arith) in
    let tags : tags_of (suc n) (drop 12 (tagged (four a b c d) s)) ≡ tag_numbers (four a b c d) ∷ tags_of n (drop 12 s) = ap (tags_of (suc n)) (behind (four a b c d) s (omega arith)) in
    layers_are (tagged (four a b c d) s) (suc n) count
    ∙ (λ j. record {
      ends = six_front (four a b c d) s 0 (omega arith) (omega arith) j ∷ six_front (four a b c d) s 6 (omega arith) (omega arith) j ∷ [];
      tags = tags j;
      type = type j;
      body = body_of (type j) (rest j);
    })
    ∙ sym (ap (λ (l : Layers). record l { tags = tag_numbers (four a b c d) ∷ l.tags }) (layers_are s n refl))

-- ---- whether there is a tag

untagged : (s : List ℕ) → has_tag s ≡ false → tag_count (drop 12 s) ≡ 0
untagged s e =
    elim (nat_le 18 (length s)) as (λ t. nat_le 18 (length s) ≡ t → (t && is_tag_type (word s 12)) ≡ false → tag_count (drop 12 s) ≡ 0) [
      | true ↦ λ long none. tag_count_none s 12 none
      | false ↦ λ short none. tag_count_short s 12 (omega (arith, leb-false 18 (length s) short))
    ] refl e

pub record Tagged (s : List ℕ) : Type 0 where
  pub long : 18 ≤ length s
  pub is : is_tag_type (word s 12) ≡ true
  pub count : tag_count (drop 12 s) ≡ suc (tag_count (drop 16 s))

pub is_tagged : (s : List ℕ) → has_tag s ≡ true → Tagged s
is_tagged s e =
    let both = and_true (nat_le 18 (length s)) (is_tag_type (word s 12)) e in
    let long : 18 ≤ length s = leb-true 18 (length s) both.0 in
    record { long = long; is = both.1; count = tag_count_more s 12 (omega arith) both.1 }

tags_are : (s : List ℕ) → (layers_of s).tags ≡ tags_of (tag_count (drop 12 s)) (drop 12 s)
unfolding layers_of
tags_are s = refl

control_cut : (w : ℕ) → ((w / 8192 * 8192 + w % 4096) / 8192 ≡ w / 8192) × ((w / 8192 * 8192 + w % 4096) / 4096 % 2 ≡ 0) × ((w / 8192 * 8192 + w % 4096) % 4096 ≡ w % 4096)
control_cut w = (omega arith, omega arith, omega arith)

-- the new tag's numbers
tag_is : (type control : ℕ) (s : List ℕ) → control ≡ control_in s →
    tag_before type (layers_of s).tags ≡ type ∷ (control / 8192) ∷ (control / 4096 % 2) ∷ (control % 4096) ∷ []
tag_is type control s e =
    elim (has_tag s) as (λ t. has_tag s ≡ t → control ≡ cond t (word s 14 / 8192 * 8192 + word s 14 % 4096) 0 →
    tag_before type (layers_of s).tags ≡ type ∷ (control / 8192) ∷ (control / 4096 % 2) ∷ (control % 4096) ∷ []) [
      | true ↦ λ has is.
          let t : Tagged s = is_tagged s has in
          let cut = control_cut (word s 14) in
          let w : word (drop 12 s) 2 ≡ word s 14 = word_behind s 12 2 in
          ap (tag_before type) (tags_are s ∙ ap (λ (n : ℕ). tags_of n (drop 12 s)) t.count)
          ∙ rw (is, w, cut.0, cut.1, cut.2) refl
      | false ↦ λ none is.
          let u : tag_count (drop 12 s) ≡ 0 = untagged s none in
          ap (tag_before type) (tags_are s ∙ ap (λ (n : ℕ). tags_of n (drop 12 s)) u) ∙ rw is refl
    ] refl e

pub push_is : (type control : ℕ) (s r : List ℕ) → 14 ≤ length s → is_tag_type type ≡ true → control ≡ control_in s →
    r ≡ tagged (four (type / 256) (type % 256) (control / 256) (control % 256)) s → layers_of r ≡ pushed type (layers_of s)
push_is type control s r h t e is =
    let w : 256 * (type / 256) + type % 256 ≡ type = omega arith in
    let c : 256 * (control / 256) + control % 256 ≡ control = omega arith in
    let numbers : tag_numbers (four (type / 256) (type % 256) (control / 256) (control % 256)) ≡ tag_before type (layers_of s).tags = rw (w, c) (sym (tag_is type control s e)) in
    ap layers_of is ∙ tag_put (type / 256) (type % 256) (control / 256) (control % 256) s h (ap is_tag_type w ∙ t)
    ∙ ap (λ (n : List ℕ). record (layers_of s) { tags = n ∷ (layers_of s).tags }) numbers

-- ---- without it

pub untagged_pops : (s : List ℕ) → has_tag s ≡ false → layers_of s ≡ popped (layers_of s)
untagged_pops s none =
    let u : tag_count (drop 12 s) ≡ 0 = untagged s none in
    let tags : (layers_of s).tags ≡ [] = tags_are s ∙ ap (λ (n : ℕ). tags_of n (drop 12 s)) u in
    let l : Layers = layers_of s in
    let f : List (List ℕ) → Layers = λ t. record (layers_of s) { tags = t } in
    ap f tags ∙ sym (ap f (ap inner_tags tags))

four_behind : (s : List ℕ) → 16 ≤ length s → drop 12 s ≡ four (get_or s 12 0) (get_or s 13 0) (get_or s 14 0) (get_or s 15 0) ++ drop 16 s
four_behind s h =
    drop_more s 12 0 (omega arith) ∙ ap (λ (t : List ℕ). get_or s 12 0 ∷ t) (drop_more s 13 0 (omega arith))
    ∙ ap (λ (t : List ℕ). get_or s 12 0 ∷ get_or s 13 0 ∷ t) (drop_more s 14 0 (omega arith))
    ∙ ap (λ (t : List ℕ). get_or s 12 0 ∷ get_or s 13 0 ∷ get_or s 14 0 ∷ t) (drop_more s 15 0 (omega arith))

pub pop_is : (s r : List ℕ) → has_tag s ≡ true → r ≡ take 12 s ++ drop 16 s → layers_of r ≡ popped (layers_of s)
pop_is s r has is =
    let t : Tagged s = is_tagged s has in
    let long : 18 ≤ length s = t.long in
    let front : length (take 12 s) ≡ 12 = length-take-le 12 s (omega arith) in
    let size : length (take 12 s ++ drop 16 s) + 4 ≡ length s = omega (arith, front, length-append (take 12 s) (drop 16 s), length-drop 16 s) in
    let x : List ℕ = four (get_or s 12 0) (get_or s 13 0) (get_or s 14 0) (get_or s 15 0) in
    let back : tagged (four (get_or s 12 0) (get_or s 13 0) (get_or s 14 0) (get_or s 15 0)) (take 12 s ++ drop 16 s) ≡ s =
    rw (take_at (take 12 s) (drop 16 s) 12 front, drop_at (take 12 s) (drop 16 s) 12 front) (ap (λ (y : List ℕ). take 12 s ++ y) (sym (four_behind s (omega arith))) ∙ take-append-drop 12 s) in
    let over_bits = tag_put (get_or s 12 0) (get_or s 13 0) (get_or s 14 0) (get_or s 15 0) (take 12 s ++ drop 16 s) (omega arith) t.is in
    ap layers_of is ∙ sym (ap popped (sym (ap layers_of back) ∙ over_bits))
