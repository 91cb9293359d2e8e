-- Counting tags, one at a time.
use Rattle.std.proofs.Common.{◌≡◌, ℕ, zero, suc, ◌+◌, ◌*◌, ◌<◌, ◌≤◌, true, false, cond, List, [], ◌∷◌, length, drop, refl, sym, ap, ◌∙◌, arith, add-zero, inl, inr}
use Rattle.std.proofs.{lemmas.Bool.cases_lt, lemmas.List.get_or-drop, lemmas.List.drop-drop, lemmas.List.length-drop}
use Rattle.of_layers.specs.Reading.{word, tag_count, tags_of, is_tag_type}

pub tag_step : (s : List ℕ) → 6 ≤ length s → is_tag_type (word s 0) ≡ true → tag_count s ≡ suc (tag_count (drop 4 s))
tag_step [] h e = absurd (omega arith)
tag_step (a ∷ []) h e = absurd (omega arith)
tag_step (a ∷ b ∷ []) h e = absurd (omega arith)
tag_step (a ∷ b ∷ c ∷ []) h e = absurd (omega arith)
tag_step (a ∷ b ∷ c ∷ d ∷ []) h e = absurd (omega arith)
tag_step (a ∷ b ∷ c ∷ d ∷ f ∷ []) h e = absurd (omega arith)
tag_step (a ∷ b ∷ c ∷ d ∷ f ∷ g ∷ s) h e = rw e refl

pub tag_stop : (s : List ℕ) → is_tag_type (word s 0) ≡ false → tag_count s ≡ 0
tag_stop [] e = refl
tag_stop (a ∷ []) e = refl
tag_stop (a ∷ b ∷ []) e = refl
tag_stop (a ∷ b ∷ c ∷ []) e = refl
tag_stop (a ∷ b ∷ c ∷ d ∷ []) e = refl
tag_stop (a ∷ b ∷ c ∷ d ∷ f ∷ []) e = refl
tag_stop (a ∷ b ∷ c ∷ d ∷ f ∷ g ∷ s) e = rw e refl

pub tag_short : (s : List ℕ) → length s < 6 → tag_count s ≡ 0
tag_short [] e = refl
tag_short (a ∷ []) e = refl
tag_short (a ∷ b ∷ []) e = refl
tag_short (a ∷ b ∷ c ∷ []) e = refl
tag_short (a ∷ b ∷ c ∷ d ∷ []) e = refl
tag_short (a ∷ b ∷ c ∷ d ∷ f ∷ []) e = refl
tag_short (a ∷ b ∷ c ∷ d ∷ f ∷ g ∷ s) e = absurd (omega arith)

word-drop : (s : List ℕ) (at : ℕ) → word (drop at s) 0 ≡ word s at
word-drop s at = rw (get_or-drop, get_or-drop) (simp add-zero)

-- at a place of the frame
pub tag_count_more : (s : List ℕ) (at : ℕ) → at + 6 ≤ length s → is_tag_type (word s at) ≡ true → tag_count (drop at s) ≡ suc (tag_count (drop (at + 4) s))
tag_count_more s at h e =
    let l : 6 ≤ length (drop at s) = rw length-drop (omega arith) in
    tag_step (drop at s) l (ap is_tag_type (word-drop s at) ∙ e) ∙ ap (λ (t : List ℕ). suc (tag_count t)) (drop-drop 4 at s)

pub tag_count_none : (s : List ℕ) (at : ℕ) → is_tag_type (word s at) ≡ false → tag_count (drop at s) ≡ 0
tag_count_none s at e = tag_stop (drop at s) (ap is_tag_type (word-drop s at) ∙ e)

pub tag_count_short : (s : List ℕ) (at : ℕ) → length s < at + 6 → tag_count (drop at s) ≡ 0
tag_count_short s at h = tag_short (drop at s) (rw length-drop (omega arith))

pub length-tags_of : (n : ℕ) (s : List ℕ) → length (tags_of n s) ≡ n
length-tags_of zero s = refl
length-tags_of (suc n) s = ap suc (length-tags_of n (drop 4 s))

-- a frame has room for its tags and the type after them
pub tag_room : (s : List ℕ) → 2 ≤ length s → 4 * tag_count s + 2 ≤ length s
tag_room [] h = absurd (omega arith)
tag_room (a ∷ []) h = omega arith
tag_room (a ∷ b ∷ []) h = omega arith
tag_room (a ∷ b ∷ c ∷ []) h = omega arith
tag_room (a ∷ b ∷ c ∷ d ∷ []) h = omega arith
tag_room (a ∷ b ∷ c ∷ d ∷ e ∷ []) h = omega arith
tag_room (a ∷ b ∷ c ∷ d ∷ e ∷ f ∷ s) h =
    elim (is_tag_type (256 * a + b)) as (λ t. 4 * cond t (suc (tag_count (e ∷ f ∷ s))) 0 + 2 ≤ length (a ∷ b ∷ c ∷ d ∷ e ∷ f ∷ s)) [
      | true ↦ omega (arith, tag_room (e ∷ f ∷ s) (omega arith))
      | false ↦ omega arith
    ]

-- one more tag
pub record HasTag (s : List ℕ) (m : ℕ) : Type 0 where
  pub is : is_tag_type (word s 0) ≡ true
  pub next : tag_count (drop 4 s) ≡ m

suc_is : (a b : ℕ) → suc a ≡ suc b → a ≡ b
suc_is a b e = omega arith

pub count_tag : (s : List ℕ) (m : ℕ) → tag_count s ≡ suc m → HasTag s m
count_tag [] m e = absurd (omega arith)
count_tag (a ∷ []) m e = absurd (omega arith)
count_tag (a ∷ b ∷ []) m e = absurd (omega arith)
count_tag (a ∷ b ∷ c ∷ []) m e = absurd (omega arith)
count_tag (a ∷ b ∷ c ∷ d ∷ []) m e = absurd (omega arith)
count_tag (a ∷ b ∷ c ∷ d ∷ f ∷ []) m e = absurd (omega arith)
count_tag (a ∷ b ∷ c ∷ d ∷ f ∷ g ∷ s) m e =
    let r : (is_tag_type (256 * a + b) ≡ true) × (tag_count (f ∷ g ∷ s) ≡ m) = elim (is_tag_type (256 * a + b)) as (λ t. cond t (suc (tag_count (f ∷ g ∷ s))) 0 ≡ suc m → (t ≡ true) × (tag_count (f ∷ g ∷ s) ≡ m)) [
      | true ↦ λ h. (refl, suc_is (tag_count (f ∷ g ∷ s)) m h)
      | false ↦ λ h. absurd (omega arith)
    ] e in
    record { is = r.0; next = r.1 }

-- after the tags there is no tag
pub end_count : (n : ℕ) (s : List ℕ) → tag_count s ≡ n → tag_count (drop (4 * n) s) ≡ 0
end_count zero s e = e
end_count (suc n) s e = let t = count_tag s n e in ap (λ (k : ℕ). tag_count (drop k s)) (omega arith) ∙ sym (ap tag_count (drop-drop (4 * n) 4 s)) ∙ end_count n (drop 4 s) t.next

-- where there is no tag, a tag's type is cut off
pub few_left : (s : List ℕ) → tag_count s ≡ 0 → is_tag_type (word s 0) ≡ true → length s < 6
few_left s e t = elim (cases_lt (length s) 6) [
  | inl lt ↦ lt
  | inr le ↦ absurd (let c : tag_count s ≡ suc (tag_count (drop 4 s)) = tag_step s le t in omega arith)
]
