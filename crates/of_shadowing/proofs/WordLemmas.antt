-- Words that hold where others do.
use Rattle.std.proofs.Common.{◌≡◌, ℕ, Bool, true, false, List, [], ◌∷◌, refl, subst}
use Rattle.std.{specs.Prelude.◌&&◌, specs.Prelude.◌||◌, specs.List.list_all, specs.List.list_any, specs.Str.bytes_eq, specs.Global.Vec, proofs.lemmas.Slice.Eq.bytes_eq-Decides}
use Rattle.of_oxm.proofs.Related.{and_true}
use Rattle.of_shadowing.specs.{declared.listed_flow.ListedFlow.ListedFlow, Worlds.all_hold, Worlds.says_word}

pub both : (a b : Bool) → a ≡ true → b ≡ true → (a && b) ≡ true
both true b p q = q
both false b p q = absurd cc

or_right : (a b : Bool) → b ≡ true → (a || b) ≡ true
or_right true b e = refl
or_right false b e = e

or_left : (a b : Bool) → a ≡ true → (a || b) ≡ true
or_left true b e = refl
or_left false b e = absurd cc

-- the text is one of these words
abbrev is_in : List (Vec ℕ) → List ℕ → Bool
is_in words text = list_any (λ (w : Vec ℕ). bytes_eq w.items text) words

abbrev all_in : (List ℕ → Bool) → List (Vec ℕ) → Bool
all_in holds words = list_all (λ (w : Vec ℕ). holds w.items) words

-- ---- a flow says its own words

all_later : (first : Vec ℕ) (words some : List (Vec ℕ)) → all_in (is_in words) some ≡ true → all_in (is_in (first ∷ words)) some ≡ true
all_later first words [] e = refl
all_later first words (w ∷ some) e =
    let h = and_true (is_in words w.items) (all_in (is_in words) some) e in
    both _ _ (or_right (bytes_eq first.items w.items) (is_in words w.items) h.0) (all_later first words some h.1)

all_own : (words : List (Vec ℕ)) → all_in (is_in words) words ≡ true
all_own [] = refl
all_own (w ∷ words) = both _ _ (or_left (bytes_eq w.items w.items) (is_in words w.items) ((bytes_eq-Decides w.items w.items).1 refl)) (all_later w words words (all_own words))

pub says_own : (f : ListedFlow) → all_hold (says_word f) f ≡ true
says_own f = all_own f.words.items

-- ---- if all words of a flow hold, so do those that are among them

module _ (holds : List ℕ → Bool) where
  here_or_later : (w : Vec ℕ) (text : List ℕ) (others : Bool) (t : Bool) → bytes_eq w.items text ≡ t → (t || others) ≡ true → holds w.items ≡ true → (others ≡ true → holds text ≡ true) → holds text ≡ true
  here_or_later w text others true same e h later = subst (λ (x : List ℕ). holds x ≡ true) ((bytes_eq-Decides w.items text).0 same) h
  here_or_later w text others false other e h later = later e

  one_holds : (words : List (Vec ℕ)) (text : List ℕ) → is_in words text ≡ true → all_in holds words ≡ true → holds text ≡ true
  one_holds [] text e h = absurd cc
  one_holds (w ∷ words) text e h =
      let k = and_true (holds w.items) (all_in holds words) h in
      here_or_later w text (is_in words text) (bytes_eq w.items text) refl e k.0 (λ there. one_holds words text there k.1)

  all_hold_among : (words some : List (Vec ℕ)) → all_in (is_in words) some ≡ true → all_in holds words ≡ true → all_in holds some ≡ true
  all_hold_among words [] e h = refl
  all_hold_among words (w ∷ some) e h =
      let k = and_true (is_in words w.items) (all_in (is_in words) some) e in
      both _ _ (one_holds words w.items k.0 h) (all_hold_among words some k.1 h)

  pub hold_among : (own other : ListedFlow) → all_hold (says_word own) other ≡ true → all_hold holds own ≡ true → all_hold holds other ≡ true
  hold_among own other e h = all_hold_among own.words.items other.words.items e h
