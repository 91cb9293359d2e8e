-- Requirements in words, one word after the other.
use Rattle.std.proofs.Common.{◌≡◌, ◌<◌, ℕ, eqb, Bool, false, List, [], ◌∷◌, ◌++◌, length, Result, Ok, Err, refl, sym, ap, ◌∙◌}
use Rattle.std.{specs.Prelude.if◌then◌else◌, specs.Prelude.is_err, specs.Prelude.is_ok, proofs.lemmas.List.append_assoc, proofs.lemmas.List.append-nil}
use Rattle.of_ovs_words.{specs.Outcomes.◌>>=◌, specs.Words.after_word, specs.Words.word_in, specs.Words.words_from, proofs.WordLemmas.first_word}
use Rattle.of_paths.specs.declared.destination.Destination.{Destination}
use Rattle.of_require.specs.{declared.refusal.NoRequirement.NoRequirement, declared.refusal.NoRequirement.TheVariants.NoMemory, declared.refusal.NoRequirement.TheVariants.Refused}
use Rattle.of_require.specs.{Reading.place_named, Reading.places_in, Refusals.LineRefusal, Refusals.LineStops, Refusals.each_said}

-- ---- what each of some says, behind what those before it say

abbrev pub behind_said : {B E : Type 0} → List B → Result (List B) E → Result (List B) E
behind_said done outcome = outcome >>= λ others. Ok (done ++ others)

module _ {A B E : Type 0} (said : A → Result B E) (done : List B) where
  one_more : (y : B) (outcome : Result (List B) E) → behind_said done (outcome >>= λ ys. Ok (y ∷ ys)) ≡ behind_said (done ++ y ∷ []) outcome
  one_more y (Ok ys) = ap Ok (sym (append_assoc done (y ∷ []) ys))
  one_more y (Err e) = refl

  pub said_more : (x : A) (xs : List A) (y : B) → said x ≡ Ok y → behind_said done (each_said said (x ∷ xs)) ≡ behind_said (done ++ y ∷ []) (each_said said xs)
  said_more x xs y is = rw is (one_more y (each_said said xs))

  pub said_stop : (x : A) (xs : List A) (e : E) → said x ≡ Err e → behind_said done (each_said said (x ∷ xs)) ≡ Err e
  said_stop x xs e is = rw is refl

  pub said_all : behind_said done (each_said said []) ≡ Ok done
  said_all = ap Ok (append-nil done)

-- ---- places

module _ (places : List Destination) (rest : List ℕ) (some : 0 < length rest) where
  places_next : behind_said places (each_said place_named (words_from 0 rest)) ≡ behind_said places (each_said place_named (word_in 0 rest ∷ words_from 0 (after_word 0 rest)))
  places_next = ap (λ (ws : List (List ℕ)). behind_said places (each_said place_named ws)) (first_word rest some)

  pub places_more : (word after : List ℕ) (to : Destination) → word ≡ word_in 0 rest → after ≡ after_word 0 rest → place_named word ≡ Ok to
      → behind_said places (each_said place_named (words_from 0 rest)) ≡ behind_said (places ++ to ∷ []) (each_said place_named (words_from 0 after))
  places_more word after to w a is = places_next ∙ (said_more place_named places (word_in 0 rest) (words_from 0 (after_word 0 rest)) to (ap place_named (sym w) ∙ is) ∙ rw a refl)

  pub places_stop : (word : List ℕ) (stop : NoRequirement) → word ≡ word_in 0 rest → LineStops (place_named word) stop → LineStops (behind_said places (each_said place_named (words_from 0 rest))) stop
  places_stop word NoMemory w h = tt
  places_stop word (Refused r) w h = places_next ∙ said_stop place_named places (word_in 0 rest) (words_from 0 (after_word 0 rest)) _ (ap place_named (sym w) ∙ h)

pub places_end : (places : List Destination) (rest : List ℕ) → rest ≡ [] → behind_said places (each_said place_named (words_from 0 rest)) ≡ Ok places
unfolding words_from
places_end places rest e = rw e (said_all place_named places)

some_text : (text : List ℕ) (t : Bool) → t ≡ eqb (length text) 0 → t ≡ false → places_in text ≡ each_said place_named (words_from 0 text)
some_text text t is fails = rw (sym is ∙ fails) refl

pub places_are : (text : List ℕ) (t : Bool) → t ≡ eqb (length text) 0 → t ≡ false → (outcome : Result (List Destination) LineRefusal) → each_said place_named (words_from 0 text) ≡ outcome → places_in text ≡ outcome
places_are text t is fails outcome h = some_text text t is fails ∙ h

pub same_stop : {A : Type 0} (a b : Result A LineRefusal) (stop : NoRequirement) → a ≡ b → LineStops b stop → LineStops a stop
same_stop a b NoMemory e h = tt
same_stop a b (Refused r) e h = e ∙ h

pub pushed_ok : {X Y E : Type 0} (r : Result Y E) (new old more : List X) → new ≡ (if is_ok r then old ++ more else old) → is_err r ≡ false → new ≡ old ++ more
pushed_ok (Ok x) new old more is fails = is
pushed_ok (Err e) new old more is fails = absurd cc
