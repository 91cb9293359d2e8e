-- Words, one after the other.
use Rattle.std.proofs.Common.{◌≡◌, ℕ, ◌<◌, eqb, sym, Bool, true, false, cond, List, [], ◌∷◌, length, Result, Ok, Err, refl, ap, ◌∙◌, arith}
use Rattle.std.proofs.lemmas.Bool.{ne_eqb}
use Rattle.of_ovs_words.specs.Words.{words_from, word_in, after_word, ends, depth_after}
use Rattle.of_ovs_words.specs.{declared.why.Why.Why, declared.stop.Stop.Stop, declared.stop.Stop.TheVariants.NoMemory, declared.stop.Stop.TheVariants.Refused, Stops.Stops}
use Rattle.of_ovs_words.specs.Outcomes.{◌>>=◌, through_words}
use Rattle.of_lines.specs.Lines.{prepended}

-- the first word, and those after it
word_from : (depth : ℕ) (text : List ℕ) → 0 < length text → words_from depth text ≡ word_in depth text ∷ words_from 0 (after_word depth text)
unfolding words_from
word_from depth [] h = absurd (omega arith)
word_from depth (b ∷ []) h = by_test (ends depth b) refl
  where
    by_test : (t : Bool) → ends depth b ≡ t → cond (ends depth b) ([] ∷ []) ((b ∷ []) ∷ []) ≡ cond (ends depth b) [] (b ∷ []) ∷ words_from 0 (cond (ends depth b) [] [])
    by_test true e = rw e refl
    by_test false e = rw e refl
word_from depth (b ∷ c ∷ bs) h = by_test (word_from (depth_after depth b) (c ∷ bs) (omega arith)) (ends depth b) refl
  where
    by_test : words_from (depth_after depth b) (c ∷ bs) ≡ word_in (depth_after depth b) (c ∷ bs) ∷ words_from 0 (after_word (depth_after depth b) (c ∷ bs)) → (t : Bool) → ends depth b ≡ t → cond (ends depth b) ([] ∷ words_from 0 (c ∷ bs)) (prepended b (words_from (depth_after depth b) (c ∷ bs))) ≡ cond (ends depth b) [] (b ∷ word_in (depth_after depth b) (c ∷ bs)) ∷ words_from 0 (cond (ends depth b) (c ∷ bs) (after_word (depth_after depth b) (c ∷ bs)))
    by_test others true e = rw e refl
    by_test others false e = rw e (ap (prepended b) others)

pub first_word : (text : List ℕ) → 0 < length text → words_from 0 text ≡ word_in 0 text ∷ words_from 0 (after_word 0 text)
first_word text h = word_from 0 text h

pub some_bytes : (xs : List ℕ) (t : Bool) → t ≡ eqb (length xs) 0 → t ≡ false → 0 < length xs
some_bytes [] t e f = absurd cc
some_bytes (x ∷ xs) t e f = omega arith

pub no_bytes : (xs : List ℕ) (t : Bool) → t ≡ eqb (length xs) 0 → t ≡ true → xs ≡ []
no_bytes [] t e f = refl
no_bytes (x ∷ xs) t e f = let no : eqb (length (x ∷ xs)) 0 ≡ false = ne_eqb (length (x ∷ xs)) 0 (λ i. omega (arith, i)) in absurd cc

pub through_at_end : {S : Type 0} (step : S → List ℕ → Result S Why) (s : S) → through_words step s (words_from 0 []) ≡ Ok s
unfolding words_from
through_at_end step s = refl

pub through_next : {S : Type 0} (step : S → List ℕ → Result S Why) (s : S) (rest : List ℕ) → 0 < length rest → through_words step s (words_from 0 rest) ≡ cond (eqb (length (word_in 0 rest)) 0) (through_words step s (words_from 0 (after_word 0 rest))) (step s (word_in 0 rest) >>= λ next. through_words step next (words_from 0 (after_word 0 rest)))
through_next step s rest h = ap (through_words step s) (first_word rest h)

-- an empty word
pub through_passed : {S : Type 0} (step : S → List ℕ → Result S Why) (s : S) (rest word after : List ℕ) → 0 < length rest → word ≡ word_in 0 rest → after ≡ after_word 0 rest → eqb (length word) 0 ≡ true → through_words step s (words_from 0 rest) ≡ through_words step s (words_from 0 after)
through_passed step s rest word after h w a e =
    let none : eqb (length (word_in 0 rest)) 0 ≡ true = ap (λ (x : List ℕ). eqb (length x) 0) (sym w) ∙ e in
    through_next step s rest h ∙ rw (none, a) refl

-- a word that is read
pub through_more : {S : Type 0} (step : S → List ℕ → Result S Why) (s next : S) (rest word after : List ℕ) → 0 < length rest → word ≡ word_in 0 rest → after ≡ after_word 0 rest → eqb (length word) 0 ≡ false → step s word ≡ Ok next → through_words step s (words_from 0 rest) ≡ through_words step next (words_from 0 after)
through_more step s next rest word after h w a e k =
    let some : eqb (length (word_in 0 rest)) 0 ≡ false = ap (λ (x : List ℕ). eqb (length x) 0) (sym w) ∙ e in
    let outcome : step s (word_in 0 rest) ≡ Ok next = ap (step s) (sym w) ∙ k in
    through_next step s rest h ∙ rw (some, outcome, a) refl

-- a word that is refused
pub through_refused : {S : Type 0} (step : S → List ℕ → Result S Why) (s : S) (rest word : List ℕ) (why : Why) → 0 < length rest → word ≡ word_in 0 rest → eqb (length word) 0 ≡ false → step s word ≡ Err why → through_words step s (words_from 0 rest) ≡ Err why
through_refused step s rest word why h w e k =
    let some : eqb (length (word_in 0 rest)) 0 ≡ false = ap (λ (x : List ℕ). eqb (length x) 0) (sym w) ∙ e in
    let outcome : step s (word_in 0 rest) ≡ Err why = ap (step s) (sym w) ∙ k in
    through_next step s rest h ∙ rw (some, outcome) refl

pub through_stop : {S : Type 0} (step : S → List ℕ → Result S Why) (s : S) (rest word : List ℕ) (stop : Stop) → 0 < length rest → word ≡ word_in 0 rest → eqb (length word) 0 ≡ false → Stops (step s word) stop → Stops (through_words step s (words_from 0 rest)) stop
through_stop step s rest word NoMemory h w e k = tt
through_stop step s rest word (Refused why) h w e k = through_refused step s rest word why h w e k

-- the same of all words, where they come to the same
pub stops_same : {A : Type 0} (a b : Result A Why) (stop : Stop) → a ≡ b → Stops b stop → Stops a stop
stops_same a b NoMemory e h = tt
stops_same a b (Refused why) e h = e ∙ h

-- a second step after one that stops
pub stops_on : {A B : Type 0} (a : Result A Why) (f : A → Result B Why) (stop : Stop) → Stops a stop → Stops (a >>= f) stop
stops_on a f NoMemory h = tt
stops_on a f (Refused why) h = ap (λ x. x >>= f) h

pub then_ok : {A B : Type 0} (a : Result A Why) (f : A → Result B Why) (x : A) → a ≡ Ok x → (a >>= f) ≡ f x
then_ok a f x h = ap (λ y. y >>= f) h

pub through_ends : {S : Type 0} (step : S → List ℕ → Result S Why) (s : S) (rest : List ℕ) → rest ≡ [] → through_words step s (words_from 0 rest) ≡ Ok s
through_ends step s rest e = rw e (through_at_end step s)
