-- What words say, one after the other.
use Rattle.std.proofs.Common.{◌≡◌, ℕ, ◌<◌, eqb, sym, true, false, cond, List, [], ◌∷◌, length, refl, ap, ◌∙◌}
use Rattle.std.specs.List.{fold}
use Rattle.of_ovs_words.{specs.Words.words_from, specs.Words.word_in, specs.Words.word_name, specs.Words.after_word, proofs.WordLemmas.first_word}
use Rattle.of_ovs_lines.specs.{LineContents.with_words, LineContents.words_before_actions, PartialFlows.begins_actions}

pub words_at_end : {S : Type 0} (step : S → List ℕ → S) (s : S) → with_words step s (words_from 0 []) ≡ s
unfolding words_from
words_at_end step s = refl

words_next : {S : Type 0} (step : S → List ℕ → S) (s : S) (rest : List ℕ) → 0 < length rest → with_words step s (words_from 0 rest) ≡ cond (eqb (length (word_in 0 rest)) 0) (with_words step s (words_from 0 (after_word 0 rest))) (with_words step (step s (word_in 0 rest)) (words_from 0 (after_word 0 rest)))
words_next step s rest h = ap (with_words step s) (first_word rest h)

-- an empty word
pub words_passed : {S : Type 0} (step : S → List ℕ → S) (s : S) (rest word after : List ℕ) → 0 < length rest → word ≡ word_in 0 rest → after ≡ after_word 0 rest → eqb (length word) 0 ≡ true → with_words step s (words_from 0 rest) ≡ with_words step s (words_from 0 after)
words_passed step s rest word after h w a e =
    let none : eqb (length (word_in 0 rest)) 0 ≡ true = ap (λ (x : List ℕ). eqb (length x) 0) (sym w) ∙ e in
    words_next step s rest h ∙ rw (none, a) refl

-- a word that is read
pub words_more : {S : Type 0} (step : S → List ℕ → S) (s next : S) (rest word after : List ℕ) → 0 < length rest → word ≡ word_in 0 rest → after ≡ after_word 0 rest → eqb (length word) 0 ≡ false → next ≡ step s word → with_words step s (words_from 0 rest) ≡ with_words step next (words_from 0 after)
words_more step s next rest word after h w a e k =
    let some : eqb (length (word_in 0 rest)) 0 ≡ false = ap (λ (x : List ℕ). eqb (length x) 0) (sym w) ∙ e in
    let outcome : step s (word_in 0 rest) ≡ next = ap (step s) (sym w) ∙ sym k in
    words_next step s rest h ∙ rw (some, outcome, a) refl

-- ---- words before the actions

before_next : (rest : List ℕ) → 0 < length rest → words_before_actions (words_from 0 rest) ≡ cond (begins_actions (word_in 0 rest)) [] (word_in 0 rest ∷ words_before_actions (words_from 0 (after_word 0 rest)))
before_next rest h = ap words_before_actions (first_word rest h)

pub none_before : {S : Type 0} (step : S → List ℕ → S) (s : S) (rest : List ℕ) → rest ≡ [] → fold step s (words_before_actions (words_from 0 rest)) ≡ s
unfolding words_from
none_before step s rest e = rw e refl

pub before_ends : {S : Type 0} (step : S → List ℕ → S) (s : S) (rest word : List ℕ) → 0 < length rest → word ≡ word_in 0 rest → begins_actions word ≡ true → fold step s (words_before_actions (words_from 0 rest)) ≡ s
before_ends step s rest word h w e =
    let so : begins_actions (word_in 0 rest) ≡ true = ap begins_actions (sym w) ∙ e in
    ap (fold step s) (before_next rest h) ∙ rw so refl

pub before_more : {S : Type 0} (step : S → List ℕ → S) (s next : S) (rest word after : List ℕ) → 0 < length rest → word ≡ word_in 0 rest → after ≡ after_word 0 rest → begins_actions word ≡ false → next ≡ step s word → fold step s (words_before_actions (words_from 0 rest)) ≡ fold step next (words_before_actions (words_from 0 after))
before_more step s next rest word after h w a e k =
    let so : begins_actions (word_in 0 rest) ≡ false = ap begins_actions (sym w) ∙ e in
    let outcome : step s (word_in 0 rest) ≡ next = ap (step s) (sym w) ∙ sym k in
    let first = word_in 0 rest in
    let others = words_before_actions (words_from 0 (after_word 0 rest)) in
    ap (fold step s) (before_next rest h)
    ∙ (ap (λ b. fold step s (cond b [] (first ∷ others))) so
    ∙ (ap (λ x. fold step x others) outcome ∙ ap (λ (t : List ℕ). fold step next (words_before_actions (words_from 0 t))) (sym a)))
