-- Words for a frame, one after the other.
use Rattle.std.proofs.Common.{◌≡◌, ℕ, ◌<◌, sym, Bool, true, false, cond, List, [], length, Result, Ok, Err, refl, ap, ◌∙◌, subst}
use Rattle.of_oxm.specs.declared.match_field.MatchField.{MatchField}
use Rattle.of_ovs_words.{specs.declared.why.Why.Why as WordWhy, specs.Outcomes.◌>>=◌, specs.Words.words_from, specs.Words.word_in, specs.Words.after_word, proofs.WordLemmas.first_word}
use Rattle.of_frame_words.specs.Said.{WordRefusal, refuse, word_said, of_word, is_masked_amiss, sets_no_field, with_setting_word, with_setting_words}
use Rattle.of_frame_words.specs.{declared.why.Why.Why, declared.why.Why.TheVariants.Word, declared.why.Why.TheVariants.Mask, declared.why.Refusal.Refusal, declared.why.NoFrame.NoFrame}
use Rattle.of_frame_words.specs.{declared.why.NoFrame.TheVariants.NoMemory, declared.why.NoFrame.TheVariants.Refused, Refusals.IsRefusal, Refusals.FrameStops, Refusals.view_word_refusal}

-- ---- refusals

same_refusal : {A : Type 0} (word : List ℕ) (why : Why) (r : Refusal) → r.word.items ≡ word → r.why ≡ why → ◌≡◌ {A = Result A WordRefusal} (refuse word why) (Err (view_word_refusal r))
same_refusal word why r e f = λ j. Err (record { word = sym e j; why = sym f j })

pub refusal_stops : {A : Type 0} (outcome : Result A WordRefusal) (word : List ℕ) (why : Why) (stop : NoFrame) → outcome ≡ refuse word why → IsRefusal word why stop → FrameStops outcome stop
refusal_stops outcome word why NoMemory e h = tt
refusal_stops outcome word why (Refused r) e h = e ∙ same_refusal word why r h.0 h.1

pub refusal_as : (w x : List ℕ) (why other : Why) (stop : NoFrame) → w ≡ x → why ≡ other → IsRefusal w why stop → IsRefusal x other stop
refusal_as w x why other stop e f h = subst (λ (a : List ℕ). IsRefusal a other stop) e (subst (λ (b : Why). IsRefusal w b stop) f h)

pub stops_same : {A : Type 0} (a b : Result A WordRefusal) (stop : NoFrame) → a ≡ b → FrameStops b stop → FrameStops a stop
stops_same a b NoMemory e h = tt
stops_same a b (Refused r) e h = e ∙ h

-- ---- one word

masked_by : (t : Bool) (word : List ℕ) (rest : Result (List MatchField) WordRefusal) → t ≡ true → cond t (refuse word Mask) rest ≡ refuse word Mask
masked_by true word rest e = refl
masked_by false word rest e = absurd cc

plain_by : (t : Bool) (a rest : Result (List MatchField) WordRefusal) → t ≡ false → cond t a rest ≡ rest
plain_by true a rest e = absurd cc
plain_by false a rest e = refl

pub masked_stop : (masks : Bool) (settings : List MatchField) (word : List ℕ) (stop : NoFrame) → is_masked_amiss masks word ≡ true → IsRefusal word Mask stop → FrameStops (with_setting_word masks settings word) stop
unfolding with_setting_word
masked_stop masks settings word stop m h = refusal_stops (with_setting_word masks settings word) word Mask stop (masked_by (is_masked_amiss masks word) word (of_word word (word_said settings word)) m) h

pub refused_stop : (masks : Bool) (settings : List MatchField) (word : List ℕ) (why : WordWhy) (stop : NoFrame) → is_masked_amiss masks word ≡ false → word_said settings word ≡ Err why → IsRefusal word (Word why) stop → FrameStops (with_setting_word masks settings word) stop
unfolding with_setting_word
refused_stop masks settings word why stop m e h =
    refusal_stops (with_setting_word masks settings word) word (Word why) stop (plain_by (is_masked_amiss masks word) (refuse word Mask) (of_word word (word_said settings word)) m ∙ ap (of_word word) e) h

pub word_added : (masks : Bool) (settings next : List MatchField) (word : List ℕ) → is_masked_amiss masks word ≡ false → word_said settings word ≡ Ok next → with_setting_word masks settings word ≡ Ok next
unfolding with_setting_word
word_added masks settings next word m e = plain_by (is_masked_amiss masks word) (refuse word Mask) (of_word word (word_said settings word)) m ∙ ap (of_word word) e

-- ---- words

words_next : (masks : Bool) (s : List MatchField) (rest : List ℕ) → 0 < length rest →
    with_setting_words masks s (words_from 0 rest) ≡ cond (sets_no_field masks (word_in 0 rest)) (with_setting_words masks s (words_from 0 (after_word 0 rest))) (with_setting_word masks s (word_in 0 rest) >>= λ next. with_setting_words masks next (words_from 0 (after_word 0 rest)))
words_next masks s rest h = ap (with_setting_words masks s) (first_word rest h)

pub words_end : (masks : Bool) (s : List MatchField) (rest : List ℕ) → rest ≡ [] → with_setting_words masks s (words_from 0 rest) ≡ Ok s
unfolding words_from
words_end masks s rest e = rw e refl

pub words_passed : (masks : Bool) (s : List MatchField) (rest word after : List ℕ) → 0 < length rest → word ≡ word_in 0 rest → after ≡ after_word 0 rest → sets_no_field masks word ≡ true → with_setting_words masks s (words_from 0 rest) ≡ with_setting_words masks s (words_from 0 after)
words_passed masks s rest word after h w a e =
    let none : sets_no_field masks (word_in 0 rest) ≡ true = ap (sets_no_field masks) (sym w) ∙ e in
    words_next masks s rest h ∙ rw (none, a) refl

pub words_more : (masks : Bool) (s next : List MatchField) (rest word after : List ℕ) → 0 < length rest → word ≡ word_in 0 rest → after ≡ after_word 0 rest → sets_no_field masks word ≡ false → with_setting_word masks s word ≡ Ok next → with_setting_words masks s (words_from 0 rest) ≡ with_setting_words masks next (words_from 0 after)
words_more masks s next rest word after h w a e k =
    let some : sets_no_field masks (word_in 0 rest) ≡ false = ap (sets_no_field masks) (sym w) ∙ e in
    let outcome : with_setting_word masks s (word_in 0 rest) ≡ Ok next = ap (with_setting_word masks s) (sym w) ∙ k in
    words_next masks s rest h ∙ rw (some, outcome, a) refl

words_refused : (masks : Bool) (s : List MatchField) (rest word : List ℕ) (r : WordRefusal) → 0 < length rest → word ≡ word_in 0 rest → sets_no_field masks word ≡ false → with_setting_word masks s word ≡ Err r → with_setting_words masks s (words_from 0 rest) ≡ Err r
words_refused masks s rest word r h w e k =
    let some : sets_no_field masks (word_in 0 rest) ≡ false = ap (sets_no_field masks) (sym w) ∙ e in
    let outcome : with_setting_word masks s (word_in 0 rest) ≡ Err r = ap (with_setting_word masks s) (sym w) ∙ k in
    words_next masks s rest h ∙ rw (some, outcome) refl

pub words_stop : (masks : Bool) (s : List MatchField) (rest word : List ℕ) (stop : NoFrame) → 0 < length rest → word ≡ word_in 0 rest → sets_no_field masks word ≡ false → FrameStops (with_setting_word masks s word) stop → FrameStops (with_setting_words masks s (words_from 0 rest)) stop
words_stop masks s rest word NoMemory h w e k = tt
words_stop masks s rest word (Refused r) h w e k = words_refused masks s rest word (view_word_refusal r) h w e k
