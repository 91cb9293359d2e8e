-- The fields that words say are conditions.
use Rattle.std.proofs.Common.{◌≡◌, ℕ, refl, Bool, true, false, not, ◌&&◌, List, [], ◌∷◌, Option, Some, None, Result, Ok, cond, sym, ap, ◌∙◌}
use Rattle.std.{specs.Prelude.find, specs.Prelude.◌==◌, specs.Prelude.◌||◌, specs.Prelude.bit_and, proofs.lemmas.Bool.eqb-true}
use Rattle.of_layers.{specs.Fields.is_maskable, specs.Fields.ones_of, specs.Fields.prerequisite_of, proofs.TestLemmas.and_true}
use Rattle.of_oxm.specs.{declared.match_field.MatchField.MatchField, Prerequisites.is_met, Relations.bits_looked_at}
use Rattle.of_ovs_words.specs.{FieldWords.text_for, Matches.fields_of_settings, Outcomes.◌>>=◌, Words.words_from}
use Rattle.of_regions.specs.Conditions.{AreConditions, IsCondition}
use Rattle.of_frame_words.specs.Conditions.{conditions_in_words, fit_fields, is_fit_beside, is_proper, unless_unfit, why_unfit}
use Rattle.of_frame_words.specs.{declared.why.NoFrame.NoFrame, declared.why.NoFrame.TheVariants.NoMemory, declared.why.NoFrame.TheVariants.Refused, Refusals.FrameStops, Refusals.IsRefusal}
use Rattle.of_frame_words.{specs.Said.WordRefusal, specs.Said.with_setting_words, proofs.WordLemmas.refusal_stops}

-- ---- fields that a match may have

proper_is_condition : (e : MatchField) → is_proper e ≡ true → IsCondition e
proper_is_condition e p =
    let looked = bits_looked_at e in
    let own : Bool = bit_and looked (ones_of e.field) == looked in
    let asked : Bool = bit_and e.value looked == e.value in
    let h = and_true (own && asked) (is_maskable e.field || looked == ones_of e.field) p in
    let parts = and_true own asked h.0 in
    record { within = eqb-true (bit_and looked (ones_of e.field)) looked parts.0; value = eqb-true (bit_and e.value looked) e.value parts.1 }

found_by : (t : Bool) (x : MatchField) (rest : Option MatchField) → cond (not t) (Some x) rest ≡ None → (t ≡ true) × (rest ≡ None)
found_by true x rest e = (refl, e)
found_by false x rest e = absurd cc

pub all_conditions : (all fields : List MatchField) → find (λ e. not (is_fit_beside all e)) fields ≡ None → AreConditions fields
all_conditions all [] e = tt
all_conditions all (x ∷ fields) e =
    let h = found_by (is_fit_beside all x) x (find (λ e. not (is_fit_beside all e)) fields) e in
    (proper_is_condition x (and_true (is_proper x) (is_met all (prerequisite_of x.field)) h.0).0, all_conditions all fields h.1)

pub unfit_stops : (fields : List MatchField) (e : MatchField) (stop : NoFrame) → Some e ≡ find (λ x. not (is_fit_beside fields x)) fields → IsRefusal (text_for e.field) (why_unfit e) stop → FrameStops (fit_fields fields) stop
unfit_stops fields e stop found h = refusal_stops (fit_fields fields) (text_for e.field) (why_unfit e) stop (ap (unless_unfit fields) (sym found)) h

-- ---- the whole

pub conditions_stop : (text : List ℕ) (s : List MatchField) (stop : NoFrame) → s ≡ [] → FrameStops (with_setting_words true s (words_from 0 text)) stop → FrameStops (conditions_in_words text) stop
unfolding conditions_in_words
conditions_stop text s NoMemory e h = tt
conditions_stop text s (Refused r) e h =
    ap (λ (x : Result (List MatchField) WordRefusal). x >>= λ settings. fit_fields (fields_of_settings settings)) (ap (λ (xs : List MatchField). with_setting_words true xs (words_from 0 text)) (sym e) ∙ h)

pub conditions_are : (text : List ℕ) (s settings fields : List MatchField) → s ≡ [] → with_setting_words true s (words_from 0 text) ≡ Ok settings → fields ≡ fields_of_settings settings → conditions_in_words text ≡ fit_fields fields
unfolding conditions_in_words
conditions_are text s settings fields e w h =
    ap (λ (x : Result (List MatchField) WordRefusal). x >>= λ settings. fit_fields (fields_of_settings settings)) (ap (λ (xs : List MatchField). with_setting_words true xs (words_from 0 text)) (sym e) ∙ w) ∙ ap fit_fields (sym h)
