-- CONDITIONS IN WORDS: a match of these words (ovs-fields(7)), as a flow of the switch may have it (OpenFlow 1.3.5, 7.2.3.5 and 7.2.3.6).
use Rattle.std.specs.Prelude.{ℕ, ◌==◌, ◌&&◌, ◌||◌, not, Bool, true, List, [], find, bit_and, Option, Some, None, Result, Ok, if◌then◌else◌}
use Rattle.of_layers.specs.Fields.{is_maskable, ones_of, prerequisite_of}
use Rattle.of_oxm.specs.{declared.match_field.MatchField.MatchField, Prerequisites.is_met, Relations.bits_looked_at}
use Rattle.of_ovs_words.specs.{declared.why.Why.TheVariants.Value, FieldWords.text_for, Matches.fields_of_settings, Outcomes.◌>>=◌, Words.words_from}
use Rattle.of_frame_words.specs.{declared.why.Why.Why, declared.why.Why.TheVariants.Word, Frames.word_why_missing, Said.WordRefusal, Said.refuse, Said.with_setting_words}

-- it looks at bits of the field only, at all of them if the field takes no mask, and asks for no others
abbrev pub is_proper : MatchField → Bool
is_proper e =
    (bit_and (bits_looked_at e) (ones_of e.field) == bits_looked_at e) && (bit_and e.value (bits_looked_at e) == e.value)
    && (is_maskable e.field || bits_looked_at e == ones_of e.field)

-- and its prerequisite is among the fields
abbrev pub is_fit_beside : List MatchField → MatchField → Bool
is_fit_beside fields e = is_proper e && is_met fields (prerequisite_of e.field)

abbrev pub why_unfit : MatchField → Why
why_unfit e = if is_proper e then Word (word_why_missing (prerequisite_of e.field)) else Word Value

abbrev pub unless_unfit : List MatchField → Option MatchField → Result (List MatchField) WordRefusal
unless_unfit fields None = Ok fields
unless_unfit fields (Some e) = refuse (text_for e.field) (why_unfit e)

abbrev pub fit_fields : List MatchField → Result (List MatchField) WordRefusal
fit_fields fields = unless_unfit fields (find (λ e. not (is_fit_beside fields e)) fields)

-- THE MATCH OF WORDS. Refused is the first word that has no meaning, and then the first field that a match may not have.
unfoldable pub conditions_in_words : List ℕ → Result (List MatchField) WordRefusal
conditions_in_words text = with_setting_words true [] (words_from 0 text) >>= λ settings. fit_fields (fields_of_settings settings)
