-- WHAT WORDS SAY OF A FRAME OR OF A MATCH (ovs-fields(7)): settings of fields, in the order of the words. A frame has values without masks.
use Rattle.std.specs.Prelude.{ℕ, ◌==◌, ◌||◌, ◌&&◌, not, Bool, is_some, List, [], ◌∷◌, codes, length, Option, Some, None, Result, Ok, Err, if◌then◌else◌}
use Rattle.std.specs.{List.list_any, Str.bytes_eq}
use Rattle.of_oxm.specs.declared.match_field.MatchField.{MatchField}
use Rattle.of_ovs_words.specs.{declared.why.Why.Why as WordWhy, declared.why.Why.TheVariants.Unknown, declared.field_word.FieldWord.FieldWord, declared.protocol_word.ProtocolWord.ProtocolWord}
use Rattle.of_ovs_words.specs.{FieldWords.field_word_named, Matches.with_match_field, Matches.with_protocol, Outcomes.◌>>=◌, ProtocolWords.protocol_named}
use Rattle.of_ovs_words.specs.Words.{word_name, word_value, word_in}
use Rattle.of_frame_words.specs.{declared.why.Why.Why, declared.why.Why.TheVariants.Word, declared.why.Why.TheVariants.Mask}

-- a word that is refused, and why
pub record WordRefusal : Type 0 where
  pub word : List ℕ
  pub why : Why

abbrev pub refuse : {A : Type 0} → List ℕ → Why → Result A WordRefusal
refuse word why = Err (record { word = word; why = why })

-- ---- one word

-- the word of a field, or else that of a protocol
abbrev pub by_name : Option FieldWord → Option ProtocolWord → List MatchField → List ℕ → Result (List MatchField) WordWhy
by_name (Some w) p settings value = with_match_field settings w value
by_name None (Some p) settings value = with_protocol settings p value
by_name None None settings value = Err Unknown

abbrev pub word_said : List MatchField → List ℕ → Result (List MatchField) WordWhy
word_said settings word = by_name (field_word_named (word_name word)) (protocol_named (word_name word)) settings (word_value word)

abbrev pub of_word : List ℕ → Result (List MatchField) WordWhy → Result (List MatchField) WordRefusal
of_word word (Ok settings) = Ok settings
of_word word (Err why) = refuse word (Word why)

-- a mask comes after a slash
abbrev pub has_mask : List ℕ → Bool
has_mask value = list_any (λ b. b == 47) value

-- a mask where words have none
abbrev pub is_masked_amiss : Bool → List ℕ → Bool
is_masked_amiss masks word = not masks && has_mask (word_value word)

-- the settings with those of one more word, which may have a mask or not
unfoldable pub with_setting_word : Bool → List MatchField → List ℕ → Result (List MatchField) WordRefusal
with_setting_word masks settings word = if is_masked_amiss masks word then refuse word Mask else of_word word (word_said settings word)

-- ---- words

-- the word for the TTL or hop limit, which no match has
abbrev pub is_ttl_word : List ℕ → Bool
is_ttl_word word = bytes_eq (word_name word) (codes "nw_ttl")

-- an empty word, or in a frame that for its TTL
unfoldable pub sets_no_field : Bool → List ℕ → Bool
sets_no_field masks word = (length word == 0) || (not masks && is_ttl_word word)

-- with those of all words, of which some are passed over, until one is refused
abbrev pub with_setting_words : Bool → List MatchField → List (List ℕ) → Result (List MatchField) WordRefusal
with_setting_words masks settings [] = Ok settings
with_setting_words masks settings (w ∷ ws) =
    if sets_no_field masks w then with_setting_words masks settings ws else with_setting_word masks settings w >>= λ next. with_setting_words masks next ws

abbrev pub has_value : List ℕ → Bool
has_value text = list_any (λ b. b == 61) text

-- a text has words for a frame, and not its bytes: a word has a value, or the first one is for a protocol
abbrev pub are_frame_words : List ℕ → Bool
are_frame_words text = has_value text || is_some (protocol_named (word_in 0 text))
