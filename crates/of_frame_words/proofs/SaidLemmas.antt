-- The fields that settings say, and the frame with these.
use Rattle.std.proofs.Common.{◌≡◌, ℕ, ◌+◌, ◌<◌, ◌≤◌, false, cond, List, [], length, drop, get_or, Option, Some, None, Result, Ok, Err, refl, sym, subst, ap, ◌∙◌, drop_of_length-le}
use Rattle.std.{specs.Prelude.◌==◌, specs.Prelude.bit_and, specs.Prelude.IfErr, proofs.Math.Path.fun_ext, proofs.lemmas.List.drop_more}
use Rattle.of_layers.specs.{declared.field.Field.Field, declared.field.Field.TheVariants.InPort, Fields.row_of, Fields.number_of, Fields.ones_of}
use Rattle.of_headers.specs.{declared.key.FieldKey.FieldKey, FieldMap.value}
use Rattle.of_rewrite.{specs.Frames.frame_ttl, proofs.Framing.ttl_frame}
use Rattle.of_frames.{specs.declared.shape.Shape.Shape, specs.declared.shape.Tagging.Tagging, specs.Given.number, specs.Given.or_zero, specs.Packets.frame_given, proofs.KeyLemmas.numbers_are}
use Rattle.of_oxm.specs.{declared.match_field.MatchField.MatchField, Relations.first_difference as missed}
use Rattle.of_ovs_words.{specs.FieldWords.text_for, specs.Outcomes.◌>>=◌, specs.Words.after_word, specs.Words.word_in, specs.Words.words_from, proofs.WordLemmas.first_word}
use Rattle.of_frame_words.specs.Frames.{IsReadable, ReceivedFrame, at_port, with_setting, set_by, shape_by, tagging_by, received_frame, received_by, frame_in_words, map_of, why_missed, unless_missed, checked, with_ttl_word, with_ttl_words}
use Rattle.of_frame_words.specs.{declared.why.NoFrame.NoFrame, declared.why.NoFrame.TheVariants.NoMemory, declared.why.NoFrame.TheVariants.Refused, Refusals.IsRefusal, Refusals.FrameStops}
use Rattle.of_frame_words.{specs.Said.WordRefusal, specs.Said.with_setting_words, proofs.WordLemmas.refusal_stops}

-- the port alone
pub key_at_is : (port : ℕ) (none map : Field → Option ℕ) → ((f : Field) → none f ≡ None) → ((f : Field) → map f ≡ cond (number_of f == number_of InPort) (Some port) (none f)) → map ≡ at_port port
unfolding row_of
key_at_is port none map e h = fun_ext (λ f. elim f as (λ f. map f ≡ at_port port f) [ InPort ↦ h InPort | f ↦ h f ∙ e f ])

-- one more setting
pub setting_more : (settings : List MatchField) (i ones : ℕ) (d : MatchField) (map next all : Field → Option ℕ) → i < length settings → ones ≡ ones_of (get_or settings i d).field →
    ((f : Field) → next f ≡ cond (number_of f == number_of (get_or settings i d).field) (Some (bit_and (get_or settings i d).value ones)) (map f)) →
    set_by (drop i settings) map ≡ all → set_by (drop (i + 1) settings) next ≡ all
setting_more settings i ones d map next all lt e h k =
    let is : next ≡ with_setting (get_or settings i d) map = fun_ext (λ f. h f ∙ ap (λ (x : ℕ). cond (number_of f == number_of (get_or settings i d).field) (Some (bit_and (get_or settings i d).value x)) (map f)) e) in
    ap (set_by (drop (i + 1) settings)) is ∙ sym (ap (λ (xs : List MatchField). set_by xs map) (drop_more settings i d lt)) ∙ k

pub settings_end : (settings : List MatchField) (i : ℕ) (map all : Field → Option ℕ) → length settings ≤ i → set_by (drop i settings) map ≡ all → map ≡ all
settings_end settings i map all le k = sym (ap (λ (xs : List MatchField). set_by xs map) (drop_of_length-le settings le)) ∙ k

-- the frame with the fields of a key
pub received_is : (key : FieldKey) (said : Field → Option ℕ) (shape : Shape) (tagging : Tagging) (frame : List ℕ) → value key ≡ said → shape ≡ shape_by key.numbers.eth_type key.numbers.ip_proto → tagging ≡ tagging_by key.numbers.vlan_vid →
    frame ≡ frame_given shape tagging (or_zero (value key)) → ◌≡◌ {A = ReceivedFrame} (record { port = key.numbers.in_port; frame = frame }) (received_by (or_zero said))
unfolding row_of
received_is key said shape tagging frame k s t e =
    let back : or_zero (value key) ≡ number key.numbers = sym (numbers_are key) in
    let made : frame ≡ frame_given (shape_by key.numbers.eth_type key.numbers.ip_proto) (tagging_by key.numbers.vlan_vid) (number key.numbers) = e ∙ (λ j. frame_given (s j) (t j) (back j)) in
    (λ j. record { port = key.numbers.in_port; frame = made j }) ∙ ap received_by (numbers_are key ∙ ap or_zero k)

-- ---- settings that the frame has or lacks

pub checked_ok : (settings : List MatchField) (r : ReceivedFrame) (map : Field → Option ℕ) → map ≡ map_of r → None ≡ missed settings map → checked settings r ≡ Ok r
checked_ok settings r map k m = ap (unless_missed settings r) (sym (m ∙ ap (missed settings) k))

pub checked_stop : (settings : List MatchField) (r : ReceivedFrame) (map : Field → Option ℕ) (e : MatchField) (stop : NoFrame) → map ≡ map_of r → Some e ≡ missed settings map → IsRefusal (text_for e.field) (why_missed settings e) stop → FrameStops (checked settings r) stop
checked_stop settings r map e stop k m h = refusal_stops (checked settings r) (text_for e.field) (why_missed settings e) stop (ap (unless_missed settings r) (sym (m ∙ ap (missed settings) k))) h

-- ---- the whole

-- what follows the settings
abbrev behind : ℕ → List ℕ → Result (List MatchField) WordRefusal → Result ReceivedFrame WordRefusal
behind port text x = x >>= λ settings. checked settings (received_frame port settings) >>= with_ttl_words (words_from 0 text)

said_first : (port : ℕ) (text : List ℕ) (s : List MatchField) (x : Result (List MatchField) WordRefusal) → s ≡ [] → with_setting_words false s (words_from 0 text) ≡ x → frame_in_words port text ≡ behind port text x
unfolding frame_in_words
said_first port text s x e w = ap (behind port text) (ap (λ (xs : List MatchField). with_setting_words false xs (words_from 0 text)) (sym e) ∙ w)

pub frame_stops : (port : ℕ) (text : List ℕ) (s : List MatchField) (stop : NoFrame) → s ≡ [] → FrameStops (with_setting_words false s (words_from 0 text)) stop → FrameStops (frame_in_words port text) stop
frame_stops port text s NoMemory e h = tt
frame_stops port text s (Refused r) e h = said_first port text s _ e h

checked_first : (port : ℕ) (text : List ℕ) (s settings : List MatchField) (r : ReceivedFrame) → s ≡ [] → with_setting_words false s (words_from 0 text) ≡ Ok settings → r ≡ received_frame port settings → frame_in_words port text ≡ (checked settings r >>= with_ttl_words (words_from 0 text))
checked_first port text s settings r e w h = said_first port text s (Ok settings) e w ∙ ap (λ (x : ReceivedFrame). checked settings x >>= with_ttl_words (words_from 0 text)) (sym h)

pub checked_stops : (port : ℕ) (text : List ℕ) (s settings : List MatchField) (r : ReceivedFrame) (stop : NoFrame) → s ≡ [] → with_setting_words false s (words_from 0 text) ≡ Ok settings → r ≡ received_frame port settings → FrameStops (checked settings r) stop →
    FrameStops (frame_in_words port text) stop
checked_stops port text s settings r NoMemory e w h stops = tt
checked_stops port text s settings r (Refused x) e w h stops = checked_first port text s settings r e w h ∙ ap (λ (o : Result ReceivedFrame WordRefusal). o >>= with_ttl_words (words_from 0 text)) stops

pub frame_is : (port : ℕ) (text : List ℕ) (s settings : List MatchField) (r c : ReceivedFrame) → s ≡ [] → with_setting_words false s (words_from 0 text) ≡ Ok settings → r ≡ received_frame port settings → checked settings r ≡ Ok c →
    frame_in_words port text ≡ with_ttl_words (words_from 0 text) c
frame_is port text s settings r c e w h k = checked_first port text s settings r e w h ∙ ap (λ (o : Result ReceivedFrame WordRefusal). o >>= with_ttl_words (words_from 0 text)) k

-- ---- the TTL

pub ttl_readable : (n : ℕ) (s t : List ℕ) → IsReadable s → t ≡ frame_ttl n s → IsReadable t
ttl_readable n s t h e = let aged = ttl_frame n s h.0 in subst IsReadable (sym e) (aged.1, rw aged.0 h.1)

pub ttls_next : (r : ReceivedFrame) (rest word after : List ℕ) → 0 < length rest → word ≡ word_in 0 rest → after ≡ after_word 0 rest → with_ttl_words (words_from 0 rest) r ≡ (with_ttl_word word r >>= with_ttl_words (words_from 0 after))
ttls_next r rest word after some w a = ap (λ (ws : List (List ℕ)). with_ttl_words ws r) (first_word rest some) ∙ rw (w, a) refl

pub ttls_more : (r next : ReceivedFrame) (rest word after : List ℕ) → 0 < length rest → word ≡ word_in 0 rest → after ≡ after_word 0 rest → with_ttl_word word r ≡ Ok next → with_ttl_words (words_from 0 rest) r ≡ with_ttl_words (words_from 0 after) next
ttls_more r next rest word after some w a h = ttls_next r rest word after some w a ∙ ap (λ (o : Result ReceivedFrame WordRefusal). o >>= with_ttl_words (words_from 0 after)) h

pub ttls_stop : (r : ReceivedFrame) (rest word after : List ℕ) (stop : NoFrame) → 0 < length rest → word ≡ word_in 0 rest → after ≡ after_word 0 rest → FrameStops (with_ttl_word word r) stop → FrameStops (with_ttl_words (words_from 0 rest) r) stop
ttls_stop r rest word after NoMemory some w a h = tt
ttls_stop r rest word after (Refused x) some w a h = ttls_next r rest word after some w a ∙ ap (λ (o : Result ReceivedFrame WordRefusal). o >>= with_ttl_words (words_from 0 after)) h

pub ttls_end : (r : ReceivedFrame) (rest : List ℕ) → rest ≡ [] → with_ttl_words (words_from 0 rest) r ≡ Ok r
unfolding words_from
ttls_end r rest e = rw e refl

pub err_weaker : {T E : Type 0} (r : Result T E) (P Q : E → Type 0) → ((e : E) → P e → Q e) → IfErr r P → IfErr r Q
err_weaker (Ok x) P Q f h = h
err_weaker (Err e) P Q f h = f e h
