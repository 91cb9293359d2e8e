-- The frames that words say have what the words say.
use Rattle.std.proofs.Common.{◌≡◌, ℕ, ◌%◌, ◌^◌, Bool, true, false, cond, not, ◌&&◌, List, [], ◌∷◌, Option, Some, None, Result, Ok, Err, refl, sym, ap, ◌∙◌, subst, inl, inr}
use Rattle.std.{specs.Prelude.◌||◌, specs.Prelude.◌==◌, specs.Prelude.unwrap_or, specs.List.list_any, proofs.Math.Path.fun_ext}
use Rattle.of_layers.specs.declared.field.Field.TheVariants.{InPort, Metadata, EthType, VlanVid, VlanPcp, IpProto}
use Rattle.of_layers.specs.{declared.field.Field.Field, Fields.row_of, Fields.number_of, Fields.bit_count, Fields.prerequisite_of, Layers.Layers, Layers.ttl, Reading.layers_of}
use Rattle.of_layers.specs.declared.field.Prerequisite.TheVariants as needs
use Rattle.of_headers.specs.FieldMap.{field_map, vid}
use Rattle.of_rewrite.{specs.Frames.IsFrame, specs.Frames.frame_ttl, specs.Replaced.layers_set, specs.TimeToLive.ttl_of, proofs.Framing.ttl_frame, proofs.Layering.layers_after_ttl}
use Rattle.of_rewrite.proofs.Looking.{field_kept}
use Rattle.of_frames.specs.Given.{given_number, or_zero, fields_given, vlan_vid_given, vlan_pcp_given}
use Rattle.of_frames.specs.{declared.shape.Shape.Shape, declared.shape.Tagging.Tagging, declared.shape.Tagging.TheVariants.Untagged, declared.shape.Tagging.TheVariants.Tagged}
use Rattle.of_frames.{specs.Rules.has_header, specs.Rules.protocol_of, specs.Rules.shape_type, proofs.FrameLemmas.given_fields, proofs.FrameLemmas.given_frame}
use Rattle.of_frames.specs.declared.shape.Shape.TheVariants as shapes
use Rattle.of_oxm.specs.{declared.match_field.MatchField.MatchField, Relations.agrees, Relations.first_difference as missed, Relations.matches_map}
use Rattle.of_ovs_words.specs.{declared.why.Why.Why as WordWhy, Outcomes.◌>>=◌, Outcomes.numbered, Words.word_value, Words.words_from}
use Rattle.of_frame_words.specs.Frames.{ReceivedFrame, Has, IsDefault, at_port, with_setting, set_by, shape_by, tagging_by, received_by, received_frame, map_of, unless_missed, checked, frame_in_words, is_unsaid, with_ttl, with_ttl_said, with_ttl_word, with_ttl_words}
use Rattle.of_frame_words.specs.Said.{WordRefusal, is_ttl_word, with_setting_words}

-- ---- settings that are all had

all_by : {A : Type 0} (t : Bool) (x : A) (rest : Option A) (all : Bool) → cond (not t) (Some x) rest ≡ None → (rest ≡ None → all ≡ true) → (t && all) ≡ true
all_by true x rest all e g = g e
all_by false x rest all e g = absurd cc

none_missed : (settings : List MatchField) (map : Field → Option ℕ) → missed settings map ≡ None → matches_map settings map ≡ true
none_missed [] map e = refl
none_missed (x ∷ settings) map e = all_by (agrees x (map x.field)) x (missed settings map) (matches_map settings map) e (none_missed settings map)

-- ---- fields of which nothing is said

parts : (a b : Bool) → not (a || b) ≡ true → (a ≡ false) × (not b ≡ true)
parts true b e = absurd cc
parts false b e = (refl, e)

kept_by : (t : Bool) (x o : Option ℕ) → t ≡ false → cond t x o ≡ o
kept_by true x o e = absurd cc
kept_by false x o e = refl

unset : (settings : List MatchField) (map : Field → Option ℕ) (f : Field) → is_unsaid settings f ≡ true → set_by settings map f ≡ map f
unset [] map f e = refl
unset (x ∷ settings) map f e =
    let p = parts (number_of f == number_of x.field) (list_any (λ e. number_of f == number_of e.field) settings) e in
    unset settings (with_setting x map) f p.1 ∙ kept_by (number_of f == number_of x.field) _ (map f) p.0

at_other : (port : ℕ) (f : Field) → (number_of f == number_of InPort) ≡ false → at_port port f ≡ None
unfolding row_of
at_other port f = elim f as (λ f. (number_of f == number_of InPort) ≡ false → at_port port f ≡ None) [ InPort ↦ λ e. absurd cc | _ ↦ λ e. refl ]

unsaid_zero : (port : ℕ) (settings : List MatchField) (f : Field) → is_unsaid settings f ≡ true → (number_of f == number_of InPort) ≡ false → or_zero (set_by settings (at_port port)) f ≡ 0
unsaid_zero port settings f u e = ap (λ (o : Option ℕ). unwrap_or o 0) (unset settings (at_port port) f u ∙ at_other port f e)

-- ---- fields whose number is 0

default_by : (b : Bool) (x : ℕ) → x ≡ 0 → IsDefault (cond b (Some x) None)
default_by true x z = inr (ap Some z)
default_by false x z = inl refl

pcp_default : (t : Tagging) (v : Field → ℕ) → v VlanPcp ≡ 0 → IsDefault (vlan_pcp_given t v)
unfolding row_of
pcp_default Untagged v z = inl refl
pcp_default Tagged v z = inr (ap (λ (x : ℕ). Some (x % 8)) z)

abbrev protocol_field : Shape → ℕ → Option ℕ
protocol_field s x = cond (has_header s needs.Ip) (Some (unwrap_or (protocol_of s) (x % 256))) None

protocol_by : (a b c : Bool) → IsDefault (protocol_field (cond a shapes.Arp (cond b shapes.Ipv4 (cond c shapes.Ipv6 shapes.Bare))) 0)
protocol_by true b c = inl refl
protocol_by false true c = inr refl
protocol_by false false true = inr refl
protocol_by false false false = inl refl

protocol_default : (type p : ℕ) → p ≡ 0 → IsDefault (protocol_field (shape_by type p) p)
protocol_default type p z = subst (λ (x : ℕ). IsDefault (protocol_field (shape_by type x) x)) (sym z) (protocol_by (type == 0x0806) (type == 0x0800) (type == 0x86dd))

defaults : (v : Field → ℕ) (port : ℕ) (f : Field) → v f ≡ 0 → (number_of f == number_of InPort) ≡ false → IsDefault (fields_given (shape_by (v EthType) (v IpProto)) (tagging_by (v VlanVid)) v port 0 f)
unfolding row_of
defaults v port f = elim f as (λ f. v f ≡ 0 → (number_of f == number_of InPort) ≡ false → IsDefault (fields_given (shape_by (v EthType) (v IpProto)) (tagging_by (v VlanVid)) v port 0 f)) [
  | InPort ↦ λ z e. absurd cc
  | Metadata ↦ λ z e. inr refl
  | VlanVid ↦ λ z e. inr (ap (λ (x : ℕ). Some (vlan_vid_given (tagging_by x) v)) z)
  | VlanPcp ↦ λ z e. pcp_default (tagging_by (v VlanVid)) v z
  | EthType ↦ λ z e. inr (ap (λ (x : ℕ). Some (unwrap_or (shape_type (shape_by x (v IpProto))) (x % 65536))) z)
  | IpProto ↦ λ z e. protocol_default (v EthType) (v IpProto) z
  | f ↦ λ z e. default_by (has_header (shape_by (v EthType) (v IpProto)) (prerequisite_of f)) (given_number v f) (ap (λ (x : ℕ). x % 2 ^ bit_count f) z)
]

map_is : (v : Field → ℕ) (f : Field) → map_of (received_by v) f ≡ fields_given (shape_by (v EthType) (v IpProto)) (tagging_by (v VlanVid)) v (v InPort) 0 f
map_is v f = ap (λ (map : Field → Option ℕ). map f) (given_fields (shape_by (v EthType) (v IpProto)) (tagging_by (v VlanVid)) v (v InPort) 0)

-- ---- another TTL leaves all fields

ttl_kept : (n : ℕ) (l : Layers) (port metadata : ℕ) (f : Field) → field_map (layers_set ttl n l) port metadata f ≡ field_map l port metadata f
ttl_kept n l port metadata InPort = refl
ttl_kept n l port metadata Metadata = refl
ttl_kept n l port metadata VlanVid = ap (λ (x : Option ℕ). Some (vid x)) (field_kept n l VlanVid)
ttl_kept n l port metadata f = field_kept n l f

abbrev aged : ℕ → ReceivedFrame → ReceivedFrame
aged n r = record { port = r.port; frame = frame_ttl n r.frame }

aged_map : (n : ℕ) (r : ReceivedFrame) → IsFrame r.frame → map_of (aged n r) ≡ map_of r
aged_map n r h = fun_ext (λ f. ap (λ (l : Layers). field_map l r.port 0 f) (layers_after_ttl n r.frame h) ∙ ttl_kept n (layers_of r.frame) r.port 0 f)

aged_has : (port : ℕ) (settings : List MatchField) (n : ℕ) (r : ReceivedFrame) → Has port settings r → Has port settings (aged n r)
aged_has port settings n r h =
    let same : map_of r ≡ map_of (aged n r) = sym (aged_map n r h.frame) in
    record {
      frame = (ttl_frame n r.frame h.frame).1;
      said = subst (λ (map : Field → Option ℕ). matches_map settings map ≡ true) same h.said;
      others = λ f u i. subst (λ (map : Field → Option ℕ). IsDefault (map f)) same (h.others f u i);
      port_is = h.port_is;
    }

same_frame : (a b : ReceivedFrame) → ◌≡◌ {A = Result ReceivedFrame WordRefusal} (Ok a) (Ok b) → a ≡ b
same_frame a b e = cc

module _ (port : ℕ) (settings : List MatchField) where
  ttl_has : (word : List ℕ) (o : Option ℕ) (n : ℕ) (r s : ReceivedFrame) → Has port settings r → with_ttl word o n r ≡ Ok s → Has port settings s
  ttl_has word None n r s h e = absurd cc
  ttl_has word (Some old) n r s h e = subst (Has port settings) (same_frame (aged n r) s e) (aged_has port settings n r h)

  said_has : (word : List ℕ) (said : Result ℕ WordWhy) (r s : ReceivedFrame) → Has port settings r → with_ttl_said word said r ≡ Ok s → Has port settings s
  said_has word (Err why) r s h e = absurd cc
  said_has word (Ok n) r s h e = ttl_has word (ttl_of (layers_of r.frame)) n r s h e

  either_has : (is : Bool) (word : List ℕ) (r s : ReceivedFrame) → Has port settings r → cond is (with_ttl_said word (numbered 256 (word_value word)) r) (Ok r) ≡ Ok s → Has port settings s
  either_has true word r s h e = said_has word (numbered 256 (word_value word)) r s h e
  either_has false word r s h e = subst (Has port settings) (same_frame r s e) h

  word_has : (word : List ℕ) (r s : ReceivedFrame) → Has port settings r → with_ttl_word word r ≡ Ok s → Has port settings s
  unfolding with_ttl_word
  word_has word r s h e = either_has (is_ttl_word word) word r s h e

  next_has : (words : List (List ℕ)) (o : Result ReceivedFrame WordRefusal) (s : ReceivedFrame) → ((r : ReceivedFrame) → o ≡ Ok r → Has port settings r) →
      ((r : ReceivedFrame) → Has port settings r → with_ttl_words words r ≡ Ok s → Has port settings s) → (o >>= with_ttl_words words) ≡ Ok s → Has port settings s
  next_has words (Ok r) s has rest e = rest r (has r refl) e
  next_has words (Err x) s has rest e = absurd cc

  words_have : (words : List (List ℕ)) (r s : ReceivedFrame) → Has port settings r → with_ttl_words words r ≡ Ok s → Has port settings s
  words_have [] r s h e = subst (Has port settings) (same_frame r s e) h
  words_have (w ∷ ws) r s h e = next_has ws (with_ttl_word w r) s (λ t k. word_has w r t h k) (λ t k. words_have ws t s k) e

-- ---- the whole

unless_ok : (settings : List MatchField) (r s : ReceivedFrame) (o : Option MatchField) → unless_missed settings r o ≡ Ok s → (o ≡ None) × (r ≡ s)
unless_ok settings r s None e = (refl, same_frame r s e)
unless_ok settings r s (Some x) e = absurd cc

checked_has : (port : ℕ) (settings : List MatchField) (r : ReceivedFrame) → checked settings (received_frame port settings) ≡ Ok r → Has port settings r
checked_has port settings r e =
    let v = or_zero (set_by settings (at_port port)) in
    let ok = unless_ok settings (received_frame port settings) r (missed settings (map_of (received_frame port settings))) e in
    subst (Has port settings) ok.1 (record {
      frame = given_frame (shape_by (v EthType) (v IpProto)) (tagging_by (v VlanVid)) v;
      said = none_missed settings (map_of (received_frame port settings)) ok.0;
      others = λ f u i. subst IsDefault (sym (map_is v f)) (defaults v (v InPort) f (unsaid_zero port settings f u i) i);
      port_is = λ u. ap (λ (o : Option ℕ). unwrap_or o 0) (unset settings (at_port port) InPort u);
    })

pub has_what_is_said : (port : ℕ) (text : List ℕ) (settings : List MatchField) (r : ReceivedFrame) → with_setting_words false [] (words_from 0 text) ≡ Ok settings → frame_in_words port text ≡ Ok r → Has port settings r
unfolding frame_in_words
has_what_is_said port text settings r w e =
    let here : (checked settings (received_frame port settings) >>= with_ttl_words (words_from 0 text)) ≡ Ok r = sym (ap (λ x. x >>= λ settings. checked settings (received_frame port settings) >>= with_ttl_words (words_from 0 text)) w) ∙ e in
    next_has port settings (words_from 0 text) (checked settings (received_frame port settings)) r (checked_has port settings) (λ s h k. words_have port settings (words_from 0 text) s r h k) here
