-- What a field of a match asks of the frame that came in is what it asks of the packet.
use Rattle.std.proofs.Common.{◌≡◌, ℕ, ◌+◌, ◌/◌, ◌%◌, ◌^◌, ◌<◌, Bool, true, false, cond, eqb, List, [], ◌∷◌, Option, Some, None, refl, sym, ap, subst, ◌∙◌, arith}
use Rattle.std.specs.Prelude.{bit_and, IfSome, is_some, not, slice_get, unwrap_or, ◌&&◌, ⊤}
use Rattle.std.{specs.Option.option_map, specs.Option.option_map_or, proofs.lemmas.Bool.eqb-true, proofs.lemmas.Bool.eqb-false, proofs.lemmas.Bool.ne_eqb, proofs.lemmas.Bool.eq-eqb}
use Rattle.of_layers.specs.{declared.field.Field.Field, declared.field.Field.TheVariants.VlanVid, declared.field.Field.TheVariants.VlanPcp}
use Rattle.of_headers.specs.FieldMap.{vid}
use Rattle.of_oxm.specs.{declared.match_field.MatchField.MatchField, Relations.agrees, Relations.bits_looked_at}
use Rattle.of_rewrite.specs.Views.{Tag, outermost}
use Rattle.of_symbolic.specs.Asking.{any_value, by_tag, field_asked, own_pcp, own_vid, pcp_asked, pushed_pcp, pushed_vid, tagged_vid, vid_asked, vid_bits, with_tag, without_tag}
use Rattle.of_symbolic.proofs.VidBits.{and_zero, none_left, present_bit, vid_agrees, vid_under, zero_and}
use Rattle.of_symbolic.specs.declared.asking.Asked.{Asked}
use Rattle.of_symbolic.specs.declared.asking.Asked.TheVariants.{Never, Open, Nothing, Asks}
use Rattle.of_symbolic.specs.{declared.overlay.PushedTag.PushedTag, declared.overlay.ReceivedTag.ReceivedTag, declared.overlay.TagNumber.TagNumber}
use Rattle.of_symbolic.specs.declared.overlay.TagNumber.TheVariants.{Value, Received, IfTagged, Unknown}
use Rattle.of_symbolic.specs.{Overlays.with_value, Tags.AreTagsAfter, Tags.IsNumber, Tags.own_tags}

-- whether the field of the match agrees is what it asks of the frame's fields
abbrev pub Holds : Asked → Bool → (Field → Option ℕ) → Type 0
Holds Never b map = b ≡ false
Holds Open b map = ⊤
Holds Nothing b map = b ≡ true
Holds (Asks x) b map = b ≡ agrees x (map x.field)

pub holds_same : (a : Asked) (b c : Bool) (map : Field → Option ℕ) → b ≡ c → Holds a c map → Holds a b map
holds_same a b c map e h = subst (λ (x : Bool). Holds a x map) (sym e) h

-- ---- fields of headers

if_there : (n : ℕ) (e : MatchField) (x : Option ℕ) → agrees e (Some n) ≡ true → agrees e (option_map (λ (y : ℕ). n) x) ≡ agrees (any_value e.field) x
if_there n e None t = refl
if_there n e (Some z) t = t ∙ sym (eq-eqb _ _ (and_zero z))

never_there : (n : ℕ) (e : MatchField) (x : Option ℕ) → agrees e (Some n) ≡ false → agrees e (option_map (λ (y : ℕ). n) x) ≡ false
never_there n e None t = refl
never_there n e (Some z) t = t

set_by_test : (n : ℕ) (e : MatchField) (map : Field → Option ℕ) (b : Bool) → agrees e (Some n) ≡ b → Holds (cond b (Asks (any_value e.field)) Never) (agrees e (option_map (λ (y : ℕ). n) (map e.field))) map
set_by_test n e map true t = if_there n e (map e.field) t
set_by_test n e map false t = never_there n e (map e.field) t

pub field_holds : (s : Option ℕ) (e : MatchField) (map : Field → Option ℕ) → Holds (field_asked s e) (agrees e (with_value s (map e.field))) map
field_holds None e map = refl
field_holds (Some n) e map = set_by_test n e map (agrees e (Some n)) refl

-- ---- what depends on the frame's outermost tag

-- the frame's fields say whether it has a tag
pub record Says (map : Field → Option ℕ) (received : Option Tag) : Type 0 where
  pub vid_is : map VlanVid ≡ Some (vid (option_map (λ (t : Tag). t.vid) received))
  pub pcp_is : map VlanPcp ≡ option_map (λ (t : Tag). t.pcp) received
  pub small : IfSome received (λ t. t.vid < 2 ^ 12)

says_tag : (received : Option Tag) → IfSome received (λ t. t.vid < 2 ^ 12) → is_some received ≡ agrees with_tag (Some (vid (option_map (λ (t : Tag). t.vid) received)))
says_tag None h = refl
says_tag (Some t) h = sym (eq-eqb _ _ (present_bit t.vid h))

says_none : (received : Option Tag) → IfSome received (λ t. t.vid < 2 ^ 12) → not (is_some received) ≡ agrees without_tag (Some (vid (option_map (λ (t : Tag). t.vid) received)))
says_none None h = refl
says_none (Some t) h = sym (ne_eqb _ _ (λ e. omega (arith, e, present_bit t.vid h)))

either_way : (b c : Bool) → cond b c c ≡ c
either_way true c = refl
either_way false c = refl

true_or_false : (b : Bool) → cond b true false ≡ b
true_or_false true = refl
true_or_false false = refl

false_or_true : (b : Bool) → cond b false true ≡ not b
false_or_true true = refl
false_or_true false = refl

by_tag_holds : (a b : Bool) (map : Field → Option ℕ) (received : Option Tag) → Says map received → Holds (by_tag a b) (cond (is_some received) a b) map
by_tag_holds true true map received h = either_way (is_some received) true
by_tag_holds true false map received h = true_or_false (is_some received) ∙ says_tag received h.small ∙ sym (ap (agrees with_tag) h.vid_is)
by_tag_holds false true map received h = false_or_true (is_some received) ∙ says_none received h.small ∙ sym (ap (agrees without_tag) h.vid_is)
by_tag_holds false false map received h = either_way (is_some received) false

if_tagged : (n : ℕ) (P : ℕ → Bool) (g : Tag → ℕ) (received : Option Tag) → P (option_map_or (λ y. n) (option_map g received) 0) ≡ cond (is_some received) (P n) (P 0)
if_tagged n P g None = refl
if_tagged n P g (Some t) = refl

-- ---- VLAN_VID

two_tests : (t u w b : Bool) (rest : Asked) (map : Field → Option ℕ) → b ≡ (t && w) → (u ≡ true → w ≡ true) → Holds rest w map → Holds (cond (not t) Never (cond u Nothing rest)) b map
two_tests true true w b rest map e f h = e ∙ f refl
two_tests true false w b rest map e f h = holds_same rest b w map e h
two_tests false u w b rest map e f h = e

-- the field looks at VLAN_VID, with a value within its mask
pub record IsVid (e : MatchField) : Type 0 where
  pub at : e.field ≡ VlanVid
  pub bits : bits_looked_at e < 8192
  pub covered : bit_and e.value (bits_looked_at e) ≡ e.value

tagged_holds : (e : MatchField) (x : ℕ) (rest : Asked) (map : Field → Option ℕ) → IsVid e → x < 4096 → Holds rest (eqb (bit_and x (bits_looked_at e % 4096)) (e.value % 4096)) map → Holds (tagged_vid e rest) (agrees e (Some (4096 + x))) map
tagged_holds e x rest map k h r =
    two_tests (eqb (bits_looked_at e / 4096) (e.value / 4096)) (eqb (bits_looked_at e % 4096) 0) (eqb (bit_and x (bits_looked_at e % 4096)) (e.value % 4096)) (agrees e (Some (4096 + x))) rest map
    (vid_agrees x (bits_looked_at e) e.value h k.bits) (λ z. none_left x (bits_looked_at e) e.value k.covered (eqb-true _ _ z)) r

vid_small : (received : Option Tag) → IfSome received (λ t. t.vid < 2 ^ 12) → IfSome (option_map (λ (t : Tag). t.vid) received) (λ n. n < 4096)
vid_small None h = tt
vid_small (Some t) h = h

received_low : (e : MatchField) (x : ℕ) (map : Field → Option ℕ) (received : Option Tag) → Says map received → x ≡ unwrap_or (option_map (λ (t : Tag). t.vid) received) 0
    → eqb (bit_and x (bits_looked_at e % 4096)) (e.value % 4096) ≡ agrees (vid_bits e) (map VlanVid)
received_low e x map received s is =
    let small : bits_looked_at e % 4096 < 4096 = omega arith in
    ap (λ (n : ℕ). eqb (bit_and n (bits_looked_at e % 4096)) (e.value % 4096)) is
    ∙ sym (ap (λ (n : ℕ). eqb n (e.value % 4096)) (vid_under (option_map (λ (t : Tag). t.vid) received) (bits_looked_at e % 4096) (vid_small received s.small) small))
    ∙ sym (ap (agrees (vid_bits e)) s.vid_is)

pushed_vid_holds : (k : TagNumber) (e : MatchField) (x : ℕ) (map : Field → Option ℕ) (received : Option Tag) → IsVid e → x < 4096 → Says map received → IsNumber k (option_map (λ (t : Tag). t.vid) received) x → Holds (pushed_vid k e) (agrees e (Some (4096 + x))) map
pushed_vid_holds (Value n) e x map received k h s is =
    let b = agrees e (Some (4096 + n)) in
    holds_same (by_tag b b) (agrees e (Some (4096 + x))) (cond (is_some received) b b) map (ap (λ (y : ℕ). agrees e (Some (4096 + y))) is ∙ sym (either_way (is_some received) b)) (by_tag_holds b b map received s)
pushed_vid_holds Received e x map received k h s is = tagged_holds e x (Asks (vid_bits e)) map k h (received_low e x map received s is)
pushed_vid_holds (IfTagged n) e x map received k h s is =
    let b = agrees e (Some (4096 + n)) in
    let c = agrees e (Some 4096) in
    holds_same (by_tag b c) (agrees e (Some (4096 + x))) (cond (is_some received) b c) map
    (ap (λ (y : ℕ). agrees e (Some (4096 + y))) is ∙ if_tagged n (λ y. agrees e (Some (4096 + y))) (λ (t : Tag). t.vid) received) (by_tag_holds b c map received s)
pushed_vid_holds Unknown e x map received k h s is = tagged_holds e x Open map k h tt

own_vid_seen : (k : ReceivedTag) (n : Option ℕ) (e : MatchField) (received : List Tag) → k.vid ≡ n → (P : ℕ → Bool) →
    P (vid (option_map (λ (t : Tag). t.vid) (outermost (own_tags k received)))) ≡ cond (is_some (outermost received)) (P (4096 + unwrap_or n (unwrap_or (option_map (λ (t : Tag). t.vid) (outermost received)) 0))) (P 0)
own_vid_seen k n e [] is P = refl
own_vid_seen k n e (t ∷ ts) is P = ap (λ (o : Option ℕ). P (4096 + unwrap_or o t.vid)) is

own_vid_same : (P : ℕ → Bool) (received : Option Tag) → cond (is_some received) (P (4096 + unwrap_or (option_map (λ (t : Tag). t.vid) received) 0)) (P 0) ≡ P (vid (option_map (λ (t : Tag). t.vid) received))
own_vid_same P None = refl
own_vid_same P (Some t) = refl

own_vid_holds : (n : Option ℕ) (e : MatchField) (map : Field → Option ℕ) (received : Option Tag) → e.field ≡ VlanVid → Says map received →
    Holds (own_vid n e) (cond (is_some received) (agrees e (Some (4096 + unwrap_or n (unwrap_or (option_map (λ (t : Tag). t.vid) received) 0)))) (agrees e (Some 0))) map
own_vid_holds None e map received at s = own_vid_same (λ y. agrees e (Some y)) received ∙ sym (ap (agrees e) (ap map at ∙ s.vid_is))
own_vid_holds (Some n) e map received at s = by_tag_holds (agrees e (Some (4096 + n))) (agrees e (Some 0)) map received s

pub vid_holds : (ps : List PushedTag) (own : Option ReceivedTag) (e : MatchField) (map : Field → Option ℕ) (received tags : List Tag) → IsVid e → IfSome (outermost tags) (λ t. t.vid < 2 ^ 12) → Says map (outermost received)
    → AreTagsAfter ps own received tags → Holds (vid_asked (slice_get ps 0) own e) (agrees e (Some (vid (option_map (λ (t : Tag). t.vid) (outermost tags))))) map
vid_holds [] None e map received tags k small s h = tt
vid_holds [] (Some own) e map received tags k small s h =
    holds_same (own_vid own.vid e) (agrees e (Some (vid (option_map (λ (t : Tag). t.vid) (outermost tags))))) _ map
    (ap (λ (ts : List Tag). agrees e (Some (vid (option_map (λ (t : Tag). t.vid) (outermost ts))))) h ∙ own_vid_seen own own.vid e received refl (λ y. agrees e (Some y)))
    (own_vid_holds own.vid e map (outermost received) k.at s)
vid_holds (p ∷ ps) own e map received [] k small s h = absurd h
vid_holds (p ∷ ps) own e map received (t ∷ tags) k small s h = pushed_vid_holds p.vid e t.vid map (outermost received) k small s h.0.vid

-- ---- VLAN_PCP

zero_value : (e : MatchField) (x : ℕ) (map : Field → Option ℕ) (received : Option Tag) → Says map received → e.field ≡ VlanPcp → x ≡ unwrap_or (option_map (λ (t : Tag). t.pcp) received) 0
    → eqb e.value 0 ≡ false → agrees e (Some x) ≡ agrees e (option_map (λ (t : Tag). t.pcp) received)
zero_value e x map None s at is n = ap (λ (y : ℕ). agrees e (Some y)) is ∙ ne_eqb _ _ (λ z. eqb-false _ _ n (sym z ∙ zero_and (bits_looked_at e)))
zero_value e x map (Some t) s at is n = ap (λ (y : ℕ). agrees e (Some y)) is

-- with the tag there its PCP is a number, also if that is 0
tagged_value : (e : MatchField) (x : ℕ) (received : Option Tag) → is_some received ≡ true → x ≡ unwrap_or (option_map (λ (t : Tag). t.pcp) received) 0 → agrees e (Some x) ≡ agrees e (option_map (λ (t : Tag). t.pcp) received)
tagged_value e x None there is = absurd cc
tagged_value e x (Some t) there is = ap (λ (y : ℕ). agrees e (Some y)) is

received_pcp : (tagged : Bool) (e : MatchField) (x : ℕ) (map : Field → Option ℕ) (received : Option Tag) → (tagged ≡ true → is_some received ≡ true) → Says map received → e.field ≡ VlanPcp
    → x ≡ unwrap_or (option_map (λ (t : Tag). t.pcp) received) 0 → (b : Bool) → eqb e.value 0 ≡ b → Holds (cond (b && not tagged) Open (Asks e)) (agrees e (Some x)) map
received_pcp true e x map received there s at is true n = tagged_value e x received (there refl) is ∙ sym (ap (agrees e) (ap map at ∙ s.pcp_is))
received_pcp false e x map received there s at is true n = tt
received_pcp tagged e x map received there s at is false n = zero_value e x map received s at is n ∙ sym (ap (agrees e) (ap map at ∙ s.pcp_is))

pushed_pcp_holds : (tagged : Bool) (k : TagNumber) (e : MatchField) (x : ℕ) (map : Field → Option ℕ) (received : Option Tag) → (tagged ≡ true → is_some received ≡ true) → e.field ≡ VlanPcp → Says map received
    → IsNumber k (option_map (λ (t : Tag). t.pcp) received) x → Holds (pushed_pcp tagged k e) (agrees e (Some x)) map
pushed_pcp_holds tagged (Value n) e x map received there at s is =
    let b = agrees e (Some n) in
    holds_same (by_tag b b) (agrees e (Some x)) (cond (is_some received) b b) map (ap (λ (y : ℕ). agrees e (Some y)) is ∙ sym (either_way (is_some received) b)) (by_tag_holds b b map received s)
pushed_pcp_holds tagged Received e x map received there at s is = received_pcp tagged e x map received there s at is (eqb e.value 0) refl
pushed_pcp_holds tagged (IfTagged n) e x map received there at s is =
    let b = agrees e (Some n) in
    let c = agrees e (Some 0) in
    holds_same (by_tag b c) (agrees e (Some x)) (cond (is_some received) b c) map (ap (λ (y : ℕ). agrees e (Some y)) is ∙ if_tagged n (λ y. agrees e (Some y)) (λ (t : Tag). t.pcp) received) (by_tag_holds b c map received s)
pushed_pcp_holds tagged Unknown e x map received there at s is = tt

own_pcp_holds : (k : ReceivedTag) (n : Option ℕ) (e : MatchField) (map : Field → Option ℕ) (received : List Tag) → k.pcp ≡ n → e.field ≡ VlanPcp → Says map (outermost received) → Holds (own_pcp n e) (agrees e (option_map (λ (t : Tag). t.pcp) (outermost (own_tags k received)))) map
own_pcp_holds k None e map [] is at s = sym (ap (agrees e) (ap map at ∙ s.pcp_is))
own_pcp_holds k None e map (t ∷ ts) is at s = ap (λ (o : Option ℕ). agrees e (Some (unwrap_or o t.pcp))) is ∙ sym (ap (agrees e) (ap map at ∙ s.pcp_is))
own_pcp_holds k (Some n) e map [] is at s = by_tag_holds (agrees e (Some n)) false map None s
own_pcp_holds k (Some n) e map (t ∷ ts) is at s =
    holds_same (by_tag (agrees e (Some n)) false) (agrees e (Some (unwrap_or k.pcp t.pcp))) (agrees e (Some n)) map (ap (λ (o : Option ℕ). agrees e (Some (unwrap_or o t.pcp))) is) (by_tag_holds (agrees e (Some n)) false map (Some t) s)

pub pcp_holds : (tagged : Bool) (ps : List PushedTag) (own : Option ReceivedTag) (e : MatchField) (map : Field → Option ℕ) (received tags : List Tag) → (tagged ≡ true → is_some (outermost received) ≡ true) → e.field ≡ VlanPcp → Says map (outermost received)
    → AreTagsAfter ps own received tags → Holds (pcp_asked tagged (slice_get ps 0) own e) (agrees e (option_map (λ (t : Tag). t.pcp) (outermost tags))) map
pcp_holds tagged [] None e map received tags there at s h = tt
pcp_holds tagged [] (Some own) e map received tags there at s h =
    holds_same (own_pcp own.pcp e) (agrees e (option_map (λ (t : Tag). t.pcp) (outermost tags))) (agrees e (option_map (λ (t : Tag). t.pcp) (outermost (own_tags own received)))) map
    (ap (λ (ts : List Tag). agrees e (option_map (λ (t : Tag). t.pcp) (outermost ts))) h) (own_pcp_holds own own.pcp e map received refl at s)
pcp_holds tagged (p ∷ ps) own e map received [] there at s h = absurd h
pcp_holds tagged (p ∷ ps) own e map received (t ∷ tags) there at s h = pushed_pcp_holds tagged p.pcp e t.pcp map (outermost received) there at s h.0.pcp
