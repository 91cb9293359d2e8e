-- What is asked of the inner tag, which METADATA of a description tells.
use Rattle.std.proofs.Common.{◌≡◌, ◌⊎◌, ℕ, ◌+◌, ◌*◌, ◌%◌, ◌^◌, ◌<◌, ◌≤◌, Bool, true, false, cond, eqb, drop, Option, Some, None, refl, sym, ap, subst, ◌∙◌, arith, inl, inr}
use Rattle.std.specs.Prelude.{bit_and, IfSome, is_some, not, slice_get, ◌&&◌, ⊤}
use Rattle.std.{specs.Option.option_map, proofs.lemmas.Bool.cases_eq, proofs.lemmas.Bool.eq-eqb, proofs.lemmas.Bool.ne_eqb}
use Rattle.std.proofs.lemmas.Nat.{and_block, and_le_l, and_le_r, and_mask}
use Rattle.of_layers.specs.declared.field.Field.{Field}
use Rattle.of_layers.specs.declared.field.Field.TheVariants.{InPort, Metadata, VlanVid, VlanPcp}
use Rattle.of_layers.specs.Fields.{ones_of, row_of}
use Rattle.of_headers.specs.FieldMap.{value, vid}
use Rattle.of_oxm.specs.{declared.match_field.MatchField.MatchField, NormalForm.IsKept, Relations.agrees, Relations.bits_looked_at}
use Rattle.of_rewrite.specs.Views.{Tag, View, fields_seen, outermost}
use Rattle.of_regions.{specs.Conditions.IsCondition, proofs.NarrowingLemmas.kept_condition}
use Rattle.of_symbolic.specs.Asking.{asked_at, asked_of_tag, by_tag, field_asked, inner_field, own_pcp, own_vid, pcp_asked, pushed_pcp, pushed_vid, vid_asked, vid_bits}
use Rattle.of_symbolic.proofs.Holding.{Holds, IsVid, Says, field_holds, holds_same, pcp_holds, vid_holds}
use Rattle.of_symbolic.specs.declared.asking.Asked.{Asked}
use Rattle.of_symbolic.specs.declared.asking.Asked.TheVariants.{Never, Open, Nothing, Asks}
use Rattle.of_symbolic.specs.{declared.overlay.Overlay.Overlay, declared.overlay.PushedTag.PushedTag, declared.overlay.ReceivedTag.ReceivedTag, declared.overlay.TagNumber.TagNumber}
use Rattle.of_symbolic.specs.declared.overlay.TagNumber.TheVariants.{Received, Unknown}
use Rattle.of_symbolic.specs.{InnerTags.description_of_view, InnerTags.inner_told, InnerTags.number_of_tag, Overlays.Shows, Overlays.tags_in, Overlays.with_value, Tags.is_inner, Tags.tags_from}
use Rattle.of_symbolic.proofs.{Keeping.KeptIfAsked, Keeping.field_kept, Keeping.pcp_kept, Keeping.vid_kept, VidBits.present_bit}

-- ---- what is asked of a tag is about its VID or its PCP

abbrev pub IsOfTag : Asked → Type 0
IsOfTag (Asks x) = (x.field ≡ VlanVid) ⊎ (x.field ≡ VlanPcp)
IsOfTag other = ⊤

by_tag_of : (a b : Bool) → IsOfTag (by_tag a b)
by_tag_of true true = tt
by_tag_of true false = inl refl
by_tag_of false true = inl refl
by_tag_of false false = tt

tagged_of : (t u : Bool) (rest : Asked) → IsOfTag rest → IsOfTag (cond (not t) Never (cond u Nothing rest))
tagged_of true true rest h = tt
tagged_of true false rest h = h
tagged_of false u rest h = tt

pushed_vid_of : (k : TagNumber) (e : MatchField) → IsOfTag (pushed_vid k e)
pushed_vid_of Received e = tagged_of _ _ (Asks (vid_bits e)) (inl refl)
pushed_vid_of Unknown e = tagged_of _ _ Open tt
pushed_vid_of other e = by_tag_of _ _

own_vid_of : (k : Option ℕ) (e : MatchField) → e.field ≡ VlanVid → IsOfTag (own_vid k e)
own_vid_of None e at = inl at
own_vid_of (Some n) e at = by_tag_of _ _

vid_of : (p : Option PushedTag) (own : Option ReceivedTag) (e : MatchField) → e.field ≡ VlanVid → IsOfTag (vid_asked p own e)
vid_of (Some p) own e at = pushed_vid_of p.vid e
vid_of None (Some own) e at = own_vid_of own.vid e at
vid_of None None e at = tt

pushed_pcp_of : (tagged : Bool) (k : TagNumber) (e : MatchField) → e.field ≡ VlanPcp → IsOfTag (pushed_pcp tagged k e)
pushed_pcp_of tagged Received e at = by_test (eqb e.value 0 && not tagged)
  where
    by_test : (b : Bool) → IsOfTag (cond b Open (Asks e))
    by_test true = tt
    by_test false = inr at
pushed_pcp_of tagged Unknown e at = tt
pushed_pcp_of tagged other e at = by_tag_of _ _

own_pcp_of : (k : Option ℕ) (e : MatchField) → e.field ≡ VlanPcp → IsOfTag (own_pcp k e)
own_pcp_of None e at = inr at
own_pcp_of (Some n) e at = by_tag_of _ _

pcp_of : (tagged : Bool) (p : Option PushedTag) (own : Option ReceivedTag) (e : MatchField) → e.field ≡ VlanPcp → IsOfTag (pcp_asked tagged p own e)
pcp_of tagged (Some p) own e at = pushed_pcp_of tagged p.pcp e at
pcp_of tagged None (Some own) e at = own_pcp_of own.pcp e at
pcp_of tagged None None e at = tt

-- ---- conditions

vid_ones : ones_of VlanVid ≡ 8191
unfolding row_of
vid_ones = refl

pcp_ones : ones_of VlanPcp ≡ 7
unfolding row_of
pcp_ones = refl

vid_few : (x : MatchField) → IsCondition x → x.field ≡ VlanVid → bits_looked_at x < 8192
vid_few x h at =
    let most : bit_and (bits_looked_at x) (ones_of x.field) ≤ ones_of x.field = and_le_r (bits_looked_at x) (ones_of x.field) in
    omega (arith, h.within, most, ap ones_of at, vid_ones)

pcp_few : (x : MatchField) → IsCondition x → x.field ≡ VlanPcp → bits_looked_at x < 8
pcp_few x h at =
    let most : bit_and (bits_looked_at x) (ones_of x.field) ≤ ones_of x.field = and_le_r (bits_looked_at x) (ones_of x.field) in
    omega (arith, h.within, most, ap ones_of at, pcp_ones)

value_few : (x : MatchField) → IsCondition x → x.value ≤ bits_looked_at x
value_few x h = omega (arith, h.value, and_le_r x.value (bits_looked_at x))

-- ---- the number of a tag under a mask

-- the low 13 bits are VLAN_VID
low_told : (t : Option Tag) (m : ℕ) → IfSome t (λ t. t.vid < 2 ^ 12) → m < 8192 → bit_and (number_of_tag t) m ≡ bit_and (vid (option_map (λ (t : Tag). t.vid) t)) m
low_told None m h k = refl
low_told (Some t) m h k =
    let block : bit_and (t.pcp * 2 ^ 13 + (4096 + t.vid)) (0 * 2 ^ 13 + m) ≡ bit_and t.pcp 0 * 2 ^ 13 + bit_and (4096 + t.vid) m = and_block 13 t.pcp 0 (4096 + t.vid) m (omega (arith, h)) (omega (arith, k)) in
    let none : bit_and t.pcp 0 ≤ 0 = and_le_r t.pcp 0 in
    let own : t.pcp * 2 ^ 13 + (4096 + t.vid) ≡ 4096 + t.vid + 8192 * t.pcp = omega arith in
    let mask : 0 * 2 ^ 13 + m ≡ m = omega arith in
    let flat : bit_and t.pcp 0 * 2 ^ 13 + bit_and (4096 + t.vid) m ≡ bit_and (4096 + t.vid) m = omega (arith, none) in
    ap (λ (n : ℕ). bit_and n m) (sym own) ∙ ap (bit_and (t.pcp * 2 ^ 13 + (4096 + t.vid))) (sym mask) ∙ block ∙ flat

-- above them are the bit that there is a tag, and its PCP
pub high_told : (t : Tag) (m : ℕ) → t.vid < 2 ^ 12 → bit_and (number_of_tag (Some t)) (4096 + 8192 * m) ≡ 4096 + 8192 * bit_and t.pcp m
high_told t m h =
    let block : bit_and (t.pcp * 2 ^ 13 + (4096 + t.vid)) (m * 2 ^ 13 + 4096) ≡ bit_and t.pcp m * 2 ^ 13 + bit_and (4096 + t.vid) 4096 = and_block 13 t.pcp m (4096 + t.vid) 4096 (omega (arith, h)) (omega arith) in
    let own : t.pcp * 2 ^ 13 + (4096 + t.vid) ≡ 4096 + t.vid + 8192 * t.pcp = omega arith in
    let mask : m * 2 ^ 13 + 4096 ≡ 4096 + 8192 * m = omega arith in
    ap (λ (n : ℕ). bit_and n (4096 + 8192 * m)) (sym own) ∙ ap (bit_and (t.pcp * 2 ^ 13 + (4096 + t.vid))) (sym mask) ∙ block ∙ omega (arith, present_bit t.vid h)

-- ---- the fields of a tag, and what METADATA tells

abbrev pub tag_map : Option Tag → Field → Option ℕ
tag_map t VlanVid = Some (vid (option_map (λ (t : Tag). t.vid) t))
tag_map t VlanPcp = option_map (λ (t : Tag). t.pcp) t
tag_map t f = None

says_map : (t : Option Tag) → IfSome t (λ t. t.vid < 2 ^ 12) → Says (tag_map t) t
says_map t h = record { vid_is = refl; pcp_is = refl; small = h }

pcp_agrees : (x : MatchField) (t : Option Tag) → IfSome t (λ t. t.vid < 2 ^ 12) → bits_looked_at x < 8 → x.value < 8 → agrees x (option_map (λ (t : Tag). t.pcp) t) ≡ agrees (inner_field VlanPcp x) (Some (number_of_tag t))
pcp_agrees x None h few fits =
    let none : bit_and 0 (4096 + 8192 * (bits_looked_at x % 8)) ≤ 0 = and_le_l 0 (4096 + 8192 * (bits_looked_at x % 8)) in
    sym (ne_eqb _ _ (λ e. omega (arith, e, none)))
pcp_agrees x (Some t) h few fits =
    let bits : bits_looked_at x % 8 ≡ bits_looked_at x = omega (arith, few) in
    let own : x.value % 8 ≡ x.value = omega (arith, fits) in
    let seen : bit_and (number_of_tag (Some t)) (4096 + 8192 * (bits_looked_at x % 8)) ≡ 4096 + 8192 * bit_and t.pcp (bits_looked_at x) = high_told t (bits_looked_at x % 8) h ∙ ap (λ (m : ℕ). 4096 + 8192 * bit_and t.pcp m) bits in
    same_eqb (bit_and t.pcp (bits_looked_at x)) x.value ∙ sym (ap (λ (n : ℕ). eqb n (4096 + 8192 * (x.value % 8))) seen ∙ ap (λ (n : ℕ). eqb (4096 + 8192 * bit_and t.pcp (bits_looked_at x)) (4096 + 8192 * n)) own)
  where
    same_eqb : (a b : ℕ) → eqb a b ≡ eqb (4096 + 8192 * a) (4096 + 8192 * b)
    same_eqb a b = elim (cases_eq a b) as (λ w. eqb a b ≡ eqb (4096 + 8192 * a) (4096 + 8192 * b)) [
      | inl e ↦ eq-eqb _ _ e ∙ sym (eq-eqb _ _ (ap (λ (n : ℕ). 4096 + 8192 * n) e))
      | inr n ↦ ne_eqb _ _ n ∙ sym (ne_eqb _ _ (λ e. n (omega (arith, e))))
    ]

inner_agrees : (x : MatchField) (t : Option Tag) → IsCondition x → (x.field ≡ VlanVid) ⊎ (x.field ≡ VlanPcp) → IfSome t (λ t. t.vid < 2 ^ 12) → agrees x (tag_map t x.field) ≡ agrees (inner_field x.field x) (Some (number_of_tag t))
inner_agrees x t c (inl at) h =
    let low : agrees x (tag_map t VlanVid) ≡ agrees (inner_field VlanVid x) (Some (number_of_tag t)) = ap (λ (n : ℕ). eqb n x.value) (sym (low_told t (bits_looked_at x) h (vid_few x c at))) in
    subst (λ (f : Field). agrees x (tag_map t f) ≡ agrees (inner_field f x) (Some (number_of_tag t))) (sym at) low
inner_agrees x t c (inr at) h =
    let few = pcp_few x c at in
    subst (λ (f : Field). agrees x (tag_map t f) ≡ agrees (inner_field f x) (Some (number_of_tag t))) (sym at) (pcp_agrees x t h few (omega (arith, few, value_few x c)))

inner_at : (f : Field) (x : MatchField) → (inner_field f x).field ≡ Metadata
inner_at VlanPcp x = refl
inner_at f x = refl

inner_holds : (a : Asked) (b : Bool) (t : Option Tag) (map : Field → Option ℕ) → map Metadata ≡ Some (number_of_tag t) → IfSome t (λ t. t.vid < 2 ^ 12) → KeptIfAsked a → IsOfTag a → Holds a b (tag_map t) → Holds (asked_of_tag true a) b map
inner_holds Open b t map told h kept of i = tt
inner_holds (Asks x) b t map told h kept of i = i ∙ inner_agrees x t kept of h ∙ sym (ap (agrees (inner_field x.field x)) (ap map (inner_at x.field x) ∙ told))
inner_holds other b t map told h kept of i = i

-- ---- conditions on METADATA

low_within : (n : ℕ) → n < 2 ^ 16 → bit_and n (ones_of Metadata) ≡ n
unfolding row_of
low_within n h = and_mask n 64 ∙ omega (arith, h)

pcp_covered : (v m : ℕ) → bit_and v m ≡ v → bit_and (4096 + 8192 * v) (4096 + 8192 * m) ≡ 4096 + 8192 * v
pcp_covered v m h =
    let block : bit_and (v * 2 ^ 13 + 4096) (m * 2 ^ 13 + 4096) ≡ bit_and v m * 2 ^ 13 + bit_and 4096 4096 = and_block 13 v m 4096 4096 (omega arith) (omega arith) in
    let own : v * 2 ^ 13 + 4096 ≡ 4096 + 8192 * v = omega arith in
    let mask : m * 2 ^ 13 + 4096 ≡ 4096 + 8192 * m = omega arith in
    ap (λ (n : ℕ). bit_and n (4096 + 8192 * m)) (sym own) ∙ ap (bit_and (v * 2 ^ 13 + 4096)) (sym mask) ∙ block ∙ omega (arith, h)

inner_condition : (x : MatchField) → IsCondition x → (x.field ≡ VlanVid) ⊎ (x.field ≡ VlanPcp) → IsCondition (inner_field x.field x)
inner_condition x c (inl at) = subst (λ (f : Field). IsCondition (inner_field f x)) (sym at) (record { within = low_within (bits_looked_at x) (omega (arith, vid_few x c at)); value = c.value })
inner_condition x c (inr at) =
    let few = pcp_few x c at in
    let bits : bits_looked_at x % 8 ≡ bits_looked_at x = omega (arith, few) in
    let own : x.value % 8 ≡ x.value = omega (arith, few, value_few x c) in
    let covered : bit_and (x.value % 8) (bits_looked_at x % 8) ≡ x.value % 8 = ap (λ (n : ℕ). bit_and n (bits_looked_at x % 8)) own ∙ ap (bit_and x.value) bits ∙ c.value ∙ sym own in
    subst (λ (f : Field). IsCondition (inner_field f x)) (sym at) (record { within = low_within (4096 + 8192 * (bits_looked_at x % 8)) (omega arith); value = pcp_covered (x.value % 8) (bits_looked_at x % 8) covered })

tag_kept : (inner : Bool) (a : Asked) → KeptIfAsked a → IsOfTag a → KeptIfAsked (asked_of_tag inner a)
tag_kept true (Asks x) h of = inner_condition x h of
tag_kept true Never h of = tt
tag_kept true Open h of = tt
tag_kept true Nothing h of = tt
tag_kept false a h of = h

metadata_kept : (b : Bool) → KeptIfAsked (cond b Nothing Never)
metadata_kept true = tt
metadata_kept false = tt

pub at_kept : (o : Overlay) (metadata : ℕ) (tagged : Bool) (e : MatchField) → IsKept e → (f : Field) → e.field ≡ f → KeptIfAsked (asked_at o metadata tagged e f)
at_kept o metadata tagged e h InPort at = kept_condition e h
at_kept o metadata tagged e h Metadata at = metadata_kept (agrees e (Some metadata))
at_kept o metadata tagged e h VlanVid at = let p = slice_get o.pushed.items 0 in tag_kept (is_inner o.own) (vid_asked p o.own e) (vid_kept p o.own e h at) (vid_of p o.own e at)
at_kept o metadata tagged e h VlanPcp at = let p = slice_get o.pushed.items 0 in tag_kept (is_inner o.own) (pcp_asked tagged p o.own e) (pcp_kept tagged p o.own e h) (pcp_of tagged p o.own e at)
at_kept o metadata tagged e h f at = field_kept (value o.set f) e h

-- ---- all fields

metadata_holds : (e : MatchField) (metadata : ℕ) (map : Field → Option ℕ) (b : Bool) → agrees e (Some metadata) ≡ b → Holds (cond b Nothing Never) (agrees e (Some metadata)) map
metadata_holds e metadata map true t = t
metadata_holds e metadata map false t = t

-- what is asked of a tag holds of the description, if it holds of the tag
tag_holds : (told inner : Bool) (a : Asked) (b : Bool) (v : View) (port : ℕ) → (inner ≡ true → told ≡ true) → IfSome (outermost (tags_from inner v.tags)) (λ t. t.vid < 2 ^ 12) → KeptIfAsked a → IsOfTag a
    → ((map : Field → Option ℕ) → Says map (outermost (tags_from inner v.tags)) → Holds a b map) → Holds (asked_of_tag inner a) b (description_of_view told v port)
tag_holds told false a b v port if_told small kept of h = h (description_of_view told v port) (record { vid_is = refl; pcp_is = refl; small = small })
tag_holds told true a b v port if_told small kept of h =
    let t = outermost (drop 1 v.tags) in
    inner_holds a b t (description_of_view told v port) (ap (λ (x : Bool). Some (inner_told x v.tags)) (if_told refl)) small kept of (h (tag_map t) (says_map t small))

-- the frame that came in has the tag that lies below those that were pushed
abbrev pub has_own_tag : Overlay → View → Bool
has_own_tag o v = is_some (outermost (tags_from (is_inner o.own) v.tags))

pub at_holds : (o : Overlay) (tagged : Bool) (e : MatchField) (v w : View) (port metadata : ℕ) → Shows (value o.set) (tags_in o) v w → IsKept e → (e.field ≡ VlanVid → IsVid e) → IfSome (outermost w.tags) (λ t. t.vid < 2 ^ 12)
    → IfSome (outermost (tags_from (is_inner o.own) v.tags)) (λ t. t.vid < 2 ^ 12) → (is_inner o.own ≡ true → o.inner ≡ true) → (e.field ≡ VlanPcp → tagged ≡ true → has_own_tag o v ≡ true)
    → (f : Field) → e.field ≡ f → Holds (asked_at o metadata tagged e f) (agrees e (fields_seen w port metadata f)) (description_of_view o.inner v port)
at_holds o tagged e v w port metadata h kept k small own if_told there InPort at = sym (ap (λ (f : Field). agrees e (description_of_view o.inner v port f)) at)
at_holds o tagged e v w port metadata h kept k small own if_told there Metadata at = metadata_holds e metadata (description_of_view o.inner v port) (agrees e (Some metadata)) refl
at_holds o tagged e v w port metadata h kept k small own if_told there VlanVid at =
    let p = slice_get o.pushed.items 0 in
    tag_holds o.inner (is_inner o.own) (vid_asked p o.own e) (agrees e (fields_seen w port metadata VlanVid)) v port if_told own (vid_kept p o.own e kept at) (vid_of p o.own e at)
    (λ map s. vid_holds o.pushed.items o.own e map (tags_from (is_inner o.own) v.tags) w.tags (k at) small s h.tags)
at_holds o tagged e v w port metadata h kept k small own if_told there VlanPcp at =
    let p = slice_get o.pushed.items 0 in
    tag_holds o.inner (is_inner o.own) (pcp_asked tagged p o.own e) (agrees e (fields_seen w port metadata VlanPcp)) v port if_told own (pcp_kept tagged p o.own e kept) (pcp_of tagged p o.own e at)
    (λ map s. pcp_holds tagged o.pushed.items o.own e map (tags_from (is_inner o.own) v.tags) w.tags (there at) at s h.tags)
at_holds o tagged e v w port metadata h kept k small own if_told there f at =
    holds_same (field_asked (value o.set f) e) (agrees e (w.fields f)) (agrees e (with_value (value o.set f) (description_of_view o.inner v port e.field))) (description_of_view o.inner v port)
    (ap (agrees e) (h.fields f ∙ ap (λ (g : Field). with_value (value o.set f) (description_of_view o.inner v port g)) (sym at))) (field_holds (value o.set f) e (description_of_view o.inner v port))
