-- The descriptions of all frames.
use Rattle.std.proofs.Common.{◌≡◌, ◌<◌, ◌+◌, ◌*◌, ◌/◌, ◌%◌, ◌^◌, ℕ, Bool, eqb, true, false, List, [], ◌∷◌, ◌++◌, Option, None, Some, refl, sym, ap, subst, ◌∙◌, arith, inl, inr}
use Rattle.std.specs.Prelude.{bit_and, map, nat_lt, ◌&&◌, ◌||◌}
use Rattle.std.{specs.List.Contains, specs.Option.option_map, specs.Global.Vec, proofs.lemmas.Bool.eq-eqb, proofs.lemmas.Bool.eqb-true, proofs.lemmas.Bool.lt-ltb, proofs.lemmas.Bool.ltb-true}
use Rattle.std.proofs.{lemmas.List.Elements.Contains-append_cases, lemmas.List.Elements.Contains-append_left, lemmas.List.Elements.Contains-append_right, lemmas.Nat.and_block, lemmas.Nat.and_mask}
use Rattle.of_layers.specs.{declared.field.Field.Field, declared.field.Field.TheVariants.Metadata, declared.field.Field.TheVariants.VlanVid, Fields.ones_of, Fields.row_of, Layers.inner_tag}
use Rattle.of_layers.{specs.Reading.layers_of, specs.WellFormed.FitsItems, specs.WellFormed.AreTags, proofs.FrameLemmas.are_layers}
use Rattle.of_headers.specs.FieldMap.{field_map, vid}
use Rattle.of_oxm.specs.{declared.match_field.MatchField.MatchField, Relations.agrees, Relations.matches_map}
use Rattle.of_rewrite.{specs.Frames.IsFrame, specs.Views.Tag, specs.Views.outermost, specs.Views.tag_of_numbers, specs.Views.view_of, proofs.Viewing.seen}
use Rattle.of_frames.{specs.Rules.shape_of, specs.Rules.tagging_of, proofs.Shapes.shaped, proofs.Shapes.tags_seen}
use Rattle.of_regions.specs.{declared.region.Region.Region, Conditions.AreConditions, Narrowing.AreNarrowed, Searching.InSome, Searching.IsStart}
use Rattle.of_symbolic.specs.{declared.part.Part.Part, InnerTags.description_of, InnerTags.inner_tag_asked, InnerTags.inner_told, InnerTags.number_of_tag}
use Rattle.of_symbolic.{specs.Parts.IsWholePart, specs.Parts.NoneOfMatches, specs.Parts.may_tell, specs.Parts.received_fields, proofs.Following.low_bits, proofs.Lookups.own}
use Rattle.of_symbolic.proofs.{PartLemmas.none_of, PartLemmas.some_tagging, VidBits.and_zero, VidBits.present_bit, VidBits.zero_and, Vids.four_small}

abbrev pub no_metadata : MatchField
no_metadata = record { field = Metadata; value = 0; mask = None }

-- ---- conditions

received_metadata : (frame : List ℕ) (port : ℕ) → matches_map (no_metadata ∷ []) (received_fields frame port) ≡ true
unfolding row_of
received_metadata frame port = refl

nothing_told : (frame : List ℕ) (port n : ℕ) → n ≡ 0 → matches_map (no_metadata ∷ []) (field_map (layers_of frame) port n) ≡ true
nothing_told frame port n e = subst (λ (x : ℕ). matches_map (no_metadata ∷ []) (field_map (layers_of frame) port x) ≡ true) (sym e) (received_metadata frame port)

metadata_asked : (frame : List ℕ) (port metadata : ℕ) → metadata < 2 ^ 64 → matches_map (no_metadata ∷ []) (field_map (layers_of frame) port metadata) ≡ true → metadata ≡ 0
unfolding row_of
metadata_asked frame port metadata fits h = by_test (eqb (bit_and metadata (ones_of Metadata)) 0) refl h
  where
    by_test : (b : Bool) → eqb (bit_and metadata (ones_of Metadata)) 0 ≡ b → (b && true) ≡ true → metadata ≡ 0
    by_test true e h =
        let none : metadata % 2 ^ 64 ≡ 0 = sym (low_bits metadata Metadata) ∙ eqb-true _ _ e in
        omega (arith, none, fits)
    by_test false e h = absurd cc

pub asked_conditions : AreConditions inner_tag_asked
unfolding row_of
asked_conditions = (record { within = refl; value = refl }, (record { within = refl; value = refl }, (record { within = refl; value = refl }, tt)))

-- ---- bits of a number

bit_there : (n : ℕ) → bit_and n 4096 ≡ 4096 * (n / 4096 % 2)
bit_there n =
    let block : bit_and (n / 4096 * 2 ^ 12 + n % 4096) (1 * 2 ^ 12 + 0) ≡ bit_and (n / 4096) 1 * 2 ^ 12 + bit_and (n % 4096) 0 = and_block 12 (n / 4096) 1 (n % 4096) 0 (omega arith) (omega arith) in
    let whole : n / 4096 * 2 ^ 12 + n % 4096 ≡ n = omega arith in
    let low : bit_and (n / 4096) 1 ≡ n / 4096 % 2 = and_mask (n / 4096) 1 in
    ap (λ (x : ℕ). bit_and x 4096) (sym whole) ∙ block ∙ omega (arith, low, and_zero (n % 4096))

bits_above : (n : ℕ) → n < 2 ^ 64 → bit_and n 0xffffffffffff0000 ≡ 65536 * (n / 65536)
bits_above n fits =
    let block : bit_and (n / 65536 * 2 ^ 16 + n % 65536) (0xffffffffffff * 2 ^ 16 + 0) ≡ bit_and (n / 65536) 0xffffffffffff * 2 ^ 16 + bit_and (n % 65536) 0 = and_block 16 (n / 65536) 0xffffffffffff (n % 65536) 0 (omega arith) (omega arith) in
    let whole : n / 65536 * 2 ^ 16 + n % 65536 ≡ n = omega arith in
    let low : bit_and (n / 65536) 0xffffffffffff ≡ n / 65536 % 2 ^ 48 = and_mask (n / 65536) 48 in
    ap (λ (x : ℕ). bit_and x 0xffffffffffff0000) (sym whole) ∙ block ∙ omega (arith, low, and_zero (n % 65536), fits)

all_three : (a b c : Bool) → (a && (b && (c && true))) ≡ true → (a ≡ true) × (b ≡ true) × (c ≡ true)
all_three true true true h = (refl, refl, refl)
all_three true true false h = absurd cc
all_three true false c h = absurd cc
all_three false b c h = absurd cc

three_true : (a b c : Bool) → a ≡ true → b ≡ true → c ≡ true → (a && (b && (c && true))) ≡ true
three_true true true true x y z = refl
three_true true true false x y z = absurd cc
three_true true false c x y z = absurd cc
three_true false b c x y z = absurd cc

-- ---- the number of a tag

-- of which a frame may have one below its own
pub record IsNumberOfTag (frame : List ℕ) (n : ℕ) : Type 0 where
  pub tag : Tag
  pub vid_fits : tag.vid < 2 ^ 12
  pub pcp_fits : tag.pcp < 2 ^ 3
  pub is : n ≡ number_of_tag (Some tag)

zero_may : (told : Bool) (ts : List (List ℕ)) (n : ℕ) → n ≡ 0 → may_tell told ts n ≡ true
zero_may told [] n none = eq-eqb _ _ none
zero_may told (t ∷ ts) n none = ap (λ (b : Bool). b || told && nat_lt n 65536 && eqb (n / 4096 % 2) 1) (eq-eqb n 0 none)

number_may : (ts : List (List ℕ)) (n : ℕ) → (ts ≡ [] → ⊥) → n < 65536 → n / 4096 % 2 ≡ 1 → may_tell true ts n ≡ true
number_may [] n tagged fits bit = absurd (tagged refl)
number_may (t ∷ ts) n tagged fits bit = by_parts (eqb n 0) (nat_lt n 65536) (eqb (n / 4096 % 2) 1) (lt-ltb n 65536 fits) (eq-eqb _ _ bit)
  where
    by_parts : (a b c : Bool) → b ≡ true → c ≡ true → (a || b && c) ≡ true
    by_parts true b c x y = refl
    by_parts false true true x y = refl
    by_parts false true false x y = absurd cc
    by_parts false false c x y = absurd cc

-- what is not 0 is such a number
pub number_not_zero : (told : Bool) (frame : List ℕ) (n : ℕ) → may_tell told (layers_of frame).tags n ≡ true → ¬ (n ≡ 0) → (told ≡ true) × IsNumberOfTag frame n × ¬ ((layers_of frame).tags ≡ [])
number_not_zero told frame n h other = by_tags (layers_of frame).tags h
  where
    by_parts : (a t b c : Bool) → (a || t && b && c) ≡ true → (a ≡ true → ⊥) → (t ≡ true) × (b ≡ true) × (c ≡ true)
    by_parts true t b c x not_a = absurd (not_a refl)
    by_parts false true true true x not_a = (refl, refl, refl)
    by_parts false true true false x not_a = absurd cc
    by_parts false true false c x not_a = absurd cc
    by_parts false false b c x not_a = absurd cc

    not_zero : eqb n 0 ≡ true → ⊥
    not_zero e = other (eqb-true n 0 e)

    by_tags : (ts : List (List ℕ)) → may_tell told ts n ≡ true → (told ≡ true) × IsNumberOfTag frame n × ¬ (ts ≡ [])
    by_tags [] x = absurd (not_zero x)
    by_tags (t ∷ ts) x =
        let parts = by_parts (eqb n 0) told (nat_lt n 65536) (eqb (n / 4096 % 2) 1) x not_zero in
        let fits : n < 65536 = ltb-true n 65536 parts.1 in
        let bit : n / 4096 % 2 ≡ 1 = eqb-true _ _ parts.2 in
        (parts.0, record { tag = record { vid = n % 4096; pcp = n / 8192 }; vid_fits = omega arith; pcp_fits = omega (arith, fits); is = omega (arith, bit) }, λ none. (let odd : t ∷ ts ≡ [] = none in cc))

-- ---- tags

pub pcp_small : (t : List ℕ) → FitsItems inner_tag t → (tag_of_numbers t).pcp < 2 ^ 3
pcp_small [] h = absurd h
pcp_small (a ∷ []) h = absurd h.1
pcp_small (a ∷ b ∷ []) h = absurd h.1.1
pcp_small (a ∷ b ∷ c ∷ []) h = absurd h.1.1.1
pcp_small (a ∷ b ∷ c ∷ d ∷ rest) h = h.1.0

abbrev with_tag_bit : MatchField
with_tag_bit = record { field = VlanVid; value = 0x1000; mask = Some 0x1000 }

module _ (frame : List ℕ) (port : ℕ) (h : IsFrame frame) where
  -- VLAN_VID, by the tags
  vid_seen : (n : ℕ) → field_map (layers_of frame) port n VlanVid ≡ Some (vid (option_map (λ (t : Tag). t.vid) (outermost (view_of frame).tags)))
  vid_seen n = seen frame (view_of frame) port n VlanVid h (own frame)

  untagged_not : (n : ℕ) → (layers_of frame).tags ≡ [] → agrees with_tag_bit (field_map (layers_of frame) port n VlanVid) ≡ true → ⊥
  untagged_not n none there =
      let is : field_map (layers_of frame) port n VlanVid ≡ Some 0 = vid_seen n ∙ ap (λ (ts : List (List ℕ)). Some (vid (option_map (λ (t : Tag). t.vid) (outermost (map tag_of_numbers ts))))) none in
      let bits : eqb (bit_and 0 4096) 4096 ≡ true = sym (ap (agrees with_tag_bit) is) ∙ there in
      omega (arith, eqb-true (bit_and 0 4096) 4096 bits, zero_and 4096)

  two_tags : (t u : List ℕ) (rest : List (List ℕ)) (n : ℕ) → (layers_of frame).tags ≡ t ∷ u ∷ rest → AreTags (t ∷ u ∷ rest) → n ≡ number_of_tag (Some (tag_of_numbers u)) → matches_map inner_tag_asked (field_map (layers_of frame) port n) ≡ true
  two_tags t u rest n is fits e =
      three_true (agrees with_tag_bit (field_map (layers_of frame) port n VlanVid)) (eqb (bit_and n 4096) 4096) (eqb (bit_and n 0xffffffffffff0000) 0)
      (ap (agrees with_tag_bit) tagged ∙ eq-eqb _ _ (present_bit (tag_of_numbers t).vid (four_small t fits.0)))
      (eq-eqb _ _ (bit_there n ∙ omega (arith, e, vid_fits, pcp_fits)))
      (eq-eqb _ _ (bits_above n (omega (arith, e, vid_fits, pcp_fits)) ∙ omega (arith, e, vid_fits, pcp_fits)))
    where
      tagged : field_map (layers_of frame) port n VlanVid ≡ Some (4096 + (tag_of_numbers t).vid)
      tagged = vid_seen n ∙ ap (λ (ts : List (List ℕ)). Some (vid (option_map (λ (t : Tag). t.vid) (outermost (map tag_of_numbers ts))))) is

      vid_fits : (tag_of_numbers u).vid < 2 ^ 12
      vid_fits = four_small u (fits.2).0

      pcp_fits : (tag_of_numbers u).pcp < 2 ^ 3
      pcp_fits = pcp_small u (fits.2).0

  told_number : (n : ℕ) → n < 2 ^ 64 → matches_map inner_tag_asked (field_map (layers_of frame) port n) ≡ true → may_tell true (layers_of frame).tags n ≡ true
  told_number n fits all =
      let parts = all_three (agrees with_tag_bit (field_map (layers_of frame) port n VlanVid)) (eqb (bit_and n 4096) 4096) (eqb (bit_and n 0xffffffffffff0000) 0) all in
      let bit : 4096 * (n / 4096 % 2) ≡ 4096 = sym (bit_there n) ∙ eqb-true _ _ parts.1 in
      let low : 65536 * (n / 65536) ≡ 0 = sym (bits_above n fits) ∙ eqb-true _ _ parts.2 in
      number_may (layers_of frame).tags n (λ none. untagged_not n none parts.0) (omega (arith, low)) (omega (arith, bit))

-- ---- all frames

module _ (start : List Region) (begins : IsStart [] start) where
  begun : (frame : List ℕ) (port n : ℕ) → IsFrame frame → InSome start (field_map (layers_of frame) port n)
  begun frame port n h = begins.all (shape_of (layers_of frame).body) (tagging_of (layers_of frame).tags) (field_map (layers_of frame) port n) (shaped frame port n h.1 h.0) (tags_seen frame port n h.1 h.0) refl

  nothing_lacks : (part : Part) (fields : Field → Option ℕ) → part.lacks.items ≡ [] → NoneOfMatches part.lacks.items fields
  nothing_lacks part fields lacks m c = absurd (none_of m (subst (λ (ms : List (Vec MatchField)). Contains ms m) lacks c))

  pub whole_is : (part : Part) → AreNarrowed (no_metadata ∷ []) start part.regions.items → part.lacks.items ≡ [] → IsWholePart false part
  whole_is part are lacks = record {
    all = λ frame port h. (are.all (received_fields frame port) (some_tagging frame port 0 h) (begun frame port 0 h) (received_metadata frame port), nothing_lacks part (received_fields frame port) lacks);
    only = λ frame port metadata is fits h. zero_may false (layers_of frame).tags metadata (metadata_asked frame port metadata fits (are.within (field_map (layers_of frame) port metadata) h.0).1);
  }

  pub whole_told : (part : Part) (first below : List Region) → AreNarrowed (no_metadata ∷ []) start first → AreNarrowed inner_tag_asked start below → part.regions.items ≡ below ++ first → part.lacks.items ≡ [] → IsWholePart true part
  whole_told part first below are inner regions lacks = record {
    all = λ frame port h. (subst (λ (rs : List Region). InSome rs (description_of true frame port)) (sym regions) (in_either frame port h (layers_of frame).tags refl (are_layers frame h.1 h.0).tags), nothing_lacks part (description_of true frame port) lacks);
    only = λ frame port metadata is fits h. told frame port metadata is fits (subst (λ (rs : List Region). InSome rs (field_map (layers_of frame) port metadata)) regions h.0);
  }
    where
      in_first : (frame : List ℕ) (port : ℕ) → IsFrame frame → inner_told true (view_of frame).tags ≡ 0 → InSome (below ++ first) (description_of true frame port)
      in_first frame port h none =
          let n = inner_told true (view_of frame).tags in
          let i = are.all (description_of true frame port) (some_tagging frame port n h) (begun frame port n h) (nothing_told frame port n none) in
          (i.0, Contains-append_right below first i.0 i.1, i.2)

      in_either : (frame : List ℕ) (port : ℕ) → IsFrame frame → (ts : List (List ℕ)) → (layers_of frame).tags ≡ ts → AreTags (layers_of frame).tags → InSome (below ++ first) (description_of true frame port)
      in_either frame port h [] is fits = in_first frame port h (ap (λ (ts : List (List ℕ)). inner_told true (map tag_of_numbers ts)) is)
      in_either frame port h (t ∷ []) is fits = in_first frame port h (ap (λ (ts : List (List ℕ)). inner_told true (map tag_of_numbers ts)) is)
      in_either frame port h (t ∷ u ∷ rest) is fits =
          let n = inner_told true (view_of frame).tags in
          let e : n ≡ number_of_tag (Some (tag_of_numbers u)) = ap (λ (ts : List (List ℕ)). inner_told true (map tag_of_numbers ts)) is in
          let i = inner.all (description_of true frame port) (some_tagging frame port n h) (begun frame port n h) (two_tags frame port h t u rest n is (subst AreTags is fits) e) in
          (i.0, Contains-append_left below first i.0 i.1, i.2)

      told : (frame : List ℕ) (port metadata : ℕ) → IsFrame frame → metadata < 2 ^ 64 → InSome (below ++ first) (field_map (layers_of frame) port metadata) → may_tell true (layers_of frame).tags metadata ≡ true
      told frame port metadata is fits h = elim (Contains-append_cases below first h.0 h.1) as (λ w. may_tell true (layers_of frame).tags metadata ≡ true) [
        | inl b ↦ told_number frame port is metadata fits (inner.within (field_map (layers_of frame) port metadata) (h.0, b, h.2)).1
        | inr a ↦ zero_may true (layers_of frame).tags metadata (metadata_asked frame port metadata fits (are.within (field_map (layers_of frame) port metadata) (h.0, a, h.2)).1)
      ]
