-- Regions with more conditions.
use Rattle.std.proofs.Common.{◌≡◌, ◌⊎◌, ◌<◌, ℕ, zero, suc, Bool, true, false, cond, eqb, List, [], ◌∷◌, ◌++◌, length, get_or, take, Option, Some, None, refl, sym, ap, ◌∙◌, subst, arith, inl, inr}
use Rattle.std.specs.Prelude.{bit_and, bit_or, unwrap_or, IfSome, ◌||◌, ◌&&◌}
use Rattle.std.{specs.List.Contains, specs.List.list_all, specs.List.list_any, proofs.lemmas.Bool.eq-eqb, proofs.lemmas.Bool.eqb-true, proofs.lemmas.Nat.and_assoc, proofs.lemmas.Nat.and_le_l}
use Rattle.std.proofs.lemmas.List.Elements.{Contains-append_cases, Contains-append_left, Contains-append_right, Contains-push_cases}
use Rattle.of_layers.specs.declared.field.Field.{Field}
use Rattle.of_layers.specs.declared.field.Field.TheVariants.{EthType, IpProto, VlanPcp, VlanVid}
use Rattle.of_layers.specs.Fields.{number_of, ones_of, prerequisite_of}
use Rattle.of_headers.specs.FieldMap.{seen, value}
use Rattle.of_oxm.specs.{declared.match_field.MatchField.MatchField, Masks.mask_at, NormalForm.IsKept, Relations.agrees, Relations.bits_looked_at, Relations.matches_map}
use Rattle.of_oxm.proofs.Joined.{covered}
use Rattle.of_frames.specs.{declared.shape.Rule.Rule, declared.shape.Rule.TheVariants.Free, declared.shape.Rule.TheVariants.Under, declared.shape.Shape.Shape}
use Rattle.of_frames.specs.{declared.shape.Tagging.Tagging, declared.shape.Tagging.TheVariants.Untagged, declared.shape.Tagging.TheVariants.Tagged, Rules.IsTagging, Rules.has_header}
use Rattle.of_regions.proofs.JoiningLemmas.{Parts, joined_back, joined_forth, joined_known, not_joined, parts, whole}
use Rattle.of_regions.specs.{declared.region.Region.Region, Conditions.IsCondition, Narrowing.AreNarrowed, Narrowing.IsNarrowedBy, Narrowing.is_of_tag, Known.is_known_by, Known.rule_in}
use Rattle.of_regions.specs.{Regions.InRegion, Regions.InOneRegion, Searching.InSome, Starting.region_list}
use Rattle.of_regions.proofs.LearningLemmas.{own_among, set_among, was_among}
use Rattle.of_regions.proofs.{RuleLemmas.mask_within, RuleLemmas.protocol_said, RuleLemmas.said_or, RuleLemmas.type_said, TaggingLemmas.unknown_free, TaggingLemmas.unknown_untagged}

-- ---- a condition and what it sees

pub agrees_seen : (e : MatchField) (o : Option ℕ) → agrees e o ≡ true → seen (Some (bits_looked_at e)) o ≡ Some e.value
agrees_seen e None h = absurd cc
agrees_seen e (Some v) h = ap Some (eqb-true _ _ h)

pub seen_agrees : (e : MatchField) (o : Option ℕ) → seen (Some (bits_looked_at e)) o ≡ Some e.value → agrees e o ≡ true
seen_agrees e None h = absurd cc
seen_agrees e (Some v) h = eq-eqb _ _ (let s : bit_and v (bits_looked_at e) ≡ e.value = cc in s)

-- a field of a match is a condition, and so is a mask without bits
pub kept_condition : (e : MatchField) → IsKept e → IsCondition e
kept_condition e k = record { within = mask_within e.field e.value e.mask k.mask; value = covered e k }

pub any_value : (e : MatchField) → e.mask ≡ Some 0 → e.value ≡ 0 → IsCondition e
any_value e none nil =
    let nothing : bits_looked_at e ≡ 0 = ap (λ (m : Option ℕ). unwrap_or m (ones_of e.field)) none in
    record { within = rw nothing (omega (arith, and_le_l 0 (ones_of e.field))); value = rw nil (omega (arith, and_le_l 0 (bits_looked_at e))) }

-- ---- more known bits of a field

module _ (ones : ℕ) (rule : Rule) (mask known bits asked : ℕ) (own : is_known_by ones rule (Some mask) (Some known) ≡ true) (inside : bit_and bits ones ≡ bits) (under : bit_and asked bits ≡ asked) (same : bit_and asked mask ≡ bit_and known bits) where
  mask_in : bit_and mask ones ≡ mask
  mask_in = by_rule rule own
    where
      by_rule : (rule : Rule) → is_known_by ones rule (Some mask) (Some known) ≡ true → bit_and mask ones ≡ mask
      by_rule (Under b s) h = (parts ones b s mask known h).within
      by_rule other h = absurd cc

  under_mask : bit_and known mask ≡ known
  under_mask = by_rule rule own
    where
      by_rule : (rule : Rule) → is_known_by ones rule (Some mask) (Some known) ≡ true → bit_and known mask ≡ known
      by_rule (Under b s) h = (parts ones b s mask known h).under
      by_rule other h = absurd cc

  both : Parts ones mask known (bit_or bits mask) (bit_or asked known)
  both = parts ones mask known (bit_or bits mask) (bit_or asked known) (joined_known ones mask known bits asked mask_in under_mask inside under same)

  pub still_known : is_known_by ones rule (Some (bit_or bits mask)) (Some (bit_or asked known)) ≡ true
  still_known = by_rule rule own
    where
      by_rule : (rule : Rule) → is_known_by ones rule (Some mask) (Some known) ≡ true → is_known_by ones rule (Some (bit_or bits mask)) (Some (bit_or asked known)) ≡ true
      by_rule (Under b s) h =
          let p = parts ones b s mask known h in
          let m = bit_or bits mask in
          let k = bit_or asked known in
          whole ones b s m k (record {
            within = both.within;
            ruled = ap (bit_and m) (sym p.ruled) ∙ sym (and_assoc b m mask) ∙ ap (λ (n : ℕ). bit_and n b) both.ruled ∙ p.ruled;
            under = both.under;
            said = ap (bit_and k) (sym p.ruled) ∙ sym (and_assoc b k mask) ∙ ap (λ (n : ℕ). bit_and n b) both.said ∙ p.said;
          })
      by_rule other h = absurd cc

  pub was_seen : (o : Option ℕ) → seen (Some (bit_or bits mask)) o ≡ Some (bit_or asked known) → seen (Some mask) o ≡ Some known
  was_seen None h = absurd cc
  was_seen (Some w) h =
      let k : bit_and w (bit_or bits mask) ≡ bit_or asked known = cc in
      ap Some (ap (bit_and w) (sym both.ruled) ∙ sym (and_assoc mask w (bit_or bits mask)) ∙ ap (λ (n : ℕ). bit_and n mask) k ∙ both.said)

  pub asks_seen : (o : Option ℕ) → seen (Some (bit_or bits mask)) o ≡ Some (bit_or asked known) → seen (Some bits) o ≡ Some asked
  asks_seen = joined_back ones mask known bits asked mask_in under_mask inside under same

  pub both_seen : (o : Option ℕ) → seen (Some bits) o ≡ Some asked → seen (Some mask) o ≡ Some known → seen (Some (bit_or bits mask)) o ≡ Some (bit_or asked known)
  both_seen = joined_forth ones mask known bits asked mask_in under_mask inside under

-- a field that agrees with both has both under the other mask
pub both_agree : (ones : ℕ) (rule : Rule) (mask known bits asked : ℕ) → is_known_by ones rule (Some mask) (Some known) ≡ true → bit_and bits ones ≡ bits → bit_and asked bits ≡ asked → (o : Option ℕ) → seen (Some bits) o ≡ Some asked → seen (Some mask) o ≡ Some known → bit_and asked mask ≡ bit_and known bits
both_agree ones (Under x y) mask known bits asked h i u o a b = let p = parts ones x y mask known h in not_joined ones mask known bits asked p.within p.under i u o a b
both_agree ones other mask known bits asked h i u o a b = absurd cc

-- ---- a region with one more condition

module _ (r q : Region) (e : MatchField) (mask known : ℕ) (condition : IsCondition e) (m : mask_at r.masks e.field ≡ Some mask) (k : value r.known e.field ≡ Some known) (same : bit_and e.value mask ≡ bit_and known (bits_looked_at e)) where
  own : is_known_by (ones_of e.field) (rule_in r.shape r.tagging e.field) (Some mask) (Some known) ≡ true
  own = rw (sym m, sym k) (r.each e.field)

  pub more_known : is_known_by (ones_of e.field) (rule_in r.shape r.tagging e.field) (Some (bit_or (bits_looked_at e) mask)) (Some (bit_or e.value known)) ≡ true
  more_known = still_known (ones_of e.field) (rule_in r.shape r.tagging e.field) mask known (bits_looked_at e) e.value own condition.within condition.value same

  module _ (masks_are : (f : Field) → mask_at q.masks f ≡ cond (eqb (number_of f) (number_of e.field)) (Some (bit_or (bits_looked_at e) mask)) (mask_at r.masks f))
      (known_are : (f : Field) → value q.known f ≡ cond (eqb (number_of f) (number_of e.field)) (Some (bit_or e.value known)) (value r.known f)) where
    pub narrowed_within : (map : Field → Option ℕ) → InRegion q map → InRegion r map × (agrees e (map e.field) ≡ true)
    narrowed_within map h =
        let rule = rule_in r.shape r.tagging e.field in
        let here = own_among (mask_at r.masks) (value r.known) (mask_at q.masks) (value q.known) e.field (Some (bit_or (bits_looked_at e) mask)) (Some (bit_or e.value known)) masks_are known_are map h in (
          was_among (mask_at r.masks) (value r.known) (mask_at q.masks) (value q.known) e.field (Some (bit_or (bits_looked_at e) mask)) (Some (bit_or e.value known)) masks_are known_are
              (λ o s. ap (λ x. seen x o) m ∙ (was_seen (ones_of e.field) rule mask known (bits_looked_at e) e.value own condition.within condition.value same o s ∙ sym k)) map h,
          seen_agrees e (map e.field) (asks_seen (ones_of e.field) rule mask known (bits_looked_at e) e.value own condition.within condition.value same (map e.field) here),
        )

    pub narrowed_all : (map : Field → Option ℕ) → InRegion r map → agrees e (map e.field) ≡ true → InRegion q map
    narrowed_all map h a =
        let rule = rule_in r.shape r.tagging e.field in
        let here : seen (Some mask) (map e.field) ≡ Some known = ap (λ x. seen x (map e.field)) (sym m) ∙ (h e.field ∙ k) in
        set_among (mask_at r.masks) (value r.known) (mask_at q.masks) (value q.known) e.field (Some (bit_or (bits_looked_at e) mask)) (Some (bit_or e.value known)) masks_are known_are map h
        (both_seen (ones_of e.field) rule mask known (bits_looked_at e) e.value own condition.within condition.value same (map e.field) (agrees_seen e (map e.field) a) here)

-- no packet agrees with both
pub none_agrees : (r : Region) (e : MatchField) (mask known : ℕ) → IsCondition e → mask_at r.masks e.field ≡ Some mask → value r.known e.field ≡ Some known → ¬ (bit_and e.value mask ≡ bit_and known (bits_looked_at e)) → (map : Field → Option ℕ) → InRegion r map → agrees e (map e.field) ≡ true → ⊥
none_agrees r e mask known condition m k other map h a =
    let own : is_known_by (ones_of e.field) (rule_in r.shape r.tagging e.field) (Some mask) (Some known) ≡ true = rw (sym m, sym k) (r.each e.field) in
    let here : seen (Some mask) (map e.field) ≡ Some known = ap (λ x. seen x (map e.field)) (sym m) ∙ (h e.field ∙ k) in
    other (both_agree (ones_of e.field) (rule_in r.shape r.tagging e.field) mask known (bits_looked_at e) e.value own condition.within condition.value (map e.field) (agrees_seen e (map e.field) a) here)

-- a packet without the field agrees with no condition on it
pub none_there : (r : Region) (e : MatchField) (mask : ℕ) → mask_at r.masks e.field ≡ Some mask → value r.known e.field ≡ None → (map : Field → Option ℕ) → InRegion r map → agrees e (map e.field) ≡ true → ⊥
none_there r e mask m k map h a = by_value (map e.field) (ap (λ x. seen x (map e.field)) (sym m) ∙ (h e.field ∙ k)) a
  where
    by_value : (o : Option ℕ) → seen (Some mask) o ≡ None → agrees e o ≡ true → ⊥
    by_value None s a = cc
    by_value (Some v) s a = cc

-- ---- a list of conditions

free_tag : (s : Shape) (t : Option Tagging) (f : Field) → rule_in s t f ≡ Free → is_of_tag f ≡ true
free_tag s t f = elim f as (λ f. rule_in s t f ≡ Free → is_of_tag f ≡ true) [
  | VlanVid ↦ λ e. refl
  | VlanPcp ↦ λ e. refl
  | EthType ↦ λ e. absurd (type_said s e)
  | IpProto ↦ λ e. absurd (protocol_said s e)
  | f ↦ λ e. absurd (said_or (has_header s (prerequisite_of f)) e)
]

-- something is known of each field of a region, unless it is one of a tag of which nothing is known
pub known_unless_tag : (r : Region) (f : Field) → (r.tagging ≡ None → is_of_tag f ≡ false) → mask_at r.masks f ≡ None → ⊥
known_unless_tag r f no_tag none =
    let untold = unknown_untagged r.shape r.tagging (mask_at r.masks) (value r.known) r.each f none in
    let yes : is_of_tag f ≡ true = free_tag r.shape r.tagging f (unknown_free (ones_of f) (rule_in r.shape r.tagging f) (mask_at r.masks f) (value r.known f) (r.each f) none) in
    let not_so = no_tag untold in
    cc

or_none : (a b : Bool) → (a || b) ≡ false → (a ≡ false) × (b ≡ false)
or_none true b h = absurd cc
or_none false b h = (refl, h)

pub any_at : (P : MatchField → Bool) (xs : List MatchField) (i : ℕ) (d : MatchField) → i < length xs → list_any P xs ≡ false → P (get_or xs i d) ≡ false
any_at P [] i d lt none = absurd (omega (arith, lt))
any_at P (x ∷ xs) zero d lt none = (or_none (P x) (list_any P xs) none).0
any_at P (x ∷ xs) (suc i) d lt none = any_at P xs i d (omega (arith, lt)) (or_none (P x) (list_any P xs) none).1

pub both_true : (a b : Bool) → a ≡ true → b ≡ true → (a && b) ≡ true
both_true true b e f = f
both_true false b e f = absurd cc

pub each_true : (a b : Bool) → (a && b) ≡ true → (a ≡ true) × (b ≡ true)
each_true true b h = (refl, h)
each_true false b h = absurd cc

-- a condition that agrees, as one of all
pub all_at : (P : MatchField → Bool) (xs : List MatchField) (i : ℕ) (d : MatchField) → i < length xs → list_all P xs ≡ true → P (get_or xs i d) ≡ true
all_at P [] i d lt all = absurd (omega (arith, lt))
all_at P (x ∷ xs) zero d lt all = (each_true (P x) (list_all P xs) all).0
all_at P (x ∷ xs) (suc i) d lt all = all_at P xs i d (omega (arith, lt)) (each_true (P x) (list_all P xs) all).1

pub all_before : (P : MatchField → Bool) (xs : List MatchField) (i : ℕ) → list_all P xs ≡ true → list_all P (take i xs) ≡ true
all_before P xs zero all = refl
all_before P [] (suc i) all = refl
all_before P (x ∷ xs) (suc i) all = let e = each_true (P x) (list_all P xs) all in both_true (P x) (list_all P (take i xs)) e.0 (all_before P xs i e.1)

-- ---- regions that are appended

none_of : (x : Region) → Contains [] x → ⊥
none_of x c = absurd (omega (arith, c.1))

one_of : (a x : Region) → Contains (a ∷ []) x → a ≡ x
one_of a x c = elim (Contains-push_cases [] a x c) as (λ w. a ≡ x) [ inl none ↦ absurd (none_of x none) | inr e ↦ e ]

module _ (fields : List MatchField) where
  -- a region whose packets are in another, and the conditions agree with them
  abbrev IsWithin : Region → Region → Type 0
  IsWithin r q = (map : Field → Option ℕ) → InRegion q map → InRegion r map × (matches_map fields map ≡ true)

  in_listed : (r : Region) (old : List Region) (a : Option Region) → IfSome a (IsWithin r) → (map : Field → Option ℕ) → InSome (old ++ region_list a) map → InSome old map ⊎ (InRegion r map × (matches_map fields map ≡ true))
  in_listed r old None within map h = elim (Contains-append_cases old [] h.0 h.1) as (λ w. InSome old map ⊎ (InRegion r map × (matches_map fields map ≡ true))) [ inl x ↦ inl (h.0, x, h.2) | inr x ↦ absurd (none_of h.0 x) ]
  in_listed r old (Some q) within map h = elim (Contains-append_cases old (q ∷ []) h.0 h.1) as (λ w. InSome old map ⊎ (InRegion r map × (matches_map fields map ≡ true))) [
    | inl x ↦ inl (h.0, x, h.2)
    | inr x ↦ inr (within map (subst (λ (y : Region). InRegion y map) (sym (one_of q h.0 x)) h.2))
  ]

  in_left : (old new : List Region) (map : Field → Option ℕ) → InSome old map → InSome (old ++ new) map
  in_left old new map h = (h.0, Contains-append_left old new h.0 h.1, h.2)

  in_right : (old : List Region) (a : Option Region) (map : Field → Option ℕ) → InOneRegion a map → InSome (old ++ region_list a) map
  in_right old None map h = absurd h
  in_right old (Some q) map h = (q, Contains-append_right old (q ∷ []) q (0, omega arith, refl), h)

  pub one_narrowed : (r : Region) (old : List Region) (a : Option Region) → IfSome a (IsWithin r) → ((map : Field → Option ℕ) → InRegion r map → matches_map fields map ≡ true → InOneRegion a map) → IsNarrowedBy fields r old (old ++ region_list a)
  one_narrowed r old a within all = record {
    within = in_listed r old a within;
    kept = λ map h. in_left old (region_list a) map h;
    all = λ map t h m. in_right old a map (all map h m);
  }

  weaker : (r t : Region) (a : Option Region) → ((map : Field → Option ℕ) → InRegion t map → InRegion r map) → IfSome a (IsWithin t) → IfSome a (IsWithin r)
  weaker r t None f h = tt
  weaker r t (Some q) f h = λ map i. (let x = h map i in (f map x.0, x.1))

  pub two_narrowed : (r t u : Region) (old : List Region) (a b : Option Region) → ((map : Field → Option ℕ) → InRegion t map → InRegion r map) → ((map : Field → Option ℕ) → InRegion u map → InRegion r map)
      → ((map : Field → Option ℕ) → IsTagging Tagged map → InRegion r map → InRegion t map) → ((map : Field → Option ℕ) → IsTagging Untagged map → InRegion r map → InRegion u map)
      → IfSome a (IsWithin t) → IfSome b (IsWithin u) → ((map : Field → Option ℕ) → InRegion t map → matches_map fields map ≡ true → InOneRegion a map) → ((map : Field → Option ℕ) → InRegion u map → matches_map fields map ≡ true → InOneRegion b map)
      → IsNarrowedBy fields r old ((old ++ region_list a) ++ region_list b)
  two_narrowed r t u old a b t_in u_in in_t in_u within_a within_b all_a all_b = record {
    within = λ map h. elim (in_listed r (old ++ region_list a) b (weaker r u b u_in within_b) map h) as (λ w. InSome old map ⊎ (InRegion r map × (matches_map fields map ≡ true))) [
      | inl x ↦ in_listed r old a (weaker r t a t_in within_a) map x
      | inr x ↦ inr x
    ];
    kept = λ map h. in_left (old ++ region_list a) (region_list b) map (in_left old (region_list a) map h);
    all = λ map g h m. by_tagging map g.0 g.1 h m;
  }
    where
      by_tagging : (map : Field → Option ℕ) (t : Tagging) → IsTagging t map → InRegion r map → matches_map fields map ≡ true → InSome ((old ++ region_list a) ++ region_list b) map
      by_tagging map Tagged g h m = in_left (old ++ region_list a) (region_list b) map (in_right old a map (all_a map (in_t map g h) m))
      by_tagging map Untagged g h m = in_right (old ++ region_list a) b map (all_b map (in_u map g h) m)

  pub nothing_narrowed : AreNarrowed fields [] []
  nothing_narrowed = record { within = λ map h. absurd (none_of h.0 h.1); all = λ map t h. absurd (none_of h.0 h.1) }

  pub one_more_narrowed : (xs out new : List Region) (r : Region) → AreNarrowed fields xs out → IsNarrowedBy fields r out new → AreNarrowed fields (xs ++ r ∷ []) new
  one_more_narrowed xs out new r are more = record {
    within = λ map h. elim (more.within map h) as (λ w. InSome (xs ++ r ∷ []) map × (matches_map fields map ≡ true)) [
      | inl old ↦ (let x = are.within map old in (in_left xs (r ∷ []) map x.0, x.1))
      | inr here ↦ ((r, Contains-append_right xs (r ∷ []) r (0, omega arith, refl), here.0), here.1)
    ];
    all = λ map t h m. elim (Contains-push_cases xs r h.0 h.1) as (λ w. InSome new map) [
      | inl old ↦ more.kept map (are.all map t (h.0, old, h.2) m)
      | inr same ↦ more.all map t (subst (λ (y : Region). InRegion y map) (sym same) h.2) m
    ];
  }
