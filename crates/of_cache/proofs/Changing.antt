-- The entries and the rows of a cached classifier, changed together.
use Rattle.std.proofs.Common.{◌≡◌, ℕ, ◌-◌, arith, true, length, Bool, not, List, [], ◌∷◌, ◌++◌, take, Option, Some, None, refl, sym, ◌∙◌, ap, subst, inl, inr, ◌⊎◌, ⊎_elim}
use Rattle.std.specs.Prelude.{filter, ◌&&◌, ◌==◌, option_map, Result, Ok, Err, OnOk}
use Rattle.std.{specs.List.Contains, proofs.lemmas.Bool.eqb-true}
use Rattle.lru.proofs.Splits.{Contains-cons, Contains-head, Contains-middle, Contains-nil, Contains-with}
use Rattle.lru.specs.LruCache.{LruCache}
use Rattle.of_layers.specs.declared.field.Field.{Field}
use Rattle.of_headers.specs.{declared.key.FieldKey.FieldKey, FieldMap.value, FieldMap.seen}
use Rattle.of_wire.specs.Numbered.{without, moved_to_end}
use Rattle.of_oxm.specs.{declared.match_field.MatchField.MatchField, declared.masks.FieldMask.FieldMask, NormalForm.IsMatch, Masks.looked_at, Masks.value_of, Masks.mask_at, Masks.Agree}
use Rattle.of_classifier.specs.{declared.Row.Row, Rows.row_number, Rows.made_row, Winner.winner_of, Winner.winner_number, Scanning.pair_of}
use Rattle.of_cache.specs.{declared.region.Region.Region, declared.cause.Cause.TheVariants.Answers, declared.cause.Cause.TheVariants.Added}
use Rattle.of_cache.specs.{Regions.AnsweredRegion, Regions.IsRegion, Regions.meets_seen, Regions.region_of, Kept.IsSoundRegion, Kept.AreSoundRegions, Kept.is_beaten, Kept.not_beaten}
use Rattle.of_cache.specs.{Causes.goes, Causes.staying, Finding.ComesFirst, Finding.IsHit, Finding.NoneHolds, Finding.AreFound, Listed.AreListed}
use Rattle.of_cache.proofs.{Winning.of_filter, Staying.stays_added, Staying.stays_removed, Staying.stays_renewed, Staying.fresh_right, Splitting.of_stored}

abbrev Rows : Type 0
Rows = List AnsweredRegion

pub listed_filter : (masks : List FieldMask) (p : AnsweredRegion → Bool) (rows : List AnsweredRegion) → AreListed masks rows → AreListed masks (filter p rows)
listed_filter masks p rows h row c = h row (of_filter p rows row c).0

-- ---- an entry is removed, renewed or added

pub listed_left : (masks : List FieldMask) (rows new : List AnsweredRegion) (number : ℕ) → new ≡ staying (Answers number) rows → AreListed masks rows → AreListed masks new
listed_left masks rows new number f h = subst (AreListed masks) (sym f) (listed_filter masks (λ row. not (goes (Answers number) row)) rows h)

pub removed : (content after : List Row) (rows new : List AnsweredRegion) (number : ℕ) → after ≡ without row_number number content → new ≡ staying (Answers number) rows → AreSoundRegions content rows → AreSoundRegions after new
removed content after rows new number e f h =
    subst (λ (xs : List Row). AreSoundRegions xs new) (sym e) (subst (λ (es : List AnsweredRegion). AreSoundRegions (without row_number number content) es) (sym f) (stays_removed content rows number h))

pub renewed : (content after : List Row) (rows new : List AnsweredRegion) (number : ℕ) → after ≡ moved_to_end row_number number content → new ≡ staying (Answers number) rows → AreSoundRegions content rows → AreSoundRegions after new
renewed content after rows new number e f h =
    subst (λ (xs : List Row). AreSoundRegions xs new) (sym e) (subst (λ (es : List AnsweredRegion). AreSoundRegions (moved_to_end row_number number content) es) (sym f) (stays_renewed content rows number h))

pub same_staying : (mask : FieldMask) (key : FieldKey) (m : List MatchField) (priority : ℕ) (rows : List AnsweredRegion) → ((f : Field) → mask_at mask f ≡ looked_at m f) → ((f : Field) → value key f ≡ value_of m f) → staying (Added mask key priority) rows ≡ not_beaten m priority rows
same_staying mask key m priority rows e f = λ i. filter (λ row. not (is_beaten priority row.1 && meets_seen (λ g. e g i) (λ g. f g i) row.0)) rows

pub added : (masks : List FieldMask) (content after : List Row) (rows new : List AnsweredRegion) (mask : FieldMask) (key : FieldKey) (number priority : ℕ) (m : List MatchField) → IsMatch m
    → ((f : Field) → mask_at mask f ≡ looked_at m f) → ((f : Field) → value key f ≡ value_of m f) → after ≡ content ++ made_row number priority m ∷ [] → new ≡ staying (Added mask key priority) rows
    → AreSoundRegions content rows × AreListed masks rows → AreSoundRegions after new × AreListed masks new
added masks content after rows new mask key number priority m fine looks asks e f h = (
  subst (λ (xs : List Row). AreSoundRegions xs new) (sym e) (subst (λ (es : List AnsweredRegion). AreSoundRegions (content ++ made_row number priority m ∷ []) es) (sym (f ∙ same_staying mask key m priority rows looks asks)) (stays_added content rows number priority m fine h.0)),
  subst (AreListed masks) (sym f) (listed_filter masks (λ row. not (goes (Added mask key priority) row)) rows h.1),
)

-- ---- there is no row

pub none_listed : (masks : List FieldMask) (rows : List AnsweredRegion) → (length masks == 0) ≡ true → AreListed masks rows → rows ≡ []
none_listed masks [] e h = refl
none_listed masks (row ∷ rows) e h = let listed = h row (Contains-head row rows) in absurd (omega (arith, listed.1, eqb-true (length masks) 0 e))

pub on_ok : {A E P : Type 0} (r : Result A E) → P → OnOk r P
on_ok (Ok x) p = p
on_ok (Err e) p = tt

pub none_right : (content : List Row) (rows : List AnsweredRegion) → rows ≡ [] → AreSoundRegions content rows
none_right content rows e = subst (AreSoundRegions content) (sym e) (record { right = λ row c. absurd (Contains-nil row c); regions = λ row c. absurd (Contains-nil row c) })

-- ---- a look-up

stood_in : (old new : List AnsweredRegion) (key : Field → Option ℕ) → (t : ComesFirst old new key) → Contains old t.row
stood_in old new key t = subst (λ (es : List AnsweredRegion). Contains es t.row) (sym t.stood) (Contains-middle t.before t.row t.after)

pub moved_within : (old new : List AnsweredRegion) (key : Field → Option ℕ) → (t : ComesFirst old new key) → (row : AnsweredRegion) → Contains new row → Contains old row
moved_within old new key t row c =
    subst (λ (es : List AnsweredRegion). Contains es row) (sym t.stood)
    (⊎_elim
    (λ s. subst (λ (r : AnsweredRegion). Contains (t.before ++ t.row ∷ t.after) r) s (Contains-middle t.before t.row t.after))
    (λ d. Contains-with t.before t.row t.after row d)
    (Contains-cons t.row (t.before ++ t.after) row (subst (λ (es : List AnsweredRegion). Contains es row) t.first c)))

pub hit_right : (content : List Row) (old new : List AnsweredRegion) (key : Field → Option ℕ) → ComesFirst old new key → AreSoundRegions content old → AreSoundRegions content new
hit_right content old new key t h = record { right = λ row c. h.right row (moved_within old new key t row c); regions = λ row c. h.regions row (moved_within old new key t row c) }

pub hit_is_winner : (content : List Row) (old new : List AnsweredRegion) (key : Field → Option ℕ) (a : Option (ℕ × ℕ)) → IsHit old new key a → AreSoundRegions content old → a ≡ pair_of (winner_of content key)
hit_is_winner content old new key a t h = sym (h.right t.moved.row (stood_in old new key t.moved) key t.moved.holds ∙ t.answers)

number_of_pair : (w : Option Row) → option_map (λ a. a.0) (pair_of w) ≡ winner_number w
number_of_pair None = refl
number_of_pair (Some r) = refl

pub hit_answers : (content : List Row) (old new : List AnsweredRegion) (key : Field → Option ℕ) (a : Option (ℕ × ℕ)) → IsHit old new key a → AreSoundRegions content old → option_map (λ (x : ℕ × ℕ). x.0) a ≡ winner_number (winner_of content key)
hit_answers content old new key a t h =
    ap (option_map (λ (x : ℕ × ℕ). x.0)) (hit_is_winner content old new key a t h) ∙ number_of_pair (winner_of content key)

pub stored_right : (content : List Row) (old new : LruCache Region (Option (ℕ × ℕ))) (mask : FieldMask) (key : Field → Option ℕ) (masked : FieldKey) (a : Option (ℕ × ℕ)) → AreSoundRegions content old.entries
    → ((map : Field → Option ℕ) → Agree (mask_at mask) map key → winner_of content map ≡ winner_of content key) → ((f : Field) → value masked f ≡ seen (mask_at mask f) (key f)) → a ≡ pair_of (winner_of content key)
    → (new.entries ≡ old.entries) ⊎ (new.entries ≡ (region_of mask masked, a) ∷ take (old.cap - 1) old.entries) → AreSoundRegions content new.entries
stored_right content old new mask key masked a h alike under is e =
    let fresh = fresh_right content mask key masked alike under in
    let sound : IsSoundRegion content (region_of mask masked, a) = subst (λ (o : Option (ℕ × ℕ)). IsSoundRegion content (region_of mask masked, o)) (sym is) fresh.0 in
    record {
      right = λ row c. ⊎_elim (λ d. h.right row d) (λ s. subst (IsSoundRegion content) s sound) (of_stored old new (region_of mask masked) a e row c);
      regions = λ row c. ⊎_elim (λ d. h.regions row d) (λ s. subst (λ (r : AnsweredRegion). IsRegion r.0) s fresh.1) (of_stored old new (region_of mask masked) a e row c);
    }

pub stored_found : (old new : LruCache Region (Option (ℕ × ℕ))) (region : Region) (a : Option (ℕ × ℕ)) (mask key : Field → Option ℕ) → NoneHolds old.entries key → ((f : Field) → mask_at region.mask f ≡ mask f) → ((f : Field) → value region.key f ≡ seen (mask_at region.mask f) (key f))
    → (new.entries ≡ old.entries) ⊎ (new.entries ≡ (region, a) ∷ take (old.cap - 1) old.entries) → AreFound old.entries new.entries old.cap mask key
stored_found old new region a mask key none looks shows e = inr (
  none,
  ⊎_elim (λ s. inl s)
      (λ s. inr (record { row = (region, a); bits = looks; shows = λ f. shows f ∙ ap (λ (o : Option ℕ). seen o (key f)) (looks f); first = s })) e,
)
