-- The list of the masks of the rows, where rows change.
use Rattle.std.proofs.Common.{◌≡◌, ℕ, suc, zero, ◌-◌, ◌<◌, ◌≤◌, Bool, true, false, cond, List, [], ◌∷◌, ◌++◌, length, take, slice_get, Option, Some, None, refl, sym, ◌∙◌, ap, subst, inl, inr, ◌⊎◌, ⊎_elim, arith}
use Rattle.std.specs.Prelude.{filter, ◌||◌, Result, Ok, Err, OnOk, IfOk}
use Rattle.std.specs.{Option.option_map_or, Map.lookup, List.Contains, List.IsDistinct, List.AllByRecursion, List.list_any, Cmp.IsEquivalence, Cmp.both_ways}
use Rattle.std.proofs.lemmas.List.Elements.{Contains-append_left, Contains-push_cases}
use Rattle.std.proofs.lemmas.Map.Keys.{IsDistinct-push, IsDistinct-head, IsDistinct-tail, IsDistinct-cons}
use Rattle.lru.specs.LruCache.{LruCache, IsValid, displaced, lru_cache, put_entries}
use Rattle.lru.proofs.Splits.{Contains-cons, Contains-head, Contains-tail, Contains-nil, Contains-middle, Contains-without}
use Rattle.of_layers.specs.declared.field.Field.{Field}
use Rattle.of_oxm.specs.declared.masks.FieldMask.{FieldMask}
use Rattle.of_cache.specs.Listed.{AreListed, AreMasks, has_row_with_mask, is_same_mask, is_same_region, with_mask}
use Rattle.of_cache.proofs.Splitting.{equal_masks, any_there, mask_itself, put_first, some_has, used_listed}
use Rattle.of_cache.{specs.declared.region.Region.Region, specs.Regions.AnsweredRegion, specs.Finding.ComesFirst, proofs.Winning.of_filter, proofs.Changing.moved_within}

-- ---- masks that are the same

turned : (a b : FieldMask) → is_same_mask a b ≡ true → is_same_mask b a ≡ true
turned a b e = subst (λ (m : FieldMask). is_same_mask m a ≡ true) (equal_masks a b e) (mask_itself a)

symmetric : (a b : FieldMask) → is_same_mask a b ≡ is_same_mask b a
symmetric a b = both_ways (is_same_mask a b) (is_same_mask b a) (turned a b) (turned b a)

equivalence : IsEquivalence is_same_mask
equivalence = record {
  refl = mask_itself;
  symm = symmetric;
  congr = λ x y z e. ap (λ (m : FieldMask). is_same_mask m z) (equal_masks x y e);
}

-- ---- a mask that is listed

any_turned : (m : FieldMask) (ms : List FieldMask) → list_any (is_same_mask m) ms ≡ list_any (λ other. is_same_mask other m) ms
any_turned m [] = refl
any_turned m (x ∷ ms) = ap (λ (b : Bool). b || list_any (is_same_mask m) ms) (symmetric m x) ∙ ap (λ (b : Bool). is_same_mask x m || b) (any_turned m ms)

pub with_kept : (m : FieldMask) (ms : List FieldMask) (x : FieldMask) → Contains ms x → Contains (with_mask m ms) x
with_kept m ms x c = by_test (list_any (λ other. is_same_mask other m) ms)
  where
    by_test : (b : Bool) → Contains (cond b ms (ms ++ m ∷ [])) x
    by_test true = c
    by_test false = Contains-append_left ms (m ∷ []) x c

pub with_there : (m : FieldMask) (ms : List FieldMask) → Contains (with_mask m ms) m
with_there m ms = by_test (list_any (λ other. is_same_mask other m) ms) refl
  where
    by_test : (b : Bool) → list_any (λ other. is_same_mask other m) ms ≡ b → Contains (cond b ms (ms ++ m ∷ [])) m
    by_test true e = any_there m ms e
    by_test false e = Contains-middle ms m []

pub with_cases : (m : FieldMask) (ms : List FieldMask) (x : FieldMask) → Contains (with_mask m ms) x → Contains ms x ⊎ (m ≡ x)
with_cases m ms x c = by_test (list_any (λ other. is_same_mask other m) ms) c
  where
    by_test : (b : Bool) → Contains (cond b ms (ms ++ m ∷ [])) x → Contains ms x ⊎ (m ≡ x)
    by_test true d = inl d
    by_test false d = Contains-push_cases ms m x d

pub with_once : (m : FieldMask) (ms : List FieldMask) → IsDistinct is_same_mask ms → IsDistinct is_same_mask (with_mask m ms)
with_once m ms d = by_test (list_any (λ other. is_same_mask other m) ms) refl
  where
    by_test : (b : Bool) → list_any (λ other. is_same_mask other m) ms ≡ b → IsDistinct is_same_mask (cond b ms (ms ++ m ∷ []))
    by_test true e = d
    by_test false e = IsDistinct-push equivalence ms m d (any_turned m ms ∙ e)

-- ---- masks that no row has are dropped

all_filter : (p : FieldMask → Bool) (P : FieldMask → Type 0) (ms : List FieldMask) → AllByRecursion P ms → AllByRecursion P (filter p ms)
all_filter p P [] h = tt
all_filter p P (m ∷ ms) h = by_test (p m) (all_filter p P ms h.1)
  where
    by_test : (b : Bool) → AllByRecursion P (filter p ms) → AllByRecursion P (cond b (m ∷ filter p ms) (filter p ms))
    by_test true later = (h.0, later)
    by_test false later = later

distinct_filter : (p : FieldMask → Bool) (ms : List FieldMask) → IsDistinct is_same_mask ms → IsDistinct is_same_mask (filter p ms)
distinct_filter p [] d = d
distinct_filter p (m ∷ ms) d = by_test (p m) (distinct_filter p ms (IsDistinct-tail is_same_mask m ms d))
  where
    by_test : (b : Bool) → IsDistinct is_same_mask (filter p ms) → IsDistinct is_same_mask (cond b (m ∷ filter p ms) (filter p ms))
    by_test true later = IsDistinct-cons is_same_mask m (filter p ms) (all_filter p (λ y. is_same_mask m y ≡ false) ms (IsDistinct-head is_same_mask m ms d)) later
    by_test false later = later

pub masks_left : (masks : List FieldMask) (rows : List AnsweredRegion) → AreListed masks rows → IsDistinct is_same_mask masks → AreMasks (filter (has_row_with_mask rows) masks) rows
masks_left masks rows listed once = record {
  listed = used_listed masks (filter (has_row_with_mask rows) masks) rows refl listed;
  used = λ m c. (of_filter (has_row_with_mask rows) masks m c).1;
  once = distinct_filter (has_row_with_mask rows) masks once;
}

-- ---- rows that stay

record Having (rows : List AnsweredRegion) (m : FieldMask) : Type 0 where
  row : AnsweredRegion
  is_there : Contains rows row
  mask_is : row.0.mask ≡ m

having : (rows : List AnsweredRegion) (m : FieldMask) → has_row_with_mask rows m ≡ true → Having rows m
having [] m h = absurd cc
having (row ∷ rows) m h = by_test (is_same_mask row.0.mask m) refl h (having rows m)
  where
    by_test : (b : Bool) → is_same_mask row.0.mask m ≡ b → (b || has_row_with_mask rows m) ≡ true → (has_row_with_mask rows m ≡ true → Having rows m) → Having (row ∷ rows) m
    by_test true e h later = record { row = row; is_there = Contains-head row rows; mask_is = equal_masks row.0.mask m e }
    by_test false e h later = let t = later h in record { row = t.row; is_there = Contains-tail row rows t.row t.is_there; mask_is = t.mask_is }

has_by : (rows : List AnsweredRegion) (row : AnsweredRegion) (m : FieldMask) → Contains rows row → row.0.mask ≡ m → has_row_with_mask rows m ≡ true
has_by rows row m c e = subst (λ (x : FieldMask). has_row_with_mask rows x ≡ true) e (some_has rows row c)

-- a row comes first
moved_still : (old new : List AnsweredRegion) (key : Field → Option ℕ) → (t : ComesFirst old new key) → (row : AnsweredRegion) → Contains old row → Contains new row
moved_still old new key t row c =
    subst (λ (es : List AnsweredRegion). Contains es row) (sym t.first)
    (⊎_elim
    (λ s. subst (λ (r : AnsweredRegion). Contains (t.row ∷ (t.before ++ t.after)) r) s (Contains-head t.row (t.before ++ t.after)))
    (λ d. Contains-tail t.row (t.before ++ t.after) row d)
    (Contains-without t.before t.row t.after row (subst (λ (es : List AnsweredRegion). Contains es row) t.stood c)))

pub masks_moved : (masks : List FieldMask) (old new : List AnsweredRegion) (key : Field → Option ℕ) → ComesFirst old new key → AreMasks masks old → AreMasks masks new
masks_moved masks old new key t h = record {
  listed = λ row c. h.listed row (moved_within old new key t row c);
  used = λ m c. (let found = having old m (h.used m c) in has_by new found.row m (moved_still old new key t found.row found.is_there) found.mask_is);
  once = h.once;
}

-- ---- a row is put first

taken : (n : ℕ) (rows : List AnsweredRegion) (row : AnsweredRegion) → length rows ≤ suc n → Contains rows row → Contains (take n rows) row ⊎ (slice_get rows n ≡ Some row)
taken n [] row short c = absurd (Contains-nil row c)
taken zero (x ∷ []) row short c = ⊎_elim (λ s. inr (ap Some s)) (λ d. absurd (Contains-nil row d)) (Contains-cons x [] row c)
taken zero (x ∷ (y ∷ rows)) row short c = absurd (omega arith)
taken (suc n) (x ∷ rows) row short c = ⊎_elim
    (λ s. inl (subst (λ (r : AnsweredRegion). Contains (x ∷ take n rows) r) s (Contains-head x (take n rows))))
    (λ d. ⊎_elim (λ k. inl (Contains-tail x (take n rows) row k)) (λ k. inr k) (taken n rows row (omega arith) d))
    (Contains-cons x rows row c)

-- the last row went, if there was no room for one more; its mask is still that of a row
abbrev pub StillHad : Option AnsweredRegion → List AnsweredRegion → Type 0
StillHad None rows = Unit {0}
StillHad (Some gone) rows = has_row_with_mask rows gone.0.mask ≡ true

pub used_pushed : (old new : List AnsweredRegion) (cap : ℕ) (region : Region) (a : Option (ℕ × ℕ)) → length old ≤ cap → 0 < cap → new ≡ (region, a) ∷ take (cap - 1) old → StillHad (slice_get old (cap - 1)) new
    → (m : FieldMask) → (has_row_with_mask old m ≡ true) ⊎ (region.mask ≡ m) → has_row_with_mask new m ≡ true
used_pushed old new cap region a short some is still m (inr same) = has_by new (region, a) m (subst (λ (es : List AnsweredRegion). Contains es (region, a)) (sym is) (Contains-head (region, a) (take (cap - 1) old))) same
used_pushed old new cap region a short some is still m (inl had) =
    let found = having old m had in
    ⊎_elim
    (λ d. has_by new found.row m (subst (λ (es : List AnsweredRegion). Contains es found.row) (sym is) (Contains-tail (region, a) (take (cap - 1) old) found.row d)) found.mask_is)
    (λ e. subst (λ (x : FieldMask). has_row_with_mask new x ≡ true) found.mask_is (subst (λ (o : Option AnsweredRegion). StillHad o new) e still))
    (taken (cap - 1) old found.row (omega arith) found.is_there)

abbrev Cache : Type 0
Cache = LruCache Region (Option (ℕ × ℕ))

displaced_last : (old : Cache) (region : Region) (a : Option (ℕ × ℕ)) → lookup (is_same_region region) old.entries ≡ None → displaced is_same_region old region a ≡ slice_get old.entries (old.cap - 1)
displaced_last old region a none = ap (λ (o : Option (Option (ℕ × ℕ))). option_map_or (λ x. Some (region, x)) o (slice_get old.entries (old.cap - 1))) none

pub used_after : {E : Type 0} (r : Result (Option AnsweredRegion) E) (old new : Cache) (region : Region) (a : Option (ℕ × ℕ)) → lookup (is_same_region region) old.entries ≡ None → IsValid is_same_region old
    → OnOk r (new ≡ lru_cache (put_entries is_same_region old region a) old.cap) → IfOk r (λ o. o ≡ displaced is_same_region old region a) → (pushed_out : Option AnsweredRegion) → r ≡ Ok pushed_out → StillHad pushed_out new.entries
    → (m : FieldMask) → (has_row_with_mask old.entries m ≡ true) ⊎ (region.mask ≡ m) → has_row_with_mask new.entries m ≡ true
used_after (Ok o) old new region a none valid put out pushed_out is still =
    let same : o ≡ pushed_out = cc in
    let last : pushed_out ≡ slice_get old.entries (old.cap - 1) = sym same ∙ out ∙ displaced_last old region a none in
    used_pushed old.entries new.entries old.cap region a valid.1 valid.2 (ap (λ (c : Cache). c.entries) put ∙ put_first old region a none) (subst (λ (x : Option AnsweredRegion). StillHad x new.entries) last still)
used_after (Err e) old new region a none valid put out pushed_out is still = absurd cc

-- a new row whose mask is listed
pub masks_stored : (masks : List FieldMask) (old new : List AnsweredRegion) (m : FieldMask) → AreMasks masks old → AreListed (with_mask m masks) new
    → ((x : FieldMask) → (has_row_with_mask old x ≡ true) ⊎ (m ≡ x) → has_row_with_mask new x ≡ true) → AreMasks (with_mask m masks) new
masks_stored masks old new m h listed used = record {
  listed = listed;
  used = λ x c. used x (⊎_elim (λ d. inl (h.used x d)) (λ s. inr s) (with_cases m masks x c));
  once = with_once m masks h.once;
}

-- ---- there is no row

no_masks : AreMasks [] []
unfolding IsDistinct
no_masks = record { listed = λ row c. absurd (Contains-nil row c); used = λ m c. absurd (Contains-nil m c); once = tt }

pub no_masks_of : (masks : List FieldMask) (rows : List AnsweredRegion) → masks ≡ [] → rows ≡ [] → AreMasks masks rows
no_masks_of masks rows e f = subst (λ (ms : List FieldMask). AreMasks ms rows) (sym e) (subst (AreMasks []) (sym f) no_masks)
