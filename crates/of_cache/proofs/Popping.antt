-- Rows that are dropped by their region.
use Rattle.std.proofs.Common.{◌≡◌, ℕ, ◌+◌, ◌<◌, Bool, true, false, cond, not, ◌&&◌, ◌||◌, List, [], ◌∷◌, ◌++◌, length, get_or, take, Option, Some, refl, sym, ◌∙◌, ap, subst, ⊎_elim}
use Rattle.std.specs.{Prelude.filter, Prelude.map, List.Contains, List.AllByRecursion, List.IsDistinct, List.list_any, Option.option_map_or, Map.keys_of, Map.lookup, Map.remove_entry, Bool.Decides}
use Rattle.std.proofs.{lemmas.Map.Keys.IsDistinct-head, lemmas.Map.Keys.IsDistinct-tail, lemmas.List.take_more, lemmas.List.Elements.Contains-get_or}
use Rattle.lru.proofs.Splits.{Contains-head, Contains-tail, Contains-cons, Contains-nil}
use Rattle.of_layers.specs.declared.field.Field.{Field}
use Rattle.of_headers.specs.{declared.key.FieldKey.FieldKey, FieldMap.value, FieldMap.seen}
use Rattle.of_oxm.specs.{declared.masks.FieldMask.FieldMask, Masks.mask_at}
use Rattle.of_cache.specs.Regions.{AnsweredRegion, Holds, IsRegion, IsWithin, meets_seen}
use Rattle.of_cache.specs.{declared.region.Region.Region, Kept.is_beaten, declared.cause.Cause.Cause, Causes.goes, Causes.staying, declared.cause.Cause.TheVariants.Added}
use Rattle.of_cache.{specs.Listed.AreListed, specs.Listed.is_same_region, specs.Listed.is_same_mask, specs.SameRegion.equal_regions, specs.SameRegion.region_itself, proofs.Staying.twice_same}
use Rattle.of_cache.proofs.{Meeting.two_tests, Meeting.met_holds, Meeting.holds_met, Splitting.held_is, Splitting.equal_masks, Splitting.mask_itself, Splitting.or_true}

-- ---- lists that are filtered

pub filter_same : {X : Type 0} (p q : X → Bool) (xs : List X) → ((x : X) → Contains xs x → p x ≡ q x) → filter p xs ≡ filter q xs
filter_same p q [] h = refl
filter_same {X} p q (x ∷ xs) h = ap (λ (b : Bool). cond b (x ∷ filter p xs) (filter p xs)) (h x (Contains-head x xs)) ∙ ap (λ (ys : List X). cond (q x) (x ∷ ys) ys) (filter_same p q xs (λ y c. h y (Contains-tail x xs y c)))

pub filter_all : {X : Type 0} (p : X → Bool) (xs : List X) → ((x : X) → Contains xs x → p x ≡ true) → filter p xs ≡ xs
filter_all p [] h = refl
filter_all {X} p (x ∷ xs) h = ap (λ (b : Bool). cond b (x ∷ filter p xs) (filter p xs)) (h x (Contains-head x xs)) ∙ ap (λ (ys : List X). x ∷ ys) (filter_all p xs (λ y c. h y (Contains-tail x xs y c)))

filter_twice : {X : Type 0} (p q : X → Bool) (xs : List X) → filter p (filter q xs) ≡ filter (λ x. q x && p x) xs
filter_twice p q [] = refl
filter_twice {X} p q (x ∷ xs) = by_test (q x) (filter_twice p q xs)
  where
    by_test : (b : Bool) → filter p (filter q xs) ≡ filter (λ y. q y && p y) xs → filter p (cond b (x ∷ filter q xs) (filter q xs)) ≡ cond (b && p x) (x ∷ filter (λ y. q y && p y) xs) (filter (λ y. q y && p y) xs)
    by_test true later = ap (λ (ys : List X). cond (p x) (x ∷ ys) ys) later
    by_test false later = later

-- ---- the row of a region

-- no other row has the region of the first one
others_differ : {A : Type 0} (region x : Region) (es : List (Region × A)) → is_same_region region x ≡ true → AllByRecursion (λ y. is_same_region x y ≡ false) (keys_of es) → (e : Region × A) → Contains es e → is_same_region region e.0 ≡ false
others_differ {A} region x es same h e c = subst (λ (r : Region). is_same_region r e.0 ≡ false) (sym (equal_regions region x same)) (at es h e c)
  where
    at : (es : List (Region × A)) → AllByRecursion (λ y. is_same_region x y ≡ false) (keys_of es) → (e : Region × A) → Contains es e → is_same_region x e.0 ≡ false
    at [] h e c = absurd (Contains-nil e c)
    at (y ∷ es) h e c = ⊎_elim (λ t. subst (λ (z : Region × A). is_same_region x z.0 ≡ false) t h.0) (λ d. at es h.1 e d) (Contains-cons y es e c)

and_false : (q : Bool) → not (q && false) ≡ true
and_false true = refl
and_false false = refl

-- the first row has the region
first_drops : (q b : Bool) (x : AnsweredRegion) (es fs : List AnsweredRegion) → fs ≡ es → b ≡ q → cond b es (x ∷ es) ≡ cond (not (q && true)) (x ∷ fs) fs
first_drops true true x es fs e h = sym e
first_drops true false x es fs e h = absurd cc
first_drops false true x es fs e h = absurd cc
first_drops false false x es fs e h = ap (λ (ys : List AnsweredRegion). x ∷ ys) (sym e)

-- it has another one
first_stays : (q b : Bool) (x : AnsweredRegion) (es rest fs : List AnsweredRegion) → cond b rest es ≡ fs → cond b (x ∷ rest) (x ∷ es) ≡ cond (not (q && false)) (x ∷ fs) fs
first_stays true true x es rest fs h = ap (λ (ys : List AnsweredRegion). x ∷ ys) h
first_stays true false x es rest fs h = ap (λ (ys : List AnsweredRegion). x ∷ ys) h
first_stays false true x es rest fs h = ap (λ (ys : List AnsweredRegion). x ∷ ys) h
first_stays false false x es rest fs h = ap (λ (ys : List AnsweredRegion). x ∷ ys) h

-- where the row of the region is removed if its answer passes, the others stay
pub dropped : (p : Option (ℕ × ℕ) → Bool) (region : Region) (es : List AnsweredRegion) (b : Bool) → IsDistinct is_same_region (keys_of es) → b ≡ option_map_or p (lookup (is_same_region region) es) false
    → cond b (remove_entry (is_same_region region) es) es ≡ filter (λ e. not (p e.1 && is_same_region region e.0)) es
dropped p region [] true d h = refl
dropped p region [] false d h = refl
dropped p region (x ∷ es) b d h = by_test (is_same_region region x.0) refl h (dropped p region es b (IsDistinct-tail is_same_region x.0 (keys_of es) d))
  where
    by_test : (t : Bool) → is_same_region region x.0 ≡ t → b ≡ option_map_or p (cond t (Some x.1) (lookup (is_same_region region) es)) false
        → (b ≡ option_map_or p (lookup (is_same_region region) es) false → cond b (remove_entry (is_same_region region) es) es ≡ filter (λ e. not (p e.1 && is_same_region region e.0)) es)
        → cond b (cond t es (x ∷ remove_entry (is_same_region region) es)) (x ∷ es) ≡ cond (not (p x.1 && t)) (x ∷ filter (λ e. not (p e.1 && is_same_region region e.0)) es) (filter (λ e. not (p e.1 && is_same_region region e.0)) es)
    by_test true same e later = first_drops (p x.1) b x es (filter (λ e. not (p e.1 && is_same_region region e.0)) es)
        (filter_all (λ e. not (p e.1 && is_same_region region e.0)) es (λ y c. ap (λ (t : Bool). not (p y.1 && t)) (others_differ region x.0 es same (IsDistinct-head is_same_region x.0 (keys_of es) d) y c) ∙ and_false (p y.1))) e
    by_test false other e later = first_stays (p x.1) b x es (remove_entry (is_same_region region) es) (filter (λ e. not (p e.1 && is_same_region region e.0)) es)
        (later e)

-- ---- the masks in turn

-- of a mask that looks at no bit beyond the match, the one region that the match meets is that of its values
pub one_region : (mask : FieldMask) (key : FieldKey) (region row : Region) → IsRegion row → IsWithin region.mask mask → ((f : Field) → value region.key f ≡ seen (mask_at region.mask f) (value key f))
    → is_same_region region row ≡ (is_same_mask region.mask row.mask && meets_seen (mask_at mask) (value key) row)
one_region mask key region row own within shows = two_tests (is_same_region region row) (is_same_mask region.mask row.mask && meets_seen (mask_at mask) (value key) row) (region ≡ row) first other
  where
    first : Decides (is_same_region region row) (region ≡ row)
    first = (equal_regions region row, λ e. subst (λ (r : Region). is_same_region region r ≡ true) e (region_itself region))

    both_of : (a b : Bool) → (a && b) ≡ true → (a ≡ true) × (b ≡ true)
    both_of true b h = (refl, h)
    both_of false b h = absurd cc

    as_both : (a b : Bool) → a ≡ true → b ≡ true → (a && b) ≡ true
    as_both true true p q = refl
    as_both true false p q = absurd cc
    as_both false b p q = absurd cc

    holds : region ≡ row → Holds row (value key)
    holds e f = subst (λ (r : Region). seen (mask_at r.mask f) (value key f) ≡ value r.key f) e (sym (shows f))

    same : (is_same_mask region.mask row.mask && meets_seen (mask_at mask) (value key) row) ≡ true → region ≡ row
    same h =
        let t = both_of (is_same_mask region.mask row.mask) (meets_seen (mask_at mask) (value key) row) h in
        let m : region.mask ≡ row.mask = equal_masks region.mask row.mask t.0 in
        equal_regions region row (held_is row region (value key) (sym m) (met_holds mask key row own (subst (λ (x : FieldMask). IsWithin x mask) m within) t.1) shows)

    alike : region ≡ row → (is_same_mask region.mask row.mask && meets_seen (mask_at mask) (value key) row) ≡ true
    alike e = as_both (is_same_mask region.mask row.mask) (meets_seen (mask_at mask) (value key) row)
        (subst (λ (r : Region). is_same_mask region.mask r.mask ≡ true) e (mask_itself region.mask))
        (holds_met mask key row own (subst (λ (r : Region). IsWithin r.mask mask) e within) (holds e))

    other : Decides (is_same_mask region.mask row.mask && meets_seen (mask_at mask) (value key) row) (region ≡ row)
    other = (same, alike)

-- the row goes, and its mask is one of these
abbrev pub goes_by : (mask : FieldMask) (key : FieldKey) (priority : ℕ) → List FieldMask → AnsweredRegion → Bool
goes_by mask key priority masks row = (is_beaten priority row.1 && meets_seen (mask_at mask) (value key) row.0) && list_any (λ m. is_same_mask m row.0.mask) masks

turned_off : (b e : Bool) → not ((b && e) && false) ≡ true
turned_off true true = refl
turned_off true false = refl
turned_off false e = refl

pub none_by : (mask : FieldMask) (key : FieldKey) (priority : ℕ) (rows : List AnsweredRegion) → rows ≡ filter (λ row. not (goes_by mask key priority [] row)) rows
none_by mask key priority rows = sym (filter_all (λ row. not (goes_by mask key priority [] row)) rows (λ row c. turned_off (is_beaten priority row.1) (meets_seen (mask_at mask) (value key) row.0)))

tests_join : (b e l s : Bool) → (not ((b && e) && l) && not (b && (s && e))) ≡ not ((b && e) && (l || s))
tests_join false e l s = refl
tests_join true false l true = refl
tests_join true false l false = refl
tests_join true true true s = refl
tests_join true true false true = refl
tests_join true true false false = refl

any-push : (masks : List FieldMask) (m x : FieldMask) → list_any (λ y. is_same_mask y x) (masks ++ m ∷ []) ≡ (list_any (λ y. is_same_mask y x) masks || is_same_mask m x)
any-push [] m x = or_false (is_same_mask m x)
  where
    or_false : (a : Bool) → (a || false) ≡ a
    or_false true = refl
    or_false false = refl
any-push (y ∷ masks) m x = ap (λ (b : Bool). is_same_mask y x || b) (any-push masks m x) ∙ or_assoc (is_same_mask y x) (list_any (λ z. is_same_mask z x) masks) (is_same_mask m x)
  where
    or_assoc : (a b c : Bool) → (a || (b || c)) ≡ ((a || b) || c)
    or_assoc true b c = refl
    or_assoc false b c = refl

and_true : (a : Bool) → (a && true) ≡ a
and_true true = refl
and_true false = refl

-- the row of the region of a match's values goes where its answer is beaten
won_by : (mask : FieldMask) (key : FieldKey) (priority : ℕ) (region : Region) (rows : List AnsweredRegion) → IsWithin region.mask mask → ((f : Field) → value region.key f ≡ seen (mask_at region.mask f) (value key f))
    → filter (λ row. not (goes (Added mask key priority) (region, row.1) && is_same_region region row.0)) rows ≡ filter (λ row. not (is_beaten priority row.1 && is_same_region region row.0)) rows
won_by mask key priority region rows within shows =
    ap (λ (t : Bool). filter (λ row. not ((is_beaten priority row.1 && t) && is_same_region region row.0)) rows) met
    ∙ filter_same (λ row. not ((is_beaten priority row.1 && true) && is_same_region region row.0)) (λ row. not (is_beaten priority row.1 && is_same_region region row.0)) rows
    (λ row c. ap (λ (t : Bool). not (t && is_same_region region row.0)) (and_true (is_beaten priority row.1)))
  where
    met : meets_seen (mask_at mask) (value key) region ≡ true
    met = holds_met mask key region (λ f. twice_same (mask_at region.mask f) (value region.key f) (value key f) (shows f)) within (λ f. sym (shows f))

pub more_by : (mask : FieldMask) (key : FieldKey) (priority i : ℕ) (masks : List FieldMask) (m : FieldMask) (region : Region) (old now new : List AnsweredRegion)
    → i < length masks → m ≡ get_or masks i m → region.mask ≡ m → ((f : Field) → value region.key f ≡ seen (mask_at region.mask f) (value key f)) → IsWithin region.mask mask
    → ((row : AnsweredRegion) → Contains old row → IsRegion row.0) → now ≡ filter (λ row. not (goes_by mask key priority (take i masks) row)) old
    → new ≡ filter (λ row. not (goes (Added mask key priority) (region, row.1) && is_same_region region row.0)) now → new ≡ filter (λ row. not (goes_by mask key priority (take (i + 1) masks) row)) old
more_by mask key priority i masks m region old now new lt at is shows within regions before then =
    then ∙ won_by mask key priority region now within shows
    ∙ ap (λ (es : List AnsweredRegion). filter (λ row. not (is_beaten priority row.1 && is_same_region region row.0)) es) before
    ∙ filter_twice (λ row. not (is_beaten priority row.1 && is_same_region region row.0)) (λ row. not (goes_by mask key priority (take i masks) row)) old
    ∙ filter_same (λ row. not (goes_by mask key priority (take i masks) row) && not (is_beaten priority row.1 && is_same_region region row.0)) (λ row. not (goes_by mask key priority (take (i + 1) masks) row)) old each
  where
    any_more : (x : FieldMask) → list_any (λ y. is_same_mask y x) (take (i + 1) masks) ≡ (list_any (λ y. is_same_mask y x) (take i masks) || is_same_mask region.mask x)
    any_more x =
        ap (λ (ms : List FieldMask). list_any (λ y. is_same_mask y x) ms) (take_more masks i m lt ∙ ap (λ (y : FieldMask). take i masks ++ y ∷ []) (sym at ∙ sym is))
        ∙ any-push (take i masks) region.mask x

    each : (row : AnsweredRegion) → Contains old row → (not (goes_by mask key priority (take i masks) row) && not (is_beaten priority row.1 && is_same_region region row.0)) ≡ not (goes_by mask key priority (take (i + 1) masks) row)
    each row c =
        let b = is_beaten priority row.1 in
        let e = meets_seen (mask_at mask) (value key) row.0 in
        let l = list_any (λ y. is_same_mask y row.0.mask) (take i masks) in
        let s = is_same_mask region.mask row.0.mask in
        ap (λ (t : Bool). not ((b && e) && l) && not (b && t)) (one_region mask key region row.0 (regions row c) within shows)
        ∙ tests_join b e l s
        ∙ sym (ap (λ (t : Bool). not ((b && e) && t)) (any_more row.0.mask))

there_any : (masks : List FieldMask) (m : FieldMask) → Contains masks m → list_any (λ y. is_same_mask y m) masks ≡ true
there_any [] m c = absurd (Contains-nil m c)
there_any (x ∷ masks) m c = ⊎_elim
    (λ s. (let t : is_same_mask x m ≡ true = subst (λ (y : FieldMask). is_same_mask y m ≡ true) (sym s) (mask_itself m) in rw t refl))
    (λ d. rw (there_any masks m d) (or_true (is_same_mask x m)))
    (Contains-cons x masks m c)

pub all_by : (mask : FieldMask) (key : FieldKey) (priority : ℕ) (masks all : List FieldMask) (old new : List AnsweredRegion) → all ≡ masks → AreListed masks old
    → new ≡ filter (λ row. not (goes_by mask key priority all row)) old → new ≡ filter (λ row. not (is_beaten priority row.1 && meets_seen (mask_at mask) (value key) row.0)) old
all_by mask key priority masks all old new whole listed h =
    h ∙ filter_same (λ row. not (goes_by mask key priority all row)) (λ row. not (is_beaten priority row.1 && meets_seen (mask_at mask) (value key) row.0)) old
    (λ row c. ap (λ (t : Bool). not ((is_beaten priority row.1 && meets_seen (mask_at mask) (value key) row.0) && t)) (ap (λ (ms : List FieldMask). list_any (λ y. is_same_mask y row.0.mask) ms) whole ∙ there_any masks row.0.mask (listed row c))
    ∙ ap not (and_true (is_beaten priority row.1 && meets_seen (mask_at mask) (value key) row.0)))

-- ---- each of the masks

pub at_place : (masks : List FieldMask) (i : ℕ) (m : FieldMask) → i < length masks → m ≡ get_or masks i m → Contains masks m
at_place masks i m lt is = subst (λ (x : FieldMask). Contains masks x) (sym is) (Contains-get_or masks i m lt)

-- ---- a row that goes

-- where a row that goes is dropped by its region, the rows that stay are the same
pub same_staying_without : (cause : Cause) (region : Region) (old new : List AnsweredRegion) → new ≡ filter (λ row. not (goes cause (region, row.1) && is_same_region region row.0)) old → staying cause new ≡ staying cause old
same_staying_without cause region old new h =
    ap (λ (rows : List AnsweredRegion). filter (λ row. not (goes cause row)) rows) h
    ∙ filter_twice (λ row. not (goes cause row)) (λ row. not (goes cause (region, row.1) && is_same_region region row.0)) old
    ∙ filter_same (λ row. not (goes cause (region, row.1) && is_same_region region row.0) && not (goes cause row)) (λ row. not (goes cause row)) old (λ row c. by_test row (is_same_region region row.0) refl)
  where
    drops : (q : Bool) → (not (q && true) && not q) ≡ not q
    drops true = refl
    drops false = refl

    keeps : (p q : Bool) → (not (p && false) && not q) ≡ not q
    keeps true q = refl
    keeps false q = refl

    by_test : (row : AnsweredRegion) → (s : Bool) → is_same_region region row.0 ≡ s → (not (goes cause (region, row.1) && s) && not (goes cause row)) ≡ not (goes cause row)
    by_test row true e = ap (λ (r : Region). not (goes cause (r, row.1) && true) && not (goes cause row)) (equal_regions region row.0 e) ∙ drops (goes cause row)
    by_test row false e = keeps (goes cause (region, row.1)) (goes cause row)

-- none of those before goes, nor does one more
pub none_more_goes : {X Y : Type 0} (p : X → Bool) (f : Y → X) (ys : List Y) (y : Y) → list_any p (map f ys) ≡ false → p (f y) ≡ false → list_any p (map f (ys ++ y ∷ [])) ≡ false
none_more_goes p f [] y h e = rw e refl
none_more_goes p f (z ∷ ys) y h e = by_test (p (f z)) h (λ g. none_more_goes p f ys y g e)
  where
    by_test : (b : Bool) → (b || list_any p (map f ys)) ≡ false → (list_any p (map f ys) ≡ false → list_any p (map f (ys ++ y ∷ [])) ≡ false) → (b || list_any p (map f (ys ++ y ∷ []))) ≡ false
    by_test true g later = absurd cc
    by_test false g later = later g
