-- The row of a region among the rows, and look-ups that find none.
use Rattle.std.proofs.Common.{◌≡◌, ℕ, ◌+◌, ◌-◌, ◌<◌, Bool, true, false, cond, List, [], ◌∷◌, ◌++◌, length, get_or, take, Option, Some, None, refl, sym, ◌∙◌, ap, subst, inl, inr, slice_get, ◌⊎◌, ⊎_elim}
use Rattle.std.specs.Prelude.{unwrap_or, Result, Ok, Err, OnOk, OnErr, ◌||◌, filter}
use Rattle.std.{specs.List.Contains, specs.List.list_any, specs.Option.option_map_or, specs.Map.lookup, specs.Map.lookup_entry, specs.Map.remove_entry, proofs.lemmas.List.take_more}
use Rattle.std.proofs.lemmas.List.Elements.{Contains-push_cases}
use Rattle.lru.proofs.Splits.{Contains-cons, Contains-head, Contains-tail, Contains-nil, Contains-middle}
use Rattle.lru.{specs.LruCache.LruCache, specs.LruCache.lru_cache, specs.LruCache.promoted, specs.LruCache.put_entries, proofs.CallerLemmas.Contains-take}
use Rattle.of_layers.specs.declared.field.Field.{Field}
use Rattle.of_headers.{specs.FieldMap.value, specs.FieldMap.seen, proofs.SameFields.same_key, proofs.SameFields.equal_keys, proofs.SameFields.key_itself}
use Rattle.of_oxm.specs.contracts.masks.FieldMaskPartialEq.TheImpl as the_mask
use Rattle.of_oxm.specs.{declared.masks.FieldMask.FieldMask, Masks.mask_at}
use Rattle.of_cache.specs.{declared.region.Region.Region, Regions.AnsweredRegion, Regions.Holds, Finding.IsHit, Finding.NoneHolds, Listed.is_same_region, Listed.is_same_mask, Listed.AreListed}
use Rattle.of_cache.specs.SameRegion.{equal_regions, region_itself}

-- ---- found

record IsSplit {A : Type 0} (test : Region → Bool) (es : List (Region × A)) (a : A) : Type 0 where
  row : Region × A
  before : List (Region × A)
  after : List (Region × A)
  stood : es ≡ before ++ row ∷ after
  passes : test row.0 ≡ true
  answers : row.1 ≡ a
  found : lookup_entry test es ≡ Some row
  rest : remove_entry test es ≡ before ++ after

split_at : {A : Type 0} (test : Region → Bool) (es : List (Region × A)) (a : A) → lookup test es ≡ Some a → IsSplit test es a
split_at test [] a h = absurd cc
split_at {A} test (x ∷ es) a h = by_test (test x.0) refl h (split_at test es a)
  where
    by_test : (b : Bool) → test x.0 ≡ b → cond b (Some x.1) (lookup test es) ≡ Some a → (lookup test es ≡ Some a → IsSplit test es a) → IsSplit test (x ∷ es) a
    by_test true e h later = record { row = x; before = []; after = es; stood = refl; passes = e; answers = (let s : x.1 ≡ a = cc in s); found = rw e refl; rest = rw e refl }
    by_test false e h later =
        let t = later h in
        record { row = t.row; before = x ∷ t.before; after = t.after; stood = ap (λ (ys : List (Region × A)). x ∷ ys) t.stood; passes = t.passes; answers = t.answers; found = rw e t.found; rest = rw e (ap (λ (ys : List (Region × A)). x ∷ ys) t.rest) }

promoted_split : {A : Type 0} (test : Region → Bool) (es : List (Region × A)) (a : A) (t : IsSplit test es a) → promoted test es ≡ t.row ∷ (t.before ++ t.after)
promoted_split {A} test es a t = ap (λ (o : Option (Region × A)). option_map_or (λ f. f ∷ remove_entry test es) o es) t.found ∙ ap (λ (ys : List (Region × A)). t.row ∷ ys) t.rest

pub hit : (old new : LruCache Region (Option (ℕ × ℕ))) (region : Region) (key : Field → Option ℕ) (a : Option (ℕ × ℕ)) → Some a ≡ lookup (is_same_region region) old.entries → new ≡ lru_cache (promoted (is_same_region region) old.entries) old.cap
    → ((f : Field) → value region.key f ≡ seen (mask_at region.mask f) (key f)) → IsHit old.entries new.entries key a
hit old new region key a h is shows =
    let t = split_at (is_same_region region) old.entries a (sym h) in
    record {
      moved = record {
        row = t.row;
        before = t.before;
        after = t.after;
        stood = t.stood;
        holds = subst (λ (r : Region). Holds r key) (equal_regions region t.row.0 t.passes) (λ f. sym (shows f));
        first = ap (λ (c : LruCache Region (Option (ℕ × ℕ))). c.entries) is ∙ promoted_split (is_same_region region) old.entries a t;
      };
      answers = t.answers;
    }

-- ---- not found

lookup_entry-none : {A : Type 0} (test : Region → Bool) (es : List (Region × A)) → lookup test es ≡ None → lookup_entry test es ≡ None
lookup_entry-none test [] h = refl
lookup_entry-none test (x ∷ es) h = by_test (test x.0) h (lookup_entry-none test es)
  where
    by_test : (b : Bool) → cond b (Some x.1) (lookup test es) ≡ None → (lookup test es ≡ None → lookup_entry test es ≡ None) → cond b (Some x) (lookup_entry test es) ≡ None
    by_test true h later = absurd cc
    by_test false h later = later h

pub untouched : (old new : LruCache Region (Option (ℕ × ℕ))) (region : Region) → None ≡ lookup (is_same_region region) old.entries → new ≡ lru_cache (promoted (is_same_region region) old.entries) old.cap → new ≡ old
untouched old new region h is =
    is ∙ ap (λ (o : Option AnsweredRegion). lru_cache (option_map_or (λ f. f ∷ remove_entry (is_same_region region) old.entries) o old.entries) old.cap) (lookup_entry-none (is_same_region region) old.entries (sym h))

not_there : {A : Type 0} (test : Region → Bool) (es : List (Region × A)) → lookup test es ≡ None → (row : Region × A) → Contains es row → test row.0 ≡ true → ⊥
not_there test [] h row c t = Contains-nil row c
not_there {A} test (x ∷ es) h row c t = by_test (test x.0) refl h (λ g d. not_there test es g row d t) (Contains-cons x es row c)
  where
    by_test : (b : Bool) → test x.0 ≡ b → cond b (Some x.1) (lookup test es) ≡ None → (lookup test es ≡ None → Contains es row → ⊥) → (x ≡ row) ⊎ Contains es row → ⊥
    by_test true e h later w = let f : Some x.1 ≡ None = h in cc
    by_test false e h later (inl s) = let g : true ≡ false = sym t ∙ ap (λ (y : Region × A). test y.0) (sym s) ∙ e in cc
    by_test false e h later (inr d) = later h d

-- a row that holds the key is the one of its mask and of the key under it
pub held_is : (row region : Region) (key : Field → Option ℕ) → row.mask ≡ region.mask → Holds row key → ((f : Field) → value region.key f ≡ seen (mask_at region.mask f) (key f)) → is_same_region region row ≡ true
held_is row region key mask holds shows =
    let keys : region.key ≡ row.key = same_key region.key row.key (λ f. shows f ∙ ap (λ (m : FieldMask). seen (mask_at m f) (key f)) (sym mask) ∙ holds f) in
    let same : region ≡ row = (let back : region.mask ≡ row.mask = sym mask in λ i. record { key = keys i; mask = back i }) in
    subst (λ (r : Region). is_same_region region r ≡ true) same (region_itself region)

-- no row of these masks holds the key
pub record NoneUnder (masks : List FieldMask) (rows : List AnsweredRegion) (key : Field → Option ℕ) : Type 0 where
  pub none : (row : AnsweredRegion) → Contains rows row → Contains masks row.0.mask → Holds row.0 key → ⊥

pub none_at_first : (masks : List FieldMask) (rows : List AnsweredRegion) (key : Field → Option ℕ) → NoneUnder (take 0 masks) rows key
none_at_first masks rows key = record { none = λ row c m h. Contains-nil row.0.mask m }

pub none_more : (masks : List FieldMask) (rows : List AnsweredRegion) (key : Field → Option ℕ) (i : ℕ) (m : FieldMask) (region : Region) → i < length masks → m ≡ get_or masks i m → region.mask ≡ m
    → ((f : Field) → value region.key f ≡ seen (mask_at region.mask f) (key f)) → None ≡ lookup (is_same_region region) rows → NoneUnder (take i masks) rows key → NoneUnder (take (i + 1) masks) rows key
none_more masks rows key i m region lt at mask shows h before = record {
  none = λ row c d holds.
      ⊎_elim (λ a. before.none row c a holds)
      (λ b. not_there (is_same_region region) rows (sym h) row c (held_is row.0 region key (sym b ∙ sym at ∙ sym mask) holds shows))
      (Contains-push_cases (take i masks) (get_or masks i m) row.0.mask (subst (λ (ms : List FieldMask). Contains ms row.0.mask) (take_more masks i m lt) d));
}

pub none_holds : (masks all : List FieldMask) (rows : List AnsweredRegion) (key : Field → Option ℕ) → masks ≡ all → AreListed all rows → NoneUnder masks rows key → NoneHolds rows key
none_holds masks all rows key e listed n row c h = n.none row c (subst (λ (ms : List FieldMask). Contains ms row.0.mask) (sym e) (listed row c)) h

-- ---- a new row

pub put_first : (old : LruCache Region (Option (ℕ × ℕ))) (region : Region) (a : Option (ℕ × ℕ)) → lookup (is_same_region region) old.entries ≡ None → put_entries is_same_region old region a ≡ (region, a) ∷ take (old.cap - 1) old.entries
put_first old region a h = ap (λ (o : Option AnsweredRegion). option_map_or (λ e. (e.0, a) ∷ remove_entry (is_same_region region) old.entries) o ((region, a) ∷ take (old.cap - 1) old.entries)) (lookup_entry-none (is_same_region region) old.entries h)

pub record IsStored (old new : LruCache Region (Option (ℕ × ℕ))) (region : Region) (a : Option (ℕ × ℕ)) : Type 0 where
  pub entries : (new.entries ≡ old.entries) ⊎ (new.entries ≡ (region, a) ∷ take (old.cap - 1) old.entries)
  pub capacity : new.cap ≡ old.cap

pub stored : {T E : Type 0} (r : Result T E) (old new : LruCache Region (Option (ℕ × ℕ))) (region : Region) (a : Option (ℕ × ℕ)) → lookup (is_same_region region) old.entries ≡ None
    → OnOk r (new ≡ lru_cache (put_entries is_same_region old region a) old.cap) → OnErr r (new ≡ old) → IsStored old new region a
stored (Ok x) old new region a h ok err = record {
  entries = inr (ap (λ (c : LruCache Region (Option (ℕ × ℕ))). c.entries) ok ∙ put_first old region a h);
  capacity = ap (λ (c : LruCache Region (Option (ℕ × ℕ))). c.cap) ok;
}
stored (Err x) old new region a h ok err = record {
  entries = inl (ap (λ (c : LruCache Region (Option (ℕ × ℕ))). c.entries) err);
  capacity = ap (λ (c : LruCache Region (Option (ℕ × ℕ))). c.cap) err;
}

-- the rows after it, and that their masks are listed
pub of_stored : (old new : LruCache Region (Option (ℕ × ℕ))) (region : Region) (a : Option (ℕ × ℕ)) → (new.entries ≡ old.entries) ⊎ (new.entries ≡ (region, a) ∷ take (old.cap - 1) old.entries) → (row : AnsweredRegion) → Contains new.entries row → Contains old.entries row ⊎ ((region, a) ≡ row)
of_stored old new region a (inl e) row c = inl (subst (λ (es : List AnsweredRegion). Contains es row) e c)
of_stored old new region a (inr e) row c =
    ⊎_elim (λ s. inr s) (λ d. inl (Contains-take (old.cap - 1) old.entries row d)) (Contains-cons (region, a) (take (old.cap - 1) old.entries) row (subst (λ (es : List AnsweredRegion). Contains es row) e c))

pub listed_stored : (masks more : List FieldMask) (old new : LruCache Region (Option (ℕ × ℕ))) (region : Region) (a : Option (ℕ × ℕ)) → AreListed masks old.entries → ((m : FieldMask) → Contains masks m → Contains more m) → Contains more region.mask
    → (new.entries ≡ old.entries) ⊎ (new.entries ≡ (region, a) ∷ take (old.cap - 1) old.entries) → AreListed more new.entries
listed_stored masks more old new region a listed kept there is row c =
    ⊎_elim (λ d. kept row.0.mask (listed row d)) (λ s. subst (λ (r : AnsweredRegion). Contains more r.0.mask) s there) (of_stored old new region a is row c)

-- ---- a mask that is listed

pub equal_masks : (a b : FieldMask) → the_mask.eq-value.it a b ≡ true → a ≡ b
equal_masks a b e = let same : a.masks ≡ b.masks = equal_keys a.masks b.masks e in λ i. record { masks = same i }

pub any_there : (m : FieldMask) (xs : List FieldMask) → list_any (λ y. the_mask.eq-value.it y m) xs ≡ true → Contains xs m
any_there m [] h = absurd cc
any_there m (x ∷ xs) h = by_test (the_mask.eq-value.it x m) refl h (any_there m xs)
  where
    by_test : (b : Bool) → the_mask.eq-value.it x m ≡ b → (b || list_any (λ y. the_mask.eq-value.it y m) xs) ≡ true → (list_any (λ y. the_mask.eq-value.it y m) xs ≡ true → Contains xs m) → Contains (x ∷ xs) m
    by_test true e h later = subst (λ (y : FieldMask). Contains (x ∷ xs) y) (equal_masks x m e) (Contains-head x xs)
    by_test false e h later = Contains-tail x xs m (later h)

-- ---- no row of the key's region

pub absent : (rows : List AnsweredRegion) (key : Field → Option ℕ) (region : Region) → NoneHolds rows key → ((f : Field) → value region.key f ≡ seen (mask_at region.mask f) (key f)) → lookup (is_same_region region) rows ≡ None
absent rows key region none shows = by_found (lookup (is_same_region region) rows) refl
  where
    by_found : (o : Option (Option (ℕ × ℕ))) → lookup (is_same_region region) rows ≡ o → o ≡ None
    by_found None e = refl
    by_found (Some a) e =
        let t = split_at (is_same_region region) rows a e in
        absurd (none t.row (subst (λ (es : List AnsweredRegion). Contains es t.row) (sym t.stood) (Contains-middle t.before t.row t.after)) (subst (λ (r : Region). Holds r key) (equal_regions region t.row.0 t.passes) (λ f. sym (shows f))))

-- ---- the masks that rows have

in_filter : {X : Type 0} (p : X → Bool) (xs : List X) (x : X) → Contains xs x → p x ≡ true → Contains (filter p xs) x
in_filter p [] x h t = absurd (Contains-nil x h)
in_filter {X} p (y ∷ ys) x h t = by_test (p y) refl (in_filter p ys x) (Contains-cons y ys x h)
  where
    by_test : (b : Bool) → p y ≡ b → (Contains ys x → p x ≡ true → Contains (filter p ys) x) → (y ≡ x) ⊎ Contains ys x → Contains (cond b (y ∷ filter p ys) (filter p ys)) x
    by_test true e later (inl s) = subst (λ w. Contains (y ∷ filter p ys) w) s (Contains-head y (filter p ys))
    by_test true e later (inr l) = Contains-tail y (filter p ys) x (later l t)
    by_test false e later (inl s) = absurd (let f : true ≡ false = sym t ∙ ap p (sym s) ∙ e in cc)
    by_test false e later (inr l) = later l t

pub or_true : (a : Bool) → (a || true) ≡ true
or_true true = refl
or_true false = refl

pub mask_itself : (m : FieldMask) → the_mask.eq-value.it m m ≡ true
mask_itself m = key_itself m.masks

pub some_has : (rows : List AnsweredRegion) (row : AnsweredRegion) → Contains rows row → list_any (λ r. is_same_mask r.0.mask row.0.mask) rows ≡ true
some_has [] row c = absurd (Contains-nil row c)
some_has (x ∷ rows) row c = ⊎_elim
    (λ s. (let t : is_same_mask x.0.mask row.0.mask ≡ true = subst (λ (r : AnsweredRegion). is_same_mask r.0.mask row.0.mask ≡ true) (sym s) (mask_itself row.0.mask) in rw t refl))
    (λ d. rw (some_has rows row d) (or_true (is_same_mask x.0.mask row.0.mask)))
    (Contains-cons x rows row c)

pub used_listed : (masks new : List FieldMask) (rows : List AnsweredRegion) → new ≡ filter (λ m. list_any (λ row. is_same_mask row.0.mask m) rows) masks → AreListed masks rows → AreListed new rows
used_listed masks new rows e h row c =
    subst (λ (ms : List FieldMask). Contains ms row.0.mask) (sym e) (in_filter (λ m. list_any (λ r. is_same_mask r.0.mask m) rows) masks row.0.mask (h row c) (some_has rows row c))

-- the first row holds the key, and stays first
pub first_hit : (rows : List AnsweredRegion) (region : Region) (a : Option (ℕ × ℕ)) (key : Field → Option ℕ) → Some (region, a) ≡ slice_get rows 0 → Holds region key → IsHit rows rows key a
first_hit [] region a key e holds = absurd cc
first_hit (row ∷ rows) region a key e holds =
    let same : (region, a) ≡ row = ap (λ (o : Option AnsweredRegion). unwrap_or o (region, a)) e in
    record {
      moved = record { row = row; before = []; after = rows; stood = refl; holds = subst (λ (r : AnsweredRegion). Holds r.0 key) same holds; first = refl };
      answers = sym (ap (λ (r : AnsweredRegion). r.1) same);
    }
