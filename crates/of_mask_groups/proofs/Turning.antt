-- An entry comes into the group that is taken out, or goes from it.
use Rattle.std.proofs.Common.{◌≡◌, ◌≢◌, ℕ, Bool, true, false, not, eqb, List, [], ◌∷◌, Option, Some, None, refl, sym, ◌∙◌, ap, subst, inl, inr, ◌⊎◌, ⊎_elim}
use Rattle.std.{specs.List.Contains, proofs.lemmas.Bool.cases_eq, proofs.lemmas.Bool.eqb-true, proofs.lemmas.Bool.eq-eqb, proofs.lemmas.Bool.ne_eqb}
use Rattle.slab.specs.Slab.{Slab, get, Updates}
use Rattle.of_layers.specs.declared.field.Field.{Field}
use Rattle.of_headers.{specs.declared.key.FieldKey.FieldKey, specs.declared.mixer.Mixer.Mixer, proofs.SameFields.same_key}
use Rattle.of_oxm.specs.{NormalForm.IsMatch, Masks.mask_at, declared.masks.FieldMask.FieldMask}
use Rattle.of_mask_groups.specs.Grouping.{is_ranked, LooksLike, AsksFor, IsIn, AreSplit, HasMore, HasLess}
use Rattle.of_mask_groups.proofs.Members.{here, in_one, in_append, in_left, in_right}
use Rattle.of_mask_groups.{specs.declared.entry.Entry.Entry, specs.declared.group.Group.Group, specs.Cells.key_digest, specs.Cells.cell_at, proofs.Counting.in_filter, proofs.Counting.of_filter}
use Rattle.of_mask_groups.proofs.Holding.{group_kept}

none_some : (o : Option Entry) (e : Entry) → o ≡ None → o ≡ Some e → ⊥
none_some o e h k = let f : None ≡ Some e = sym h ∙ k in absurd cc

some_same : (o : Option Entry) (d e : Entry) → o ≡ Some d → o ≡ Some e → d ≡ e
some_same o d e h k = cc

masked_same : (g h : Group) (e : Entry) → ((f : Field) → mask_at h.mask f ≡ mask_at g.mask f) → LooksLike g e → LooksLike h e
masked_same g h e s l = record { bits = λ f. s f ∙ l.bits f }

one_key : (j k : FieldKey) (e : Entry) → AsksFor j e → AsksFor k e → j ≡ k
one_key j k e a b = same_key j k (λ f. a.values f ∙ sym (b.values f))

one_digest : (s : Mixer) (j k : FieldKey) (e : Entry) → AsksFor j e → AsksFor k e → key_digest s j ≡ key_digest s k
one_digest s j k e a b = ap (λ (z : FieldKey). key_digest s z) (one_key j k e a b)

under_same : (s t : Mixer) (k : FieldKey) → s ≡ t → key_digest s k ≡ key_digest t k
under_same s t k e = ap (λ (z : Mixer). key_digest z k) e

cell_under : (g : Group) (s t : Mixer) (k : FieldKey) (n : ℕ) → s ≡ t → Contains (cell_at g.cells (key_digest s k)) n → Contains (cell_at g.cells (key_digest t k)) n
cell_under g s t k n e c = subst (λ (z : Mixer). Contains (cell_at g.cells (key_digest z k)) n) e c

-- ---- one more

more_cell : (g h : Group) (d c p n m : ℕ) → HasMore g h d p n → Contains (cell_at h.cells c) m → Contains (cell_at g.cells c) m ⊎ ((n ≡ m) × (d ≡ c))
more_cell g h d c p n m a there = by_test (eqb d c) refl
  where
    by_test : (b : Bool) → eqb d c ≡ b → Contains (cell_at g.cells c) m ⊎ ((n ≡ m) × (d ≡ c))
    by_test true e =
        let s : d ≡ c = eqb-true d c e in
        let there' : Contains (cell_at h.cells d) m = subst (λ (z : ℕ). Contains (cell_at h.cells z) m) (sym s) there in
        ⊎_elim (λ l. inl (subst (λ (z : ℕ). Contains (cell_at g.cells z) m) s l)) (λ r. inr (in_one m n r, s)) (in_append m (cell_at g.cells d) (n ∷ []) (subst (λ (z : List ℕ). Contains z m) a.cells.at there'))
    by_test false e = inl (subst (λ (z : List ℕ). Contains z m) (a.cells.apart c e) there)

more_kept : (g h : Group) (d c p n m : ℕ) → HasMore g h d p n → Contains (cell_at g.cells c) m → Contains (cell_at h.cells c) m
more_kept g h d c p n m a there = by_test (eqb d c) refl
  where
    by_test : (b : Bool) → eqb d c ≡ b → Contains (cell_at h.cells c) m
    by_test true e =
        let s : d ≡ c = eqb-true d c e in
        let there' : Contains (cell_at g.cells d) m = subst (λ (z : ℕ). Contains (cell_at g.cells z) m) (sym s) there in
        subst (λ (z : ℕ). Contains (cell_at h.cells z) m) s (subst (λ (z : List ℕ). Contains z m) (sym a.cells.at) (in_left m (cell_at g.cells d) (n ∷ []) there'))
    by_test false e = subst (λ (z : List ℕ). Contains z m) (sym (a.cells.apart c e)) there

more_itself : (g h : Group) (d c p n : ℕ) → HasMore g h d p n → d ≡ c → Contains (cell_at h.cells c) n
more_itself g h d c p n a s = subst (λ (z : ℕ). Contains (cell_at h.cells z) n) s (subst (λ (z : List ℕ). Contains z n) (sym a.cells.at) (in_right n (cell_at g.cells d) (n ∷ []) (here n [])))

looks_masked : (g h : Group) (e : Entry) → h.mask ≡ g.mask → LooksLike g e → LooksLike h e
looks_masked g h e s l = masked_same g h e (λ f. ap (λ (m : FieldMask). mask_at m f) s) l

pub split_more : (old new : Slab Entry) (gs : List Group) (g h : Group) (key : FieldKey) (n : ℕ) (e : Entry) → get old n ≡ None → Updates old new n (Some e) → IsMatch e.fields → LooksLike g e → AsksFor key e → HasMore g h (key_digest g.secret key) e.priority n → AreSplit old gs g → AreSplit new gs h
split_more old new gs g h key n e vacant u fine looks asks m a =
    let ne : (i : ℕ) (x : Entry) → get old i ≡ Some x → i ≢ n = λ i x s q. none_some (get old n) x vacant (subst (λ j. get old j ≡ Some x) q s) in
    let same : (i : ℕ) (x : Entry) → get old i ≡ Some x → get new i ≡ Some x = λ i x s. u.others i (ne i x s) ∙ s in
    record {
      falling = a.falling;
      each = λ x c. group_kept old new x (λ i y s l. record { entry = y; stands = same i y s; priority = refl; fields = refl }) (a.each x c);
      differs = λ x c s. a.differs x c (λ f. s f ∙ ap (λ (w : FieldMask). mask_at w f) m.mask);
      index = record {
        settled = m.settled;
        members = λ p i c. ⊎_elim
            (λ l. (let x = a.index.members p i l in record { entry = x.entry; stands = same i x.entry x.stands; looks = looks_masked g h x.entry m.mask x.looks; priority = x.priority }))
            (λ q. record { entry = e; stands = subst (λ j. get new j ≡ Some e) (sym q.1) u.changed; looks = looks_masked g h e m.mask looks; priority = sym q.0 })
            (m.ranks p i c);
        cells = λ q i c. ⊎_elim
            (λ l. (let x = a.index.cells q i l in record { entry = x.entry; stands = same i x.entry x.stands; looks = looks_masked g h x.entry m.mask x.looks; asks = λ j b. under_same h.secret g.secret j m.secret ∙ x.asks j b; ranked = m.kept x.entry.priority i x.ranked }))
            (λ r. record { entry = e; stands = subst (λ j. get new j ≡ Some e) r.0 u.changed; looks = looks_masked g h e m.mask looks; asks = λ j b. under_same h.secret g.secret j m.secret ∙ one_digest g.secret j key e b asks ∙ r.1; ranked = subst (λ j. is_ranked h e.priority j ≡ true) r.0 m.itself })
            (more_cell g h (key_digest g.secret key) q e.priority n i m c);
        occupied = m.occupied a.index.occupied;
      };
      complete = λ i x s. ⊎_elim
          (λ q. (let y : x ≡ e = some_same (get new n) x e (subst (λ j. get new j ≡ Some x) q s) u.changed in
          inr (subst (λ z. IsIn h i z) (sym y) (subst (λ j. IsIn h j e) (sym q) (record { looks = looks_masked g h e m.mask looks; ranked = m.itself; cell = λ r w. more_itself g h (key_digest g.secret key) (key_digest h.secret r) e.priority n m (one_digest g.secret key r e asks w ∙ under_same g.secret h.secret r (sym m.secret)) })))))
          (λ other. ⊎_elim (λ l. inl l) (λ r. inr (record { looks = looks_masked g h x m.mask r.looks; ranked = m.kept x.priority i r.ranked; cell = λ w v. more_kept g h (key_digest g.secret key) (key_digest h.secret w) e.priority n i m (cell_under g g.secret h.secret w i (sym m.secret) (r.cell w v)) })) (a.complete i x (sym (u.others i other) ∙ s)))
          (cases_eq i n);
      normal = λ i x s. ⊎_elim
          (λ q. subst (λ (z : Entry). IsMatch z.fields) (sym (some_same (get new n) x e (subst (λ j. get new j ≡ Some x) q s) u.changed)) fine)
          (λ other. a.normal i x (sym (u.others i other) ∙ s))
          (cases_eq i n);
    }

-- ---- one less

less_cell : (g h : Group) (d c p n m : ℕ) → HasLess g h d p n → Contains (cell_at h.cells c) m → Contains (cell_at g.cells c) m × (d ≡ c → m ≢ n)
less_cell g h d c p n m a there = by_test (eqb d c) refl
  where
    by_test : (b : Bool) → eqb d c ≡ b → Contains (cell_at g.cells c) m × (d ≡ c → m ≢ n)
    by_test true e =
        let s : d ≡ c = eqb-true d c e in
        let there' : Contains (cell_at h.cells d) m = subst (λ (z : ℕ). Contains (cell_at h.cells z) m) (sym s) there in
        let o = of_filter (λ i. not (eqb i n)) (cell_at g.cells d) m (subst (λ (z : List ℕ). Contains z m) a.cells.at there') in
        (subst (λ (z : ℕ). Contains (cell_at g.cells z) m) s o.0, λ t q. (let f : false ≡ true = sym (ap not (eq-eqb m n q)) ∙ o.1 in absurd cc))
    by_test false e = (subst (λ (z : List ℕ). Contains z m) (a.cells.apart c e) there, λ t. absurd (let f : true ≡ false = sym (eq-eqb d c t) ∙ e in cc))

less_kept : (g h : Group) (d c p n m : ℕ) → HasLess g h d p n → m ≢ n → Contains (cell_at g.cells c) m → Contains (cell_at h.cells c) m
less_kept g h d c p n m a ne there = by_test (eqb d c) refl
  where
    by_test : (b : Bool) → eqb d c ≡ b → Contains (cell_at h.cells c) m
    by_test true e =
        let s : d ≡ c = eqb-true d c e in
        let there' : Contains (cell_at g.cells d) m = subst (λ (z : ℕ). Contains (cell_at g.cells z) m) (sym s) there in
        subst (λ (z : ℕ). Contains (cell_at h.cells z) m) s (subst (λ (z : List ℕ). Contains z m) (sym a.cells.at) (in_filter (λ i. not (eqb i n)) (cell_at g.cells d) m there' (ap not (ne_eqb m n ne))))
    by_test false e = subst (λ (z : List ℕ). Contains z m) (sym (a.cells.apart c e)) there

pub split_less : (old new : Slab Entry) (gs : List Group) (g h : Group) (key : FieldKey) (n : ℕ) (e : Entry) → get old n ≡ Some e → Updates old new n None → LooksLike g e → AsksFor key e → HasLess g h (key_digest g.secret key) e.priority n → AreSplit old gs g → AreSplit new gs h
split_less old new gs g h key n e stood u looks asks m a =
    let was : (i : ℕ) (x : Entry) → get new i ≡ Some x → i ≢ n = λ i x s q. none_some (get new n) x u.changed (subst (λ j. get new j ≡ Some x) q s) in
    let is_e : (i : ℕ) (x : Entry) → get old i ≡ Some x → i ≡ n → x ≡ e = λ i x s q. some_same (get old n) x e (subst (λ j. get old j ≡ Some x) q s) stood in
    record {
      falling = a.falling;
      each = λ x c. group_kept old new x (λ i y s l.
          (let other : i ≢ n = λ q. (let lg : LooksLike g y = subst (λ t. LooksLike g t) (sym (is_e i y s q)) looks in a.differs x c (λ f. l.bits f ∙ sym (lg.bits f))) in
          record { entry = y; stands = u.others i other ∙ s; priority = refl; fields = refl })) (a.each x c);
      differs = λ x c s. a.differs x c (λ f. s f ∙ ap (λ (w : FieldMask). mask_at w f) m.mask);
      index = record {
        settled = m.settled;
        members = λ p i c. (
            let o = m.ranks p i c in
            let x = a.index.members p i o.0 in
            let other : i ≢ n = λ q. o.1 (sym x.priority ∙ ap (λ (z : Entry). z.priority) (is_e i x.entry x.stands q), q) in
            record { entry = x.entry; stands = u.others i other ∙ x.stands; looks = looks_masked g h x.entry m.mask x.looks; priority = x.priority });
        cells = λ q i c. (
            let o = less_cell g h (key_digest g.secret key) q e.priority n i m c in
            let x = a.index.cells q i o.0 in
            let other : i ≢ n = λ t. o.1 (x.asks key (subst (λ z. AsksFor key z) (sym (is_e i x.entry x.stands t)) asks)) t in
            record { entry = x.entry; stands = u.others i other ∙ x.stands; looks = looks_masked g h x.entry m.mask x.looks; asks = λ j b. under_same h.secret g.secret j m.secret ∙ x.asks j b; ranked = m.kept x.entry.priority i (λ t. other t.1) x.ranked });
        occupied = m.occupied a.index.occupied;
      };
      complete = λ i x s. (let other = was i x s in ⊎_elim (λ l. inl l) (λ r. inr (record { looks = looks_masked g h x m.mask r.looks; ranked = m.kept x.priority i (λ t. other t.1) r.ranked; cell = λ w v. less_kept g h (key_digest g.secret key) (key_digest h.secret w) e.priority n i m other (cell_under g g.secret h.secret w i (sym m.secret) (r.cell w v)) })) (a.complete i x (sym (u.others i other) ∙ s)));
      normal = λ i x s. a.normal i x (sym (u.others i (was i x s)) ∙ s);
    }
