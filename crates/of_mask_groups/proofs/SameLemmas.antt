-- The oldest entry of a match and a priority.
use Rattle.std.proofs.Common.{◌≡◌, ℕ, ◌+◌, ◌<◌, ◌≤◌, Bool, true, false, cond, eqb, ◌&&◌, Option, Some, None, List, [], ◌∷◌, length, get_or, take, refl, sym, ◌∙◌, ap, subst, arith, inl, inr, ◌⊎◌, ⊎_elim}
use Rattle.std.{specs.Prelude.nat_le, specs.Prelude.find, specs.List.Contains, specs.Cmp.Lexicographic.pointwise, proofs.lemmas.Bool.Decides.nat_tests}
use Rattle.slab.specs.Slab.{Slab, get}
use Rattle.of_layers.specs.declared.field.Field.{Field}
use Rattle.of_headers.specs.{FieldMap.value, declared.key.FieldKey.FieldKey}
use Rattle.of_oxm.specs.{declared.masks.FieldMask.FieldMask, Masks.looked_at, Masks.value_of, Masks.mask_at, SameMatch.is_same_match, declared.match_field.MatchField.MatchField}
use Rattle.of_oxm.proofs.Same.{same_fields, same_match}
use Rattle.of_oxm.specs.contracts.match_field.MatchFieldPartialEq.TheImpl as the_match_field
use Rattle.of_classifier.specs.{declared.Row.Row, Rows.is_same_row, Rows.same_of, Winner.winner_number}
use Rattle.of_mask_groups.specs.SameEntry.{is_same_entry, older_entry, older_same, IsOldestAt, IsOldestAmong, IsOldestSame}
use Rattle.of_mask_groups.proofs.Members.{here, there, not_in_nil, in_cons, in_take_more}
use Rattle.of_mask_groups.proofs.Aging.{sound_row, complete_row, in_order, IsOlder, AreInOrder}
use Rattle.of_mask_groups.specs.{declared.entry.Entry.Entry, declared.group.Group.Group, Aged.numbered_row, Aged.by_age, Aged.AreAged, Cells.key_digest, Cells.cell_at}
use Rattle.of_mask_groups.{specs.Grouping.LooksLike, specs.Grouping.AsksFor, specs.Grouping.AreGrouped, specs.Grouping.HasSameMask, proofs.Best.take_wider, proofs.Best.take_last}
use Rattle.of_mask_groups.proofs.Falling.{one_group}

-- ---- one more number

module _ (entries : Slab Entry) (before after : List ℕ) (fields : List MatchField) (p n : ℕ) (wider : (m : ℕ) → Contains before m → Contains after m) (last : Contains after n) (parts : (m : ℕ) → Contains after m → Contains before m ⊎ (n ≡ m)) where
  is_it : (o : Option Entry) (m : ℕ) (d : Entry) → get entries n ≡ o → n ≡ m → get entries m ≡ Some d → o ≡ Some d
  is_it o m d g s k = sym g ∙ subst (λ i. get entries i ≡ Some d) (sym s) k

  stays : (o : Option Entry) (best : Option (ℕ × ℕ)) → get entries n ≡ o → ((e : Entry) → o ≡ Some e → is_same_entry fields p e ≡ true → ⊥) → IsOldestAmong entries before fields p best → IsOldestAmong entries after fields p best
  stays o None g other h = λ m d c k. ⊎_elim (λ l. h m d l k) (λ s. by_test (is_same_entry fields p d) refl (other d (is_it o m d g s k))) (parts m c)
    where
      by_test : (b : Bool) {x : Bool} → x ≡ b → (x ≡ true → ⊥) → x ≡ false
      by_test true e f = absurd (f e)
      by_test false e f = e
  stays o (Some best) g other h = record {
    among = wider best.0 h.among;
    entry = h.entry;
    stands = h.stands;
    same = h.same;
    aged = h.aged;
    least = λ m d c k t. ⊎_elim (λ l. h.least m d l k t) (λ s. absurd (other d (is_it o m d g s k) t)) (parts m c);
  }

  starts : (e : Entry) → get entries n ≡ Some e → is_same_entry fields p e ≡ true → ((m : ℕ) (d : Entry) → Contains before m → get entries m ≡ Some d → is_same_entry fields p d ≡ true → e.age ≤ d.age) → IsOldestAt entries after fields p n e.age
  starts e g t f = record {
    among = last;
    entry = e;
    stands = g;
    same = t;
    aged = refl;
    least = λ m d c k u. ⊎_elim (λ l. f m d l k u) (λ s. (let q : e.age ≡ d.age = (let z = is_it (Some e) m d g s k in let w : e ≡ d = cc in ap (λ (x : Entry). x.age) w) in omega arith)) (parts m c);
  }

  keeps : (e : Entry) (best : ℕ × ℕ) → get entries n ≡ Some e → best.1 ≤ e.age → IsOldestAt entries before fields p best.0 best.1 → IsOldestAt entries after fields p best.0 best.1
  keeps e best g le h = record {
    among = wider best.0 h.among;
    entry = h.entry;
    stands = h.stands;
    same = h.same;
    aged = h.aged;
    least = λ m d c k u. ⊎_elim (λ l. h.least m d l k u) (λ s. (let q : e.age ≡ d.age = (let z = is_it (Some e) m d g s k in let w : e ≡ d = cc in ap (λ (x : Entry). x.age) w) in omega arith)) (parts m c);
  }

  not_true : (b : Bool) → b ≡ false → b ≡ true → ⊥
  not_true b h k = let f : false ≡ true = sym h ∙ k in absurd cc

  step_same : (e : Entry) (best : Option (ℕ × ℕ)) → get entries n ≡ Some e → is_same_entry fields p e ≡ true → IsOldestAmong entries before fields p best → IsOldestAmong entries after fields p (older_entry best n e)
  step_same e None g t h = starts e g t (λ m d l k u. absurd (not_true (is_same_entry fields p d) (h m d l k) u))
  step_same e (Some best) g t h = by_test (nat_le best.1 e.age) refl
    where
      by_test : (b : Bool) → nat_le best.1 e.age ≡ b → IsOldestAmong entries after fields p (cond b (Some best) (Some (n, e.age)))
      by_test true s = keeps e best g (grind (arith, nat_tests)) h
      by_test false s = starts e g t (λ m d l k u. (let lt : e.age < best.1 = grind (arith, nat_tests) in omega (arith, h.least m d l k u)))

  pub step : (o : Option Entry) (best : Option (ℕ × ℕ)) → get entries n ≡ o → IsOldestAmong entries before fields p best → IsOldestAmong entries after fields p (older_same fields p best n o)
  step None best g h = stays None best g (λ e s. absurd (let f : None ≡ Some e = s in cc)) h
  step (Some e) best g h = by_test (is_same_entry fields p e) refl
    where
      by_test : (b : Bool) → is_same_entry fields p e ≡ b → IsOldestAmong entries after fields p (cond b (older_entry best n e) best)
      by_test true t = step_same e best g t h
      by_test false t = stays (Some e) best g (λ d s u. not_true (is_same_entry fields p d) (let w : e ≡ d = cc in subst (λ z. is_same_entry fields p z ≡ false) w t) u) h

pub same_more : (entries : Slab Entry) (numbers : List ℕ) (fields : List MatchField) (p i n : ℕ) (best new : Option (ℕ × ℕ)) → i < length numbers → n ≡ get_or numbers i 0 → new ≡ older_same fields p best n (get entries n) → IsOldestAmong entries (take i numbers) fields p best → IsOldestAmong entries (take (i + 1) numbers) fields p new
same_more entries numbers fields p i n best new lt at is h =
    subst (λ o. IsOldestAmong entries (take (i + 1) numbers) fields p o) (sym is)
    (step entries (take i numbers) (take (i + 1) numbers) fields p n (λ m c. take_wider m numbers i lt c) (subst (λ k. Contains (take (i + 1) numbers) k) (sym at) (take_last numbers i 0 lt))
    (λ m c. ⊎_elim (λ l. inl l) (λ r. inr (at ∙ r)) (in_take_more m numbers i 0 lt c)) (get entries n) best refl h)

-- ---- the first row

find_first : (entries : Slab Entry) (q : Row → Bool) (rs : List Row) (r : Row) → AreInOrder entries rs → Contains rs r → q r ≡ true → ((s : Row) → Contains rs s → q s ≡ true → IsOlder entries s r → ⊥) → find q rs ≡ Some r
find_first entries q [] r h c t f = absurd (not_in_nil r c)
find_first entries q (x ∷ xs) r h c t f = by_test (q x) refl (in_cons r x xs c) (λ l. find_first entries q xs r h.1 l t (λ s m. f s (there s x xs m)))
  where
    by_test : (b : Bool) → q x ≡ b → (x ≡ r) ⊎ Contains xs r → (Contains xs r → find q xs ≡ Some r) → cond b (Some x) (find q xs) ≡ Some r
    by_test true e (inl s) later = ap Some s
    by_test true e (inr l) later = absurd (f x (here x xs) e (h.0 r l))
    by_test false e (inl s) later = absurd (let g : true ≡ false = sym t ∙ ap q (sym s) ∙ e in cc)
    by_test false e (inr l) later = later l

find_none : (q : Row → Bool) (rs : List Row) → ((s : Row) → Contains rs s → q s ≡ true → ⊥) → find q rs ≡ None
find_none q [] f = refl
find_none q (x ∷ xs) f = by_test (q x) refl (find_none q xs (λ s m. f s (there s x xs m)))
  where
    by_test : (b : Bool) → q x ≡ b → find q xs ≡ None → cond b (Some x) (find q xs) ≡ None
    by_test true e later = absurd (f x (here x xs) e)
    by_test false e later = later

-- ---- entries of one match

match_same : (xs ys : List MatchField) → is_same_match xs ys ≡ true → xs ≡ ys
match_same xs ys h =
    let test = pointwise the_match_field.eq-value.it xs ys in
    (same_fields xs ys test refl).0 (same_match xs ys test refl ∙ h)

second : (a b : Bool) → (a && b) ≡ true → b ≡ true
second true b e = e
second false b e = absurd cc

fields_same : (fields : List MatchField) (p : ℕ) (e : Entry) → is_same_entry fields p e ≡ true → e.fields ≡ fields
fields_same fields p e h = match_same e.fields fields (second (eqb e.priority p) (is_same_match e.fields fields) h)

pub record Asked (g : Group) (mask : FieldMask) (key : FieldKey) (fields : List MatchField) : Type 0 where
  pub mask_is : HasSameMask g mask
  pub masked : (f : Field) → mask_at mask f ≡ looked_at fields f
  pub asks : (f : Field) → value key f ≡ value_of fields f

-- such an entry is in the cell
in_cell : (entries : Slab Entry) (groups : List Group) (g : Group) (mask : FieldMask) (key : FieldKey) (fields : List MatchField) (p n : ℕ) (e : Entry) → AreGrouped entries groups → Contains groups g → Asked g mask key fields → get entries n ≡ Some e → is_same_entry fields p e ≡ true → Contains (cell_at g.cells (key_digest g.secret key)) n
in_cell entries groups g mask key fields p n e a c q stands same =
    let s = fields_same fields p e same in
    let looks : LooksLike g e = record { bits = λ f. q.mask_is.bits f ∙ q.masked f ∙ ap (λ (m : List MatchField). looked_at m f) (sym s) } in
    let asks : AsksFor key e = record { values = λ f. q.asks f ∙ ap (λ (m : List MatchField). value_of m f) (sym s) } in
    let x = a.complete n e stands in
    let one : x.group ≡ g = one_group groups x.group g e a.falling x.there c x.within.looks looks in
    subst (λ (h : Group). Contains (cell_at h.cells (key_digest h.secret key)) n) one (x.within.cell key asks)

pub same_answer : (entries : Slab Entry) (groups : List Group) (g : Group) (mask : FieldMask) (key : FieldKey) (fields : List MatchField) (p next : ℕ) (r : Option ℕ) → AreGrouped entries groups → AreAged entries next → Contains groups g → Asked g mask key fields → IsOldestSame entries (cell_at g.cells (key_digest g.secret key)) fields p r → r ≡ winner_number (same_of (by_age next entries.slots) fields p)
same_answer entries groups g mask key fields p next None a aged c q h =
    ap winner_number (sym (find_none (is_same_row fields p) (by_age next entries.slots) (λ s m t. (
    let x = sound_row entries next s m in
    let u : is_same_entry fields p x.entry ≡ true = subst (λ z. is_same_row fields p z ≡ true) x.is t in
    let f : true ≡ false = sym u ∙ h s.number x.entry (in_cell entries groups g mask key fields p s.number x.entry a c q x.stands u) x.stands in
    absurd cc))))
same_answer entries groups g mask key fields p next (Some n) a aged c q h =
    let o = h.1 in
    ap winner_number (sym (find_first entries (is_same_row fields p) (by_age next entries.slots) (numbered_row n o.entry) (in_order entries next) (complete_row entries next n o.entry aged o.stands) o.same (λ s m t older. (
    let x = sound_row entries next s m in
    let u : is_same_entry fields p x.entry ≡ true = subst (λ z. is_same_row fields p z ≡ true) x.is t in
    let le = o.least s.number x.entry (in_cell entries groups g mask key fields p s.number x.entry a c q x.stands u) x.stands u in
    let lt = older x.entry o.entry x.stands o.stands in
    absurd (omega (arith, o.aged))))))

pub same_nowhere : (entries : Slab Entry) (groups : List Group) (mask : FieldMask) (fields : List MatchField) (p next : ℕ) → AreGrouped entries groups → AreAged entries next → ((f : Field) → mask_at mask f ≡ looked_at fields f) → ((g : Group) → Contains groups g → HasSameMask g mask → ⊥) → None ≡ winner_number (same_of (by_age next entries.slots) fields p)
same_nowhere entries groups mask fields p next a aged masked none =
    ap winner_number (sym (find_none (is_same_row fields p) (by_age next entries.slots) (λ s m t. (
    let x = sound_row entries next s m in
    let u : is_same_entry fields p x.entry ≡ true = subst (λ z. is_same_row fields p z ≡ true) x.is t in
    let y = a.complete s.number x.entry x.stands in
    none y.group y.there (record { bits = λ f. y.within.looks.bits f ∙ ap (λ (w : List MatchField). looked_at w f) (fields_same fields p x.entry u) ∙ sym (masked f) })))))
