-- The bits that the masks of the probed groups look at.
use Rattle.std.proofs.Common.{◌≡◌, ℕ, ◌+◌, ◌<◌, ◌≤◌, Bool, true, false, cond, eqb, not, ◌&&◌, ◌||◌, List, [], ◌∷◌, ◌++◌, length, get_or, take, Option, Some, None, refl, sym, ◌∙◌, ap, subst, arith, inl, inr, ◌⊎◌, ⊎_elim}
use Rattle.std.specs.{Prelude.bit_or, Prelude.nat_le, Prelude.find, Prelude.option_map, List.Contains, Int.Bits.or_comm}
use Rattle.std.proofs.{lemmas.Bool.cases_lt, lemmas.Bool.eq-eqb, lemmas.Bool.eqb-true, lemmas.Bool.Decides.nat_tests, lemmas.List.take_more}
use Rattle.std.proofs.lemmas.Nat.Bits.{bit_at_or, same_from_bits}
use Rattle.slab.specs.Slab.{Slab, get}
use Rattle.of_layers.specs.declared.field.Field.{Field}
use Rattle.of_headers.specs.FieldMap.{seen, either}
use Rattle.of_wire.specs.Numbered.{is_used, is_distinct}
use Rattle.of_oxm.{specs.NormalForm.IsMatch, specs.Masks.looked_at, specs.Masks.mask_at, specs.Masks.Agree, proofs.Seen.matched_alike}
use Rattle.of_classifier.specs.{declared.Row.Row, Rows.row_number, Rows.row_priority, Rows.priority_of, Winner.is_matching, Winner.winner_of, Winner.Wins, Looking.looked_by}
use Rattle.of_classifier.proofs.{WinnerLaw.wins_both, WinnerLaw.none_both, Alike.either_none, Alike.either_assoc, Alike.seen_first}
use Rattle.of_mask_groups.proofs.Members.{here, there, not_in_nil, in_cons, of_place}
use Rattle.of_mask_groups.proofs.Winning.{HaveSameMasks, found_wins, none_wins, miss_masks, hit_masks}
use Rattle.of_mask_groups.specs.{declared.entry.Entry.Entry, declared.found.Found.Found, declared.group.Group.Group, Grouping.AreGrouped, Aged.numbered_row, Aged.by_age, Aged.AreAged}
use Rattle.of_mask_groups.{specs.Probing.reaching, specs.Probing.reached, specs.Probed.AreProbed, specs.Probed.IsDone, specs.Probed.groups_look, proofs.Counting.in_filter, proofs.Sights.same_maps}
use Rattle.of_mask_groups.proofs.{Aging.sound_row, Aging.complete_row, Numbers.rows_distinct}

-- ---- masks within masks

-- the bits of the first are among those of the second
abbrev Within : Option ℕ → Option ℕ → Type 0
Within a b = either a b ≡ b

or_self : (a : ℕ) → bit_or a a ≡ a
or_self a = same_from_bits _ _ (λ i. omega (arith, bit_at_or a a i))

either_comm : (a b : Option ℕ) → either a b ≡ either b a
either_comm None None = refl
either_comm None (Some b) = refl
either_comm (Some a) None = refl
either_comm (Some a) (Some b) = ap Some (or_comm a b)

either_self : (a : Option ℕ) → either a a ≡ a
either_self None = refl
either_self (Some a) = ap Some (or_self a)

within_first : (a b : Option ℕ) → Within a (either a b)
within_first a b = either_assoc a a b ∙ ap (λ (o : Option ℕ). either o b) (either_self a)

within_other : (a b c : Option ℕ) → Within a c → Within a (either b c)
within_other a b c h = either_assoc a b c ∙ ap (λ (o : Option ℕ). either o c) (either_comm a b) ∙ sym (either_assoc b a c) ∙ ap (either b) h

both_within : (a b c : Option ℕ) → Within a c → Within b c → Within (either a b) c
both_within a b c h g = sym (either_assoc a b c) ∙ ap (either a) g ∙ h

same_within : (a b : Option ℕ) → Within a b → Within b a → a ≡ b
same_within a b h g = sym g ∙ either_comm b a ∙ h

seen_within : (a b v w : Option ℕ) → Within a b → seen b v ≡ seen b w → seen a v ≡ seen a w
seen_within a b v w h e = seen_first a b v w (subst (λ (o : Option ℕ). seen o v ≡ seen o w) (sym h) e)

-- ---- of rows, and of groups

looked_within : (rows : List Row) (r : Row) (f : Field) → Contains rows r → Within (looked_at r.fields f) (looked_by rows f)
looked_within [] r f c = absurd (not_in_nil r c)
looked_within (x ∷ rows) r f c = ⊎_elim
    (λ s. subst (λ (y : Row). Within (looked_at y.fields f) (looked_by (x ∷ rows) f)) s (within_first (looked_at x.fields f) (looked_by rows f)))
    (λ d. within_other (looked_at r.fields f) (looked_at x.fields f) (looked_by rows f) (looked_within rows r f d))
    (in_cons r x rows c)

looked_least : (rows : List Row) (f : Field) (b : Option ℕ) → ((r : Row) → Contains rows r → Within (looked_at r.fields f) b) → Within (looked_by rows f) b
looked_least [] f b h = refl
looked_least (x ∷ rows) f b h = both_within (looked_at x.fields f) (looked_by rows f) b (h x (here x rows)) (looked_least rows f b (λ r c. h r (there r x rows c)))

groups_within : (gs : List Group) (g : Group) (f : Field) → Contains gs g → Within (mask_at g.mask f) (groups_look gs f)
groups_within [] g f c = absurd (not_in_nil g c)
groups_within (x ∷ gs) g f c = ⊎_elim
    (λ s. subst (λ (y : Group). Within (mask_at y.mask f) (groups_look (x ∷ gs) f)) s (within_first (mask_at x.mask f) (groups_look gs f)))
    (λ d. within_other (mask_at g.mask f) (mask_at x.mask f) (groups_look gs f) (groups_within gs g f d))
    (in_cons g x gs c)

groups_least : (gs : List Group) (f : Field) (b : Option ℕ) → ((g : Group) → Contains gs g → Within (mask_at g.mask f) b) → Within (groups_look gs f) b
groups_least [] f b h = refl
groups_least (x ∷ gs) f b h = both_within (mask_at x.mask f) (groups_look gs f) b (h x (here x gs)) (groups_least gs f b (λ g c. h g (there g x gs c)))

groups-push : (gs : List Group) (g : Group) (f : Field) → groups_look (gs ++ g ∷ []) f ≡ either (groups_look gs f) (mask_at g.mask f)
groups-push [] g f = either_none (mask_at g.mask f)
groups-push (x ∷ gs) g f = ap (either (mask_at x.mask f)) (groups-push gs g f) ∙ either_assoc (mask_at x.mask f) (groups_look gs f) (mask_at g.mask f)

pub look_more : (gs : List Group) (i : ℕ) (g : Group) (old new : Field → Option ℕ) → i < length gs → g ≡ get_or gs i g → ((f : Field) → old f ≡ groups_look (take i gs) f) → ((f : Field) → new f ≡ either (old f) (mask_at g.mask f)) → (f : Field) → new f ≡ groups_look (take (i + 1) gs) f
look_more gs i g old new lt is before both f =
    both f ∙ ap (λ (o : Option ℕ). either o (mask_at g.mask f)) (before f)
    ∙ sym (ap (λ (xs : List Group). groups_look xs f) (take_more gs i g lt ∙ ap (λ (x : Group). take i gs ++ x ∷ []) (sym is)) ∙ groups-push (take i gs) g f)

-- rows and groups of the same masks look at the same bits
same_look : (rows : List Row) (done : List Group) (f : Field) → HaveSameMasks rows done → groups_look done f ≡ looked_by rows f
same_look rows done f h = same_within (groups_look done f) (looked_by rows f)
    (groups_least done f (looked_by rows f) (λ g c. (let r = h.of_group g c in subst (λ (o : Option ℕ). Within o (looked_by rows f)) (sym (same_maps (λ k. mask_at g.mask k) (looked_at r.0.fields) r.2 f)) (looked_within rows r.0 f r.1))))
    (looked_least rows f (groups_look done f) (λ r c. (let g = h.of_row r c in subst (λ (o : Option ℕ). Within o (groups_look done f)) (same_maps (λ k. mask_at g.0.mask k) (looked_at r.fields) g.2 f) (groups_within done g.0 f g.1))))

-- ---- the winner depends on the entries of at least its priority

le_true : (a b : ℕ) → a ≤ b → nat_le a b ≡ true
le_true a b h = grind (arith, nat_tests)

wins_alike : (rows : List Row) (map key : Field → Option ℕ) (r : Row) (place : ℕ) → ((s : Row) → Contains rows s → r.priority ≤ s.priority → is_matching map s ≡ is_matching key s) → Wins rows key place r → Wins rows map place r
wins_alike rows map key r place alike w = record {
  stands = w.stands;
  matches = alike r (of_place rows place r w.stands) (omega arith) ∙ w.matches;
  highest = λ k s g m. ⊎_elim
      (λ lt. absurd (let c : s.priority ≤ r.priority = w.highest k s g (sym (alike s (of_place rows k s g) (omega arith)) ∙ m) in omega arith))
      (λ le. le)
      (cases_lt r.priority s.priority);
  oldest = λ k s g m same. w.oldest k s g (sym (alike s (of_place rows k s g) (omega arith)) ∙ m) same;
}

pub reached_alike : (rows : List Row) (map key : Field → Option ℕ) (w : Option Row) → winner_of rows key ≡ w → ((r : Row) → Contains rows r → IsMatch r.fields) → Agree (looked_by (reached w rows)) map key → winner_of rows map ≡ w
reached_alike rows map key None is fine a =
    (none_both rows map).1 (λ k s g. matched_alike s.fields map key (fine s (of_place rows k s g)) (λ f. seen_within (looked_at s.fields f) (looked_by rows f) (map f) (key f) (looked_within rows s f (of_place rows k s g)) (a f)) ∙ (none_both rows key).0 is k s g)
reached_alike rows map key (Some r) is fine a =
    let w = (wins_both rows key r).0 is in
    (wins_both rows map r).1 (
      w.0,
      wins_alike rows map key r w.0
          (λ s c le. matched_alike s.fields map key (fine s c) (λ f. seen_within (looked_at s.fields f) (looked_by (reaching r.priority rows) f) (map f) (key f) (looked_within (reaching r.priority rows) s f (in_filter (λ z. nat_le r.priority z.priority) rows s c (le_true r.priority s.priority le))) (a f))) w.1,
    )

-- ---- what is returned

pub answer_look : (entries : Slab Entry) (groups done : List Group) (key : Field → Option ℕ) (best : Option Found) (probes next : ℕ) (f : Field) → AreGrouped entries groups → AreAged entries next → ((g : Group) → Contains done g → Contains groups g) → AreProbed entries key done best probes → IsDone groups done best
    → groups_look done f ≡ looked_by (reached (winner_of (by_age next entries.slots) key) (by_age next entries.slots)) f
answer_look entries groups done key None probes next f fine aged part p d =
    same_look (by_age next entries.slots) done f (miss_masks entries groups done next fine aged part d)
    ∙ ap (λ (o : Option Row). looked_by (reached o (by_age next entries.slots)) f) (sym (none_wins entries groups done key probes next fine p d))
answer_look entries groups done key (Some b) probes next f fine aged part p d =
    let w = found_wins entries groups done key (Some b) probes next b fine aged p d refl in
    same_look (reaching w.0.priority (by_age next entries.slots)) done f (hit_masks entries groups done next w.0.priority (Some b) b fine aged part d refl w.3 (λ g c. p.above b g refl c))
    ∙ ap (λ (o : Option Row). looked_by (reached o (by_age next entries.slots)) f) (sym w.1)

pub all_matches : (entries : Slab Entry) (groups : List Group) (next : ℕ) → AreGrouped entries groups → (r : Row) → Contains (by_age next entries.slots) r → IsMatch r.fields
all_matches entries groups next fine r c = let x = sound_row entries next r c in subst (λ (s : Row). IsMatch s.fields) (sym x.is) (fine.normal r.number x.entry x.stands)

-- the whole: a mask that looks where the probed groups do
pub record IsRegion (rows : List Row) (key : Field → Option ℕ) (mask : Field → Option ℕ) : Type 0 where
  pub looks : (f : Field) → mask f ≡ looked_by (reached (winner_of rows key) rows) f
  pub alike : (map : Field → Option ℕ) → Agree mask map key → winner_of rows map ≡ winner_of rows key

pub answer_region : (entries : Slab Entry) (groups done : List Group) (key : Field → Option ℕ) (best : Option Found) (probes next : ℕ) (mask : Field → Option ℕ) (rows : List Row) → by_age next entries.slots ≡ rows → AreGrouped entries groups → AreAged entries next → ((g : Group) → Contains done g → Contains groups g)
    → AreProbed entries key done best probes → IsDone groups done best → ((f : Field) → mask f ≡ groups_look done f) → IsRegion rows key mask
answer_region entries groups done key best probes next mask rows is fine aged part p d looks =
    let same : (f : Field) → mask f ≡ looked_by (reached (winner_of (by_age next entries.slots) key) (by_age next entries.slots)) f = λ f. looks f ∙ answer_look entries groups done key best probes next f fine aged part p d in
    subst (λ (xs : List Row). IsRegion xs key mask) is (record {
      looks = same;
      alike = λ map a. reached_alike (by_age next entries.slots) map key (winner_of (by_age next entries.slots) key) refl (all_matches entries groups next fine) (λ f. subst (λ (o : Option ℕ). seen o (map f) ≡ seen o (key f)) (same f) (a f));
    })

-- ---- the priority of a number

both : (a b : Bool) → (a && b) ≡ true → (a ≡ true) × (b ≡ true)
both true b h = (refl, h)
both false b h = absurd cc

or_true : (a : Bool) → (a || true) ≡ true
or_true true = refl
or_true false = refl

used_there : (xs : List Row) (r : Row) (n : ℕ) → Contains xs r → r.number ≡ n → is_used row_number n xs ≡ true
used_there [] r n c e = absurd (not_in_nil r c)
used_there (x ∷ xs) r n c e = ⊎_elim
    (λ s. (let t : eqb x.number n ≡ true = eq-eqb x.number n (ap (λ (y : Row). y.number) s ∙ e) in rw t refl))
    (λ d. rw (used_there xs r n d e) (or_true (eqb x.number n)))
    (in_cons r x xs c)

found_there : (xs : List Row) (r : Row) → is_distinct row_number xs ≡ true → Contains xs r → find (λ x. eqb x.number r.number) xs ≡ Some r
found_there [] r d c = absurd (not_in_nil r c)
found_there (x ∷ xs) r d c = by_test (eqb x.number r.number) refl (in_cons r x xs c) (found_there xs r (both (not (is_used row_number x.number xs)) (is_distinct row_number xs) d).1)
  where
    by_test : (b : Bool) → eqb x.number r.number ≡ b → (x ≡ r) ⊎ Contains xs r → (Contains xs r → find (λ y. eqb y.number r.number) xs ≡ Some r) → cond b (Some x) (find (λ y. eqb y.number r.number) xs) ≡ Some r
    by_test true e (inl s) later = ap Some s
    by_test true e (inr m) later =
        let used : is_used row_number x.number xs ≡ true = used_there xs r x.number m (sym (eqb-true x.number r.number e)) in
        let fresh : not (is_used row_number x.number xs) ≡ true = (both (not (is_used row_number x.number xs)) (is_distinct row_number xs) d).0 in
        absurd (let f : not true ≡ true = subst (λ (b : Bool). not b ≡ true) used fresh in cc)
    by_test false e (inl s) later = absurd (let t : eqb x.number r.number ≡ true = eq-eqb x.number r.number (ap (λ (y : Row). y.number) s) in let f : true ≡ false = sym t ∙ e in cc)
    by_test false e (inr m) later = later m

of_find : (p : Row → Bool) (xs : List Row) (r : Row) → find p xs ≡ Some r → Contains xs r × (p r ≡ true)
of_find p [] r h = absurd cc
of_find p (x ∷ xs) r h = by_test (p x) refl h (of_find p xs r)
  where
    by_test : (b : Bool) → p x ≡ b → cond b (Some x) (find p xs) ≡ Some r → (find p xs ≡ Some r → Contains xs r × (p r ≡ true)) → Contains (x ∷ xs) r × (p r ≡ true)
    by_test true e h later = let s : x ≡ r = cc in (subst (λ (y : Row). Contains (x ∷ xs) y) s (here x xs), ap p (sym s) ∙ e)
    by_test false e h later = let l = later h in (there r x xs l.0, l.1)

priority_some : (entries : Slab Entry) (next n : ℕ) (e : Entry) → AreAged entries next → get entries n ≡ Some e → priority_of n (by_age next entries.slots) ≡ Some e.priority
priority_some entries next n e aged h = ap (option_map row_priority) (found_there (by_age next entries.slots) (numbered_row n e) (rows_distinct entries next) (complete_row entries next n e aged h))

priority_none : (entries : Slab Entry) (next n : ℕ) → get entries n ≡ None → priority_of n (by_age next entries.slots) ≡ None
priority_none entries next n h = by_found (find (λ r. eqb r.number n) (by_age next entries.slots)) refl
  where
    by_found : (o : Option Row) → find (λ r. eqb r.number n) (by_age next entries.slots) ≡ o → option_map row_priority o ≡ None
    by_found None e = refl
    by_found (Some r) e = absurd (
        let f = of_find (λ r. eqb r.number n) (by_age next entries.slots) r e in
        let x = sound_row entries next r f.0 in
        let g : get entries n ≡ Some x.entry = ap (get entries) (sym (eqb-true r.number n f.1)) ∙ x.stands in
        let c : None ≡ Some x.entry = sym h ∙ g in
        cc)

pub priority_is : (entries : Slab Entry) (next n : ℕ) (o : Option Entry) (rows : List Row) → by_age next entries.slots ≡ rows → AreAged entries next → get entries n ≡ o → option_map (λ (e : Entry). e.priority) o ≡ priority_of n rows
priority_is entries next n None rows is aged h = sym (priority_none entries next n h) ∙ ap (priority_of n) is
priority_is entries next n (Some e) rows is aged h = sym (priority_some entries next n e aged h) ∙ ap (priority_of n) is
