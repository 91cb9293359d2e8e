-- What the walk over the groups ends with: the winner, and the number of masks that had to be asked.
use Rattle.std.proofs.Common.{◌≡◌, ℕ, ◌<◌, ◌≤◌, Bool, true, false, Option, Some, None, List, length, get_or, take, refl, sym, ◌∙◌, ap, subst, arith, inl, inr, ⊎_elim}
use Rattle.std.{specs.Prelude.map, specs.Prelude.slice_get, specs.Prelude.nat_le, specs.List.Contains, proofs.lemmas.List.length-map, proofs.lemmas.Bool.cases_lt}
use Rattle.std.proofs.lemmas.Bool.Decides.{nat_tests, eqb_tells}
use Rattle.slab.specs.Slab.{Slab, get}
use Rattle.of_layers.specs.declared.field.Field.{Field}
use Rattle.of_oxm.specs.{Relations.matches_map, Masks.looked_at, Masks.mask_at}
use Rattle.of_classifier.specs.{declared.Row.Row, Winner.is_matching, Winner.winner_of, Winner.winner_number, Winner.Wins}
use Rattle.of_classifier.proofs.WinnerLaw.{wins_both, none_both}
use Rattle.of_mask_groups.specs.Covering.{found_of, beats, covered, number_of_found, is_above_best}
use Rattle.of_mask_groups.specs.Probing.{are_same_masks, mask_of_row, masks_in, reaching, probes_of, probes_for}
use Rattle.of_mask_groups.proofs.Aging.{IsRowOf, sound_row, complete_row, in_order, older_by_place}
use Rattle.of_mask_groups.specs.{declared.entry.Entry.Entry, declared.found.Found.Found, declared.group.Group.Group, Grouping.LooksLike, Grouping.AreFalling, Grouping.IsIndexed, Grouping.AreGrouped}
use Rattle.of_mask_groups.specs.{Aged.numbered_row, Aged.by_age, Aged.AreAged, Probed.AreProbed, Probed.IsDone}
use Rattle.of_mask_groups.proofs.{Members.in_map, Members.of_map, Members.place_of, Members.of_place, Counting.as_many, Counting.in_filter, Counting.of_filter}
use Rattle.of_mask_groups.proofs.{Sights.same_listed, Sights.same_mask_decides, Falling.sight, Falling.apart_sights, Falling.before_or_below}

same_entry : (o : Option Entry) (d e : Entry) → o ≡ Some d → o ≡ Some e → d ≡ e
same_entry o d e h k = cc

-- what beats has a priority that is no lower, and is no younger at the same priority
beats_priority : (f g : Found) → beats f g ≡ true → g.priority ≤ f.priority
beats_priority f g h = grind (arith, nat_tests, eqb_tells g.priority f.priority)

beats_age : (f g : Found) → beats f g ≡ true → g.priority ≡ f.priority → f.age ≤ g.age
beats_age f g h s = grind (arith, nat_tests, eqb_tells g.priority f.priority)

lower_beaten : (f g : Found) → g.priority < f.priority → beats f g ≡ true
lower_beaten f g h = grind (arith, nat_tests)

covered_some : (best : Option Found) (f g : Found) → best ≡ Some f → covered best g ≡ true → beats f g ≡ true
covered_some None f g e h = absurd cc
covered_some (Some x) f g e h = let s : x ≡ f = cc in subst (λ y. beats y g ≡ true) s h

-- an entry's priority is no higher than its group's best
within_group : (entries : Slab Entry) (groups : List Group) (n : ℕ) (e : Entry) → AreGrouped entries groups → get entries n ≡ Some e → (x : IsIndexed groups n e) → e.priority ≤ x.group.best
within_group entries groups n e fine h x =
    (fine.each x.group x.there).index.settled.above e.priority n x.within.ranked

-- the best so far beats each entry that matches
pub all_covered : (entries : Slab Entry) (groups done : List Group) (key : Field → Option ℕ) (best : Option Found) (probes n : ℕ) (e : Entry) → AreGrouped entries groups → AreProbed entries key done best probes → IsDone groups done best → get entries n ≡ Some e → matches_map e.fields key ≡ true → covered best (found_of n e) ≡ true
all_covered entries groups done key best probes n e fine p d h m =
    let x = fine.complete n e h in
    ⊎_elim (λ a. p.covers n e x.group h m a x.within.looks)
    (λ b. (let w = within_group entries groups n e fine h x in subst (λ o. covered o (found_of n e) ≡ true) (sym b.is) (lower_beaten b.held (found_of n e) (omega (arith, b.below)))))
    (d x.group x.there)

matched_row : (key : Field → Option ℕ) (n : ℕ) (e : Entry) (r : Row) → r ≡ numbered_row n e → is_matching key r ≡ true → matches_map e.fields key ≡ true
matched_row key n e r s m = subst (λ z. is_matching key z ≡ true) s m

pub found_wins : (entries : Slab Entry) (groups done : List Group) (key : Field → Option ℕ) (best : Option Found) (probes next : ℕ) (f : Found) → AreGrouped entries groups → AreAged entries next → AreProbed entries key done best probes → IsDone groups done best → best ≡ Some f → (r : Row) × (winner_of (by_age next entries.slots) key ≡ Some r) × (r.number ≡ f.number) × (r.priority ≡ f.priority)
found_wins entries groups done key best probes next f fine aged p d b =
    let hit = p.sound f b in
    let e = hit.found.entry in
    let stands : get entries f.number ≡ Some e = hit.found.stands in
    let rows = by_age next entries.slots in
    let r : Row = numbered_row f.number e in
    let place = place_of rows r (complete_row entries next f.number e aged stands) in
    let covers : (k : ℕ) (s : Row) → slice_get rows k ≡ Some s → is_matching key s ≡ true → (x : IsRowOf entries s) × (beats f (found_of s.number x.entry) ≡ true)
    = λ k s g m. (let x = sound_row entries next s (of_place rows k s g) in (x, covered_some best f _ b (all_covered entries groups done key best probes s.number x.entry fine p d x.stands (matched_row key s.number x.entry s x.is m)))) in
    let priority : f.priority ≡ e.priority = ap (λ (z : Found). z.priority) hit.found.is in
    let age : f.age ≡ e.age = ap (λ (z : Found). z.age) hit.found.is in
    let wins : Wins rows key place.0 r = record {
      stands = place.1;
      matches = hit.matches;
      highest = λ k s g m. (let c = covers k s g m in let q : s.priority ≡ c.0.entry.priority = ap (λ (z : Row). z.priority) c.0.is in omega (arith, beats_priority f (found_of s.number c.0.entry) c.1));
      oldest = λ k s g m same. (
          let c = covers k s g m in
          let q : s.priority ≡ c.0.entry.priority = ap (λ (z : Row). z.priority) c.0.is in
          let older : f.age ≤ c.0.entry.age = beats_age f (found_of s.number c.0.entry) c.1 (sym q ∙ same ∙ sym priority) in
          ⊎_elim (λ lt. absurd (let o = older_by_place entries rows k place.0 s r (in_order entries next) lt g place.1 c.0.entry e c.0.stands stands in omega arith)) (λ le. le) (cases_lt k place.0));
    } in
    (r, (wins_both rows key r).1 (place.0, wins), refl, sym priority)

pub none_wins : (entries : Slab Entry) (groups done : List Group) (key : Field → Option ℕ) (probes next : ℕ) → AreGrouped entries groups → AreProbed entries key done None probes → IsDone groups done None → winner_of (by_age next entries.slots) key ≡ None
none_wins entries groups done key probes next fine p d =
    let rows = by_age next entries.slots in
    (none_both rows key).1 (λ k s g. none_matches k s g (is_matching key s) refl)
  where
    none_matches : (k : ℕ) (s : Row) → slice_get (by_age next entries.slots) k ≡ Some s → (b : Bool) → is_matching key s ≡ b → is_matching key s ≡ false
    none_matches k s g false t = t
    none_matches k s g true t = absurd (
        let x = sound_row entries next s (of_place (by_age next entries.slots) k s g) in
        let c : covered None (found_of s.number x.entry) ≡ true = all_covered entries groups done key None probes s.number x.entry fine p d x.stands (matched_row key s.number x.entry s x.is t) in
        cc)

-- ---- how many

-- rows and groups that have the same masks
pub record HaveSameMasks (rows : List Row) (done : List Group) : Type 0 where
  pub of_row : (r : Row) → Contains rows r → (g : Group) × Contains done g × (sight g ≡ mask_of_row r)
  pub of_group : (g : Group) → Contains done g → (r : Row) × Contains rows r × (sight g ≡ mask_of_row r)

-- with every group probed
pub all_done : (groups done : List Group) (best : Option Found) → done ≡ groups → IsDone groups done best
all_done groups done best e h c = inl (subst (λ gs. Contains gs h) (sym e) c)

pub above_done : (groups : List Group) (i : ℕ) (g : Group) (best : Option Found) → AreFalling groups → i < length groups → g ≡ get_or groups i g → is_above_best best g.best ≡ true → IsDone groups (take i groups) best
above_done groups i g None falls lt at t h c = absurd cc
above_done groups i g (Some f) falls lt at t h c = ⊎_elim (λ a. inl a)
    (λ b. inr (let s : g.best ≡ (get_or groups i g).best = ap (λ (z : Group). z.best) at in let low : g.best < f.priority = grind (arith, nat_tests) in record { held = f; is = refl; below = omega arith }))
    (before_or_below groups i g h falls lt c)

as_many_masks : (rows : List Row) (done : List Group) → AreFalling done → HaveSameMasks rows done → length done ≡ masks_in rows
as_many_masks rows done f h =
    sym (length-map done sight) ∙ as_many are_same_masks same_mask_decides (map sight done) (map mask_of_row rows) (apart_sights done f)
    (λ x c. (let i = of_map sight done x c in let o = h.of_group i.from i.there in subst (λ y. Contains (map mask_of_row rows) y) (sym o.2 ∙ i.is) (in_map mask_of_row rows o.0 o.1)))
    (λ x c. (let i = of_map mask_of_row rows x c in let o = h.of_row i.from i.there in subst (λ y. Contains (map sight done) y) (o.2 ∙ i.is) (in_map sight done o.0 o.1)))

sight_is : (g : Group) (n : ℕ) (e : Entry) → LooksLike g e → sight g ≡ mask_of_row (numbered_row n e)
sight_is g n e l = same_listed (λ f. mask_at g.mask f) (looked_at e.fields) l.bits

-- the group of a row, and a row of a group
row_group : (entries : Slab Entry) (groups done : List Group) (next : ℕ) (best : Option Found) (r : Row) → AreGrouped entries groups → IsDone groups done best → Contains (by_age next entries.slots) r → ((f : Found) → best ≡ Some f → f.priority ≤ r.priority) → (g : Group) × Contains done g × (sight g ≡ mask_of_row r)
row_group entries groups done next best r fine d c reaches =
    let x = sound_row entries next r c in
    let y = fine.complete r.number x.entry x.stands in
    let s : sight y.group ≡ mask_of_row r = sight_is y.group r.number x.entry y.within.looks ∙ ap mask_of_row (sym x.is) in
    ⊎_elim (λ a. (y.group, a, s))
    (λ b. absurd (let w = within_group entries groups r.number x.entry fine x.stands y in let q : r.priority ≡ x.entry.priority = ap (λ (z : Row). z.priority) x.is in omega (arith, b.below, reaches b.held b.is)))
    (d y.group y.there)

group_row : (entries : Slab Entry) (groups : List Group) (next : ℕ) (g : Group) → AreGrouped entries groups → AreAged entries next → Contains groups g → (r : Row) × Contains (by_age next entries.slots) r × (sight g ≡ mask_of_row r) × (r.priority ≡ g.best)
group_row entries groups next g fine aged c =
    let i = fine.each g c in
    ⊎_elim (λ e. absurd (i.some e))
    (λ t. (let m = i.index.members g.best t.0 t.1 in (numbered_row t.0 m.entry, complete_row entries next t.0 m.entry aged m.stands, sight_is g t.0 m.entry m.looks, m.priority)))
    i.index.settled.top

pub miss_masks : (entries : Slab Entry) (groups done : List Group) (next : ℕ) → AreGrouped entries groups → AreAged entries next → ((g : Group) → Contains done g → Contains groups g) → IsDone groups done None → HaveSameMasks (by_age next entries.slots) done
miss_masks entries groups done next fine aged part d = record {
  of_row = λ r c. row_group entries groups done next None r fine d c (λ f e. absurd cc);
  of_group = λ g c. (let r = group_row entries groups next g fine aged (part g c) in (r.0, r.1, r.2));
}

pub miss_probes : (entries : Slab Entry) (groups done : List Group) (next : ℕ) → AreGrouped entries groups → AreAged entries next → AreFalling done → ((g : Group) → Contains done g → Contains groups g) → IsDone groups done None → length done ≡ masks_in (by_age next entries.slots)
miss_probes entries groups done next fine aged falls part d = as_many_masks (by_age next entries.slots) done falls (miss_masks entries groups done next fine aged part d)

le_true : (a b : ℕ) → a ≤ b → nat_le a b ≡ true
le_true a b h = grind (arith, nat_tests)

true_le : (a b : ℕ) → nat_le a b ≡ true → a ≤ b
true_le a b h = grind (arith, nat_tests)

pub hit_masks : (entries : Slab Entry) (groups done : List Group) (next p : ℕ) (best : Option Found) (f : Found) → AreGrouped entries groups → AreAged entries next → ((g : Group) → Contains done g → Contains groups g) → IsDone groups done best → best ≡ Some f → p ≡ f.priority → ((g : Group) → Contains done g → f.priority ≤ g.best) → HaveSameMasks (reaching p (by_age next entries.slots)) done
hit_masks entries groups done next p best f fine aged part d b is above = record {
  of_row = λ r c. (let o = of_filter (λ z. nat_le p z.priority) (by_age next entries.slots) r c in row_group entries groups done next best r fine d o.0 (λ x e. (let q : x.priority ≡ f.priority = (let s : x ≡ f = (let t = sym e ∙ b in cc) in ap (λ (z : Found). z.priority) s) in omega (arith, true_le p r.priority o.1))));
  of_group = λ g c. (let r = group_row entries groups next g fine aged (part g c) in (r.0, in_filter (λ z. nat_le p z.priority) (by_age next entries.slots) r.0 r.1 (le_true p r.0.priority (omega (arith, above g c, r.3))), r.2));
}

pub hit_probes : (entries : Slab Entry) (groups done : List Group) (next p : ℕ) (best : Option Found) (f : Found) → AreGrouped entries groups → AreAged entries next → AreFalling done → ((g : Group) → Contains done g → Contains groups g) → IsDone groups done best → best ≡ Some f → p ≡ f.priority → ((g : Group) → Contains done g → f.priority ≤ g.best) → length done ≡ masks_in (reaching p (by_age next entries.slots))
hit_probes entries groups done next p best f fine aged falls part d b is above = as_many_masks (reaching p (by_age next entries.slots)) done falls (hit_masks entries groups done next p best f fine aged part d b is above)

-- ---- what is returned

pub answer_winner : (entries : Slab Entry) (groups done : List Group) (key : Field → Option ℕ) (best : Option Found) (probes next : ℕ) → AreGrouped entries groups → AreAged entries next → AreProbed entries key done best probes → IsDone groups done best → number_of_found best ≡ winner_number (winner_of (by_age next entries.slots) key)
answer_winner entries groups done key None probes next fine aged p d = ap winner_number (sym (none_wins entries groups done key probes next fine p d))
answer_winner entries groups done key (Some f) probes next fine aged p d =
    let w = found_wins entries groups done key (Some f) probes next f fine aged p d refl in
    ap Some (sym w.2) ∙ ap winner_number (sym w.1)

pub answer_probes : (entries : Slab Entry) (groups done : List Group) (key : Field → Option ℕ) (best : Option Found) (probes next : ℕ) → AreGrouped entries groups → AreAged entries next → AreFalling done → ((g : Group) → Contains done g → Contains groups g) → AreProbed entries key done best probes → IsDone groups done best → probes ≡ probes_of (by_age next entries.slots) key
answer_probes entries groups done key None probes next fine aged falls part p d =
    p.count ∙ miss_probes entries groups done next fine aged falls part d ∙ ap (λ (o : Option Row). probes_for o (by_age next entries.slots)) (sym (none_wins entries groups done key probes next fine p d))
answer_probes entries groups done key (Some f) probes next fine aged falls part p d =
    let w = found_wins entries groups done key (Some f) probes next f fine aged p d refl in
    p.count ∙ hit_probes entries groups done next w.0.priority (Some f) f fine aged falls part d refl w.3 (λ g c. p.above f g refl c) ∙ ap (λ (o : Option Row). probes_for o (by_age next entries.slots)) (sym w.1)
