-- A group that gets an entry of no higher priority than its best stays at its place.
use Rattle.std.proofs.Common.{◌≡◌, ℕ, zero, suc, ◌<◌, ◌≤◌, List, [], ◌∷◌, ◌++◌, length, take, drop, set, get_or, Some, None, refl, sym, ◌∙◌, ap, subst, arith, ⊎_elim}
use Rattle.std.specs.List.{Contains}
use Rattle.slab.specs.Slab.{Slab, get, Updates}
use Rattle.of_headers.specs.declared.key.FieldKey.{FieldKey}
use Rattle.of_oxm.specs.NormalForm.{IsMatch}
use Rattle.of_mask_groups.specs.Grouping.{LooksLike, AsksFor, IsGroup, AreFalling, AreGrouped, HasMore, IsPlaceFor, IsSame}
use Rattle.of_mask_groups.{specs.declared.entry.Entry.Entry, specs.declared.group.Group.Group, specs.Cells.key_digest, proofs.Adding.some_more}
use Rattle.of_mask_groups.proofs.{Members.at_place, Members.in_cons, Members.not_in_nil, Splitting.put_in, Splitting.split_removed, Splitting.split_same, Turning.split_more}

-- the groups without the one at a place
abbrev rest : List Group → ℕ → List Group
rest gs i = take i gs ++ drop (suc i) gs

set_is : (gs : List Group) (i : ℕ) (h : Group) → i < length gs → set gs i h ≡ take i (rest gs i) ++ h ∷ drop i (rest gs i)
set_is [] i h lt = absurd (omega (arith, lt))
set_is (x ∷ xs) zero h lt = refl
set_is (x ∷ xs) (suc i) h lt = ap (λ (l : List Group). x ∷ l) (set_is xs i h (omega (arith, lt)))

within_rest : (gs : List Group) (i : ℕ) → i < length gs → i ≤ length (rest gs i)
within_rest [] i lt = absurd (omega (arith, lt))
within_rest (x ∷ xs) zero lt = omega arith
within_rest (x ∷ xs) (suc i) lt = let later = within_rest xs i (omega (arith, lt)) in omega (arith, later)

before_rest : (gs : List Group) (i : ℕ) (d y : Group) → AreFalling gs → i < length gs → Contains (take i (rest gs i)) y → (get_or gs i d).best ≤ y.best
before_rest [] i d y f lt c = absurd (omega (arith, lt))
before_rest (x ∷ xs) zero d y f lt c = absurd (not_in_nil y c)
before_rest (x ∷ xs) (suc i) d y f lt c = ⊎_elim
    (λ e. subst (λ (z : Group). (get_or xs i d).best ≤ z.best) e (f.0 (get_or xs i d) (at_place xs i d (omega (arith, lt)))).falls)
    (λ l. before_rest xs i d y f.1 (omega (arith, lt)) l)
    (in_cons y x (take i (rest xs i)) c)

after_rest : (gs : List Group) (i : ℕ) (d y : Group) → AreFalling gs → i < length gs → Contains (drop i (rest gs i)) y → y.best ≤ (get_or gs i d).best
after_rest [] i d y f lt c = absurd (omega (arith, lt))
after_rest (x ∷ xs) zero d y f lt c = (f.0 y c).falls
after_rest (x ∷ xs) (suc i) d y f lt c = after_rest xs i d y f.1 (omega (arith, lt)) c

-- where its best stays, the place is right for the group
its_place : (gs : List Group) (i : ℕ) (g h : Group) → AreFalling gs → i < length gs → g ≡ get_or gs i g → h.best ≡ g.best → IsPlaceFor (rest gs i) h.best i
its_place gs i g h f lt at same =
    let here : h.best ≡ (get_or gs i g).best = same ∙ ap (λ (z : Group). z.best) at in
    record {
      within = within_rest gs i lt;
      before = λ y c. subst (λ b. b ≤ y.best) (sym here) (before_rest gs i g y f lt c);
      after = λ y c. subst (λ b. y.best ≤ b) (sym here) (after_rest gs i g y f lt c);
    }

best_stays : (entries : Slab Entry) (g h : Group) (d p n : ℕ) → IsGroup entries g → HasMore g h d p n → p ≤ g.best → h.best ≡ g.best
best_stays entries g h d p n a m low =
    let lower : g.best ≤ h.best = ⊎_elim (λ none. absurd (a.some none)) (λ t. m.settled.above g.best t.0 (m.kept g.best t.0 t.1)) a.index.settled.top in
    let upper : h.best ≤ g.best = ⊎_elim (λ none. absurd (some_more g h d p n m none)) (λ t. ⊎_elim (λ r. a.index.settled.above h.best t.0 r) (λ e. subst (λ b. b ≤ g.best) (sym e.0) low) (m.ranks h.best t.0 t.1)) m.settled.top in
    omega (arith, lower, upper)

group_at : (entries : Slab Entry) (gs : List Group) (i : ℕ) (g : Group) → i < length gs → g ≡ get_or gs i g → AreGrouped entries gs → IsGroup entries g
group_at entries gs i g lt at a = a.each g (subst (λ z. Contains gs z) (sym at) (at_place gs i g lt))

pub more_at : (old new : Slab Entry) (gs : List Group) (i : ℕ) (g h : Group) (key : FieldKey) (n : ℕ) (e : Entry) → i < length gs → g ≡ get_or gs i g → AreGrouped old gs → get old n ≡ None → Updates old new n (Some e) → IsMatch e.fields → LooksLike g e → AsksFor key e → HasMore g h (key_digest g.secret key) e.priority n → e.priority ≤ g.best → AreGrouped new (set gs i h)
more_at old new gs i g h key n e lt at a vacant u fine looks asks m low =
    let same = best_stays old g h (key_digest g.secret key) e.priority n (group_at old gs i g lt at a) m low in
    let split = split_more old new (rest gs i) g h key n e vacant u fine looks asks m (split_removed old gs i g lt at a) in
    subst (AreGrouped new) (sym (set_is gs i h lt)) (put_in new (rest gs i) h i split (its_place gs i g h a.falling lt at same) (some_more g h (key_digest g.secret key) e.priority n m))

pub same_at : (entries : Slab Entry) (gs : List Group) (i : ℕ) (g h : Group) → i < length gs → g ≡ get_or gs i g → IsSame g h → AreGrouped entries gs → AreGrouped entries (set gs i h)
same_at entries gs i g h lt at s a =
    let some = (group_at entries gs i g lt at a).some in
    subst (AreGrouped entries) (sym (set_is gs i h lt)) (put_in entries (rest gs i) h i (split_same entries (rest gs i) g h s (split_removed entries gs i g lt at a)) (its_place gs i g h a.falling lt at s.best) (λ none. some (sym s.ranks ∙ none)))
