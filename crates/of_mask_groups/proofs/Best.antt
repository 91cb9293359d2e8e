-- The best so far after one more.
use Rattle.std.proofs.Common.{◌≡◌, ℕ, Bool, true, false, cond, [], Option, Some, None, refl, ap, arith, inl, inr, ◌⊎◌, List, ◌+◌, ◌<◌, length, take, get_or, sym, ◌∙◌, subst, ⊎_elim}
use Rattle.std.{specs.List.Contains, proofs.lemmas.List.take_more, proofs.lemmas.Bool.Decides.nat_tests, proofs.lemmas.Bool.Decides.eqb_tells}
use Rattle.of_mask_groups.specs.Covering.{beats, covered, better_found, better_with, found_of, IsFoundMatch, IsBestOf}
use Rattle.of_mask_groups.proofs.Members.{in_take_more, in_left, in_right, here, not_in_nil}
use Rattle.of_mask_groups.specs.{declared.found.Found.Found, declared.entry.Entry.Entry}
use Rattle.slab.specs.Slab.{Slab, get}
use Rattle.of_layers.specs.declared.field.Field.{Field}
use Rattle.of_oxm.specs.Relations.{matches_map}

pub beats_itself : (f : Found) → beats f f ≡ true
beats_itself f = grind (arith, nat_tests)

pub beats_trans : (f g h : Found) → beats f g ≡ true → beats g h ≡ true → beats f h ≡ true
beats_trans f g h a b = grind (arith, nat_tests, eqb_tells f.priority g.priority, eqb_tells g.priority h.priority)

-- what is not beaten beats
pub beats_turned : (f g : Found) → beats f g ≡ false → beats g f ≡ true
beats_turned f g a = grind (arith, nat_tests, eqb_tells g.priority f.priority)

by_test : (b : Bool) (f g h : Found) → beats f g ≡ b → beats f h ≡ true → covered (cond b (Some f) (Some g)) h ≡ true
by_test true f g h e a = a
by_test false f g h e a = beats_trans g f h (beats_turned f g e) a

pub better_keeps : (o : Option Found) (g h : Found) → covered o h ≡ true → covered (better_found o g) h ≡ true
better_keeps None g h a = absurd cc
better_keeps (Some f) g h a = by_test (beats f g) f g h refl a

by_test_itself : (b : Bool) (f g : Found) → beats f g ≡ b → covered (cond b (Some f) (Some g)) g ≡ true
by_test_itself true f g e = e
by_test_itself false f g e = beats_itself g

pub better_covers : (o : Option Found) (g : Found) → covered (better_found o g) g ≡ true
better_covers None g = beats_itself g
better_covers (Some f) g = by_test_itself (beats f g) f g refl

by_test_from : (b : Bool) (f g h : Found) → cond b (Some f) (Some g) ≡ Some h → (Some f ≡ Some h) ⊎ (g ≡ h)
by_test_from true f g h e = inl e
by_test_from false f g h e = inr cc

pub better_from : (o : Option Found) (g h : Found) → better_found o g ≡ Some h → (o ≡ Some h) ⊎ (g ≡ h)
better_from None g h e = inr cc
better_from (Some f) g h e = by_test_from (beats f g) f g h e

-- ---- one more number

pub take_wider : {X : Type 0} (x : X) (xs : List X) (i : ℕ) → i < length xs → Contains (take i xs) x → Contains (take (i + 1) xs) x
take_wider x xs i lt h = subst (λ ys. Contains ys x) (sym (take_more xs i x lt)) (in_left x (take i xs) _ h)

pub take_last : {X : Type 0} (xs : List X) (i : ℕ) (d : X) → i < length xs → Contains (take (i + 1) xs) (get_or xs i d)
take_last xs i d lt = subst (λ ys. Contains ys (get_or xs i d)) (sym (take_more xs i d lt)) (in_right _ (take i xs) _ (here (get_or xs i d) []))

with_sound : (entries : Slab Entry) (key : Field → Option ℕ) (o : Option Entry) (n : ℕ) (best : Option Found) (f : Found) → get entries n ≡ o → better_with key best n o ≡ Some f → (best ≡ Some f) ⊎ ((n ≡ f.number) × IsFoundMatch entries key f)
with_sound entries key None n best f g h = inl h
with_sound entries key (Some e) n best f g h = by_match (matches_map e.fields key) refl h
  where
    by_match : (b : Bool) → matches_map e.fields key ≡ b → cond b (better_found best (found_of n e)) best ≡ Some f → (best ≡ Some f) ⊎ ((n ≡ f.number) × IsFoundMatch entries key f)
    by_match true t h = ⊎_elim
        (λ l. inl l)
        (λ r. inr (
        let m : n ≡ f.number = ap (λ (x : Found). x.number) r in
        (m, record { found = record { entry = e; stands = subst (λ k. get entries k ≡ Some e) m g; is = sym r ∙ ap (λ k. found_of k e) m }; matches = t })))
        (better_from best (found_of n e) f h)
    by_match false t h = inl h

with_keeps : (key : Field → Option ℕ) (o : Option Entry) (n : ℕ) (best : Option Found) (f : Found) → covered best f ≡ true → covered (better_with key best n o) f ≡ true
with_keeps key None n best f h = h
with_keeps key (Some e) n best f h = by_match (matches_map e.fields key)
  where
    by_match : (b : Bool) → covered (cond b (better_found best (found_of n e)) best) f ≡ true
    by_match true = better_keeps best (found_of n e) f h
    by_match false = h

with_covers : (key : Field → Option ℕ) (o : Option Entry) (n : ℕ) (best : Option Found) (e : Entry) → o ≡ Some e → matches_map e.fields key ≡ true → covered (better_with key best n o) (found_of n e) ≡ true
with_covers key None n best e h t = absurd cc
with_covers key (Some d) n best e h t =
    let s : e ≡ d = cc in
    let hit : matches_map d.fields key ≡ true = subst (λ (x : Entry). matches_map x.fields key ≡ true) s t in
    subst (λ (b : Bool). covered (cond b (better_found best (found_of n d)) best) (found_of n e) ≡ true) (sym hit) (subst (λ x. covered (better_found best (found_of n d)) (found_of n x) ≡ true) (sym s) (better_covers best (found_of n d)))

pub best_more : (entries : Slab Entry) (key : Field → Option ℕ) (old : Option Found) (numbers : List ℕ) (i n : ℕ) (best new : Option Found) → i < length numbers → n ≡ get_or numbers i 0
    → new ≡ better_with key best n (get entries n) → IsBestOf entries key old (take i numbers) best → IsBestOf entries key old (take (i + 1) numbers) new
best_more entries key old numbers i n best new lt at is h = record {
  sound = λ f e. ⊎_elim
      (λ l. ⊎_elim (λ o. inl o) (λ p. inr (take_wider f.number numbers i lt p.0, p.1)) (h.sound f l))
      (λ r. inr (subst (λ k. Contains (take (i + 1) numbers) k) (sym at ∙ r.0) (take_last numbers i 0 lt), r.1))
      (with_sound entries key (get entries n) n best f refl (sym is ∙ e));
  keeps = λ f c. subst (λ o. covered o f ≡ true) (sym is) (with_keeps key (get entries n) n best f (h.keeps f c));
  covers = λ m e c g t. subst (λ o. covered o (found_of m e) ≡ true) (sym is) (⊎_elim
      (λ l. with_keeps key (get entries n) n best (found_of m e) (h.covers m e l g t))
      (λ r. let s : n ≡ m = at ∙ r in subst (λ k. covered (better_with key best n (get entries n)) (found_of k e) ≡ true) s (with_covers key (get entries n) n best e (ap (get entries) s ∙ g) t))
      (in_take_more m numbers i 0 lt c));
}

pub best_start : (entries : Slab Entry) (key : Field → Option ℕ) (old : Option Found) → IsBestOf entries key old [] old
best_start entries key old = record { sound = λ f e. inl e; keeps = λ f c. c; covers = λ n e c g t. absurd (not_in_nil n c) }
