-- The actions of the buckets of a group that run.
use Rattle.std.proofs.Common.{◌≡◌, ℕ, ◌+◌, ◌<◌, ◌≤◌, false, List, [], ◌∷◌, ◌++◌, length, drop, get_or, Option, Some, Result, Ok, Err, refl, sym, ap, subst, ◌∙◌, arith, append_assoc, add-one, drop-cons, Bor}
use Rattle.std.{specs.Prelude.map, specs.Prelude.unwrap_or, specs.Prelude.IsTrue, specs.Prelude.OnOk, specs.List.list_all, proofs.lemmas.List.append-nil, proofs.lemmas.List.drop_all}
use Rattle.std.proofs.lemmas.Bool.Decides.{nat_tests}
use Rattle.of_actions.specs.{declared.action.Action.Action, Supported.are_supported, Supported.is_supported}
use Rattle.of_machine.specs.{TheWorld.TheWorld, Sound.AllBuckets, Sound.IsBucket}
use Rattle.of_symbolic_run.specs.Groups.{AreServedLists, IsGroupOf, lists_of}

drop_get : (l : List ℕ) (i d : ℕ) → i < length l → drop i l ≡ get_or l i d ∷ drop (i + 1) l
drop_get l i d lt = rw (add-one, drop-cons l i d) refl

module _ (w : TheWorld) (group : ℕ) where
  abbrev pub list_at : ℕ → List Action
  list_at place = unwrap_or (w.bucket group place) []

  -- so far, and the places that are left
  pub record AreListsSoFar (places : List ℕ) (i : ℕ) (found : List (Bor (List Action))) : Type 0 where
    pub lists : lists_of found ++ map list_at (drop i places) ≡ map list_at places
    pub served : AreServedLists (lists_of found)
    pub left : AllBuckets w group (drop i places)

  pub none_so_far : (places : List ℕ) → AllBuckets w group places → AreListsSoFar places 0 []
  none_so_far places left = record { lists = refl; served = tt; left = left }

  served_too : (lists : List (Bor (List Action))) (last : Bor (List Action)) → AreServedLists (lists_of lists) → IsTrue (list_all (is_supported false) last.now) → AreServedLists (lists_of (lists ++ last ∷ []))
  served_too [] last h k = (k, tt)
  served_too (x ∷ xs) last h k = (h.0, served_too xs last h.1 k)

  lists_more : (lists : List (Bor (List Action))) (last : Bor (List Action)) → lists_of (lists ++ last ∷ []) ≡ lists_of lists ++ last.now ∷ []
  lists_more [] last = refl
  lists_more (x ∷ xs) last = ap (λ (l : List (List Action)). x.now ∷ l) (lists_more xs last)

  all_served : (l : List Action) → IsTrue (are_supported false l) → IsTrue (list_all (is_supported false) l)
  all_served l h = grind (arith, nat_tests)

  -- the bucket at the first of the places that are left
  there_is : (places : List ℕ) (i d : ℕ) → i < length places → AllBuckets w group (drop i places) → IsBucket w group (get_or places i d)
  there_is places i d lt h = (rw (drop_get places i d lt) at h).0

  others_left : (places : List ℕ) (i d : ℕ) → i < length places → AllBuckets w group (drop i places) → AllBuckets w group (drop (i + 1) places)
  others_left places i d lt h = (rw (drop_get places i d lt) at h).1

  pub more_so_far : (places : List ℕ) (i d : ℕ) (lists new : List (Bor (List Action))) (last : Bor (List Action)) → i < length places → new ≡ lists ++ last ∷ [] → w.bucket group (get_or places i d) ≡ Some last.now → AreListsSoFar places i lists → AreListsSoFar places (i + 1) new
  more_so_far places i d lists new last lt is there h =
      let bucket = there_is places i d lt h.left in
      let same : list_at (get_or places i d) ≡ last.now = ap (λ (o : Option (List Action)). unwrap_or o []) there in
      let own : bucket.actions ≡ last.now = (let two : Some bucket.actions ≡ Some last.now = sym bucket.there ∙ there in cc) in
      record {
        lists = rw (is, lists_more lists last) (append_assoc (lists_of lists) (last.now ∷ []) (map list_at (drop (i + 1) places)) ∙ (ap (λ (l : List Action). lists_of lists ++ l ∷ map list_at (drop (i + 1) places)) (sym same) ∙ (ap (λ (l : List (List Action)). lists_of lists ++ l) (ap (map list_at) (sym (drop_get places i d lt))) ∙ h.lists)));
        served = rw is (served_too lists last h.served (all_served last.now (subst (λ (l : List Action). IsTrue (are_supported false l)) own bucket.served)));
        left = others_left places i d lt h.left;
      }

  pub all_so_far : (places : List ℕ) (i : ℕ) (lists : List (Bor (List Action))) → length places ≤ i → AreListsSoFar places i lists → lists_of lists ≡ map list_at places
  all_so_far places i lists le h = sym (append-nil (lists_of lists)) ∙ (ap (λ (l : List ℕ). lists_of lists ++ map list_at l) (sym (drop_all i places le)) ∙ h.lists)

  pub group_is : (chosen places : List ℕ) (found : List (Bor (List Action))) → w.chosen group ≡ Some chosen → places ≡ chosen → lists_of found ≡ map list_at places → IsGroupOf w group (Some (lists_of found))
  group_is chosen places found is same lists = rw (is, lists, same) refl

pub if_ok : {X E : Type 0} (r : Result X E) (P Q : Type 0) → (P → Q) → OnOk r P → OnOk r Q
if_ok (Ok x) P Q f h = f h
if_ok (Err e) P Q f h = h
