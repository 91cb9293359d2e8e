-- A difference is put to those found.
use Rattle.std.proofs.Common.{◌≡◌, ◌<◌, ℕ, zero, suc, List, [], ◌∷◌, ◌++◌, length, get_or, set, map, Some, refl, sym, subst, ◌∙◌, arith, inl, inr, ◌⊎◌}
use Rattle.std.proofs.lemmas.List.Elements.{Contains-append_cases, Contains-append_left, Contains-append_right, Contains-push, Contains-push_cases}
use Rattle.std.specs.{Prelude.slice_get, List.Contains}
use Rattle.of_machine.specs.TheWorld.{TheWorld}
use Rattle.of_symbolic_run.specs.{declared.frame_set.FrameSet.FrameSet, FrameSets.AreFramesMatching, FrameSets.InFrames, Received.IsReceivedAt, Received.items_at}
use Rattle.of_oxm.specs.declared.match_field.MatchField.{MatchField}
use Rattle.of_alike.specs.{Alike.DiffersAt, declared.alike.Compared.Compared, declared.alike.Where.Where}
use Rattle.of_diff.specs.Differences.{InDifferences, InFirst, InSets, IsDifference, SomeDiffers}
use Rattle.of_diff.specs.{Pairs.PutsDifference, Pairs.place_of_difference, declared.difference.Difference.Difference, declared.ending.FrameShown.FrameShown, Shown.IsShown}

none_contained : {A : Type 0} (x : A) → Contains {X = A} [] x → ⊥
none_contained x h = absurd (omega (arith, h.1))

-- ---- a difference of one set

only_set : (s t : FrameSet) → Contains (s ∷ []) t → s ≡ t
only_set s t there = by_place (Contains-push_cases [] s t there)
  where
    by_place : Contains [] t ⊎ (s ≡ t) → s ≡ t
    by_place (inl before) = absurd (none_contained t before)
    by_place (inr same) = same

pub one_set_differs : (c : Compared) (w v : TheWorld) (d : Difference) (s : FrameSet) → d.sets.items ≡ s ∷ [] → InFrames s d.frame.items d.in_port → IsReceivedAt w d.frame.items d.in_port → IsReceivedAt v d.frame.items d.in_port →
    d.first.items ≡ items_at w d.frame.items d.in_port → d.second.items ≡ items_at v d.frame.items d.in_port → DiffersAt c d.at d.first.items d.second.items → IsDifference c w v d × (d.sets.items ≡ s ∷ [])
one_set_differs c w v d s sets within received received' first second differs = (
  record {
    received_first = received;
    received_second = received';
    within = subst (λ (l : List FrameSet). InFirst l d.frame.items d.in_port) (sym sets) within;
    each = λ t there. subst (SomeDiffers c w v d.at) (only_set s t (subst (λ (l : List FrameSet). Contains l t) sets there)) (d.frame.items, d.in_port, within, received, received', differs_there);
    first = first;
    second = second;
    differs = differs_there;
  },
  sets,
)
  where
    differs_there : DiffersAt c d.at (items_at w d.frame.items d.in_port) (items_at v d.frame.items d.in_port)
    differs_there = rw (sym first, sym second) differs

-- a frame of some of the frames of a set is one of the set
pub shown_in_more : (c : Compared) (w v : TheWorld) (m : List MatchField) (old new : FrameSet) (x : FrameShown) → AreFramesMatching m old new → IsShown c w v new x → IsShown c w v old x
shown_in_more c w v m old new x some h = record {
  within = (some.within x.frame.items x.in_port h.within).0;
  received_first = h.received_first;
  received_second = h.received_second;
  first = h.first;
  second = h.second;
  differs = h.differs;
}

-- ---- a further difference

pub puts_pushed : (d : Difference) (old new : List Difference) → new ≡ old ++ d ∷ [] → PutsDifference d old new
puts_pushed d old new pushed = record {
  real = λ c w v is each x there. elim (Contains-push_cases old d x (subst (λ (l : List Difference). Contains l x) pushed there)) as (λ y. IsDifference c w v x) [
    | inl before ↦ each x before
    | inr same ↦ subst (IsDifference c w v) same is
  ];
  own = λ frame port within. (d, subst (λ (l : List Difference). Contains l d) (sym pushed) (Contains-push old d), within);
  kept = λ frame port h. (h.0, subst (λ (l : List Difference). Contains l h.0) (sym pushed) (Contains-append_left old (d ∷ []) h.0 h.1), h.2);
}

-- ---- a difference with further sets

-- the first set is still the first
first_stays : (sets more : List FrameSet) (frame : List ℕ) (port : ℕ) → InFirst sets frame port → InFirst (sets ++ more) frame port
first_stays [] more frame port h = absurd h
first_stays (s ∷ sets) more frame port h = h

-- an element of a list in which one was replaced
from_set : {X : Type 0} (xs : List X) (i : ℕ) (c y : X) → Contains (set xs i c) y → Contains xs y ⊎ (c ≡ y)
from_set [] i c y h = inl h
from_set (x ∷ xs) zero c y (zero, lt, is) = inr is
from_set (x ∷ xs) zero c y (suc k, lt, is) = inl (suc k, lt, is)
from_set (x ∷ xs) (suc i) c y (zero, lt, is) = inl (0, omega arith, is)
from_set (x ∷ xs) (suc i) c y (suc k, lt, is) = elim (from_set xs i c y (k, omega (arith, lt), is)) as (λ z. Contains (x ∷ xs) y ⊎ (c ≡ y)) [
  | inl h ↦ inl (suc h.0, omega (arith, h.1), h.2)
  | inr same ↦ inr same
]

-- an element is still there, or is the one that was replaced
to_set : {X : Type 0} (xs : List X) (i : ℕ) (c x y : X) → x ≡ get_or xs i x → i < length xs → Contains xs y → Contains (set xs i c) y ⊎ (x ≡ y)
to_set [] i c x y is lt h = absurd (omega (arith, lt))
to_set (z ∷ xs) zero c x y is lt (zero, less, at) = inr (is ∙ at)
to_set (z ∷ xs) zero c x y is lt (suc k, less, at) = inl (suc k, less, at)
to_set (z ∷ xs) (suc i) c x y is lt (zero, less, at) = inl (0, omega arith, at)
to_set (z ∷ xs) (suc i) c x y is lt (suc k, less, at) = elim (to_set xs i c x y is (omega (arith, lt)) (k, omega (arith, less), at)) as (λ v. Contains (z ∷ set xs i c) y ⊎ (x ≡ y)) [
  | inl h ↦ inl (suc h.0, omega (arith, h.1), h.2)
  | inr same ↦ inr same
]

is_set : {X : Type 0} (xs : List X) (i : ℕ) (c : X) → i < length xs → Contains (set xs i c) c
is_set [] i c lt = absurd (omega (arith, lt))
is_set (x ∷ xs) zero c lt = (0, omega arith, refl)
is_set (x ∷ xs) (suc i) c lt = (let h = is_set xs i c (omega (arith, lt)) in (suc h.0, omega (arith, h.1), h.2))

-- the place at which a difference was found
pub is_inside : (found : List Difference) (i : ℕ) (at : Where) → slice_get (map place_of_difference found) i ≡ Some at → i < length found
is_inside [] i at h = absurd cc
is_inside (d ∷ found) zero at h = omega arith
is_inside (d ∷ found) (suc i) at h = omega (arith, is_inside found i at h)

place_at : (found : List Difference) (i : ℕ) (x : Difference) → x ≡ get_or found i x → i < length found → slice_get (map place_of_difference found) i ≡ Some x.at
place_at [] i x is lt = absurd (omega (arith, lt))
place_at (d ∷ found) zero x is lt = rw is refl
place_at (d ∷ found) (suc i) x is lt = place_at found i x is (omega (arith, lt))

pub at_same_place : (found : List Difference) (i : ℕ) (x : Difference) (at : Where) → x ≡ get_or found i x → i < length found → slice_get (map place_of_difference found) i ≡ Some at → x.at ≡ at
at_same_place found i x at is lt h = let two : Some x.at ≡ Some at = sym (place_at found i x is lt) ∙ h in cc

-- y is x with the sets of d behind its own
module _ (d : Difference) (old : List Difference) (i : ℕ) (x y : Difference) (is : x ≡ get_or old i x) (lt : i < length old) (sets : y.sets.items ≡ x.sets.items ++ d.sets.items) (frame : y.frame ≡ x.frame) (in_port : y.in_port ≡ x.in_port)
    (at : y.at ≡ x.at) (first : y.first ≡ x.first) (second : y.second ≡ x.second) (same : x.at ≡ d.at) where
  cases_of : (s : FrameSet) → Contains y.sets.items s → Contains x.sets.items s ⊎ Contains d.sets.items s
  cases_of s there = Contains-append_cases x.sets.items d.sets.items s (subst (λ (l : List FrameSet). Contains l s) sets there)

  from_old : (frame : List ℕ) (port : ℕ) → InSets x.sets.items frame port → InSets y.sets.items frame port
  from_old frame port h = (h.0, subst (λ (l : List FrameSet). Contains l h.0) (sym sets) (Contains-append_left x.sets.items d.sets.items h.0 h.1), h.2)

  from_own : (frame : List ℕ) (port : ℕ) → InSets d.sets.items frame port → InSets y.sets.items frame port
  from_own frame port h = (h.0, subst (λ (l : List FrameSet). Contains l h.0) (sym sets) (Contains-append_right x.sets.items d.sets.items h.0 h.1), h.2)

  joined_is : (c : Compared) (w v : TheWorld) → IsDifference c w v d → IsDifference c w v x → IsDifference c w v y
  joined_is c w v own h = record {
    received_first = rw (frame, in_port) h.received_first;
    received_second = rw (frame, in_port) h.received_second;
    within = subst (λ (l : List FrameSet). InFirst l y.frame.items y.in_port) (sym sets) (first_stays x.sets.items d.sets.items y.frame.items y.in_port (rw (frame, in_port) h.within));
    each = λ s there. elim (cases_of s there) as (λ z. SomeDiffers c w v y.at s) [
      | inl before ↦ subst (λ (p : Where). SomeDiffers c w v p s) (sym at) (h.each s before)
      | inr new ↦ subst (λ (p : Where). SomeDiffers c w v p s) (sym (at ∙ same)) (own.each s new)
    ];
    first = rw (first, frame, in_port) h.first;
    second = rw (second, frame, in_port) h.second;
    differs = subst (λ (p : Where). DiffersAt c p (items_at w y.frame.items y.in_port) (items_at v y.frame.items y.in_port)) (sym at) (rw (frame, in_port) h.differs);
  }

  y_there : Contains (set old i y) y
  y_there = is_set old i y lt

  pub puts_joined : PutsDifference d old (set old i y)
  puts_joined = record {
    real = λ c w v own each z there. elim (from_set old i y z there) as (λ q. IsDifference c w v z) [
      | inl before ↦ each z before
      | inr is_it ↦ subst (IsDifference c w v) is_it (joined_is c w v own (each x (i, lt, sym is)))
    ];
    own = λ f port within. (y, y_there, from_own f port within);
    kept = λ f port h. elim (to_set old i y x h.0 is lt h.1) as (λ q. InDifferences (set old i y) f port) [
      | inl still ↦ (h.0, still, h.2)
      | inr replaced ↦ (y, y_there, from_old f port (subst (λ (e : Difference). InSets e.sets.items f port) (sym replaced) h.2))
    ];
  }
