-- A path is put to what was found.
use Rattle.std.proofs.Common.{◌≡◌, ◌<◌, ◌^◌, ℕ, zero, suc, List, [], ◌∷◌, ◌++◌, length, get_or, set, map, refl, sym, ap, subst, ◌∙◌, arith, inl, inr, ◌⊎◌}
use Rattle.std.{specs.Global.Vec, specs.List.Contains, proofs.lemmas.List.map-append}
use Rattle.std.proofs.lemmas.List.Elements.{Contains-append_left, Contains-push, Contains-push_cases}
use Rattle.of_rewrite.specs.Frames.{IsFrame}
use Rattle.of_oxm.specs.declared.match_field.MatchField.{MatchField}
use Rattle.of_machine.specs.{declared.data.Step.Step, TheWorld.TheWorld}
use Rattle.of_symbolic_run.specs.{declared.finding.FrameFound.TheVariants.Undecided, FrameSets.FindsFrame, FrameSets.InFrames, Received.IsReceivedAt, Received.items_at}
use Rattle.of_paths.specs.Paths.{AreMerged, InFirstPath, InPaths, IsPath, IsPathClass}
use Rattle.of_paths.specs.SoFar.{AreFoundSoFar, IsFoundIn, IsOtherWay, PutsAlone, PutsPath, unfound}
use Rattle.of_paths.specs.{declared.path.Merging.Merging, declared.path.Merging.TheVariants.Each, declared.path.Merging.TheVariants.SameWay, declared.path.Path.Path}
use Rattle.of_paths.specs.{declared.path.PathClass.PathClass, declared.path.Paths.Paths, declared.path.UndecidedFrames.UndecidedFrames, Reasons.AreUndecided}
use Rattle.of_paths.{specs.Ways.AreApart, specs.Ways.class_way, specs.Ways.paths_way, specs.Ways.way_of, proofs.WayLemmas.apart_more}

none_contained : {A : Type 0} (x : A) → Contains {X = A} [] x → ⊥
none_contained x h = absurd (omega (arith, h.1))

-- ---- one more undecided set

pub more_undecided : (old new : Paths) (u : UndecidedFrames) → new.classes.items ≡ old.classes.items → new.undecided.items ≡ old.undecided.items ++ u ∷ [] → (frame : List ℕ) (port : ℕ) → IsFoundIn old frame port → IsFoundIn new frame port
more_undecided old new u classes undecided frame port (inl h) = inl (h.0, subst (λ (l : List PathClass). Contains l h.0) (sym classes) h.1, h.2)
more_undecided old new u classes undecided frame port (inr h) = inr (h.0, subst (λ (l : List UndecidedFrames). Contains l h.0) (sym undecided) (Contains-append_left old.undecided.items (u ∷ []) h.0 h.1), h.2)

pub last_undecided : (old new : Paths) (u : UndecidedFrames) → new.undecided.items ≡ old.undecided.items ++ u ∷ [] → (frame : List ℕ) (port : ℕ) → InFrames u.frames frame port → IsFoundIn new frame port
last_undecided old new u undecided frame port h = inr (u, subst (λ (l : List UndecidedFrames). Contains l u) (sym undecided) (Contains-push old.undecided.items u), h)

pub found_undecided : (m : Merging) (w : TheWorld) (within : List MatchField) (steps : ℕ) (old new : Paths) (u : UndecidedFrames) → new.classes.items ≡ old.classes.items → new.undecided.items ≡ old.undecided.items ++ u ∷ [] → AreUndecided w within steps u → AreFoundSoFar m w within steps old → AreFoundSoFar m w within steps new
found_undecided m w within steps old new u classes undecided reason h = record {
  classes = λ c there. h.classes c (subst (λ (l : List PathClass). Contains l c) classes there);
  merged = subst (AreMerged m) (sym classes) h.merged;
  undecided = λ v there. elim (Contains-push_cases old.undecided.items u v (subst (λ (l : List UndecidedFrames). Contains l v) undecided there)) as (λ x. AreUndecided w within steps v) [
    | inl before ↦ h.undecided v before
    | inr same ↦ subst (AreUndecided w within steps) same reason
  ];
}

module _ (w : TheWorld) (steps : ℕ) (p : Path) where
  pub puts_unfound : (old new : Paths) → FindsFrame p.frames steps Undecided → new.classes ≡ old.classes → new.undecided.items ≡ old.undecided.items ++ unfound p ∷ [] → PutsAlone w steps p old new
  puts_unfound old new none classes undecided m other =
      let same : new.classes.items ≡ old.classes.items = ap (λ (v : Vec PathClass). v.items) classes in
      record {
        found = λ within is reason h. found_undecided m w within steps old new (unfound p) same undecided (reason none) h;
        own = λ frame port received inside. last_undecided old new (unfound p) undecided frame port inside;
        kept = more_undecided old new (unfound p) same undecided;
      }

  -- ---- a path without frames

  pub puts_nothing : (old : Paths) → ((frame : List ℕ) (port : ℕ) → IsFrame frame → InFrames p.frames frame port → ⊥) → PutsAlone w steps p old old
  puts_nothing old empty m other = record {
    found = λ within is reason h. h;
    own = λ frame port received inside. absurd (empty frame port received.frame_is inside);
    kept = λ frame port h. h;
  }

  -- ---- a new class

  one_path : (q : Path) → Contains (p ∷ []) q → p ≡ q
  one_path q there = by_place (Contains-push_cases [] p q there)
    where
      by_place : Contains [] q ⊎ (p ≡ q) → p ≡ q
      by_place (inl before) = absurd (none_contained q before)
      by_place (inr same) = same

  class_is : (within : List MatchField) (c : PathClass) → c.paths.items ≡ p ∷ [] → IsReceivedAt w c.frame.items c.in_port → InFrames p.frames c.frame.items c.in_port → c.items.items ≡ items_at w c.frame.items c.in_port → c.in_port < 2 ^ 32 → IsPath w within p → IsPathClass w within c
  class_is within c paths received inside items fits is = record {
    paths = λ q there. subst (IsPath w within) (one_path q (subst (λ (l : List Path). Contains l q) paths there)) is;
    way = λ q there. ap (λ (x : Path). way_of x.steps.items) (sym (one_path q (subst (λ (l : List Path). Contains l q) paths there))) ∙ sym (ap paths_way paths);
    received = received;
    shown = subst (λ (l : List Path). InFirstPath l c.frame.items c.in_port) (sym paths) inside;
    items = items;
    fits = fits;
  }

  merged_more : (m : Merging) (old : Paths) (c : PathClass) → c.paths.items ≡ p ∷ [] → IsOtherWay m old p → AreMerged m old.classes.items → AreMerged m (old.classes.items ++ c ∷ [])
  merged_more SameWay old c paths other are =
      subst AreApart (sym (map-append class_way old.classes.items (c ∷ []))) (apart_more (map class_way old.classes.items) (class_way c) (λ there. other (subst (Contains (map class_way old.classes.items)) (ap paths_way paths) there)) are)
  merged_more Each old c paths other are = λ d there. elim (Contains-push_cases old.classes.items c d there) as (λ x. length d.paths.items ≡ 1) [
    | inl before ↦ are d before
    | inr same ↦ subst (λ (x : PathClass). length x.paths.items ≡ 1) same (ap length paths)
  ]

  pub puts_class : (old new : Paths) (c : PathClass) → new.classes.items ≡ old.classes.items ++ c ∷ [] → new.undecided.items ≡ old.undecided.items → c.paths.items ≡ p ∷ [] → IsReceivedAt w c.frame.items c.in_port → InFrames p.frames c.frame.items c.in_port →
      c.items.items ≡ items_at w c.frame.items c.in_port → c.in_port < 2 ^ 32 → PutsAlone w steps p old new
  puts_class old new c classes undecided paths received inside items fits m other = record {
    found = λ within is reason h. record {
      classes = λ d there. elim (Contains-push_cases old.classes.items c d (subst (λ (l : List PathClass). Contains l d) classes there)) as (λ x. IsPathClass w within d) [
        | inl before ↦ h.classes d before
        | inr same ↦ subst (IsPathClass w within) same (class_is within c paths received inside items fits is)
      ];
      merged = subst (AreMerged m) (sym classes) (merged_more m old c paths other h.merged);
      undecided = λ u there. h.undecided u (subst (λ (l : List UndecidedFrames). Contains l u) undecided there);
    };
    own = λ frame port from within. inl (c, subst (λ (l : List PathClass). Contains l c) (sym classes) (Contains-push old.classes.items c), (p, subst (λ (l : List Path). Contains l p) (sym paths) (Contains-push [] p), within));
    kept = λ frame port h. elim h as (λ x. IsFoundIn new frame port) [
      | inl k ↦ inl (k.0, subst (λ (l : List PathClass). Contains l k.0) (sym classes) (Contains-append_left old.classes.items (c ∷ []) k.0 k.1), k.2)
      | inr k ↦ inr (k.0, subst (λ (l : List UndecidedFrames). Contains l k.0) (sym undecided) k.1, k.2)
    ];
  }

-- ---- a class with one more path

-- an item of a list in which one was replaced
from_set : {X : Type 0} (xs : List X) (i : ℕ) (c y : X) → Contains (set xs i c) y → Contains xs y ⊎ (c ≡ y)
from_set [] i c y h = inl h
from_set (x ∷ xs) zero c y (zero, lt, is) = inr is
from_set (x ∷ xs) zero c y (suc k, lt, is) = inl (suc k, lt, is)
from_set (x ∷ xs) (suc i) c y (zero, lt, is) = inl (0, omega arith, is)
from_set (x ∷ xs) (suc i) c y (suc k, lt, is) = elim (from_set xs i c y (k, omega (arith, lt), is)) as (λ z. Contains (x ∷ xs) y ⊎ (c ≡ y)) [
  | inl h ↦ inl (suc h.0, omega (arith, h.1), h.2)
  | inr same ↦ inr same
]

-- an item is still there, or is the one that was replaced
to_set : {X : Type 0} (xs : List X) (i : ℕ) (c x y : X) → x ≡ get_or xs i x → i < length xs → Contains xs y → Contains (set xs i c) y ⊎ (x ≡ y)
to_set [] i c x y is lt h = absurd (omega (arith, lt))
to_set (z ∷ xs) zero c x y is lt (zero, less, at) = inr (is ∙ at)
to_set (z ∷ xs) zero c x y is lt (suc k, less, at) = inl (suc k, less, at)
to_set (z ∷ xs) (suc i) c x y is lt (zero, less, at) = inl (0, omega arith, at)
to_set (z ∷ xs) (suc i) c x y is lt (suc k, less, at) = elim (to_set xs i c x y is (omega (arith, lt)) (k, omega (arith, less), at)) as (λ v. Contains (z ∷ set xs i c) y ⊎ (x ≡ y)) [
  | inl h ↦ inl (suc h.0, omega (arith, h.1), h.2)
  | inr same ↦ inr same
]

is_set : {X : Type 0} (xs : List X) (i : ℕ) (c : X) → i < length xs → Contains (set xs i c) c
is_set [] i c lt = absurd (omega (arith, lt))
is_set (x ∷ xs) zero c lt = (0, omega arith, refl)
is_set (x ∷ xs) (suc i) c lt = (let h = is_set xs i c (omega (arith, lt)) in (suc h.0, omega (arith, h.1), h.2))

same_ways : (cs : List PathClass) (i : ℕ) (c x : PathClass) → x ≡ get_or cs i x → i < length cs → class_way c ≡ class_way x → map class_way (set cs i c) ≡ map class_way cs
same_ways [] i c x is lt same = refl
same_ways (d ∷ cs) zero c x is lt same = ap (λ (way : List Step). way ∷ map class_way cs) (same ∙ ap class_way is)
same_ways (d ∷ cs) (suc i) c x is lt same = ap (λ (ways : List (List Step)). class_way d ∷ ways) (same_ways cs i c x is (omega (arith, lt)) same)

first_stays : (paths : List Path) (p : Path) (frame : List ℕ) (port : ℕ) → InFirstPath paths frame port → InFirstPath (paths ++ p ∷ []) frame port
first_stays [] p frame port h = absurd h
first_stays (q ∷ paths) p frame port h = h

way_stays : (paths : List Path) (p : Path) → paths_way paths ≡ way_of p.steps.items → paths_way (paths ++ p ∷ []) ≡ paths_way paths
way_stays [] p same = sym same
way_stays (q ∷ paths) p same = refl

module _ (w : TheWorld) (steps : ℕ) (p : Path) (old new : Paths) (i : ℕ) (x c : PathClass) (is : x ≡ get_or old.classes.items i x) (lt : i < length old.classes.items) (paths : c.paths.items ≡ x.paths.items ++ p ∷ []) (frame : c.frame ≡ x.frame) (in_port : c.in_port ≡ x.in_port) (items : c.items ≡ x.items)
    (classes : new.classes.items ≡ set old.classes.items i c) (undecided : new.undecided.items ≡ old.undecided.items) (same : class_way x ≡ way_of p.steps.items) where
  one_way : class_way c ≡ class_way x
  one_way = ap paths_way paths ∙ way_stays x.paths.items p same

  in_old : (q : Path) → Contains c.paths.items q → Contains x.paths.items q ⊎ (p ≡ q)
  in_old q there = Contains-push_cases x.paths.items p q (subst (λ (l : List Path). Contains l q) paths there)

  in_new : (q : Path) → Contains x.paths.items q → Contains c.paths.items q
  in_new q there = subst (λ (l : List Path). Contains l q) (sym paths) (Contains-append_left x.paths.items (p ∷ []) q there)

  joined_class : (within : List MatchField) → IsPath w within p → IsPathClass w within x → IsPathClass w within c
  joined_class within own h = record {
    paths = λ q there. elim (in_old q there) as (λ z. IsPath w within q) [
      | inl before ↦ h.paths q before
      | inr is_own ↦ subst (IsPath w within) is_own own
    ];
    way = λ q there. elim (in_old q there) as (λ z. way_of q.steps.items ≡ class_way c) [
      | inl before ↦ h.way q before ∙ sym one_way
      | inr is_own ↦ ap (λ (z : Path). way_of z.steps.items) (sym is_own) ∙ sym same ∙ sym one_way
    ];
    received = rw (frame, in_port) h.received;
    shown = subst (λ (l : List Path). InFirstPath l c.frame.items c.in_port) (sym paths) (first_stays x.paths.items p c.frame.items c.in_port (rw (frame, in_port) h.shown));
    items = rw (frame, in_port, items) h.items;
    fits = rw in_port h.fits;
  }

  there_is : Contains old.classes.items x
  there_is = (i, lt, sym is)

  pub puts_joined : PutsPath SameWay w steps p old new
  puts_joined = record {
    found = λ within own reason h. record {
      classes = λ d there. elim (from_set old.classes.items i c d (subst (λ (l : List PathClass). Contains l d) classes there)) as (λ z. IsPathClass w within d) [
        | inl before ↦ h.classes d before
        | inr is_it ↦ subst (IsPathClass w within) is_it (joined_class within own (h.classes x there_is))
      ];
      merged = subst AreApart (sym (ap (map class_way) classes ∙ same_ways old.classes.items i c x is lt one_way)) h.merged;
      undecided = λ u there. h.undecided u (subst (λ (l : List UndecidedFrames). Contains l u) undecided there);
    };
    own = λ f port from within. inl (c, subst (λ (l : List PathClass). Contains l c) (sym classes) (is_set old.classes.items i c lt), (p, subst (λ (l : List Path). Contains l p) (sym paths) (Contains-push x.paths.items p), within));
    kept = λ f port h. elim h as (λ z. IsFoundIn new f port) [
      | inl k ↦ elim (to_set old.classes.items i c x k.0 is lt k.1) as (λ z. IsFoundIn new f port) [
        | inl still ↦ inl (k.0, subst (λ (l : List PathClass). Contains l k.0) (sym classes) still, k.2)
        | inr replaced ↦ (let inside : InPaths x.paths.items f port = subst (λ (d : PathClass). InPaths d.paths.items f port) (sym replaced) k.2 in
            inl (c, subst (λ (l : List PathClass). Contains l c) (sym classes) (is_set old.classes.items i c lt), (inside.0, in_new inside.0 inside.1, inside.2)))
      ]
      | inr k ↦ inr (k.0, subst (λ (l : List UndecidedFrames). Contains l k.0) (sym undecided) k.1, k.2)
    ];
  }
