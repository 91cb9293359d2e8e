-- What a verdict means.
use Rattle.std.proofs.Common.{◌≡◌, ℕ, suc, ◌==◌, false, ◌⊎◌, inl, inr, List, [], ◌∷◌, length, refl, subst, arith}
use Rattle.std.specs.Prelude.{Bool, true, Option, Some, None, if◌then◌else◌}
use Rattle.std.{specs.List.Contains, proofs.lemmas.Bool.Decides.nat_tests}
use Rattle.of_datapath.specs.Datapath.{Forwarding, world_of}
use Rattle.of_diff.specs.{Comparing.AreDifferences, Differences.InDifferences, Differences.InUndecided, SameSwitches.IsNothing, declared.difference.Difference.Difference}
use Rattle.of_diff.specs.{declared.difference.Differences.Differences, declared.difference.Undecided.Undecided}
use Rattle.of_alike.specs.declared.alike.Compared.{Compared}
use Rattle.of_diff_report.specs.declared.reserved.Limits.{Limits}
use Rattle.of_diff_report.specs.declared.writing.DiffVerdict.TheVariants.{Differs, Same, Undecided as Open}
use Rattle.of_diff_report.specs.{DiffFiles.AreFoundBetween, DiffFiles.IsVerdict, DiffFiles.diff_verdict, DiffFiles.verdict_on, DiffWords.is_reserved}

nothing_in : {A : Type 0} (x : A) → Contains [] x → ⊥
nothing_in x at = omega (arith, at.1)

some_more : (n : ℕ) → (suc n == 0) ≡ false
some_more n = grind (arith, nat_tests)

-- a frame that is in no difference and is not undecided
alike : {P : Type 0} (found : List Difference) (undecided : List Undecided) (frame : List ℕ) (port : ℕ) → found ≡ [] → undecided ≡ []
    → InDifferences found frame port ⊎ (InUndecided undecided frame port ⊎ P) → P
alike found undecided frame port f u (inl h) = absurd (nothing_in h.0 (subst (λ (l : List Difference). Contains l h.0) f h.1))
alike found undecided frame port f u (inr (inl h)) = absurd (nothing_in h.0 (subst (λ (l : List Undecided). Contains l h.0) u h.1))
alike found undecided frame port f u (inr (inr h)) = h

by_lists : (c : Compared) (steps : ℕ) (f g : Forwarding) (missing : List ℕ) (limits : Option Limits) (reserved : Bool) → is_reserved missing limits ≡ reserved → (ds : Differences) (found : List Difference) (undecided : List Undecided)
    → ds.found.items ≡ found → ds.undecided.items ≡ undecided → AreDifferences c (world_of f) (world_of g) steps ds → IsVerdict c f g (verdict_on missing limits ds)
by_lists c steps f g missing limits false e ds [] [] a b h = rw (e, a, b) (λ frame port received. alike ds.found.items ds.undecided.items frame port a b (h.all frame port received))
by_lists c steps f g missing limits false e ds [] (u ∷ us) a b h = rw (e, a, b, some_more (length us)) tt
by_lists c steps f g missing limits false e ds (d ∷ others) undecided a b h = rw (e, a, some_more (length others)) (d, h.real d (rw a (0, omega arith, refl)))
by_lists c steps f g missing limits true e ds [] undecided a b h = rw (e, a) tt
by_lists c steps f g missing limits true e ds (d ∷ others) undecided a b h = rw (e, a, some_more (length others)) (d, h.real d (rw a (0, omega arith, refl)))

pub verdict_means : (c : Compared) (steps : ℕ) (f g : Forwarding) (missing : List ℕ) (limits : Option Limits) (found : Option Differences) → AreFoundBetween c steps f g found → IsVerdict c f g (diff_verdict missing limits found)
verdict_means c steps f g missing limits None h = h.all
verdict_means c steps f g missing limits (Some ds) h = by_lists c steps f g missing limits (is_reserved missing limits) refl ds ds.found.items ds.undecided.items refl refl h.all

-- all frames are treated alike for certain only if no port is missing and the miss_send_len are the same
open_or_differs : (none : Bool) → (if none then Open else Differs) ≡ Same → ⊥
open_or_differs true e = cc
open_or_differs false e = cc

unreserved : (missing : List ℕ) (limits : Option Limits) (ds : Differences) (reserved : Bool) → is_reserved missing limits ≡ reserved → verdict_on missing limits ds ≡ Same → reserved ≡ false
unreserved missing limits ds false e h = refl
unreserved missing limits ds true e h = absurd (open_or_differs (length ds.found.items == 0) (rw e at h))

none_there : (missing : List ℕ) → is_reserved missing None ≡ false → missing ≡ []
none_there [] h = refl
none_there (port ∷ ports) h = absurd (let some : is_reserved (port ∷ ports) None ≡ true = rw (some_more (length ports)) refl in cc)

pub same_misses_none : (missing : List ℕ) (limits : Option Limits) (ds : Differences) → verdict_on missing limits ds ≡ Same → (missing ≡ []) × (limits ≡ None)
same_misses_none missing None ds h = (none_there missing (unreserved missing None ds (is_reserved missing None) refl h), refl)
same_misses_none missing (Some l) ds h = absurd (let none : is_reserved missing (Some l) ≡ false = unreserved missing (Some l) ds (is_reserved missing (Some l)) refl h in cc)

-- nothing is found, no port is missing, and the miss_send_len are the same
pub nothing_is_same : (missing : List ℕ) (limits : Option Limits) (found : Option Differences) → IsNothing found → missing ≡ [] → limits ≡ None → diff_verdict missing limits found ≡ Same
nothing_is_same missing limits None nothing none same = absurd nothing
nothing_is_same missing limits (Some ds) nothing none same = rw (none, same, nothing.0, nothing.1) refl
