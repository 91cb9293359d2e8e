-- The groups as the machine sees them.
use Rattle.std.proofs.Common.{◌≡◌, ℕ, ◌<◌, Bool, true, false, eqb, List, [], ◌∷◌, Option, Some, None, Bor, refl, ◌∙◌}
use Rattle.std.{specs.List.list_any, specs.Prelude.not, specs.Option.option_copied, specs.Option.is_some, proofs.lemmas.Bool.eq-eqb}
use Rattle.of_actions.specs.{declared.action.Action.Action, declared.action.Action.TheVariants.Group as ToGroup}
use Rattle.of_groups.specs.{declared.group.Group.Group, Buckets.sends, Groups.bucket_at, Groups.find_group, Chains.chain, Faults.is_absent}
use Rattle.of_groups.proofs.{ChainLemmas.there_found, NameLemmas.or_first, NameLemmas.or_true, WorldLemmas.IsServed, WorldLemmas.AllServed}
use Rattle.of_machine.specs.{TheWorld.TheWorld, Sound.IsBelow, Sound.AllBelow, Sound.IsBucket, Sound.AllBuckets}

-- a group that is not found does not exist
pub none_absent : (n : ℕ) (groups : List Group) (found : Option (Bor Group)) (none : Bool) → is_some found ≡ not none → option_copied found ≡ find_group n groups → none ≡ is_absent groups n
none_absent n groups None true told e = rw (there_found n groups, ← e) refl
none_absent n groups None false told e = absurd cc
none_absent n groups (Some g) true told e = absurd cc
none_absent n groups (Some g) false told e = rw (there_found n groups, ← e) refl

module _ (w : TheWorld) (groups : List Group) (chains : (g : ℕ) → w.chain g ≡ chain groups g) (buckets : (g place : ℕ) → w.bucket g place ≡ bucket_at groups g place) where
  below_one : (n : ℕ) (a : Action) → ((m : ℕ) → sends (λ k. eqb k m) a ≡ true → chain groups m < chain groups n) → IsBelow w (w.chain n) a
  below_one n (ToGroup g) h = rw (chains g, chains n) (h g (eq-eqb g g refl))
  below_one n other h = tt

  all_below : (n : ℕ) (actions : List Action) → ((m : ℕ) → list_any (sends (λ k. eqb k m)) actions ≡ true → chain groups m < chain groups n) → AllBelow w (w.chain n) actions
  all_below n [] h = tt
  all_below n (a ∷ rest) h = (
    below_one n a (λ m s. h m (or_first (sends (λ k. eqb k m) a) (list_any (sends (λ k. eqb k m)) rest) s)),
    all_below n rest (λ m s. h m (or_true (sends (λ k. eqb k m) a) (list_any (sends (λ k. eqb k m)) rest) s)),
  )

  is_bucket : (n place : ℕ) → IsServed groups n place → IsBucket w n place
  is_bucket n place s = record {
    actions = s.actions;
    there = buckets n place ∙ s.there;
    served = s.served;
    below = all_below n s.actions s.below;
  }

  -- the groups satisfy the invariants of a world
  pub are_buckets : (n : ℕ) (places : List ℕ) → AllServed groups n places → AllBuckets w n places
  are_buckets n [] s = tt
  are_buckets n (place ∷ rest) s = (is_bucket n place s.0, are_buckets n rest s.1)
