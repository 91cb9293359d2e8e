-- What is known of the TTL.
use Rattle.std.proofs.Common.{◌≡◌, ◌≤◌, ◌<◌, ◌+◌, ◌%◌, ◌^◌, ℕ, Bool, true, false, cond, List, [], ◌∷◌, ◌++◌, length, get_or, take, Option, Some, None, refl, sym, ap, ◌∙◌, arith}
use Rattle.std.{specs.Prelude.nat_le, specs.Prelude.nat_lt, specs.List.fold, specs.Option.option_map, proofs.lemmas.Bool.le-leb, proofs.lemmas.Bool.Decides.nat_tests, proofs.lemmas.List.take_more}
use Rattle.of_layers.specs.Reading.{layers_of}
use Rattle.of_rewrite.specs.{Frames.IsFrame, TimeToLive.ttl_of, Views.View, Views.view_of}
use Rattle.of_actions.specs.declared.action.Action.{Action}
use Rattle.of_actions.specs.declared.action.Action.TheVariants as actions
use Rattle.of_symbolic.specs.Actions.{AreRewriting, call_of, frame_of_actions, view_by, view_of_actions}
use Rattle.of_symbolic.proofs.Rewriting.{views_follow_all}
use Rattle.of_symbolic_run.specs.TimesToLive.{IsBelowMost, expires, is_last, is_up_to, known_ttl, less, ttl_limit_of, one_less, ttl_as, ttl_by, ttl_decremented}
use Rattle.of_symbolic_run.specs.{declared.known_ttl.KnownTtl.KnownTtl, declared.known_ttl.KnownTtl.TheVariants.Less, declared.known_ttl.KnownTtl.TheVariants.Fixed}
use Rattle.of_symbolic_run.proofs.FrameLemmas.{own_view, ttl_small}

-- ---- numbers

less_zero : (t : ℕ) → less 0 t ≡ t
less_zero t = grind (arith, nat_tests)

less_more : (n t : ℕ) → one_less (less n t) ≡ less (n + 1) t
less_more n t = grind (arith, nat_tests)

pub as_decremented : (k : KnownTtl) (t : ℕ) → one_less (ttl_as k t) ≡ ttl_as (ttl_decremented k) t
as_decremented (Less n) t = less_more n t
as_decremented (Fixed c) t = refl

-- ---- views

abbrev ttl_by_known : KnownTtl → Option ℕ → Option ℕ
ttl_by_known k o = option_map (ttl_as k) o

one_by : (a : Action) (v : View) (k : KnownTtl) (o : Option ℕ) → v.ttl ≡ ttl_by_known k o → (view_by (call_of a) v).ttl ≡ ttl_by_known (ttl_by a k) o
one_by (actions.SetNwTtl t) v k o h = ap (option_map (λ (x : ℕ). t % 2 ^ 8)) h ∙ twice o
  where
    twice : (o : Option ℕ) → option_map (λ (x : ℕ). t % 2 ^ 8) (ttl_by_known k o) ≡ ttl_by_known (Fixed (t % 2 ^ 8)) o
    twice None = refl
    twice (Some x) = refl
one_by actions.DecNwTtl v k o h = ap (option_map one_less) h ∙ twice o
  where
    twice : (o : Option ℕ) → option_map one_less (ttl_by_known k o) ≡ ttl_by_known (ttl_decremented k) o
    twice None = refl
    twice (Some x) = ap (λ (y : ℕ). Some y) (as_decremented k x)
one_by other v k o h = h

all_by : (l : List Action) (v : View) (k : KnownTtl) (o : Option ℕ) → v.ttl ≡ ttl_by_known k o → (view_of_actions l v).ttl ≡ ttl_by_known (fold (λ k a. ttl_by a k) k l) o
all_by [] v k o h = h
all_by (a ∷ l) v k o h = all_by l (view_by (call_of a) v) (ttl_by a k) o (one_by a v k o h)

at_first : (o : Option ℕ) → o ≡ ttl_by_known (Less 0) o
at_first None = refl
at_first (Some t) = ap (λ (x : ℕ). Some x) (sym (less_zero t))

-- the TTL of the packet
pub ttl_known : (l : List Action) (frame : List ℕ) → IsFrame frame → AreRewriting l → ttl_of (layers_of (frame_of_actions l frame)) ≡ option_map (ttl_as (known_ttl l)) (ttl_of (layers_of frame))
ttl_known l frame h rewriting =
    let v = views_follow_all l frame (view_of frame) h rewriting (own_view frame) in
    sym v.ttl ∙ all_by l (view_of frame) (Less 0) (ttl_of (layers_of frame)) (at_first (ttl_of (layers_of frame)))

-- ---- the limit

less_last : (n t : ℕ) → t < 256 → nat_le (less n t) 1 ≡ nat_le t (cond (nat_lt n 255) (n + 1) 255)
less_last n t fits = grind (arith, nat_tests)

fixed_last : (b : Bool) (t : ℕ) → t < 256 → b ≡ is_up_to (cond b (Some 255) None) (Some t)
fixed_last true t fits = sym (le-leb t 255 (omega (arith, fits)))
fixed_last false t fits = refl

known_last : (k : KnownTtl) (t : ℕ) → t < 256 → nat_le (ttl_as k t) 1 ≡ is_up_to (ttl_limit_of k) (Some t)
known_last (Less n) t fits = less_last n t fits
known_last (Fixed c) t fits = fixed_last (nat_le c 1) t fits

none_up_to : (limit : Option ℕ) → is_up_to limit None ≡ false
none_up_to None = refl
none_up_to (Some n) = refl

-- DEC_NW_TTL expires for the packet exactly if the TTL of the frame is at most the limit
pub last_is : (l : List Action) (frame : List ℕ) → IsFrame frame → AreRewriting l → is_last (ttl_of (layers_of (frame_of_actions l frame))) ≡ expires (ttl_limit_of (known_ttl l)) frame
last_is l frame h rewriting = ap is_last (ttl_known l frame h rewriting) ∙ by_ttl (ttl_of (layers_of frame)) refl
  where
    by_ttl : (o : Option ℕ) → ttl_of (layers_of frame) ≡ o → is_last (option_map (ttl_as (known_ttl l)) o) ≡ is_up_to (ttl_limit_of (known_ttl l)) o
    by_ttl None is = sym (none_up_to (ttl_limit_of (known_ttl l)))
    by_ttl (Some t) is = known_last (known_ttl l) t (ttl_small frame t h is)

-- ---- the loop

abbrev pub IsWithin : ℕ → KnownTtl → Type 0
IsWithin i (Less n) = n ≤ i
IsWithin i (Fixed t) = Unit {0}

later : (i : ℕ) (k : KnownTtl) → IsWithin i k → IsWithin (i + 1) k
later i (Less n) h = omega (arith, h)
later i (Fixed t) h = tt

pub within_more : (i : ℕ) (a : Action) (k : KnownTtl) → IsWithin i k → IsWithin (i + 1) (ttl_by a k)
within_more i (actions.SetNwTtl t) k h = tt
within_more i actions.DecNwTtl (Less n) h = omega (arith, h)
within_more i actions.DecNwTtl (Fixed t) h = tt
within_more i other k h = later i k h

pub below_most : (i : ℕ) (k : KnownTtl) → i + 1 < 2 ^ 64 → IsWithin i k → IsBelowMost k
below_most i (Less n) fits h = omega (arith, fits, h)
below_most i (Fixed t) fits h = tt

pub known_more : (l : List Action) (i : ℕ) (d : Action) (k : KnownTtl) → i < length l → k ≡ known_ttl (take i l) → ttl_by (get_or l i d) k ≡ known_ttl (take (i + 1) l)
known_more l i d k lt is = ap (ttl_by (get_or l i d)) is ∙ sym (ap known_ttl (take_more l i d lt) ∙ folded (take i l) (get_or l i d) (Less 0))
  where
    folded : (xs : List Action) (a : Action) (k : KnownTtl) → fold (λ k a. ttl_by a k) k (xs ++ a ∷ []) ≡ ttl_by a (fold (λ k a. ttl_by a k) k xs)
    folded [] a k = refl
    folded (x ∷ xs) a k = folded xs a (ttl_by x k)
