-- What rivals do with a region, one after the other.
use Rattle.std.proofs.Common.{◌≡◌, ◌+◌, ℕ, List, Option, Some, None, below_more, sym, subst, refl}
use Rattle.std.{specs.Prelude.slice_get, specs.List.Contains, specs.Option.option_or, proofs.lemmas.List.Elements.All-contains, proofs.lemmas.List.Elements.All-from_recursion}
use Rattle.of_oxm.specs.declared.match_field.MatchField.{MatchField}
use Rattle.of_regions.specs.{Conditions.AreConditions, Conditions.IsCondition, declared.meeting.Meeting.TheVariants.Apart, declared.meeting.Meeting.TheVariants.Crosses}
use Rattle.of_regions.specs.{declared.region.Region.Region, declared.rival.Rival.Rival, Meeting.Meets, Searching.AreApartBefore, Searching.IsSplit}

-- none of the rivals before n matches any of the region, or the first that may match some was found
abbrev pub IsSplitSoFar : List Rival → Region → ℕ → Option (ℕ × MatchField) → Type 0
IsSplitSoFar rivals r n None = AreApartBefore rivals r n
IsSplitSoFar rivals r n (Some at) = IsSplit rivals r at.0 at.1

pub passed_on : (rivals : List Rival) (r : Region) (n : ℕ) (split : Option (ℕ × MatchField)) (q : Rival) → slice_get rivals n ≡ Some q → Meets r q.fields.now Apart → IsSplitSoFar rivals r n split → IsSplitSoFar rivals r (n + 1) split
passed_on rivals r n None q at apart s = λ i x lt there. below_more (λ (i : ℕ). (x : Rival) → slice_get rivals i ≡ Some x → Meets r x.fields.now Apart) n (λ i lt x there. s i x lt there) (λ x there. (let same : q ≡ x = cc in subst (λ (y : Rival). Meets r y.fields.now Apart) same apart)) i lt x there
passed_on rivals r n (Some found) q at apart s = s

-- the first of two that is there
abbrev first_or : Option (ℕ × MatchField) → ℕ × MatchField → Option (ℕ × MatchField)
first_or None at = Some at
first_or (Some found) at = Some found

pub or_is : (split : Option (ℕ × MatchField)) (at : ℕ × MatchField) → option_or split (Some at) ≡ first_or split at
or_is None at = refl
or_is (Some found) at = refl

pub crossed_on : (rivals : List Rival) (r : Region) (n : ℕ) (split : Option (ℕ × MatchField)) (q : Rival) (e : MatchField) → slice_get rivals n ≡ Some q → Meets r q.fields.now (Crosses e) → IsCondition e → IsSplitSoFar rivals r n split → (new : Option (ℕ × MatchField)) → new ≡ first_or split (n, e) → IsSplitSoFar rivals r (n + 1) new
crossed_on rivals r n None q e at crosses kept s new is = subst (IsSplitSoFar rivals r (n + 1)) (sym is) (record { rival = q; there = at; crosses = crosses; condition = kept; first = s })
crossed_on rivals r n (Some found) q e at crosses kept s new is = subst (IsSplitSoFar rivals r (n + 1)) (sym is) s

-- each field of a rival is a condition
pub condition_in : (m : List MatchField) (e : MatchField) → AreConditions m → Contains m e → IsCondition e
condition_in m e are c = All-contains IsCondition m e (All-from_recursion IsCondition m are) c
