-- Branches of which some are kept.
use Rattle.std.proofs.Common.{◌≡◌, ◌<◌, ℕ, zero, suc, Bool, true, false, cond, List, [], ◌∷◌, length, Option, Some, None, refl, sym, ap, subst, ◌∙◌, arith, filter}
use Rattle.std.{specs.Prelude.slice_get, specs.List.Contains, proofs.lemmas.Bool.Decides.nat_tests, proofs.lemmas.List.length-map}
use Rattle.std.proofs.lemmas.Option.{get_or_from_slice_get, slice_get-get_or, slice_get_within}
use Rattle.of_layers.specs.declared.field.Field.{Field}
use Rattle.of_actions.specs.declared.action.Action.{Action}
use Rattle.of_table.{specs.declared.entry.Entry.Entry, specs.Entries.entry_of, specs.Entries.flows_of, specs.Table.winner_place, proofs.WinnerLemmas.winner_within}
use Rattle.of_symbolic.specs.{declared.branching.Branch.Branch, declared.part.Part.Part, Branches.AreBranches, Branches.HaveDistinctEntries}
use Rattle.of_symbolic_run.{specs.Cases.is_listed, proofs.NextLemmas.some_same}

pub listed_at : (branches : List Branch) (k : ℕ) (b : Branch) → slice_get branches k ≡ Some b → Contains branches b
listed_at branches k b at = (k, slice_get_within branches k b at, get_or_from_slice_get branches k b b at)

module _ (keep : Branch → Bool) where
  -- where a kept branch was
  record WasAt (branches : List Branch) (c : Branch) : Type 0 where
    place : ℕ
    there : slice_get branches place ≡ Some c
    kept : keep c ≡ true

  was_at : (branches : List Branch) (k : ℕ) (c : Branch) → slice_get (filter keep branches) k ≡ Some c → WasAt branches c
  was_at [] k c at = absurd cc
  was_at (b ∷ branches) k c at = by_test (λ i h. was_at branches i c h) (keep b) refl k at
    where
      later : WasAt branches c → WasAt (b ∷ branches) c
      later o = record { place = suc o.place; there = o.there; kept = o.kept }

      by_test : ((i : ℕ) → slice_get (filter keep branches) i ≡ Some c → WasAt branches c) → (t : Bool) → keep b ≡ t → (i : ℕ) → slice_get (cond t (b ∷ filter keep branches) (filter keep branches)) i ≡ Some c → WasAt (b ∷ branches) c
      by_test before true e zero h = record { place = 0; there = h; kept = subst (λ (x : Branch). keep x ≡ true) (some_same b c h) e }
      by_test before true e (suc i) h = later (before i h)
      by_test before false e i h = later (before i h)

  -- where it is
  is_at : (branches : List Branch) (n : ℕ) (c : Branch) → slice_get branches n ≡ Some c → keep c ≡ true → (k : ℕ) × (slice_get (filter keep branches) k ≡ Some c)
  is_at [] n c at kept = absurd cc
  is_at (b ∷ branches) zero c at kept = by_test (keep b) refl
    where
      by_test : (t : Bool) → keep b ≡ t → (k : ℕ) × (slice_get (cond t (b ∷ filter keep branches) (filter keep branches)) k ≡ Some c)
      by_test true e = (0, at)
      by_test false e = let no : true ≡ false = sym (subst (λ (x : Branch). keep x ≡ true) (sym (some_same b c at)) kept) ∙ e in absurd cc
  is_at (b ∷ branches) (suc n) c at kept = by_test (is_at branches n c at kept) (keep b)
    where
      by_test : (k : ℕ) × (slice_get (filter keep branches) k ≡ Some c) → (t : Bool) → (k : ℕ) × (slice_get (cond t (b ∷ filter keep branches) (filter keep branches)) k ≡ Some c)
      by_test o true = (suc o.0, o.1)
      by_test o false = o

  pub from_kept : (branches : List Branch) (c : Branch) → Contains (filter keep branches) c → Contains branches c
  from_kept branches c h = let o = was_at branches h.0 c (slice_get-get_or (filter keep branches) h.0 c h.1 ∙ ap Some h.2) in listed_at branches o.place c o.there

  pub kept_is : (branches : List Branch) (c : Branch) → Contains (filter keep branches) c → keep c ≡ true
  kept_is branches c h = let o = was_at branches h.0 c (slice_get-get_or (filter keep branches) h.0 c h.1 ∙ ap Some h.2) in o.kept

  to_kept : (branches : List Branch) (c : Branch) → Contains branches c → keep c ≡ true → Contains (filter keep branches) c
  to_kept branches c h kept = let o = is_at branches h.0 c (slice_get-get_or branches h.0 c h.1 ∙ ap Some h.2) kept in listed_at (filter keep branches) o.0 c o.1

  behind_first : (b : Branch) (branches : List Branch) → HaveDistinctEntries (b ∷ branches) → HaveDistinctEntries (filter keep branches) → HaveDistinctEntries (b ∷ filter keep branches)
  behind_first b branches once rest zero zero x y at_i at_j same = refl
  behind_first b branches once rest zero (suc j) x y at_i at_j same =
      let first = some_same b x at_i in
      let o = was_at branches j y at_j in
      let bad : 0 ≡ suc o.place = once 0 (suc o.place) b y refl o.there (ap (λ (z : Branch). z.entry) first ∙ same) in
      absurd (omega (arith, bad))
  behind_first b branches once rest (suc i) zero x y at_i at_j same =
      let first = some_same b y at_j in
      let o = was_at branches i x at_i in
      let bad : 0 ≡ suc o.place = once 0 (suc o.place) b x refl o.there (ap (λ (z : Branch). z.entry) first ∙ sym same) in
      absurd (omega (arith, bad))
  behind_first b branches once rest (suc i) (suc j) x y at_i at_j same = ap suc (rest i j x y at_i at_j same)

  without_first : (b : Branch) (branches : List Branch) → HaveDistinctEntries (b ∷ branches) → HaveDistinctEntries branches
  without_first b branches once i j x y at_i at_j same = let more : suc i ≡ suc j = once (suc i) (suc j) x y at_i at_j same in omega (arith, more)

  distinct_kept : (branches : List Branch) → HaveDistinctEntries branches → HaveDistinctEntries (filter keep branches)
  distinct_kept [] once = once
  distinct_kept (b ∷ branches) once = by_test (distinct_kept branches (without_first b branches once)) (keep b)
    where
      by_test : HaveDistinctEntries (filter keep branches) → (t : Bool) → HaveDistinctEntries (cond t (b ∷ filter keep branches) (filter keep branches))
      by_test rest true = behind_first b branches once rest
      by_test rest false = rest

abbrev is_kept : ℕ → Branch → Bool
is_kept most b = is_listed most b.entry

-- no packet hits an entry that the table does not have
pub listed_are : (told : Bool) (es : List Entry) (most : ℕ) (l : List Action) (metadata : ℕ) (part : Part) (branches : List Branch) → most ≡ length es → AreBranches told (flows_of es) l metadata part branches → AreBranches told (flows_of es) l metadata part (filter (λ b. is_listed most b.entry) branches)
listed_are told es most l metadata part branches is are = record {
  within = λ b there. are.within b (from_kept (is_kept most) branches b there);
  wins = λ b there. are.wins b (from_kept (is_kept most) branches b there);
  once = distinct_kept (is_kept most) branches are.once;
  all = λ frame port is_frame h.
      let b = are.all frame port is_frame h in
      (b.0, to_kept (is_kept most) branches b.0 b.1 (hit _ b.0.entry (are.wins b.0 b.1 frame port is_frame b.2)), b.2);
}
  where
    hit : (map : Field → Option ℕ) (entry : Option ℕ) → winner_place map (flows_of es) ≡ entry → is_listed most entry ≡ true
    hit map None won = refl
    hit map (Some k) won = let lt : k < length es = winner_within map es k won in grind (arith, nat_tests)

module _ (es : List Entry) (most : ℕ) (made kept : List Branch) (is : kept ≡ filter (λ b. is_listed most b.entry) made) where
  pub was_made : (b : Branch) → Contains kept b → Contains made b
  was_made b there = from_kept (is_kept most) made b (subst (λ (l : List Branch). Contains l b) is there)

  pub kept_are : (told : Bool) (l : List Action) (metadata : ℕ) (part : Part) → most ≡ length es → AreBranches told (flows_of es) l metadata part made → AreBranches told (flows_of es) l metadata part kept
  kept_are told l metadata part size are = subst (AreBranches told (flows_of es) l metadata part) (sym is) (listed_are told es most l metadata part made size are)

  pub are_listed : most ≡ length es → (b : Branch) → Contains kept b → is_listed (length (flows_of es)) b.entry ≡ true
  are_listed size b there =
      let own = kept_is (is_kept most) made b (subst (λ (l : List Branch). Contains l b) is there) in
      subst (λ (n : ℕ). is_listed n b.entry ≡ true) (size ∙ sym (length-map es entry_of)) own
