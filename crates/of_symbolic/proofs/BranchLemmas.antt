-- Branches of a part.
use Rattle.std.proofs.Common.{◌≡◌, ◌⊎◌, ◌<◌, ◌≤◌, ◌+◌, ℕ, zero, suc, true, false, List, [], ◌∷◌, ◌++◌, length, Option, Some, None, refl, sym, ap, subst, ◌∙◌, arith, inl, inr, below_more}
use Rattle.std.{specs.Prelude.slice_get, specs.List.Contains, specs.Global.Vec, proofs.lemmas.Bool.cases_lt}
use Rattle.std.proofs.{lemmas.List.Elements.Contains-append_left, lemmas.List.Elements.Contains-push, lemmas.List.Elements.Contains-push_cases, lemmas.Option.slice_get_past}
use Rattle.of_layers.specs.declared.field.Field.{Field}
use Rattle.of_oxm.specs.declared.match_field.MatchField.{MatchField}
use Rattle.of_regions.{specs.Regions.IsSomeTagging, proofs.SearchLemmas.contains_at}
use Rattle.of_symbolic.specs.Branching.{AddsBranch, AddsHit, HasOneMore, IsAhead, IsBranchBehind, IsHitAt, IsHitBranch, IsHitOrMiss, IsPartBehind, IsPartBehindAll, NoEntryAhead, is_agreed, ranked_place}
use Rattle.of_symbolic.specs.{declared.branching.Branch.Branch, declared.branching.Rank.Rank, declared.part.Part.Part, declared.pulled_entry.PulledEntry.PulledEntry, Branches.HaveDistinctEntries}
use Rattle.of_symbolic.specs.Parts.{AreListsOfConditions, InPart, IsMatchedPart, IsUnmatchedPart}

-- ---- behind entries

pub behind_matched : (p : PulledEntry) (m : Vec MatchField) (place : ℕ) (of : Option Rank) (old new : Part) → p.fields ≡ Some m → IsAhead p.priority place of → IsUnmatchedPart m.items old new → IsPartBehind p place of old new
behind_matched p m place of old new is ahead less = record {
  within = λ fields h. (let w = less.within fields h in (w.0, λ a. ap (λ (o : Option (Vec MatchField)). is_agreed o fields) is ∙ w.1));
  all = λ fields h no. less.all fields h (ap (λ (o : Option (Vec MatchField)). is_agreed o fields) (sym is) ∙ no ahead);
  conditions = less.conditions;
}

pub behind_none : (entries : List PulledEntry) (of : Option Rank) (old : Part) → IsPartBehindAll entries 0 of old old
behind_none entries of old = record { within = λ fields h. (h, λ k p lt. absurd (omega (arith, lt))); all = λ fields h none. h; conditions = λ c. c }

pub behind_more : (entries : List PulledEntry) (n : ℕ) (of : Option Rank) (p : PulledEntry) (old new next : Part) → slice_get entries n ≡ Some p → IsPartBehindAll entries n of old new → IsPartBehind p n of new next → IsPartBehindAll entries (n + 1) of old next
behind_more entries n of p old new next there so_far one = record {
  within = λ fields h.
      let w = one.within fields h in
      let s = so_far.within fields w.0 in (
        s.0,
        λ k q lt at. elim (cases_lt k n) as (λ x. IsAhead q.priority k of → is_agreed q.fields fields ≡ false) [
          | inl below ↦ s.1 k q below at
          | inr above ↦ last fields w.1 k q (omega (arith, lt, above)) at
        ],
      );
  all = λ fields h none. one.all fields (so_far.all fields h (λ k q lt. none k q (omega (arith, lt)))) (none n p (omega arith) there);
  conditions = λ c. one.conditions (so_far.conditions c);
}
  where
    last : (fields : Field → Option ℕ) → (IsAhead p.priority n of → is_agreed p.fields fields ≡ false) → (k : ℕ) (q : PulledEntry) → k ≡ n → slice_get entries k ≡ Some q → IsAhead q.priority k of → is_agreed q.fields fields ≡ false
    last fields none k q is at =
        let same : q ≡ p = (let here : slice_get entries n ≡ Some q = ap (slice_get entries) (sym is) ∙ at in cc) in
        subst (λ (x : PulledEntry). IsAhead x.priority k of → is_agreed x.fields fields ≡ false) (sym same)
        (subst (λ (i : ℕ). IsAhead p.priority i of → is_agreed p.fields fields ≡ false) (sym is) none)

-- ---- one more branch

pub one_more_kept : (P : Branch → Type 0) (old new : List Branch) (x : Branch) → HasOneMore P old new → Contains old x → Contains new x
one_more_kept P old new x (inl same) c = subst (λ (bs : List Branch). Contains bs x) (sym same) c
one_more_kept P old new x (inr more) c = subst (λ (bs : List Branch). Contains bs x) (sym more.1) (Contains-append_left old (more.0 ∷ []) x c)

one_more_cases : (P : Branch → Type 0) (old new : List Branch) (x : Branch) → HasOneMore P old new → Contains new x → Contains old x ⊎ P x
one_more_cases P old new x (inl same) c = inl (subst (λ (bs : List Branch). Contains bs x) same c)
one_more_cases P old new x (inr more) c = elim (Contains-push_cases old more.0 x (subst (λ (bs : List Branch). Contains bs x) more.1 c)) as (λ w. Contains old x ⊎ P x) [
  | inl before ↦ inl before
  | inr same ↦ inr (subst P same more.2)
]

one_more_weaker : (P Q : Branch → Type 0) (old new : List Branch) → ((b : Branch) → P b → Q b) → HasOneMore P old new → HasOneMore Q old new
one_more_weaker P Q old new f (inl same) = inl same
one_more_weaker P Q old new f (inr more) = inr (more.0, more.1, f more.0 more.2)

-- at a place of a list with one more element
pushed_at : (xs : List Branch) (x : Branch) (i : ℕ) (y : Branch) → slice_get (xs ++ x ∷ []) i ≡ Some y → (slice_get xs i ≡ Some y) ⊎ ((i ≡ length xs) × (x ≡ y))
pushed_at [] x zero y e = inr (refl, (let same : x ≡ y = cc in same))
pushed_at [] x (suc i) y e = absurd cc
pushed_at (z ∷ xs) x zero y e = inl e
pushed_at (z ∷ xs) x (suc i) y e = elim (pushed_at xs x i y e) as (λ w. (slice_get (z ∷ xs) (suc i) ≡ Some y) ⊎ ((suc i ≡ length (z ∷ xs)) × (x ≡ y))) [
  | inl before ↦ inl before
  | inr last ↦ inr (omega (arith, last.0), last.1)
]

-- one more of another entry
one_more_distinct : (P : Branch → Type 0) (old new : List Branch) (w : Option ℕ) → HasOneMore P old new → ((b : Branch) → P b → b.entry ≡ w) → ((b : Branch) → Contains old b → b.entry ≡ w → ⊥) → HaveDistinctEntries old → HaveDistinctEntries new
one_more_distinct P old new w (inl same) entry other once = subst HaveDistinctEntries (sym same) once
one_more_distinct P old new w (inr more) entry other once = subst HaveDistinctEntries (sym more.1) distinct
  where
    own : more.0.entry ≡ w
    own = entry more.0 more.2

    distinct : HaveDistinctEntries (old ++ more.0 ∷ [])
    distinct i j a b at_i at_j level = elim (pushed_at old more.0 i a at_i) as (λ w. i ≡ j) [
      | inl first ↦ elim (pushed_at old more.0 j b at_j) as (λ w. i ≡ j) [
        | inl second ↦ once i j a b first second level
        | inr last ↦ absurd (other a (contains_at old i a first) (level ∙ ap (λ (x : Branch). x.entry) (sym last.1) ∙ own))
      ]
      | inr last ↦ elim (pushed_at old more.0 j b at_j) as (λ w. i ≡ j) [
        | inl second ↦ absurd (other b (contains_at old j b second) (sym level ∙ ap (λ (x : Branch). x.entry) (sym last.1) ∙ own))
        | inr both ↦ last.0 ∙ sym both.0
      ]
    ]

module _ (part : Part) (entries : List PulledEntry) (m : List MatchField) (of : Option Rank) (matched chosen : Part) (is : IsMatchedPart m part matched) (behind : IsPartBehindAll entries (length entries) of matched chosen) (old : List Branch) where
  pub branch_pushed : (b : Branch) (new : List Branch) → new ≡ old ++ b ∷ [] → b.part ≡ chosen → b.entry ≡ ranked_place of → AddsBranch part entries m of old new
  branch_pushed b new grown own entry = record {
    grown = inr (
      b,
      grown,
      record {
        entry = entry;
        within = λ fields h. (let w = behind.within fields (subst (λ (q : Part). InPart q fields) own h) in let y = is.within fields w.0 in (y.0, y.1, w.1));
        conditions = subst (λ (q : Part). AreListsOfConditions q.lacks.items) (sym own) (behind.conditions is.conditions);
      },
    );
    all = λ fields t h yes none. (b, subst (λ (bs : List Branch). Contains bs b) (sym grown) (Contains-push old b), subst (λ (q : Part). InPart q fields) (sym own) (behind.all fields (is.all fields t h yes) none));
  }

-- ---- the branch of an entry, and that of a miss

pub hit_added : (part : Part) (entries : List PulledEntry) (k : ℕ) (p : PulledEntry) (m : Vec MatchField) (old new : List Branch) → slice_get entries k ≡ Some p → p.fields ≡ Some m
    → AddsBranch part entries m.items (Some (record { priority = p.priority; place = k })) old new → AddsHit part entries (Some k) old new
hit_added part entries k p m old new there is adds = record {
  grown = one_more_weaker (IsBranchBehind part entries m.items rank) (IsHitBranch part entries (Some k)) old new (λ b own. record {
    entry = own.entry;
    within = λ fields h. (let o = own.within fields h in (o.0, record { entry = p; there = there; matches = ap (λ (x : Option (Vec MatchField)). is_agreed x fields) is ∙ o.1; first = o.2 }));
    conditions = own.conditions;
  }) adds.grown;
  all = λ fields t h hit.
      let same : hit.entry ≡ p = (let at = hit.there in cc) in
      adds.all fields t h (ap (λ (x : Option (Vec MatchField)). is_agreed x fields) (sym is) ∙ ap (λ (x : PulledEntry). is_agreed x.fields fields) (sym same) ∙ hit.matches)
      (subst (λ (x : PulledEntry). NoEntryAhead entries (Some (record { priority = x.priority; place = k })) fields) same hit.first);
}
  where
    rank : Option Rank
    rank = Some (record { priority = p.priority; place = k })

-- an entry that never matches
pub never_added : (part : Part) (entries : List PulledEntry) (k : ℕ) (p : PulledEntry) (old : List Branch) → slice_get entries k ≡ Some p → p.fields ≡ None → AddsHit part entries (Some k) old old
never_added part entries k p old there is = record {
  grown = inl refl;
  all = λ fields t h hit.
      let same : hit.entry ≡ p = (let at = hit.there in cc) in
      let no : false ≡ true = ap (λ (x : Option (Vec MatchField)). is_agreed x fields) (sym is) ∙ ap (λ (x : PulledEntry). is_agreed x.fields fields) (sym same) ∙ hit.matches in
      absurd cc;
}

pub miss_added : (part : Part) (entries : List PulledEntry) (old new : List Branch) → AddsBranch part entries [] None old new → AddsHit part entries None old new
miss_added part entries old new adds = record {
  grown = one_more_weaker (IsBranchBehind part entries [] None) (IsHitBranch part entries None) old new (λ b own. record {
    entry = own.entry;
    within = λ fields h. (let o = own.within fields h in (o.0, o.2));
    conditions = own.conditions;
  }) adds.grown;
  all = λ fields t h none. adds.all fields t h refl none;
}

-- ---- the branches of the first entries

-- a branch has the packets of the part that hit its entry
abbrev pub IsOwnBranch : Part → List PulledEntry → Branch → Type 0
IsOwnBranch part entries b = IsHitBranch part entries b.entry b

own_branch : (part : Part) (entries : List PulledEntry) (w : Option ℕ) (b : Branch) → IsHitBranch part entries w b → IsOwnBranch part entries b
own_branch part entries w b own = subst (λ (v : Option ℕ). IsHitBranch part entries v b) (sym own.entry) own

pub record AreFirstBranches (part : Part) (entries : List PulledEntry) (n : ℕ) (branches : List Branch) : Type 0 where
  pub each : (b : Branch) → Contains branches b → IsOwnBranch part entries b
  pub places : (b : Branch) → Contains branches b → (k : ℕ) × (k < n) × (b.entry ≡ Some k)
  pub once : HaveDistinctEntries branches
  pub all : (k : ℕ) → k < n → (fields : Field → Option ℕ) → IsSomeTagging fields → InPart part fields → IsHitAt entries k fields → (b : Branch) × Contains branches b × InPart b.part fields

pub branches_more : (part : Part) (entries : List PulledEntry) (n : ℕ) (old new : List Branch) → AreFirstBranches part entries n old → AddsHit part entries (Some n) old new → AreFirstBranches part entries (n + 1) new
branches_more part entries n old new are adds = record {
  each = λ b c. elim (cases b c) as (λ w. IsOwnBranch part entries b) [ inl before ↦ are.each b before | inr own ↦ own_branch part entries (Some n) b own ];
  places = λ b c. elim (cases b c) as (λ w. (k : ℕ) × (k < n + 1) × (b.entry ≡ Some k)) [
    | inl before ↦ (let k = are.places b before in (k.0, omega (arith, k.1), k.2))
    | inr own ↦ (n, omega arith, own.entry)
  ];
  once = one_more_distinct (IsHitBranch part entries (Some n)) old new (Some n) adds.grown (λ b own. own.entry) (λ b c e. (let k = are.places b c in let same : k.0 ≡ n = below k.0 (sym k.2 ∙ e) in absurd (omega (arith, k.1, same)))) are.once;
  all = below_more (λ (k : ℕ). (fields : Field → Option ℕ) → IsSomeTagging fields → InPart part fields → IsHitAt entries k fields → (b : Branch) × Contains new b × InPart b.part fields) n
      (λ k lt fields t h hit. (let b = are.all k lt fields t h hit in (b.0, one_more_kept (IsHitBranch part entries (Some n)) old new b.0 adds.grown b.1, b.2)))
      (λ fields t h hit. adds.all fields t h hit);
}
  where
    cases : (b : Branch) → Contains new b → Contains old b ⊎ IsHitBranch part entries (Some n) b
    cases b c = one_more_cases (IsHitBranch part entries (Some n)) old new b adds.grown c

    below : (k : ℕ) → Some k ≡ Some n → k ≡ n
    below k e = cc

-- all of them, with those that miss
pub record AreHitBranches (part : Part) (entries : List PulledEntry) (branches : List Branch) : Type 0 where
  pub each : (b : Branch) → Contains branches b → IsOwnBranch part entries b
  pub once : HaveDistinctEntries branches
  pub all : (w : Option ℕ) (fields : Field → Option ℕ) → IsSomeTagging fields → InPart part fields → IsHitOrMiss entries w fields → (b : Branch) × Contains branches b × InPart b.part fields

pub branches_done : (part : Part) (entries : List PulledEntry) (n : ℕ) (old new : List Branch) → length entries ≤ n → AreFirstBranches part entries n old → AddsHit part entries None old new → AreHitBranches part entries new
branches_done part entries n old new most are adds = record {
  each = λ b c. elim (one_more_cases (IsHitBranch part entries None) old new b adds.grown c) as (λ w. IsOwnBranch part entries b) [ inl before ↦ are.each b before | inr own ↦ own_branch part entries None b own ];
  once = one_more_distinct (IsHitBranch part entries None) old new None adds.grown (λ b own. own.entry) (λ b c e. (let k = are.places b c in let g : Some k.0 ≡ None = sym k.2 ∙ e in absurd cc)) are.once;
  all = by_entry;
}
  where
    by_entry : (w : Option ℕ) (fields : Field → Option ℕ) → IsSomeTagging fields → InPart part fields → IsHitOrMiss entries w fields → (b : Branch) × Contains new b × InPart b.part fields
    by_entry None fields t h hit = adds.all fields t h hit
    by_entry (Some k) fields t h hit = elim (cases_lt k n) as (λ w. (b : Branch) × Contains new b × InPart b.part fields) [
      | inl lt ↦ (let b = are.all k lt fields t h hit in (b.0, one_more_kept (IsHitBranch part entries None) old new b.0 adds.grown b.1, b.2))
      | inr le ↦ (let past : Some hit.entry ≡ None = sym hit.there ∙ slice_get_past entries k (omega (arith, most, le)) in absurd cc)
    ]
