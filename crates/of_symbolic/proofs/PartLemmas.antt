-- Parts, with more regions and with fewer packets.
use Rattle.std.proofs.Common.{◌≡◌, ◌⊎◌, ◌<◌, ◌+◌, ℕ, true, false, List, [], ◌∷◌, ◌++◌, length, get_or, take, Option, Some, sym, ap, subst, ◌∙◌, arith, inl, inr}
use Rattle.std.{specs.Prelude.slice_get, specs.List.Contains, specs.Global.Vec, proofs.lemmas.List.take_more}
use Rattle.std.proofs.{lemmas.List.Elements.Contains-append_left, lemmas.List.Elements.Contains-push, lemmas.List.Elements.Contains-push_cases, lemmas.Option.slice_get-get_or}
use Rattle.of_layers.specs.{declared.field.Field.Field, Reading.layers_of}
use Rattle.of_headers.specs.FieldMap.{field_map}
use Rattle.of_oxm.specs.{declared.match_field.MatchField.MatchField, Relations.matches_map}
use Rattle.of_rewrite.specs.Frames.{IsFrame}
use Rattle.of_frames.{specs.Rules.tagging_of, proofs.Shapes.tags_seen}
use Rattle.of_regions.specs.{declared.meeting.Meeting.TheVariants.Apart, declared.meeting.Meeting.TheVariants.Whole, declared.region.Region.Region, Conditions.AreConditions, Meeting.Meets}
use Rattle.of_regions.specs.{Narrowing.AreNarrowed, Regions.InRegion, Regions.IsSomeTagging, Searching.InSome}
use Rattle.of_symbolic.specs.Parts.{AreLeftRegions, AreListsOfConditions, InPart, IsListed, IsMatchedPart, IsUnmatchedPart, NoneOfMatches}
use Rattle.of_symbolic.specs.declared.part.Part.{Part}

-- ---- lists

pub none_of : {X : Type 0} (x : X) → Contains [] x → ⊥
none_of x c = absurd (omega (arith, c.1))

-- the element at an index
pub at_index : {X : Type 0} (xs : List X) (i : ℕ) (x : X) → x ≡ get_or xs i x → i < length xs → slice_get xs i ≡ Some x
at_index xs i x is lt = slice_get-get_or xs i x lt ∙ ap Some (sym is)

pub contains_index : {X : Type 0} (xs : List X) (i : ℕ) (x : X) → x ≡ get_or xs i x → i < length xs → Contains xs x
contains_index xs i x is lt = (i, lt, sym is)

-- one of the first, or that at the index
pub first_or_next : {X : Type 0} (xs : List X) (i : ℕ) (x y : X) → x ≡ get_or xs i x → i < length xs → Contains (take (i + 1) xs) y → Contains (take i xs) y ⊎ (x ≡ y)
first_or_next {X} xs i x y is lt c =
    let more : take (i + 1) xs ≡ take i xs ++ x ∷ [] = take_more xs i x lt ∙ ap (λ (z : X). take i xs ++ z ∷ []) (sym is) in
    Contains-push_cases (take i xs) x y (subst (λ (zs : List X). Contains zs y) more c)

pub still_first : {X : Type 0} (xs : List X) (i : ℕ) (x y : X) → x ≡ get_or xs i x → i < length xs → Contains (take i xs) y → Contains (take (i + 1) xs) y
still_first {X} xs i x y is lt c =
    let more : take (i + 1) xs ≡ take i xs ++ x ∷ [] = take_more xs i x lt ∙ ap (λ (z : X). take i xs ++ z ∷ []) (sym is) in
    subst (λ (zs : List X). Contains zs y) (sym more) (Contains-append_left (take i xs) (x ∷ []) y c)

pub next_first : {X : Type 0} (xs : List X) (i : ℕ) (x : X) → x ≡ get_or xs i x → i < length xs → Contains (take (i + 1) xs) x
next_first {X} xs i x is lt =
    let more : take (i + 1) xs ≡ take i xs ++ x ∷ [] = take_more xs i x lt ∙ ap (λ (z : X). take i xs ++ z ∷ []) (sym is) in
    subst (λ (zs : List X). Contains zs x) (sym more) (Contains-push (take i xs) x)

-- ---- regions

abbrev pub AreApart : List MatchField → List Region → Type 0
AreApart m regions = (fields : Field → Option ℕ) → InSome regions fields → matches_map m fields ≡ false

pub one_apart : (m : List MatchField) (regions : List Region) (i : ℕ) (r : Region) → r ≡ get_or regions i r → i < length regions → Meets r m Apart → AreApart m (take i regions) → AreApart m (take (i + 1) regions)
one_apart m regions i r is lt apart old fields h = elim (first_or_next regions i r h.0 is lt h.1) as (λ w. matches_map m fields ≡ false) [
  | inl first ↦ old fields (h.0, first, h.2)
  | inr same ↦ apart fields (subst (λ (x : Region). InRegion x fields) (sym same) h.2)
]

pub one_left : (m : List MatchField) (regions : List Region) (i : ℕ) (r : Region) (out : List Region) → r ≡ get_or regions i r → i < length regions → AreLeftRegions m (take i regions) out → AreLeftRegions m (take (i + 1) regions) (out ++ r ∷ [])
one_left m regions i r out is lt old = record {
  within = λ fields h. elim (Contains-push_cases out r h.0 h.1) as (λ w. InSome (take (i + 1) regions) fields) [
    | inl first ↦ (let o = old.within fields (h.0, first, h.2) in (o.0, still_first regions i r o.0 is lt o.1, o.2))
    | inr same ↦ (r, next_first regions i r is lt, subst (λ (x : Region). InRegion x fields) (sym same) h.2)
  ];
  all = λ fields h no. elim (first_or_next regions i r h.0 is lt h.1) as (λ w. InSome (out ++ r ∷ []) fields) [
    | inl first ↦ (let n = old.all fields (h.0, first, h.2) no in (n.0, Contains-append_left out (r ∷ []) n.0 n.1, n.2))
    | inr same ↦ (r, Contains-push out r, subst (λ (x : Region). InRegion x fields) (sym same) h.2)
  ];
}

pub one_dropped : (m : List MatchField) (regions : List Region) (i : ℕ) (r : Region) (out : List Region) → r ≡ get_or regions i r → i < length regions → Meets r m Whole → AreLeftRegions m (take i regions) out → AreLeftRegions m (take (i + 1) regions) out
one_dropped m regions i r out is lt whole old = record {
  within = λ fields h. (let o = old.within fields h in (o.0, still_first regions i r o.0 is lt o.1, o.2));
  all = λ fields h no. elim (first_or_next regions i r h.0 is lt h.1) as (λ w. InSome out fields) [
    | inl first ↦ old.all fields (h.0, first, h.2) no
    | inr same ↦ (let yes : matches_map m fields ≡ true = whole fields (subst (λ (x : Region). InRegion x fields) (sym same) h.2) in absurd (let both : true ≡ false = sym yes ∙ no in cc))
  ];
}

-- ---- frames

pub some_tagging : (frame : List ℕ) (port metadata : ℕ) → IsFrame frame → IsSomeTagging (field_map (layers_of frame) port metadata)
some_tagging frame port metadata h = (tagging_of (layers_of frame).tags, tags_seen frame port metadata h.1 h.0)

-- ---- the packets that a match does not match

pub unmatched_apart : (m : List MatchField) (part : Part) → AreApart m part.regions.items → IsUnmatchedPart m part part
unmatched_apart m part apart = record { within = λ fields h. (h, apart fields h.0); all = λ fields h no. h; conditions = λ c. c }

pub one_unlisted : (lacks : List (Vec MatchField)) (i : ℕ) (own : Vec MatchField) (m : List MatchField) → own ≡ get_or lacks i own → i < length lacks → (own.items ≡ m → ⊥) → ¬ (IsListed (take i lacks) m) → ¬ (IsListed (take (i + 1) lacks) m)
one_unlisted lacks i own m is lt other none listed = elim (first_or_next lacks i own listed.0 is lt listed.1) as (λ w. ⊥) [
  | inl first ↦ none (listed.0, first, listed.2)
  | inr same ↦ other (ap (λ (x : Vec MatchField). x.items) same ∙ listed.2)
]

pub unmatched_listed : (m : List MatchField) (part : Part) → IsListed part.lacks.items m → IsUnmatchedPart m part part
unmatched_listed m part listed = record {
  within = λ fields h. (h, ap (λ (x : List MatchField). matches_map x fields) (sym listed.2) ∙ h.1 listed.0 listed.1);
  all = λ fields h no. h;
  conditions = λ c. c;
}

-- each list of conditions, with one more
pub conditions_more : (old new : List (Vec MatchField)) (own : Vec MatchField) → new ≡ old ++ own ∷ [] → AreConditions own.items → AreListsOfConditions old → AreListsOfConditions new
conditions_more old new own is h each m c = elim (Contains-push_cases old own m (subst (λ (ms : List (Vec MatchField)). Contains ms m) is c)) as (λ w. AreConditions m.items) [
  | inl first ↦ each m first
  | inr same ↦ subst (λ (y : Vec MatchField). AreConditions y.items) same h
]

pub unmatched_more : (m : List MatchField) (old new : Part) (own : Vec MatchField) → AreLeftRegions m old.regions.items new.regions.items → new.lacks.items ≡ old.lacks.items ++ own ∷ [] → own.items ≡ m → AreConditions m → IsUnmatchedPart m old new
unmatched_more m old new own left lacks is kept = record {
  conditions = λ c. conditions_more old.lacks.items new.lacks.items own lacks (subst AreConditions (sym is) kept) c;
  within = λ fields h. (
    (left.within fields h.0, λ x c. h.1 x (subst (λ (ms : List (Vec MatchField)). Contains ms x) (sym lacks) (Contains-append_left old.lacks.items (own ∷ []) x c))),
    ap (λ (x : List MatchField). matches_map x fields) (sym is) ∙ h.1 own (subst (λ (ms : List (Vec MatchField)). Contains ms own) (sym lacks) (Contains-push old.lacks.items own)),
  );
  all = λ fields h no. (
    left.all fields h.0 no,
    λ x c. elim (Contains-push_cases old.lacks.items own x (subst (λ (ms : List (Vec MatchField)). Contains ms x) lacks c)) as (λ w. matches_map x.items fields ≡ false) [
      | inl first ↦ h.1 x first
      | inr same ↦ subst (λ (y : Vec MatchField). matches_map y.items fields ≡ false) same (ap (λ (y : List MatchField). matches_map y fields) is ∙ no)
    ],
  );
}

-- ---- those that it matches

-- the regions are narrowed, and the first lists of conditions match no more
pub record IsMatchedSoFar (m : List MatchField) (old : Part) (n : ℕ) (new : Part) : Type 0 where
  pub within : (fields : Field → Option ℕ) → InPart new fields → InSome old.regions.items fields × (matches_map m fields ≡ true) × NoneOfMatches (take n old.lacks.items) fields
  pub all : (fields : Field → Option ℕ) → IsSomeTagging fields → InSome old.regions.items fields → matches_map m fields ≡ true → NoneOfMatches (take n old.lacks.items) fields → InPart new fields
  pub conditions : AreListsOfConditions new.lacks.items

pub matched_begun : (m : List MatchField) (old new : Part) → AreNarrowed m old.regions.items new.regions.items → new.lacks.items ≡ [] → IsMatchedSoFar m old 0 new
matched_begun m old new are lacks = record {
  conditions = λ x c. absurd (none_of x (subst (λ (ms : List (Vec MatchField)). Contains ms x) lacks c));
  within = λ fields h. ((are.within fields h.0).0, (are.within fields h.0).1, λ x c. absurd (none_of x c));
  all = λ fields t h yes none. (are.all fields t h yes, λ x c. absurd (none_of x (subst (λ (ms : List (Vec MatchField)). Contains ms x) lacks c)));
}

pub matched_more : (m : List MatchField) (old : Part) (i : ℕ) (x : Vec MatchField) (new next : Part) → x ≡ get_or old.lacks.items i x → i < length old.lacks.items → IsMatchedSoFar m old i new → IsUnmatchedPart x.items new next → IsMatchedSoFar m old (i + 1) next
matched_more m old i x new next is lt so_far less = record {
  conditions = less.conditions so_far.conditions;
  within = λ fields h.
      let before = less.within fields h in
      let s = so_far.within fields before.0 in (
        s.0,
        s.1,
        λ y c. elim (first_or_next old.lacks.items i x y is lt c) as (λ w. matches_map y.items fields ≡ false) [
          | inl first ↦ s.2 y first
          | inr same ↦ subst (λ (z : Vec MatchField). matches_map z.items fields ≡ false) same before.1
        ],
      );
  all = λ fields t h yes none.
      less.all fields (so_far.all fields t h yes (λ y c. none y (still_first old.lacks.items i x y is lt c))) (none x (next_first old.lacks.items i x is lt));
}

pub matched_is : (m : List MatchField) (old : Part) (n : ℕ) (new : Part) → take n old.lacks.items ≡ old.lacks.items → IsMatchedSoFar m old n new → IsMatchedPart m old new
matched_is m old n new all h = record {
  conditions = h.conditions;
  within = λ fields i. (let s = h.within fields i in ((s.0, subst (λ (ms : List (Vec MatchField)). NoneOfMatches ms fields) all s.2), s.1));
  all = λ fields t i yes. h.all fields t i.0 yes (subst (λ (ms : List (Vec MatchField)). NoneOfMatches ms fields) (sym all) i.1);
}
