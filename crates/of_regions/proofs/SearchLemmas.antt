-- How a search goes on.
use Rattle.std.proofs.Common.{◌≡◌, ℕ, zero, suc, ◌⊎◌, ◌<◌, ◌+◌, true, List, [], ◌∷◌, ◌++◌, length, map, Option, Some, None, refl, sym, ap, subst, ◌∙◌, arith, inl, inr}
use Rattle.std.proofs.lemmas.List.Elements.{Contains-append_cases, Contains-append_left, Contains-append_right, Contains-push, Contains-push_cases}
use Rattle.std.{specs.Prelude.slice_get, specs.List.Contains, proofs.lemmas.List.get_or-map, proofs.lemmas.List.length-map, proofs.lemmas.List.map-append, proofs.lemmas.List.map_push}
use Rattle.std.proofs.lemmas.Option.{slice_get-get_or}
use Rattle.of_layers.specs.{declared.field.Field.Field, Reading.layers_of}
use Rattle.of_headers.specs.FieldMap.{field_map}
use Rattle.of_oxm.specs.{declared.match_field.MatchField.MatchField, Relations.matches_map}
use Rattle.of_frames.specs.{declared.shape.Shape.Shape, declared.shape.Tagging.Tagging, Rules.HasShape, Rules.IsTagging, Rules.shape_of, Rules.tagging_of}
use Rattle.of_frames.proofs.Shapes.{shaped, tags_seen}
use Rattle.of_regions.specs.Searching.{IsOfNoPort, NoneReceived, TakesSome, AreApartBefore, AreSteps, AreTaking, IsFoundBySearch, InRests, InSome, IsRivalled, IsSplit, IsState, IsStep, IsTakenByRival, IsUnreceived, IsUnrivalled, regions_in}
use Rattle.of_regions.specs.{declared.looking.Rest.Rest, declared.region.Region.Region, declared.rival.Rival.Rival, Naming.with_place, Dividing.AreDividedBy, Regions.InRegion}
use Rattle.of_regions.specs.{Witness.HasNoIngress, Witness.fields_in, declared.searching.Found.Found, declared.searching.Found.TheVariants.Undecided}
use Rattle.of_regions.proofs.NamingLemmas.{is_named, still_ascending}

none_of : {X : Type 0} (x : X) → Contains [] x → ⊥
none_of x c = absurd (omega (arith, c.1))

-- an element at its place
pub contains_at : {X : Type 0} (xs : List X) (i : ℕ) (x : X) → slice_get xs i ≡ Some x → Contains xs x
contains_at [] i x e = absurd cc
contains_at (y ∷ xs) zero x e = (0, omega arith, (let same : y ≡ x = cc in same))
contains_at (y ∷ xs) (suc i) x e = let c = contains_at xs i x e in (suc c.0, omega (arith, c.1), c.2)

pub at_place : {X : Type 0} (xs : List X) (x : X) → Contains xs x → (i : ℕ) × (i < length xs) × (slice_get xs i ≡ Some x)
at_place xs x c = (c.0, c.1, slice_get-get_or xs c.0 x c.1 ∙ ap Some c.2)

-- ---- what is found

pub unrivalled : (rivals : List Rival) (r : Region) → AreApartBefore rivals r (length rivals) → (fields : Field → Option ℕ) → InRegion r fields → IsUnrivalled rivals fields
unrivalled rivals r apart fields h q c = let at = at_place rivals q c in apart at.0 q at.1 at.2 fields h

pub regions_begun : (regions : List Region) → regions_in (map (λ r. record { region = r; from = 0 }) regions) ≡ regions
regions_begun [] = refl
regions_begun (r ∷ regions) = ap (λ (rs : List Region). r ∷ rs) (regions_begun regions)

-- ---- the state of a search

module _ (start : List Region) (rivals : List Rival) where
  -- at the start
  pub begun : IsState start rivals (map (λ r. record { region = r; from = 0 }) start) [] None
  begun = record {
    passed = λ x c i q lt at. (let from = fresh start x c in absurd (omega (arith, lt, from.2)));
    within = λ x c fields h. (let from = fresh start x c in (from.0, from.1.0, subst (λ (r : Region). InRegion r fields) from.1.1 h));
    covered = λ none shape t fields a b m. inl (rest_of start m.0 m.1 fields m.2);
    received = λ shape t fields a b m. inl (inl (rest_of start m.0 m.1 fields m.2));
    named = λ j c. absurd (none_of j c);
    ascending = tt;
    kept = tt;
  }
    where
      fresh : (regions : List Region) (x : Rest) → Contains (map (λ r. record { region = r; from = 0 }) regions) x → (r : Region) × (Contains regions r × (x.region ≡ r)) × (x.from ≡ 0)
      fresh [] x c = absurd (none_of x c)
      fresh (r ∷ regions) x c = elim (Contains-append_cases (record { region = r; from = 0 } ∷ []) (map (λ r. record { region = r; from = 0 }) regions) x c) as (λ w. (s : Region) × (Contains (r ∷ regions) s × (x.region ≡ s)) × (x.from ≡ 0)) [
        | inl first ↦ (let e = only first in (r, ((0, omega arith, refl), sym (ap (λ (y : Rest). y.region) e)), sym (ap (λ (y : Rest). y.from) e)))
        | inr behind ↦ (let y = fresh regions x behind in (y.0, ((suc y.1.0.0, omega (arith, y.1.0.1), y.1.0.2), y.1.1), y.2))
      ]
        where
          first_rest : Rest
          first_rest = record { region = r; from = 0 }

          only : Contains (first_rest ∷ []) x → first_rest ≡ x
          only c = elim (Contains-push_cases [] first_rest x c) as (λ w. first_rest ≡ x) [ inl none ↦ absurd (none_of x none) | inr e ↦ e ]

      rest_of : (regions : List Region) (r : Region) → Contains regions r → (fields : Field → Option ℕ) → InRegion r fields → InRests (map (λ r. record { region = r; from = 0 }) regions) fields
      rest_of regions r c fields h =
          let x : Rest = record { region = r; from = 0 } in
          (x, (c.0, rw (length-map {B = Rest} regions (λ (r : Region). record { region = r; from = 0 })) c.1, get_or-map (λ (r : Region). record { region = r; from = 0 }) regions c.0 r x c.1 ∙ ap (λ (s : Region). record { region = s; from = 0 }) c.2), h)

  -- at the end
  pub taking : (names : List ℕ) (rests : List Rest) → rests ≡ [] → IsState start rivals rests names None → AreTaking start rivals names
  taking names rests e s = record {
    named = s.named;
    covered = λ frame port metadata is m.
        elim (s.covered refl (shape_of (layers_of frame).body) (tagging_of (layers_of frame).tags) (field_map (layers_of frame) port metadata) (shaped frame port metadata is.1 is.0) (tags_seen frame port metadata is.1 is.0) m)
        as (λ w. IsRivalled rivals names (field_map (layers_of frame) port metadata)) [
          | inl left ↦ absurd (none_of left.0 (subst (λ xs. Contains xs left.0) e left.1))
          | inr rivalled ↦ rivalled
        ];
    ascending = s.ascending;
  }

  -- nothing is left that a switch receives
  pub none_received : (names : List ℕ) (rests : List Rest) (unreceived : Option Region) → rests ≡ [] → IsState start rivals rests names unreceived → NoneReceived start rivals
  none_received names rests unreceived e s p received m free =
      let is = received.frame_is in
      let fields = fields_in p in
      elim (s.received (shape_of (layers_of p.frame.items).body) (tagging_of (layers_of p.frame.items).tags) fields (shaped p.frame.items p.in_port p.metadata is.1 is.0) (tags_seen p.frame.items p.in_port p.metadata is.1 is.0) m)
      as (λ w. ⊥) [
        | inl known ↦ elim known as (λ w. ⊥) [
          | inl left ↦ none_of left.0 (subst (λ xs. Contains xs left.0) e left.1)
          | inr rivalled ↦ (let yes = rivalled.3 in let no = free rivalled.0 rivalled.1 in absurd cc)
        ]
        | inr odd ↦ odd received.ingress
      ]

  module _ (rests : List Rest) (x : Rest) (names : List ℕ) (unreceived : Option Region) (s : IsState start rivals (rests ++ x ∷ []) names unreceived) where
    others_in : (y : Rest) → Contains rests y → Contains (rests ++ x ∷ []) y
    others_in y c = Contains-append_left rests (x ∷ []) y c

    pub last_passed : AreApartBefore rivals x.region x.from
    last_passed = s.passed x (Contains-push rests x)

    pub last_within : (fields : Field → Option ℕ) → InRegion x.region fields → InSome start fields
    last_within = s.within x (Contains-push rests x)

    -- what was covered is, if what was in the last region is in what comes in its place
    covers : (P : (Field → Option ℕ) → Type 0) → ((fields : Field → Option ℕ) (s : Shape) (t : Tagging) → HasShape s fields → IsTagging t fields → InRegion x.region fields → P fields) → unreceived ≡ None
        → (s : Shape) (t : Tagging) (fields : Field → Option ℕ) → HasShape s fields → IsTagging t fields → InSome start fields → (InRests rests fields ⊎ P fields) ⊎ IsRivalled rivals names fields
    covers P f none shape t fields a b m = elim (s.covered none shape t fields a b m) as (λ w. (InRests rests fields ⊎ P fields) ⊎ IsRivalled rivals names fields) [
      | inl left ↦ inl (elim (Contains-push_cases rests x left.0 left.1) as (λ w. InRests rests fields ⊎ P fields) [
        | inl old ↦ inl (left.0, old, left.2)
        | inr same ↦ inr (f fields shape t a b (subst (λ (y : Rest). InRegion y.region fields) (sym same) left.2))
      ])
      | inr taken ↦ inr taken
    ]

    -- the same, of what a switch may receive
    receives : (P : (Field → Option ℕ) → Type 0) → ((fields : Field → Option ℕ) (s : Shape) (t : Tagging) → HasShape s fields → IsTagging t fields → InRegion x.region fields → P fields)
        → (s : Shape) (t : Tagging) (fields : Field → Option ℕ) → HasShape s fields → IsTagging t fields → InSome start fields → ((InRests rests fields ⊎ P fields) ⊎ IsRivalled rivals names fields) ⊎ IsOfNoPort fields
    receives P f shape t fields a b m = elim (s.received shape t fields a b m) as (λ w. ((InRests rests fields ⊎ P fields) ⊎ IsRivalled rivals names fields) ⊎ IsOfNoPort fields) [
      | inl known ↦ inl (elim known as (λ w. (InRests rests fields ⊎ P fields) ⊎ IsRivalled rivals names fields) [
        | inl left ↦ inl (elim (Contains-push_cases rests x left.0 left.1) as (λ w. InRests rests fields ⊎ P fields) [
          | inl old ↦ inl (left.0, old, left.2)
          | inr same ↦ inr (f fields shape t a b (subst (λ (y : Rest). InRegion y.region fields) (sym same) left.2))
        ])
        | inr taken ↦ inr taken
      ])
      | inr odd ↦ inr odd
    ]

    -- a rival takes the last region
    pub taken_state : (i : ℕ) (t : IsTakenByRival rivals x.region i) → IsState start rivals rests (with_place t.rival.name names) unreceived
    taken_state i t =
        let n = is_named t.rival.name names in
        let there = contains_at rivals i t.rival t.there in
        record {
          passed = λ y c. s.passed y (others_in y c);
          within = λ y c. s.within y (others_in y c);
          covered = λ none shape tag fields a b m. elim (covers (λ fields. matches_map t.rival.fields.now fields ≡ true) (λ fields s u h g i. t.whole fields i) none shape tag fields a b m) as (λ w. InRests rests fields ⊎ IsRivalled rivals (with_place t.rival.name names) fields) [
            | inl left ↦ elim left as (λ w. InRests rests fields ⊎ IsRivalled rivals (with_place t.rival.name names) fields) [
              | inl old ↦ inl old
              | inr whole ↦ inr (t.rival, there, n.there, whole)
            ]
            | inr other ↦ inr (other.0, other.1, n.kept other.0.name other.2, other.3)
          ];
          received = λ shape tag fields a b m. elim (receives (λ fields. matches_map t.rival.fields.now fields ≡ true) (λ fields s u h g i. t.whole fields i) shape tag fields a b m) as (λ w. (InRests rests fields ⊎ IsRivalled rivals (with_place t.rival.name names) fields) ⊎ IsOfNoPort fields) [
            | inl known ↦ inl (elim known as (λ w. InRests rests fields ⊎ IsRivalled rivals (with_place t.rival.name names) fields) [
              | inl left ↦ elim left as (λ w. InRests rests fields ⊎ IsRivalled rivals (with_place t.rival.name names) fields) [
                | inl old ↦ inl old
                | inr whole ↦ inr (t.rival, there, n.there, whole)
              ]
              | inr other ↦ inr (other.0, other.1, n.kept other.0.name other.2, other.3)
            ])
            | inr odd ↦ inr odd
          ];
          named = λ j c. elim (n.only j c) as (λ w. (q : Rival) × Contains rivals q × (q.name ≡ j) × TakesSome start q) [
            | inl old ↦ s.named j old
            | inr same ↦ (t.rival, there, same, record { region = x.region; within = last_within; whole = t.whole })
          ];
          ascending = still_ascending t.rival.name names s.ascending;
          kept = s.kept;
        }

    pub taken_step : (i : ℕ) (t : IsTakenByRival rivals x.region i) → IsStep start rivals (regions_in (rests ++ x ∷ [])) (regions_in rests)
    taken_step i t = IsStep.taken x.region t.rival (map_push (λ (y : Rest). y.region) rests x) (contains_at rivals i t.rival t.there) t.whole

    -- the last region is divided
    module _ (i : ℕ) (a b : Rest) (a_from : a.from ≡ i) (b_from : b.from ≡ i) (e : MatchField) (p : AreDividedBy e x.region a.region b.region) (k : IsSplit rivals x.region i e) where
      part_cases : (y : Rest) → Contains (rests ++ a ∷ b ∷ []) y → Contains rests y ⊎ ((a ≡ y) ⊎ (b ≡ y))
      part_cases y c = elim (Contains-append_cases rests (a ∷ b ∷ []) y c) as (λ w. Contains rests y ⊎ ((a ≡ y) ⊎ (b ≡ y))) [
        | inl old ↦ inl old
        | inr new ↦ inr (elim (Contains-push_cases (a ∷ []) b y new) as (λ w. (a ≡ y) ⊎ (b ≡ y)) [
          | inl first ↦ elim (Contains-push_cases [] a y first) as (λ w. (a ≡ y) ⊎ (b ≡ y)) [ inl none ↦ absurd (none_of y none) | inr same ↦ inl same ]
          | inr second ↦ inr second
        ])
      ]

      pub split_state : IsState start rivals (rests ++ a ∷ b ∷ []) names unreceived
      split_state = record {
        passed = λ y c. elim (part_cases y c) as (λ w. AreApartBefore rivals y.region y.from) [
          | inl old ↦ s.passed y (others_in y old)
          | inr new ↦ elim new as (λ w. AreApartBefore rivals y.region y.from) [
            | inl first ↦ subst (λ (z : Rest). AreApartBefore rivals z.region z.from) first (λ j q lt at fields h. k.first j q (subst (λ (n : ℕ). j < n) a_from lt) at fields (p.parts.within fields (inl h)))
            | inr second ↦ subst (λ (z : Rest). AreApartBefore rivals z.region z.from) second (λ j q lt at fields h. k.first j q (subst (λ (n : ℕ). j < n) b_from lt) at fields (p.parts.within fields (inr h)))
          ]
        ];
        within = λ y c. elim (part_cases y c) as (λ w. (fields : Field → Option ℕ) → InRegion y.region fields → InSome start fields) [
          | inl old ↦ s.within y (others_in y old)
          | inr new ↦ elim new as (λ w. (fields : Field → Option ℕ) → InRegion y.region fields → InSome start fields) [
            | inl first ↦ subst (λ (z : Rest). (fields : Field → Option ℕ) → InRegion z.region fields → InSome start fields) first (λ fields h. last_within fields (p.parts.within fields (inl h)))
            | inr second ↦ subst (λ (z : Rest). (fields : Field → Option ℕ) → InRegion z.region fields → InSome start fields) second (λ fields h. last_within fields (p.parts.within fields (inr h)))
          ]
        ];
        covered = λ none shape tag fields g h m. elim (covers (λ fields. InRegion a.region fields ⊎ InRegion b.region fields) (λ fields s u g h i. p.parts.all fields (u, h) i) none shape tag fields g h m) as (λ w. InRests (rests ++ a ∷ b ∷ []) fields ⊎ IsRivalled rivals names fields) [
          | inl left ↦ inl (elim left as (λ w. InRests (rests ++ a ∷ b ∷ []) fields) [
            | inl old ↦ (old.0, Contains-append_left rests (a ∷ b ∷ []) old.0 old.1, old.2)
            | inr part ↦ elim part as (λ w. InRests (rests ++ a ∷ b ∷ []) fields) [
              | inl first ↦ (a, Contains-append_right rests (a ∷ b ∷ []) a (0, omega arith, refl), first)
              | inr second ↦ (b, Contains-append_right rests (a ∷ b ∷ []) b (1, omega arith, refl), second)
            ]
          ])
          | inr other ↦ inr other
        ];
        received = λ shape tag fields g h m. elim (receives (λ fields. InRegion a.region fields ⊎ InRegion b.region fields) (λ fields s u g h i. p.parts.all fields (u, h) i) shape tag fields g h m) as (λ w. (InRests (rests ++ a ∷ b ∷ []) fields ⊎ IsRivalled rivals names fields) ⊎ IsOfNoPort fields) [
          | inl known ↦ inl (elim known as (λ w. InRests (rests ++ a ∷ b ∷ []) fields ⊎ IsRivalled rivals names fields) [
            | inl left ↦ inl (elim left as (λ w. InRests (rests ++ a ∷ b ∷ []) fields) [
              | inl old ↦ (old.0, Contains-append_left rests (a ∷ b ∷ []) old.0 old.1, old.2)
              | inr part ↦ elim part as (λ w. InRests (rests ++ a ∷ b ∷ []) fields) [
                | inl first ↦ (a, Contains-append_right rests (a ∷ b ∷ []) a (0, omega arith, refl), first)
                | inr second ↦ (b, Contains-append_right rests (a ∷ b ∷ []) b (1, omega arith, refl), second)
              ]
            ])
            | inr other ↦ inr other
          ])
          | inr odd ↦ inr odd
        ];
        named = s.named;
        ascending = s.ascending;
        kept = s.kept;
      }

      pub split_step : IsStep start rivals (regions_in (rests ++ x ∷ [])) (regions_in (rests ++ a ∷ b ∷ []))
      split_step = IsStep.divided (regions_in rests) x.region a.region b.region k.rival e (map_push (λ (y : Rest). y.region) rests x) (map-append (λ (y : Rest). y.region) rests (a ∷ b ∷ [])) (contains_at rivals i k.rival k.there) k.crosses p

    -- no switch receives the last region
    module _ (apart : AreApartBefore rivals x.region (length rivals)) (none : HasNoIngress x.region) where
      pub unreceived_is : IsUnreceived start rivals x.region
      unreceived_is = record { within = last_within; unrivalled = unrivalled rivals x.region apart; ports = none }

      pub unreceived_state : IsState start rivals rests names (Some x.region)
      unreceived_state = record {
        passed = λ y c. s.passed y (others_in y c);
        within = λ y c. s.within y (others_in y c);
        covered = λ n. absurd cc;
        received = λ shape tag fields a b m. elim (receives (λ fields. IsOfNoPort fields) (λ fields s u g h i. none fields i) shape tag fields a b m) as (λ w. (InRests rests fields ⊎ IsRivalled rivals names fields) ⊎ IsOfNoPort fields) [
          | inl known ↦ elim known as (λ w. (InRests rests fields ⊎ IsRivalled rivals names fields) ⊎ IsOfNoPort fields) [
            | inl left ↦ elim left as (λ w. (InRests rests fields ⊎ IsRivalled rivals names fields) ⊎ IsOfNoPort fields) [
              | inl old ↦ inl (inl old)
              | inr odd ↦ inr odd
            ]
            | inr other ↦ inl (inr other)
          ]
          | inr odd ↦ inr odd
        ];
        named = s.named;
        ascending = s.ascending;
        kept = unreceived_is;
      }

      pub unreceived_step : IsStep start rivals (regions_in (rests ++ x ∷ [])) (regions_in rests)
      unreceived_step = IsStep.unreceived x.region (map_push (λ (y : Rest). y.region) rests x) unreceived_is

-- ---- steps

pub one_more : (start : List Region) (rivals : List Rival) (n : ℕ) (before after : List Region) → AreSteps start rivals n before → IsStep start rivals before after → AreSteps start rivals (n + 1) after
one_more start rivals n before after steps step = subst (λ (k : ℕ). AreSteps start rivals k after) (let e : suc n ≡ n + 1 = omega arith in e) (before, steps, step)

left_or_not : (rests : List Rest) → (rests ≡ []) ⊎ ((rests ≡ [] → ⊥) × (regions_in rests ≡ [] → ⊥))
left_or_not [] = inl refl
left_or_not (x ∷ rests) = inr (λ e. absurd cc, λ e. absurd cc)

-- what is found after the last step
pub found_at_end : (start : List Region) (rivals : List Rival) (steps : ℕ) (found : Found) (rests : List Rest) (names : List ℕ) (unreceived : Option Region) → IsState start rivals rests names unreceived
    → AreSteps start rivals steps (regions_in rests) → (¬ (rests ≡ []) → found ≡ Undecided) → (IsState start rivals rests names unreceived → rests ≡ [] → IsFoundBySearch start rivals steps found) → IsFoundBySearch start rivals steps found
found_at_end start rivals steps found rests names unreceived s taken left decided = elim (left_or_not rests) as (λ w. IsFoundBySearch start rivals steps found) [
  | inl empty ↦ decided s empty
  | inr some ↦ subst (IsFoundBySearch start rivals steps) (sym (left some.0)) (record { end = regions_in rests; left = some.1; taken = taken })
]
