-- What the class of a set of frames says about all of them, if they come in by one port.
use Rattle.std.proofs.Common.{◌≡◌, ◌<◌, ◌^◌, ℕ, zero, suc, eqb, Bool, true, false, List, [], ◌∷◌, ◌++◌, length, map, refl, sym, subst, ap, ◌∙◌, arith, inl, inr}
use Rattle.std.{specs.Prelude.not, specs.List.Contains, proofs.lemmas.Bool.ne_eqb}
use Rattle.std.proofs.{lemmas.List.Elements.Contains-append_cases, lemmas.List.Elements.Contains-append_right, lemmas.List.Elements.Contains-push_cases, lemmas.List.append_assoc}
use Rattle.of_oxm.specs.Relations.{matches_map}
use Rattle.of_machine.specs.{declared.data.Step.Step, TheWorld.TheWorld}
use Rattle.of_symbolic.specs.Parts.{received_fields}
use Rattle.of_symbolic_run.specs.{FrameSets.InFrames, PortNumbers.IsReceivingPort, PortNumbers.came_in_by, Received.IsReceivedAt, Received.items_at, States.items_for}
use Rattle.of_paths.specs.Paths.{ArePaths, InClasses, InFirstPath, InPaths, IsPath, IsPathClass}
use Rattle.of_paths.specs.{declared.path.Merging.TheVariants.Each, declared.path.Path.Path, declared.path.PathClass.PathClass, declared.path.Paths.Paths}
use Rattle.of_paths.specs.{declared.path.UndecidedFrames.UndecidedFrames, Ways.lines_at}
use Rattle.of_paths.proofs.PortLemmas.{and_true, both, matched_from, matched_there}
use Rattle.of_require.specs.Deciding.{IsDecisionFor, IsShownOf, IsSought, IsSoughtInClasses, class_decides, first_decides, is_plain, none_leaves}
use Rattle.of_require.specs.{declared.requirement.Requirement.Requirement, declared.deciding.Decision.Decision}
use Rattle.of_require.specs.declared.deciding.Decision.TheVariants.{Frame, NoFrame, NoneMatches, Undecided}
use Rattle.of_require.specs.{declared.deciding.Shown.Shown, declared.deciding.Sought.Sought, Packets.IsUnknownAmong}
use Rattle.of_require.specs.{Decisions.IsDeciding, Decisions.NoneDecides, Decisions.NoneMatch, Decisions.decides, Requirements.is_done, Requirements.is_leaving}
use Rattle.of_require.proofs.BareLemmas.{bare, bare_all, same_does, same_leaving}
use Rattle.of_require.specs.declared.deciding.Sought.TheVariants as soughts

pub never_both : (b : Bool) → b ≡ true → b ≡ false → ⊥
never_both true h k = cc
never_both false h k = cc

negated : (b : Bool) → not b ≡ true → b ≡ false
negated true h = absurd cc
negated false h = refl

pub none_in : {A : Type 0} (x : A) → Contains {X = A} [] x → ⊥
none_in x h = absurd (omega (arith, h.1))

pub in_middle : {A : Type 0} (xs : List A) (x : A) (ys : List A) → Contains (xs ++ x ∷ ys) x
in_middle xs x ys = Contains-append_right xs (x ∷ ys) x (0, omega arith, refl)

pub one_more : {A : Type 0} (xs : List A) (x : A) (ys : List A) → (xs ++ x ∷ []) ++ ys ≡ xs ++ x ∷ ys
one_more xs x ys = append_assoc xs (x ∷ []) ys

-- one more class that does not decide
pub more_none : (r : Requirement) (xs : List PathClass) (x : PathClass) → ((c : PathClass) → Contains xs c → class_decides r c ≡ false) → class_decides r x ≡ false → (c : PathClass) → Contains (xs ++ x ∷ []) c → class_decides r c ≡ false
more_none r xs x none own c there = elim (Contains-push_cases xs x c there) as (λ y. class_decides r c ≡ false) [
  | inl before ↦ none c before
  | inr same ↦ subst (λ (y : PathClass). class_decides r y ≡ false) same own
]

one_path : (ps : List Path) → length ps ≡ 1 → (p : Path) × (ps ≡ p ∷ [])
one_path [] h = absurd (omega (arith, h))
one_path (p ∷ []) h = (p, refl)
one_path (p ∷ q ∷ ps) h = absurd (omega (arith, h))

not_leaving : (r : Requirement) (cs : List PathClass) (c : PathClass) → none_leaves r cs ≡ true → Contains cs c → is_leaving r.demand c.items.items ≡ false
not_leaving r [] c none (k, lt, is) = absurd (omega (arith, lt))
not_leaving r (x ∷ cs) c none (zero, lt, is) = subst (λ (y : PathClass). is_leaving r.demand y.items.items ≡ false) is (negated _ (both _ _ none).0)
not_leaving r (x ∷ cs) c none (suc k, lt, is) = not_leaving r cs c (both _ _ none).1 (k, omega (arith, lt), is)

first_in : (p : Path) → Contains (p ∷ []) p
first_in p = (0, omega arith, refl)

pub only_in : {A : Type 0} (p q : A) → Contains (p ∷ []) q → q ≡ p
only_in p q (zero, lt, is) = sym is
only_in p q (suc k, lt, is) = absurd (omega (arith, lt))

module _ (w : TheWorld) (r : Requirement) (port : ℕ) (fits : port < 2 ^ 32) where
  module _ (c : PathClass) (class : IsPathClass w (came_in_by port ∷ r.within.items) c) (one : length c.paths.items ≡ 1) where
    path : Path
    path = (one_path c.paths.items one).0

    alone : c.paths.items ≡ path ∷ []
    unfolding path one_path
    alone = (one_path c.paths.items one).1

    is_path : IsPath w (came_in_by port ∷ r.within.items) path
    is_path = class.paths path (subst (λ (l : List Path). Contains l path) (sym alone) (first_in path))

    inside : InFrames path.frames c.frame.items c.in_port
    inside = subst (λ (l : List Path). InFirstPath l c.frame.items c.in_port) alone class.shown

    own_match : (c.in_port ≡ port) × (matches_map r.within.items (received_fields c.frame.items c.in_port) ≡ true)
    own_match = matched_from r.within.items port c.frame.items c.in_port class.fits (is_path.matched.matched c.frame.items c.in_port inside)

    decided_by : class_decides r c ≡ decides r c.in_port path.steps.items c.items.items
    decided_by = ap (λ (l : List Path). first_decides r c.in_port l c.items.items) alone

    -- by the run of its frame
    own_run : class_decides r c ≡ decides r c.in_port (lines_at w c.frame.items c.in_port) (items_at w c.frame.items c.in_port)
    own_run = decided_by ∙ rw (sym (is_path.takes c.frame.items c.in_port class.received inside), class.items) refl

    pub shows : class_decides r c ≡ true → IsDeciding w r c.frame.items c.in_port
    shows h =
        let parts = both _ _ (sym own_run ∙ h) in
        let about = both _ _ parts.0 in
        record { about = record { received = class.received; matched = own_match.1; counted = about.0; leaving = about.1 }; decides = parts.1 }

    module _ (frame : List ℕ) (q : ℕ) (is : q ≡ port) (received : IsReceivedAt w frame q) (there : InPaths c.paths.items frame q) where
      in_it : InFrames path.frames frame q
      in_it = subst (λ (x : Path). InFrames x.frames frame q) (only_in path there.0 (subst (λ (l : List Path). Contains l there.0) alone there.1)) there.2

      -- each frame of it takes the same steps, and emits the same, except for the frames
      same_lines : lines_at w frame q ≡ lines_at w c.frame.items c.in_port
      same_lines = is_path.takes frame q received in_it ∙ sym (is_path.takes c.frame.items c.in_port class.received inside)

      same_bare : map bare (items_at w frame q) ≡ map bare (items_at w c.frame.items c.in_port)
      same_bare =
          ap (map bare) (is_path.emits frame q received in_it ∙ ap (items_for w.ports path.emitted.items frame) (is ∙ sym own_match.0))
          ∙ bare_all w.ports frame c.frame.items c.in_port path.emitted.items
          ∙ ap (map bare) (sym (is_path.emits c.frame.items c.in_port class.received inside))

      -- so the requirement is about each of them, or about none
      pub leaves_alike : is_leaving r.demand (items_at w frame q) ≡ is_leaving r.demand c.items.items
      leaves_alike = same_leaving r.demand _ _ same_bare ∙ ap (is_leaving r.demand) (sym class.items)

      -- and each does the same, if no fields are asked
      same_for : is_plain r.demand ≡ true → decides r q (lines_at w frame q) (items_at w frame q) ≡ class_decides r c
      same_for plain =
          let does : is_done r.quantifier r.demand c.in_port (lines_at w c.frame.items c.in_port) (items_at w frame q) ≡ is_done r.quantifier r.demand c.in_port (lines_at w c.frame.items c.in_port) (items_at w c.frame.items c.in_port) =
          same_does r.quantifier r.demand c.in_port (lines_at w c.frame.items c.in_port) _ _ plain same_bare in
          ap (λ (n : ℕ). decides r n (lines_at w frame q) (items_at w frame q)) (is ∙ sym own_match.0)
          ∙ ap (λ (l : List Step). decides r c.in_port l (items_at w frame q)) same_lines
          ∙ rw (same_leaving r.demand _ _ same_bare, does) refl
          ∙ sym own_run

      pub one_decides : is_plain r.demand ≡ true → IsDeciding w r frame q → class_decides r c ≡ true
      one_decides plain d = sym (same_for plain) ∙ and_true _ _ (and_true _ _ d.about.counted d.about.leaving) d.decides

module _ (w : TheWorld) (r : Requirement) (steps port : ℕ) (found : Paths) (fits : port < 2 ^ 32) (are : ArePaths Each w (came_in_by port ∷ r.within.items) steps found) where
  -- a frame among those of the classes that decide, if no fields are asked
  pub frame_shown : (shown : Shown) → ((c : PathClass) × Contains found.classes.items c × IsShownOf r c shown) → IsDeciding w r shown.frame.items shown.in_port × (shown.items.items ≡ items_at w shown.frame.items shown.in_port)
  frame_shown shown (c, there, is) = rw (is.frame, is.in_port, is.items) (shows w r port fits c (are.classes c there) (are.merged c there) is.decides, (are.classes c there).items)

  pub none_shown : is_plain r.demand ≡ true → ((c : PathClass) → Contains found.classes.items c → class_decides r c ≡ false) → (frame : List ℕ) (q : ℕ) → (q ≡ port) × InClasses found.classes.items frame q → IsDeciding w r frame q → ⊥
  none_shown plain none frame q (at, (c, there, within)) d = never_both _ (one_decides w r port fits c (are.classes c there) (are.merged c there) frame q at d.about.received within plain d) (none c there)

  -- no class decides, so no frame does
  pub none_shows : ((frame : List ℕ) (q : ℕ) → (q ≡ port) × InClasses found.classes.items frame q → IsDeciding w r frame q → ⊥) → found.undecided.items ≡ [] → NoneDecides w r (λ q. Contains (port ∷ []) q)
  none_shows none undecided frame q there deciding = let at = only_in port q there in elim (are.all frame q deciding.about.received (matched_there r.within.items port fits frame q at deciding.about.matched)) as (λ x. ⊥) [
    | inl in_class ↦ none frame q (at, in_class) deciding
    | inr u ↦ none_in u.0 (subst (λ (l : List UndecidedFrames). Contains l u.0) undecided u.1)
  ]

  -- the requirement is about no class, so no frame matches
  pub none_matched : none_leaves r found.classes.items ≡ true → found.undecided.items ≡ [] → NoneMatch w r (λ q. Contains (port ∷ []) q)
  none_matched none undecided frame q there received matched leaving = let at = only_in port q there in elim (are.all frame q received (matched_there r.within.items port fits frame q at matched)) as (λ x. ⊥) [
    | inl in_class ↦ never_both _ (sym (leaves_alike w r port fits in_class.0 (are.classes in_class.0 in_class.1) (are.merged in_class.0 in_class.1) frame q at received in_class.2) ∙ leaving) (not_leaving r found.classes.items in_class.0 none in_class.1)
    | inr u ↦ none_in u.0 (subst (λ (l : List UndecidedFrames). Contains l u.0) undecided u.1)
  ]

  -- what was found among the classes
  module _ (receives : IsReceivingPort w.ports port) (sought : Sought) where
    abbrev IsSoughtHere : Sought → Type 0
    IsSoughtHere x = IsSought w r (λ frame q. (q ≡ port) × InClasses found.classes.items frame q) (IsUnknownAmong r.demand steps found.classes.items) x

    pub sought_frame : (shown : Shown) → sought ≡ soughts.Frame shown → IsSoughtInClasses w r steps found.classes.items sought → IsDeciding w r shown.frame.items shown.in_port × (shown.items.items ≡ items_at w shown.frame.items shown.in_port)
    sought_frame shown is h = subst IsSoughtHere is (h port found receives fits are refl)

    pub sought_unknown : sought ≡ soughts.Undecided → IsSoughtInClasses w r steps found.classes.items sought → IsUnknownAmong r.demand steps found.classes.items
    sought_unknown is h = subst IsSoughtHere is (h port found receives fits are refl)

    pub sought_none : sought ≡ soughts.NoFrame → IsSoughtInClasses w r steps found.classes.items sought → (frame : List ℕ) (q : ℕ) → (q ≡ port) × InClasses found.classes.items frame q → IsDeciding w r frame q → ⊥
    sought_none is h = subst IsSoughtHere is (h port found receives fits are refl)

pub some_items : {A : Type 0} (xs : List A) (t : Bool) → t ≡ eqb (length xs) 0 → t ≡ false → 0 < length xs
some_items [] t e f = absurd cc
some_items (x ∷ xs) t e f = omega arith

pub no_items : {A : Type 0} (xs : List A) (t : Bool) → t ≡ eqb (length xs) 0 → t ≡ true → xs ≡ []
no_items [] t e f = refl
no_items (x ∷ xs) t e f = (let fails : eqb (length (x ∷ xs)) 0 ≡ false = ne_eqb (length (x ∷ xs)) 0 (λ i. omega (arith, i)) in absurd cc)

-- ---- of several ports

module _ (w : TheWorld) (r : Requirement) where
  pub no_match : (among : ℕ → Type 0) → NoneMatch w r among → NoneDecides w r among
  no_match among h frame q x d = h frame q x d.about.received d.about.matched d.about.leaving

  module _ (ports others : List ℕ) where
    pub none_more : NoneDecides w r (λ q. Contains ports q) → NoneDecides w r (λ q. Contains others q) → NoneDecides w r (λ q. Contains (ports ++ others) q)
    none_more h k frame q x d = elim (Contains-append_cases ports others q x) as (λ y. ⊥) [
      | inl first ↦ h frame q first d
      | inr second ↦ k frame q second d
    ]

    pub none_match_more : NoneMatch w r (λ q. Contains ports q) → NoneMatch w r (λ q. Contains others q) → NoneMatch w r (λ q. Contains (ports ++ others) q)
    none_match_more h k frame q x received matched leaving = elim (Contains-append_cases ports others q x) as (λ y. ⊥) [
      | inl first ↦ h frame q first received matched leaving
      | inr second ↦ k frame q second received matched leaving
    ]

  -- what is found for other ports stands if nothing was found for some
  pub joined_none : (ports others : List ℕ) (steps : ℕ) (d : Decision) → NoneMatch w r (λ q. Contains ports q) → IsDecisionFor others w r steps d → IsDecisionFor (ports ++ others) w r steps d
  joined_none ports others steps NoneMatches none h = none_match_more ports others none h
  joined_none ports others steps NoFrame none h = none_more ports others (no_match (λ q. Contains ports q) none) h
  joined_none ports others steps other none h = h
