-- The frames of the classes that are told, and no others, go to the place that is asked for.
use Rattle.std.proofs.Common.{◌≡◌, ◌<◌, ◌^◌, ℕ, zero, suc, eqb, Bool, true, false, cond, List, [], ◌∷◌, ◌++◌, Option, Some, None, refl, sym, ap, subst, ◌∙◌, inl, inr, ◌⊎◌, arith}
use Rattle.std.{specs.List.Contains, proofs.lemmas.Bool.eqb-true}
use Rattle.std.proofs.lemmas.List.Elements.{Contains-append_cases, Contains-append_left, Contains-append_right}
use Rattle.of_oxm.specs.{declared.match_field.MatchField.MatchField, Relations.matches_map}
use Rattle.of_ports.specs.{declared.port.Port.Port, Ports.may_receive, Ports.port_at}
use Rattle.of_machine.specs.TheWorld.{TheWorld}
use Rattle.of_symbolic.specs.Parts.{received_fields}
use Rattle.of_symbolic_run.specs.{PortNumbers.came_in_by, Received.IsReceivedAt, Received.items_at}
use Rattle.of_paths.specs.{declared.destination.Destination.Destination, declared.path.Merging.Merging, declared.path.PathClass.PathClass, declared.path.Paths.Paths}
use Rattle.of_paths.specs.{declared.path.UndecidedFrames.UndecidedFrames, EachPort.ArePathsOfPorts, EachPort.receiving_numbers, Ingress.ingress_match}
use Rattle.of_paths.{specs.Paths.ArePaths, specs.Paths.InPaths, specs.Paths.InUndecidedFrames, specs.Places.lead_to, proofs.PlaceLemmas.lead_alike}
use Rattle.of_paths.proofs.PortLemmas.{goes_alike, matched_there}
use Rattle.of_paths_report.specs.{Asked.ArePathsFor, Destinations.InClassLeadingTo, Destinations.is_class_leading}

-- ---- the number of a port that receives

later : {A : Type 0} (x : A) (xs : List A) (y : A) → Contains xs y → Contains (x ∷ xs) y
later x xs y (i, lt, is) = (suc i, omega (arith, lt), is)

number_listed : (ports : List Port) (n : ℕ) (q : Port) → port_at ports n ≡ Some q → may_receive q ≡ true → Contains (receiving_numbers ports) n
number_listed [] n q h receives = absurd cc
number_listed (p ∷ ports) n q h receives = by_number (eqb p.number n) refl (number_listed ports n q) h
  where
    behind : (t : Bool) → may_receive p ≡ t → Contains (receiving_numbers ports) n → Contains (receiving_numbers (p ∷ ports)) n
    behind true e there = rw e (later p.number (receiving_numbers ports) n there)
    behind false e there = rw e there

    by_number : (t : Bool) → eqb p.number n ≡ t → (port_at ports n ≡ Some q → may_receive q ≡ true → Contains (receiving_numbers ports) n) → cond t (Some p) (port_at ports n) ≡ Some q → Contains (receiving_numbers (p ∷ ports)) n
    by_number true e others k =
        let same : p ≡ q = cc in
        let own : may_receive p ≡ true = ap may_receive same ∙ receives in
        rw own (0, omega arith, eqb-true p.number n e)
    by_number false e others k = behind (may_receive p) refl (others k receives)

-- ---- of one port

module _ (merging : Merging) (w : TheWorld) (within : List MatchField) (to : Destination) (steps : ℕ) where
  module _ (port : ℕ) (found : Paths) (are : ArePaths merging w (came_in_by port ∷ within) steps found) (frame : List ℕ) (q : ℕ) (small : q < 2 ^ 32) (received : IsReceivedAt w frame q) where
    class_alike : (c : PathClass) → Contains found.classes.items c → InPaths c.paths.items frame q → lead_to to (items_at w frame q) ≡ is_class_leading to c
    class_alike c there inside = lead_alike to _ _ (goes_alike w within port c (are.classes c there) frame q small received inside)

    port_all : matches_map (came_in_by port ∷ within) (received_fields frame q) ≡ true → lead_to to (items_at w frame q) ≡ true → InClassLeadingTo to found.classes.items frame q ⊎ InUndecidedFrames found.undecided.items frame q
    port_all matched leads = elim (are.all frame q received matched) as (λ x. InClassLeadingTo to found.classes.items frame q ⊎ InUndecidedFrames found.undecided.items frame q) [
      | inl h ↦ inl (h.0, h.1, sym (class_alike h.0 h.1 h.2) ∙ leads, h.2)
      | inr u ↦ inr u
    ]

    port_only : (c : PathClass) → Contains found.classes.items c → is_class_leading to c ≡ true → InPaths c.paths.items frame q → lead_to to (items_at w frame q) ≡ true
    port_only c there told inside = class_alike c there inside ∙ told

  -- ---- of several ports

  module _ (frame : List ℕ) (q : ℕ) (small : q < 2 ^ 32) (received : IsReceivedAt w frame q) where
    abbrev IsSaid : List PathClass → List UndecidedFrames → Type 0
    IsSaid classes undecided = InClassLeadingTo to classes frame q ⊎ InUndecidedFrames undecided frame q

    said_first : (own others : List PathClass) (sets further : List UndecidedFrames) → IsSaid own sets → IsSaid (own ++ others) (sets ++ further)
    said_first own others sets further (inl h) = inl (h.0, Contains-append_left own others h.0 h.1, h.2, h.3)
    said_first own others sets further (inr u) = inr (u.0, Contains-append_left sets further u.0 u.1, u.2)

    said_behind : (own others : List PathClass) (sets further : List UndecidedFrames) → IsSaid others further → IsSaid (own ++ others) (sets ++ further)
    said_behind own others sets further (inl h) = inl (h.0, Contains-append_right own others h.0 h.1, h.2, h.3)
    said_behind own others sets further (inr u) = inr (u.0, Contains-append_right sets further u.0 u.1, u.2)

    ports_all : (ports : List ℕ) (classes : List PathClass) (undecided : List UndecidedFrames) → ArePathsOfPorts merging w within steps ports classes undecided → Contains ports q → matches_map within (received_fields frame q) ≡ true → lead_to to (items_at w frame q) ≡ true → IsSaid classes undecided
    ports_all [] classes undecided h there matched leads = absurd (omega (arith, there.1))
    ports_all (p ∷ ports) classes undecided (own, others, further, are, rest, cs, us) (zero, lt, is) matched leads =
        rw (cs, us) (said_first own.classes.items others own.undecided.items further (port_all p own are frame q small received (matched_there within p (subst (λ (n : ℕ). n < 2 ^ 32) (sym is) small) frame q (sym is) matched) leads))
    ports_all (p ∷ ports) classes undecided (own, others, further, are, rest, cs, us) (suc k, lt, is) matched leads =
        rw (cs, us) (said_behind own.classes.items others own.undecided.items further (ports_all ports others further rest (k, omega (arith, lt), is) matched leads))

    ports_only : (ports : List ℕ) (classes : List PathClass) (undecided : List UndecidedFrames) → ArePathsOfPorts merging w within steps ports classes undecided → (c : PathClass) → Contains classes c → is_class_leading to c ≡ true → InPaths c.paths.items frame q → lead_to to (items_at w frame q) ≡ true
    ports_only [] classes undecided (no_class, no_set) c there told inside = absurd (let none : Contains {X = PathClass} [] c = subst (λ (l : List PathClass). Contains l c) no_class there in omega (arith, none.1))
    ports_only (p ∷ ports) classes undecided (own, others, further, are, rest, cs, us) c there told inside =
        elim (Contains-append_cases own.classes.items others c (subst (λ (l : List PathClass). Contains l c) cs there)) as (λ x. lead_to to (items_at w frame q) ≡ true) [
          | inl first ↦ port_only p own are frame q small received c first told inside
          | inr later ↦ ports_only ports others further rest c later told inside
        ]

  module _ (found : Paths) (frame : List ℕ) (q : ℕ) (small : q < 2 ^ 32) (received : IsReceivedAt w frame q) where
    pub all_told : (port : Option ℕ) → ArePathsFor port (Some to) merging w within steps found → matches_map (ingress_match port ++ within) (received_fields frame q) ≡ true → lead_to to (items_at w frame q) ≡ true → InClassLeadingTo to found.classes.items frame q ⊎ InUndecidedFrames found.undecided.items frame q
    all_told None are matched leads = ports_all frame q small received (receiving_numbers w.ports) found.classes.items found.undecided.items are (number_listed w.ports q received.ingress received.there received.receives) matched leads
    all_told (Some port) are matched leads = port_all port found are frame q small received matched leads

    pub only_told : (port : Option ℕ) → ArePathsFor port (Some to) merging w within steps found → (c : PathClass) → Contains found.classes.items c → is_class_leading to c ≡ true → InPaths c.paths.items frame q → lead_to to (items_at w frame q) ≡ true
    only_told None are c there told inside = ports_only frame q small received (receiving_numbers w.ports) found.classes.items found.undecided.items are c there told inside
    only_told (Some port) are c there told inside = port_only port found are frame q small received c there told inside
