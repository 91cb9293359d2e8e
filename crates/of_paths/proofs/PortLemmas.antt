-- The paths of the frames of each port: they go to the same places as the frame of their class.
use Rattle.std.proofs.Common.{◌≡◌, ◌<◌, ◌≤◌, ◌+◌, ◌^◌, ℕ, suc, Bool, true, false, cond, List, [], ◌∷◌, ◌++◌, length, get_or, map, filter, take, refl, sym, ap, subst, ◌∙◌, arith}
use Rattle.std.{specs.Prelude.◌&&◌, specs.Prelude.bit_and, proofs.Math.Seq.take-suc, proofs.lemmas.Bool.eq-eqb, proofs.lemmas.Bool.eqb-true}
use Rattle.std.proofs.{lemmas.List.append-nil, lemmas.List.append_assoc, lemmas.List.map-append, lemmas.List.take_all, lemmas.List.Elements.filter-append}
use Rattle.of_layers.specs.{Fields.ones_of, declared.field.Field.TheVariants.InPort}
use Rattle.of_oxm.specs.{declared.match_field.MatchField.MatchField, Relations.matches_map}
use Rattle.of_ports.specs.{declared.port.Port.Port, Ports.may_receive, Ports.number_of_port}
use Rattle.of_machine.specs.TheWorld.{TheWorld}
use Rattle.of_symbolic.specs.Parts.{received_fields}
use Rattle.of_symbolic_run.{specs.PortNumbers.came_in_by, specs.Received.IsReceivedAt, specs.Received.items_at, proofs.ConditionLemmas.within_port}
use Rattle.of_paths.specs.{declared.path.Merging.Merging, declared.path.Path.Path, declared.path.PathClass.PathClass, declared.path.Paths.Paths, declared.path.UndecidedFrames.UndecidedFrames}
use Rattle.of_paths.specs.{EachPort.ArePathsOfPorts, EachPort.receiving_numbers, Paths.ArePaths, Paths.InFirstPath, Paths.InPaths, Paths.IsPathClass, Places.place_of_item}
use Rattle.of_paths.{specs.Ways.class_way, specs.Ways.lines_at, specs.Ways.way_of, proofs.PlaceLemmas.same_places}

-- ---- the condition that a frame came in by a port

pub both : (a b : Bool) → (a && b) ≡ true → (a ≡ true) × (b ≡ true)
both true true h = (refl, refl)
both true false h = absurd cc
both false b h = absurd cc

pub and_true : (a b : Bool) → a ≡ true → b ≡ true → (a && b) ≡ true
and_true true true h k = refl
and_true true false h k = absurd cc
and_true false b h k = absurd cc

module _ (within : List MatchField) (port : ℕ) where
  -- a frame that is matched came in by the port, and one that came in by it is matched
  pub matched_from : (frame : List ℕ) (q : ℕ) → q < 2 ^ 32 → matches_map (came_in_by port ∷ within) (received_fields frame q) ≡ true → (q ≡ port) × (matches_map within (received_fields frame q) ≡ true)
  matched_from frame q small h = let parts = both _ _ h in (sym (within_port q small) ∙ eqb-true (bit_and q (ones_of InPort)) port parts.0, parts.1)

  pub matched_there : port < 2 ^ 32 → (frame : List ℕ) (q : ℕ) → q ≡ port → matches_map within (received_fields frame q) ≡ true → matches_map (came_in_by port ∷ within) (received_fields frame q) ≡ true
  matched_there fits frame q same h = and_true _ _ (eq-eqb (bit_and q (ones_of InPort)) port (ap (λ (n : ℕ). bit_and n (ones_of InPort)) same ∙ within_port port fits)) h

-- ---- where the frames of a class go

first_of : (ps : List Path) (frame : List ℕ) (port : ℕ) → InFirstPath ps frame port → InPaths ps frame port
first_of [] frame port h = absurd h
first_of (p ∷ rest) frame port h = (p, (0, omega arith, refl), h)

module _ (w : TheWorld) (within : List MatchField) (port : ℕ) (c : PathClass) (class : IsPathClass w (came_in_by port ∷ within) c) where
  way_in : (frame : List ℕ) (q : ℕ) → IsReceivedAt w frame q → InPaths c.paths.items frame q → way_of (lines_at w frame q) ≡ class_way c
  way_in frame q received there = ap way_of ((class.paths there.0 there.1).takes frame q received there.2) ∙ class.way there.0 there.1

  pub came_in : (frame : List ℕ) (q : ℕ) → q < 2 ^ 32 → InPaths c.paths.items frame q → q ≡ port
  came_in frame q small there = (matched_from within port frame q small ((class.paths there.0 there.1).matched.matched frame q there.2)).0

  -- its frame
  own : InPaths c.paths.items c.frame.items c.in_port
  own = first_of c.paths.items c.frame.items c.in_port class.shown

  module _ (frame : List ℕ) (q : ℕ) (small : q < 2 ^ 32) (received : IsReceivedAt w frame q) (there : InPaths c.paths.items frame q) where
    one_port : q ≡ c.in_port
    one_port = came_in frame q small there ∙ sym (came_in c.frame.items c.in_port class.fits own)

    one_way : way_of (lines_at w frame c.in_port) ≡ way_of (lines_at w c.frame.items c.in_port)
    one_way = ap (λ (n : ℕ). way_of (lines_at w frame n)) (sym one_port) ∙ way_in frame q received there ∙ sym (way_in c.frame.items c.in_port class.received own)

    pub goes_alike : map place_of_item (items_at w frame q) ≡ map place_of_item c.items.items
    goes_alike = ap (λ (n : ℕ). map place_of_item (items_at w frame n)) one_port ∙ same_places w frame c.frame.items c.in_port one_way ∙ ap (map place_of_item) (sym class.items)

-- ---- one more port

numbers_if : (q : Port) (t : Bool) → may_receive q ≡ t → receiving_numbers (q ∷ []) ≡ cond t (q.number ∷ []) []
numbers_if q true e = rw e refl
numbers_if q false e = rw e refl

module _ (merging : Merging) (w : TheWorld) (within : List MatchField) (steps : ℕ) where
  abbrev AreOf : List ℕ → List PathClass → List UndecidedFrames → Type 0
  AreOf ports classes undecided = ArePathsOfPorts merging w within steps ports classes undecided

  module _ (port : ℕ) (own : Paths) (are : ArePaths merging w (came_in_by port ∷ within) steps own) where
    one_more : (ports : List ℕ) (classes : List PathClass) (undecided : List UndecidedFrames) → AreOf ports classes undecided → AreOf (ports ++ port ∷ []) (classes ++ own.classes.items) (undecided ++ own.undecided.items)
    one_more [] classes undecided h = (
      own,
      [],
      [],
      are,
      (refl, refl),
      ap (λ (l : List PathClass). l ++ own.classes.items) h.0 ∙ sym (append-nil own.classes.items),
      ap (λ (l : List UndecidedFrames). l ++ own.undecided.items) h.1 ∙ sym (append-nil own.undecided.items),
    )
    one_more (p ∷ ports) classes undecided (first, others, further, first_are, rest, cs, us) = (
      first,
      others ++ own.classes.items,
      further ++ own.undecided.items,
      first_are,
      one_more ports others further rest,
      ap (λ (l : List PathClass). l ++ own.classes.items) cs ∙ append_assoc first.classes.items others own.classes.items,
      ap (λ (l : List UndecidedFrames). l ++ own.undecided.items) us ∙ append_assoc first.undecided.items further own.undecided.items,
    )

  module _ (ports : List ℕ) (q : Port) (classes : List PathClass) (undecided : List UndecidedFrames) (so_far : AreOf ports classes undecided) where
    pub silent_too : may_receive q ≡ false → AreOf (ports ++ receiving_numbers (q ∷ [])) classes undecided
    silent_too e = subst (λ (l : List ℕ). AreOf l classes undecided) (sym (ap (λ (l : List ℕ). ports ++ l) (numbers_if q false e) ∙ append-nil ports)) so_far

    pub receiving_too : may_receive q ≡ true → (own : Paths) → ArePaths merging w (came_in_by q.number ∷ within) steps own → AreOf (ports ++ receiving_numbers (q ∷ [])) (classes ++ own.classes.items) (undecided ++ own.undecided.items)
    receiving_too e own are = subst (λ (l : List ℕ). AreOf l (classes ++ own.classes.items) (undecided ++ own.undecided.items)) (sym (ap (λ (l : List ℕ). ports ++ l) (numbers_if q true e))) (one_more q.number own are ports classes undecided so_far)

-- the ports so far, with the next one
pub numbers_more : (items : List Port) (i : ℕ) (d : Port) → i < length items → receiving_numbers (take (i + 1) items) ≡ receiving_numbers (take i items) ++ receiving_numbers (get_or items i d ∷ [])
numbers_more items i d lt =
    let more : i + 1 ≡ suc i = omega arith in
    ap (λ (n : ℕ). receiving_numbers (take n items)) more
    ∙ (ap receiving_numbers (take-suc items i d lt)
    ∙ (ap (map number_of_port) (filter-append may_receive (take i items) (get_or items i d ∷ []))
    ∙ map-append number_of_port (filter may_receive (take i items)) (filter may_receive (get_or items i d ∷ []))))

pub all_numbers : (items : List Port) (i : ℕ) → length items ≤ i → receiving_numbers (take i items) ≡ receiving_numbers items
all_numbers items i le = ap receiving_numbers (take_all i items le)
