-- What is found among sets of frames whose packets are alike is found among the frames of a path.
use Rattle.std.proofs.Common.{◌≡◌, ◌≤◌, ◌<◌, ◌^◌, ℕ, suc, Bool, true, false, List, [], ◌∷◌, ◌++◌, length, map, refl, sym, subst, ap, ◌∙◌, arith, inl, inr}
use Rattle.std.{specs.Prelude.nat_le, specs.Global.Vec, specs.List.AllByRecursion, specs.List.Contains, proofs.lemmas.Bool.Decides.nat_tests}
use Rattle.of_oxm.specs.{declared.match_field.MatchField.MatchField, Relations.matches_map}
use Rattle.of_rewrite.specs.Frames.{IsFrame}
use Rattle.of_machine.specs.{declared.data.Item.Item, declared.data.Step.Step, TheWorld.TheWorld}
use Rattle.of_symbolic.specs.{declared.pulling.Pulled.TheVariants.Never, declared.pulling.Pulled.TheVariants.When, Actions.frame_of_actions, Parts.received_fields}
use Rattle.of_symbolic_run.specs.{declared.frame_set.FrameSet.FrameSet, declared.state.Emission.Emission, FrameSets.InFrames, PortNumbers.IsReceivingPort, PortNumbers.came_in_by}
use Rattle.of_symbolic_run.specs.{Received.IsReceivedAt, Received.items_at, States.items_for}
use Rattle.of_paths.specs.Paths.{ArePaths, InClasses, InPaths, IsPath, IsPathClass}
use Rattle.of_paths.specs.{declared.destination.Destination.Destination, declared.path.Path.Path, declared.path.Merging.TheVariants.Each, declared.path.PathClass.PathClass}
use Rattle.of_paths.{specs.declared.path.Paths.Paths, specs.Ways.lines_at, proofs.PortLemmas.and_true, proofs.PortLemmas.both, proofs.PortLemmas.matched_from}
use Rattle.of_regions.specs.Witness.{IsIngressPort}
use Rattle.of_require.specs.Deciding.{AreDividedByAll, IsFrameFoundIn, IsSought, IsSoughtInAll, IsSoughtInClass, IsSoughtInEach, IsSoughtInSet, IsSoughtInSets, found_so_far}
use Rattle.of_require.specs.Packets.{AreAsked, IsAskedBy, IsUnknownAmong, IsUnknownClass, IsUnknownPath, packet_actions}
use Rattle.of_require.specs.declared.deciding.Sought.{Sought}
use Rattle.of_require.specs.declared.deciding.Sought.TheVariants.{Frame, NoFrame, Undecided}
use Rattle.of_require.specs.{declared.requirement.Demand.Demand, declared.requirement.Demand.TheVariants.Has, declared.requirement.Requirement.Requirement, Decisions.IsDeciding, Decisions.decides}
use Rattle.of_require.specs.Requirements.{frame_has, have, is_done, is_leaving}
use Rattle.of_require.proofs.{BareLemmas.bare, BareLemmas.bare_all, BareLemmas.same_leaving, DecidingLemmas.leaves_alike, DecidingLemmas.never_both, DecidingLemmas.only_in}
use Rattle.of_require.proofs.DividingLemmas.{AreAllIn, AreMatchedAlike, part_ways, part_within}
use Rattle.of_require.proofs.{ListLemmas.each_more, ListLemmas.only_one, ListLemmas.some_more, HavingLemmas.marked_alike, HavingLemmas.same_have}

-- ---- packets of frames that conditions match alike

long_enough : (n : ℕ) → 14 ≤ n → nat_le 14 n ≡ true
long_enough n h = grind (arith, nat_tests, h)

module _ (told : Bool) (fields : List MatchField) (s : FrameSet) (port : ℕ) (f g : List ℕ) (is_f : IsFrame f) (is_g : IsFrame g) (in_f : InFrames s f port) (in_g : InFrames s g port) where
  abbrev HaveAlike : Emission → Type 0
  HaveAlike e = frame_has fields port (frame_of_actions (packet_actions e) f) ≡ frame_has fields port (frame_of_actions (packet_actions e) g)

  never_have : (e : Emission) → IsAskedBy told fields e Never → HaveAlike e
  never_have e never = rw (long_enough _ (never.frame f is_f).0, long_enough _ (never.frame g is_g).0) (never.is f port is_f ∙ sym (never.is g port is_g))

  one_has_alike : (e : Emission) (m : Vec MatchField) → IsAskedBy told fields e (When m) → AreMatchedAlike told m.items s → HaveAlike e
  one_has_alike e m asked alike =
      rw (long_enough _ (asked.frame f is_f).0, long_enough _ (asked.frame g is_g).0) (asked.is f port is_f ∙ (alike f g port port in_f in_g ∙ sym (asked.is g port is_g)))

  all_have_alike : (es : List Emission) (lists : List (Vec MatchField)) → AreAsked told fields es lists → ((m : Vec MatchField) → Contains lists m → AreMatchedAlike told m.items s) → AllByRecursion HaveAlike es
  all_have_alike [] lists is alike = tt
  all_have_alike (e ∷ es) lists (inl (never, rest)) alike = (never_have e never, all_have_alike es lists rest alike)
  all_have_alike (e ∷ es) lists (inr (m, others, is, asked, rest)) alike =
      let each = subst (λ (l : List (Vec MatchField)). (x : Vec MatchField) → Contains l x → AreMatchedAlike told x.items s) is alike in
      (one_has_alike e m asked (each m (0, omega arith, refl)), all_have_alike es others rest (λ x there. each x (suc there.0, omega (arith, there.1), there.2)))

-- ---- the frames of a path

module _ (w : TheWorld) (r : Requirement) (fields : List MatchField) (steps : ℕ) (p : Path) (port : ℕ) (places : Vec Destination)
    (receives : IsReceivingPort w.ports port) (fits : port < 2 ^ 32) (is_path : IsPath w (came_in_by port ∷ r.within.items) p) (has : r.demand ≡ Has places fields) where
  -- one of the path that is found is received, and came in by the port
  received_there : (s : FrameSet) (frame : List ℕ) (q : ℕ) → ((f : List ℕ) (x : ℕ) → InFrames s f x → InFrames p.frames f x) → IsFrameFoundIn s frame q →
      (q ≡ port) × IsReceivedAt w frame q × (matches_map r.within.items (received_fields frame q) ≡ true)
  received_there s frame q within found =
      let from = matched_from r.within.items port frame q found.fits (is_path.matched.matched frame q (within frame q found.within)) in
      (from.0, subst (λ (x : ℕ). IsReceivedAt w frame x) (sym from.0) (record { frame_is = found.frame_is; short = found.short; ingress = receives.port; there = receives.there; receives = receives.receives }), from.1)

  lines_are : (frame : List ℕ) (q : ℕ) → IsReceivedAt w frame q → InFrames p.frames frame q → lines_at w frame q ≡ p.steps.items
  lines_are frame q received within = is_path.takes frame q received within

  -- a frame that decides by the steps of the path decides
  pub decides_there : (frame : List ℕ) (q : ℕ) → IsReceivedAt w frame q → InFrames p.frames frame q → matches_map r.within.items (received_fields frame q) ≡ true →
      decides r q p.steps.items (items_at w frame q) ≡ true → IsDeciding w r frame q
  decides_there frame q received within matched h =
      let run : decides r q (lines_at w frame q) (items_at w frame q) ≡ true = ap (λ (l : List Step). decides r q l (items_at w frame q)) (lines_are frame q received within) ∙ h in
      let parts = both _ _ run in
      let about = both _ _ parts.0 in
      record { about = record { received = received; matched = matched; counted = about.0; leaving = about.1 }; decides = parts.1 }

  module _ (lists : List (Vec MatchField)) (sets : List FrameSet) (asked : AreAsked p.frames.inner fields p.emitted.items lists) (divided : AreDividedByAll lists p.frames sets) where
    within : (s : FrameSet) → Contains sets s → AreAllIn s p.frames
    within s there = part_within lists p.frames s (divided.within s there)

    done_is : (items : List Item) → is_done r.quantifier r.demand port p.steps.items items ≡ have r.quantifier places.items fields port items
    done_is items = ap (λ (d : Demand). is_done r.quantifier d port p.steps.items items) has

    -- two frames of one set do the same
    module _ (s : FrameSet) (there : Contains sets s) (f g : List ℕ) (rec_f : IsReceivedAt w f port) (rec_g : IsReceivedAt w g port) (in_f : InFrames s f port) (in_g : InFrames s g port) where
      emits_f : items_at w f port ≡ items_for w.ports p.emitted.items f port
      emits_f = is_path.emits f port rec_f (within s there f port in_f)

      emits_g : items_at w g port ≡ items_for w.ports p.emitted.items g port
      emits_g = is_path.emits g port rec_g (within s there g port in_g)

      had : have r.quantifier places.items fields port (items_at w f port) ≡ have r.quantifier places.items fields port (items_at w g port)
      had =
          ap (have r.quantifier places.items fields port) emits_f
          ∙ same_have fields port places.items r.quantifier _ _ (marked_alike fields port w.ports f g p.emitted.items (all_have_alike p.frames.inner fields s port f g rec_f.frame_is rec_g.frame_is in_f in_g p.emitted.items lists asked (part_ways lists p.frames s (divided.within s there))))
          ∙ sym (ap (have r.quantifier places.items fields port) emits_g)

      bare_same : map bare (items_at w f port) ≡ map bare (items_at w g port)
      bare_same = ap (map bare) emits_f ∙ bare_all w.ports f g port p.emitted.items ∙ sym (ap (map bare) emits_g)

      same_in_set : decides r port p.steps.items (items_at w f port) ≡ decides r port p.steps.items (items_at w g port)
      same_in_set = rw (same_leaving r.demand _ _ bare_same, done_is (items_at w f port) ∙ had ∙ sym (done_is (items_at w g port))) refl

    decides_as : (frame : List ℕ) (q : ℕ) → IsDeciding w r frame q → InFrames p.frames frame q → decides r q p.steps.items (items_at w frame q) ≡ true
    decides_as frame q d within =
        ap (λ (l : List Step). decides r q l (items_at w frame q)) (sym (lines_are frame q d.about.received within)) ∙ and_true _ _ (and_true _ _ d.about.counted d.about.leaving) d.decides

    -- one that decides is in a set, where none was found that does
    none_in_set : (s : FrameSet) → Contains sets s → (frame : List ℕ) (q : ℕ) → q ≡ port → IsDeciding w r frame q → InFrames s frame q → IsSoughtInSet w r p.steps.items steps s NoFrame → ⊥
    none_in_set s there frame q at d inside (inl empty) = empty frame q d.about.received.frame_is inside
    none_in_set s there frame q at d inside (inr (g, x, is_found, not_so)) =
        let other = received_there s g x (within s there) is_found in
        let own : IsReceivedAt w frame port = subst (λ (n : ℕ). IsReceivedAt w frame n) at d.about.received in
        let own_in : InFrames s frame port = subst (λ (n : ℕ). InFrames s frame n) at inside in
        let g_in : InFrames s g port = subst (λ (n : ℕ). InFrames s g n) other.0 is_found.within in
        let g_received : IsReceivedAt w g port = subst (λ (n : ℕ). IsReceivedAt w g n) other.0 other.1 in
        let so : decides r port p.steps.items (items_at w frame port) ≡ true = subst (λ (n : ℕ). decides r n p.steps.items (items_at w frame n) ≡ true) at (decides_as frame q d (within s there frame q inside)) in
        let not_there : decides r port p.steps.items (items_at w g port) ≡ false = subst (λ (n : ℕ). decides r n p.steps.items (items_at w g n) ≡ false) other.0 not_so in
        never_both _ (sym (same_in_set s there frame g own g_received own_in g_in) ∙ so) not_there

    pub sought_in_sets : (sought : Sought) → IsSoughtInSets w r p.steps.items steps sets sought → IsSought w r (λ frame q. (q ≡ port) × InFrames p.frames frame q) (IsUnknownPath fields steps p) sought
    sought_in_sets (Frame shown) (s, there, h) =
        let here = received_there s shown.frame.items shown.in_port (within s there) h.0 in
        (decides_there shown.frame.items shown.in_port here.1 (within s there _ _ h.0.within) here.2 (ap (decides r shown.in_port p.steps.items) (sym h.1) ∙ h.2), h.1)
    sought_in_sets NoFrame none = λ frame q there d. (let set = divided.all frame q d.about.received.frame_is there.1 in none_in_set set.0 set.1 frame q there.0 d set.2 (none set.0 set.1))
    sought_in_sets Undecided (s, there, unfound) = inr (lists, asked, (s, divided.within s there, unfound))

-- ---- from paths to classes

module _ (w : TheWorld) (r : Requirement) (fields : List MatchField) (steps port : ℕ) where
  abbrev AmongPaths : List Path → List ℕ → ℕ → Type 0
  AmongPaths ps frame q = (q ≡ port) × InPaths ps frame q

  module _ (items : List Item) (leaving : is_leaving r.demand items ≡ true) where
    abbrev UnknownOf : List Path → Type 0
    UnknownOf ps = (is_leaving r.demand items ≡ true) × ((p : Path) × Contains ps p × IsUnknownPath fields steps p)

    one_path_sought : (p : Path) (sought : Sought) → IsSought w r (λ frame q. (q ≡ port) × InFrames p.frames frame q) (IsUnknownPath fields steps p) sought → IsSought w r (AmongPaths (p ∷ [])) (UnknownOf (p ∷ [])) sought
    one_path_sought p (Frame shown) h = h
    one_path_sought p NoFrame none = λ frame q there d. none frame q (there.0, subst (λ (x : Path). InFrames x.frames frame q) (only_in p there.1.0 there.1.1) there.1.2) d
    one_path_sought p Undecided h = (leaving, (p, (0, omega arith, refl), h))

    pub class_sought : (ps before : List Path) (p : Path) → ps ≡ before ++ p ∷ [] → length ps ≡ 1 → (sought : Sought) → IsSought w r (λ frame q. (q ≡ port) × InFrames p.frames frame q) (IsUnknownPath fields steps p) sought → IsSought w r (AmongPaths ps) (UnknownOf ps) sought
    class_sought ps before p is one sought h = subst (λ (l : List Path). IsSought w r (AmongPaths l) (UnknownOf l) sought) (sym (only_one ps before p is one)) (one_path_sought p sought h)

  module _ (places : Vec Destination) (has : r.demand ≡ Has places fields) (receives : IsReceivingPort w.ports port) (fits : port < 2 ^ 32) (found : Paths) (are : ArePaths Each w (came_in_by port ∷ r.within.items) steps found) where
    one_class : (sought : Sought) (c : PathClass) → Contains found.classes.items c → IsSoughtInClass w r fields steps c sought → IsSought w r (AmongPaths c.paths.items) (IsUnknownClass r.demand fields steps c) sought
    one_class sought c there h = h port places receives fits (are.classes c there) (are.merged c there) has

    pub classes_sought : (sought : Sought) → IsSoughtInEach w r fields steps found.classes.items sought → IsSought w r (λ frame q. (q ≡ port) × InClasses found.classes.items frame q) (IsUnknownAmong r.demand steps found.classes.items) sought
    classes_sought (Frame shown) (c, there, h) = one_class (Frame shown) c there h
    classes_sought NoFrame none = λ frame q in_class d. one_class NoFrame in_class.1.0 in_class.1.1 (none in_class.1.0 in_class.1.1) frame q (in_class.0, in_class.1.2) d
    classes_sought Undecided (c, there, h) =
        subst (λ (d : Demand). IsUnknownAmong d steps found.classes.items) (sym has) (c, there, subst (λ (d : Demand). IsUnknownClass d fields steps c) has (one_class Undecided c there h))

-- one more, where none is found
pub one_without : {A : Type 0} (is : A → Sought → Type 0) (xs : List A) (x : A) (is_known : Bool) → IsSoughtInAll is xs (found_so_far is_known) → is x NoFrame → IsSoughtInAll is (xs ++ x ∷ []) (found_so_far is_known)
one_without is xs x true old own = each_more (λ y. is y NoFrame) xs x old own
one_without is xs x false old own = some_more (λ y. is y Undecided) xs x old

-- nothing of the class leaves by the places
pub none_leaves_there : (w : TheWorld) (r : Requirement) (port : ℕ) → port < 2 ^ 32 → (c : PathClass) → IsPathClass w (came_in_by port ∷ r.within.items) c → length c.paths.items ≡ 1 → is_leaving r.demand c.items.items ≡ false →
    (frame : List ℕ) (q : ℕ) → (q ≡ port) × InPaths c.paths.items frame q → IsDeciding w r frame q → ⊥
none_leaves_there w r port fits c class one silent frame q there d = never_both _ (sym (leaves_alike w r port fits c class one frame q there.0 d.about.received there.1) ∙ d.about.leaving) silent

pub ingress_fits : (p : ℕ) → IsIngressPort p → p < 2 ^ 32
ingress_fits p (inl numbered) = omega (arith, numbered.1)
ingress_fits p (inr local) = omega (arith, local)
