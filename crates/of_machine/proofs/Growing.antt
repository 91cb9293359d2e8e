-- No step lets a frame outgrow its bound, and each frame that is emitted is a frame.
use Rattle.std.proofs.Common.{◌≡◌, ◌==◌, ℕ, ◌+◌, ◌*◌, ◌-◌, ◌<◌, ◌≤◌, suc, zero, Bool, true, false, cond, List, [], ◌∷◌, ◌++◌, refl, length, arith, Option, Some, None}
use Rattle.std.specs.Prelude.{IsTrue, nat_lt, unwrap_or, map, max, ⊤, ◌||◌}
use Rattle.std.specs.List.{All, list_all}
use Rattle.of_wire.specs.declared.limits.TheConstants.{OFPP_ALL, OFPP_CONTROLLER, OFPP_FLOOD, OFPP_IN_PORT, OFPP_TABLE}
use Rattle.of_layers.{specs.Reading.layers_of, proofs.TestLemmas.and_true}
use Rattle.of_rewrite.proofs.Framing.{set_frame, ttl_frame, aged_frame, pushed_frame, popped_frame}
use Rattle.of_rewrite.specs.{declared.frame.Ttl.Ttl, declared.frame.Ttl.TheVariants.Done, declared.frame.Ttl.TheVariants.Expired, declared.frame.Ttl.TheVariants.Absent}
use Rattle.of_rewrite.specs.{TimeToLive.ttl_of, TimeToLive.dec_ttl_result, Frames.IsFrame, Frames.frame_ttl_decremented}
use Rattle.of_actions.specs.declared.instruction.Instruction.TheVariants.{Apply, Clear, Write, Metadata, Goto}
use Rattle.of_actions.specs.declared.action.Action.{Action}
use Rattle.of_actions.specs.declared.action.Action.TheVariants.{Output, PushVlan, Group, DecNwTtl}
use Rattle.of_actions.specs.{declared.instruction.Instruction.Instruction, InstructionLists.run_place, InstructionLists.is_served_body, Rising.is_ascending, Supported.is_supported}
use Rattle.of_action_set.specs.Sets.{rank, with_actions, in_order}
use Rattle.of_table.specs.declared.flow.Flow.{Flow}
use Rattle.of_ports.specs.{declared.port.Port.Port, Ports.may_send, Ports.port_at, Ports.other_ports}
use Rattle.of_machine.specs.Sound.{longest, IsSound, IsBelow, AllBelow, IsBucket, AllBuckets}
use Rattle.of_machine.specs.Rows.{Work, Lookup, Do, RunSet, Act, Task, task, row, acts, works, key_of, lookup_row, entry_row, at_entry, output_row, rewritten, dec_ttl_row, group_action_row, copies, with_metadata, set_out, Emitted, emission, to_port}
use Rattle.of_machine.specs.Runs.{Machine, step, first_step, after, starting}
use Rattle.of_machine.specs.Growth.{table_pushes, act_pushes, list_pushes, work_pushes, IsLow, AllLow, frame_of, AllShort, AllFrames}
use Rattle.of_machine.proofs.Promises.{out_of_tables, list_served, all_are_below, all_below_more, set_below, order_below}
use Rattle.of_machine.proofs.Weighing.{AllInstructions, IsInOrder, instructions_are, order_is, begins_low, bounded}
use Rattle.of_machine.specs.{declared.data.Packet.Packet, declared.data.Item.Item, declared.data.Item.TheVariants.Sent, TheWorld.TheWorld}
use Rattle.of_machine.{specs.Weights.IsSet, specs.Weights.AllFitWork, specs.Weights.IsFit, specs.Weights.AllFit, proofs.Sets.empty_set, proofs.Sets.written_set, proofs.Sets.run_set}

-- ---- items

-- this holds of the frame of each item
abbrev Each : (List ℕ → Type 0) → List Item → Type 0
Each P [] = ⊤
Each P (i ∷ rest) = P (frame_of i) × Each P rest

each_more : (P : List ℕ → Type 0) (xs ys : List Item) → Each P xs → Each P ys → Each P (xs ++ ys)
each_more P [] ys a b = b
each_more P (x ∷ xs) ys a b = (a.0, each_more P xs ys a.1 b)

all_each : (P : List ℕ → Type 0) (xs : List Item) → Each P xs → All (λ item. P (frame_of item)) xs
all_each P [] h k d lt = absurd (omega arith)
all_each P (x ∷ xs) h zero d lt = h.0
all_each P (x ∷ xs) h (suc k) d lt = all_each P xs h.1 k d (omega arith)

-- a frame of at most so many bytes
abbrev IsShortFrame : ℕ → List ℕ → Type 0
IsShortFrame most frame = (length frame ≤ most) × IsFrame frame

all_short : (most : ℕ) (xs : List Item) → Each (IsShortFrame most) xs → AllShort most xs
all_short most xs h = λ k d lt. (all_each (IsShortFrame most) xs h k d lt).0

all_frames : (most : ℕ) (xs : List Item) → Each (IsShortFrame most) xs → AllFrames xs
all_frames most xs h = λ k d lt. (all_each (IsShortFrame most) xs h k d lt).1

module _ (P : List ℕ → Type 0) (p : Packet) (low : P p.frame) where
  sent_each : (ports : List Port) → Each P (map (λ q. Sent q.number p.frame) ports)
  sent_each [] = tt
  sent_each (q ∷ ports) = (low, sent_each ports)

  either_each : (b : Bool) (x y : Emitted) → Each P x.items → Each P y.items → Each P (cond b x y).items
  either_each true x y h k = h
  either_each false x y h k = k

  port_each : (q : Option Port) → Each P (to_port q p).items
  port_each None = tt
  port_each (Some q) = either_each (may_send q) _ _ (low, tt) tt

  emission_each : (ports : List Port) (port max_len : ℕ) → Each P (emission ports p port max_len).items
  emission_each ports port max_len =
      either_each (port == OFPP_IN_PORT) _ _ (port_each (port_at ports p.ingress))
      (either_each ((port == OFPP_FLOOD) || (port == OFPP_ALL)) _ _ (sent_each (other_ports ports p.ingress))
      (either_each (port == OFPP_CONTROLLER) _ _ (low, tt)
      (either_each (port == p.ingress) _ _ tt (port_each (port_at ports port)))))

  output_each : (w : TheWorld) (rest : List Work) (a : Action) (port max_len : ℕ) (b : Bool) → (port == OFPP_TABLE) ≡ b → Each P (output_row w p rest a port max_len).items
  output_each w rest a port max_len true e = rw e tt
  output_each w rest a port max_len false e = rw e (emission_each w.ports port max_len)

  aged_each : (rest : List Work) (answer : Ttl) → Each P (dec_ttl_row p rest answer).items
  aged_each rest Expired = (low, tt)
  aged_each rest other = tt

  group_each : (w : TheWorld) (rest : List Work) (g : ℕ) (o : Option (List ℕ)) → Each P (group_action_row w p rest g o).items
  group_each w rest g None = tt
  group_each w rest g (Some ks) = tt

  entry_each : (t n : ℕ) (o : Option Flow) → Each P (entry_row p t n o).items
  entry_each t n None = tt
  entry_each t n (Some f) = tt

  lookup_each : (w : TheWorld) (t : ℕ) (o : Option ℕ) → Each P (lookup_row w p t o).items
  lookup_each w t None = tt
  lookup_each w t (Some n) = entry_each t n (w.flow t n)

  row_each : (w : TheWorld) (work : List Work) → Each P (row w p work).items
  row_each w [] = tt
  row_each w (Lookup t ∷ rest) = lookup_each w t (w.winner t (key_of p))
  row_each w (Do (Apply l) ∷ rest) = tt
  row_each w (Do Clear ∷ rest) = tt
  row_each w (Do (Write l) ∷ rest) = tt
  row_each w (Do (Metadata value mask) ∷ rest) = tt
  row_each w (Do (Goto t) ∷ rest) = tt
  row_each w (RunSet ∷ rest) = tt
  row_each w (Act (Output port max_len) ∷ rest) = output_each w rest (Output port max_len) port max_len (port == OFPP_TABLE) refl
  row_each w (Act (Group g) ∷ rest) = group_each w rest g (w.chosen g)
  row_each w (Act DecNwTtl ∷ rest) = aged_each rest (dec_ttl_result (ttl_of (layers_of p.frame)))
  row_each w (Act other ∷ rest) = tt

-- ---- pushes of lists

module _ (w : TheWorld) where
  acts_pushes : (l : List Action) (s : List Action) (rest : List Work) → work_pushes w s (acts l ++ rest) ≡ list_pushes w l (work_pushes w s rest)
  acts_pushes [] s rest = refl
  acts_pushes (a ∷ l) s rest = rw (acts_pushes l s rest) refl

  -- an action of a flow, whose groups have chains of at most m
  act_room : (m : ℕ) (a : Action) (later : ℕ) → IsBelow w (suc m) a → IsTrue (is_supported false a) → act_pushes w a later ≤ 1 + max m later
  act_room m (Output port max_len) later h served = rw (out_of_tables port max_len served) (omega arith)
  act_room m (Group g) later h served = let le : w.chain g < suc m = h in omega arith
  act_room m other later h served = omega arith

  list_room : (m : ℕ) (l : List Action) (later : ℕ) → AllBelow w (suc m) l → IsTrue (list_all (is_supported false) l) → list_pushes w l later ≤ length l + max m later
  list_room m [] later h served = omega arith
  list_room m (a ∷ l) later h served =
      let both = and_true (is_supported false a) (list_all (is_supported false) l) served in
      let ih = list_room m l later h.1 both.1 in
      let x = act_room m a (list_pushes w l later) h.0 both.0 in
      omega (arith, ih, x)

  -- beyond PUSH_VLAN a set pushes in the copies of its group alone
  tail_room : (m : ℕ) (s : List Action) → IsTrue (list_all (λ y. nat_lt 1 (rank y)) s) → IsTrue (list_all (is_supported false) s) → AllBelow w (suc m) s → list_pushes w s 0 ≤ m
  tail_room m [] high served below = omega arith
  tail_room m (a ∷ s) high served below =
      let hs = and_true (nat_lt 1 (rank a)) (list_all (λ y. nat_lt 1 (rank y)) s) high in
      let both = and_true (is_supported false a) (list_all (is_supported false) s) served in
      by_action a hs.0 both.0 below.0 (tail_room m s hs.1 both.1 below.1)
    where
      by_action : (a : Action) → nat_lt 1 (rank a) ≡ true → is_supported false a ≡ true → IsBelow w (suc m) a → list_pushes w s 0 ≤ m → list_pushes w (a ∷ s) 0 ≤ m
      by_action (Output port max_len) e here h ih = rw (out_of_tables port max_len here) ih
      by_action (PushVlan type) e here h ih = absurd cc
      by_action (Group g) e here h ih = let le : w.chain g < suc m = h in omega arith
      by_action other e here h ih = ih

  rising_room : (m : ℕ) (s : List Action) → IsTrue (is_ascending rank s) → IsTrue (list_all (is_supported false) s) → AllBelow w (suc m) s → list_pushes w s 0 ≤ 1 + m
  rising_room m [] rising served below = omega arith
  rising_room m (a ∷ s) rising served below =
      let rs = and_true (list_all (λ y. nat_lt (rank a) (rank y)) s) (is_ascending rank s) rising in
      let both = and_true (is_supported false a) (list_all (is_supported false) s) served in
      by_action a rs.0 both.0 both.1 below.0 below.1 (rising_room m s rs.1 both.1 below.1)
    where
      by_action : (a : Action) → list_all (λ y. nat_lt (rank a) (rank y)) s ≡ true → is_supported false a ≡ true → list_all (is_supported false) s ≡ true → IsBelow w (suc m) a → AllBelow w (suc m) s → list_pushes w s 0 ≤ 1 + m → list_pushes w (a ∷ s) 0 ≤ 1 + m
      by_action (Output port max_len) high here others h hs ih = rw (out_of_tables port max_len here) ih
      by_action (PushVlan type) high here others h hs ih = let x = tail_room m s high others hs in omega arith
      by_action (Group g) high here others h hs ih = let le : w.chain g < suc m = h in omega arith
      by_action other high here others h hs ih = ih

  set_room : (m : ℕ) (s : List Action) → IsSet s → AllBelow w (suc m) s → list_pushes w (in_order s) 0 ≤ 1 + m
  set_room m s h below = let k = run_set s h in rising_room m (in_order s) k.rising k.served (order_below w (suc m) s below)

  module _ (sound : IsSound w) where
    after_room : (t n : ℕ) (l : List Instruction) (s : List Action) → 1 ≤ n → IsInOrder n l → AllInstructions t l → IsSet s → work_pushes w s (works l) ≤ (15 - t) * 64 + (1 + longest)
    after_room t n [] s low order all set = let x = set_room longest s set (all_are_below w s sound) in omega (arith, x)
    after_room t n (Apply l ∷ rest) s low order all set = absurd (omega (arith, order.0))
    after_room t n (Clear ∷ rest) s low order all set = after_room t 2 rest [] (omega arith) order.1 all.1 empty_set
    after_room t n (Write l ∷ rest) s low order all set = after_room t 3 rest (with_actions s l) (omega arith) order.1 all.1 (written_set s l set all.0)
    after_room t n (Metadata value mask ∷ rest) s low order all set = after_room t 4 rest s (omega arith) order.1 all.1 set
    after_room t n (Goto u ∷ rest) s low order all set = let up = all.0.0 in omega arith

    works_room : (t : ℕ) (l : List Instruction) (s : List Action) → t < 16 → IsInOrder 0 l → AllInstructions t l → IsSet s → work_pushes w s (works l) ≤ table_pushes t
    works_room t (Apply l ∷ rest) s inside order all set =
        let x = list_room longest l (work_pushes w s (works rest)) (all_are_below w l sound) all.0.0 in
        let ih = after_room t 1 rest s (omega arith) order.1 all.1 set in
        let many = all.0.1 in omega (arith, x, ih, many)
    works_room t [] s inside order all set = let x = after_room t 1 [] s (omega arith) tt tt set in omega (arith, x)
    works_room t (i ∷ rest) s inside order all set = let x = after_room t 1 (i ∷ rest) s (omega arith) (omega arith, order.1) all set in omega (arith, x)

    -- ---- rows

    low_more : (b : ℕ) (xs ys : List Task) → AllLow w b xs → AllLow w b ys → AllLow w b (xs ++ ys)
    low_more b [] ys x y = y
    low_more b (t ∷ xs) ys x y = (x.0, low_more b xs ys x.1 y)

    one_low : (b : ℕ) (p : Packet) (work : List Work) → IsFrame p.frame → length p.frame + 4 * work_pushes w p.action_set work ≤ b → AllLow w b (task p work ∷ [])
    one_low b p work frame room = (record { frame = frame; room = room }, tt)

    copy_room : (b g k : ℕ) (p : Packet) → length p.frame + 4 * w.chain g ≤ b → 0 < w.chain g → IsBucket w g k → length p.frame + 4 * list_pushes w (in_order (with_actions [] (unwrap_or (w.bucket g k) []))) 0 ≤ b
    copy_room b g k p room chain c =
        let m = w.chain g - 1 in
        let below : AllBelow w (suc m) c.actions = all_below_more w (w.chain g) (suc m) c.actions (omega arith) c.below in
        let x = set_room m (with_actions [] c.actions) (written_set [] c.actions empty_set (list_served c.actions c.served)) (set_below w (suc m) [] c.actions tt below) in
        rw c.there (omega (arith, x))

    copies_low : (b g : ℕ) (p : Packet) (ks : List ℕ) → IsFrame p.frame → length p.frame + 4 * w.chain g ≤ b → 0 < w.chain g → AllBuckets w g ks → AllLow w b (copies w g p ks)
    copies_low b g p [] frame room chain there = tt
    copies_low b g p (k ∷ ks) frame room chain there =
        (record { frame = frame; room = copy_room b g k p room chain there.0 }, copies_low b g p ks frame room chain there.1)

    group_low : (b g : ℕ) (p : Packet) (rest : List Work) (o : Option (List ℕ)) → w.chosen g ≡ o → IsFrame p.frame → length p.frame + 4 * max (w.chain g) (work_pushes w p.action_set rest) ≤ b → AllLow w b (group_action_row w p rest g o).left
    group_low b g p rest None e frame room = one_low b p rest frame (omega arith)
    group_low b g p rest (Some ks) e frame room =
        low_more b (copies w g p ks) (task p rest ∷ [])
        (copies_low b g p ks frame (omega arith) (sound.chained g ks e) (sound.buckets g ks e)) (one_low b p rest frame (omega arith))

    entry_low : (b t k : ℕ) (p : Packet) (o : Option Flow) → t < 16 → IsSet p.action_set → w.flow t k ≡ o → IsFrame p.frame → length p.frame + 4 * table_pushes t ≤ b → AllLow w b (entry_row p t k o).left
    entry_low b t k p None inside set e frame room = one_low b p [] frame (omega arith)
    entry_low b t k p (Some f) inside set e frame room =
        let kept = and_true (is_ascending run_place f.instructions) (list_all is_served_body f.instructions) (sound.kept t k f e) in
        let x = works_room t f.instructions p.action_set inside (order_is 0 f.instructions (begins_low f.instructions) kept.0) (instructions_are t f.instructions kept.1 (sound.onward t k f e)) set in
        one_low b (at_entry t f p) (works f.instructions) frame (omega (arith, x, room))

    lookup_low : (b t : ℕ) (p : Packet) (o : Option ℕ) → t < 16 → IsSet p.action_set → IsFrame p.frame → length p.frame + 4 * table_pushes t ≤ b → AllLow w b (lookup_row w p t o).left
    lookup_low b t p None inside set frame room = one_low b p [] frame (omega arith)
    lookup_low b t p (Some k) inside set frame room = entry_low b t k p (w.flow t k) inside set refl frame room

    aged_low : (b : ℕ) (p : Packet) (rest : List Work) (answer : Ttl) → IsFrame p.frame → length p.frame + 4 * work_pushes w p.action_set rest ≤ b → AllLow w b (dec_ttl_row p rest answer).left
    aged_low b p rest Done frame room = let k = aged_frame p.frame frame in one_low b (record p { frame = frame_ttl_decremented p.frame }) rest k.1 (let same = k.0 in omega (arith, same, room))
    aged_low b p rest Expired frame room = one_low b p [] frame (omega arith)
    aged_low b p rest Absent frame room = one_low b p rest frame room

    -- a frame that is as long, or less
    as_long : (f g : List ℕ) → (length f ≡ length g) × IsFrame f → (length f ≤ length g) × IsFrame f
    as_long f g h = let same = h.0 in (omega (arith, same), h.1)

    rewritten_low : (b : ℕ) (p : Packet) (rest : List Work) (a : Action) → (length (rewritten a p.frame) ≤ length p.frame) × IsFrame (rewritten a p.frame) → length p.frame + 4 * work_pushes w p.action_set rest ≤ b → AllLow w b (task (record p { frame = rewritten a p.frame }) rest ∷ [])
    rewritten_low b p rest a k room = one_low b (record p { frame = rewritten a p.frame }) rest k.1 (let le = k.0 in omega (arith, le, room))

    output_low : (b : ℕ) (p : Packet) (rest : List Work) (port max_len : ℕ) (c : Bool) → (port == OFPP_TABLE) ≡ c → IsFrame p.frame → length p.frame + 4 * cond c (max (table_pushes 0) (work_pushes w p.action_set rest)) (work_pushes w p.action_set rest) ≤ b → AllLow w b (output_row w p rest (Output port max_len) port max_len).left
    output_low b p rest port max_len true e frame room = rw e (record { frame = frame; room = omega arith }, one_low b p rest frame (omega arith))
    output_low b p rest port max_len false e frame room = rw e (one_low b p rest frame room)

    pub row_low : (b : ℕ) (p : Packet) (work : List Work) → IsSet p.action_set → AllFitWork work → IsLow w b (task p work) → AllLow w b (row w p work).left
    row_low b p [] set fit low = tt
    row_low b p (Lookup t ∷ rest) set fit low = lookup_low b t p (w.winner t (key_of p)) fit.0 set low.frame low.room
    row_low b p (Do (Apply l) ∷ rest) set fit low = one_low b p (acts l ++ rest) low.frame (rw (acts_pushes l p.action_set rest) low.room)
    row_low b p (Do Clear ∷ rest) set fit low = one_low b (record p { action_set = [] }) rest low.frame low.room
    row_low b p (Do (Write l) ∷ rest) set fit low = one_low b (record p { action_set = with_actions p.action_set l }) rest low.frame low.room
    row_low b p (Do (Metadata value mask) ∷ rest) set fit low = one_low b (record p { metadata = with_metadata value mask p.metadata }) rest low.frame low.room
    row_low b p (Do (Goto t) ∷ rest) set fit low = one_low b p (Lookup t ∷ []) low.frame low.room
    row_low b p (RunSet ∷ rest) set fit low = one_low b (set_out p) (acts (in_order p.action_set) ++ rest) low.frame (rw (acts_pushes (in_order p.action_set) [] rest) low.room)
    row_low b p (Act (Output port max_len) ∷ rest) set fit low = output_low b p rest port max_len (port == OFPP_TABLE) refl low.frame low.room
    row_low b p (Act (PushVlan type) ∷ rest) set fit low =
        let k = pushed_frame type p.frame low.frame in
        let room = low.room in
        one_low b (record p { frame = rewritten (PushVlan type) p.frame }) rest k.1 (let longer = k.0 in omega (arith, longer, room))
    row_low b p (Act (Group g) ∷ rest) set fit low = group_low b g p rest (w.chosen g) refl low.frame low.room
    row_low b p (Act DecNwTtl ∷ rest) set fit low = aged_low b p rest (dec_ttl_result (ttl_of (layers_of p.frame))) low.frame low.room
    row_low b p (Act other ∷ rest) set fit low = rewritten_low b p rest other (search (as_long, popped_frame, ttl_frame, set_frame, low.frame)) low.room

    -- ---- the whole run

    pub record AreLow (b : ℕ) (m : Machine) : Type 0 where
      pub tasks : AllLow w b m.tasks
      pub items : Each (IsShortFrame b) m.items

    first_low : (b : ℕ) (m : Machine) (ts : List Task) → AllFit ts → AllLow w b ts → m.tasks ≡ ts → AreLow b m → AreLow b (first_step w m ts)
    first_low b m [] fit low e h = h
    first_low b m (t ∷ others) fit low e h = record {
      tasks = low_more b (row w t.packet t.work).left others (row_low b t.packet t.work fit.0.set fit.0.work low.0) low.1;
      items = each_more (IsShortFrame b) m.items (row w t.packet t.work).items h.items (row_each (IsShortFrame b) t.packet (let room = low.0.room in omega (arith, room), low.0.frame) w t.work);
    }

    low_after : (b k : ℕ) (m : Machine) → AllFit m.tasks → AreLow b m → AreLow b (after w k m)
    unfolding after step
    low_after b zero m fit h = h
    low_after b (suc k) m fit h =
        let ih = low_after b k m fit h in
        first_low b (after w k m) (after w k m).tasks (bounded w sound k m fit).0 ih.tasks refl ih

    pub all_are_short : (b k : ℕ) (p : Packet) (work : List Work) → IsFit (task p work) → IsLow w b (task p work) → AllShort b (after w k (starting p work)).items
    all_are_short b k p work fit low = all_short b (after w k (starting p work)).items (low_after b k (starting p work) (fit, tt) (record { tasks = (low, tt); items = tt })).items

    -- whatever the bound
    pub all_are_frames : (k : ℕ) (p : Packet) (work : List Work) → IsFit (task p work) → IsFrame p.frame → AllFrames (after w k (starting p work)).items
    all_are_frames k p work fit frame =
        let b = length p.frame + 4 * work_pushes w p.action_set work in
        let low : IsLow w b (task p work) = record { frame = frame; room = omega arith } in
        all_frames b (after w k (starting p work)).items (low_after b k (starting p work) (fit, tt) (record { tasks = (low, tt); items = tt })).items

    -- ---- a frame, and the actions of a PACKET_OUT

    pub frame_low : (p : Packet) → IsFrame p.frame → length p.frame ≤ 9216 → IsLow w 13328 (task p (Lookup 0 ∷ []))
    frame_low p frame le = record { frame = frame; room = omega (arith, le) }

    output_more : (port later : ℕ) (c : Bool) → (port == OFPP_TABLE) ≡ c → cond c (max (table_pushes 0) later) later ≤ 1 + max (table_pushes 0) later
    output_more port later true e = omega arith
    output_more port later false e = omega arith

    act_more : (a : Action) (later : ℕ) → act_pushes w a later ≤ 1 + max (table_pushes 0) later
    act_more (Output port max_len) later = output_more port later (port == OFPP_TABLE) refl
    act_more (Group g) later = let le : w.chain g ≤ longest = sound.short g in omega (arith, le)
    act_more other later = omega arith

    acts_more : (l : List Action) (s : List Action) → work_pushes w s (acts l) ≤ length l + table_pushes 0
    acts_more [] s = omega arith
    acts_more (a ∷ l) s = let x = act_more a (work_pushes w s (acts l)) in let ih = acts_more l s in omega (arith, x, ih)

    pub actions_low : (p : Packet) (l : List Action) → IsFrame p.frame → length l ≤ 64 → length p.frame ≤ 9216 → IsLow w 13584 (task p (acts l))
    actions_low p l frame few le = let x = acts_more l p.action_set in record { frame = frame; room = omega (arith, x, few, le) }
