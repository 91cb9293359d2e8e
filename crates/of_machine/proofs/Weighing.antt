-- Each step lowers the weight.
use Rattle.std.proofs.Common.{◌≡◌, ◌==◌, ℕ, ◌+◌, ◌*◌, ◌-◌, ◌<◌, ◌≤◌, suc, zero, Bool, true, false, List, [], ◌∷◌, ◌++◌, refl, length, arith, Option, Some, None, length-append}
use Rattle.std.specs.Prelude.{IsTrue, nat_lt, nat_le, unwrap_or, ⊤}
use Rattle.std.{specs.List.list_all, proofs.Math.Nat.mul-le-mul_left, proofs.lemmas.Bool.Decides.nat_tests}
use Rattle.of_wire.specs.declared.limits.TheConstants.{OFPP_TABLE}
use Rattle.of_layers.{specs.Reading.layers_of, proofs.TestLemmas.and_true}
use Rattle.of_rewrite.specs.{declared.frame.Ttl.Ttl, declared.frame.Ttl.TheVariants.Done, declared.frame.Ttl.TheVariants.Expired, declared.frame.Ttl.TheVariants.Absent}
use Rattle.of_rewrite.specs.{TimeToLive.ttl_of, TimeToLive.dec_ttl_result, Frames.frame_ttl_decremented}
use Rattle.of_actions.specs.declared.instruction.Instruction.TheVariants.{Apply, Clear, Write, Metadata, Goto}
use Rattle.of_actions.specs.{declared.action.Action.Action, declared.action.Action.TheVariants.Output, declared.action.Action.TheVariants.Group, declared.action.Action.TheVariants.DecNwTtl}
use Rattle.of_actions.specs.{declared.instruction.Instruction.Instruction, InstructionLists.run_place, InstructionLists.are_for, InstructionLists.is_for, InstructionLists.is_served_body}
use Rattle.of_actions.specs.{Rising.is_ascending, Supported.is_supported}
use Rattle.of_action_set.specs.Sets.{rank, with_actions, in_order}
use Rattle.of_table.specs.declared.flow.Flow.{Flow}
use Rattle.of_machine.specs.Sound.{longest, IsSound, IsBelow, AllBelow, IsBucket, AllBuckets}
use Rattle.of_machine.specs.Rows.{Work, Lookup, Do, RunSet, Act, Task, task, row, acts, works, key_of, lookup_row, entry_row, at_entry, output_row, rewritten, dec_ttl_row, group_action_row, copies, bucket_copy, with_metadata, set_out}
use Rattle.of_machine.specs.Weights.{IsSet, AllFitWork, AllFit, copy_steps, action_steps, table_steps, set_steps, lookup_steps, frame_step_bound, output_weight, act_weight, acts_weight, work_weight, task_weight, weight}
use Rattle.of_machine.proofs.Promises.{out_of_tables, list_served, all_are_below, all_below_more, set_below, order_below}
use Rattle.of_machine.specs.{declared.data.Packet.Packet, TheWorld.TheWorld, Runs.Machine, Runs.step, Runs.first_step, Runs.after}
use Rattle.of_machine.proofs.Sets.{empty_set, written_set, run_set, set_few}

-- ---- what is known of an entry's instructions

abbrev pub IsInstruction : ℕ → Instruction → Type 0
IsInstruction t (Apply l) = IsTrue (list_all (is_supported false) l) × (length l ≤ 64)
IsInstruction t (Write l) = IsTrue (list_all (is_supported false) l)
IsInstruction t (Goto u) = (t < u) × (u < 16)
IsInstruction t other = ⊤

abbrev pub AllInstructions : ℕ → List Instruction → Type 0
AllInstructions t [] = ⊤
AllInstructions t (i ∷ rest) = IsInstruction t i × AllInstructions t rest

abbrev pub IsInOrder : ℕ → List Instruction → Type 0
IsInOrder n [] = ⊤
IsInOrder n (i ∷ rest) = (n ≤ run_place i) × IsInOrder (run_place i + 1) rest

abbrev pub BeginsAt : ℕ → List Instruction → Type 0
BeginsAt n [] = ⊤
BeginsAt n (i ∷ rest) = n ≤ run_place i

instruction_is : (t : ℕ) (i : Instruction) → IsTrue (is_served_body i) → IsTrue (is_for t i) → IsInstruction t i
instruction_is t (Apply l) h k = let e = (and_true (nat_le (length l) 64) (list_all (is_supported false) l) h).0 in (list_served l h, grind (arith, nat_tests))
instruction_is t (Write l) h k = list_served l h
instruction_is t (Goto u) h k = (grind (arith, nat_tests), grind (arith, nat_tests))
instruction_is t other h k = tt

pub instructions_are : (t : ℕ) (l : List Instruction) → IsTrue (list_all is_served_body l) → IsTrue (are_for t l) → AllInstructions t l
instructions_are t [] h k = tt
instructions_are t (i ∷ l) h k =
    let hs = and_true (is_served_body i) (list_all is_served_body l) h in
    let ks = and_true (is_for t i) (list_all (is_for t) l) k in
    (instruction_is t i hs.0 ks.0, instructions_are t l hs.1 ks.1)

next_place : (n : ℕ) (l : List Instruction) → IsTrue (list_all (λ y. nat_lt n (run_place y)) l) → BeginsAt (n + 1) l
next_place n [] h = tt
next_place n (i ∷ l) h = let e = (and_true (nat_lt n (run_place i)) (list_all (λ y. nat_lt n (run_place y)) l) h).0 in grind (arith, nat_tests)

pub order_is : (n : ℕ) (l : List Instruction) → BeginsAt n l → IsTrue (is_ascending run_place l) → IsInOrder n l
order_is n [] low h = tt
order_is n (i ∷ l) low h =
    let hs = and_true (list_all (λ y. nat_lt (run_place i) (run_place y)) l) (is_ascending run_place l) h in
    (low, order_is (run_place i + 1) l (next_place (run_place i) l hs.0) hs.1)

pub begins_low : (l : List Instruction) → BeginsAt 0 l
begins_low [] = tt
begins_low (i ∷ l) = omega arith

-- ---- how heavy lists are

pub copies_more : (m n : ℕ) → m ≤ n → copy_steps m ≤ copy_steps n
unfolding copy_steps
copies_more zero n le = omega arith
copies_more (suc m) zero le = absurd (omega arith)
copies_more (suc m) (suc n) le = let ih = copies_more m n (omega arith) in omega arith

-- the steps of a frame
pub frame_steps : lookup_steps longest 0 ≡ frame_step_bound
unfolding copy_steps action_steps table_steps set_steps lookup_steps
frame_steps = refl

output_is_one : (port max_len : ℕ) → IsTrue (is_supported false (Output port max_len)) → output_weight port ≡ 1
output_is_one port max_len served = rw (out_of_tables port max_len served) refl

module _ (w : TheWorld) where
  pub positive : (s : List Action) (work : List Work) → 1 ≤ work_weight w s work
  unfolding lookup_steps set_steps
  positive s [] = omega arith
  positive s (Lookup t ∷ rest) = omega arith
  positive s (Do (Apply l) ∷ rest) = omega arith
  positive s (Do Clear ∷ rest) = omega arith
  positive s (Do (Write l) ∷ rest) = omega arith
  positive s (Do (Metadata value mask) ∷ rest) = omega arith
  positive s (Do (Goto t) ∷ rest) = omega arith
  positive s (RunSet ∷ rest) = omega arith
  positive s (Act a ∷ rest) = let h = positive s rest in omega arith

  acts_work : (l : List Action) (s : List Action) (rest : List Work) → work_weight w s (acts l ++ rest) ≡ acts_weight w l + work_weight w s rest
  acts_work [] s rest = omega arith
  acts_work (a ∷ l) s rest = let h = acts_work l s rest in omega arith

  -- an action whose groups have chains of at most m
  act_bound : (m : ℕ) (a : Action) → IsBelow w (suc m) a → IsTrue (is_supported false a) → act_weight w a ≤ 1 + 16 * copy_steps m
  act_bound m (Output port max_len) h served = let e = output_is_one port max_len served in omega arith
  act_bound m (Group g) h served = let le = copies_more (w.chain g) m (omega (arith, h)) in omega arith
  act_bound m other h served = omega arith

  list_bound : (l : List Action) → AllBelow w (longest + 1) l → IsTrue (list_all (is_supported false) l) → acts_weight w l ≤ action_steps longest * length l
  unfolding action_steps
  list_bound [] h served = omega arith
  list_bound (a ∷ l) h served =
      let both = and_true (is_supported false a) (list_all (is_supported false) l) served in
      let x = act_bound longest a h.0 both.0 in let ih = list_bound l h.1 both.1 in omega arith

  -- beyond the group of a set an action counts once
  tail_bound : (s : List Action) → IsTrue (list_all (λ y. nat_lt 40 (rank y)) s) → IsTrue (list_all (is_supported false) s) → acts_weight w s ≤ length s
  tail_bound [] high served = omega arith
  tail_bound (a ∷ s) high served =
      let hs = and_true (nat_lt 40 (rank a)) (list_all (λ y. nat_lt 40 (rank y)) s) high in
      let both = and_true (is_supported false a) (list_all (is_supported false) s) served in
      by_action a hs.0 both.0 (tail_bound s hs.1 both.1)
    where
      by_action : (a : Action) → nat_lt 40 (rank a) ≡ true → is_supported false a ≡ true → acts_weight w s ≤ length s → acts_weight w (a ∷ s) ≤ length (a ∷ s)
      by_action (Output port max_len) e here ih = let one = output_is_one port max_len here in omega arith
      by_action (Group g) e here ih = absurd cc
      by_action other e here ih = omega arith

  -- a set has one group at most
  rising_bound : (m : ℕ) (s : List Action) → IsTrue (is_ascending rank s) → IsTrue (list_all (is_supported false) s) → AllBelow w (suc m) s → acts_weight w s ≤ length s + 16 * copy_steps m
  rising_bound m [] rising served below = omega arith
  rising_bound m (a ∷ s) rising served below =
      let rs = and_true (list_all (λ y. nat_lt (rank a) (rank y)) s) (is_ascending rank s) rising in
      let both = and_true (is_supported false a) (list_all (is_supported false) s) served in
      by_action a rs.0 both.0 both.1 below.0 (rising_bound m s rs.1 both.1 below.1)
    where
      by_action : (a : Action) → list_all (λ y. nat_lt (rank a) (rank y)) s ≡ true → is_supported false a ≡ true → list_all (is_supported false) s ≡ true → IsBelow w (suc m) a → acts_weight w s ≤ length s + 16 * copy_steps m → acts_weight w (a ∷ s) ≤ length (a ∷ s) + 16 * copy_steps m
      by_action (Output port max_len) high here others h ih = let one = output_is_one port max_len here in omega arith
      by_action (Group g) high here others h ih = let x = tail_bound s high others in let le = copies_more (w.chain g) m (omega (arith, h)) in omega arith
      by_action other high here others h ih = omega arith

  pub set_bound : (m : ℕ) (s : List Action) → IsSet s → AllBelow w (suc m) s → acts_weight w (in_order s) ≤ 30 + 16 * copy_steps m
  set_bound m s h below =
      let k = run_set s h in
      let x = rising_bound m (in_order s) k.rising k.served (order_below w (suc m) s below) in
      let y = set_few (in_order s) k in
      omega (arith, x, y)

  module _ (sound : IsSound w) where
    end_bound : (s : List Action) → IsSet s → work_weight w s (RunSet ∷ []) ≤ set_steps longest
    unfolding set_steps
    end_bound s h = let x = set_bound longest s h (all_are_below w s sound) in omega arith

    -- instructions of place n and above, without APPLY_ACTIONS
    after_bound : (t n : ℕ) (l : List Instruction) (s : List Action) → 1 ≤ n → n ≤ 5 → IsInOrder n l → AllInstructions t l → IsSet s →
        work_weight w s (works l) + n ≤ 5 + ((15 - t) * table_steps longest + set_steps longest)
    unfolding lookup_steps
    after_bound t n [] s low high order all set = let x = end_bound s set in omega arith
    after_bound t n (Apply l ∷ rest) s low high order all set = absurd (omega (arith, order.0))
    after_bound t n (Clear ∷ rest) s low high order all set =
        let ih = after_bound t 2 rest [] (omega arith) (omega arith) order.1 all.1 empty_set in let le = order.0 in omega arith
    after_bound t n (Write l ∷ rest) s low high order all set =
        let ih = after_bound t 3 rest (with_actions s l) (omega arith) (omega arith) order.1 all.1 (written_set s l set all.0) in let le = order.0 in omega arith
    after_bound t n (Metadata value mask ∷ rest) s low high order all set =
        let ih = after_bound t 4 rest s (omega arith) (omega arith) order.1 all.1 set in let le = order.0 in omega arith
    after_bound t n (Goto u ∷ rest) s low high order all set =
        let le = order.0 in let up = all.0.0 in
        let fewer : 16 - u ≤ 15 - t = omega arith in
        omega (arith, mul-le-mul_left (table_steps longest) fewer)

    -- all instructions of an entry
    works_bound : (t : ℕ) (l : List Instruction) (s : List Action) → t < 16 → IsInOrder 0 l → AllInstructions t l → IsSet s →
        work_weight w s (works l) + 1 ≤ lookup_steps longest t
    unfolding lookup_steps table_steps
    works_bound t (Apply l ∷ rest) s inside order all set =
        let x = list_bound l (all_are_below w l sound) all.0.0 in
        let ih = after_bound t 1 rest s (omega arith) (omega arith) order.1 all.1 set in
        let many = mul-le-mul_left (action_steps longest) all.0.1 in
        let tables : 16 - t ≡ suc (15 - t) = omega arith in
        rw tables (omega arith)
    works_bound t [] s inside order all set =
        let h = after_bound t 1 [] s (omega arith) (omega arith) tt tt set in
        let tables : 16 - t ≡ suc (15 - t) = omega arith in
        rw tables (omega arith)
    works_bound t (i ∷ rest) s inside order all set =
        let h = after_bound t 1 (i ∷ rest) s (omega arith) (omega arith) (omega arith, order.1) all set in
        let tables : 16 - t ≡ suc (15 - t) = omega arith in
        rw tables (omega arith)

    entry_bound : (t n : ℕ) (f : Flow) (s : List Action) → t < 16 → w.flow t n ≡ Some f → IsSet s → work_weight w s (works f.instructions) + 1 ≤ lookup_steps longest t
    entry_bound t n f s inside e set =
        let kept = and_true (is_ascending run_place f.instructions) (list_all is_served_body f.instructions) (sound.kept t n f e) in
        works_bound t f.instructions s inside (order_is 0 f.instructions (begins_low f.instructions) kept.0) (instructions_are t f.instructions kept.1 (sound.onward t n f e)) set

    -- ---- rows

    pub weight_more : (xs ys : List Task) → weight w (xs ++ ys) ≡ weight w xs + weight w ys
    weight_more [] ys = omega arith
    weight_more (x ∷ xs) ys = let ih = weight_more xs ys in omega arith

    -- a bucket's copy
    copy_bound : (g k : ℕ) (p : Packet) → 0 < w.chain g → IsBucket w g k → task_weight w (task (bucket_copy w g p k) (RunSet ∷ [])) ≤ copy_steps (w.chain g)
    unfolding copy_steps
    copy_bound g k p chain b =
        let m = w.chain g - 1 in
        let more : w.chain g ≡ suc m = omega arith in
        let below : AllBelow w (suc m) b.actions = all_below_more w (w.chain g) (suc m) b.actions (omega (arith, more)) b.below in
        let x = set_bound m (with_actions [] b.actions) (written_set [] b.actions empty_set (list_served b.actions b.served)) (set_below w (suc m) [] b.actions tt below) in
        rw (more, b.there) (omega arith)

    copies_bound : (g : ℕ) (p : Packet) (ks : List ℕ) → 0 < w.chain g → AllBuckets w g ks → weight w (copies w g p ks) ≤ copy_steps (w.chain g) * length ks
    copies_bound g p [] chain all = omega arith
    copies_bound g p (k ∷ ks) chain all =
        let x = copy_bound g k p chain all.0 in
        let ih = copies_bound g p ks chain all.1 in
        omega arith

    group_lowers : (p : Packet) (rest : List Work) (g : ℕ) (o : Option (List ℕ)) → w.chosen g ≡ o → weight w (group_action_row w p rest g o).left ≤ 16 * copy_steps (w.chain g) + work_weight w p.action_set rest
    group_lowers p rest g None e = omega arith
    group_lowers p rest g (Some ks) e =
        let x = copies_bound g p ks (sound.chained g ks e) (sound.buckets g ks e) in
        let y = weight_more (copies w g p ks) (task p rest ∷ []) in
        omega (arith, mul-le-mul_left (copy_steps (w.chain g)) (sound.few g ks e))

    entry_lowers : (p : Packet) (t k : ℕ) (o : Option Flow) → t < 16 → IsSet p.action_set → w.flow t k ≡ o → weight w (entry_row p t k o).left + 1 ≤ lookup_steps longest t
    entry_lowers p t k (Some f) inside set e = let x = entry_bound t k f p.action_set inside e set in omega arith
    entry_lowers p t k None inside set e = let x = works_bound t [] p.action_set inside tt tt set in let y = positive p.action_set (works []) in omega arith

    lookup_lowers : (p : Packet) (t : ℕ) (o : Option ℕ) → t < 16 → IsSet p.action_set → weight w (lookup_row w p t o).left + 1 ≤ lookup_steps longest t
    lookup_lowers p t None inside set = let x = works_bound t [] p.action_set inside tt tt set in let y = positive p.action_set (works []) in omega arith
    lookup_lowers p t (Some k) inside set = entry_lowers p t k (w.flow t k) inside set refl

    aged_lowers : (p : Packet) (rest : List Work) (answer : Ttl) → weight w (dec_ttl_row p rest answer).left ≤ work_weight w p.action_set rest
    aged_lowers p rest Expired = let x = positive p.action_set rest in omega arith
    aged_lowers p rest other = omega arith

    output_lowers : (p : Packet) (rest : List Work) (port max_len : ℕ) (b : Bool) → (port == OFPP_TABLE) ≡ b → weight w (output_row w p rest (Output port max_len) port max_len).left + 1 ≤ output_weight port + work_weight w p.action_set rest
    output_lowers p rest port max_len true e = rw e (omega arith)
    output_lowers p rest port max_len false e = rw e (omega arith)

    pub row_lowers : (p : Packet) (work : List Work) → IsSet p.action_set → AllFitWork work → weight w (row w p work).left + 1 ≤ work_weight w p.action_set work
    row_lowers p [] set fit = omega arith
    row_lowers p (Lookup t ∷ rest) set fit = lookup_lowers p t (w.winner t (key_of p)) fit.0 set
    row_lowers p (Do (Apply l) ∷ rest) set fit = let x = acts_work l p.action_set rest in omega arith
    row_lowers p (Do Clear ∷ rest) set fit = omega arith
    row_lowers p (Do (Write l) ∷ rest) set fit = omega arith
    row_lowers p (Do (Metadata value mask) ∷ rest) set fit = omega arith
    row_lowers p (Do (Goto t) ∷ rest) set fit = omega arith
    row_lowers p (RunSet ∷ rest) set fit = let x = acts_work (in_order p.action_set) [] rest in omega arith
    row_lowers p (Act (Output port max_len) ∷ rest) set fit = output_lowers p rest port max_len (port == OFPP_TABLE) refl
    row_lowers p (Act (Group g) ∷ rest) set fit = let x = group_lowers p rest g (w.chosen g) refl in omega arith
    row_lowers p (Act DecNwTtl ∷ rest) set fit = let x = aged_lowers p rest (dec_ttl_result (ttl_of (layers_of p.frame))) in omega arith
    row_lowers p (Act other ∷ rest) set fit = omega arith

    -- ---- and keeps the work fit

    acts_fit : (l : List Action) (rest : List Work) → AllFitWork rest → AllFitWork (acts l ++ rest)
    acts_fit [] rest fit = fit
    acts_fit (a ∷ l) rest fit = (tt, acts_fit l rest fit)

    works_fit : (t : ℕ) (l : List Instruction) → AllInstructions t l → AllFitWork (works l)
    works_fit t [] all = (tt, tt)
    works_fit t (Apply l ∷ rest) all = (tt, works_fit t rest all.1)
    works_fit t (Clear ∷ rest) all = (tt, works_fit t rest all.1)
    works_fit t (Write l ∷ rest) all = (all.0, works_fit t rest all.1)
    works_fit t (Metadata value mask ∷ rest) all = (tt, works_fit t rest all.1)
    works_fit t (Goto u ∷ rest) all = (all.0.1, tt)

    fit_more : (xs ys : List Task) → AllFit xs → AllFit ys → AllFit (xs ++ ys)
    fit_more [] ys a b = b
    fit_more (x ∷ xs) ys a b = (a.0, fit_more xs ys a.1 b)

    pub one_task : (p : Packet) (work : List Work) → IsSet p.action_set → AllFitWork work → AllFit (task p work ∷ [])
    one_task p work set fit = (record { set = set; work = fit }, tt)

    copies_fit : (g : ℕ) (p : Packet) (ks : List ℕ) → AllBuckets w g ks → AllFit (copies w g p ks)
    copies_fit g p [] all = tt
    copies_fit g p (k ∷ ks) all =
        let b = all.0 in
        let set : IsSet (with_actions [] (unwrap_or (w.bucket g k) [])) = rw b.there (written_set [] b.actions empty_set (list_served b.actions b.served)) in
        (record { set = set; work = (tt, tt) }, copies_fit g p ks all.1)

    group_fits : (p : Packet) (rest : List Work) (g : ℕ) (o : Option (List ℕ)) → w.chosen g ≡ o → IsSet p.action_set → AllFitWork rest → AllFit (group_action_row w p rest g o).left
    group_fits p rest g None e set fit = one_task p rest set fit
    group_fits p rest g (Some ks) e set fit = fit_more (copies w g p ks) (task p rest ∷ []) (copies_fit g p ks (sound.buckets g ks e)) (one_task p rest set fit)

    entry_fits : (p : Packet) (t k : ℕ) (o : Option Flow) → IsSet p.action_set → w.flow t k ≡ o → AllFit (entry_row p t k o).left
    entry_fits p t k None set e = one_task p [] set tt
    entry_fits p t k (Some f) set e =
        let kept = and_true (is_ascending run_place f.instructions) (list_all is_served_body f.instructions) (sound.kept t k f e) in
        one_task (at_entry t f p) (works f.instructions) set (works_fit t f.instructions (instructions_are t f.instructions kept.1 (sound.onward t k f e)))

    lookup_fits : (p : Packet) (t : ℕ) (o : Option ℕ) → IsSet p.action_set → AllFit (lookup_row w p t o).left
    lookup_fits p t None set = one_task p [] set tt
    lookup_fits p t (Some k) set = entry_fits p t k (w.flow t k) set refl

    aged_fits : (p : Packet) (rest : List Work) (answer : Ttl) → IsSet p.action_set → AllFitWork rest → AllFit (dec_ttl_row p rest answer).left
    aged_fits p rest Done set fit = one_task (record p { frame = frame_ttl_decremented p.frame }) rest set fit
    aged_fits p rest Expired set fit = one_task p [] set tt
    aged_fits p rest Absent set fit = one_task p rest set fit

    output_fits : (p : Packet) (rest : List Work) (port max_len : ℕ) (b : Bool) → (port == OFPP_TABLE) ≡ b → IsSet p.action_set → AllFitWork rest → AllFit (output_row w p rest (Output port max_len) port max_len).left
    output_fits p rest port max_len true e set fit = rw e (record { set = empty_set; work = (omega arith, tt) }, one_task p rest set fit)
    output_fits p rest port max_len false e set fit = rw e (one_task p rest set fit)

    pub row_fits : (p : Packet) (work : List Work) → IsSet p.action_set → AllFitWork work → AllFit (row w p work).left
    row_fits p [] set fit = tt
    row_fits p (Lookup t ∷ rest) set fit = lookup_fits p t (w.winner t (key_of p)) set
    row_fits p (Do (Apply l) ∷ rest) set fit = one_task p (acts l ++ rest) set (acts_fit l rest fit.1)
    row_fits p (Do Clear ∷ rest) set fit = one_task (record p { action_set = [] }) rest empty_set fit.1
    row_fits p (Do (Write l) ∷ rest) set fit = one_task (record p { action_set = with_actions p.action_set l }) rest (written_set p.action_set l set fit.0) fit.1
    row_fits p (Do (Metadata value mask) ∷ rest) set fit = one_task (record p { metadata = with_metadata value mask p.metadata }) rest set fit.1
    row_fits p (Do (Goto t) ∷ rest) set fit = one_task p (Lookup t ∷ []) set (fit.0, tt)
    row_fits p (RunSet ∷ rest) set fit = one_task (set_out p) (acts (in_order p.action_set) ++ rest) empty_set (acts_fit (in_order p.action_set) rest fit.1)
    row_fits p (Act (Output port max_len) ∷ rest) set fit = output_fits p rest port max_len (port == OFPP_TABLE) refl set fit.1
    row_fits p (Act (Group g) ∷ rest) set fit = group_fits p rest g (w.chosen g) refl set fit.1
    row_fits p (Act DecNwTtl ∷ rest) set fit = aged_fits p rest (dec_ttl_result (ttl_of (layers_of p.frame))) set fit.1
    row_fits p (Act other ∷ rest) set fit = one_task (record p { frame = rewritten other p.frame }) rest set fit.1

    -- ---- the whole run

    first_bound : (m : Machine) (ts : List Task) → AllFit ts → m.tasks ≡ ts →
        AllFit (first_step w m ts).tasks × (weight w (first_step w m ts).tasks + length (first_step w m ts).lines ≤ weight w ts + length m.lines)
    first_bound m [] fit e = rw e (tt, omega arith)
    first_bound m (t ∷ others) fit e =
        let x = row_lowers t.packet t.work fit.0.set fit.0.work in
        let y = weight_more (row w t.packet t.work).left others in
        let z = length-append m.lines ((row w t.packet t.work).line ∷ []) in
        (fit_more (row w t.packet t.work).left others (row_fits t.packet t.work fit.0.set fit.0.work) fit.1, omega arith)

    -- however many steps are taken, the lines and the weight that is left are no more than the weight at the start
    pub bounded : (k : ℕ) (m : Machine) → AllFit m.tasks → AllFit (after w k m).tasks × (weight w (after w k m).tasks + length (after w k m).lines ≤ weight w m.tasks + length m.lines)
    unfolding after step
    bounded zero m fit = (fit, omega arith)
    bounded (suc k) m fit =
        let ih = bounded k m fit in
        let x = first_bound (after w k m) (after w k m).tasks ih.0 refl in
        (x.0, omega arith)
