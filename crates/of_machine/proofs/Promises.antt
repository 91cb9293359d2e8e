-- What the invariants of a world say at a place.
use Rattle.std.proofs.Common.{◌≡◌, ◌==◌, ℕ, ◌+◌, ◌<◌, ◌≤◌, suc, zero, Bool, true, false, cond, not, List, [], ◌∷◌, ◌++◌, refl, length, get_or, arith, Some}
use Rattle.std.{specs.Prelude.IsTrue, specs.Prelude.filter, specs.Prelude.nat_lt, specs.Prelude.nat_le, specs.List.list_all, specs.List.list_any, proofs.lemmas.Bool.Decides.nat_tests}
use Rattle.of_wire.specs.declared.limits.TheConstants.{OFPP_TABLE}
use Rattle.of_layers.{specs.declared.field.Field.Field, specs.Fields.is_settable, specs.Fields.ones_of, specs.Reading.is_tag_type, proofs.TestLemmas.and_true}
use Rattle.of_actions.specs.declared.action.Action.{Action}
use Rattle.of_actions.specs.declared.action.Action.TheVariants.{Output, PushVlan, Group, SetField}
use Rattle.of_actions.specs.{PortNumbers.is_port, declared.instruction.Instruction.Instruction, InstructionLists.are_kept, InstructionLists.is_served_body, InstructionLists.run_place}
use Rattle.of_actions.specs.{Rising.is_ascending, Supported.is_supported, Supported.are_supported}
use Rattle.of_action_set.specs.Sets.{is_group, is_output, rank, with_action, with_actions, in_order}
use Rattle.of_machine.specs.Sound.{longest, IsSound, IsBelow, AllBelow, IsBucket, AllBuckets}
use Rattle.of_machine.specs.{TheWorld.TheWorld, Outside.is_to_tables}

-- ---- actions that some bytes encode

pub tag_type : (t : ℕ) → IsTrue (is_supported false (PushVlan t)) → IsTrue (is_tag_type t)
unfolding is_supported
tag_type t h = h

pub settable : (f : Field) (v : ℕ) → IsTrue (is_supported false (SetField f v)) → IsTrue (is_settable f)
unfolding is_supported
settable f v h = (and_true (is_settable f) (nat_le v (ones_of f)) h).0

pub value_fits : (f : Field) (v : ℕ) → IsTrue (is_supported false (SetField f v)) → v ≤ ones_of f
unfolding is_supported
value_fits f v h = let e = (and_true (is_settable f) (nat_le v (ones_of f)) h).1 in grind (arith, nat_tests)

-- no flow sends to the tables
pub out_of_tables : (port max_len : ℕ) → IsTrue (is_supported false (Output port max_len)) → (port == OFPP_TABLE) ≡ false
unfolding is_supported
out_of_tables port max_len h =
    let e = (and_true (is_port false port) (nat_lt max_len 0x10000) h).0 in by_test (port == OFPP_TABLE) refl e
  where
    by_test : (b : Bool) → (port == OFPP_TABLE) ≡ b → is_port false port ≡ true → b ≡ false
    by_test false e p = refl
    by_test true e p = let same : port ≡ OFPP_TABLE = grind (arith, nat_tests) in let no : is_port false port ≡ false = rw same refl in cc

-- an action of a PACKET_OUT that is not for the tables is valid in a flow
pub flow_serves : (a : Action) → IsTrue (is_supported true a) → is_to_tables a ≡ false → IsTrue (is_supported false a)
unfolding is_supported
flow_serves (Output port max_len) h e = rw e at h
flow_serves other h e = h

pub all_at : {X : Type 0} (p : X → Bool) (l : List X) (i : ℕ) (d : X) → list_all p l ≡ true → i < length l → p (get_or l i d) ≡ true
all_at p [] i d all lt = absurd (omega arith)
all_at p (x ∷ l) zero d all lt = (and_true (p x) (list_all p l) all).0
all_at p (x ∷ l) (suc i) d all lt = all_at p l i d (and_true (p x) (list_all p l) all).1 (omega arith)

-- ---- chains of groups

module _ (w : TheWorld) (n : ℕ) where
  pub below_at : (l : List Action) (i : ℕ) (d : Action) → AllBelow w n l → i < length l → IsBelow w n (get_or l i d)
  below_at [] i d all lt = absurd (omega arith)
  below_at (a ∷ l) zero d all lt = all.0
  below_at (a ∷ l) (suc i) d all lt = below_at l i d all.1 (omega arith)

  below_more : (l k : List Action) → AllBelow w n l → AllBelow w n k → AllBelow w n (l ++ k)
  below_more [] k a b = b
  below_more (x ∷ l) k a b = (a.0, below_more l k a.1 b)

  pub below_filter : (q : Action → Bool) (l : List Action) → AllBelow w n l → AllBelow w n (filter q l)
  below_filter q [] all = tt
  below_filter q (a ∷ l) all = by_test (q a) (below_filter q l all.1)
    where
      by_test : (b : Bool) → AllBelow w n (filter q l) → AllBelow w n (cond b (a ∷ filter q l) (filter q l))
      by_test true others = (all.0, others)
      by_test false others = others

  pub set_below : (s l : List Action) → AllBelow w n s → AllBelow w n l → AllBelow w n (with_actions s l)
  set_below s [] h all = h
  set_below s (a ∷ l) h all =
      set_below (with_action s a) l
      (below_more (filter (λ b. nat_lt (rank b) (rank a)) s) (a ∷ filter (λ b. nat_lt (rank a) (rank b)) s)
      (below_filter (λ b. nat_lt (rank b) (rank a)) s h) (all.0, below_filter (λ b. nat_lt (rank a) (rank b)) s h)) all.1

  pub order_below : (s : List Action) → AllBelow w n s → AllBelow w n (in_order s)
  order_below s h = by_test (list_any is_group s)
    where
      by_test : (b : Bool) → AllBelow w n (cond b (filter (λ a. not (is_output a)) s) s)
      by_test true = below_filter (λ a. not (is_output a)) s h
      by_test false = h

pub action_below_more : (w : TheWorld) (m n : ℕ) (a : Action) → m ≤ n → IsBelow w m a → IsBelow w n a
action_below_more w m n (Group g) le h = omega (arith, h, le)
action_below_more w m n other le h = tt

pub all_below_more : (w : TheWorld) (m n : ℕ) (l : List Action) → m ≤ n → AllBelow w m l → AllBelow w n l
all_below_more w m n [] le h = tt
all_below_more w m n (a ∷ l) le h = (action_below_more w m n a le h.0, all_below_more w m n l le h.1)

pub action_is_below : (w : TheWorld) (a : Action) → IsSound w → IsBelow w (longest + 1) a
action_is_below w (Group g) sound = omega (arith, sound.short g)
action_is_below w other sound = tt

pub all_are_below : (w : TheWorld) (l : List Action) → IsSound w → AllBelow w (longest + 1) l
all_are_below w [] sound = tt
all_are_below w (a ∷ l) sound = (action_is_below w a sound, all_are_below w l sound)

-- the bucket at a place exists
pub bucket_at : (w : TheWorld) (g : ℕ) (ks : List ℕ) (i : ℕ) → AllBuckets w g ks → i < length ks → IsBucket w g (get_or ks i 0)
bucket_at w g [] i all lt = absurd (omega arith)
bucket_at w g (k ∷ ks) zero all lt = all.0
bucket_at w g (k ∷ ks) (suc i) all lt = bucket_at w g ks i all.1 (omega arith)

-- its actions, as the code has them
pub bucket_served : (w : TheWorld) (g k : ℕ) (l : List Action) → IsBucket w g k → w.bucket g k ≡ Some l → IsTrue (list_all (is_supported false) l)
bucket_served w g k l b there =
    let same : b.actions ≡ l = let e = b.there in cc in
    rw same at (and_true (nat_le (length b.actions) 64) (list_all (is_supported false) b.actions) b.served).1

pub bucket_below : (w : TheWorld) (g k n : ℕ) (l s : List Action) → IsBucket w g k → w.bucket g k ≡ Some l → w.chain g ≤ n → s ≡ [] → AllBelow w n (with_actions s l)
bucket_below w g k n l s b there le empty =
    let same : b.actions ≡ l = let e = b.there in cc in
    rw empty (set_below w n [] l tt (all_below_more w (w.chain g) n l le (rw same at b.below)))

-- ---- instructions that an entry keeps

-- the actions of an instruction
pub list_served : (l : List Action) → IsTrue (are_supported false l) → IsTrue (list_all (is_supported false) l)
list_served l h = (and_true (nat_le (length l) 64) (list_all (is_supported false) l) h).1

pub flow_served : (l : List Instruction) → IsTrue (are_kept l) → IsTrue (list_all is_served_body l)
flow_served l h = (and_true (is_ascending run_place l) (list_all is_served_body l) h).1

-- ---- the actions of a PACKET_OUT

pub all_served : (l : List Action) → IsTrue (are_supported true l) → IsTrue (list_all (is_supported true) l)
all_served l h = (and_true (nat_le (length l) 64) (list_all (is_supported true) l) h).1

pub list_few : (l : List Action) → IsTrue (are_supported true l) → length l ≤ 64
list_few l h = let e = (and_true (nat_le (length l) 64) (list_all (is_supported true) l) h).0 in grind (arith, nat_tests)
