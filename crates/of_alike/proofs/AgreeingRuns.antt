-- The rest of two runs whose switches agree from a table on.
use Rattle.std.proofs.Common.{◌≡◌, ℕ, suc, ◌+◌, ◌≤◌, ◌==◌, true, false, List, [], ◌∷◌, ◌++◌, refl, sym, ◌∙◌, ap, arith, add_comm}
use Rattle.std.{specs.Prelude.unwrap_or, specs.List.AllByRecursion, specs.List.list_all, proofs.lemmas.Bool.Decides.nat_tests, proofs.lemmas.List.append-nil}
use Rattle.of_wire.specs.declared.limits.TheConstants.{OFPP_TABLE}
use Rattle.of_actions.specs.declared.instruction.Instruction.TheVariants.{Apply, Write, Goto}
use Rattle.of_actions.specs.{declared.action.Action.Action, declared.action.Action.TheVariants.Output, declared.instruction.Instruction.Instruction}
use Rattle.of_actions.specs.{InstructionLists.are_for, InstructionLists.is_for, InstructionLists.is_served_body, PortNumbers.is_port, Supported.are_supported, Supported.is_supported}
use Rattle.of_machine.specs.{declared.data.Packet.Packet, declared.data.Item.Item, TheWorld.TheWorld, Rows.Lookup, Rows.task, Runs.Machine, Runs.after, Runs.run_of, Runs.starting}
use Rattle.of_machine.{specs.Sound.AllBuckets, specs.Sound.IsSound, specs.Weights.task_weight, proofs.Ending.after_plus, proofs.Ending.run_is_after, proofs.Ending.settled}
use Rattle.of_machine.proofs.Whole.{frame_fits, run_ends, run_is}
use Rattle.of_alike.specs.Agreeing.{AgreeFrom, AllFrom, AreNoTable, InstructionFrom, IsNoTable}
use Rattle.of_alike.proofs.Agreeing.{IsOnward, StepsAgree, after_agrees}

-- ---- what a switch installs goes to later tables, and no action of it is an OUTPUT to TABLE

table_is_no_port : (port : ℕ) → is_port false port ≡ true → (port == OFPP_TABLE) ≡ false
table_is_no_port port h = grind (arith, nat_tests)

pub is_no_table : (a : Action) → is_supported false a ≡ true → IsNoTable a
unfolding is_supported
is_no_table (Output port max_len) h = table_is_no_port port (grind (arith, nat_tests))
is_no_table other h = tt

pub all_no_table : (l : List Action) → list_all (is_supported false) l ≡ true → AreNoTable l
all_no_table [] h = tt
all_no_table (a ∷ l) h = (is_no_table a (grind (arith, nat_tests)), all_no_table l (grind (arith, nat_tests)))

pub supported_no_table : (l : List Action) → are_supported false l ≡ true → AreNoTable l
supported_no_table l h = all_no_table l (grind (arith, nat_tests))

one_from : (n t : ℕ) → n ≤ suc t → (i : Instruction) → is_served_body i ≡ true → is_for t i ≡ true → InstructionFrom n i
one_from n t le (Apply l) h k = supported_no_table l h
one_from n t le (Write l) h k = supported_no_table l h
one_from n t le (Goto to) h k = grind (arith, nat_tests)
one_from n t le other h k = tt

pub all_from : (n t : ℕ) → n ≤ suc t → (is : List Instruction) → list_all is_served_body is ≡ true → are_for t is ≡ true → AllByRecursion (InstructionFrom n) is
all_from n t le [] h k = tt
all_from n t le (i ∷ is) h k = (one_from n t le i (grind (arith, nat_tests)) (grind (arith, nat_tests)), all_from n t le is (grind (arith, nat_tests)) (grind (arith, nat_tests)))

-- an instruction that leads to no table before this one
pub served_from : (n : ℕ) (i : Instruction) → is_served_body i ≡ true → ((t : ℕ) → i ≡ Goto t → n ≤ t) → InstructionFrom n i
served_from n (Apply l) h k = supported_no_table l h
served_from n (Write l) h k = supported_no_table l h
served_from n (Goto t) h k = k t refl
served_from n other h k = tt

buckets_from : (w : TheWorld) (g : ℕ) (places : List ℕ) → AllBuckets w g places → AllByRecursion (λ place. AreNoTable (unwrap_or (w.bucket g place) [])) places
buckets_from w g [] h = tt
buckets_from w g (x ∷ xs) h = (rw h.0.there (supported_no_table h.0.actions h.0.served), buckets_from w g xs h.1)

pub from_sound : (n : ℕ) (w : TheWorld) → IsSound w → IsOnward n w
from_sound n w sound = record {
  flow = λ t place f le e. let kept = sound.kept t place f e in all_from n t (omega (arith, le)) f.instructions (grind (arith, nat_tests)) (sound.onward t place f e);
  bucket = λ g places e. buckets_from w g places (sound.buckets g places e);
}

-- ---- runs

-- both give the same after what they had given
pub record RestsAgree (a b a' b' : List Item) : Type 0 where
  pub more : List Item
  pub first : a' ≡ a ++ more
  pub second : b' ≡ b ++ more

module _ (n : ℕ) (w v : TheWorld) (sound : IsSound w) (sound' : IsSound v) (agree : AgreeFrom n w v) where
  module _ (p : Packet) (empty : p.action_set ≡ []) (i j : ℕ) where
    abbrev pub first_at : ℕ → Machine
    first_at k = after w k (starting p (Lookup 0 ∷ []))

    abbrev pub second_at : ℕ → Machine
    second_at k = after v k (starting p (Lookup 0 ∷ []))

    abbrev pub bound : ℕ
    bound = task_weight w (task p (Lookup 0 ∷ []))

    none_first : (first_at bound).tasks ≡ []
    none_first = ap (λ (m : Machine). m.tasks) (sym (run_is_after w p (Lookup 0 ∷ []))) ∙ run_ends w sound p (Lookup 0 ∷ []) (frame_fits w sound p empty)

    none_more : (first_at (bound + i)).tasks ≡ []
    none_more = ap (λ k. (first_at k).tasks) (add_comm bound i) ∙ (ap (λ (m : Machine). m.tasks) (settled w i bound (starting p (Lookup 0 ∷ [])) none_first) ∙ none_first)

    pub rests_agree : (first_at i).tasks ≡ (second_at j).tasks → AllFrom n (first_at i).tasks →
        RestsAgree (first_at i).items (second_at j).items (run_of w p (Lookup 0 ∷ [])).items (run_of v p (Lookup 0 ∷ [])).items
    rests_agree same from =
        let begun : StepsAgree n w v agree (from_sound n w sound) (first_at i) (second_at j) (first_at i).items (second_at j).items = record { tasks = same; from = from; more = []; first = sym (append-nil _); second = sym (append-nil _) } in
        let steps = after_agrees n w v agree (from_sound n w sound) bound (first_at i) (second_at j) (first_at i).items (second_at j).items begun in
        let first : first_at (bound + i) ≡ after w bound (first_at i) = after_plus w bound i (starting p (Lookup 0 ∷ [])) in
        let second : second_at (bound + j) ≡ after v bound (second_at j) = after_plus v bound j (starting p (Lookup 0 ∷ [])) in
        let none : (second_at (bound + j)).tasks ≡ [] = ap (λ (m : Machine). m.tasks) second ∙ (sym steps.tasks ∙ (ap (λ (m : Machine). m.tasks) (sym first) ∙ none_more)) in
        record {
          more = steps.more;
          first = ap (λ (m : Machine). m.items) (run_is w sound p (Lookup 0 ∷ []) (bound + i) (frame_fits w sound p empty) none_more ∙ first) ∙ steps.first;
          second = ap (λ (m : Machine). m.items) (run_is v sound' p (Lookup 0 ∷ []) (bound + j) (frame_fits v sound' p empty) none ∙ second) ∙ steps.second;
        }
