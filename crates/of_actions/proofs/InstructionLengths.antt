-- How long instructions are that are written.
use Rattle.std.proofs.Common.{◌≡◌, ℕ, ◌+◌, ◌≤◌, true, false, eqb, List, [], ◌∷◌, ◌++◌, length, refl, sym, ap, subst, ◌∙◌, arith}
use Rattle.std.{specs.Prelude.◌==◌, specs.Prelude.◌||◌, specs.Prelude.if◌then◌else◌, specs.List.list_all, proofs.lemmas.Bool.eqb-true, proofs.lemmas.Bool.Decides.nat_tests}
use Rattle.std.proofs.lemmas.List.{length-append, append_assoc}
use Rattle.of_wire.specs.Numbered.{only}
use Rattle.of_actions.specs.declared.instruction.Instruction.TheVariants.{Apply, Write}
use Rattle.of_actions.proofs.RunOrders.{groups, only_all, list_all-only, rising_only_of, one_of, order_same}
use Rattle.of_actions.specs.{declared.instruction.Instruction.Instruction, Rising.is_ascending, InstructionLists.run_place, InstructionLists.is_served_body, InstructionLists.are_kept}
use Rattle.of_actions.{specs.RunOrder.in_run_order, specs.CanonicalInstructions.canonical_instruction, specs.CanonicalInstructions.canonical_instructions, proofs.ActionsAgain.canonical_short}

-- the bytes of one that is done at this place
abbrev most : ℕ → ℕ
most k = if (k == 0) || (k == 2) then 1544 else if k == 3 then 24 else 8

length-instruction : (i : Instruction) → is_served_body i ≡ true → length (canonical_instruction i) ≤ most (run_place i)
unfolding canonical_instruction
length-instruction (Apply actions) served = let l = canonical_short false actions served in omega (arith, l.short)
length-instruction (Write actions) served = let l = canonical_short false actions served in omega (arith, l.short)
length-instruction other served = omega arith

group_short : (k : ℕ) (xs : List Instruction) → list_all (λ x. eqb (run_place x) k) xs ≡ true → is_ascending run_place xs ≡ true → list_all is_served_body xs ≡ true → length (canonical_instructions xs) ≤ most k
group_short k [] all up served = omega arith
group_short k (x ∷ []) all up served =
    let place = eqb-true (run_place x) k (grind (arith, nat_tests)) in
    let this : is_served_body x ≡ true = grind (arith, nat_tests) in
    omega (arith, length-append (canonical_instruction x) [], subst (λ (n : ℕ). length (canonical_instruction x) ≤ most n) place (length-instruction x this))
group_short k (x ∷ y ∷ xs) all up served = absurd (one_of k x y xs all up)

canonical-append : (xs ys : List Instruction) → canonical_instructions (xs ++ ys) ≡ canonical_instructions xs ++ canonical_instructions ys
canonical-append [] ys = refl
canonical-append (x ∷ xs) ys = ap (λ (z : List ℕ). canonical_instruction x ++ z) (canonical-append xs ys) ∙ sym (append_assoc (canonical_instruction x) (canonical_instructions xs) (canonical_instructions ys))

abbrev most_of : List ℕ → ℕ
most_of [] = 0
most_of (k ∷ ks) = most k + most_of ks

groups_short : (ks : List ℕ) (is : List Instruction) → is_ascending run_place is ≡ true → list_all is_served_body is ≡ true → length (canonical_instructions (groups ks is)) ≤ most_of ks
groups_short [] is up served = omega arith
groups_short (k ∷ ks) is up served =
    let this = group_short k (only run_place k is) (only_all k is) (rising_only_of k is up) (list_all-only is_served_body k is served) in
    let others = groups_short ks is up served in
    let both : length (canonical_instructions (groups (k ∷ ks) is)) ≡ length (canonical_instructions (only run_place k is)) + length (canonical_instructions (groups ks is)) = ap length (canonical-append (only run_place k is) (groups ks is)) ∙ length-append (canonical_instructions (only run_place k is)) (canonical_instructions (groups ks is)) in
    omega (arith, both, this, others)

pub instructions_short : (is : List Instruction) → are_kept is ≡ true → length (canonical_instructions is) ≤ 3128
unfolding in_run_order
instructions_short is kept =
    let rising : is_ascending run_place is ≡ true = grind (arith, nat_tests) in
    let served : list_all is_served_body is ≡ true = grind (arith, nat_tests) in
    subst (λ (x : List Instruction). length (canonical_instructions x) ≤ 3128) (order_same is rising) (groups_short (0 ∷ 1 ∷ 2 ∷ 3 ∷ 4 ∷ []) is rising served)
