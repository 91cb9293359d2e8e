-- Instructions, header by header.
use Rattle.std.proofs.Common.{◌≡◌, ℕ, ◌+◌, ◌<◌, true, false, eqb, List, [], ◌∷◌, ◌++◌, length, get_or, drop, suc, Option, Some, None, refl, sym, ap, subst, ◌∙◌, arith, add-one, drop-cons}
use Rattle.std.{specs.List.list_all, proofs.lemmas.Bool.Decides.nat_tests, proofs.lemmas.List.append-nil, proofs.Math.ListN.drop_of_length-le}
use Rattle.of_wire.{specs.declared.code.Code.Code, specs.Numbered.is_used, specs.Numbered.is_distinct, proofs.Walking.one_walk}
use Rattle.of_actions.specs.declared.instruction.Instruction.TheVariants.{Apply, Clear, Write, Metadata, Goto}
use Rattle.of_actions.specs.Headers.{Header, goto, metadata, write, apply, clear, kind_of}
use Rattle.of_actions.specs.Instructions.{HasActions, HasFault, IsInstructionBody, IsFault, AreBodies}
use Rattle.of_actions.specs.{declared.action.Action.Action, declared.instruction.Instruction.Instruction, Actions.actions_of}
use Rattle.of_actions.specs.{InstructionLists.type_of_instruction, InstructionLists.run_place, InstructionLists.is_for, InstructionLists.are_for, Unread.leads_on}

-- whatever the headers from this place on begin completes the whole
pub record Reading (hs : List Header) (i : ℕ) (done : List Instruction) : Type 0 where
  pub completes : (more : List Instruction) (fault : Option Code) → AreBodies (drop i hs) more fault → AreBodies hs (done ++ more) fault

at_place : (hs : List Header) (i : ℕ) (h : Header) → i < length hs → h ≡ get_or hs i h → drop i hs ≡ h ∷ drop (i + 1) hs
at_place hs i h lt is =
    let e : drop i hs ≡ get_or hs i h ∷ drop (suc i) hs = drop-cons hs i h lt in
    e ∙ rw add-one (ap (λ (x : Header). x ∷ drop (suc i) hs) (sym is))

pub body_refused : (hs : List Header) (i : ℕ) (h : Header) (done : List Instruction) (code : Code) → Reading hs i done → i < length hs → h ≡ get_or hs i h → IsFault h (Some code) → (before : List Instruction) × AreBodies hs before (Some code)
body_refused hs i h done code reading lt is fault =
    (done ++ [], reading.completes [] (Some code) (subst (λ (x : List Header). AreBodies x [] (Some code)) (sym (at_place hs i h lt is)) fault))

pub all_read : (hs : List Header) (i : ℕ) (done : List Instruction) → Reading hs i done → length hs ≡ i → AreBodies hs done None
all_read hs i done reading e =
    let ended : drop i hs ≡ [] = drop_of_length-le hs (omega arith) in
    subst (λ (x : List Instruction). AreBodies hs x None) (append-nil done) (reading.completes [] None (subst (λ (x : List Header). AreBodies x [] None) (sym ended) refl))

-- ---- headers begin one list of instructions, or have one fault

one_list : (bytes : List ℕ) (make : List Action → Instruction) (v w : Instruction) → HasActions bytes make v → HasActions bytes make w → v ≡ w
one_list bytes make v w a b = a.is ∙ (ap make (one_walk (actions_of false) [] bytes a.actions b.actions None None a.encoded b.encoded).0 ∙ sym b.is)

one_body : (h : Header) (v w : Instruction) → IsInstructionBody h v → IsInstructionBody h w → v ≡ w
one_body (goto table) v w a b = a ∙ sym b
one_body (metadata value mask) v w a b = a ∙ sym b
one_body (write bytes) v w a b = one_list bytes Write v w a b
one_body (apply bytes) v w a b = one_list bytes Apply v w a b
one_body clear v w a b = a ∙ sym b

same_fault : (bytes : List ℕ) (o p : Option Code) → HasFault bytes o → HasFault bytes p → o ≡ p
same_fault bytes None p a b = absurd a
same_fault bytes (Some c) None a b = absurd b
same_fault bytes (Some c) (Some d) a b = (one_walk (actions_of false) [] bytes a.0 b.0 (Some c) (Some d) a.1 b.1).1

one_fault : (h : Header) (o p : Option Code) → IsFault h o → IsFault h p → o ≡ p
one_fault (goto table) o p a b = absurd a
one_fault (metadata value mask) o p a b = absurd a
one_fault (write bytes) o p a b = same_fault bytes o p a b
one_fault (apply bytes) o p a b = same_fault bytes o p a b
one_fault clear o p a b = absurd a

no_fault : (bytes : List ℕ) (make : List Action → Instruction) (v : Instruction) (o : Option Code) → HasActions bytes make v → HasFault bytes o → ⊥
no_fault bytes make v None a b = b
no_fault bytes make v (Some c) a b = let same = (one_walk (actions_of false) [] bytes a.actions b.0 None (Some c) a.encoded b.1).1 in cc

not_both : (h : Header) (v : Instruction) (o : Option Code) → IsInstructionBody h v → IsFault h o → ⊥
not_both (goto table) v o a b = b
not_both (metadata value mask) v o a b = b
not_both (write bytes) v o a b = no_fault bytes Write v o a b
not_both (apply bytes) v o a b = no_fault bytes Apply v o a b
not_both clear v o a b = b

pub one_bodies : (hs : List Header) (xs ys : List Instruction) (o p : Option Code) → AreBodies hs xs o → AreBodies hs ys p → (xs ≡ ys) × (o ≡ p)
one_bodies [] [] [] o p a b = (refl, a ∙ sym b)
one_bodies [] [] (y ∷ ys) o p a b = absurd b
one_bodies [] (x ∷ xs) ys o p a b = absurd a
one_bodies (h ∷ hs) [] [] o p a b = (refl, one_fault h o p a b)
one_bodies (h ∷ hs) [] (y ∷ ys) o p a b = absurd (not_both h y o b.0 a)
one_bodies (h ∷ hs) (x ∷ xs) [] o p a b = absurd (not_both h x p a.0 b)
one_bodies (h ∷ hs) (x ∷ xs) (y ∷ ys) o p a b =
    let head = one_body h x y a.0 b.0 in
    let others = one_bodies hs xs ys o p a.1 b.1 in
    (let rest = others.0 in cc, others.1)

-- ---- no two are done at one place

body_kind : (h : Header) (v : Instruction) → IsInstructionBody h v → kind_of h ≡ type_of_instruction v
body_kind (goto table) v a = ap type_of_instruction (sym a)
body_kind (metadata value mask) v a = ap type_of_instruction (sym a)
body_kind (write bytes) v a = ap type_of_instruction (sym a.is)
body_kind (apply bytes) v a = ap type_of_instruction (sym a.is)
body_kind clear v a = ap type_of_instruction (sym a)

no_end : (h : Header) → IsFault h None → ⊥
no_end (goto table) b = b
no_end (metadata value mask) b = b
no_end (write bytes) b = b
no_end (apply bytes) b = b
no_end clear b = b

used_same : (n : ℕ) (hs : List Header) (xs : List Instruction) → AreBodies hs xs None → is_used type_of_instruction n xs ≡ is_used kind_of n hs
used_same n [] [] a = refl
used_same n [] (x ∷ xs) a = absurd a
used_same n (h ∷ hs) [] a = absurd (no_end h a)
used_same n (h ∷ hs) (x ∷ xs) a = let same = body_kind h x a.0 in rw (used_same n hs xs a.1, same) refl

distinct_same : (hs : List Header) (xs : List Instruction) → AreBodies hs xs None → is_distinct type_of_instruction xs ≡ is_distinct kind_of hs
distinct_same [] [] a = refl
distinct_same [] (x ∷ xs) a = absurd a
distinct_same (h ∷ hs) [] a = absurd (no_end h a)
distinct_same (h ∷ hs) (x ∷ xs) a = let same = body_kind h x a.0 in rw (same, used_same (type_of_instruction x) hs xs a.1, distinct_same hs xs a.1) refl

-- two are of one type as they are done at one place
same_test : (x y : Instruction) → eqb (run_place y) (run_place x) ≡ eqb (type_of_instruction y) (type_of_instruction x)
same_test (Apply a) (Apply b) = refl
same_test (Apply a) Clear = refl
same_test (Apply a) (Write b) = refl
same_test (Apply a) (Metadata v m) = refl
same_test (Apply a) (Goto t) = refl
same_test Clear (Apply b) = refl
same_test Clear Clear = refl
same_test Clear (Write b) = refl
same_test Clear (Metadata v m) = refl
same_test Clear (Goto t) = refl
same_test (Write a) (Apply b) = refl
same_test (Write a) Clear = refl
same_test (Write a) (Write b) = refl
same_test (Write a) (Metadata v m) = refl
same_test (Write a) (Goto t) = refl
same_test (Metadata w n) (Apply b) = refl
same_test (Metadata w n) Clear = refl
same_test (Metadata w n) (Write b) = refl
same_test (Metadata w n) (Metadata v m) = refl
same_test (Metadata w n) (Goto t) = refl
same_test (Goto u) (Apply b) = refl
same_test (Goto u) Clear = refl
same_test (Goto u) (Write b) = refl
same_test (Goto u) (Metadata v m) = refl
same_test (Goto u) (Goto t) = refl

pub used_place : (x : Instruction) (xs : List Instruction) → is_used run_place (run_place x) xs ≡ is_used type_of_instruction (type_of_instruction x) xs
used_place x [] = refl
used_place x (y ∷ ys) = rw (same_test x y, used_place x ys) refl

pub distinct_place : (xs : List Instruction) → is_distinct run_place xs ≡ is_distinct type_of_instruction xs
distinct_place [] = refl
distinct_place (x ∷ xs) = rw (used_place x xs, distinct_place xs) refl

pub places_once : (hs : List Header) (xs : List Instruction) → AreBodies hs xs None → is_distinct kind_of hs ≡ true → is_distinct run_place xs ≡ true
places_once hs xs a once = distinct_place xs ∙ (distinct_same hs xs a ∙ once)

-- ---- a GOTO_TABLE leads on

body_for : (table : ℕ) (h : Header) (v : Instruction) → IsInstructionBody h v → leads_on table h ≡ true → is_for table v ≡ true
body_for table (goto to) v a on = ap (is_for table) a ∙ on
body_for table (metadata value mask) v a on = ap (is_for table) a
body_for table (write bytes) v a on = ap (is_for table) a.is
body_for table (apply bytes) v a on = ap (is_for table) a.is
body_for table clear v a on = ap (is_for table) a

pub bodies_for : (table : ℕ) (hs : List Header) (xs : List Instruction) → AreBodies hs xs None → list_all (leads_on table) hs ≡ true → are_for table xs ≡ true
bodies_for table [] [] a on = refl
bodies_for table [] (x ∷ xs) a on = absurd a
bodies_for table (h ∷ hs) [] a on = absurd (no_end h a)
bodies_for table (h ∷ hs) (x ∷ xs) a on =
    let first : leads_on table h ≡ true = grind (arith, nat_tests) in
    let others : list_all (leads_on table) hs ≡ true = grind (arith, nat_tests) in
    rw (body_for table h x a.0 first, bodies_for table hs xs a.1 others) refl
