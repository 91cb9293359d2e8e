-- Instructions that are read are their structs, and back.
use Rattle.std.proofs.Common.{◌≡◌, ℕ, ◌+◌, ◌-◌, ◌%◌, ◌^◌, ◌<◌, ◌≤◌, Bool, true, false, not, eqb, ltb, List, [], ◌∷◌, ◌++◌, length, take, drop, Some, None, refl, sym, ap, subst, ◌∙◌, arith, cond}
use Rattle.std.proofs.lemmas.List.{append-nil, append_assoc, length-append, length-drop, length-take-le, take-append-drop, take_at, drop-drop, drop_at}
use Rattle.std.{specs.Prelude.◌==◌, specs.Prelude.◌&&◌, specs.List.list_all, proofs.lemmas.Bool.eq-eqb, proofs.lemmas.Bool.le-ltb, proofs.lemmas.Bool.lt-ltb, proofs.lemmas.Bool.not-false}
use Rattle.std.proofs.{lemmas.Bool.Decides.nat_tests, lemmas.Bool.Decides.eqb_tells, lemmas.List.Folds.list_all-append, lemmas.List.Folds.list_any-append}
use Rattle.byteorder.specs.{Endian.big_number, Numbers.big_from-lt}
use Rattle.of_wire.{specs.Refusals.first_of, specs.Refusals.refusal, specs.Numbered.is_distinct, specs.Numbered.is_used, specs.Numbered.only, proofs.FirstLemmas.none_applies}
use Rattle.of_wire.proofs.{NumberedLemmas.distinct-push, Numbers.IsBytes, Numbers.IsBytes-drop, Numbers.IsBytes-take}
use Rattle.of_actions.specs.declared.instruction.Instruction.TheVariants.{Apply, Clear, Write, Metadata, Goto}
use Rattle.of_actions.specs.Headers.{Header, goto, metadata, write, apply, clear, kind_of, is_known, is_size, is_next, goto_table_at, actions_at, header_refusals, header_at, AreHeaders}
use Rattle.of_actions.specs.InstructionLists.{type_of_instruction, run_place, is_served_body, are_kept, is_for, are_for}
use Rattle.of_actions.specs.{declared.action.Action.Action, declared.instruction.Instruction.Instruction, Actions.AreActions, Beginnings.type_at, Beginnings.len_at}
use Rattle.of_actions.specs.{Instructions.IsInstructionBody, Instructions.IsFault, Instructions.AreBodies, Instructions.EncodesInstructions, RunOrder.in_run_order}
use Rattle.of_actions.{specs.Supported.are_supported, specs.Supported.is_supported, specs.Unread.leads_on, proofs.ActionLists.is_served_list}
use Rattle.of_actions.proofs.{Bodies.bodies_for, Bodies.distinct_place, Bodies.places_once, HeaderLists.kind_is, RunOrders.order_for, RunOrders.order_kept}
use Rattle.of_laws.specs.InstructionStructs.{AreInAnyOrder, AreInstructions, IsInstruction, actions_of_instruction, instruction_cells, instruction_type}
use Rattle.of_laws.proofs.Places.{Says, says, size, rest_is, size_is, front_of}
use Rattle.of_laws.specs.{ActionStructs.action_cells, ActionStructs.AreStructs, Cells.StructCell, Cells.u16_cell, Cells.pad, Cells.Begins}
use Rattle.of_laws.proofs.ActionStructs.{found as actions_found, only as actions_only, passes as action_passes}

and_true : (a b : Bool) → a ≡ true → b ≡ true → (a && b) ≡ true
and_true a b p q = rw (p, q) refl

first : (a b : Bool) → (a && b) ≡ true → a ≡ true
first true b h = refl
first false b h = absurd cc

-- ---- the header that bytes begin with, by its type

at_goto : (rest : List ℕ) → type_at rest ≡ 1 → header_at rest ≡ Some (goto (goto_table_at rest))
unfolding header_at
at_goto rest is = rw is refl

at_metadata : (rest : List ℕ) → type_at rest ≡ 2 → header_at rest ≡ Some (metadata (big_number 8 (drop 8 rest)) (big_number 8 (drop 16 rest)))
unfolding header_at
at_metadata rest is = rw is refl

at_write : (rest : List ℕ) → type_at rest ≡ 3 → header_at rest ≡ Some (write (actions_at rest))
unfolding header_at
at_write rest is = rw is refl

at_apply : (rest : List ℕ) → type_at rest ≡ 4 → header_at rest ≡ Some (apply (actions_at rest))
unfolding header_at
at_apply rest is = rw is refl

at_clear : (rest : List ℕ) → type_at rest ≡ 5 → header_at rest ≡ Some clear
unfolding header_at
at_clear rest is = rw is refl

-- what holds of a header that is not refused
record Head (table : ℕ) (seen : List Header) (rest : List ℕ) : Type 0 where
  long : 8 ≤ len_at rest
  whole : len_at rest ≤ length rest
  sized : is_size (type_at rest) (len_at rest) ≡ true
  unused : is_used kind_of (type_at rest) seen ≡ false
  next : ((type_at rest == 1) && not (is_next table (goto_table_at rest))) ≡ false

head : (table : ℕ) (seen : List Header) (rest : List ℕ) → first_of (header_refusals table seen rest) ≡ None → Head table seen rest
unfolding header_refusals
head table seen rest none =
    let n = none_applies (header_refusals table seen rest) none in
    let fits = n.1.0 in
    record {
      long = grind (arith, nat_tests);
      whole = grind (arith, nat_tests);
      sized = not-false _ n.1.1.0;
      unused = n.1.1.1.1.1.1.0;
      next = n.1.1.1.1.1.1.1.0;
    }

-- a GOTO_TABLE that is not refused leads to a later table
next_table : (table : ℕ) (seen : List Header) (rest : List ℕ) → Head table seen rest → type_at rest ≡ 1 → is_next table (goto_table_at rest) ≡ true
next_table table seen rest h kind =
    let is : (type_at rest == 1) ≡ true = eq-eqb _ _ kind in
    not-false _ (sym (ap (λ (b : Bool). b && not (is_next table (goto_table_at rest))) is) ∙ h.next)

leads : (table : ℕ) (seen : List Header) (rest : List ℕ) (h : Header) → first_of (header_refusals table seen rest) ≡ None → header_at rest ≡ Some h → leads_on table h ≡ true
leads table seen rest (goto to) none at =
    let kind : type_at rest ≡ 1 = sym (kind_is rest (goto to) at) in
    let there : Some (goto (goto_table_at rest)) ≡ Some (goto to) = sym (at_goto rest kind) ∙ at in
    let same : goto_table_at rest ≡ to = cc in
    ap (ltb table) (sym same) ∙ first (ltb table (goto_table_at rest)) (ltb (goto_table_at rest) 16) (next_table table seen rest (head table seen rest none) kind)
leads table seen rest (metadata value mask) none at = refl
leads table seen rest (write bytes) none at = refl
leads table seen rest (apply bytes) none at = refl
leads table seen rest clear none at = refl

all_lead : (table : ℕ) (seen hs : List Header) (bytes : List ℕ) → AreHeaders table seen bytes hs None → list_all (leads_on table) hs ≡ true
all_lead table seen [] bytes h = refl
all_lead table seen (x ∷ xs) bytes h = and_true _ _ (leads table seen bytes x h.1 h.2) (all_lead table (seen ++ x ∷ []) xs (drop (len_at bytes) bytes) h.3)

-- an entry of the table may have what bytes encode for it
pub encoded_for : (table : ℕ) (bytes : List ℕ) (is : List Instruction) → EncodesInstructions table bytes is → are_for table is ≡ true
encoded_for table bytes is s = order_for table s.message is (bodies_for table s.headers s.message s.bodies (all_lead table [] s.headers bytes s.whole)) s.order

-- ---- from what is read to structs

record One (i : Instruction) (rest : List ℕ) : Type 0 where
  is : IsInstruction i rest (drop (len_at rest) rest)
  served : is_served_body i ≡ true

-- a struct of so many bytes, without actions
plain : (i : Instruction) (rest : List ℕ) (n : ℕ) → IsBytes rest → len_at rest ≡ n → n ≤ length rest → size (instruction_cells i 0) ≡ n → Says 0 (instruction_cells i 0) rest → actions_of_instruction i ≡ [] → is_served_body i ≡ true → One i rest
plain i rest n fits len whole is says none served =
    let cells = instruction_cells i 0 in
    let front : Begins cells rest (drop (len_at rest) rest) = subst (λ (k : ℕ). Begins cells rest (drop k rest)) (is ∙ sym len) (front_of cells rest fits (omega (arith, is, whole)) says) in
    record { is = record { actions = []; front = front; are = subst (λ (xs : List Action). AreStructs xs []) (sym none) refl }; served = served }

-- a struct with actions: what follows 8 bytes is the actions, and then the rest
record Listed (rest : List ℕ) : Type 0 where
  size_is : len_at rest ≡ 8 + length (actions_at rest)
  parts : drop 8 rest ≡ actions_at rest ++ drop (len_at rest) rest

listed : (rest : List ℕ) → 8 ≤ len_at rest → len_at rest ≤ length rest → Listed rest
listed rest long whole =
    let behind : drop (len_at rest - 8) (drop 8 rest) ≡ drop (len_at rest) rest = drop-drop (len_at rest - 8) 8 rest ∙ ap (λ (k : ℕ). drop k rest) (omega arith) in
    let taken : length (actions_at rest) ≡ len_at rest - 8 = length-take-le (len_at rest - 8) (drop 8 rest) (omega (arith, length-drop 8 rest)) in
    record {
      size_is = omega (arith, taken);
      parts = sym (take-append-drop (len_at rest - 8) (drop 8 rest)) ∙ ap (λ (x : List ℕ). actions_at rest ++ x) behind;
    }

with_actions : (k : ℕ) (actions : List Action) (rest given : List ℕ) → IsBytes rest → type_at rest ≡ k → 8 ≤ len_at rest → len_at rest ≤ length rest → given ≡ actions_at rest → AreActions false [] given actions None
    → Begins (u16_cell k ∷ u16_cell (8 + length (actions_at rest)) ∷ pad 4 ∷ []) rest (actions_at rest ++ drop (len_at rest) rest) × AreStructs actions (actions_at rest) × (are_supported false actions ≡ true)
with_actions k actions rest given fits kind long whole same encoded =
    let l = listed rest long whole in
    let cells : List StructCell = u16_cell k ∷ u16_cell (8 + length (actions_at rest)) ∷ pad 4 ∷ [] in
    let front : Begins cells rest (drop 8 rest) = front_of cells rest fits (omega (arith, long, whole)) (kind, (l.size_is, tt)) in
    let body = actions_found false (actions_at rest) (IsBytes-take (len_at rest - 8) (drop 8 rest) (IsBytes-drop 8 rest fits)) actions (subst (λ (b : List ℕ). AreActions false [] b actions None) same encoded) in
    (subst (λ (x : List ℕ). Begins cells rest x) l.parts front, body.0, body.1)

eight : (k n : ℕ) → k ≡ 1 → is_size k n ≡ true → n ≡ 8
eight k n is h = grind (arith, nat_tests)

eight_clear : (k n : ℕ) → k ≡ 5 → is_size k n ≡ true → n ≡ 8
eight_clear k n is h = grind (arith, nat_tests)

twenty_four : (k n : ℕ) → k ≡ 2 → is_size k n ≡ true → n ≡ 24
twenty_four k n is h = grind (arith, nat_tests)

metadata_served : (value mask : ℕ) → value < 256 ^ 8 → mask < 256 ^ 8 → is_served_body (Metadata value mask) ≡ true
metadata_served value mask v m = and_true (ltb value (2 ^ 64)) (ltb mask (2 ^ 64)) (lt-ltb value (2 ^ 64) (omega (arith, v))) (lt-ltb mask (2 ^ 64) (omega (arith, m)))

one : (table : ℕ) (seen : List Header) (h : Header) (i : Instruction) (rest : List ℕ) → IsBytes rest → first_of (header_refusals table seen rest) ≡ None → header_at rest ≡ Some h → IsInstructionBody h i → One i rest
one table seen (goto to) i rest fits none at body =
    let p = head table seen rest none in
    let kind : type_at rest ≡ 1 = sym (kind_is rest (goto to) at) in
    let there : Some (goto (goto_table_at rest)) ≡ Some (goto to) = sym (at_goto rest kind) ∙ at in
    let same : goto_table_at rest ≡ to = cc in
    let len : len_at rest ≡ 8 = eight _ _ kind p.sized in
    let next = next_table table seen rest p kind in
    let low : ltb to 16 ≡ true = let t : ltb (goto_table_at rest) 16 ≡ true = grind (arith, nat_tests, next) in ap (λ (n : ℕ). ltb n 16) (sym same) ∙ t in
    subst (λ (x : Instruction). One x rest) (sym body) (plain (Goto to) rest 8 fits len (omega (arith, len, p.whole)) refl (kind, (len, (same, tt))) refl low)
one table seen (metadata value mask) i rest fits none at body =
    let p = head table seen rest none in
    let kind : type_at rest ≡ 2 = sym (kind_is rest (metadata value mask) at) in
    let there : Some (metadata (big_number 8 (drop 8 rest)) (big_number 8 (drop 16 rest))) ≡ Some (metadata value mask) = sym (at_metadata rest kind) ∙ at in
    let value_is : big_number 8 (drop 8 rest) ≡ value = cc in
    let mask_is : big_number 8 (drop 16 rest) ≡ mask = cc in
    let len : len_at rest ≡ 24 = twenty_four _ _ kind p.sized in
    let served = metadata_served value mask (omega (arith, value_is, big_from-lt 0 8 (drop 8 rest) (IsBytes-drop 8 rest fits))) (omega (arith, mask_is, big_from-lt 0 8 (drop 16 rest) (IsBytes-drop 16 rest fits))) in
    subst (λ (x : Instruction). One x rest) (sym body) (plain (Metadata value mask) rest 24 fits len (omega (arith, len, p.whole)) refl (kind, (len, (value_is, (mask_is, tt)))) refl served)
one table seen (write bytes) i rest fits none at body =
    let p = head table seen rest none in
    let kind : type_at rest ≡ 3 = sym (kind_is rest (write bytes) at) in
    let there : Some (write (actions_at rest)) ≡ Some (write bytes) = sym (at_write rest kind) ∙ at in
    let same : bytes ≡ actions_at rest = cc in
    let w = with_actions 3 body.actions rest bytes fits kind p.long p.whole same body.encoded in
    subst (λ (x : Instruction). One x rest) (sym body.is) (record { is = record { actions = actions_at rest; front = w.0; are = w.1 }; served = w.2 })
one table seen (apply bytes) i rest fits none at body =
    let p = head table seen rest none in
    let kind : type_at rest ≡ 4 = sym (kind_is rest (apply bytes) at) in
    let there : Some (apply (actions_at rest)) ≡ Some (apply bytes) = sym (at_apply rest kind) ∙ at in
    let same : bytes ≡ actions_at rest = cc in
    let w = with_actions 4 body.actions rest bytes fits kind p.long p.whole same body.encoded in
    subst (λ (x : Instruction). One x rest) (sym body.is) (record { is = record { actions = actions_at rest; front = w.0; are = w.1 }; served = w.2 })
one table seen clear i rest fits none at body =
    let p = head table seen rest none in
    let kind : type_at rest ≡ 5 = sym (kind_is rest clear at) in
    let len : len_at rest ≡ 8 = eight_clear _ _ kind p.sized in
    subst (λ (x : Instruction). One x rest) (sym body) (plain Clear rest 8 fits len (omega (arith, len, p.whole)) refl (kind, (len, tt)) refl refl)

-- the type of an instruction is that of its header
type_same : (i : Instruction) → type_of_instruction i ≡ instruction_type i
type_same (Goto table) = refl
type_same other = refl

used_same : (n : ℕ) (is : List Instruction) → is_used instruction_type n is ≡ is_used type_of_instruction n is
used_same n [] = refl
used_same n (i ∷ is) = rw (type_same i, used_same n is) refl

same_once : (is : List Instruction) → is_distinct instruction_type is ≡ is_distinct type_of_instruction is
same_once [] = refl
same_once (i ∷ is) = rw (type_same i, used_same (instruction_type i) is, same_once is) refl

no_end : (h : Header) → IsFault h None → ⊥
no_end (goto table) b = b
no_end (metadata value mask) b = b
no_end (write bytes) b = b
no_end (apply bytes) b = b
no_end clear b = b

record Found (seen : List Header) (hs : List Header) (is : List Instruction) (bytes : List ℕ) : Type 0 where
  are : AreInstructions is bytes
  served : list_all is_served_body is ≡ true
  once : is_distinct kind_of seen ≡ true → is_distinct kind_of (seen ++ hs) ≡ true

found_items : (table : ℕ) (seen hs : List Header) (is : List Instruction) (bytes : List ℕ) → IsBytes bytes → AreHeaders table seen bytes hs None → AreBodies hs is None → Found seen hs is bytes
found_items table seen [] [] [] fits h b = record { are = refl; served = refl; once = λ once. rw (append-nil seen) once }
found_items table seen [] [] (x ∷ xs) fits h b = let none : false ≡ true = h.1 in absurd cc
found_items table seen [] (i ∷ is) bytes fits h b = absurd b
found_items table seen (x ∷ xs) [] bytes fits h b = absurd (no_end x b)
found_items table seen (x ∷ xs) (i ∷ is) bytes fits h b =
    let this = one table seen x i bytes fits h.1 h.2 b.0 in
    let rest = drop (len_at bytes) bytes in
    let others = found_items table (seen ++ x ∷ []) xs is rest (IsBytes-drop (len_at bytes) bytes fits) h.3 b.1 in
    let unused : is_used kind_of (kind_of x) seen ≡ false = rw (kind_is bytes x h.2) (head table seen bytes h.1).unused in
    record {
      are = (rest, this.is, others.are);
      served = and_true _ _ this.served others.served;
      once = λ once. rw (← append_assoc seen (x ∷ []) xs) (others.once (distinct-push kind_of seen x once unused));
    }

pub found : (table : ℕ) (bytes : List ℕ) → IsBytes bytes → (is : List Instruction) → EncodesInstructions table bytes is → AreInAnyOrder is bytes × (are_kept is ≡ true) × (are_for table is ≡ true)
found table bytes fits is s =
    let f = found_items table [] s.headers s.message bytes fits s.whole s.bodies in
    let places : is_distinct run_place s.message ≡ true = places_once s.headers s.message s.bodies (f.once refl) in
    let types : is_distinct type_of_instruction s.message ≡ true = sym (distinct_place s.message) ∙ places in
    (record { message = s.message; structs = f.are; once = same_once s.message ∙ types; order = s.order }, order_kept s.message is places f.served s.order, encoded_for table bytes is s)

-- ---- from structs to what is read

action_eights : (a : Action) (bytes rest : List ℕ) → Begins (action_cells a) bytes rest → is_supported false a ≡ true → (length bytes ≡ size (action_cells a) + length rest) × (size (action_cells a) % 8 ≡ 0)
action_eights a bytes rest h served =
    let cells = action_cells a in
    let p = action_passes false a bytes (says 0 cells bytes bytes rest refl h) served in
    (size_is cells bytes rest h, p.eights)

structs_eights : (actions : List Action) (bytes : List ℕ) → AreStructs actions bytes → list_all (is_supported false) actions ≡ true → length bytes % 8 ≡ 0
structs_eights [] bytes h served = ap (λ (x : List ℕ). length x % 8) h
structs_eights (a ∷ actions) bytes h served =
    let this : is_supported false a ≡ true = grind (arith, nat_tests, served) in
    let others : list_all (is_supported false) actions ≡ true = grind (arith, nat_tests, served) in
    let e = action_eights a bytes h.0 h.1 this in
    let more = structs_eights actions h.0 h.2 others in
    omega (arith, e.0, e.1, more)

-- what bytes say that begin with the struct of an instruction that an entry may have
record Passes (table : ℕ) (seen : List Header) (i : Instruction) (bytes rest : List ℕ) : Type 0 where
  header : Header
  some : 0 < length bytes
  none : first_of (header_refusals table seen bytes) ≡ None
  at : header_at bytes ≡ Some header
  behind : rest ≡ drop (len_at bytes) bytes
  body : IsInstructionBody header i

-- a type that is known and not refused as such
pub record IsServed (kind n : ℕ) : Type 0 where
  pub sized : is_size kind n ≡ true
  pub meter : eqb kind 6 ≡ false
  pub experimenter : eqb kind 0xffff ≡ false
  pub known : is_known kind ≡ true

-- all but the last test pass
pub last_left : (table : ℕ) (seen : List Header) (rest : List ℕ) (n kind : ℕ) → len_at rest ≡ n → 8 ≤ n → n % 8 ≡ 0 → n ≤ length rest → type_at rest ≡ kind → IsServed kind n → is_used kind_of kind seen ≡ false
    → first_of (header_refusals table seen rest) ≡ cond ((kind == 1) && not (is_next table (goto_table_at rest))) (Some (refusal 3 2)) None
unfolding header_refusals
last_left table seen rest n kind len low eight whole type served unused =
    let short : ltb (length rest) 4 ≡ false = le-ltb _ _ (omega arith) in
    let low' : ltb n 8 ≡ false = le-ltb _ _ low in
    let eight' : eqb (n % 8) 0 ≡ true = eq-eqb _ _ eight in
    let whole' : ltb (length rest) n ≡ false = le-ltb _ _ whole in
    let sized = served.sized in
    let meter = served.meter in
    let experimenter = served.experimenter in
    let known = served.known in
    rw (short, len, low', eight', whole', type, sized, meter, experimenter, known, unused) refl

none_refused : (table : ℕ) (seen : List Header) (rest : List ℕ) (n kind : ℕ) → len_at rest ≡ n → 8 ≤ n → n % 8 ≡ 0 → n ≤ length rest → type_at rest ≡ kind → IsServed kind n → is_used kind_of kind seen ≡ false
    → ((kind == 1) && not (is_next table (goto_table_at rest))) ≡ false → first_of (header_refusals table seen rest) ≡ None
none_refused table seen rest n kind len low eight whole type served unused next =
    last_left table seen rest n kind len low eight whole type served unused ∙ ap (λ (b : Bool). cond b (Some (refusal 3 2)) None) next

pub served_as : (kind n : ℕ) → is_size kind n ≡ true → eqb kind 6 ≡ false → eqb kind 0xffff ≡ false → is_known kind ≡ true → IsServed kind n
served_as kind n a b c d = record { sized = a; meter = b; experimenter = c; known = d }

-- what follows a struct without actions
empty_actions : (bytes : List ℕ) → AreStructs [] bytes → bytes ≡ []
empty_actions bytes h = h

pass_plain : (table : ℕ) (seen : List Header) (i : Instruction) (h : Header) (bytes rest : List ℕ) (s : IsInstruction i bytes rest) (n kind : ℕ) → actions_of_instruction i ≡ [] → size (instruction_cells i (length s.actions)) ≡ n → 8 ≤ n → n % 8 ≡ 0
    → len_at bytes ≡ n → type_at bytes ≡ kind → IsServed kind n → is_used kind_of kind seen ≡ false → ((kind == 1) && not (is_next table (goto_table_at bytes))) ≡ false → header_at bytes ≡ Some h → IsInstructionBody h i → Passes table seen i bytes rest
pass_plain table seen i h bytes rest s n kind none is low eight len type served unused next at body =
    let cells = instruction_cells i (length s.actions) in
    let empty : s.actions ≡ [] = empty_actions s.actions (subst (λ (xs : List Action). AreStructs xs s.actions) none s.are) in
    let long : length bytes ≡ size cells + length (s.actions ++ rest) = size_is cells bytes (s.actions ++ rest) s.front in
    let behind : s.actions ++ rest ≡ drop (size cells) bytes = rest_is cells bytes (s.actions ++ rest) s.front in
    record {
      header = h;
      some = omega (arith, long, is, low);
      none = none_refused table seen bytes n kind len low eight (omega (arith, long, is)) type served unused next;
      at = at;
      behind = sym (ap (λ (x : List ℕ). x ++ rest) empty) ∙ behind ∙ ap (λ (k : ℕ). drop k bytes) (is ∙ sym len);
      body = body;
    }

-- the same with actions
pass_listed : (table : ℕ) (seen : List Header) (i : Instruction) (make : List ℕ → Header) (actions : List Action) (bytes rest text : List ℕ) (kind : ℕ) → Begins (u16_cell kind ∷ u16_cell (8 + length text) ∷ pad 4 ∷ []) bytes (text ++ rest) → AreStructs actions text
    → are_supported false actions ≡ true → IsServed kind (8 + length text) → is_used kind_of kind seen ≡ false → (kind == 1) ≡ false → header_at bytes ≡ Some (make (actions_at bytes)) → (AreActions false [] text actions None → IsInstructionBody (make text) i) → Passes table seen i bytes rest
pass_listed table seen i make actions bytes rest text kind front are served type unused other at body =
    let cells : List StructCell = u16_cell kind ∷ u16_cell (8 + length text) ∷ pad 4 ∷ [] in
    let y = says 0 cells bytes bytes (text ++ rest) refl front in
    let len : len_at bytes ≡ 8 + length text = y.1.0 in
    let long : length bytes ≡ 8 + length (text ++ rest) = size_is cells bytes (text ++ rest) front in
    let behind : text ++ rest ≡ drop 8 bytes = rest_is cells bytes (text ++ rest) front in
    let eights : length text % 8 ≡ 0 = structs_eights actions text are (is_served_list false actions served).all in
    let taken : actions_at bytes ≡ text = ap (λ (k : ℕ). take (k - 8) (drop 8 bytes)) len ∙ ap (take (8 + length text - 8)) (sym behind) ∙ take_at text rest (8 + length text - 8) (omega arith) in
    let past : drop (len_at bytes) bytes ≡ rest = ap (λ (k : ℕ). drop k bytes) (len ∙ omega arith) ∙ sym (drop-drop (length text) 8 bytes) ∙ ap (drop (length text)) (sym behind) ∙ drop_at text rest (length text) refl in
    let next : ((kind == 1) && not (is_next table (goto_table_at bytes))) ≡ false = ap (λ (b : Bool). b && not (is_next table (goto_table_at bytes))) other in
    record {
      header = make text;
      some = omega (arith, long);
      none = none_refused table seen bytes (8 + length text) kind len (omega arith) (omega (arith, eights)) (omega (arith, long, length-append text rest)) y.0 type unused next;
      at = at ∙ ap (λ (x : List ℕ). Some (make x)) taken;
      behind = sym past;
      body = body (actions_only false text actions are served);
    }

goto_next : (table to : ℕ) (bytes : List ℕ) → goto_table_at bytes ≡ to → ltb to 16 ≡ true → ltb table to ≡ true → ((1 == 1) && not (is_next table (goto_table_at bytes))) ≡ false
goto_next table to bytes is low later = rw (is, later, low) refl

passes : (table : ℕ) (seen : List Header) (i : Instruction) (bytes rest : List ℕ) → IsInstruction i bytes rest → is_served_body i ≡ true → is_for table i ≡ true → is_used kind_of (instruction_type i) seen ≡ false → Passes table seen i bytes rest
passes table seen (Goto to) bytes rest s served valid unused =
    let y = says 0 (instruction_cells (Goto to) (length s.actions)) bytes bytes (s.actions ++ rest) refl s.front in
    let to_is : goto_table_at bytes ≡ to = y.1.1.0 in
    pass_plain table seen (Goto to) (goto to) bytes rest s 8 1 refl refl (omega arith) refl y.1.0 y.0 (served_as 1 8 refl refl refl refl) unused (goto_next table to bytes to_is served valid)
    (at_goto bytes y.0 ∙ ap (λ (n : ℕ). Some (goto n)) to_is) refl
passes table seen (Metadata value mask) bytes rest s served valid unused =
    let y = says 0 (instruction_cells (Metadata value mask) (length s.actions)) bytes bytes (s.actions ++ rest) refl s.front in
    pass_plain table seen (Metadata value mask) (metadata value mask) bytes rest s 24 2 refl refl (omega arith) refl y.1.0 y.0 (served_as 2 24 refl refl refl refl) unused refl
    (at_metadata bytes y.0 ∙ ap (λ (n : ℕ). Some (metadata n (big_number 8 (drop 16 bytes)))) y.1.1.0 ∙ ap (λ (n : ℕ). Some (metadata value n)) y.1.1.1.0) refl
passes table seen (Write actions) bytes rest s served valid unused =
    let y = says 0 (instruction_cells (Write actions) (length s.actions)) bytes bytes (s.actions ++ rest) refl s.front in
    pass_listed table seen (Write actions) write actions bytes rest s.actions 3 s.front s.are served (served_as 3 (8 + length s.actions) refl refl refl refl) unused refl (at_write bytes y.0) (λ encoded. record { actions = actions; encoded = encoded; is = refl })
passes table seen (Apply actions) bytes rest s served valid unused =
    let y = says 0 (instruction_cells (Apply actions) (length s.actions)) bytes bytes (s.actions ++ rest) refl s.front in
    pass_listed table seen (Apply actions) apply actions bytes rest s.actions 4 s.front s.are served (served_as 4 (8 + length s.actions) refl refl refl refl) unused refl (at_apply bytes y.0) (λ encoded. record { actions = actions; encoded = encoded; is = refl })
passes table seen Clear bytes rest s served valid unused =
    let y = says 0 (instruction_cells Clear (length s.actions)) bytes bytes (s.actions ++ rest) refl s.front in
    pass_plain table seen Clear clear bytes rest s 8 5 refl refl (omega arith) refl y.1.0 y.0 (served_as 5 8 refl refl refl refl) unused refl (at_clear bytes y.0) refl

-- ---- instructions in the order of the message

second : (a b : Bool) → (a && b) ≡ true → b ≡ true
second true b h = h
second false b h = absurd cc

-- a test of those of each place
record ByPlace (p : Instruction → Bool) (is : List Instruction) : Type 0 where
  applies : list_all p (only run_place 0 is) ≡ true
  clears : list_all p (only run_place 1 is) ≡ true
  writes : list_all p (only run_place 2 is) ≡ true
  metadatas : list_all p (only run_place 3 is) ≡ true
  gotos : list_all p (only run_place 4 is) ≡ true

from_places : (p : Instruction → Bool) (is : List Instruction) → ByPlace p is → list_all p is ≡ true
from_places p [] b = refl
from_places p (Apply actions ∷ is) b =
    and_true (p (Apply actions)) (list_all p is) (first _ _ b.applies) (from_places p is (record { applies = second (p (Apply actions)) _ b.applies; clears = b.clears; writes = b.writes; metadatas = b.metadatas; gotos = b.gotos }))
from_places p (Clear ∷ is) b =
    and_true (p Clear) (list_all p is) (first _ _ b.clears) (from_places p is (record { applies = b.applies; clears = second (p Clear) _ b.clears; writes = b.writes; metadatas = b.metadatas; gotos = b.gotos }))
from_places p (Write actions ∷ is) b =
    and_true (p (Write actions)) (list_all p is) (first _ _ b.writes) (from_places p is (record { applies = b.applies; clears = b.clears; writes = second (p (Write actions)) _ b.writes; metadatas = b.metadatas; gotos = b.gotos }))
from_places p (Metadata value mask ∷ is) b =
    and_true (p (Metadata value mask)) (list_all p is) (first _ _ b.metadatas) (from_places p is (record { applies = b.applies; clears = b.clears; writes = b.writes; metadatas = second (p (Metadata value mask)) _ b.metadatas; gotos = b.gotos }))
from_places p (Goto table ∷ is) b =
    and_true (p (Goto table)) (list_all p is) (first _ _ b.gotos) (from_places p is (record { applies = b.applies; clears = b.clears; writes = b.writes; metadatas = b.metadatas; gotos = second (p (Goto table)) _ b.gotos }))

-- what holds of all in the order of execution holds of all
from_order : (p : Instruction → Bool) (is : List Instruction) → list_all p (in_run_order is) ≡ true → list_all p is ≡ true
unfolding in_run_order
from_order p is h =
    let a = only run_place 0 is in
    let b = only run_place 1 is in
    let c = only run_place 2 is in
    let d = only run_place 3 is in
    let e = only run_place 4 is in
    let h1 : (list_all p a && list_all p (b ++ (c ++ (d ++ (e ++ []))))) ≡ true = sym (list_all-append p a (b ++ (c ++ (d ++ (e ++ []))))) ∙ h in
    let h2 : (list_all p b && list_all p (c ++ (d ++ (e ++ [])))) ≡ true = sym (list_all-append p b (c ++ (d ++ (e ++ [])))) ∙ second (list_all p a) _ h1 in
    let h3 : (list_all p c && list_all p (d ++ (e ++ []))) ≡ true = sym (list_all-append p c (d ++ (e ++ []))) ∙ second (list_all p b) _ h2 in
    let h4 : (list_all p d && list_all p (e ++ [])) ≡ true = sym (list_all-append p d (e ++ [])) ∙ second (list_all p c) _ h3 in
    let h5 : (list_all p e && true) ≡ true = sym (list_all-append p e []) ∙ second (list_all p d) _ h4 in
    from_places p is (record {
      applies = first (list_all p a) _ h1;
      clears = first (list_all p b) _ h2;
      writes = first (list_all p c) _ h3;
      metadatas = first (list_all p d) _ h4;
      gotos = first (list_all p e) true h5;
    })

body_type : (h : Header) (i : Instruction) → IsInstructionBody h i → kind_of h ≡ instruction_type i
body_type (goto table) i b = ap instruction_type (sym b)
body_type (metadata value mask) i b = ap instruction_type (sym b)
body_type (write bytes) i b = ap instruction_type (sym b.is)
body_type (apply bytes) i b = ap instruction_type (sym b.is)
body_type clear i b = ap instruction_type (sym b)

-- none of these is of the type of one before
abbrev are_new : List Header → List Instruction → Bool
are_new seen is = list_all (λ i. not (is_used kind_of (instruction_type i) seen)) is

new_more : (seen : List Header) (h : Header) (is : List Instruction) → are_new seen is ≡ true → is_used instruction_type (kind_of h) is ≡ false → are_new (seen ++ h ∷ []) is ≡ true
new_more seen h [] new unused = refl
new_more seen h (i ∷ is) new unused =
    grind (arith, nat_tests, new_more seen h is, list_any-append (λ y. eqb (kind_of y) (instruction_type i)) seen (h ∷ []), eqb_tells (kind_of h) (instruction_type i), eqb_tells (instruction_type i) (kind_of h))

all_new : (is : List Instruction) → are_new [] is ≡ true
all_new [] = refl
all_new (i ∷ is) = all_new is

record Headed (table : ℕ) (seen : List Header) (is : List Instruction) (bytes : List ℕ) : Type 0 where
  headers : List Header
  are : AreHeaders table seen bytes headers None
  bodies : AreBodies headers is None

only_items : (table : ℕ) (seen : List Header) (is : List Instruction) (bytes : List ℕ) → list_all is_served_body is ≡ true → are_for table is ≡ true → are_new seen is ≡ true → is_distinct instruction_type is ≡ true → AreInstructions is bytes → Headed table seen is bytes
only_items table seen [] bytes served valid new once h = record { headers = []; are = subst (λ (x : List ℕ). AreHeaders table seen x [] None) (sym h) refl; bodies = refl }
only_items table seen (i ∷ is) bytes served valid new once h =
    let this : is_served_body i ≡ true = grind (arith, nat_tests, served) in
    let others : list_all is_served_body is ≡ true = grind (arith, nat_tests, served) in
    let this_for : is_for table i ≡ true = grind (arith, nat_tests, valid) in
    let others_for : are_for table is ≡ true = grind (arith, nat_tests, valid) in
    let unused : is_used kind_of (instruction_type i) seen ≡ false = grind (arith, nat_tests, new) in
    let new' : are_new seen is ≡ true = grind (arith, nat_tests, new) in
    let later : is_used instruction_type (instruction_type i) is ≡ false = grind (arith, nat_tests, once) in
    let once' : is_distinct instruction_type is ≡ true = grind (arith, nat_tests, once) in
    let p = passes table seen i bytes h.0 h.1 this this_for unused in
    let kind = body_type p.header i p.body in
    let more = only_items table (seen ++ p.header ∷ []) is h.0 others others_for (new_more seen p.header is new' (rw kind later)) once' h.2 in
    record {
      headers = p.header ∷ more.headers;
      are = (p.some, p.none, p.at, subst (λ (x : List ℕ). AreHeaders table (seen ++ p.header ∷ []) x more.headers None) p.behind more.are);
      bodies = (p.body, more.bodies);
    }

pub only_structs : (table : ℕ) (bytes : List ℕ) (is : List Instruction) → AreInAnyOrder is bytes → are_kept is ≡ true → are_for table is ≡ true → EncodesInstructions table bytes is
only_structs table bytes is s kept valid =
    let all : list_all is_served_body is ≡ true = grind (arith, nat_tests, kept) in
    let served : list_all is_served_body s.message ≡ true = from_order is_served_body s.message (ap (list_all is_served_body) (sym s.order) ∙ all) in
    let message_for : are_for table s.message ≡ true = from_order (is_for table) s.message (ap (are_for table) (sym s.order) ∙ valid) in
    let h = only_items table [] s.message bytes served message_for (all_new s.message) s.once s.structs in
    record { headers = h.headers; whole = h.are; message = s.message; bodies = h.bodies; order = s.order }
