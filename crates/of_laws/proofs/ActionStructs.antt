-- Actions that are read are their structs, and back.
use Rattle.std.proofs.Common.{◌≡◌, ℕ, ◌+◌, ◌*◌, ◌%◌, ◌/◌, ◌^◌, ◌<◌, ◌≤◌, Bool, true, false, not, eqb, ltb, leb, cond, List, [], ◌∷◌, ◌++◌, length, drop, Option, Some, None, refl, sym, ap, subst, ◌∙◌, arith}
use Rattle.std.specs.Prelude.{is_some, map, slice_index, ◌==◌, ◌&&◌, ◌||◌}
use Rattle.std.specs.{Option.option_and_then, Option.option_map, Option.option_map_or, List.All, List.AllByRecursion, List.list_all, List.list_any}
use Rattle.std.proofs.{lemmas.List.Elements.All-from_recursion, lemmas.Bool.eq-eqb, lemmas.Bool.eqb-true, lemmas.Bool.le-ltb, lemmas.Bool.lt-ltb, lemmas.Bool.Decides.nat_tests}
use Rattle.std.proofs.lemmas.List.{length-append}
use Rattle.byteorder.specs.{Endian.big_number, Numbers.big_from-lt}
use Rattle.of_wire.{specs.declared.code.Code.Code, specs.Refusals.refusal, specs.Refusals.first_of, specs.Items.AreItems, proofs.FirstLemmas.none_applies}
use Rattle.of_wire.proofs.Numbers.{IsBytes, IsBytes-drop}
use Rattle.of_layers.specs.Fields.{bytes_of, field_at, is_settable, number_of, ones_of}
use Rattle.of_layers.{specs.declared.field.Field.Field, specs.Reading.is_tag_type, proofs.TestLemmas.and_true}
use Rattle.of_layers.proofs.Table.{bytes_most, field_at-number_of, number_of-field_at}
use Rattle.of_actions.specs.declared.argument.Argument.TheVariants.{Nothing, Byte, Tag, Word, Port, Field as FieldValue}
use Rattle.of_actions.specs.Actions.{action_at, wire_action_refusals, argument_of, form_refusals, type_refusals, unknown_type, wrong_size, actions_of, AreActions}
use Rattle.of_actions.specs.SetField.{settable, set_field_at, set_value_at, set_len, set_refusals, known_set_refusals}
use Rattle.of_actions.specs.{declared.action.Action.Action, declared.action.Action.TheVariants.PopVlan, declared.argument.Argument.Argument, declared.rows.ActionRow.ActionRow}
use Rattle.of_actions.specs.{declared.rows.Form.Form, declared.rows.TheConstants.ACTIONS, Rows.action_row, Rows.said, Rows.action_saying, Beginnings.type_at, Beginnings.len_at, PortNumbers.is_port}
use Rattle.of_actions.{specs.Supported.is_allowed, specs.Supported.is_supported, specs.Supported.are_supported, proofs.ActionLists.is_served_list, proofs.ActionLists.served_is}
use Rattle.of_actions.proofs.RowLemmas.{is_said, said_again}
use Rattle.of_actions.specs.declared.rows.Form.TheVariants as forms
use Rattle.of_laws.specs.ActionStructs.{action_cells, action_type, action_types, said_cells, AreStructs}
use Rattle.of_laws.proofs.ActionTails.{behind_none, form_is, form_of, has_sample, row_again, sample}
use Rattle.of_laws.proofs.Places.{Says, says, size, rest_is, size_is, front_of}
use Rattle.of_laws.specs.Cells.{u16_cell, Begins}

-- ---- from what is read to structs

-- what holds of each action that is not refused
record Head (packet_out : Bool) (seen : List Action) (rest : List ℕ) : Type 0 where
  few : length seen ≤ 63
  long : 8 ≤ len_at rest
  whole : len_at rest ≤ length rest
  kind : first_of (type_refusals packet_out rest) ≡ None

head : (packet_out : Bool) (seen : List Action) (rest : List ℕ) → first_of (wire_action_refusals packet_out seen rest) ≡ None → Head packet_out seen rest
unfolding wire_action_refusals
head packet_out seen rest none =
    let n = none_applies (wire_action_refusals packet_out seen rest) none in
    let room = n.0 in
    let fits = n.1.1.0 in
    record { few = grind (arith, nat_tests); long = grind (arith, nat_tests); whole = grind (arith, nat_tests); kind = behind_none 3 (wire_action_refusals packet_out seen rest) none }

-- an action of the type that stands there, which says this
record One (packet_out : Bool) (s : Argument) (rest : List ℕ) : Type 0 where
  front : Begins (u16_cell (type_at rest) ∷ said_cells s) rest (drop (len_at rest) rest)
  served : is_allowed packet_out s ≡ true

-- a struct of so many bytes
struct : (packet_out : Bool) (s : Argument) (rest : List ℕ) (n : ℕ) → IsBytes rest → len_at rest ≡ n → n ≤ length rest → 2 + size (said_cells s) ≡ n → Says 2 (said_cells s) rest → is_allowed packet_out s ≡ true → One packet_out s rest
struct packet_out s rest n fits len whole is says served =
    let cells = u16_cell (type_at rest) ∷ said_cells s in
    record {
      front = subst (λ (k : ℕ). Begins cells rest (drop k rest)) (is ∙ sym len) (front_of cells rest fits (omega (arith, is, whole)) (refl, says));
      served = served;
    }

-- ---- a SET_FIELD

-- the field that is set, by its class, its number and its mask
record Named (f : Field) (rest : List ℕ) : Type 0 where
  class : big_number 2 (drop 4 rest) ≡ 0x8000
  number : slice_index rest 6 ≡ 2 * number_of f
  settable : is_settable f ≡ true

settable_only : (o : Option Field) (f : Field) → settable o ≡ Some f → (o ≡ Some f) × (is_settable f ≡ true)
settable_only None f h = absurd cc
settable_only (Some g) f h = by_test (is_settable g) refl h
  where
    by_test : (b : Bool) → is_settable g ≡ b → cond b (Some g) None ≡ Some f → (Some g ≡ Some f) × (is_settable f ≡ true)
    by_test true is e = let same : g ≡ f = cc in (e, ap is_settable (sym same) ∙ is)
    by_test false is e = absurd cc

named : (f : Field) (rest : List ℕ) → set_field_at rest ≡ Some f → Named f rest
named f rest h = by_tests (eqb (big_number 2 (drop 4 rest)) 0x8000) refl (eqb (slice_index rest 6 % 2) 0) refl h
  where
    by_tests : (b : Bool) → eqb (big_number 2 (drop 4 rest)) 0x8000 ≡ b → (c : Bool) → eqb (slice_index rest 6 % 2) 0 ≡ c → cond (b && c) (settable (field_at (slice_index rest 6 / 2))) None ≡ Some f → Named f rest
    by_tests false p c q e = absurd cc
    by_tests true p false q e = absurd cc
    by_tests true p true q e =
        let s = settable_only (field_at (slice_index rest 6 / 2)) f e in
        let half = number_of-field_at (slice_index rest 6 / 2) f s.0 in
        let even = eqb-true (slice_index rest 6 % 2) 0 q in
        record { class = eqb-true _ _ p; number = omega (arith, half, even); settable = s.1 }

set_one : (packet_out : Bool) (f : Field) (rest : List ℕ) → IsBytes rest → len_at rest ≤ length rest → set_field_at rest ≡ Some f → first_of (set_refusals rest) ≡ None → One packet_out (FieldValue f (set_value_at f rest)) rest
unfolding set_refusals
set_one packet_out f rest fits whole field none =
    let n = named f rest field in
    let none' : first_of (known_set_refusals rest f) ≡ None = rw field at none in
    let tests = none_applies (known_set_refusals rest f) none' in
    let sizes : (not (eqb (slice_index rest 7) (bytes_of f)) || not (eqb (len_at rest) (set_len f))) ≡ false = tests.0 in
    let high : ltb (ones_of f) (set_value_at f rest) ≡ false = tests.1.0 in
    let bytes_is : slice_index rest 7 ≡ bytes_of f = grind (arith, nat_tests, sizes) in
    let len : len_at rest ≡ set_len f = grind (arith, nat_tests, sizes) in
    let le : leb (set_value_at f rest) (ones_of f) ≡ true = grind (arith, nat_tests, high) in
    struct packet_out (FieldValue f (set_value_at f rest)) rest (set_len f) fits len (omega (arith, len, whole)) (omega (arith, bytes_most f)) (len, (n.class, (n.number, (bytes_is, (refl, tt))))) (rw (n.settable, le) refl)

-- ---- each action

-- an action of so many bytes that is of this type, and so much of what it says
sized : (n : ℕ) (rest : List ℕ) (more : List (Bool × Code)) → first_of (wrong_size n rest ∷ more) ≡ None → len_at rest ≡ n
sized n rest more none =
    let test : not (eqb (len_at rest) n) ≡ false = (none_applies (wrong_size n rest ∷ more) none).0 in
    grind (arith, nat_tests, test)

allowed : (r : Bool × Code) (b : Bool) (code : Code) → first_of (r ∷ (not b, code) ∷ []) ≡ None → b ≡ true
allowed r b code none =
    let test : not b ≡ false = (none_applies (r ∷ (not b, code) ∷ []) none).1.0 in
    grind (arith, nat_tests, test)

below : (w o : ℕ) (rest : List ℕ) → IsBytes rest → big_number w (drop o rest) < 256 ^ w
below w o rest fits = big_from-lt 0 w (drop o rest) (IsBytes-drop o rest fits)

-- the same of what is said
as_said : (packet_out : Bool) (s t : Argument) (rest : List ℕ) → Some s ≡ Some t → One packet_out s rest → One packet_out t rest
as_said packet_out s t rest h one = let same : s ≡ t = cc in subst (λ (u : Argument). One packet_out u rest) same one

one_form : (packet_out : Bool) (form : Form) (s : Argument) (rest : List ℕ) → IsBytes rest → len_at rest ≤ length rest → first_of (form_refusals form packet_out rest) ≡ None → argument_of form rest ≡ Some s → One packet_out s rest
one_form packet_out forms.Nothing s rest fits whole none at =
    let len : len_at rest ≡ 8 = sized 8 rest [] none in
    as_said packet_out Nothing s rest at (struct packet_out Nothing rest 8 fits len (omega (arith, len, whole)) refl (len, tt) refl)
one_form packet_out forms.Byte s rest fits whole none at =
    let n = slice_index rest 4 in
    let len : len_at rest ≡ 8 = sized 8 rest [] none in
    as_said packet_out (Byte n) s rest at (struct packet_out (Byte n) rest 8 fits len (omega (arith, len, whole)) refl (len, (refl, tt)) (lt-ltb n 256 (fits 4)))
one_form packet_out forms.Tag s rest fits whole none at =
    let type = big_number 2 (drop 4 rest) in
    let len : len_at rest ≡ 8 = sized 8 rest ((not (is_tag_type type), refusal 2 5) ∷ []) none in
    as_said packet_out (Tag type) s rest at (struct packet_out (Tag type) rest 8 fits len (omega (arith, len, whole)) refl (len, (refl, tt)) (allowed (wrong_size 8 rest) (is_tag_type type) (refusal 2 5) none))
one_form packet_out forms.Word s rest fits whole none at =
    let n = big_number 4 (drop 4 rest) in
    let len : len_at rest ≡ 8 = sized 8 rest [] none in
    as_said packet_out (Word n) s rest at (struct packet_out (Word n) rest 8 fits len (omega (arith, len, whole)) refl (len, (refl, tt)) (lt-ltb n 4294967296 (below 4 4 rest fits)))
one_form packet_out forms.Port s rest fits whole none at =
    let port = big_number 4 (drop 4 rest) in
    let max_len = big_number 2 (drop 8 rest) in
    let len : len_at rest ≡ 16 = sized 16 rest ((not (is_port packet_out port), refusal 2 4) ∷ []) none in
    let ok : is_port packet_out port ≡ true = allowed (wrong_size 16 rest) (is_port packet_out port) (refusal 2 4) none in
    let low : ltb max_len 65536 ≡ true = lt-ltb max_len 65536 (below 2 8 rest fits) in
    as_said packet_out (Port port max_len) s rest at (struct packet_out (Port port max_len) rest 16 fits len (omega (arith, len, whole)) refl (len, (refl, (refl, tt))) (rw (ok, low) refl))
one_form packet_out forms.Field s rest fits whole none at = by_field (set_field_at rest) refl at
  where
    by_field : (o : Option Field) → set_field_at rest ≡ o → option_map (λ (f : Field). FieldValue f (set_value_at f rest)) o ≡ Some s → One packet_out s rest
    by_field None is at = absurd cc
    by_field (Some f) is at = as_said packet_out (FieldValue f (set_value_at f rest)) s rest at (set_one packet_out f rest fits whole is none)

-- an action, with its struct
record OneAction (packet_out : Bool) (a : Action) (rest : List ℕ) : Type 0 where
  front : Begins (action_cells a) rest (drop (len_at rest) rest)
  served : is_supported packet_out a ≡ true

one : (packet_out : Bool) (a : Action) (rest : List ℕ) → IsBytes rest → len_at rest ≤ length rest → first_of (type_refusals packet_out rest) ≡ None → action_at rest ≡ Some a → OneAction packet_out a rest
unfolding type_refusals action_at is_supported
one packet_out a rest fits whole none at = by_row (action_row (type_at rest)) none at
  where
    by_said : (form : Form) (o : Option Argument) → argument_of form rest ≡ o → first_of (form_refusals form packet_out rest) ≡ None → option_and_then (action_saying (type_at rest)) o ≡ Some a → OneAction packet_out a rest
    by_said form None is none at = absurd cc
    by_said form (Some s) is none at =
        let this = one_form packet_out form s rest fits whole none is in
        let e = is_said (type_at rest) s a at in
        record {
          front = subst (λ (t : ℕ). Begins (u16_cell t ∷ said_cells (said a).1) rest (drop (len_at rest) rest)) (sym e.kind)
              (subst (λ (u : Argument). Begins (u16_cell (type_at rest) ∷ said_cells u) rest (drop (len_at rest) rest)) (sym e.says) this.front);
          served = ap (is_allowed packet_out) e.says ∙ this.served;
        }

    by_row : (o : Option ActionRow) → first_of (option_map_or (λ (r : ActionRow). form_refusals r.form packet_out rest) o ((true, unknown_type (type_at rest)) ∷ [])) ≡ None
        → option_and_then (action_saying (type_at rest)) (option_and_then (λ (r : ActionRow). argument_of r.form rest) o) ≡ Some a → OneAction packet_out a rest
    by_row None none at = absurd cc
    by_row (Some r) none at = by_said r.form (argument_of r.form rest) refl none at

-- ---- lists of actions

record Found (packet_out : Bool) (seen actions : List Action) (bytes : List ℕ) : Type 0 where
  are : AreStructs actions bytes
  few : length seen ≤ 64 → length seen + length actions ≤ 64
  all : list_all (is_supported packet_out) actions ≡ true

found_items : (packet_out : Bool) (seen actions : List Action) (bytes : List ℕ) → IsBytes bytes → AreItems (actions_of packet_out) seen bytes actions None → Found packet_out seen actions bytes
found_items packet_out seen [] [] fits h = record { are = refl; few = λ few. omega arith; all = refl }
found_items packet_out seen [] (x ∷ xs) fits h = let none : false ≡ true = h.1 in absurd cc
found_items packet_out seen (a ∷ actions) bytes fits h =
    let p = head packet_out seen bytes h.1 in
    let this = one packet_out a bytes fits p.whole p.kind h.2 in
    let rest = drop (len_at bytes) bytes in
    let others = found_items packet_out (seen ++ a ∷ []) actions rest (IsBytes-drop (len_at bytes) bytes fits) h.3 in
    let room = p.few in
    let more : length (seen ++ a ∷ []) ≡ length seen + 1 = length-append seen (a ∷ []) in
    let behind = others.few (omega arith) in
    record { are = (rest, this.front, others.are); few = λ few. omega arith; all = rw (this.served, others.all) refl }

pub found : (packet_out : Bool) (bytes : List ℕ) → IsBytes bytes → (actions : List Action) → AreActions packet_out [] bytes actions None → AreStructs actions bytes × (are_supported packet_out actions ≡ true)
found packet_out bytes fits actions h =
    let f = found_items packet_out [] actions bytes fits h in
    let few = f.few (omega arith) in
    (f.are, served_is packet_out actions (record { few = omega (arith, few); all = f.all }))

-- ---- from structs to what is read

-- what bytes say behind the type, if they begin with the struct of an action of this form
record FormPasses (packet_out : Bool) (s : Argument) (rest : List ℕ) : Type 0 where
  len : len_at rest ≡ 2 + size (said_cells s)
  some : 8 ≤ 2 + size (said_cells s)
  eights : (2 + size (said_cells s)) % 8 ≡ 0
  none : first_of (form_refusals (form_of s) packet_out rest) ≡ None
  at : argument_of (form_of s) rest ≡ Some s

form_passes : (packet_out : Bool) (s : Argument) (rest : List ℕ) → Says 2 (said_cells s) rest → is_allowed packet_out s ≡ true → FormPasses packet_out s rest
unfolding set_refusals
form_passes packet_out Nothing rest y served = record { len = y.0; some = omega arith; eights = refl; none = rw y.0 refl; at = refl }
form_passes packet_out (Tag type) rest y served = record { len = y.0; some = omega arith; eights = refl; none = rw (y.0, y.1.0, served) refl; at = rw y.1.0 refl }
form_passes packet_out (Port port max_len) rest y served =
    let ok : is_port packet_out port ≡ true = grind (arith, nat_tests, served) in
    record { len = y.0; some = omega arith; eights = refl; none = rw (y.0, y.1.0, ok) refl; at = rw (y.1.0, y.1.1.0) refl }
form_passes packet_out (FieldValue f value) rest y served =
    let may : is_settable f ≡ true = grind (arith, nat_tests, served) in
    let le : value ≤ ones_of f = grind (arith, nat_tests, served) in
    let class : eqb (big_number 2 (drop 4 rest)) 0x8000 ≡ true = eq-eqb _ _ y.1.0 in
    let plain : eqb (slice_index rest 6 % 2) 0 ≡ true = eq-eqb _ _ (omega (arith, y.1.1.0)) in
    let half : slice_index rest 6 / 2 ≡ number_of f = omega (arith, y.1.1.0) in
    let known : settable (field_at (slice_index rest 6 / 2)) ≡ Some f = ap (λ (n : ℕ). settable (field_at n)) half ∙ ap settable (field_at-number_of f) ∙ rw may refl in
    let field : set_field_at rest ≡ Some f = rw (class, plain) known in
    let value_is : set_value_at f rest ≡ value = y.1.1.1.1.0 in
    let bytes' : eqb (slice_index rest 7) (bytes_of f) ≡ true = eq-eqb _ _ y.1.1.1.0 in
    let len' : eqb (len_at rest) (set_len f) ≡ true = eq-eqb _ _ y.0 in
    let value' : ltb (ones_of f) (set_value_at f rest) ≡ false = le-ltb _ _ (omega (arith, value_is, le)) in
    let most = bytes_most f in
    let whole : 2 + size (said_cells (FieldValue f value)) ≡ set_len f = omega arith in
    record { len = y.0 ∙ sym whole; some = omega (arith, whole); eights = ap (λ (n : ℕ). n % 8) whole ∙ omega arith; none = rw (field, bytes', len', value') refl; at = rw (field, value_is) refl }
form_passes packet_out other rest y served = record { len = y.0; some = omega arith; eights = refl; none = rw y.0 refl; at = rw y.1.0 refl }

-- what bytes say that begin with the struct of an action that may be sent
pub record Passes (packet_out : Bool) (a : Action) (rest : List ℕ) : Type 0 where
  pub len : len_at rest ≡ size (action_cells a)
  pub some : 8 ≤ size (action_cells a)
  pub eights : size (action_cells a) % 8 ≡ 0
  pub none : first_of (type_refusals packet_out rest) ≡ None
  pub at : action_at rest ≡ Some a

pub passes : (packet_out : Bool) (a : Action) (rest : List ℕ) → Says 0 (action_cells a) rest → is_supported packet_out a ≡ true → Passes packet_out a rest
unfolding type_refusals action_at is_supported
passes packet_out a rest y served =
    let p = form_passes packet_out (said a).1 rest y.1 served in
    let row : action_row (type_at rest) ≡ Some (said a).0 = ap action_row y.0 ∙ row_again a in
    record {
      len = p.len;
      some = p.some;
      eights = p.eights;
      none = ap (λ (o : Option ActionRow). first_of (option_map_or (λ (r : ActionRow). form_refusals r.form packet_out rest) o ((true, unknown_type (type_at rest)) ∷ []))) row
          ∙ ap (λ (form : Form). first_of (form_refusals form packet_out rest)) (form_is a) ∙ p.none;
      at = ap (λ (o : Option ActionRow). option_and_then (action_saying (type_at rest)) (option_and_then (λ (r : ActionRow). argument_of r.form rest) o)) row
          ∙ ap (λ (form : Form). option_and_then (action_saying (type_at rest)) (argument_of form rest)) (form_is a)
          ∙ ap (option_and_then (action_saying (type_at rest))) p.at
          ∙ ap (λ (t : ℕ). action_saying t (said a).1) y.0 ∙ said_again a;
    }

none_refused : (packet_out : Bool) (seen : List Action) (rest : List ℕ) (n : ℕ) → length seen ≤ 63 → len_at rest ≡ n → 8 ≤ n → n % 8 ≡ 0 → n ≤ length rest → first_of (type_refusals packet_out rest) ≡ None → first_of (wire_action_refusals packet_out seen rest) ≡ None
unfolding wire_action_refusals
none_refused packet_out seen rest n few len some eights whole none =
    let room : ltb 63 (length seen) ≡ false = le-ltb _ _ few in
    let short : ltb (length rest) 4 ≡ false = le-ltb _ _ (omega (arith, some, whole)) in
    let low : ltb n 8 ≡ false = le-ltb _ _ some in
    let eight : eqb (n % 8) 0 ≡ true = eq-eqb _ _ eights in
    let whole' : ltb (length rest) n ≡ false = le-ltb _ _ whole in
    rw (room, short, len, low, eight, whole') none

only_items : (packet_out : Bool) (seen actions : List Action) (bytes : List ℕ) → length seen + length actions ≤ 64 → list_all (is_supported packet_out) actions ≡ true → AreStructs actions bytes → AreItems (actions_of packet_out) seen bytes actions None
only_items packet_out seen [] bytes few served h = subst (λ (x : List ℕ). AreItems (actions_of packet_out) seen x [] None) (sym h) refl
only_items packet_out seen (a ∷ actions) bytes few served h =
    let this : is_supported packet_out a ≡ true = grind (arith, nat_tests, served) in
    let others : list_all (is_supported packet_out) actions ≡ true = grind (arith, nat_tests, served) in
    let cells = action_cells a in
    let p = passes packet_out a bytes (says 0 cells bytes bytes h.0 refl h.1) this in
    let long : length bytes ≡ size cells + length h.0 = size_is cells bytes h.0 h.1 in
    let none = none_refused packet_out seen bytes (size cells) (omega arith) p.len p.some p.eights (omega (arith, long)) p.none in
    let behind : h.0 ≡ drop (len_at bytes) bytes = rest_is cells bytes h.0 h.1 ∙ ap (λ (n : ℕ). drop n bytes) (sym p.len) in
    let rest = only_items packet_out (seen ++ a ∷ []) actions h.0 (omega (arith, length-append seen (a ∷ []))) others h.2 in
    (omega (arith, long, p.some), none, p.at, subst (λ (x : List ℕ). AreItems (actions_of packet_out) (seen ++ a ∷ []) x actions None) behind rest)

pub only : (packet_out : Bool) (bytes : List ℕ) (actions : List Action) → AreStructs actions bytes → are_supported packet_out actions ≡ true → AreActions packet_out [] bytes actions None
only packet_out bytes actions h served =
    let s = is_served_list packet_out actions served in
    only_items packet_out [] actions bytes (omega (arith, s.few)) s.all h

-- ---- the types of actions

pub type_listed : (a : Action) → list_any (λ n. n == action_type a) action_types ≡ true
type_listed PopVlan = refl
type_listed other = refl

abbrev HasAction : ℕ → Type 0
HasAction n = (a : Action) × (action_type a ≡ n)

has_action : (type : ℕ) (s : Argument) (o : Option Action) → action_saying type s ≡ o → is_some o ≡ true → HasAction type
has_action type s None is h = absurd cc
has_action type s (Some a) is h = (a, (is_said type s a is).kind)

have_actions : (rows : List ActionRow) → list_all has_sample rows ≡ true → AllByRecursion HasAction (map (λ r. r.kind) rows)
have_actions [] h = tt
have_actions (r ∷ rows) h =
    let parts = and_true (has_sample r) (list_all has_sample rows) h in
    (has_action r.kind (sample r.form) (action_saying r.kind (sample r.form)) refl parts.0, have_actions rows parts.1)

pub types_have_actions : All HasAction action_types
types_have_actions = All-from_recursion HasAction action_types (have_actions ACTIONS refl)
