-- Actions that were computed from bytes are the actions that the bytes are.
use Rattle.std.proofs.Common.{◌≡◌, ℕ, zero, suc, Bool, true, false, eqb, ltb, cond, List, [], ◌∷◌, drop, Option, Some, None, Ok, refl, subst, arith}
use Rattle.std.specs.{Prelude.IsSome, Prelude.find, Prelude.is_some, Option.option_and_then, Option.option_map, Option.option_map_or, List.list_all}
use Rattle.std.proofs.{lemmas.Bool.eqb-true, lemmas.Bool.ltb-false, lemmas.Bool.Decides.nat_tests}
use Rattle.of_wire.specs.{declared.code.Code.Code, declared.codes.TheConstants.OFPBAC_BAD_SET_TYPE, Refusals.first_of, Items.TakesBytes}
use Rattle.of_wire.proofs.FirstLemmas.{none_applies, first_false}
use Rattle.byteorder.specs.Endian.{big_number}
use Rattle.of_formats.specs.Tables as tables
use Rattle.of_layers.{specs.declared.field.Field.Field, specs.declared.field.Field.TheVariants.EthDst, proofs.TestLemmas.and_true}
use Rattle.of_actions.specs.declared.argument.Argument.TheVariants.{Nothing, Byte, Tag, Word, Port, Field as FieldValue}
use Rattle.of_actions.specs.Actions.{actions_of, wire_action_refusals, argument_of, form_refusals, type_refusals, unknown_type, action_at, actions_said, AreActions}
use Rattle.of_actions.specs.{declared.action.Action.Action, declared.action.Action.TheVariants.PopVlan, declared.argument.Argument.Argument, declared.rows.ActionRow.ActionRow}
use Rattle.of_actions.specs.{declared.rows.Form.Form, declared.rows.TheConstants.ACTIONS, Beginnings.argument_at, Beginnings.type_at, Beginnings.len_at}
use Rattle.of_actions.specs.{Rows.action_row, Rows.said, Rows.action_saying, SetField.set_field_at, SetField.set_value_at, SetField.set_refusals, SetField.known_set_refusals}
use Rattle.of_actions.specs.declared.rows.Form.TheVariants as forms
use Rattle.of_laws.proofs.Items.{HasValues, are_items}

-- where none is refused, none of the later ones is
pub behind_none : (n : ℕ) (rs : List (Bool × Code)) → first_of rs ≡ None → first_of (drop n rs) ≡ None
behind_none zero rs h = h
behind_none (suc n) [] h = h
behind_none (suc n) (r ∷ rs) h = by_test r.0 h (behind_none n rs)
  where
    by_test : (b : Bool) → cond b (Some r.1) (first_of rs) ≡ None → (first_of rs ≡ None → first_of (drop n rs) ≡ None) → first_of (drop n rs) ≡ None
    by_test true e next = absurd cc
    by_test false e next = next e

actions_take : (packet_out : Bool) → TakesBytes (actions_of packet_out)
unfolding wire_action_refusals
actions_take packet_out seen bytes some none =
    let low : ltb (len_at bytes) 8 ≡ false = first_false _ _ (first_false _ _ (none_applies (wire_action_refusals packet_out seen bytes) none).1.1.0) in
    omega (arith, ltb-false (len_at bytes) 8 low)

-- ---- rows and what they say

abbrev pub form_of : Argument → Form
form_of Nothing = forms.Nothing
form_of (Byte n) = forms.Byte
form_of (Tag type) = forms.Tag
form_of (Word n) = forms.Word
form_of (Port port max_len) = forms.Port
form_of (FieldValue f value) = forms.Field

-- what an action of a form may say
abbrev pub sample : Form → Argument
sample forms.Nothing = Nothing
sample forms.Byte = Byte 0
sample forms.Tag = Tag 0
sample forms.Word = Word 0
sample forms.Port = Port 0 0
sample forms.Field = FieldValue EthDst 0

-- there is an action of the row's type and form
abbrev pub has_sample : ActionRow → Bool
has_sample r = is_some (action_saying r.kind (sample r.form))

pub form_is : (a : Action) → (said a).0.form ≡ form_of (said a).1
form_is PopVlan = refl
form_is other = refl

pub row_again : (a : Action) → action_row (said a).0.kind ≡ Some (said a).0
row_again PopVlan = refl
row_again other = refl

row_has : (type : ℕ) (rows : List ActionRow) (r : ActionRow) → find (λ r. eqb r.kind type) rows ≡ Some r → list_all has_sample rows ≡ true → is_some (action_saying type (sample r.form)) ≡ true
row_has type [] r h all = absurd cc
row_has type (x ∷ rows) r h all = by_test (eqb x.kind type) refl h (λ e. row_has type rows r e parts.1)
  where
    parts : (has_sample x ≡ true) × (list_all has_sample rows ≡ true)
    parts = and_true (has_sample x) (list_all has_sample rows) all

    by_test : (b : Bool) → eqb x.kind type ≡ b → cond b (Some x) (find (λ r. eqb r.kind type) rows) ≡ Some r
        → (find (λ r. eqb r.kind type) rows ≡ Some r → is_some (action_saying type (sample r.form)) ≡ true) → is_some (action_saying type (sample r.form)) ≡ true
    by_test true is e others =
        let same : x ≡ r = cc in
        subst (λ (y : ActionRow). is_some (action_saying type (sample y.form)) ≡ true) same
        (subst (λ (t : ℕ). is_some (action_saying t (sample x.form)) ≡ true) (eqb-true x.kind type is) parts.0)
    by_test false is e others = others e

-- whatever its numbers are
said_has : (type : ℕ) (s : Argument) → is_some (action_saying type (sample (form_of s))) ≡ true → is_some (action_saying type s) ≡ true
said_has type Nothing h = h
said_has type other h = grind (arith, nat_tests, h)

-- what is not refused has a value
record Has (refusals : List (Bool × Code)) (value : Option Action) : Type 0 where
  has : first_of refusals ≡ None → IsSome value

form_has : (packet_out : Bool) (form : Form) (type : ℕ) (rest : List ℕ) → is_some (action_saying type (sample form)) ≡ true → Has (form_refusals form packet_out rest) (option_and_then (action_saying type) (argument_of form rest))
unfolding set_refusals
form_has packet_out forms.Field type rest h = by_field (set_field_at rest)
  where
    by_field : (o : Option Field) → Has (option_map_or (known_set_refusals rest) o ((true, OFPBAC_BAD_SET_TYPE) ∷ [])) (option_and_then (action_saying type) (option_map (λ (f : Field). FieldValue f (set_value_at f rest)) o))
    by_field None = record { has = λ none. absurd cc }
    by_field (Some f) = record { has = λ none. said_has type (FieldValue f (set_value_at f rest)) h }
form_has packet_out forms.Nothing type rest h = record { has = λ none. said_has type Nothing h }
form_has packet_out forms.Byte type rest h = record { has = λ none. said_has type (Byte (argument_at tables.action_nw_ttl rest)) h }
form_has packet_out forms.Tag type rest h = record { has = λ none. said_has type (Tag (argument_at tables.action_push rest)) h }
form_has packet_out forms.Word type rest h = record { has = λ none. said_has type (Word (argument_at tables.action_group rest)) h }
form_has packet_out forms.Port type rest h = record { has = λ none. said_has type (Port (big_number 4 (drop 4 rest)) (big_number 2 (drop 8 rest))) h }

some_type : (packet_out : Bool) (rest : List ℕ) → Has (type_refusals packet_out rest) (action_at rest)
unfolding type_refusals action_at
some_type packet_out rest = by_row (action_row (type_at rest)) refl
  where
    by_row : (o : Option ActionRow) → action_row (type_at rest) ≡ o
        → Has (option_map_or (λ (r : ActionRow). form_refusals r.form packet_out rest) o ((true, unknown_type (type_at rest)) ∷ [])) (option_and_then (action_saying (type_at rest)) (option_and_then (λ (r : ActionRow). argument_of r.form rest) o))
    by_row None is = record { has = λ none. absurd cc }
    by_row (Some r) is = form_has packet_out r.form (type_at rest) rest (row_has (type_at rest) ACTIONS r is refl)

actions_have : (packet_out : Bool) → HasValues (actions_of packet_out)
unfolding wire_action_refusals
actions_have packet_out seen bytes some none = (some_type packet_out bytes).has (behind_none 3 (wire_action_refusals packet_out seen bytes) none)

pub actions_found : (packet_out : Bool) (bytes : List ℕ) (actions : List Action) → actions_said packet_out bytes ≡ Ok actions → AreActions packet_out [] bytes actions None
unfolding actions_said
actions_found packet_out bytes actions h = are_items (actions_of packet_out) bytes actions (actions_take packet_out) (actions_have packet_out) h
