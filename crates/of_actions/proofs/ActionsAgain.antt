-- Actions that are written are read again, whatever follows.
use Rattle.std.proofs.Common.{◌≡◌, ℕ, ◌+◌, ◌-◌, ◌*◌, ◌/◌, ◌%◌, ◌≤◌, Bool, true, false, ltb, eqb, List, [], ◌∷◌, ◌++◌, length, drop, replicate, Some, None, refl, sym, ap, ◌∙◌, arith}
use Rattle.std.{specs.Prelude.slice_index, specs.Prelude.⊤, specs.List.list_all, proofs.lemmas.Bool.le-ltb, proofs.lemmas.Bool.eq-eqb, proofs.lemmas.Bool.Decides.nat_tests}
use Rattle.std.proofs.lemmas.List.{append_assoc, length-append, length-replicate}
use Rattle.byteorder.specs.{Endian.big_bytes, Endian.big_number, Numbers.big_number-reads_back, Numbers.length-bytes_high_first}
use Rattle.of_wire.{specs.Refusals.first_of, proofs.ItemsAgain.Again, proofs.ItemsAgain.AllAgain, proofs.ItemsAgain.written_items}
use Rattle.of_layers.specs.Fields.{number_of, bytes_of, ones_of, is_settable, field_at}
use Rattle.of_layers.{specs.declared.field.Field.Field, proofs.Table.field_at-number_of, proofs.Table.bytes_some, proofs.Table.bytes_most, proofs.Table.value_below}
use Rattle.of_actions.specs.SetField.{settable, set_field_at, set_value_at, set_len, set_refusals}
use Rattle.of_actions.specs.Actions.{actions_of, AreActions, wire_action_refusals, type_refusals, action_at}
use Rattle.of_actions.specs.{declared.action.Action.Action, declared.action.Action.TheVariants.Output, declared.action.Action.TheVariants.PushVlan, declared.action.Action.TheVariants.SetField}
use Rattle.of_actions.specs.{Beginnings.type_at, Beginnings.len_at, PortNumbers.is_port, Supported.is_supported, Supported.are_supported}
use Rattle.of_actions.{specs.CanonicalActions.canonical_action, specs.CanonicalActions.canonical_actions, specs.CanonicalActions.canonical_set_field, proofs.ActionLists.is_served_list}

-- an action of a fixed size
abbrev IsPlain : Action → Type 0
IsPlain (SetField f v) = ⊥
IsPlain other = ⊤

-- what stands before the type: over a variable, where nothing has computed to cells yet
head_none : (packet_out : Bool) (seen : List Action) (rest : List ℕ) (n : ℕ) → length seen ≤ 63 → len_at rest ≡ n → 8 ≤ n → (n % 8) ≡ 0 → n ≤ length rest
    → first_of (type_refusals packet_out rest) ≡ None → first_of (wire_action_refusals packet_out seen rest) ≡ None
unfolding wire_action_refusals
head_none packet_out seen rest n few len low eight whole kind =
    let room : ltb 63 (length seen) ≡ false = le-ltb _ _ few in
    let short : ltb (length rest) 4 ≡ false = le-ltb _ _ (omega arith) in
    let low' : ltb n 8 ≡ false = le-ltb _ _ low in
    let eight' : eqb (n % 8) 0 ≡ true = eq-eqb _ _ eight in
    let whole' : ltb (length rest) n ≡ false = le-ltb _ _ whole in
    rw (room, short, len, low', eight', whole') kind

-- what is read of a supported action of 8 or 16 bytes is not refused
plain_none : (packet_out : Bool) (a : Action) (rest : List ℕ) → is_supported packet_out a ≡ true → type_at rest ≡ type_at (canonical_action a) → len_at rest ≡ len_at (canonical_action a) → action_at rest ≡ Some a → IsPlain a → first_of (type_refusals packet_out rest) ≡ None
unfolding canonical_action action_at type_refusals is_supported
plain_none packet_out (Output port max_len) rest served kind len read plain =
    let same : Some (Output (big_number 4 (drop 4 rest)) (big_number 2 (drop 8 rest))) ≡ Some (Output port max_len) = rw kind at read in
    let port_is : big_number 4 (drop 4 rest) ≡ port = cc in
    let ok : is_port packet_out port ≡ true = grind (arith, nat_tests) in
    rw (kind, len, port_is, ok) refl
plain_none packet_out (PushVlan type) rest served kind len read plain =
    let same : Some (PushVlan (big_number 2 (drop 4 rest))) ≡ Some (PushVlan type) = rw kind at read in
    let type_is : big_number 2 (drop 4 rest) ≡ type = cc in
    rw (kind, len, type_is, served) refl
plain_none packet_out (SetField f v) rest served kind len read plain = absurd plain
plain_none packet_out other rest served kind len read plain = rw (kind, len) refl

-- ---- a set field

known_none : (f : Field) (rest : List ℕ) → set_field_at rest ≡ Some f → slice_index rest 7 ≡ bytes_of f → len_at rest ≡ set_len f → set_value_at f rest ≤ ones_of f → first_of (set_refusals rest) ≡ None
unfolding set_refusals
known_none f rest field bytes len value =
    let value' : ltb (ones_of f) (set_value_at f rest) ≡ false = le-ltb _ _ value in
    let bytes' : eqb (slice_index rest 7) (bytes_of f) ≡ true = eq-eqb _ _ bytes in
    let len' : eqb (len_at rest) (set_len f) ≡ true = eq-eqb _ _ len in
    rw (field, bytes', len', value') refl

set_none : (packet_out : Bool) (rest : List ℕ) → type_at rest ≡ 25 → first_of (set_refusals rest) ≡ None → first_of (type_refusals packet_out rest) ≡ None
unfolding type_refusals
set_none packet_out rest kind none = rw kind none

set_at : (f : Field) (v : ℕ) (rest : List ℕ) → type_at rest ≡ 25 → set_field_at rest ≡ Some f → set_value_at f rest ≡ v → action_at rest ≡ Some (SetField f v)
unfolding action_at
set_at f v rest kind field value = rw (kind, field, value) refl

settable_is : (f : Field) → is_settable f ≡ true → settable (Some f) ≡ Some f
settable_is f h = rw h refl

-- the number of the field stands with a 0 behind
field_is : (f : Field) (rest : List ℕ) → big_number 2 (drop 4 rest) ≡ 0x8000 → slice_index rest 6 ≡ 2 * number_of f → is_settable f ≡ true → set_field_at rest ≡ Some f
field_is f rest class number ok =
    let class' : eqb (big_number 2 (drop 4 rest)) 0x8000 ≡ true = eq-eqb _ _ class in
    let plain : eqb (slice_index rest 6 % 2) 0 ≡ true = eq-eqb _ _ (omega arith) in
    let half : slice_index rest 6 / 2 ≡ number_of f = omega arith in
    rw (class', plain) (ap (λ (n : ℕ). settable (field_at n)) half ∙ (ap settable (field_at-number_of f) ∙ settable_is f ok))

length-set : (f : Field) (v : ℕ) → length (canonical_set_field f v) ≡ set_len f
unfolding canonical_set_field
length-set f v =
    let n = bytes_of f in
    simp (length-append, length-replicate) (omega (arith, length-bytes_high_first n v, bytes_most f))

set_again : (packet_out : Bool) (f : Field) (v : ℕ) (seen : List Action) (x : List ℕ) → length seen ≤ 63 → is_settable f ≡ true → v ≤ ones_of f → Again (actions_of packet_out) (canonical_action (SetField f v)) (SetField f v) seen x
unfolding canonical_action canonical_set_field
set_again packet_out f v seen x few ok fits =
    let rest = canonical_set_field f v ++ x in
    let most = bytes_most f in
    let some = bytes_some f in
    let padding = replicate (set_len f - (8 + bytes_of f)) 0 in
    let value_is : set_value_at f rest ≡ v = ap (λ (ys : List ℕ). big_number (bytes_of f) ys) (append_assoc (big_bytes (bytes_of f) v) padding x) ∙ big_number-reads_back (bytes_of f) v (padding ++ x) (value_below f v fits) in
    let len_is : len_at rest ≡ set_len f = omega arith in
    let field : set_field_at rest ≡ Some f = field_is f rest refl refl ok in
    let none : first_of (set_refusals rest) ≡ None = known_none f rest field refl len_is (omega (arith, value_is, fits)) in
    let long : length rest ≡ set_len f + length x = omega (arith, length-append (canonical_set_field f v) x, length-set f v) in
    record {
      some = omega (arith, long, some);
      none = head_none packet_out seen rest (set_len f) few len_is (omega (arith, some)) (omega arith) (omega (arith, long)) (set_none packet_out rest refl none);
      at = set_at f v rest refl field value_is;
      size = len_is ∙ sym (length-set f v);
    }

-- ---- each action

-- a supported field may be set, and its value fits it
record FieldFits (f : Field) (v : ℕ) : Type 0 where
  settable : is_settable f ≡ true
  value : v ≤ ones_of f

field_fits : (packet_out : Bool) (f : Field) (v : ℕ) → is_supported packet_out (SetField f v) ≡ true → FieldFits f v
unfolding is_supported
field_fits packet_out f v h = record { settable = grind (arith, nat_tests); value = grind (arith, nat_tests) }

plain_again : (packet_out : Bool) (a : Action) (seen : List Action) (x : List ℕ) (n : ℕ) → length seen ≤ 63 → is_supported packet_out a ≡ true → IsPlain a → len_at (canonical_action a ++ x) ≡ n → 8 ≤ n → n % 8 ≡ 0 → length (canonical_action a) ≡ n → type_at (canonical_action a ++ x) ≡ type_at (canonical_action a) → len_at (canonical_action a) ≡ n → action_at (canonical_action a ++ x) ≡ Some a → Again (actions_of packet_out) (canonical_action a) a seen x
plain_again packet_out a seen x n few served plain len some eights whole kind len' read =
    let rest = canonical_action a ++ x in
    let long = length-append (canonical_action a) x in
    record {
      some = omega (arith, long, whole, some);
      none = head_none packet_out seen rest n few len some eights (omega (arith, long, whole)) (plain_none packet_out a rest served kind (len ∙ sym len') read plain);
      at = read;
      size = len ∙ sym whole;
    }

value_again : (packet_out : Bool) (a : Action) (x : List ℕ) → is_supported packet_out a ≡ true → IsPlain a → action_at (canonical_action a ++ x) ≡ Some a
unfolding canonical_action action_at is_supported
value_again packet_out (SetField f v) x served plain = absurd plain
value_again packet_out other x served plain = grind (arith, nat_tests)

pub action_again : (packet_out : Bool) (a : Action) (seen : List Action) (x : List ℕ) → length seen ≤ 63 → is_supported packet_out a ≡ true → Again (actions_of packet_out) (canonical_action a) a seen x
unfolding canonical_action action_at
action_again packet_out (SetField f v) seen x few served =
    let h = field_fits packet_out f v served in set_again packet_out f v seen x few h.settable h.value
action_again packet_out other seen x few served =
    plain_again packet_out other seen x _ few served tt refl (omega arith) refl refl refl refl (value_again packet_out other x served tt)

all_again : (packet_out : Bool) (seen xs : List Action) → length seen + length xs ≤ 64 → list_all (is_supported packet_out) xs ≡ true → AllAgain (actions_of packet_out) canonical_action seen xs
all_again packet_out seen [] few served = tt
all_again packet_out seen (a ∷ xs) few served =
    let this : is_supported packet_out a ≡ true = grind (arith, nat_tests) in
    let others : list_all (is_supported packet_out) xs ≡ true = grind (arith, nat_tests) in
    (λ x. action_again packet_out a seen x (omega arith) this, all_again packet_out (seen ++ a ∷ []) xs (omega (arith, length-append seen (a ∷ []))) others)

-- a supported list is encoded by what is written
pub canonical_encoded : (packet_out : Bool) (actions : List Action) → are_supported packet_out actions ≡ true → AreActions packet_out [] (canonical_actions actions) actions None
canonical_encoded packet_out actions h =
    let s = is_served_list packet_out actions h in
    written_items (actions_of packet_out) canonical_action [] actions (all_again packet_out [] actions (omega (arith, s.few)) s.all)

-- ---- how long they are: 8, 16 or 24 bytes each

pub record Length (bytes : List ℕ) (most : ℕ) : Type 0 where
  pub short : length bytes ≤ most
  pub eights : length bytes % 8 ≡ 0

length-action : (a : Action) → Length (canonical_action a) 24
unfolding canonical_action
length-action (SetField f v) = record { short = omega (arith, length-set f v, bytes_most f); eights = omega (arith, length-set f v) }
length-action other = record { short = omega arith; eights = refl }

pub length-canonical : (actions : List Action) → Length (canonical_actions actions) (24 * length actions)
length-canonical [] = record { short = omega arith; eights = refl }
length-canonical (a ∷ actions) =
    let one = length-action a in
    let others = length-canonical actions in
    let both = length-append (canonical_action a) (canonical_actions actions) in
    record { short = omega (arith, both, one.short, others.short); eights = omega (arith, both, one.eights, others.eights) }

pub canonical_short : (packet_out : Bool) (actions : List Action) → are_supported packet_out actions ≡ true → Length (canonical_actions actions) 1536
canonical_short packet_out actions h =
    let s = is_served_list packet_out actions h in
    let l = length-canonical actions in
    record { short = omega (arith, l.short, s.few); eights = l.eights }
