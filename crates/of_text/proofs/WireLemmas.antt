-- The refusals of a field and of an action are those of their encoding on the wire.
use Rattle.std.proofs.Common.{◌≡◌, ℕ, ◌+◌, ◌-◌, ◌*◌, ◌/◌, ◌%◌, ◌^◌, ◌<◌, ◌≤◌, Bool, true, false, ltb, eqb, List, [], ◌++◌, length, get_or, drop, replicate, Option, Some, None, refl, ap, ◌∙◌, arith}
use Rattle.std.{specs.Prelude.slice_index, specs.Prelude.IfSome, proofs.lemmas.Bool.le-ltb, proofs.lemmas.Bool.eq-eqb}
use Rattle.std.proofs.lemmas.List.{append_assoc, length-append, length-replicate, drop_at}
use Rattle.byteorder.specs.{Endian.big_number, Endian.big_bytes, Numbers.big_number-reads_back, Numbers.length-bytes_high_first}
use Rattle.of_wire.specs.Refusals.{first_of}
use Rattle.of_layers.specs.Fields.{number_of, bytes_of, ones_of, is_settable, field_at}
use Rattle.of_layers.{specs.declared.field.Field.Field, proofs.Table.field_at-number_of, proofs.Table.bytes_some, proofs.Table.bytes_most, proofs.Table.value_below}
use Rattle.of_oxm.specs.MatchFieldWire.{encoding, is_among, body_len, is_masked_at, number_at, value_at, mask_of_bytes, known_field_refusals}
use Rattle.of_oxm.specs.declared.match_field.MatchField.{MatchField}
use Rattle.of_oxm.specs.MatchFieldWire as wire
use Rattle.of_actions.specs.SetField.{settable, set_field_at, set_value_at, set_len, set_refusals}
use Rattle.of_actions.specs.{declared.action.Action.Action, declared.action.Action.TheVariants.Output, declared.action.Action.TheVariants.PushVlan, declared.action.Action.TheVariants.SetField}
use Rattle.of_actions.specs.{Beginnings.type_at, Beginnings.len_at, Actions.type_refusals, CanonicalActions.canonical_action, CanonicalActions.canonical_set_field}
use Rattle.of_actions.specs.Actions as actions
use Rattle.of_lines.specs.Rows.{ActionFits, FieldFits, IsMask}
use Rattle.of_text.specs.Refusals.{text_field_refusals, text_action_refusals}

-- ---- a field of a match

past_header : (f : Field) (seen : List MatchField) (rest : List ℕ) → 4 ≤ length rest → 4 + get_or rest 3 0 ≤ length rest → big_number 2 rest ≡ 0x8000 → field_at (number_at rest) ≡ Some f
    → first_of (wire.field_refusals seen rest) ≡ first_of (known_field_refusals f seen rest)
past_header f seen rest h4 hd class at =
    let room : ltb (length rest) 4 ≡ false = le-ltb _ _ h4 in
    let whole : ltb (length rest) (4 + get_or rest 3 0) ≡ false = le-ltb _ _ hd in
    let basic : eqb (big_number 2 rest) 0x8000 ≡ true = eq-eqb _ _ class in
    rw (room, whole, basic, at) refl

plain_known : (f : Field) (v : ℕ) (seen : List MatchField) (rest : List ℕ) → is_masked_at rest ≡ false → get_or rest 3 0 ≡ bytes_of f → is_among f seen ≡ false → value_at f rest ≡ v
    → first_of (known_field_refusals f seen rest) ≡ first_of (text_field_refusals (record { field = f; value = v; mask = None }))
plain_known f v seen rest masked len first value =
    let size : eqb (get_or rest 3 0) (body_len f false) ≡ true = eq-eqb _ _ len in
    rw (masked, size, first, value) refl

masked_known : (f : Field) (v m : ℕ) (seen : List MatchField) (rest : List ℕ) → is_masked_at rest ≡ true → get_or rest 3 0 ≡ 2 * bytes_of f → is_among f seen ≡ false → value_at f rest ≡ v → mask_of_bytes f rest ≡ m → m < ones_of f
    → first_of (known_field_refusals f seen rest) ≡ first_of (text_field_refusals (record { field = f; value = v; mask = Some m }))
masked_known f v m seen rest masked len first value mask some =
    let size : eqb (get_or rest 3 0) (body_len f true) ≡ true = eq-eqb _ _ len in
    rw (masked, size, first, value, mask) refl

plain_same : (f : Field) (v : ℕ) (seen : List MatchField) (x : List ℕ) → v < 256 ^ bytes_of f → is_among f seen ≡ false
    → let e : MatchField = record { field = f; value = v; mask = None } in first_of (wire.field_refusals seen (encoding e ++ x)) ≡ first_of (text_field_refusals e)
unfolding encoding
plain_same f v seen x fits first =
    let e : MatchField = record { field = f; value = v; mask = None } in
    let rest = encoding e ++ x in
    let n = bytes_of f in
    let len : length (big_bytes n v) ≡ n = length-bytes_high_first n v in
    let bit : (2 * number_of f + 0) % 2 ≡ 0 = omega arith in
    let masked : is_masked_at rest ≡ false = ap (λ (k : ℕ). eqb k 1) bit in
    let number : number_at rest ≡ number_of f = omega arith in
    let at : field_at (number_at rest) ≡ Some f = ap field_at number ∙ field_at-number_of f in
    let value : value_at f rest ≡ v = ap (big_number n) (simp append_assoc) ∙ big_number-reads_back n v ([] ++ x) fits in
    let size : length rest ≡ 4 + (n + length x) = simp length-append (omega (arith, len)) in
    past_header f seen rest (omega (arith, size)) (omega (arith, size)) refl at ∙ plain_known f v seen rest masked refl first value

masked_same : (f : Field) (v m : ℕ) (seen : List MatchField) (x : List ℕ) → v < 256 ^ bytes_of f → m < ones_of f → is_among f seen ≡ false
    → let e : MatchField = record { field = f; value = v; mask = Some m } in first_of (wire.field_refusals seen (encoding e ++ x)) ≡ first_of (text_field_refusals e)
unfolding encoding
masked_same f v m seen x fits some first =
    let e : MatchField = record { field = f; value = v; mask = Some m } in
    let rest = encoding e ++ x in
    let n = bytes_of f in
    let len : length (big_bytes n v) ≡ n = length-bytes_high_first n v in
    let len2 : length (big_bytes n m) ≡ n = length-bytes_high_first n m in
    let mask_fits : m < 256 ^ bytes_of f = value_below f m (omega (arith, some)) in
    let bit : (2 * number_of f + 1) % 2 ≡ 1 = omega arith in
    let masked : is_masked_at rest ≡ true = ap (λ (k : ℕ). eqb k 1) bit in
    let number : number_at rest ≡ number_of f = omega arith in
    let at : field_at (number_at rest) ≡ Some f = ap field_at number ∙ field_at-number_of f in
    let body : drop 4 rest ≡ big_bytes n v ++ (big_bytes n m ++ x) = append_assoc (big_bytes n v) (big_bytes n m) x in
    let value : value_at f rest ≡ v = ap (big_number n) body ∙ big_number-reads_back n v (big_bytes n m ++ x) fits in
    let mask_is : mask_of_bytes f rest ≡ m = ap (λ (y : List ℕ). big_number n (drop n y)) body ∙ ap (big_number n) (drop_at (big_bytes n v) (big_bytes n m ++ x) n len) ∙ big_number-reads_back n m x mask_fits in
    let size : length rest ≡ 4 + (2 * n + length x) = simp length-append (omega (arith, len, len2)) in
    past_header f seen rest (omega (arith, size)) (omega (arith, size)) refl at ∙ masked_known f v m seen rest masked refl first value mask_is some

same_field : (f : Field) (v : ℕ) (mask : Option ℕ) (seen : List MatchField) (x : List ℕ) → v < 256 ^ bytes_of f → IfSome mask (IsMask f) → is_among f seen ≡ false
    → let e : MatchField = record { field = f; value = v; mask = mask } in first_of (wire.field_refusals seen (encoding e ++ x)) ≡ first_of (text_field_refusals e)
same_field f v None seen x fits k first = plain_same f v seen x fits first
same_field f v (Some m) seen x fits k first = masked_same f v m seen x fits k.not_all first

pub field_as_on_wire : (e : MatchField) (seen : List MatchField) (x : List ℕ) → FieldFits e → is_among e.field seen ≡ false → first_of (wire.field_refusals seen (encoding e ++ x)) ≡ first_of (text_field_refusals e)
field_as_on_wire e seen x fits first = same_field e.field e.value e.mask seen x fits.0 fits.1 first

-- ---- an action

past_head : (seen : List Action) (rest : List ℕ) (n : ℕ) → length seen ≤ 63 → len_at rest ≡ n → 8 ≤ n → (n % 8) ≡ 0 → n ≤ length rest → first_of (actions.wire_action_refusals false seen rest) ≡ first_of (type_refusals false rest)
unfolding actions.wire_action_refusals
past_head seen rest n few len low eight whole =
    let room : ltb 63 (length seen) ≡ false = le-ltb _ _ few in
    let short : ltb (length rest) 4 ≡ false = le-ltb _ _ (omega arith) in
    let low' : ltb n 8 ≡ false = le-ltb _ _ low in
    let eight' : eqb (n % 8) 0 ≡ true = eq-eqb _ _ eight in
    let whole' : ltb (length rest) n ≡ false = le-ltb _ _ whole in
    rw (room, short, len, low', eight', whole') refl

-- of each type, over a variable, where nothing has computed to cells yet
output_kind : (p m : ℕ) (rest : List ℕ) → type_at rest ≡ 0 → len_at rest ≡ 16 → big_number 4 (drop 4 rest) ≡ p → first_of (type_refusals false rest) ≡ first_of (text_action_refusals (Output p m))
unfolding type_refusals
output_kind p m rest kind len port = rw (kind, len, port) refl

push_kind : (t : ℕ) (rest : List ℕ) → type_at rest ≡ 17 → len_at rest ≡ 8 → big_number 2 (drop 4 rest) ≡ t → first_of (type_refusals false rest) ≡ first_of (text_action_refusals (PushVlan t))
unfolding type_refusals
push_kind t rest kind len type = rw (kind, len, type) refl

-- a type with no refusal beside that of its size
plain_kind : (a : Action) (rest : List ℕ) → text_action_refusals a ≡ [] → type_at rest ≡ type_at (canonical_action a) → len_at rest ≡ 8 → first_of (type_refusals false rest) ≡ None
unfolding type_refusals canonical_action
plain_kind (Output p m) rest none kind len = absurd cc
plain_kind (PushVlan t) rest none kind len = absurd cc
plain_kind (SetField f v) rest none kind len = absurd cc
plain_kind other rest none kind len = rw (kind, len) refl

set_kind : (f : Field) (v : ℕ) (rest : List ℕ) → type_at rest ≡ 25 → set_field_at rest ≡ settable (Some f) → slice_index rest 7 ≡ bytes_of f → len_at rest ≡ set_len f → set_value_at f rest ≡ v → first_of (type_refusals false rest) ≡ first_of (text_action_refusals (SetField f v))
unfolding type_refusals set_refusals
set_kind f v rest kind field bytes len value = by_test (is_settable f) refl
  where
    by_test : (b : Bool) → is_settable f ≡ b → first_of (type_refusals false rest) ≡ first_of (text_action_refusals (SetField f v))
    by_test true e =
        let field' : set_field_at rest ≡ Some f = field ∙ rw e refl in
        let bytes' : eqb (slice_index rest 7) (bytes_of f) ≡ true = eq-eqb _ _ bytes in
        let len' : eqb (len_at rest) (set_len f) ≡ true = eq-eqb _ _ len in
        rw (kind, field') (rw (bytes', len', value, e) refl)
    by_test false e =
        let none : set_field_at rest ≡ None = field ∙ rw e refl in
        rw (kind, none, e) refl

-- the number of the field stands with a 0 behind
field_is : (f : Field) (rest : List ℕ) → big_number 2 (drop 4 rest) ≡ 0x8000 → slice_index rest 6 ≡ 2 * number_of f → set_field_at rest ≡ settable (Some f)
field_is f rest class number =
    let class' : eqb (big_number 2 (drop 4 rest)) 0x8000 ≡ true = eq-eqb _ _ class in
    let plain : eqb (slice_index rest 6 % 2) 0 ≡ true = eq-eqb _ _ (omega arith) in
    let half : slice_index rest 6 / 2 ≡ number_of f = omega arith in
    rw (class', plain) (ap (λ (n : ℕ). settable (field_at n)) half ∙ ap settable (field_at-number_of f))

length-set : (f : Field) (v : ℕ) → length (canonical_set_field f v) ≡ set_len f
unfolding canonical_set_field
length-set f v =
    let n = bytes_of f in
    simp (length-append, length-replicate) (omega (arith, length-bytes_high_first n v, bytes_most f))

set_same : (f : Field) (v : ℕ) (seen : List Action) (x : List ℕ) → length seen ≤ 63 → v < 256 ^ bytes_of f → first_of (actions.wire_action_refusals false seen (canonical_set_field f v ++ x)) ≡ first_of (text_action_refusals (SetField f v))
unfolding canonical_set_field
set_same f v seen x few fits =
    let rest = canonical_set_field f v ++ x in
    let most = bytes_most f in
    let some = bytes_some f in
    let padding = replicate (set_len f - (8 + bytes_of f)) 0 in
    let value_is : set_value_at f rest ≡ v = ap (λ (ys : List ℕ). big_number (bytes_of f) ys) (append_assoc (big_bytes (bytes_of f) v) padding x) ∙ big_number-reads_back (bytes_of f) v (padding ++ x) fits in
    let len_is : len_at rest ≡ set_len f = omega arith in
    let long : length rest ≡ set_len f + length x = omega (arith, length-append (canonical_set_field f v) x, length-set f v) in
    past_head seen rest (set_len f) few len_is (omega (arith, some)) (omega arith) (omega (arith, long))
    ∙ set_kind f v rest refl (field_is f rest refl refl) refl len_is value_is

pub action_as_on_wire : (a : Action) (seen : List Action) (x : List ℕ) → ActionFits a → length seen ≤ 63 → first_of (actions.wire_action_refusals false seen (canonical_action a ++ x)) ≡ first_of (text_action_refusals a)
unfolding canonical_action
action_as_on_wire (Output p m) seen x fits few =
    let rest = canonical_action (Output p m) ++ x in
    let port_is : big_number 4 (drop 4 rest) ≡ p = big_number-reads_back 4 p (big_bytes 2 m ++ (replicate 6 0 ++ x)) (omega (arith, fits.0)) in
    past_head seen rest 16 few refl (omega arith) refl (omega arith) ∙ output_kind p m rest refl refl port_is
action_as_on_wire (PushVlan t) seen x fits few =
    let rest = canonical_action (PushVlan t) ++ x in
    let type_is : big_number 2 (drop 4 rest) ≡ t = big_number-reads_back 2 t (replicate 2 0 ++ x) (omega (arith, fits)) in
    past_head seen rest 8 few refl (omega arith) refl (omega arith) ∙ push_kind t rest refl refl type_is
action_as_on_wire (SetField f v) seen x fits few = set_same f v seen x few fits
action_as_on_wire other seen x fits few =
    let rest = canonical_action other ++ x in
    past_head seen rest 8 few refl (omega arith) refl (omega arith) ∙ plain_kind other rest refl refl refl
