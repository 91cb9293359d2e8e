-- The flow of its words may stand in a flow text.
use Rattle.std.proofs.Common.{◌≡◌, ℕ, ◌+◌, ◌<◌, ◌≤◌, ◌^◌, eqb, Bool, true, false, cond, List, [], ◌∷◌, ◌++◌, length, Option, Some, None, refl, sym, ap, subst, ◌∙◌, append_assoc, arith}
use Rattle.std.specs.Prelude.{codes, map, not, nat_lt, nat_le, ◌&&◌, ◌||◌, IsSome, IfSome, reverse, find, filter_map}
use Rattle.std.specs.{List.AllByRecursion, List.flat_map, List.list_all, Option.option_map_or}
use Rattle.std.proofs.{lemmas.Bool.le-leb, lemmas.Bool.leb-true, lemmas.Bool.ltb-true, lemmas.Bool.eqb-true, lemmas.List.Folds.list_all-map, lemmas.List.append-nil}
use Rattle.of_layers.{specs.declared.field.Field.Field, specs.Fields.number_of, specs.Fields.ones_of, specs.Fields.row_of, proofs.Table.value_below, proofs.Table.number_below}
use Rattle.of_layers.specs.declared.field.TheConstants.Field as constants
use Rattle.of_oxm.specs.declared.match_field.MatchField.{MatchField}
use Rattle.of_actions.specs.declared.argument.Argument.TheVariants.{Nothing, Byte, Tag, Word, Port, Field as FieldValue}
use Rattle.of_actions.specs.{declared.action.Action.Action, declared.argument.Argument.Argument, declared.instruction.Instruction.Instruction}
use Rattle.of_actions.specs.{declared.instruction.Instruction.TheVariants.Apply, declared.instruction.Instruction.TheVariants.Clear, declared.instruction.Instruction.TheVariants.Write, Rows.said}
use Rattle.of_lines.specs.declared.row.Row.{Row}
use Rattle.of_lines.specs.declared.row.Row.TheVariants as rows
use Rattle.of_text.specs.Rows.{Fits, ActionFits, ArgumentFits, HeadFits, IsMask}
use Rattle.of_text.specs.{Flows.instruction_rows, Order.flow_next, Order.flow_standing, Groups.TextBucket, Groups.bucket_rows}
use Rattle.of_ovs_words.specs.{Settings.last_of, Matches.fields_of_settings}
use Rattle.of_ovs_lines.specs.Finished.{when, metadata_instruction, goto_instruction, instructions_of, field_fits, action_fits, argument_fits, numbers_fit, finished_flow, refusal_of}
use Rattle.of_ovs_lines.specs.{PartialFlows.PartialFlow, PartialFlows.Refusal, PartialGroups.bucket_fits, Sound.IsSoundFlow}
use Rattle.of_ovs_words.specs.declared.why.Why.TheVariants as whys

pub mapped_tests : {X Y : Type 0} (p : Y → Bool) (g : X → Y) (xs : List X) → list_all p (map g xs) ≡ list_all (λ x. p (g x)) xs
mapped_tests p g xs = list_all-map p g xs

pub and_parts : (a b : Bool) → (a && b) ≡ true → (a ≡ true) × (b ≡ true)
and_parts true b h = (refl, h)
and_parts false b h = absurd cc

-- ---- numbers fit

pub field_sound : (e : MatchField) → field_fits e ≡ true → Fits (rows.Match e)
field_sound e h =
    let parts = and_parts (nat_le e.value (ones_of e.field)) (option_map_or (λ mask. nat_lt 0 mask && nat_lt mask (ones_of e.field)) e.mask true) h in
    (value_below e.field e.value (leb-true e.value (ones_of e.field) parts.0), masks e.mask parts.1)
  where
    masks : (m : Option ℕ) → option_map_or (λ mask. nat_lt 0 mask && nat_lt mask (ones_of e.field)) m true ≡ true → IfSome m (IsMask e.field)
    masks None k = tt
    masks (Some mask) k = let both = and_parts (nat_lt 0 mask) (nat_lt mask (ones_of e.field)) k in record { some = ltb-true 0 mask both.0; not_all = ltb-true mask (ones_of e.field) both.1 }

pub fields_sound : (es : List MatchField) → list_all field_fits es ≡ true → AllByRecursion Fits (map rows.Match es)
fields_sound [] h = tt
fields_sound (e ∷ es) h = let parts = and_parts (field_fits e) (list_all field_fits es) h in (field_sound e parts.0, fields_sound es parts.1)

argument_sound : (s : Argument) → argument_fits s ≡ true → ArgumentFits s
argument_sound Nothing h = tt
argument_sound (Byte n) h = ltb-true n (2 ^ 8) h
argument_sound (Tag type) h = ltb-true type (2 ^ 16) h
argument_sound (Word n) h = ltb-true n (2 ^ 32) h
argument_sound (Port port max_len) h = let parts = and_parts (nat_lt port (2 ^ 32)) (nat_lt max_len (2 ^ 16)) h in (ltb-true port (2 ^ 32) parts.0, ltb-true max_len (2 ^ 16) parts.1)
argument_sound (FieldValue f value) h = value_below f value (leb-true value (ones_of f) h)

pub action_sound : (a : Action) → action_fits a ≡ true → ActionFits a
action_sound a h = argument_sound (said a).1 h

pub actions_sound : (xs : List Action) → list_all action_fits xs ≡ true → AllByRecursion Fits (map rows.Do xs)
actions_sound [] h = tt
actions_sound (x ∷ xs) h = let parts = and_parts (action_fits x) (list_all action_fits xs) h in (action_sound x parts.0, actions_sound xs parts.1)

pub all_both : {X : Type 0} (P : X → Type 0) (xs ys : List X) → AllByRecursion P xs → AllByRecursion P ys → AllByRecursion P (xs ++ ys)
all_both P [] ys h k = k
all_both P (x ∷ xs) ys h k = (h.0, all_both P xs ys h.1 k)

pub all_front : {X : Type 0} (P : X → Type 0) (xs ys : List X) → AllByRecursion P (xs ++ ys) → AllByRecursion P xs
all_front P [] ys h = tt
all_front P (x ∷ xs) ys h = (h.0, all_front P xs ys h.1)

pub all_back : {X : Type 0} (P : X → Type 0) (xs ys : List X) → AllByRecursion P (xs ++ ys) → AllByRecursion P ys
all_back P [] ys h = h
all_back P (x ∷ xs) ys h = all_back P xs ys h.1

-- ---- fields are in order

-- after lines, some later place is the least
pub record After (least : ℕ) (front rest : List Row) (most : ℕ) : Type 0 where
  pub next : ℕ
  pub small : next ≤ most
  pub is : flow_standing least (front ++ rest) ≡ flow_standing next rest

-- fields by ascending numbers, from this one on
abbrev pub rises : ℕ → List Field → Bool
rises least [] = true
rises least (f ∷ fs) = nat_le least (number_of f) && rises (number_of f + 1) fs

all_rise : rises 0 constants.ALL ≡ true
unfolding row_of
all_rise = refl

rises_from : (a b : ℕ) (fs : List Field) → a ≤ b → rises b fs ≡ true → rises a fs ≡ true
rises_from a b [] h k = refl
rises_from a b (f ∷ fs) h k =
    let parts = and_parts (nat_le b (number_of f)) (rises (number_of f + 1) fs) k in
    let low : a ≤ number_of f = omega (arith, h, leb-true b (number_of f) parts.0) in
    rw (le-leb a (number_of f) low) parts.1

-- a field that is found is of the number that was sought
found_is : (p : MatchField → Bool) (xs : List MatchField) (e : MatchField) → find p xs ≡ Some e → p e ≡ true
found_is p [] e h = absurd cc
found_is p (x ∷ xs) e h = by_test (found_is p xs e) (p x) refl
  where
    by_test : (find p xs ≡ Some e → p e ≡ true) → (t : Bool) → p x ≡ t → p e ≡ true
    by_test others true k = let both : cond (p x) (Some x) (find p xs) ≡ Some e = h in (let here : Some x ≡ Some e = rw k at both in (let same : x ≡ e = cc in subst (λ y. p y ≡ true) same k))
    by_test others false k = let both : cond (p x) (Some x) (find p xs) ≡ Some e = h in others (rw k at both)

last_is : (f : Field) (settings : List MatchField) (e : MatchField) → last_of f settings ≡ Some e → number_of e.field ≡ number_of f
last_is f settings e h = eqb-true (number_of e.field) (number_of f) (found_is (λ x. eqb (number_of x.field) (number_of f)) (reverse settings) e h)

fields_stand : (settings : List MatchField) (least : ℕ) (fs : List Field) (rest : List Row) → least ≤ 31 → rises least fs ≡ true → After least (map rows.Match (filter_map (λ f. last_of f settings) fs)) rest 31
unfolding flow_next
fields_stand settings least [] rest l h = record { next = least; small = l; is = refl }
fields_stand settings least (f ∷ fs) rest l h =
    let parts = and_parts (nat_le least (number_of f)) (rises (number_of f + 1) fs) h in
    let low : number_of f < 31 = number_below f in
    by_last (leb-true least (number_of f) parts.0) (fields_stand settings (number_of f + 1) fs rest (omega (arith, low)) parts.1) (fields_stand settings least fs rest l (rises_from least (number_of f + 1) fs (omega (arith, leb-true least (number_of f) parts.0)) parts.1)) (last_of f settings) refl
  where
    by_last : least ≤ number_of f → After (number_of f + 1) (map rows.Match (filter_map (λ f. last_of f settings) fs)) rest 31 → After least (map rows.Match (filter_map (λ f. last_of f settings) fs)) rest 31 → (o : Option MatchField) → last_of f settings ≡ o → After least (map rows.Match (filter_map (λ f. last_of f settings) (f ∷ fs))) rest 31
    by_last low after same None e = subst (λ (xs : List MatchField). After least (map rows.Match xs) rest 31) (sym (passed e)) same
      where
        passed : last_of f settings ≡ None → filter_map (λ f. last_of f settings) (f ∷ fs) ≡ filter_map (λ f. last_of f settings) fs
        passed e = rw e refl
    by_last low after same (Some m) e = subst (λ (xs : List MatchField). After least (map rows.Match xs) rest 31) (sym (kept e)) (field_first low after (last_is f settings m e))
      where
        kept : last_of f settings ≡ Some m → filter_map (λ f. last_of f settings) (f ∷ fs) ≡ m ∷ filter_map (λ f. last_of f settings) fs
        kept e = rw e refl

        field_first : least ≤ number_of f → After (number_of f + 1) (map rows.Match (filter_map (λ f. last_of f settings) fs)) rest 31 → number_of m.field ≡ number_of f → After least (rows.Match m ∷ map rows.Match (filter_map (λ f. last_of f settings) fs)) rest 31
        field_first low after is = record { next = after.next; small = after.small; is = rw (is, le-leb least (number_of f) low) after.is }

-- ---- instructions are in order

actions_stand : (least : ℕ) (xs : List Action) (rest : List Row) → (eqb least 41 || eqb least 43) ≡ true → flow_standing least (map rows.Do xs ++ rest) ≡ flow_standing least rest
unfolding flow_next
actions_stand least [] rest h = refl
actions_stand least (x ∷ xs) rest h = rw h (actions_stand least xs rest h)

-- after one kind of instruction, where it is there
record Past (least : ℕ) (instructions : List Instruction) (rest : List Row) (most : ℕ) : Type 0 where
  pub next : ℕ
  pub small : next ≤ most
  pub is : flow_standing least (flat_map instruction_rows instructions ++ rest) ≡ flow_standing next rest

one_instruction : (s : Instruction) (rest : List Row) → (instruction_rows s ++ []) ++ rest ≡ instruction_rows s ++ rest
one_instruction s rest = simp append_assoc

apply_past : (b : Bool) (least : ℕ) (xs : List Action) (rest : List Row) → least ≤ 40 → Past least (when b (Apply xs)) rest 41
unfolding flow_next
apply_past false least xs rest h = record { next = least; small = omega (arith, h); is = refl }
apply_past true least xs rest h = record { next = 41; small = omega arith; is = ap (flow_standing least) (one_instruction (Apply xs) rest) ∙ rw (le-leb least 40 h) (actions_stand 41 xs rest refl) }

clear_past : (b : Bool) (least : ℕ) (rest : List Row) → least ≤ 41 → Past least (when b Clear) rest 42
unfolding flow_next
clear_past false least rest h = record { next = least; small = omega (arith, h); is = refl }
clear_past true least rest h = record { next = 42; small = omega arith; is = rw (le-leb least 41 h) refl }

write_past : (b : Bool) (least : ℕ) (xs : List Action) (rest : List Row) → least ≤ 42 → Past least (when b (Write xs)) rest 43
unfolding flow_next
write_past false least xs rest h = record { next = least; small = omega (arith, h); is = refl }
write_past true least xs rest h = record { next = 43; small = omega arith; is = ap (flow_standing least) (one_instruction (Write xs) rest) ∙ rw (le-leb least 42 h) (actions_stand 43 xs rest refl) }

metadata_past : (m : Option (ℕ × ℕ)) (least : ℕ) (rest : List Row) → least ≤ 43 → Past least (metadata_instruction m) rest 44
unfolding flow_next
metadata_past None least rest h = record { next = least; small = omega (arith, h); is = refl }
metadata_past (Some m) least rest h = record { next = 44; small = omega arith; is = rw (le-leb least 43 h) refl }

goto_past : (g : Option ℕ) (least : ℕ) (rest : List Row) → least ≤ 44 → Past least (goto_instruction g) rest 45
unfolding flow_next
goto_past None least rest h = record { next = least; small = omega (arith, h); is = refl }
goto_past (Some table) least rest h = record { next = 45; small = omega arith; is = rw (le-leb least 44 h) refl }

-- two parts one after the other
past_both : (least : ℕ) (front back : List Instruction) (rest : List Row) (middle most : ℕ) → Past least front (flat_map instruction_rows back ++ rest) middle → ((n : ℕ) → n ≤ middle → Past n back rest most) → Past least (front ++ back) rest most
past_both least front back rest middle most a b =
    let after = b a.next a.small in
    record { next = after.next; small = after.small; is = ap (flow_standing least) (joined front back rest) ∙ (a.is ∙ after.is) }
  where
    joined : (front back : List Instruction) (rest : List Row) → flat_map instruction_rows (front ++ back) ++ rest ≡ flat_map instruction_rows front ++ (flat_map instruction_rows back ++ rest)
    joined [] back rest = refl
    joined (s ∷ front) back rest = simp append_assoc (ap (λ xs. instruction_rows s ++ xs) (joined front back rest))

instructions_past : (s : PartialFlow) (least : ℕ) (rest : List Row) → least ≤ 40 → Past least (instructions_of s) rest 45
instructions_past s least rest h =
    let a = when (not (eqb (length s.apply) 0)) (Apply s.apply) in
    let c = when s.clears Clear in
    let w = when s.writes (Write s.write) in
    let m = metadata_instruction s.metadata in
    let g = goto_instruction s.goto in
    past_both least (((a ++ c) ++ w) ++ m) g rest 44 45
    (past_both least ((a ++ c) ++ w) m (flat_map instruction_rows g ++ rest) 43 44
    (past_both least (a ++ c) w (flat_map instruction_rows m ++ (flat_map instruction_rows g ++ rest)) 42 43
    (past_both least a c (flat_map instruction_rows w ++ (flat_map instruction_rows m ++ (flat_map instruction_rows g ++ rest))) 41 42
    (apply_past (not (eqb (length s.apply) 0)) least s.apply (flat_map instruction_rows c ++ (flat_map instruction_rows w ++ (flat_map instruction_rows m ++ (flat_map instruction_rows g ++ rest)))) h)
    (λ n l. clear_past s.clears n (flat_map instruction_rows w ++ (flat_map instruction_rows m ++ (flat_map instruction_rows g ++ rest))) l))
    (λ n l. write_past s.writes n s.write (flat_map instruction_rows m ++ (flat_map instruction_rows g ++ rest)) l))
    (λ n l. metadata_past s.metadata n (flat_map instruction_rows g ++ rest) l))
    (λ n l. goto_past s.goto n rest l)

-- ---- flows

-- what the types of a flow that is being read say of its numbers
pub record IsTyped (s : PartialFlow) : Type 0 where
  pub head : HeadFits s.head
  pub metadata : IfSome s.metadata (λ m. (m.0 < 2 ^ 64) × (m.1 < 2 ^ 64))
  pub goto : IfSome s.goto (λ table. table < 2 ^ 8)

fits_both : (a b : List Instruction) → AllByRecursion Fits (flat_map instruction_rows a) → AllByRecursion Fits (flat_map instruction_rows b) → AllByRecursion Fits (flat_map instruction_rows (a ++ b))
fits_both [] b h k = k
fits_both (s ∷ a) b h k = all_both Fits (instruction_rows s) (flat_map instruction_rows (a ++ b)) (all_front Fits (instruction_rows s) (flat_map instruction_rows a) h) (fits_both a b (all_back Fits (instruction_rows s) (flat_map instruction_rows a) h) k)

with_end : (xs : List Row) → AllByRecursion Fits xs → AllByRecursion Fits (xs ++ [])
with_end xs h = all_both Fits xs [] h tt

apply_fits : (b : Bool) (xs : List Action) → list_all action_fits xs ≡ true → AllByRecursion Fits (flat_map instruction_rows (when b (Apply xs)))
apply_fits false xs h = tt
apply_fits true xs h = with_end (instruction_rows (Apply xs)) (tt, actions_sound xs h)

clear_fits : (b : Bool) → AllByRecursion Fits (flat_map instruction_rows (when b Clear))
clear_fits false = tt
clear_fits true = (tt, tt)

write_fits : (b : Bool) (xs : List Action) → list_all action_fits xs ≡ true → AllByRecursion Fits (flat_map instruction_rows (when b (Write xs)))
write_fits false xs h = tt
write_fits true xs h = with_end (instruction_rows (Write xs)) (tt, actions_sound xs h)

metadata_fits : (m : Option (ℕ × ℕ)) → IfSome m (λ m. (m.0 < 2 ^ 64) × (m.1 < 2 ^ 64)) → AllByRecursion Fits (flat_map instruction_rows (metadata_instruction m))
metadata_fits None h = tt
metadata_fits (Some m) h = (h, tt)

goto_fits : (g : Option ℕ) → IfSome g (λ table. table < 2 ^ 8) → AllByRecursion Fits (flat_map instruction_rows (goto_instruction g))
goto_fits None h = tt
goto_fits (Some table) h = (h, tt)

instructions_fit : (s : PartialFlow) → IsTyped s → list_all action_fits s.apply ≡ true → list_all action_fits s.write ≡ true → AllByRecursion Fits (flat_map instruction_rows (instructions_of s))
instructions_fit s t a w =
    fits_both (((when (not (eqb (length s.apply) 0)) (Apply s.apply) ++ when s.clears Clear) ++ when s.writes (Write s.write)) ++ metadata_instruction s.metadata) (goto_instruction s.goto)
    (fits_both ((when (not (eqb (length s.apply) 0)) (Apply s.apply) ++ when s.clears Clear) ++ when s.writes (Write s.write)) (metadata_instruction s.metadata)
    (fits_both (when (not (eqb (length s.apply) 0)) (Apply s.apply) ++ when s.clears Clear) (when s.writes (Write s.write))
    (fits_both (when (not (eqb (length s.apply) 0)) (Apply s.apply)) (when s.clears Clear) (apply_fits (not (eqb (length s.apply) 0)) s.apply a) (clear_fits s.clears))
    (write_fits s.writes s.write w))
    (metadata_fits s.metadata t.metadata))
    (goto_fits s.goto t.goto)

is_some : (o : Option ℕ) (n : ℕ) → o ≡ Some n → IsSome o
is_some o n e = rw e refl

pub partial_flow_sound : (s : PartialFlow) → IsTyped s → numbers_fit s ≡ true → IsSoundFlow (record { head = s.head; fields = fields_of_settings s.settings; instructions = instructions_of s })
partial_flow_sound s t n =
    let both = and_parts (list_all field_fits (fields_of_settings s.settings) && list_all action_fits s.apply) (list_all action_fits s.write) n in
    let first = and_parts (list_all field_fits (fields_of_settings s.settings)) (list_all action_fits s.apply) both.0 in
    let front = fields_stand s.settings 0 constants.ALL (flat_map instruction_rows (instructions_of s)) (omega arith) all_rise in
    let low : front.next ≤ 31 = front.small in
    let back = instructions_past s front.next [] (omega (arith, low)) in
    record {
      fits = (t.head, all_both Fits (map rows.Match (fields_of_settings s.settings)) (flat_map instruction_rows (instructions_of s)) (fields_sound (fields_of_settings s.settings) first.0) (instructions_fit s t first.1 both.1));
      order = is_some _ back.next (front.is ∙ (ap (flow_standing front.next) (sym (append-nil (flat_map instruction_rows (instructions_of s)))) ∙ back.is));
    }

some_or_none : {A : Type 0} (x : A) (o : Option A) → o ≡ Some x → o ≡ None → ⊥
some_or_none x None h k = absurd cc
some_or_none x (Some y) h k = absurd cc

abbrev value_refused : PartialFlow → Refusal
value_refused s = record { word = codes "actions"; why = whys.Value }

abbrev value_missing : PartialFlow → Refusal
value_missing s = record { word = codes "actions"; why = whys.Missing }

-- the flow of words of which none is refused
pub flow_sound : (s : PartialFlow) → IsTyped s → refusal_of s ≡ None → IsSoundFlow (finished_flow s)
unfolding refusal_of
flow_sound s t e = by_actions s.in_actions refl
  where
    by_numbers : (b : Bool) → numbers_fit s ≡ b → s.in_actions ≡ true → IsSoundFlow (finished_flow s)
    by_numbers true n a = partial_flow_sound s t n
    by_numbers false n a = absurd (some_or_none (value_refused s) (refusal_of s) (rw (a, n) refl) e)

    by_actions : (b : Bool) → s.in_actions ≡ b → IsSoundFlow (finished_flow s)
    by_actions true a = by_numbers (numbers_fit s) refl a
    by_actions false a = absurd (some_or_none (value_missing s) (refusal_of s) (rw a refl) e)

-- as it is made
pub flow_made : (s : PartialFlow) (fields : List MatchField) (instructions : List Instruction) → fields ≡ fields_of_settings s.settings → instructions ≡ instructions_of s → IsSoundFlow (finished_flow s) → IsSoundFlow (record { head = s.head; fields = fields; instructions = instructions })
flow_made s fields instructions f t h = rw (f, t) h

-- ---- groups

bucket_sound : (b : TextBucket) → bucket_fits b ≡ true → AllByRecursion Fits (bucket_rows b)
bucket_sound b h =
    let more = and_parts (nat_lt b.head.weight (2 ^ 16) && nat_lt b.head.watch_port (2 ^ 32) && nat_lt b.head.watch_group (2 ^ 32)) (list_all action_fits b.actions) h in
    let two = and_parts (nat_lt b.head.weight (2 ^ 16) && nat_lt b.head.watch_port (2 ^ 32)) (nat_lt b.head.watch_group (2 ^ 32)) more.0 in
    let one = and_parts (nat_lt b.head.weight (2 ^ 16)) (nat_lt b.head.watch_port (2 ^ 32)) two.0 in
    ((ltb-true b.head.weight (2 ^ 16) one.0, ltb-true b.head.watch_port (2 ^ 32) one.1, ltb-true b.head.watch_group (2 ^ 32) two.1), actions_sound b.actions more.1)

pub buckets_sound : (bs : List TextBucket) → list_all bucket_fits bs ≡ true → AllByRecursion Fits (flat_map bucket_rows bs)
buckets_sound [] h = tt
buckets_sound (b ∷ bs) h =
    let parts = and_parts (bucket_fits b) (list_all bucket_fits bs) h in
    all_both Fits (bucket_rows b) (flat_map bucket_rows bs) (bucket_sound b parts.0) (buckets_sound bs parts.1)
