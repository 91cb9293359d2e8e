-- Each error that a group or a flow of a text is refused with has a sentence.
use Rattle.std.proofs.Common.{ℕ, ◌+◌, Bool, true, false, cond, List, [], ◌∷◌, ◌++◌, length, take, Option, Some, None, refl}
use Rattle.std.specs.{Prelude.IsSome, Prelude.IfSome, List.AllByRecursion, List.flat_map, Option.option_map_or}
use Rattle.of_wire.specs.{declared.code.Code.Code, Refusals.first_of}
use Rattle.of_oxm.specs.declared.match_field.MatchField.{MatchField}
use Rattle.of_actions.specs.declared.instruction.Instruction.TheVariants.{Apply, Write, Goto}
use Rattle.of_actions.specs.{declared.action.Action.Action, declared.instruction.Instruction.Instruction}
use Rattle.of_actions.specs.declared.action.Action.TheVariants as actions
use Rattle.of_groups.specs.declared.group.Group.{Group}
use Rattle.of_text.specs.First.{first_refusal, flows_for, refusals_behind, refused_from, refused_group}
use Rattle.of_text.specs.Refusals.{text_action_refusals, all_there, buckets_refusals, text_field_refusals, flow_refusals, goto_refusals, group_refusals, list_refusals, match_refusals, naming_refusals, instruction_refusals, instructions_refusals, table_refusals}
use Rattle.of_text.{specs.Flows.Flow, specs.Groups.TextBucket, specs.Groups.TextGroup, proofs.TextLemmas.all_both}
use Rattle.of_hints.specs.Sentences.{sentence_of}

abbrev IsSaid : Code → Type 0
IsSaid code = IsSome (sentence_of code.kind code.code)

abbrev HasSentence : Bool × Code → Type 0
HasSentence r = IsSaid r.1

abbrev AreSaid : List (Bool × Code) → Type 0
AreSaid rs = AllByRecursion HasSentence rs

first_said : (rs : List (Bool × Code)) → AreSaid rs → IfSome (first_of rs) IsSaid
first_said [] h = tt
first_said (r ∷ rs) h = by_test r.0 (first_said rs h.1)
  where
    by_test : (t : Bool) → IfSome (first_of rs) IsSaid → IfSome (cond t (Some r.1) (first_of rs)) IsSaid
    by_test true k = h.0
    by_test false k = k

each_said : {A : Type 0} (f : A → List (Bool × Code)) → ((x : A) → AreSaid (f x)) → (xs : List A) → AreSaid (flat_map f xs)
each_said f p [] = tt
each_said f p (x ∷ xs) = all_both HasSentence (f x) (flat_map f xs) (p x) (each_said f p xs)

-- ---- a flow

field_said : (e : MatchField) → AreSaid (text_field_refusals e)
field_said e = (refl, (refl, (refl, tt)))

action_said : (a : Action) → AreSaid (text_action_refusals a)
action_said (actions.Output port max_len) = (refl, tt)
action_said (actions.PushVlan type) = (refl, tt)
action_said (actions.SetField f value) = (refl, (refl, tt))
action_said other = tt

list_said : (xs : List Action) → AreSaid (list_refusals xs)
unfolding list_refusals
list_said xs = all_both HasSentence (flat_map text_action_refusals (take 64 xs)) _ (each_said text_action_refusals action_said (take 64 xs)) (refl, tt)

instruction_said : (s : Instruction) → AreSaid (instruction_refusals s)
unfolding instruction_refusals
instruction_said (Apply xs) = list_said xs
instruction_said (Write xs) = list_said xs
instruction_said other = tt

goto_said : (table : ℕ) (s : Instruction) → AreSaid (goto_refusals table s)
goto_said table (Goto to) = (refl, tt)
goto_said table other = tt

match_said : (m : List MatchField) → AreSaid (match_refusals m)
unfolding match_refusals
match_said m = all_both HasSentence (flat_map text_field_refusals m) _ (each_said text_field_refusals field_said m) (refl, tt)

instructions_said : (table : ℕ) (m : List MatchField) (instructions : List Instruction) → AreSaid (instructions_refusals table m instructions)
unfolding instructions_refusals
instructions_said table m instructions = all_both HasSentence (flat_map (goto_refusals table) instructions) _ (each_said (goto_refusals table) (goto_said table) instructions) (all_both HasSentence (flat_map instruction_refusals instructions) _ (each_said instruction_refusals instruction_said instructions) (refl, tt))

flow_said : (f : Flow) → AreSaid (flow_refusals f)
unfolding flow_refusals
flow_said f = (refl, (refl, all_both HasSentence (match_refusals f.fields) (instructions_refusals f.head.table f.fields f.instructions) (match_said f.fields) (instructions_said f.head.table f.fields f.instructions)))

table_said : (groups : List TextGroup) (before : List Flow) (f : Flow) → AreSaid (table_refusals groups before f)
unfolding table_refusals
table_said groups before f = (refl, (refl, (refl, tt)))

behind_said : (groups : List TextGroup) (before : List Flow) (f : Flow) → AreSaid (refusals_behind groups before f)
behind_said groups before f = all_both HasSentence (flow_refusals f) (table_refusals groups (flows_for f.head.table before) f) (flow_said f) (table_said groups (flows_for f.head.table before) f)

abbrev IsPlaceSaid : ℕ × Code → Type 0
IsPlaceSaid r = IsSaid r.1

flows_said : (groups : List TextGroup) (before flows : List Flow) → IfSome (refused_from groups before flows) IsPlaceSaid
flows_said groups before [] = tt
flows_said groups before (f ∷ fs) = by_first (first_of (refusals_behind groups before f)) (first_said (refusals_behind groups before f) (behind_said groups before f)) (flows_said groups (before ++ f ∷ []) fs)
  where
    by_first : (o : Option Code) → IfSome o IsSaid → IfSome (refused_from groups (before ++ f ∷ []) fs) IsPlaceSaid → IfSome (option_map_or (λ code. Some (length groups + length before, code)) o (refused_from groups (before ++ f ∷ []) fs)) IsPlaceSaid
    by_first None h k = k
    by_first (Some code) h k = h

-- ---- a group

bucket_said : (b : TextBucket) → AreSaid (list_refusals b.actions)
bucket_said b = list_said b.actions

buckets_said : (bs : List TextBucket) → AreSaid (buckets_refusals bs)
unfolding buckets_refusals
buckets_said bs = all_both HasSentence (flat_map (λ (b : TextBucket). list_refusals b.actions) (take 16 bs)) _ (each_said (λ (b : TextBucket). list_refusals b.actions) bucket_said (take 16 bs)) (refl, tt)

group_said : (place : ℕ) (g : TextGroup) → AreSaid (group_refusals place g)
unfolding group_refusals
group_said place g = (refl, all_both HasSentence (buckets_refusals g.buckets) _ (buckets_said g.buckets) (refl, (refl, (refl, tt))))

naming_said : (there : List Group) (g : TextGroup) → AreSaid (naming_refusals there g)
unfolding naming_refusals
naming_said there g = (refl, (refl, (refl, tt)))

groups_said : (there : List Group) (place : ℕ) (gs : List TextGroup) → IfSome (refused_group there place gs) IsPlaceSaid
groups_said there place [] = tt
groups_said there place (g ∷ gs) = by_first (first_of (group_refusals place g ++ naming_refusals there g)) (first_said (group_refusals place g ++ naming_refusals there g) (all_both HasSentence (group_refusals place g) (naming_refusals there g) (group_said place g) (naming_said there g))) (groups_said there (place + 1) gs)
  where
    by_first : (o : Option Code) → IfSome o IsSaid → IfSome (refused_group there (place + 1) gs) IsPlaceSaid → IfSome (option_map_or (λ code. Some (place, code)) o (refused_group there (place + 1) gs)) IsPlaceSaid
    by_first None h k = k
    by_first (Some code) h k = h

pub all_said : (groups : List TextGroup) (flows : List Flow) → IfSome (first_refusal groups flows) (λ r. IsSome (sentence_of r.1.kind r.1.code))
all_said groups flows = by_first (refused_group (all_there groups) 0 groups) (groups_said (all_there groups) 0 groups) (flows_said groups [] flows)
  where
    by_first : (o : Option (ℕ × Code)) → IfSome o IsPlaceSaid → IfSome (refused_from groups [] flows) IsPlaceSaid → IfSome (option_map_or Some o (refused_from groups [] flows)) IsPlaceSaid
    by_first None h k = k
    by_first (Some r) h k = h
