-- The invariants that join tables and groups are kept by each call.
use Rattle.std.proofs.Common.{◌≡◌, ℕ, ◌≤◌, Bool, false, List, Option, Result, Ok, Err, sym, ◌∙◌, ap, subst}
use Rattle.std.specs.{Prelude.IfOk, Prelude.OnOk, Prelude.OnErr, declared.alloc.AllocError.AllocError}
use Rattle.of_actions.specs.declared.instruction.Instruction.{Instruction}
use Rattle.of_groups.specs.{declared.group.Group.Group, Groups.with_group, Groups.groups_left}
use Rattle.of_ports.specs.declared.port.Port.{Port}
use Rattle.of_table.specs.Tables.{NumberedTables, tables_of, added_to, modified_in, left_in}
use Rattle.of_table.specs.{declared.flow.Flow.Flow, declared.selection.Selector.Selector, declared.selection.Cause.TheVariants.Group as OfGroup, declared.selection.Cause.Cause}
use Rattle.smallvec.specs.SmallVec.{SmallVec}
use Rattle.of_datapath.proofs.StandingLemmas.{removed_stands, flow_stands, modify_stands, put_stands, groups_left_stand}
use Rattle.of_datapath.specs.{declared.effect.Effect.Effect, Commands.names_absent_group, Buffers.HeldFrames, Numbers.Contents, Numbers.contents, Numbers.without_numbers}
use Rattle.of_datapath.specs.{Datapath.Forwarded, Datapath.Forwarding, Datapath.forwards, Standing.GroupsExist}

-- a call does this, or runs out of memory
pub called_stands : (r : Result (SmallVec Effect) AllocError) (d : Forwarded) (n m : NumberedTables) (gs hs : List Group) (ps qs : List Port) (b c : HeldFrames) → IfOk r (λ effects. d ≡ forwards effects.items (without_numbers m hs qs c)) → OnErr r (contents m hs qs c ≡ contents n gs ps b) → GroupsExist d.forwarding → GroupsExist (without_numbers n gs ps b) → GroupsExist (without_numbers m hs qs c)
called_stands (Ok effects) d n m gs hs ps qs b c ok err k s = subst GroupsExist (ap (λ (x : Forwarded). x.forwarding) ok) k
called_stands (Err x) d n m gs hs ps qs b c ok err k s = subst (λ (x : Contents). GroupsExist (without_numbers x.tables x.groups x.ports x.held)) (sym err) s

-- entries are removed
pub removal_stands : (cause : Cause) (f new : Forwarding) → new ≡ record f { tables = left_in cause f.tables } → GroupsExist f → GroupsExist new
removal_stands cause f new e k = subst GroupsExist (sym e) (removed_stands cause f k)

pub flow_put : {A E : Type 0} (r : Result A E) (k : ℕ) (flow : Flow) (n m : NumberedTables) (gs : List Group) (ps : List Port) (b : HeldFrames) → OnOk r (tables_of m ≡ added_to k flow (tables_of n)) → OnErr r (m ≡ n) → names_absent_group gs flow.instructions ≡ false → GroupsExist (without_numbers n gs ps b) → GroupsExist (without_numbers m gs ps b)
flow_put (Ok a) k flow n m gs ps b ok err h s = flow_stands k flow (without_numbers n gs ps b) (tables_of m) ok h s
flow_put (Err x) k flow n m gs ps b ok err h s = subst (λ (x : NumberedTables). GroupsExist (without_numbers x gs ps b)) (sym err) s

pub flows_changed : {A E : Type 0} (r : Result A E) (w : Selector) (is : List Instruction) (reset : Bool) (n m : NumberedTables) (gs : List Group) (ps : List Port) (b : HeldFrames) → OnOk r (tables_of m ≡ modified_in w is reset (tables_of n)) → OnErr r (m ≡ n) → names_absent_group gs is ≡ false → GroupsExist (without_numbers n gs ps b) → GroupsExist (without_numbers m gs ps b)
flows_changed (Ok a) w is reset n m gs ps b ok err h s = modify_stands w is reset (without_numbers n gs ps b) (tables_of m) ok h s
flows_changed (Err x) w is reset n m gs ps b ok err h s = subst (λ (x : NumberedTables). GroupsExist (without_numbers x gs ps b)) (sym err) s

pub group_put : (g : Group) (n : NumberedTables) (gs hs : List Group) (ps : List Port) (b : HeldFrames) → g.id ≤ 0xffffff00 → hs ≡ with_group g gs → GroupsExist (without_numbers n gs ps b) → GroupsExist (without_numbers n hs ps b)
group_put g n gs hs ps b small e s = subst (λ (x : List Group). GroupsExist (without_numbers n x ps b)) (sym e) (put_stands g (without_numbers n gs ps b) small s)

-- groups are removed, and then the entries that name them
pub groups_gone : (which : Option ℕ) (cause : Cause) (n : NumberedTables) (gs hs : List Group) (ps : List Port) (b : HeldFrames) (new : Forwarding) → cause ≡ OfGroup which → hs ≡ groups_left which gs → new ≡ record (without_numbers n hs ps b) { tables = left_in cause (tables_of n) } → GroupsExist (without_numbers n gs ps b) → GroupsExist new
groups_gone which cause n gs hs ps b new c e f s =
    let is : new ≡ record (without_numbers n gs ps b) { tables = left_in (OfGroup which) (tables_of n); groups = groups_left which gs } =
    f ∙ (ap (λ (x : Cause). record (without_numbers n hs ps b) { tables = left_in x (tables_of n) }) c ∙ ap (λ (x : List Group). record (without_numbers n x ps b) { tables = left_in (OfGroup which) (tables_of n) }) e) in
    subst GroupsExist (sym is) (groups_left_stand which (without_numbers n gs ps b) s)
