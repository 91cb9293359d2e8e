-- The cases of a lookup.
use Rattle.std.proofs.Common.{Bool, ◌≡◌, ◌<◌, ◌≤◌, ◌+◌, ℕ, zero, suc, true, false, Bor, List, [], ◌∷◌, ◌++◌, length, get_or, set, drop, Option, Some, None, refl, sym, ap, subst, ◌∙◌, arith, add-one, append_assoc, drop-cons}
use Rattle.std.specs.{Prelude.IfSome, Prelude.map, Prelude.slice_get, Global.Vec, List.Contains, Option.option_map}
use Rattle.std.proofs.{lemmas.List.append-nil, lemmas.List.map-append, lemmas.Bool.Decides.nat_tests, lemmas.Option.slice_get-get_or}
use Rattle.of_layers.specs.declared.field.Field.{Field}
use Rattle.of_actions.specs.declared.instruction.Instruction.TheVariants.{Goto}
use Rattle.of_actions.specs.{declared.action.Action.Action, declared.instruction.Instruction.Instruction}
use Rattle.of_table.specs.{declared.entry.Entry.Entry, declared.flow.Flow.Flow, Table.FlowEntry, Table.flow_at, Table.winner_place}
use Rattle.of_machine.specs.Rows.{Row, Task, at_entry, entry_row, lookup_row, task, works}
use Rattle.of_machine.specs.{declared.data.Packet.Packet, declared.data.Item.Item, declared.data.Step.Step, declared.data.Step.TheVariants.Entry as AtEntry, declared.data.Step.TheVariants.Miss}
use Rattle.of_machine.specs.TheWorld.{TheWorld}
use Rattle.of_machine.specs.Rows as rows
use Rattle.of_symbolic.specs.Branches.{AreBranches, AsksUnknown, HaveDistinctEntries, flows_listed, rewritten_fields}
use Rattle.of_symbolic.specs.{declared.branching.Branch.Branch, declared.overlay.Overlay.Overlay, Overlays.IsOverlay, InnerTags.description_of, Parts.InPart}
use Rattle.of_symbolic_run.specs.declared.advance.Advance.TheVariants as advances
use Rattle.of_symbolic_run.specs.Cases.{AreCases, AreCasesOf, AsksUnknownOf, IsAtEntry, IsCaseOf, IsEntered, IsTableOf, first_key, flow_found, flow_named, goes_to_table, is_listed, lookup_line, flow_with_number}
use Rattle.of_symbolic_run.specs.States.{IsStateCopy, answer_to_tasks, items_for, packet_for, row_for, task_for, work_for}
use Rattle.of_symbolic_run.specs.{declared.dividing.Case.Case, declared.frame_set.FrameSet.FrameSet, declared.state.Emission.Emission, declared.state.SymbolicPacket.SymbolicPacket}
use Rattle.of_symbolic_run.specs.{declared.state.SymbolicState.SymbolicState, declared.state.SymbolicTask.SymbolicTask, declared.state.Work.Work}
use Rattle.of_symbolic_run.specs.{declared.state.Work.TheVariants.Do, declared.state.Work.TheVariants.Lookup, NextStates.AreNextStates, NextStates.IsNextStateIf, NextStates.chosen_row}
use Rattle.of_symbolic_run.proofs.{FirstLemmas.first_item, FirstLemmas.firsts, FirstLemmas.is_lookup, FirstLemmas.some_lookup, ListedLemmas.listed_at}
use Rattle.of_symbolic_run.proofs.NextLemmas.{copy_next, last_same, next_at_row, some_same}

-- ---- instructions as work

works_at : (l : List Instruction) (k : ℕ) (i : Instruction) → slice_get l k ≡ Some i → k < length l → drop k l ≡ i ∷ drop (k + 1) l
works_at l k i at lt =
    let same : get_or l k i ≡ i = (let there = slice_get-get_or l k i lt in cc) in
    rw (add-one) (drop-cons l k i lt ∙ ap (λ (x : Instruction). x ∷ drop (suc k) l) same)

-- the item at a place, as two calls give it
pub at_place : (l : List Instruction) (k : ℕ) (i j : Instruction) → slice_get l k ≡ Some i → k < length l → j ≡ get_or l k j → i ≡ j
at_place l k i j at lt is = let there : slice_get l k ≡ Some j = slice_get-get_or l k j lt ∙ ap Some (sym is) in cc

on_works : (i : Instruction) (rest : List Instruction) → goes_to_table i ≡ false → works (i ∷ rest) ≡ rows.Do i ∷ works rest
on_works (Goto t) rest h = absurd cc
on_works other rest h = refl

last_works : (i : Instruction) (rest : List Instruction) → goes_to_table i ≡ true → works (i ∷ rest) ≡ rows.Do i ∷ []
last_works (Goto t) rest h = refl
last_works other rest h = absurd cc

pub instruction_more : (l : List Instruction) (k : ℕ) (i : Instruction) (old new : List Work) → slice_get l k ≡ Some i → k < length l → new ≡ old ++ Do i ∷ [] → goes_to_table i ≡ false → map work_for old ++ works (drop k l) ≡ works l → map work_for new ++ works (drop (k + 1) l) ≡ works l
instruction_more l k i old new at lt e on h =
    rw (e, map-append work_for old (Do i ∷ [])) (append_assoc (map work_for old) (rows.Do i ∷ []) (works (drop (k + 1) l)) ∙ ap (λ (ws : List rows.Work). map work_for old ++ ws) (sym (ap works (works_at l k i at lt) ∙ on_works i (drop (k + 1) l) on)) ∙ h)

pub instruction_last : (l : List Instruction) (k : ℕ) (i : Instruction) (old new : List Work) → slice_get l k ≡ Some i → k < length l → new ≡ old ++ Do i ∷ [] → goes_to_table i ≡ true → map work_for old ++ works (drop k l) ≡ works l → map work_for new ≡ works l
instruction_last l k i old new at lt e last h =
    rw (e, map-append work_for old (Do i ∷ [])) (ap (λ (ws : List rows.Work). map work_for old ++ ws) (sym (ap works (works_at l k i at lt) ∙ last_works i (drop (k + 1) l) last)) ∙ h)

-- ---- the packet at an entry

abbrev left_at : ℕ → Packet → Option (ℕ × Flow) → List Task
left_at table p None = task p [] ∷ []
left_at table p (Some f) = task (at_entry table f.1 p) (works f.1.instructions) ∷ []

record IsLookup (table : ℕ) (p : Packet) (found : Option (ℕ × Flow)) (r : Row) : Type 0 where
  left : r.left ≡ left_at table p found
  items : r.items ≡ []
  line : r.line ≡ lookup_line table found

entry_is : (p : Packet) (table n : ℕ) (found : Option Flow) → IsLookup table p (flow_with_number n found) (entry_row p table n found)
entry_is p table n None = record { left = refl; items = refl; line = refl }
entry_is p table n (Some f) = record { left = refl; items = refl; line = refl }

lookup_is : (w : TheWorld) (p : Packet) (table : ℕ) (win : Option ℕ) (found : Option (ℕ × Flow)) → flow_found w table win ≡ found → IsLookup table p found (lookup_row w p table win)
lookup_is w p table None found is = subst (λ (o : Option (ℕ × Flow)). IsLookup table p o (lookup_row w p table None)) is (record { left = refl; items = refl; line = refl })
lookup_is w p table (Some n) found is = subst (λ (o : Option (ℕ × Flow)). IsLookup table p o (lookup_row w p table (Some n))) is (entry_is p table n (w.flow table n))

at_left : (table : ℕ) (found : Option (ℕ × Flow)) (frame : List ℕ) (port : ℕ) (t x t' : SymbolicTask) → x.packet ≡ t.packet → IsAtEntry table found x t' → left_at table (packet_for t.packet frame port) found ≡ task_for frame port t' ∷ []
at_left table None frame port t x t' same h = rw (h.0 ∙ same, h.1) refl
at_left table (Some f) frame port t x t' same h = rw (h.0 ∙ ap (λ (q : SymbolicPacket). record q { cookie = f.1.cookie; table = table; miss = rows.is_miss f.1 }) same, h.1) refl

pub entered_is : (table : ℕ) (found : Option (ℕ × Flow)) (old copy new : SymbolicState) (x t' : SymbolicTask) → answer_to_tasks old.tasks.items ≡ advances.Lookup table → IsStateCopy old copy → x ≡ get_or copy.tasks.items 0 x →
    IsAtEntry table found x t' → new.tasks.items ≡ set copy.tasks.items 0 t' → new.emitted.items ≡ copy.emitted.items → new.steps.items ≡ copy.steps.items ++ lookup_line table found ∷ [] → IsEntered table found old new
entered_is table found old copy new x t' answer copied is entry tasks emitted steps w number named =
    let f = firsts old.tasks.items copy.tasks.items copied.0 (some_lookup old.tasks.items table answer) in
    let same : x.packet ≡ f.t.packet = ap (λ (y : SymbolicTask). y.packet) (first_item copy.tasks.items x f.copy f.others is f.copied) ∙ f.same.0 in
    let work : f.t.work.items ≡ Lookup table ∷ drop 1 f.t.work.items = is_lookup f.t.work.items table (ap answer_to_tasks (sym f.first) ∙ answer) in
    let row_is = (λ (frame : List ℕ) (port : ℕ). lookup_is w (packet_for f.t.packet frame port) table number found named) in
    let left : (frame : List ℕ) (port : ℕ) → (chosen_row w number false frame port f.t).left ≡ task_for frame port t' ∷ [] = (λ frame port. rw work ((row_is frame port).left ∙ at_left table found frame port f.t x t' same entry)) in
    let sent : (frame : List ℕ) (port : ℕ) → (chosen_row w number false frame port f.t).items ≡ [] = (λ frame port. rw work (row_is frame port).items) in
    let told : (frame : List ℕ) (port : ℕ) → (chosen_row w number false frame port f.t).line ≡ lookup_line table found = (λ frame port. rw work (row_is frame port).line) in
    let lines : (frame : List ℕ) (port : ℕ) → new.steps.items ≡ old.steps.items ++ (chosen_row w number false frame port f.t).line ∷ [] = (λ frame port. steps ∙ ap (λ (l : List Step). l ++ lookup_line table found ∷ []) copied.2 ∙ ap (λ (s : Step). old.steps.items ++ s ∷ []) (sym (told frame port))) in
    let more : (frame : List ℕ) (port : ℕ) → items_for w.ports new.emitted.items frame port ≡ items_for w.ports old.emitted.items frame port ++ (chosen_row w number false frame port f.t).items =
    (λ frame port. ap (λ (es : List Emission). items_for w.ports es frame port) (emitted ∙ copied.1) ∙ sym (append-nil (items_for w.ports old.emitted.items frame port)) ∙ ap (λ (l : List Item). items_for w.ports old.emitted.items frame port ++ l) (sym (sent frame port))) in
    copy_next w number false old new f.t t' f.rest f.others f.first (tasks ∙ ap (λ (ts : List SymbolicTask). set ts 0 t') f.copied) f.behind left more lines

-- the line that a lookup tells
entered_told : (w : TheWorld) (table : ℕ) (number : Option ℕ) (found : Option (ℕ × Flow)) (old new : SymbolicState) → answer_to_tasks old.tasks.items ≡ advances.Lookup table → flow_found w table number ≡ found → IsNextStateIf w number false old new → new.steps.items ≡ old.steps.items ++ lookup_line table found ∷ []
entered_told w table number found old new answer named h =
    let work : h.t.work.items ≡ Lookup table ∷ drop 1 h.t.work.items = is_lookup h.t.work.items table (ap answer_to_tasks (sym h.first) ∙ answer) in
    let told : (chosen_row w number false [] 0 h.t).line ≡ lookup_line table found = rw work (lookup_is w (packet_for h.t.packet [] 0) table number found named).line in
    h.lines [] 0 ∙ ap (λ (s : Step). old.steps.items ++ s ∷ []) told

-- the row of a frame whose first packet hits the entry of this number, or none
hit_row : (w : TheWorld) (frame : List ℕ) (port table : ℕ) (number : Option ℕ) (ts : List SymbolicTask) (t : SymbolicTask) (rest : List SymbolicTask) → ts ≡ t ∷ rest → answer_to_tasks ts ≡ advances.Lookup table → w.winner table (first_key ts frame port) ≡ number → row_for w frame port t ≡ chosen_row w number false frame port t
hit_row w frame port table number ts t rest first answer hit =
    let p = packet_for t.packet frame port in
    let work : t.work.items ≡ Lookup table ∷ drop 1 t.work.items = is_lookup t.work.items table (ap answer_to_tasks (sym first) ∙ answer) in
    let won : w.winner table (rows.key_of p) ≡ number = ap (λ (l : List SymbolicTask). w.winner table (first_key l frame port)) (sym first) ∙ hit in
    rw work (ap (lookup_row w p table) won)

-- ---- entries by their places

abbrev flow_in : Option Entry → Option Flow
flow_in o = option_map (λ (e : Entry). e.flow) o

listed_flow : (listed : List (Bor Entry)) (k : ℕ) (x : Bor Entry) → slice_get listed k ≡ Some x → flow_at k (flows_listed listed) ≡ Some x.now.flow
listed_flow [] k x at = absurd cc
listed_flow (e ∷ listed) zero x at = let same : e ≡ x = cc in ap (λ (y : Bor Entry). Some y.now.flow) same
listed_flow (e ∷ listed) (suc k) x at = listed_flow listed k x at

past_flow : (listed : List (Bor Entry)) (k : ℕ) → length listed ≤ k → flow_at k (flows_listed listed) ≡ None
past_flow [] zero le = refl
past_flow [] (suc k) le = refl
past_flow (e ∷ listed) zero le = absurd (omega (arith, le))
past_flow (e ∷ listed) (suc k) le = past_flow listed k (omega (arith, le))

pub named_is : (listed : List (Bor Entry)) (place : Option ℕ) (k : ℕ) (x : Bor Entry) → place ≡ Some k → x ≡ get_or listed k x → k < length listed → Some (k, x.now.flow) ≡ flow_named (flows_listed listed) place
named_is listed place k x is at lt = rw is (sym (ap (flow_with_number k) (listed_flow listed k x (slice_get-get_or listed k x lt ∙ ap Some (sym at)))))

pub named_past : (listed : List (Bor Entry)) (place : Option ℕ) (k : ℕ) → place ≡ Some k → length listed ≤ k → None ≡ flow_named (flows_listed listed) place
named_past listed place k is le = rw is (sym (ap (flow_with_number k) (past_flow listed k le)))

-- a line names the entry
flow_there : (flows : List FlowEntry) (k : ℕ) → k < length flows → (f : Flow) × (flow_at k flows ≡ Some f)
flow_there [] k lt = absurd (omega (arith, lt))
flow_there (e ∷ flows) zero lt = (e.flow, refl)
flow_there (e ∷ flows) (suc k) lt = flow_there flows k (omega (arith, lt))

is_inside : (k most : ℕ) → is_listed most (Some k) ≡ true → k < most
is_inside k most h = grind (arith, nat_tests)

entry_line : (table : ℕ) (flows : List FlowEntry) (k : ℕ) → is_listed (length flows) (Some k) ≡ true → lookup_line table (flow_named flows (Some k)) ≡ AtEntry table k
entry_line table flows k h = let f = flow_there flows k (is_inside k (length flows) h) in ap (λ (o : Option Flow). lookup_line table (flow_with_number k o)) f.1

names_entry : (table : ℕ) (flows : List FlowEntry) (x y : Option ℕ) → is_listed (length flows) x ≡ true → is_listed (length flows) y ≡ true → lookup_line table (flow_named flows x) ≡ lookup_line table (flow_named flows y) → x ≡ y
names_entry table flows None None h k same = refl
names_entry table flows None (Some b) h k same = let no : Miss table ≡ AtEntry table b = same ∙ entry_line table flows b k in absurd cc
names_entry table flows (Some a) None h k same = let no : AtEntry table a ≡ Miss table = sym (entry_line table flows a h) ∙ same in absurd cc
names_entry table flows (Some a) (Some b) h k same =
    let both : AtEntry table a ≡ AtEntry table b = sym (entry_line table flows a h) ∙ same ∙ entry_line table flows b k in
    let number : a ≡ b = cc in
    ap Some number

-- ---- the case of a branch

pub case_is : (table : ℕ) (flows : List FlowEntry) (frames : FrameSet) (state : SymbolicState) (b : Branch) (c : Case) (found : Option (ℕ × Flow)) → ((fields : Field → Option ℕ) → InPart b.part fields → InPart frames.part fields) →
    c.frames.part ≡ b.part → c.frames.inner ≡ frames.inner → c.frames.ttl_from ≡ frames.ttl_from → c.frames.ttl_to ≡ frames.ttl_to → found ≡ flow_named flows b.entry → IsEntered table found state c.state → IsCaseOf table flows frames state b c
case_is table flows frames state b c found inside part told least most is entered = record {
  within = λ frame port h. (
      let own : InPart b.part (description_of frames.inner frame port) = rw (sym part, sym told) h.part in
      (record { part = inside (description_of frames.inner frame port) own; ttl = rw (sym least, sym most) h.ttl }, own)
      );
  all = λ frame port h own. record { part = rw (part, told) own; ttl = rw (least, most) h.ttl };
  entered = subst (λ (o : Option (ℕ × Flow)). IsEntered table o state c.state) is entered;
}

module _ (table : ℕ) (flows : List FlowEntry) (frames : FrameSet) (state : SymbolicState) where
  pub one_case : (branches : List Branch) (cases : List Case) (b : Branch) (c : Case) → AreCasesOf table flows frames state branches cases → IsCaseOf table flows frames state b c → AreCasesOf table flows frames state (branches ++ b ∷ []) (cases ++ c ∷ [])
  one_case [] [] b c are one = (one, tt)
  one_case [] (y ∷ cases) b c are one = absurd are
  one_case (x ∷ branches) [] b c are one = absurd are
  one_case (x ∷ branches) (y ∷ cases) b c are one = (are.0, one_case branches cases b c are.1 one)

  -- the branch of a case, and the case of a branch
  record OfCase (branches : List Branch) (c : Case) : Type 0 where
    b : Branch
    there : Contains branches b
    own : IsCaseOf table flows frames state b c

  record OfBranch (cases : List Case) (b : Branch) : Type 0 where
    c : Case
    there : Contains cases c
    own : IsCaseOf table flows frames state b c

  of_case : (branches : List Branch) (cases : List Case) → AreCasesOf table flows frames state branches cases → (k : ℕ) (c : Case) → k < length cases → get_or cases k c ≡ c → OfCase branches c
  of_case [] [] are k c lt at = absurd (omega (arith, lt))
  of_case [] (y ∷ cases) are k c lt at = absurd are
  of_case (x ∷ branches) [] are k c lt at = absurd are
  of_case (x ∷ branches) (y ∷ cases) are zero c lt at = record { b = x; there = (0, omega arith, refl); own = subst (IsCaseOf table flows frames state x) at are.0 }
  of_case (x ∷ branches) (y ∷ cases) are (suc k) c lt at =
      let o = of_case branches cases are.1 k c (omega (arith, lt)) at in
      record { b = o.b; there = (suc o.there.0, omega (arith, o.there.1), o.there.2); own = o.own }

  of_branch : (branches : List Branch) (cases : List Case) → AreCasesOf table flows frames state branches cases → (k : ℕ) (b : Branch) → k < length branches → get_or branches k b ≡ b → OfBranch cases b
  of_branch [] [] are k b lt at = absurd (omega (arith, lt))
  of_branch [] (y ∷ cases) are k b lt at = absurd (omega (arith, lt))
  of_branch (x ∷ branches) [] are k b lt at = absurd are
  of_branch (x ∷ branches) (y ∷ cases) are zero b lt at = record { c = y; there = (0, omega arith, refl); own = subst (λ (z : Branch). IsCaseOf table flows frames state z y) at are.0 }
  of_branch (x ∷ branches) (y ∷ cases) are (suc k) b lt at =
      let o = of_branch branches cases are.1 k b (omega (arith, lt)) at in
      record { c = o.c; there = (suc o.there.0, omega (arith, o.there.1), o.there.2); own = o.own }

  -- the branch of the case at a place
  record IsCaseAt (branches : List Branch) (k : ℕ) (c : Case) : Type 0 where
    b : Branch
    there : slice_get branches k ≡ Some b
    own : IsCaseOf table flows frames state b c

  case_at : (branches : List Branch) (cases : List Case) → AreCasesOf table flows frames state branches cases → (k : ℕ) (c : Case) → slice_get cases k ≡ Some c → IsCaseAt branches k c
  case_at [] [] are k c at = absurd cc
  case_at [] (y ∷ cases) are k c at = absurd are
  case_at (x ∷ branches) [] are k c at = absurd are
  case_at (x ∷ branches) (y ∷ cases) are zero c at = record { b = x; there = refl; own = subst (IsCaseOf table flows frames state x) (some_same y c at) are.0 }
  case_at (x ∷ branches) (y ∷ cases) are (suc k) c at = let o = case_at branches cases are.1 k c at in record { b = o.b; there = o.there; own = o.own }

  found_named : (w : TheWorld) → IsTableOf w table flows → (o : Option ℕ) → flow_found w table o ≡ flow_named flows o
  found_named w is None = refl
  found_named w is (Some n) = ap (flow_with_number n) (is.flow n)

  pub cases_are : (w : TheWorld) (l : List Action) (metadata : ℕ) (branches : List Branch) (cases : List Case) → answer_to_tasks state.tasks.items ≡ advances.Lookup table → IsTableOf w table flows → ((frame : List ℕ) (port : ℕ) → first_key state.tasks.items frame port ≡ rewritten_fields l metadata frame port) →
      AreBranches frames.inner flows l metadata frames.part branches → AreCasesOf table flows frames state branches cases → AreCases w frames state cases
  cases_are w l metadata branches cases answer is key are made = record {
    within = λ c there frame port h. (let o = of_case branches cases made there.0 c there.1 there.2 in (o.own.within frame port h).0);
    all = λ frame port is h.
        let b = are.all frame port is h.part in
        let o = of_branch branches cases made b.1.0 b.0 b.1.1 b.1.2 in
        (o.c, o.there, o.own.all frame port h b.2);
    at = λ c there frame port is_frame h at.
        let o = of_case branches cases made there.0 c there.1 there.2 in
        let won : w.winner table (first_key state.tasks.items frame port) ≡ o.b.entry = is.winner (first_key state.tasks.items frame port) ∙ ap (λ (k : Field → Option ℕ). winner_place k flows) (key frame port) ∙ are.wins o.b o.there frame port is_frame (o.own.within frame port h).1 in
        let next = o.own.entered w o.b.entry (found_named w is o.b.entry) in
        next_at_row w frame port o.b.entry false state c.state next (hit_row w frame port table o.b.entry state.tasks.items next.t next.rest next.first answer won) at;
  }

  -- the branches of other entries have other lines
  pub cases_next : (w : TheWorld) (branches : List Branch) (cases : List Case) → answer_to_tasks state.tasks.items ≡ advances.Lookup table → IsTableOf w table flows → HaveDistinctEntries branches → ((b : Branch) → Contains branches b → is_listed (length flows) b.entry ≡ true) →
      AreCasesOf table flows frames state branches cases → AreNextStates w state cases
  cases_next w branches cases answer is once listed made = record {
    each = λ c there. (let o = of_case branches cases made there.0 c there.1 there.2 in record { found = o.b.entry; expires = false; follows = o.own.entered w o.b.entry (found_named w is o.b.entry) });
    apart = λ i j a b at_i at_j same.
        let x = case_at branches cases made i a at_i in
        let y = case_at branches cases made j b at_j in
        once i j x.b y.b x.there y.there (names_entry table flows x.b.entry y.b.entry (listed x.b (listed_at branches i x.b x.there)) (listed y.b (listed_at branches j y.b y.there))
        (last_same state.steps.items (lookup_line table (flow_named flows x.b.entry)) (lookup_line table (flow_named flows y.b.entry)) (sym (told x.b a x.own) ∙ same ∙ told y.b b y.own)));
  }
    where
      told : (b : Branch) (c : Case) → IsCaseOf table flows frames state b c → c.state.steps.items ≡ state.steps.items ++ lookup_line table (flow_named flows b.entry) ∷ []
      told b c own = entered_told w table b.entry (flow_named flows b.entry) state c.state answer (found_named w is b.entry) (own.entered w b.entry (found_named w is b.entry))

-- ---- the first packet

pub key_is : (ts : List SymbolicTask) (x : SymbolicTask) (table : ℕ) → answer_to_tasks ts ≡ advances.Lookup table → x ≡ get_or ts 0 x → (frame : List ℕ) (port : ℕ) → first_key ts frame port ≡ rewritten_fields x.packet.rewrites x.packet.metadata frame port
key_is [] x table answer is frame port = absurd cc
key_is (t ∷ ts) x table answer is frame port = ap (λ (y : SymbolicTask). rewritten_fields y.packet.rewrites y.packet.metadata frame port) (sym (first_item (t ∷ ts) x t ts is refl))

pub unknown_first : (told : Bool) (ts : List SymbolicTask) (x : SymbolicTask) (table : ℕ) (o : Overlay) (flows : List FlowEntry) → answer_to_tasks ts ≡ advances.Lookup table → x ≡ get_or ts 0 x → o.inner ≡ told → IsOverlay o x.packet.rewrites → AsksUnknown o flows → AsksUnknownOf told ts flows
unknown_first told [] x table o flows answer is tells over unknown = absurd cc
unknown_first told (t ∷ ts) x table o flows answer is tells over unknown = (o, tells, subst (λ (y : SymbolicTask). IsOverlay o y.packet.rewrites) (first_item (t ∷ ts) x t ts is refl) over, unknown)

-- what branches are
pub own_branches : (P : Vec Branch → Type 0) (found : Option (Vec Branch)) (made : Vec Branch) → found ≡ Some made → IfSome found P → P made
own_branches P found made is h = subst (λ (o : Option (Vec Branch)). IfSome o P) is h

-- each branch that is left
pub left_branches : (P : Branch → Type 0) (left others : List Branch) (b : Branch) → left ≡ b ∷ others → ((x : Branch) → Contains left x → P x) → P b × ((x : Branch) → Contains others x → P x)
left_branches P left others b is each = (
  each b (subst (λ (l : List Branch). Contains l b) (sym is) (0, omega arith, refl)),
  λ x there. each x (subst (λ (l : List Branch). Contains l x) (sym is) (suc there.0, omega (arith, there.1), there.2)),
)
