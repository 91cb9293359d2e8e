use Rattle.std.proofs.Common.{◌≡◌, ℕ, ◌-◌, ◌≤◌, ◌∙◌, Bool, true, false, List, length, take, drop, refl, sym, ap, subst, arith}
use Rattle.std.proofs.lemmas.List.{take_rest, length-drop}
use Rattle.of_actions.specs.declared.instruction.Instruction.{Instruction}
use Rattle.of_table.specs.{declared.entry.Entry.Entry, declared.selection.Selector.Selector, declared.selection.Cause.TheVariants.Moment, Copies.Supply, Copies.wanted, Copies.wanted_in}
use Rattle.of_table.specs.{Deadlines.all_stay, Entries.Numbered, Entries.rows_of, Entries.flows_of, Selecting.modified_entries, Sound.AreSoundEntries, Tables.is_in, Tables.modified_numbered}
use Rattle.of_table.proofs.{DeadlineLemmas.modified_none_over, ModifyLemmas.same_length, Replaced.written_behind, Unlike.unlike_rows}
use Rattle.of_table.proofs.flow_table.FlowTable.modify.Goals as goal

module _ (w : Selector) (k : ℕ) (t : Numbered) (es : List Entry) (inside : is_in w.table k ≡ true) where
  changed_is : (is : List Instruction) (reset : Bool) → es ≡ modified_entries w is reset t.entries → record t { entries = es } ≡ modified_numbered w is reset k t
  changed_is is reset e = rw (inside, e) refl

  supply_is : (s new : Supply) → es ≡ t.entries → new ≡ record s { count = s.count - wanted w es } → new ≡ record s { count = s.count - wanted_in w k t }
  supply_is s new e h = rw inside (rw e at h)

  room_is : (n : ℕ) → es ≡ t.entries → wanted_in w k t ≤ n → wanted w es ≤ n
  room_is n e h = rw e (rw inside at h)

module _ (w : Selector) (k : ℕ) (t : Numbered) (outside : is_in w.table k ≡ false) where
  stays_as : (is : List Instruction) (reset : Bool) → t ≡ modified_numbered w is reset k t
  stays_as is reset = rw outside refl

  supply_stays : (s : Supply) → s ≡ record s { count = s.count - wanted_in w k t }
  supply_stays s =
      let same : s.count ≡ s.count - 0 = omega arith in
      rw outside (ap (λ (n : ℕ). record s { count = n }) same)

pub invariant_of-self : goal.invariant_of-self
invariant_of-self g c =
    let xs = c.deref_mut.result.now in
    let r = c.self.inside.replaced in
    let items = c.self.inside.entries.items in
    let ys = c.modify_all.new.entries in
    let es = drop r items in
    let old : take (length xs - r) (drop r xs) ≡ es = take_rest xs r ∙ ap (drop r) c.deref_mut.ensures.value in
    let rows : rows_of ys ≡ rows_of es = c.modify_all.ensures.rows ∙ ap rows_of old in
    let long : length items ≡ c.self.inside.entries.len = omega arith in
    let few : length ys ≡ length es = same_length ys es rows in
    let both = written_behind xs ys items r c.self.inside.entries.len c.deref_mut.ensures.value long (omega (arith, long, c.self.invariant.2)) (omega (arith, few, length-drop r items, long)) in (
      c.self.invariant.0 ∙ sym (ap rows_of both.0 ∙ rows),
      λ at lt. ap (all_stay (Moment at)) (both.0 ∙ c.modify_all.ensures.entries ∙ ap (modified_entries c.args.which.now c.args.copies.now.instructions c.args.reset) old)
          ∙ modified_none_over c.self.inside.due c.args.which.now c.args.copies.now.instructions c.args.reset es c.self.invariant.1 at lt,
      both.1,
      unlike_rows es _ (ap rows_of both.0 ∙ rows) c.self.invariant.3,
    )

pub modify_all-requires-clause-copies : goal.modify_all-requires-clause-copies
modify_all-requires-clause-copies g c =
    let xs = c.deref_mut.result.now in
    let r = c.self.inside.replaced in
    let items = c.self.inside.entries.items in
    let within : is_in c.args.which.now.table c.args.table ≡ true = sym c.is_in.ensures ∙ c.if-is_in.true in
    let old : take (length xs - r) (drop r xs) ≡ drop r items = take_rest xs r ∙ ap (drop r) c.deref_mut.ensures.value in
    room_is c.args.which.now c.args.table (record { lookups = c.self.inside.lookups; matched = c.self.inside.matched; entries = drop r items }) _ within c.args.copies.now.count old (rw (← c.self.view_is) at c.requires)

pub returns-then-is_in-clause-table : goal.returns-then-is_in-clause-table
returns-then-is_in-clause-table g c =
    let xs = c.deref_mut.result.now in
    let r = c.self.inside.replaced in
    let items = c.self.inside.entries.items in
    let within : is_in c.args.which.now.table c.args.table ≡ true = sym c.is_in.ensures ∙ c.if-is_in.true in
    let old : take (length xs - r) (drop r xs) ≡ drop r items = take_rest xs r ∙ ap (drop r) c.deref_mut.ensures.value in
    let ys = c.modify_all.new.entries in
    let long : length items ≡ c.self.inside.entries.len = omega arith in
    let few : length ys ≡ length (drop r items) = same_length ys (drop r items) (c.modify_all.ensures.rows ∙ ap rows_of old) in
    let both = written_behind xs ys items r c.self.inside.entries.len c.deref_mut.ensures.value long (omega (arith, long, c.self.invariant.2)) (omega (arith, few, length-drop r items, long)) in
    let entries = both.0 ∙ c.modify_all.ensures.entries ∙ ap (modified_entries c.args.which.now c.args.copies.now.instructions c.args.reset) old in
    rw (← c.self.view_is) (changed_is c.args.which.now c.args.table (record { lookups = c.self.inside.lookups; matched = c.self.inside.matched; entries = drop r items }) _ within c.args.copies.now.instructions c.args.reset entries)

pub returns-then-is_in-clause-copies : goal.returns-then-is_in-clause-copies
returns-then-is_in-clause-copies g c =
    let xs = c.deref_mut.result.now in
    let r = c.self.inside.replaced in
    let items = c.self.inside.entries.items in
    let within : is_in c.args.which.now.table c.args.table ≡ true = sym c.is_in.ensures ∙ c.if-is_in.true in
    let old : take (length xs - r) (drop r xs) ≡ drop r items = take_rest xs r ∙ ap (drop r) c.deref_mut.ensures.value in
    rw (← c.self.view_is) (supply_is c.args.which.now c.args.table (record { lookups = c.self.inside.lookups; matched = c.self.inside.matched; entries = drop r items }) _ within c.args.copies.now c.modify_all.new.copies old c.modify_all.ensures.copies)

pub returns-then-is_in-clause-sound : goal.returns-then-is_in-clause-sound
returns-then-is_in-clause-sound g c =
    let xs = c.deref_mut.result.now in
    let r = c.self.inside.replaced in
    let items = c.self.inside.entries.items in
    let within : is_in c.args.which.now.table c.args.table ≡ true = sym c.is_in.ensures ∙ c.if-is_in.true in
    let old : take (length xs - r) (drop r xs) ≡ drop r items = take_rest xs r ∙ ap (drop r) c.deref_mut.ensures.value in
    let ys = c.modify_all.new.entries in
    let long : length items ≡ c.self.inside.entries.len = omega arith in
    let few : length ys ≡ length (drop r items) = same_length ys (drop r items) (c.modify_all.ensures.rows ∙ ap rows_of old) in
    let both = written_behind xs ys items r c.self.inside.entries.len c.deref_mut.ensures.value long (omega (arith, long, c.self.invariant.2)) (omega (arith, few, length-drop r items, long)) in
    rw (← c.self.view_is) (λ fit goes s. subst (λ (es : List Entry). AreSoundEntries c.args.table (flows_of es)) (sym both.0)
    (c.modify_all.ensures.sound c.args.table (fit within) goes (subst (λ (es : List Entry). AreSoundEntries c.args.table (flows_of es)) (sym old) s)))

pub returns-else-is_in-clause-table : goal.returns-else-is_in-clause-table
returns-else-is_in-clause-table g c = stays_as c.args.which.now c.args.table c.args.self.now (sym c.is_in.ensures ∙ c.if-is_in.false) c.args.copies.now.instructions c.args.reset

pub returns-else-is_in-clause-copies : goal.returns-else-is_in-clause-copies
returns-else-is_in-clause-copies g c = supply_stays c.args.which.now c.args.table c.args.self.now (sym c.is_in.ensures ∙ c.if-is_in.false) c.args.copies.now

pub returns-else-is_in-clause-sound : goal.returns-else-is_in-clause-sound
returns-else-is_in-clause-sound g c = λ fit goes s. s
