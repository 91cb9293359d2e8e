use Rattle.std.proofs.Common.{◌≡◌, ℕ, ◌-◌, ◌<◌, ◌∙◌, List, get_or, length, refl, arith, ap}
use Rattle.std.proofs.lemmas.List.{length-set}
use Rattle.of_actions.specs.declared.instruction.Instruction.{Instruction}
use Rattle.of_wire.proofs.Changing.{changed_more}
use Rattle.of_table.proofs.CopyLemmas.{supply_less, supply_none, supply_room, wanted_now, wanted_some}
use Rattle.of_table.{specs.Entries.on_entry, specs.Selecting.modified_by, specs.Copies.Supply, proofs.ModifyLemmas.rows_kept, proofs.Soundness.step_fit}
use Rattle.of_table.proofs.SpanLemmas.{wanted_none_before, wanted_to_end, same_before, same_behind}
use Rattle.of_table.proofs.modifying.modify_all.Goals as goal

pub loop-place-init : goal.loop-place-init
loop-place-init c = record {
  rows = refl;
  entries = same_before c.args.which.now c.args.copies.now.instructions c.args.reset c.args.entries.now c.args.span.first c.args.span.end c.requires.span;
  copies = supply_none c.args.copies.now _ (wanted_none_before c.args.which.now c.args.entries.now c.args.span.first c.args.span.end c.requires.span);
  length = refl;
  sound = λ k fits goes s. s;
}

pub modify_entry-requires : goal.modify_entry-requires
modify_entry-requires c =
    let within : c.loop-place.place < length c.args.entries.now = omega (arith, c.loop-place-test.true, c.requires.span.within) in
    supply_room c.args.copies.now c.loop-place.copies _ _ _ _ c.loop-place.invariant.copies
    (wanted_now c.args.which.now _ c.args.entries.now c.loop-place.entries c.loop-place.place c.index-entries-place.result within c.loop-place.invariant.entries)
    (wanted_some c.args.which.now c.args.entries.now _) c.requires.copies

pub loop-place-preserved : goal.loop-place-preserved
loop-place-preserved c =
    let within : c.loop-place.place < length c.args.entries.now = omega (arith, c.loop-place-test.true, c.requires.span.within) in
    let same : c.loop-place.copies.instructions ≡ c.args.copies.now.instructions = ap (λ (s : Supply). s.instructions) c.loop-place.invariant.copies in
    record {
      rows = rows_kept c.loop-place.entries c.args.entries.now c.loop-place.place c.modify_entry.new.entry _ within c.loop-place.invariant.rows c.modify_entry.ensures.row;
      entries = changed_more (on_entry (modified_by c.args.which.now c.args.copies.now.instructions c.args.reset)) c.loop-place.place c.args.entries.now c.loop-place.entries c.modify_entry.new.entry c.index-entries-place.result within c.loop-place.invariant.entries
          (c.modify_entry.ensures.entry ∙ ap (λ (is : List Instruction). on_entry (modified_by c.args.which.now is c.args.reset) (get_or c.loop-place.entries c.loop-place.place c.index-entries-place.result)) same);
      copies = supply_less c.args.copies.now c.loop-place.copies c.modify_entry.new.copies _ _ _ c.loop-place.invariant.copies c.modify_entry.ensures.copies
          (wanted_now c.args.which.now _ c.args.entries.now c.loop-place.entries c.loop-place.place c.index-entries-place.result within c.loop-place.invariant.entries);
      length = length-set c.loop-place.entries c.loop-place.place c.modify_entry.new.entry ∙ c.loop-place.invariant.length;
      sound = λ k fits goes s. step_fit k c.loop-place.place c.loop-place.entries c.modify_entry.new.entry _ (omega (arith, within, c.loop-place.invariant.length)) c.modify_entry.ensures.row (c.modify_entry.ensures.fit k (rw same fits)) (c.modify_entry.ensures.checked (rw same goes)) (c.loop-place.invariant.sound k fits goes s);
    }

pub returns-clause-entries : goal.returns-clause-entries
returns-clause-entries c =
    c.loop-place.invariant.entries
    ∙ same_behind c.args.which.now c.args.copies.now.instructions c.args.reset c.args.entries.now c.args.span.first c.args.span.end c.loop-place.place c.requires.span c.loop-place-test.false (omega (arith, c.loop-place.auto.place-end, c.requires.span.order))

pub returns-clause-copies : goal.returns-clause-copies
returns-clause-copies c =
    let all = wanted_to_end c.args.which.now c.args.entries.now c.args.span.first c.args.span.end c.loop-place.place c.requires.span c.loop-place-test.false (omega (arith, c.loop-place.auto.place-end, c.requires.span.order)) in
    c.loop-place.invariant.copies ∙ ap (λ (n : ℕ). record c.args.copies.now { count = c.args.copies.now.count - n }) all
