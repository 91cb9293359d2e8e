use Rattle.std.proofs.{Common.◌≡◌, Common.◌∙◌, Common.arith, Common.ap, lemmas.List.length-set}
use Rattle.of_table.{specs.Copies.Supply, specs.Tables.modified_numbered, proofs.CopyLemmas.supply_less, proofs.CopyLemmas.supply_room}
use Rattle.of_table.proofs.{TablesLemmas.each_more, TablesLemmas.each_all, TablesLemmas.wanted_then, TablesLemmas.wanted_part, Soundness.step_sound}
use Rattle.of_table.proofs.each_table.modify_tables.Goals as goal

pub modify-requires : goal.modify-requires
modify-requires g c =
    supply_room c.args.copies.now c.loop-number.copies _ _ _ _ c.loop-number.invariant.copies
    (wanted_then c.args.which.now _ c.loop-number.number c.loop-number.tables c.args.tables.now c.index-tables-number.result c.loop-number-test.true c.loop-number.invariant.changed)
    (wanted_part c.args.which.now _ c.args.tables.now) c.requires.copies

pub loop-number-preserved : goal.loop-number-preserved
loop-number-preserved g c =
    let same : c.loop-number.copies.instructions ≡ c.args.copies.now.instructions = ap (λ (s : Supply). s.instructions) c.loop-number.invariant.copies in
    record {
      changed = each_more (modified_numbered c.args.which.now c.args.copies.now.instructions c.args.reset) c.loop-number.number c.loop-number.tables c.args.tables.now c.modify.new.self c.index-tables-number.result c.loop-number-test.true c.loop-number.invariant.changed
          (rw same at c.modify.ensures.table);
      copies = supply_less c.args.copies.now c.loop-number.copies c.modify.new.copies _ _ _ c.loop-number.invariant.copies c.modify.ensures.copies
          (wanted_then c.args.which.now _ c.loop-number.number c.loop-number.tables c.args.tables.now c.index-tables-number.result c.loop-number-test.true c.loop-number.invariant.changed);
      length = length-set c.loop-number.tables c.loop-number.number c.modify.new.self ∙ c.loop-number.invariant.length;
      sound = λ given goes all. step_sound c.loop-number.number c.loop-number.tables c.modify.new.self _ (omega (arith, c.loop-number-test.true, c.loop-number.invariant.length)) (λ s. c.modify.ensures.sound (λ for. rw same (given c.loop-number.number for)) (rw same goes) s) (c.loop-number.invariant.sound given goes all);
    }

pub overflow_cast-number : goal.overflow_cast-number
overflow_cast-number g c = omega (arith, c.requires.few, c.loop-number-test.true)

pub returns-clause-tables : goal.returns-clause-tables
returns-clause-tables g c =
    c.loop-number.invariant.changed ∙ each_all (modified_numbered c.args.which.now c.args.copies.now.instructions c.args.reset) c.loop-number.number c.args.tables.now c.loop-number-test.false

pub returns-clause-length : goal.returns-clause-length
returns-clause-length g c = c.loop-number.invariant.length

pub returns-clause-sound : goal.returns-clause-sound
returns-clause-sound g c = c.loop-number.invariant.sound
