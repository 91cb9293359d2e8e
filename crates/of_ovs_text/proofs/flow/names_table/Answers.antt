use Rattle.of_ovs_text.{specs.MessageFlows.has_table_word, proofs.WordLemmas.no_table, proofs.WordLemmas.table_here, proofs.WordLemmas.table_later}
use Rattle.of_ovs_words.proofs.WordLemmas.{no_bytes, some_bytes}
use Rattle.std.proofs.Common.{◌∙◌, sym}
use Rattle.of_ovs_text.proofs.flow.names_table.Goals as goal

pub returns-then-is : goal.returns-then-is
returns-then-is c = table_here (has_table_word c.args.words.now) c.loop-rest.rest.now c.cut_word.result.0.now c.name_of.result.now c.is.result c.loop-rest.invariant
    (some_bytes c.loop-rest.rest.now c.is_empty.result c.is_empty.ensures c.loop-rest-test.true) c.cut_word.ensures.first c.name_of.ensures c.is.ensures c.if-is.true

pub loop-rest-preserved : goal.loop-rest-preserved
loop-rest-preserved c = table_later (has_table_word c.args.words.now) c.loop-rest.rest.now c.cut_word.result.0.now c.cut_word.result.1.now c.name_of.result.now c.is.result c.loop-rest.invariant
    (some_bytes c.loop-rest.rest.now c.is_empty.result c.is_empty.ensures c.loop-rest-test.true) c.cut_word.ensures.first c.cut_word.ensures.rest c.name_of.ensures c.is.ensures c.if-is.false

pub returns : goal.returns
returns c = sym (c.loop-rest.invariant ∙ no_table c.loop-rest.rest.now (no_bytes c.loop-rest.rest.now c.is_empty.result c.is_empty.ensures c.loop-rest-test.false))
