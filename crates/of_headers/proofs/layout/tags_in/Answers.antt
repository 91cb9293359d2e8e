use Rattle.std.proofs.Common.{arith, ◌≡◌, true, false}
use Rattle.of_layers.{specs.Reading.is_tag_type, specs.Reading.word, proofs.TagLemmas.tag_count_more, proofs.TagLemmas.tag_count_none, proofs.TagLemmas.tag_count_short}
use Rattle.of_headers.proofs.layout.tags_in.Goals as goal

pub loop-at-preserved : goal.loop-at-preserved
loop-at-preserved c =
    let tag : is_tag_type (word c.args.frame.now c.loop-at.at) ≡ true = cc in
    record { at = omega arith; room = omega arith; all = omega (arith, tag_count_more c.args.frame.now c.loop-at.at (omega arith) tag) }

pub returns-after-loop-at-clause-count : goal.returns-after-loop-at-clause-count
returns-after-loop-at-clause-count c = omega (arith, tag_count_short c.args.frame.now c.loop-at.at (omega arith))

pub returns-else-is_tag-clause-count : goal.returns-else-is_tag-clause-count
returns-else-is_tag-clause-count c =
    let tag : is_tag_type (word c.args.frame.now c.loop-at.at) ≡ false = cc in
    omega (arith, tag_count_none c.args.frame.now c.loop-at.at tag)
