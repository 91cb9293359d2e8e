use Rattle.std.proofs.Common.{◌∙◌, ap, length, List, ℕ, Bor}
use Rattle.of_c.{specs.Answers.with_front, proofs.GivingLemmas.printed}
use Rattle.of_c.proofs.replay.ofswitch_replay.Goals as goal

pub returns : goal.returns
returns c =
    printed _ c.args.events.now c.give.new.answer c.args.text.now c.give.new.buffer c.replay-ended.result _ _ c.replay-ended.new.writer.bytes.items _ _ _
    c.replay-ended.ensures.output (ap (λ (b : Bor (List ℕ)). b.now) c.new-source.ensures.reader) c.new-source.ensures.reads.1 c.sink-out.ensures.bytes
    (c.give.ensures.outcome.0 ∙ c.outcome_of.ensures.status) (c.give.ensures.outcome.1 ∙ c.outcome_of.ensures.line)
    (c.give.ensures.length ∙ ap length c.bytes.ensures) (c.give.ensures.buffer ∙ ap (λ (t : List ℕ). with_front t c.args.text.now) c.bytes.ensures)
