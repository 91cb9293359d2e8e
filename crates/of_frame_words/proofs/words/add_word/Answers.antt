use Rattle.std.proofs.Common.{◌∙◌, sym, subst}
use Rattle.of_ovs_words.specs.{declared.stop.Stop.Stop, Stops.Stops}
use Rattle.of_frame_words.{specs.Said.word_said, proofs.WordLemmas.masked_stop, proofs.WordLemmas.refused_stop, proofs.WordLemmas.word_added}
use Rattle.of_frame_words.proofs.words.add_word.Goals as goal

pub returns-then-has_mask_amiss-clause-stopped : goal.returns-then-has_mask_amiss-clause-stopped
returns-then-has_mask_amiss-clause-stopped c = masked_stop c.args.masks c.args.settings.now.items c.args.word.now c.refuse.result (sym c.has_mask_amiss.ensures ∙ c.if-has_mask_amiss.true) c.refuse.ensures

pub returns-in-Ok-clause-added : goal.returns-in-Ok-clause-added
returns-in-Ok-clause-added c = word_added c.args.masks c.args.settings.now.items c.add_said.new.settings.items c.args.word.now (sym c.has_mask_amiss.ensures ∙ c.if-has_mask_amiss.false) c.in-Ok.ensures.added

pub returns-in-Err-Refused-clause-stopped : goal.returns-in-Err-Refused-clause-stopped
returns-in-Err-Refused-clause-stopped c =
    refused_stop c.args.masks c.args.settings.now.items c.args.word.now c.in-Err-Refused.why c.refuse-in-Err-Refused.result (sym c.has_mask_amiss.ensures ∙ c.if-has_mask_amiss.false) (subst (λ (stop : Stop). Stops (word_said c.args.settings.now.items c.args.word.now) stop) c.in-Err-Refused.field-0-is c.in-Err-Refused.ensures.stopped) c.refuse-in-Err-Refused.ensures
