use Rattle.std.proofs.{lemmas.Result.IfOk-weaker, Common.◌∙◌, Common.ap}
use Rattle.of_headers.specs.FieldMap.{value}
use Rattle.of_frames.{specs.Given.or_zero, specs.Packets.frame_given, proofs.FrameLemmas.made, proofs.KeyLemmas.numbers_are}
use Rattle.of_frames.proofs.frame.frame_of.Goals as goal

pub returns-clause-bytes : goal.returns-clause-bytes
returns-clause-bytes c = IfOk-weaker c.frame_with.result _ _ (λ frame e. (made c.args.shape c.args.tagging (or_zero (value c.args.fields.now)) frame.items (e ∙ ap (frame_given c.args.shape c.args.tagging) (numbers_are c.args.fields.now))).bytes) c.frame_with.ensures

pub returns-clause-frame : goal.returns-clause-frame
returns-clause-frame c = IfOk-weaker c.frame_with.result _ _ (λ frame e. (made c.args.shape c.args.tagging (or_zero (value c.args.fields.now)) frame.items (e ∙ ap (frame_given c.args.shape c.args.tagging) (numbers_are c.args.fields.now))).frame) c.frame_with.ensures

pub returns-clause-size : goal.returns-clause-size
returns-clause-size c = IfOk-weaker c.frame_with.result _ _ (λ frame e. (made c.args.shape c.args.tagging (or_zero (value c.args.fields.now)) frame.items (e ∙ ap (frame_given c.args.shape c.args.tagging) (numbers_are c.args.fields.now))).size) c.frame_with.ensures

pub returns-clause-layers : goal.returns-clause-layers
returns-clause-layers c = IfOk-weaker c.frame_with.result _ _ (λ frame e. (made c.args.shape c.args.tagging (or_zero (value c.args.fields.now)) frame.items (e ∙ ap (frame_given c.args.shape c.args.tagging) (numbers_are c.args.fields.now))).layers) c.frame_with.ensures

pub returns-clause-fields : goal.returns-clause-fields
returns-clause-fields c = IfOk-weaker c.frame_with.result _ _ (λ frame e. (made c.args.shape c.args.tagging (or_zero (value c.args.fields.now)) frame.items (e ∙ ap (frame_given c.args.shape c.args.tagging) (numbers_are c.args.fields.now))).fields) c.frame_with.ensures
