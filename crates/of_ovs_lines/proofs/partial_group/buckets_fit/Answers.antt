use Rattle.std.proofs.Common.{◌∙◌, sym}
use Rattle.of_text.specs.Views.{view_bucket}
use Rattle.of_ovs_lines.{specs.PartialGroups.bucket_fits, proofs.SoundLemmas.mapped_tests}
use Rattle.of_ovs_lines.proofs.partial_group.buckets_fit.Goals as goal

pub returns : goal.returns
returns c = c.each_fits.ensures ∙ sym (mapped_tests bucket_fits view_bucket c.args.buckets.now)
