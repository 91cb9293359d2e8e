use Rattle.std.proofs.Common.{◌≡◌, ◌∙◌, Bool, false, sym, true, refl}
use Rattle.std.specs.{Prelude.not, List.list_any}
use Rattle.of_datapath.specs.{Datapath.world_of, Numbers.forwarding_of}
use Rattle.of_symbolic_run.{specs.FrameSets.is_about_metadata, proofs.ReceivedLemmas.fewer_received, proofs.MetadataLemmas.same_conditions}
use Rattle.of_paths.proofs.dividing.first_case.Goals as goal
use Rattle.of_paths.proofs.dividing.first_case.Goals.{then-pops_tags, else-pops_tags}

is_not : (b : Bool) → not b ≡ true → b ≡ false
is_not true h = absurd cc
is_not false h = refl

pub returns-clause-within : goal.returns-clause-within
returns-clause-within g c =
    let told : c.in_ok-frames.frames.inner ≡ true → list_any is_about_metadata c.args.within.now ≡ false =
    elim c.if-pops_tags.branch [
      | then-pops_tags w ↦ (λ e. (let yes_none : not w.any_about_metadata.result ≡ true = sym w.inner-is ∙ sym c.in_ok-frames.ensures.inner ∙ e in sym w.any_about_metadata.ensures ∙ is_not w.any_about_metadata.result yes_none))
      | else-pops_tags w ↦ (λ e. absurd (let odd : false ≡ true = sym w.if-pops_tags.false ∙ sym w.inner-is ∙ sym c.in_ok-frames.ensures.inner ∙ e in cc))
    ] in
    record {
      matched = λ frame port h. (let within = c.in_ok-matching.ensures.within frame port h in sym (same_conditions c.in_ok-frames.frames.inner c.args.within.now frame port told) ∙ within.1);
      received = fewer_received (world_of (forwarding_of c.args.datapath.now)).ports c.in_ok-frames.frames _ (λ frame port h. (c.in_ok-matching.ensures.within frame port h).0) c.in_ok-frames.ensures.received;
    }

pub returns-clause-all : goal.returns-clause-all
returns-clause-all g c =
    let told : c.in_ok-frames.frames.inner ≡ true → list_any is_about_metadata c.args.within.now ≡ false =
    elim c.if-pops_tags.branch [
      | then-pops_tags w ↦ (λ e. (let yes_none : not w.any_about_metadata.result ≡ true = sym w.inner-is ∙ sym c.in_ok-frames.ensures.inner ∙ e in sym w.any_about_metadata.ensures ∙ is_not w.any_about_metadata.result yes_none))
      | else-pops_tags w ↦ (λ e. absurd (let odd : false ≡ true = sym w.if-pops_tags.false ∙ sym w.inner-is ∙ sym c.in_ok-frames.ensures.inner ∙ e in cc))
    ] in
    λ frame port received matched. c.in_ok-matching.ensures.all frame port received.frame_is (c.in_ok-frames.ensures.all frame port received) (same_conditions c.in_ok-frames.frames.inner c.args.within.now frame port told ∙ matched)
