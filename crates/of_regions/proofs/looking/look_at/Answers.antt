use Rattle.std.proofs.Common.{◌≡◌, ◌+◌, [], get_or, Some, sym, subst, ◌∙◌}
use Rattle.std.{specs.Prelude.slice_get, proofs.lemmas.Option.slice_get-get_or}
use Rattle.of_regions.proofs.LookLemmas.{IsSplitSoFar, crossed_on, condition_in, or_is, passed_on}
use Rattle.of_regions.specs.{declared.meeting.Meeting.TheVariants.Apart, declared.meeting.Meeting.TheVariants.Crosses, declared.rival.Rival.Rival, Meeting.Meets}
use Rattle.of_regions.{proofs.SearchLemmas.contains_at, proofs.looking.look_at.Goals.in-Apart, proofs.looking.look_at.Goals.in-Crosses}
use Rattle.of_regions.proofs.looking.look_at.Goals as goal

pub loop-index-preserved : goal.loop-index-preserved
loop-index-preserved c =
    let rivals = c.args.rivals.now in
    let r = c.args.rest.now.region in
    let i = c.loop-index.index in
    let d : Rival = record { name = 0; fields = record { ref_ptr = (0, 0); now = [] } } in
    let q = get_or rivals i d in
    let there : slice_get rivals i ≡ Some q = slice_get-get_or rivals i d c.loop-index-test.true in
    elim c.match-meet.branch as (λ w. IsSplitSoFar rivals r (i + 1) c.match-meet.split) [
      | in-Apart w ↦ (
          let apart : Meets r q.fields.now Apart = w.in-Apart.ensures in
          subst (IsSplitSoFar rivals r (i + 1)) (sym w.split-is) (passed_on rivals r i c.loop-index.split q there apart c.loop-index.invariant))
      | in-Crosses w ↦ (
          let crosses : Meets r q.fields.now (Crosses w.in-Crosses.e) = w.in-Crosses.ensures in
          subst (IsSplitSoFar rivals r (i + 1)) (sym w.split-is) (crossed_on rivals r i c.loop-index.split q w.in-Crosses.e there crosses (condition_in q.fields.now w.in-Crosses.e (c.requires.conditions q (contains_at rivals i q there)) crosses.0) c.loop-index.invariant w.or-split.result (w.or-split.ensures ∙ or_is c.loop-index.split (i, w.in-Crosses.e))))
    ]

pub returns-in-Whole : goal.returns-in-Whole
returns-in-Whole c =
    let rivals = c.args.rivals.now in
    let i = c.loop-index.index in
    let d : Rival = record { name = 0; fields = record { ref_ptr = (0, 0); now = [] } } in
    record { rival = get_or rivals i d; there = slice_get-get_or rivals i d c.loop-index-test.true; whole = c.in-Whole.ensures }
