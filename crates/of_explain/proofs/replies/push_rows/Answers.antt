use Rattle.std.proofs.Common.{ℕ, List, ◌++◌, ◌∙◌, ap, sym}
use Rattle.of_explain.{specs.Replies.reply_row, proofs.ReplyLemmas.printed_more, proofs.ReplyLemmas.printed_all, proofs.ReplyLemmas.fewer_bytes}
use Rattle.of_explain.proofs.replies.push_rows.Goals as goal

pub loop-size-smaller : goal.loop-size-smaller
loop-size-smaller c = rw c.rest_from-rest.ensures (fewer_bytes c.in-Some.size c.loop-size.rest.now c.in-Some.ensures.within.0 c.in-Some.ensures.within.1)

pub loop-size-preserved : goal.loop-size-preserved
loop-size-preserved c =
    let w = c.in-Some.ensures.within in
    let more = c.in_ok-push_row.ensures ∙ ap (λ (x : List ℕ). c.loop-size.out.items ++ reply_row c.args.kind x) c.front_of.ensures in
    rw c.rest_from-rest.ensures (printed_more c.args.kind c.in-Some.size c.loop-size.rest.now c.loop-size.out.items c.push_row.new.out.items _ (sym c.in-Some.ensures.front) w.0 w.1 more c.loop-size.invariant)

pub returns : goal.returns
returns c = printed_all c.args.kind c.loop-size.rest.now c.loop-size.out.items _ (sym c.in_default.ensures.front) c.loop-size.invariant
