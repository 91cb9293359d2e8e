use Rattle.std.proofs.Common.{ℕ, List, ◌++◌, ◌∙◌, ap}
use Rattle.of_explain.{specs.Saying.message_lines, proofs.RequestLemmas.told_more, proofs.RequestLemmas.counts_more, proofs.RequestLemmas.fewer_left, proofs.RequestLemmas.rest_is}
use Rattle.of_explain.proofs.saying.push_messages.Goals as goal

pub loop-size-smaller : goal.loop-size-smaller
loop-size-smaller c = rw c.take.ensures (fewer_left c.in-Message.size c.loop-size.stream c.in-Message.ensures.there.0 c.in-Message.ensures.there.1)

pub loop-size-preserved : goal.loop-size-preserved
loop-size-preserved c =
    let there = c.in-Message.ensures.there in
    let more = c.in_ok-push_message_lines-in-Message.ensures ∙ ap (λ (x : List ℕ). c.loop-size.out.items ++ message_lines x) c.first.ensures in
    rw c.take.ensures (
      told_more message_lines c.in-Message.size c.loop-size.stream c.loop-size.out.items c.push_message_lines.new.out.items _ there.0 there.1 c.in-Message.ensures.front more c.loop-size.invariant.0,
      counts_more c.in-Message.size c.loop-size.stream _ there.0 there.1 c.in-Message.ensures.front c.loop-size.invariant.1,
    )

pub returns-in-Malformed : goal.returns-in-Malformed
returns-in-Malformed c =
    let r = rest_is message_lines c.front.result c.loop-size.stream _ c.loop-size.out.items _ c.in-Malformed.is c.front.ensures.front c.loop-size.invariant.0 c.loop-size.invariant.1 in
    record { messages = r.0; rest = r.1; split = r.2; text_is = r.3; left_is = r.4 }
