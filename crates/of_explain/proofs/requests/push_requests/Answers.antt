use Rattle.std.proofs.Common.{ℕ, List, ◌++◌, ◌∙◌, ap}
use Rattle.of_explain.{specs.Requests.request_notes, proofs.RequestLemmas.told_more, proofs.RequestLemmas.fewer_left, proofs.RequestLemmas.done_told}
use Rattle.of_explain.proofs.requests.push_requests.Goals as goal

pub loop-size-smaller : goal.loop-size-smaller
loop-size-smaller c = rw c.take.ensures (fewer_left c.in-Message.size c.loop-size.stream c.in-Message.ensures.there.0 c.in-Message.ensures.there.1)

pub loop-size-preserved : goal.loop-size-preserved
loop-size-preserved c =
    let there = c.in-Message.ensures.there in
    let more = c.in_ok-push_request-in-Message.ensures ∙ ap (λ (x : List ℕ). c.loop-size.out.items ++ request_notes x) c.first.ensures in
    rw c.take.ensures (told_more request_notes c.in-Message.size c.loop-size.stream c.loop-size.out.items c.push_request.new.out.items _ there.0 there.1 c.in-Message.ensures.front more c.loop-size.invariant)

pub returns-in-Malformed : goal.returns-in-Malformed
returns-in-Malformed c = done_told request_notes c.front.result c.loop-size.stream c.loop-size.out.items _ c.in-Malformed.is c.front.ensures.front c.loop-size.invariant
