use Rattle.std.proofs.Common.{◌++◌, ◌∙◌, ap, append_assoc, codes, List, ℕ}
use Rattle.of_explain.specs.{Messages.message_words, Notes.port_and_size}
use Rattle.of_explain.proofs.effects.push_effect.Goals as goal

pub returns-in_ok-push_message-in-Answer : goal.returns-in_ok-push_message-in-Answer
returns-in_ok-push_message-in-Answer c =
    let words = message_words c.as_slice.result.now in
    rw c.in-Answer.is (c.in_ok-push_message-in-Answer.ensures
    ∙ (ap (λ (x : List ℕ). x ++ words) c.in_ok-extend_from_slice-in-Answer.ensures.items
    ∙ (append_assoc c.args.out.now.items (codes "to the controller: ") words
    ∙ ap (λ (x : List ℕ). c.args.out.now.items ++ (codes "to the controller: " ++ message_words x)) c.as_slice.ensures)))

pub returns-in_ok-push_port_and_size-in-Sent : goal.returns-in_ok-push_port_and_size-in-Sent
returns-in_ok-push_port_and_size-in-Sent c =
    rw c.in-Sent.is (c.in_ok-push_port_and_size-in-Sent.ensures
    ∙ ap (λ (x : List ℕ). c.args.out.now.items ++ port_and_size (codes "sent out of port") c.in-Sent.port x) c.as_slice-in-Sent.ensures)

pub returns-in_ok-extend_from_slice-in-Closed : goal.returns-in_ok-extend_from_slice-in-Closed
returns-in_ok-extend_from_slice-in-Closed c = rw c.in-Closed.is c.in_ok-extend_from_slice-in-Closed.ensures.items
