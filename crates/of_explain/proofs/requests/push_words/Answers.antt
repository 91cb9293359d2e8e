use Rattle.std.proofs.Common.{codes}
use Rattle.of_explain.{specs.Messages.message_words, specs.Requests.said_words, proofs.RequestLemmas.words_behind}
use Rattle.of_explain.proofs.requests.push_words.Goals as goal

pub returns : goal.returns
unfolding said_words
returns c = words_behind c.push_message.result c.args.out.now.items c.extend_from_slice.new.self.items c.push_message.new.out.items (codes "from the controller: ") (message_words c.args.message.now) c.in_ok-extend_from_slice.ensures.items c.push_message.ensures
