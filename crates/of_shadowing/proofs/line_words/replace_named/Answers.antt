use Rattle.of_shadowing.proofs.ListingLemmas.{replaced}
use Rattle.of_shadowing.proofs.line_words.replace_named.Goals as goal

pub returns : goal.returns
returns c = replaced c.args.words.now.items c.remove_named.new.words.items c.push.new.self.items c.in_ok-copy.copy c.args.word.now c.remove_named.ensures c.in_ok-push.ensures.items (c.in_ok-copy.ensures.items_if_clones_equal (λ x y e. e))
