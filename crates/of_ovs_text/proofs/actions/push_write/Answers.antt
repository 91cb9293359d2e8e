use Rattle.std.{specs.Prelude.codes, proofs.Common.◌++◌}
use Rattle.of_ovs_text.{specs.Actions.actions_in_words_of, specs.Actions.write_in_words, proofs.PushLemmas.behind, proofs.PushLemmas.ends, proofs.PushLemmas.last_part}
use Rattle.of_ovs_text.proofs.actions.push_write.Goals as goal

pub returns : goal.returns
unfolding write_in_words
returns c =
    let first = codes "write_actions(" in
    let actions = actions_in_words_of c.args.actions.now in
    let new = c.extend_from_slice-2.new.self.items in
    ends c.extend_from_slice-2.result c.args.out.now.items (first ++ actions) (codes ")") c.push_actions.new.out.items new
    (behind c.args.out.now.items first actions c.extend_from_slice.new.self.items c.push_actions.new.out.items c.in_ok-extend_from_slice.ensures.items c.in_ok-push_actions.ensures)
    (last_part c.extend_from_slice-2.result c.push_actions.new.out.items (codes ")") new c.extend_from_slice-2.ensures.items)
