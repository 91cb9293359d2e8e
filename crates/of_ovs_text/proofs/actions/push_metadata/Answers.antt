use Rattle.std.{specs.Prelude.codes, proofs.Common.◌++◌}
use Rattle.of_values.specs.Numbers.{hexadecimal}
use Rattle.of_ovs_text.{specs.Actions.metadata_in_words, proofs.PushLemmas.behind, proofs.PushLemmas.ends}
use Rattle.of_ovs_text.proofs.actions.push_metadata.Goals as goal

pub returns : goal.returns
unfolding metadata_in_words
returns c =
    let first = codes "write_metadata:" in
    let value = hexadecimal 1 c.args.value in
    let out = c.args.out.now.items in
    let two = behind out first value c.extend_from_slice.new.self.items c.push_hexadecimal.new.out.items c.in_ok-extend_from_slice.ensures.items (rw c.from.ensures at c.in_ok-push_hexadecimal.ensures) in
    ends c.push_hexadecimal-2.result out (first ++ value ++ codes "/") (hexadecimal 1 c.args.mask) c.extend_from_slice-2.new.self.items c.push_hexadecimal-2.new.out.items
    (behind out (first ++ value) (codes "/") c.push_hexadecimal.new.out.items c.extend_from_slice-2.new.self.items two c.in_ok-extend_from_slice-2.ensures.items) (rw c.from-2.ensures at c.push_hexadecimal-2.ensures)
