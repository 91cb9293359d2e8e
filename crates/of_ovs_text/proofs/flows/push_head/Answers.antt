use Rattle.std.{specs.Prelude.codes, specs.Prelude.decimal, proofs.Common.◌++◌}
use Rattle.of_ovs_text.specs.{Parts.number_part, Parts.unless_default, Flows.cookie_part, Flows.flags_part, Flows.flow_head_words}
use Rattle.of_ovs_text.proofs.PushLemmas.{behind, ends}
use Rattle.of_ovs_text.proofs.flows.push_head.Goals as goal

pub returns : goal.returns
unfolding flow_head_words
returns c =
    let h = c.args.head in
    let out = c.args.out.now.items in
    let one = cookie_part h.cookie in
    let two = one ++ number_part (codes "table=") h.table in
    let three = two ++ unless_default (codes "idle_timeout=") 0 h.idle in
    let four = three ++ unless_default (codes "hard_timeout=") 0 h.hard in
    let to_two = behind out one (number_part (codes "table=") h.table) c.push_cookie.new.out.items c.push_part.new.out.items c.in_ok-push_cookie.ensures (rw c.from.ensures at c.in_ok-push_part.ensures) in
    let to_three = behind out two (unless_default (codes "idle_timeout=") 0 h.idle) c.push_part.new.out.items c.push_unless.new.out.items to_two (rw c.from-2.ensures at c.in_ok-push_unless.ensures) in
    let to_four = behind out three (unless_default (codes "hard_timeout=") 0 h.hard) c.push_unless.new.out.items c.push_unless-2.new.out.items to_three (rw c.from-3.ensures at c.in_ok-push_unless-2.ensures) in
    let to_five = behind out four (flags_part h.flags) c.push_unless-2.new.out.items c.push_flags.new.out.items to_four c.in_ok-push_flags.ensures in
    ends c.push_named.result out (four ++ flags_part h.flags) (codes "priority=" ++ decimal h.priority) c.push_flags.new.out.items c.push_named.new.out.items to_five (rw c.from-4.ensures at c.push_named.ensures)
