use Rattle.std.proofs.{Common.◌≡◌, Common.length, Common.arith, lemmas.List.take_rest}
use Rattle.of_table.specs.Entries.{flows_of}
use Rattle.of_alike.proofs.ChangedLemmas.{marked_more, none_marked, pointed}
use Rattle.of_alike.proofs.tables.changed_among.Goals as goal

pub loop-next-init : goal.loop-next-init
loop-next-init c = rw (c.none-changed.ensures.0, c.none-changed.ensures.1) (none_marked (flows_of (pointed c.args.a.now)) (flows_of (pointed c.args.b.now)))

pub loop-next-preserved : goal.loop-next-preserved
loop-next-preserved c =
    let first : c.len.result ≡ length c.loop-next.changed.a.items = omega arith in
    let second : c.len-in-loop-next.result ≡ length c.loop-next.changed.b.items = omega arith in
    let move = c.in-Some.ensures.some in
    marked_more c.args.a.now c.args.b.now c.loop-next.changed.a.items c.loop-next.changed.b.items c.mark.new.self.a.items c.mark.new.self.b.items c.in-Some.next c.loop-next.invariant (rw (first, second, take_rest c.args.a.now (length c.loop-next.changed.a.items), take_rest c.args.b.now (length c.loop-next.changed.b.items)) at move) c.in_ok-mark.ensures.a c.in_ok-mark.ensures.b
