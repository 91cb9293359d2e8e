use Rattle.std.proofs.Common.{◌≡◌, drop, length, sym, subst, ◌∙◌, arith}
use Rattle.std.proofs.lemmas.List.{length-drop}
use Rattle.of_messages.specs.Written.{IsMessage}
use Rattle.of_statistics.proofs.Sealing.{sealed_is, reply_is_message, written_back}
use Rattle.of_statistics.proofs.replies.sealed.Goals as goal

pub new-requires-2 : goal.new-requires-2
new-requires-2 c =
    let size : c.len.result ≡ length c.args.bytes.items = omega (arith, c.len.ensures, c.args.bytes.ok.0) in
    let whole = c.new.ensures
    ∙ written_back _ c.put_front.new.bytes c.args.bytes.items (c.put_front.ensures.length ∙ c.deref_mut.ensures.len)
    ∙ sealed_is c.args.xid c.args.kind c.args.flags c.len.result c.args.bytes.items c.head_of-head.result _ c.head_of-head.ensures size c.requires.head (rw c.deref_mut.ensures.value at c.put_front.ensures.bytes) in
    subst IsMessage (sym whole) (reply_is_message c.args.xid c.args.kind c.args.flags (drop 16 c.args.bytes.items) (omega (arith, c.requires.short, length-drop 16 c.args.bytes.items)))

pub returns : goal.returns
returns c =
    let size : c.len.result ≡ length c.args.bytes.items = omega (arith, c.len.ensures, c.args.bytes.ok.0) in
    c.new-2.ensures
    ∙ c.new.ensures
    ∙ written_back _ c.put_front.new.bytes c.args.bytes.items (c.put_front.ensures.length ∙ c.deref_mut.ensures.len)
    ∙ sealed_is c.args.xid c.args.kind c.args.flags c.len.result c.args.bytes.items c.head_of-head.result _ c.head_of-head.ensures size c.requires.head (rw c.deref_mut.ensures.value at c.put_front.ensures.bytes)
