use Rattle.std.proofs.Common.{◌≡◌, ◌∙◌, sym, subst}
use Rattle.of_messages.{specs.Written.IsMessage, specs.Written.features_reply_bytes, proofs.Lengths.features_reply_is, proofs.Lengths.features_reply_is_message}
use Rattle.of_messages.proofs.features.write_features_reply.Goals as goal

pub new-requires-2 : goal.new-requires-2
new-requires-2 c =
    let whole : c.new.result ≡ features_reply_bytes c.args.xid c.args.dpid =
    c.new.ensures ∙ features_reply_is c.args.xid c.args.dpid c.in_ok-out.out.items _ c.in_ok-out.ensures.items c.in_ok-put_header.ensures c.in_ok-put_features.ensures in
    subst IsMessage (sym whole) (features_reply_is_message c.args.xid c.args.dpid)
