use Rattle.std.proofs.Common.{◌≡◌, ℕ, ◌+◌, ◌≤◌, true, List, ◌++◌, length, refl, ap, ◌∙◌, arith}
use Rattle.of_messages.specs.declared.message.Message.TheVariants.{Hello, Error, EchoRequest, EchoReply, FeaturesRequest, GetConfigRequest, BarrierRequest, GetAsyncRequest}
use Rattle.of_messages.specs.Written.{message_header}
use Rattle.of_laws.{specs.Sound.is_sound, proofs.WrittenLarge.within, proofs.Written.Parts, proofs.Written.if_ok, proofs.Written.whole_written}
use Rattle.of_laws.proofs.writing.write_sound.Goals as goal

pub returns-in-Hello : goal.returns-in-Hello
returns-in-Hello c =
    let parts : Parts Hello c.args.xid 0 = record { total = refl; short = omega arith; xid_fits = omega arith; fits = tt; behind = tt; valid = tt } in
    rw c.in-Hello.is (if_ok _ _ c.write_with.result c.write_with.ensures (λ bytes is. whole_written Hello c.args.xid 0 bytes is parts))

pub returns-in-Error : goal.returns-in-Error
returns-in-Error c =
    let parts : Parts Error c.args.xid 4 = record { total = refl; short = omega arith; xid_fits = omega arith; fits = tt; behind = tt; valid = tt } in
    rw c.in-Error.is (if_ok _ _ c.write_with-in-Error.result c.write_with-in-Error.ensures (λ bytes is. whole_written Error c.args.xid 4 bytes is parts))

pub returns-in-EchoReply : goal.returns-in-EchoReply
returns-in-EchoReply c =
    let parts : Parts EchoReply c.args.xid 0 = record { total = refl; short = omega arith; xid_fits = omega arith; fits = tt; behind = tt; valid = tt } in
    rw c.in-EchoReply.is (if_ok _ _ c.write_with-in-EchoReply.result c.write_with-in-EchoReply.ensures (λ bytes is. whole_written EchoReply c.args.xid 0 bytes is parts))

pub returns-in-FeaturesRequest : goal.returns-in-FeaturesRequest
returns-in-FeaturesRequest c =
    let parts : Parts FeaturesRequest c.args.xid 0 = record { total = refl; short = omega arith; xid_fits = omega arith; fits = tt; behind = refl; valid = tt } in
    rw c.in-FeaturesRequest.is (if_ok _ _ c.write_with-in-FeaturesRequest.result c.write_with-in-FeaturesRequest.ensures (λ bytes is. whole_written FeaturesRequest c.args.xid 0 bytes is parts))

pub returns-in-GetConfigRequest : goal.returns-in-GetConfigRequest
returns-in-GetConfigRequest c =
    let parts : Parts GetConfigRequest c.args.xid 0 = record { total = refl; short = omega arith; xid_fits = omega arith; fits = tt; behind = refl; valid = tt } in
    rw c.in-GetConfigRequest.is (if_ok _ _ c.write_with-in-GetConfigRequest.result c.write_with-in-GetConfigRequest.ensures (λ bytes is. whole_written GetConfigRequest c.args.xid 0 bytes is parts))

pub returns-in-BarrierRequest : goal.returns-in-BarrierRequest
returns-in-BarrierRequest c =
    let parts : Parts BarrierRequest c.args.xid 0 = record { total = refl; short = omega arith; xid_fits = omega arith; fits = tt; behind = refl; valid = tt } in
    rw c.in-BarrierRequest.is (if_ok _ _ c.write_with-in-BarrierRequest.result c.write_with-in-BarrierRequest.ensures (λ bytes is. whole_written BarrierRequest c.args.xid 0 bytes is parts))

pub returns-in-GetAsyncRequest : goal.returns-in-GetAsyncRequest
returns-in-GetAsyncRequest c =
    let parts : Parts GetAsyncRequest c.args.xid 0 = record { total = refl; short = omega arith; xid_fits = omega arith; fits = tt; behind = refl; valid = tt } in
    rw c.in-GetAsyncRequest.is (if_ok _ _ c.write_with-in-GetAsyncRequest.result c.write_with-in-GetAsyncRequest.ensures (λ bytes is. whole_written GetAsyncRequest c.args.xid 0 bytes is parts))

pub returns-in-EchoRequest : goal.returns-in-EchoRequest
returns-in-EchoRequest c =
    let echoed = c.in-EchoRequest.echoed in
    let sound : is_sound (EchoRequest echoed) ≡ true = rw c.in-EchoRequest.is at c.requires in
    let short : length echoed ≤ 65527 = within (length echoed) 65527 sound in
    let parts : Parts (EchoRequest echoed) c.args.xid (length echoed) = record { total = omega arith; short = short; xid_fits = omega arith; fits = tt; behind = refl; valid = tt } in
    let text = c.write_with-in-EchoRequest.ensures in
    rw c.in-EchoRequest.is (if_ok _ _ c.write_with-in-EchoRequest.result text (λ bytes is.
    whole_written (EchoRequest echoed) c.args.xid (length echoed) bytes (is ∙ ap (λ (b : List ℕ). message_header 2 (8 + length b) c.args.xid ++ b) c.as_slice.ensures) parts))
