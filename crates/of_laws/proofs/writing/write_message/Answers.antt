use Rattle.std.proofs.Common.{◌≡◌, false, sym, ◌∙◌}
use Rattle.of_laws.{specs.Grammar.Encodes, specs.Sound.is_sound, proofs.Found.found, proofs.Only.only, proofs.Only.xid_is, proofs.Unencoded.not_encoded, proofs.Written.is_one_message}
use Rattle.of_messages.specs.Messages.{xid_of}
use Rattle.of_laws.proofs.writing.write_message.Goals as goal

pub returns-then-not-is_sound-clause-not_encoded : goal.returns-then-not-is_sound-clause-not_encoded
returns-then-not-is_sound-clause-not_encoded c =
    let not_sound : is_sound c.args.message.now ≡ false = sym c.is_sound.ensures ∙ c.if-not-is_sound.true in
    λ e. not_encoded c.args.message.now not_sound

pub returns-then-not-is_sound-clause-read_is_written : goal.returns-then-not-is_sound-clause-read_is_written
returns-then-not-is_sound-clause-read_is_written c =
    let m = c.args.message.now in
    let not_sound : is_sound m ≡ false = sym c.is_sound.ensures ∙ c.if-not-is_sound.true in
    λ e bytes are read. not_encoded m not_sound (xid_of bytes) bytes (found bytes m are read)

pub new-requires : goal.new-requires
new-requires c = is_one_message c.args.message.now c.args.xid c.in_ok-bytes.bytes c.in_ok-bytes.ensures

pub returns-clause-read_again : goal.returns-clause-read_again
returns-clause-read_again c =
    let m = c.args.message.now in
    let encoded : Encodes c.args.xid m c.new.result = rw c.new.ensures c.in_ok-bytes.ensures.encoded in
    (only c.args.xid m c.new.result encoded, sym (xid_is c.args.xid m c.new.result encoded))
