-- PORT_STATUS, part by part.
use Rattle.std.proofs.Common.{◌≡◌, ℕ, List, [], ◌++◌, ◌∷◌, ◌+◌, length, ◌∙◌, append_assoc, refl, arith}
use Rattle.std.{specs.Prelude.replicate, proofs.lemmas.List.length-append}
use Rattle.of_messages.specs.Written.{message_header, port_names, port_bits, port_bytes, port_status_bytes, status_number, IsMessage}
use Rattle.of_messages.{specs.declared.port_mod.PortDescription.PortDescription, specs.declared.port_mod.PortStatusReason.PortStatusReason, proofs.Lengths.is_message}

pub length_bits : (p : PortDescription) → length (port_bits p) ≡ 32
unfolding port_bits
length_bits p = refl

pub length_port : (p : PortDescription) → length (port_names p) ≡ 32 → length (port_bytes p) ≡ 64
length_port p names = omega (arith, names, length_bits p, length-append (port_names p) (port_bits p))

pub length_body : (reason : PortStatusReason) (p : PortDescription) → length (port_names p) ≡ 32 → length ((status_number reason ∷ replicate 7 0) ++ port_bytes p) ≡ 72
length_body reason p names = omega (arith, names, length_bits p, length-append (port_names p) (port_bits p))

pub port_status_is : (xid : ℕ) (reason : PortStatusReason) (p : PortDescription) {s1 s2 s3 : List ℕ} (s0 s4 : List ℕ) → length (port_names p) ≡ 32
    → s0 ≡ [] → s1 ≡ s0 ++ message_header 12 80 xid → s2 ≡ s1 ++ (status_number reason ∷ replicate 7 0) → s3 ≡ s2 ++ port_names p → s4 ≡ s3 ++ port_bits p
    → s4 ≡ port_status_bytes xid reason p
port_status_is xid reason p s0 s4 names e0 e1 e2 e3 e4 =
    let whole : s4 ≡ (((([] ++ message_header 12 80 xid) ++ (status_number reason ∷ replicate 7 0)) ++ port_names p) ++ port_bits p) = cc in
    let parts : s4 ≡ message_header 12 80 xid ++ ((status_number reason ∷ replicate 7 0) ++ port_bytes p) = whole ∙ simp append_assoc in
    let total : 80 ≡ 8 + length ((status_number reason ∷ replicate 7 0) ++ port_bytes p) = omega (arith, length_body reason p names) in
    rw (← total) parts

pub port_status_is_message : (xid : ℕ) (reason : PortStatusReason) (p : PortDescription) → length (port_names p) ≡ 32 → IsMessage (port_status_bytes xid reason p)
port_status_is_message xid reason p names = is_message 12 xid ((status_number reason ∷ replicate 7 0) ++ port_bytes p) (omega (arith, length_body reason p names))
