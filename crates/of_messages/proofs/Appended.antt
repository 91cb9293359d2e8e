-- Bytes that are written one part after the other.
use Rattle.std.proofs.Common.{◌≡◌, ℕ, List, [], ◌++◌, ◌∷◌, ◌+◌, length, refl, ◌∙◌, append_assoc, arith}
use Rattle.std.{specs.Prelude.Result, specs.Prelude.Ok, specs.Prelude.Err, specs.Prelude.OnOk, proofs.lemmas.List.length-append}
use Rattle.of_messages.specs.Written.{flow_removed_fixed_part, packet_in_fixed_part, flow_mod_fixed_part, message_header, message}
use Rattle.of_messages.specs.{declared.message.FlowRemoved.FlowRemoved, declared.message.PacketIn.PacketIn, declared.message.FlowMod.FlowMod}

pub length_front : (removed : FlowRemoved) → length (flow_removed_fixed_part removed) ≡ 40
unfolding flow_removed_fixed_part
length_front removed = refl

-- nine parts, the last of which may fail
pub nine_parts : {A E : Type 0} {s1 s2 s3 s4 s5 s6 s7 s8 : List ℕ} (r : Result A E) (s0 s9 a b c d e f g h i : List ℕ)
    → s1 ≡ s0 ++ a → s2 ≡ s1 ++ b → s3 ≡ s2 ++ c → s4 ≡ s3 ++ d → s5 ≡ s4 ++ e → s6 ≡ s5 ++ f → s7 ≡ s6 ++ g → s8 ≡ s7 ++ h
    → OnOk r (s9 ≡ s8 ++ i)
    → OnOk r (s9 ≡ s0 ++ (a ++ (b ++ (c ++ (d ++ (e ++ (f ++ (g ++ (h ++ i)))))))))
nine_parts (Err x) s0 s9 a b c d e f g h i e1 e2 e3 e4 e5 e6 e7 e8 last = last
nine_parts (Ok x) s0 s9 a b c d e f g h i e1 e2 e3 e4 e5 e6 e7 e8 last =
    let whole : s9 ≡ ((((((((s0 ++ a) ++ b) ++ c) ++ d) ++ e) ++ f) ++ g) ++ h) ++ i = cc in
    whole ∙ simp append_assoc

-- the same of fewer parts
pub three_parts : {A E : Type 0} {s1 s2 : List ℕ} (r : Result A E) (s0 s3 a b c : List ℕ) → s1 ≡ s0 ++ a → s2 ≡ s1 ++ b → OnOk r (s3 ≡ s2 ++ c) → OnOk r (s3 ≡ s0 ++ (a ++ (b ++ c)))
three_parts (Err x) s0 s3 a b c e1 e2 last = last
three_parts (Ok x) s0 s3 a b c e1 e2 last = let whole : s3 ≡ ((s0 ++ a) ++ b) ++ c = cc in whole ∙ simp append_assoc

pub four_parts : {A E : Type 0} {s1 s2 s3 : List ℕ} (r : Result A E) (s0 s4 a b c d : List ℕ) → s1 ≡ s0 ++ a → s2 ≡ s1 ++ b → s3 ≡ s2 ++ c → OnOk r (s4 ≡ s3 ++ d) → OnOk r (s4 ≡ s0 ++ (a ++ (b ++ (c ++ d))))
four_parts (Err x) s0 s4 a b c d e1 e2 e3 last = last
four_parts (Ok x) s0 s4 a b c d e1 e2 e3 last = let whole : s4 ≡ (((s0 ++ a) ++ b) ++ c) ++ d = cc in whole ∙ simp append_assoc

pub five_parts : {s1 s2 s3 s4 : List ℕ} (s0 s5 a b c d e : List ℕ) → s0 ≡ [] → s1 ≡ s0 ++ a → s2 ≡ s1 ++ b → s3 ≡ s2 ++ c → s4 ≡ s3 ++ d → s5 ≡ s4 ++ e → s5 ≡ a ++ (b ++ (c ++ (d ++ e)))
five_parts s0 s5 a b c d e e0 e1 e2 e3 e4 e5 = let whole : s5 ≡ ((([] ++ a ++ b) ++ c) ++ d) ++ e = cc in whole ∙ simp append_assoc

-- how long the body of a PACKET_IN is
pub length_body : (p : PacketIn) (fields told : List ℕ) → length (packet_in_fixed_part p ++ (fields ++ (0 ∷ 0 ∷ told))) ≡ 18 + length fields + length told
unfolding packet_in_fixed_part
length_body p fields told = let parts = length-append fields (0 ∷ 0 ∷ told) in omega (arith, parts)

pub packet_in_is : (xid len : ℕ) (p : PacketIn) (fields told : List ℕ) {s1 s2 s3 s4 : List ℕ} (s0 s5 : List ℕ)
    → s0 ≡ [] → s1 ≡ s0 ++ message_header 10 len xid → s2 ≡ s1 ++ packet_in_fixed_part p → s3 ≡ s2 ++ fields → s4 ≡ s3 ++ 0 ∷ 0 ∷ [] → s5 ≡ s4 ++ told
    → len ≡ 26 + length fields + length told
    → s5 ≡ message 10 xid (packet_in_fixed_part p ++ (fields ++ (0 ∷ 0 ∷ told)))
packet_in_is xid len p fields told s0 s5 e0 e1 e2 e3 e4 e5 len_is =
    let whole = five_parts s0 s5 (message_header 10 len xid) (packet_in_fixed_part p) fields (0 ∷ 0 ∷ []) told e0 e1 e2 e3 e4 e5 in
    let body = length_body p fields told in
    let total : len ≡ 8 + length (packet_in_fixed_part p ++ (fields ++ (0 ∷ 0 ∷ told))) = omega (arith, len_is, body) in
    rw (← total) whole

pub length_flow_mod : (m : FlowMod) → length (flow_mod_fixed_part m) ≡ 40
unfolding flow_mod_fixed_part
length_flow_mod m = refl

-- five and six parts, the last of which may fail
pub five_or : {A E : Type 0} {s1 s2 s3 s4 : List ℕ} (r : Result A E) (s0 s5 a b c d e : List ℕ) → s1 ≡ s0 ++ a → s2 ≡ s1 ++ b → s3 ≡ s2 ++ c → s4 ≡ s3 ++ d → OnOk r (s5 ≡ s4 ++ e) → OnOk r (s5 ≡ s0 ++ (a ++ (b ++ (c ++ (d ++ e)))))
five_or (Err x) s0 s5 a b c d e e1 e2 e3 e4 last = last
five_or (Ok x) s0 s5 a b c d e e1 e2 e3 e4 last = let whole : s5 ≡ ((((s0 ++ a) ++ b) ++ c) ++ d) ++ e = cc in whole ∙ simp append_assoc

pub six_or : {A E : Type 0} {s1 s2 s3 s4 s5 : List ℕ} (r : Result A E) (s0 s6 a b c d e f : List ℕ) → s1 ≡ s0 ++ a → s2 ≡ s1 ++ b → s3 ≡ s2 ++ c → s4 ≡ s3 ++ d → s5 ≡ s4 ++ e → OnOk r (s6 ≡ s5 ++ f) → OnOk r (s6 ≡ s0 ++ (a ++ (b ++ (c ++ (d ++ (e ++ f))))))
six_or (Err x) s0 s6 a b c d e f e1 e2 e3 e4 e5 last = last
six_or (Ok x) s0 s6 a b c d e f e1 e2 e3 e4 e5 last = let whole : s6 ≡ (((((s0 ++ a) ++ b) ++ c) ++ d) ++ e) ++ f = cc in whole ∙ simp append_assoc

-- the two halves of the fields before a FLOW_MOD's match
pub both_halves : {A E : Type 0} {s1 : List ℕ} (r : Result A E) (s0 s2 : List ℕ) (x1 x2 x3 x4 x5 rest : List ℕ) → s1 ≡ s0 ++ (x1 ++ (x2 ++ (x3 ++ (x4 ++ x5)))) → OnOk r (s2 ≡ s1 ++ rest) → OnOk r (s2 ≡ s0 ++ (x1 ++ (x2 ++ (x3 ++ (x4 ++ (x5 ++ rest))))))
both_halves (Err x) s0 s2 x1 x2 x3 x4 x5 rest e last = last
both_halves (Ok x) s0 s2 x1 x2 x3 x4 x5 rest e last = let whole : s2 ≡ (s0 ++ (x1 ++ (x2 ++ (x3 ++ (x4 ++ x5))))) ++ rest = cc in whole ∙ simp append_assoc

-- a FLOW_MOD, part by part
pub flow_mod_is : (xid len : ℕ) (m : FlowMod) (fields instructions : List ℕ) {s1 s2 s3 : List ℕ} (s0 s4 : List ℕ)
    → s0 ≡ [] → s1 ≡ s0 ++ message_header 14 len xid → s2 ≡ s1 ++ flow_mod_fixed_part m → s3 ≡ s2 ++ fields → s4 ≡ s3 ++ instructions
    → len ≡ 48 + length fields + length instructions
    → s4 ≡ message 14 xid (flow_mod_fixed_part m ++ (fields ++ instructions))
flow_mod_is xid len m fields instructions s0 s4 e0 e1 e2 e3 e4 len_is =
    let whole : s4 ≡ (((([] ++ message_header 14 len xid) ++ flow_mod_fixed_part m) ++ fields) ++ instructions) = cc in
    let parts : s4 ≡ message_header 14 len xid ++ (flow_mod_fixed_part m ++ (fields ++ instructions)) = whole ∙ simp append_assoc in
    let total : len ≡ 8 + length (flow_mod_fixed_part m ++ (fields ++ instructions)) = omega (arith, len_is, length-append (flow_mod_fixed_part m) (fields ++ instructions), length-append fields instructions, length_flow_mod m) in
    rw (← total) parts
