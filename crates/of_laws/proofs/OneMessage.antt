-- No bytes encode two messages of a controller; and bytes whose header has their length begin no others.
use Rattle.std.proofs.Common.{◌≡◌, ◌≤◌, ℕ, List, [], ◌∷◌, ◌++◌, length, drop, Result, Ok, refl, sym, ap, ◌∙◌, arith}
use Rattle.std.proofs.lemmas.List.{length-append, length-drop, drop-append-le}
use Rattle.byteorder.specs.{Endian.big_number, Numbers.big_from-append}
use Rattle.of_wire.specs.declared.code.Code.{Code}
use Rattle.of_messages.specs.{declared.message.Message.Message, Heads.header_length}
use Rattle.of_laws.{specs.Grammar.Encodes, proofs.Only.only, proofs.Only.xid_is}

pub one_message : (x y : ℕ) (v w : Message) (bytes : List ℕ) → Encodes x v bytes → Encodes y w bytes → (x ≡ y) × (v ≡ w)
one_message x y v w bytes s t =
    let same : ◌≡◌ {A = Result Message Code} (Ok v) (Ok w) = sym (only x v bytes s) ∙ only y w bytes t in
    (xid_is x v bytes s ∙ sym (xid_is y w bytes t), cc)

empty : (xs : List ℕ) → length xs ≡ 0 → xs ≡ []
empty [] e = refl
empty (x ∷ xs) e = absurd (omega arith)

-- the length in the header is that of all bytes
pub ends_it : (bytes more : List ℕ) → 8 ≤ length bytes → header_length bytes ≡ length bytes → header_length (bytes ++ more) ≡ length (bytes ++ more) → more ≡ []
ends_it bytes more long h k =
    let cut : drop 2 (bytes ++ more) ≡ drop 2 bytes ++ more = drop-append-le 2 bytes more (omega arith) in
    let same : big_number 2 (drop 2 (bytes ++ more)) ≡ big_number 2 (drop 2 bytes) = ap (λ (z : List ℕ). big_number 2 z) cut ∙ big_from-append 2 (drop 2 bytes) more (omega (arith, length-drop 2 bytes)) in
    empty more (omega (arith, same, h, k, length-append bytes more))
