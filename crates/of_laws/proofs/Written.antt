-- What is written of a message encodes it.
use Rattle.std.proofs.Common.{◌≡◌, ℕ, ◌+◌, ◌^◌, ◌<◌, ◌≤◌, List, [], ◌∷◌, ◌++◌, length, Result, Ok, Err, refl, sym, ap, subst, ◌∙◌, arith}
use Rattle.std.{specs.Prelude.IfOk, specs.Prelude.OnOk, specs.declared.alloc.AllocError.AllocError, proofs.lemmas.List.append_assoc, proofs.lemmas.List.append-nil, proofs.lemmas.List.length-append}
use Rattle.of_messages.specs.declared.message.Message.TheVariants.{Hello}
use Rattle.of_messages.{specs.Written.IsMessage, specs.Written.message_header, specs.Written.message, specs.declared.message.Message.Message, proofs.Lengths.is_message}
use Rattle.of_laws.specs.Cells.{StructCell, byte, u16_cell, u32_cell, Begins, FitsCells, canonical_cells}
use Rattle.of_laws.specs.Grammar.{type, version, message_cells, Tail, IsValid, Encodes}
use Rattle.of_laws.{specs.Canonical.canonical_message, specs.Canonical.canonical_tail, specs.Written.IsWritten, proofs.Places.size, proofs.Writings.fronted, proofs.Writings.length-encoding}

type_fits : (m : Message) → type m < 256
type_fits Hello = omega arith
type_fits other = omega arith

-- each message may have version 4
any_version : (m : Message) (cs : List StructCell) (bytes rest : List ℕ) → Begins (byte 4 ∷ cs) bytes rest → Begins (version m ∷ cs) bytes rest
any_version Hello cs bytes rest h = (h.0, tt, h.2)
any_version other cs bytes rest h = h

-- what a writer has to know of a message: that n bytes follow its header, and that these are such as the grammar asks for
pub record Parts (m : Message) (xid n : ℕ) : Type 0 where
  pub total : n ≡ size (message_cells m) + length (canonical_tail m)
  pub short : n ≤ 65527
  pub xid_fits : xid < 256 ^ 4
  pub fits : FitsCells (message_cells m)
  pub behind : Tail m (canonical_tail m)
  pub valid : IsValid m

-- what follows the header
abbrev pub body : Message → List ℕ
body m = canonical_cells (message_cells m) ++ canonical_tail m

length-body : (m : Message) (xid n : ℕ) → Parts m xid n → n ≡ length (body m)
length-body m xid n p = omega (arith, p.total, length-append (canonical_cells (message_cells m)) (canonical_tail m), length-encoding (message_cells m) p.fits)

canonical_encoded : (m : Message) (xid n : ℕ) → Parts m xid n → Encodes xid m (canonical_message xid m)
unfolding canonical_message
canonical_encoded m xid n p =
    let front = fronted (type m) xid (message_cells m) (body m) (canonical_tail m) refl (type_fits m) p.xid_fits p.fits (omega (arith, length-body m xid n p, p.short)) in
    record { tail = canonical_tail m; front = any_version m (byte (type m) ∷ u16_cell (length (canonical_message xid m)) ∷ u32_cell xid ∷ message_cells m) (canonical_message xid m) (canonical_tail m) front; behind = p.behind; valid = p.valid }

pub whole_written : (m : Message) (xid n : ℕ) (bytes : List ℕ) → bytes ≡ message_header (type m) (8 + n) xid ++ body m → Parts m xid n → IsWritten xid m bytes
unfolding canonical_message
whole_written m xid n bytes whole p =
    let text : bytes ≡ canonical_message xid m = whole ∙ ap (λ (k : ℕ). message_header (type m) (8 + k) xid ++ body m) (length-body m xid n p) in
    record { text = text; encoded = subst (λ (b : List ℕ). Encodes xid m b) (sym text) (canonical_encoded m xid n p) }

pub front_written : (m : Message) (xid n : ℕ) (front bytes : List ℕ) → front ≡ message_header (type m) (8 + n) xid → bytes ≡ front ++ body m → Parts m xid n → IsWritten xid m bytes
front_written m xid n front bytes head rest p = whole_written m xid n bytes (rest ∙ ap (λ (x : List ℕ). x ++ body m) head) p

-- and it is one message, of which the header says the length
pub is_one_message : (m : Message) (xid : ℕ) (bytes : List ℕ) → IsWritten xid m bytes → IsMessage bytes
unfolding canonical_message
is_one_message m xid bytes w =
    let fits : length bytes < 256 ^ 2 = w.encoded.front.2.2.1.0 in
    let total : length bytes ≡ length (message (type m) xid (body m)) = ap length w.text in
    subst (λ (b : List ℕ). IsMessage b) (sym w.text) (is_message (type m) xid (body m) (omega (arith, fits, total)))

-- a message that ends with its fields
pub fields_written : (m : Message) (xid n : ℕ) (front bytes : List ℕ) → front ≡ message_header (type m) (8 + n) xid → bytes ≡ front ++ canonical_cells (message_cells m) → canonical_tail m ≡ [] → Parts m xid n → IsWritten xid m bytes
fields_written m xid n front bytes head fields none p =
    let more : body m ≡ canonical_cells (message_cells m) = ap (λ (t : List ℕ). canonical_cells (message_cells m) ++ t) none ∙ append-nil (canonical_cells (message_cells m)) in
    front_written m xid n front bytes head (fields ∙ ap (λ (x : List ℕ). front ++ x) (sym more)) p

-- ---- pieces, one after the other

pub two : (o s t a b : List ℕ) → s ≡ o ++ a → t ≡ s ++ b → t ≡ o ++ (a ++ b)
two o s t a b p q = q ∙ ap (λ (x : List ℕ). x ++ b) p ∙ append_assoc o a b

pub three : (o s t u a b d : List ℕ) → s ≡ o ++ a → t ≡ s ++ b → u ≡ t ++ d → u ≡ o ++ (a ++ (b ++ d))
three o s t u a b d p q r = two o s u a (b ++ d) p (two s t u b d q r)

pub six : (o s t u v w x a b d e f g : List ℕ) → s ≡ o ++ a → t ≡ s ++ b → u ≡ t ++ d → v ≡ u ++ e → w ≡ v ++ f → x ≡ w ++ g → x ≡ o ++ (a ++ (b ++ (d ++ (e ++ (f ++ g)))))
six o s t u v w x a b d e f g p q r p' q' r' = three o s t x a b (d ++ (e ++ (f ++ g))) p q (two t u x d (e ++ (f ++ g)) r (three u v w x e f g p' q' r'))

-- ---- where a writer may run out of memory

pub if_ok : {V : Type 0} (P Q : V → Type 0) (r : Result V AllocError) → IfOk r P → ((v : V) → P v → Q v) → IfOk r Q
if_ok P Q (Ok v) h next = next v h
if_ok P Q (Err e) h next = tt

pub on_ok : {V : Type 0} (A B : Type 0) (r : Result V AllocError) → OnOk r A → (A → B) → OnOk r B
on_ok A B (Ok v) h next = next h
on_ok A B (Err e) h next = tt

pub if_ok_with : {V : Type 0} (P Q : V → Type 0) (A : Type 0) (r : Result V AllocError) → IfOk r P → OnOk r A → ((v : V) → P v → A → Q v) → IfOk r Q
if_ok_with P Q A (Ok v) h a next = next v h a
if_ok_with P Q A (Err e) h a next = tt

pub both : {V : Type 0} (A B : Type 0) (r : Result V AllocError) → OnOk r A → OnOk r B → OnOk r (A × B)
both A B (Ok v) a b = (a, b)
both A B (Err e) a b = tt
