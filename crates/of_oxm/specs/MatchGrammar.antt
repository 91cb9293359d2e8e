-- The grammar of matches: which bytes encode which match, and which code other bytes have (OpenFlow 1.3.5, 7.2.3 and 7.4.4).
use Rattle.std.specs.Prelude.{◌≡◌, ℕ, ◌+◌, ◌-◌, ◌*◌, ◌/◌, ◌^◌, ◌<◌, ◌==◌, nat_lt, Bool, true, false, not, ◌||◌, List, [], ◌∷◌, ◌++◌, length, take, drop, Option, Some, None, IsSome, Result, Ok, Err}
use Rattle.std.specs.List.{flat_map}
use Rattle.byteorder.specs.Endian.{big_number, big_bytes}
use Rattle.of_wire.specs.{declared.codes.TheConstants.OFPBMC_BAD_LEN, declared.codes.TheConstants.OFPBMC_BAD_PREREQ, declared.codes.TheConstants.OFPBMC_BAD_TYPE, declared.code.Code.Code}
use Rattle.of_wire.specs.{declared.code.ReadError.ReadError, Failures.Fails, Refusals.first_of}
use Rattle.of_wire.specs.declared.code.ReadError.TheVariants as errors
use Rattle.of_oxm.specs.{declared.match_field.MatchField.MatchField, MatchFieldWire.IsEncoded, MatchFieldWire.encoding, MatchFieldWire.is_among, MatchFieldWire.field_refusals}
use Rattle.of_oxm.specs.{Prerequisites.prerequisites_met, NormalForm.normal}

-- ---- the fields, in any order

abbrev pub encodings : List MatchField → List ℕ
encodings fields = flat_map encoding fields

-- after the fields `seen`, each of these is well encoded and occurs for the first time
abbrev pub AreFieldsAfter : List MatchField → List MatchField → Type 0
AreFieldsAfter seen [] = Unit {0}
AreFieldsAfter seen (e ∷ es) = IsEncoded e × (is_among e.field seen ≡ false) × AreFieldsAfter (seen ++ e ∷ []) es

-- after the fields `seen`, bytes end, or go on with a fault
abbrev pub IsEnd : List MatchField → List ℕ → Option Code → Type 0
IsEnd seen [] fault = fault ≡ None
IsEnd seen (b ∷ bs) fault = (first_of (field_refusals seen (b ∷ bs)) ≡ fault) × IsSome fault

-- after the fields `seen`, bytes are these fields, and then they end or have a fault
pub record Fields (seen : List MatchField) (bytes : List ℕ) (fields : List MatchField) (fault : Option Code) : Type 0 where
  pub rest : List ℕ
  pub whole : bytes ≡ encodings fields ++ rest
  pub fine : AreFieldsAfter seen fields
  pub ended : IsEnd (seen ++ fields) rest fault

-- after some fields, bytes have this fault
abbrev pub IsFaulty : List ℕ → Code → Type 0
IsFaulty bytes code = (fields : List MatchField) × Fields [] bytes fields (Some code)

-- ---- a match

abbrev pub match_len : List ℕ → ℕ
match_len bytes = big_number 2 (drop 2 bytes)

-- the next multiple of 8
abbrev pub padded : ℕ → ℕ
padded n = (n + 7) / 8 * 8

abbrev pub match_body : List ℕ → List ℕ
match_body bytes = take (match_len bytes - 4) (drop 4 bytes)

-- the refusals of a match before its first field
abbrev pub match_head_refusals : List ℕ → List (Bool × Code)
match_head_refusals bytes =
    (nat_lt (length bytes) 4, OFPBMC_BAD_LEN)
    ∷ (not (big_number 2 bytes == 1), OFPBMC_BAD_TYPE)
    ∷ (nat_lt (match_len bytes) 4 || nat_lt (length bytes) (padded (match_len bytes)), OFPBMC_BAD_LEN)
    ∷ []

-- The bytes are: type 1 (OFPMT_OXM), the length, the fields in some order, each once, and padding that the length leaves out; and the match is the normal form of the fields, with all prerequisites.
pub record EncodesMatch (bytes : List ℕ) (m : List MatchField) : Type 0 where
  pub fields : List MatchField
  pub padding : List ℕ
  pub len : ℕ
  pub fine : AreFieldsAfter [] fields
  pub len_is : len ≡ 4 + length (encodings fields)
  pub len_fits : len < 2 ^ 16
  pub whole : bytes ≡ 0 ∷ 1 ∷ (big_bytes 2 len ++ (encodings fields ++ padding))
  pub size : length bytes ≡ padded len
  pub normal_form : m ≡ normal fields
  pub met : prerequisites_met m ≡ true

-- Bytes that begin with no encoding of a match have one code: of the head, of the first field that has a fault, or of a missing prerequisite.
pub data IsRefusedMatch (bytes : List ℕ) (code : Code) : Type 0 where
  head : first_of (match_head_refusals bytes) ≡ Some code → IsRefusedMatch bytes code
  field : first_of (match_head_refusals bytes) ≡ None → (fields : List MatchField) → Fields [] (match_body bytes) fields (Some code) → IsRefusedMatch bytes code
  need : first_of (match_head_refusals bytes) ≡ None → (fields : List MatchField) → Fields [] (match_body bytes) fields None → prerequisites_met (normal fields) ≡ false → code ≡ OFPBMC_BAD_PREREQ → IsRefusedMatch bytes code

-- ---- what a reader returns

-- this match was read, in n bytes, unless memory ran out
abbrev pub ReadsAs : List MatchField → ℕ → Result (List MatchField × ℕ) ReadError → Type 0
ReadsAs m n (Ok r) = (r.0 ≡ m) × (r.1 ≡ n)
ReadsAs m n (Err e) = e ≡ errors.Memory

-- the bytes were refused with this code, unless memory ran out
abbrev pub RefusesAs : Code → Result (List MatchField × ℕ) ReadError → Type 0
RefusesAs code (Ok r) = ⊥
RefusesAs code (Err e) = Fails (λ c. c ≡ code) e
