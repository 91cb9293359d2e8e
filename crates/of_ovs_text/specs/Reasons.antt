-- WHY WORDS SAY NO MESSAGE, and what a reader of words returned.
use Rattle.std.specs.Prelude.{◌≡◌, ℕ, ◌==◌, List, length, Option, Some, None, map, Result, Ok, Err, if◌then◌else◌}
use Rattle.of_wire.specs.declared.code.Code.{Code}
use Rattle.of_ovs_lines.specs.{PartialFlows.Refusal, PartialFlowViews.view_word_fault}
use Rattle.of_ovs_text.specs.declared.no_message.NoMessage.{NoMessage}
use Rattle.of_ovs_text.specs.declared.no_message.NoMessage.TheVariants as errors

pub data Reason : Type 0 where
  Kind : Reason
  Faults : (faults : List Refusal) → Reason
  Refused : (code : Code) → Reason
  Word : (word : List ℕ) → Reason
  Missing : Reason

-- the bytes of a message, or why there are none
abbrev pub BytesOrReason : Type 0
BytesOrReason = Result (List ℕ) Reason

-- an error is that memory ran out, or a reason for which this holds
abbrev pub HasReason : (Reason → Type 0) → NoMessage → Type 0
HasReason is_reason errors.NoMemory = Unit {0}
HasReason is_reason errors.Kind = is_reason Kind
HasReason is_reason (errors.Faults faults) = is_reason (Faults (map view_word_fault faults.items))
HasReason is_reason (errors.Refused code) = is_reason (Refused code)
HasReason is_reason (errors.Word word) = is_reason (Word word.items)
HasReason is_reason errors.Missing = is_reason Missing

-- what was returned is what the words say, unless memory ran out
abbrev pub SaysOrFails : {V : Type 0} → Result V NoMessage → Result V Reason → Type 0
SaysOrFails (Ok value) said = said ≡ Ok value
SaysOrFails (Err e) said = HasReason (λ reason. said ≡ Err reason) e

-- a word that is refused; if it is empty, a word is missing
abbrev pub reason_of_word : List ℕ → Reason
reason_of_word word = if length word == 0 then Missing else Word word

-- the refusal of a switch, if there is one
abbrev pub reason_of_refusal : Option Code → Reason
reason_of_refusal (Some code) = Refused code
reason_of_refusal None = Missing

-- the same as an error
abbrev pub error_of_refusal : Option Code → NoMessage
error_of_refusal (Some code) = errors.Refused code
error_of_refusal None = errors.Missing

-- memory ran out, or this is refused
abbrev pub FailsBy : Option Code → NoMessage → Type 0
FailsBy refusal errors.NoMemory = Unit {0}
FailsBy refusal (errors.Refused code) = refusal ≡ Some code
FailsBy refusal other = ⊥
