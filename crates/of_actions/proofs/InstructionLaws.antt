-- Bytes encode one list of instructions, or have one code.
use Rattle.std.proofs.Common.{◌≡◌, ℕ, List, [], Some, None, Result, Ok, Err, refl, sym, ap, subst, ◌∙◌}
use Rattle.std.specs.Prelude.{IfOk, IfErr}
use Rattle.of_wire.{specs.declared.code.Code.Code, specs.declared.code.ReadError.ReadError, specs.Failures.Fails, proofs.Walking.one_walk}
use Rattle.of_wire.specs.declared.code.ReadError.TheVariants as errors
use Rattle.of_actions.specs.{declared.instruction.Instruction.Instruction, Headers.Header, Headers.AreHeaders, Headers.headers_of}
use Rattle.of_actions.specs.{Instructions.AreBodies, Instructions.EncodesInstructions, Instructions.IsRefused, RunOrder.in_run_order, Readings.ReadsValue, Readings.Refuses}
use Rattle.of_actions.proofs.Bodies.{one_bodies}

pub one_list : (table : ℕ) (bytes : List ℕ) (some others : List Instruction) → EncodesInstructions table bytes some → EncodesInstructions table bytes others → some ≡ others
one_list table bytes some others a b =
    let same = (one_walk (headers_of table) [] bytes a.headers b.headers None None a.whole b.whole).0 in
    let message = (one_bodies a.headers a.message b.message None None a.bodies (subst (λ (hs : List Header). AreBodies hs b.message None) (sym same) b.bodies)).0 in
    a.order ∙ (ap in_run_order message ∙ sym b.order)

pub not_both : (table : ℕ) (bytes : List ℕ) (list : List Instruction) (code : Code) → EncodesInstructions table bytes list → IsRefused table bytes code → ⊥
not_both table bytes list code a (IsRefused.header before walk) =
    let same = (one_walk (headers_of table) [] bytes a.headers before None (Some code) a.whole walk).1 in cc
not_both table bytes list code a (IsRefused.body hs walk before bodies) =
    let same = (one_walk (headers_of table) [] bytes a.headers hs None None a.whole walk).0 in
    let fault = (one_bodies a.headers a.message before None (Some code) a.bodies (subst (λ (x : List Header). AreBodies x before (Some code)) (sym same) bodies)).1 in cc

pub one_code : (table : ℕ) (bytes : List ℕ) (c d : Code) → IsRefused table bytes c → IsRefused table bytes d → c ≡ d
one_code table bytes c d (IsRefused.header before walk) (IsRefused.header before' walk') =
    let same = (one_walk (headers_of table) [] bytes before before' (Some c) (Some d) walk walk').1 in cc
one_code table bytes c d (IsRefused.header before walk) (IsRefused.body hs walk' before' bodies) =
    let same = (one_walk (headers_of table) [] bytes before hs (Some c) None walk walk').1 in absurd cc
one_code table bytes c d (IsRefused.body hs walk before bodies) (IsRefused.header before' walk') =
    let same = (one_walk (headers_of table) [] bytes hs before' None (Some d) walk walk').1 in absurd cc
one_code table bytes c d (IsRefused.body hs walk before bodies) (IsRefused.body hs' walk' before' bodies') =
    let same = (one_walk (headers_of table) [] bytes hs hs' None None walk walk').0 in
    let fault = (one_bodies hs before before' (Some c) (Some d) bodies (subst (λ (x : List Header). AreBodies x before' (Some d)) (sym same) bodies')).1 in cc

-- what was read is what the bytes encode
pub is_only : (table : ℕ) (bytes : List ℕ) (r : Result (List Instruction) ReadError) → IfOk r (λ list. EncodesInstructions table bytes list) → IfErr r (Fails (IsRefused table bytes)) → (list : List Instruction) → EncodesInstructions table bytes list → ReadsValue r list
is_only table bytes (Ok read) found refused list h = one_list table bytes read list found h
is_only table bytes (Err errors.Memory) found refused list h = refl
is_only table bytes (Err (errors.Refused code)) found refused list h = absurd (not_both table bytes list code h refused)

pub is_exact : (table : ℕ) (bytes : List ℕ) (r : Result (List Instruction) ReadError) → IfOk r (λ list. EncodesInstructions table bytes list) → IfErr r (Fails (IsRefused table bytes)) → (code : Code) → IsRefused table bytes code → Refuses r code
is_exact table bytes (Ok read) found refused code h = not_both table bytes read code found h
is_exact table bytes (Err errors.Memory) found refused code h = tt
is_exact table bytes (Err (errors.Refused other)) found refused code h = one_code table bytes other code refused h

-- ---- the two kinds of refusal, as the reader finds them

pub header_refused : (table : ℕ) (bytes : List ℕ) (code : Code) → ((before : List Header) × AreHeaders table [] bytes before (Some code)) → IsRefused table bytes code
header_refused table bytes code h = IsRefused.header h.0 h.1

pub body_refused : (table : ℕ) (bytes : List ℕ) (hs given : List Header) → AreHeaders table [] bytes hs None → given ≡ hs → (code : Code) → ((before : List Instruction) × AreBodies given before (Some code)) → IsRefused table bytes code
body_refused table bytes hs given whole e code h =
    IsRefused.body hs whole h.0 (subst (λ (x : List Header). AreBodies x h.0 (Some code)) e h.1)

-- what the bodies begin, in the order of execution
pub all_encoded : (table : ℕ) (bytes : List ℕ) (hs given : List Header) (message list : List Instruction) → AreHeaders table [] bytes hs None → given ≡ hs → AreBodies given message None → list ≡ in_run_order message → EncodesInstructions table bytes list
all_encoded table bytes hs given message list whole e bodies order =
    record { headers = hs; whole = whole; message = message; bodies = subst (λ (x : List Header). AreBodies x message None) e bodies; order = order }
