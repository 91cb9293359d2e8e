use Rattle.std.proofs.Common.{◌≡◌, ℕ, List, sym, refl, Bool, true, false}
use Rattle.std.{specs.Str.IsUtf8, specs.Str.is_utf8, proofs.lemmas.Str.is_utf8-from_IsUtf8, proofs.lemmas.Str.IsUtf8-from_is_utf8}
use Rattle.of_replay.proofs.lexing.is_text.Goals as goal

no_text : (bs : List ℕ) (t : Bool) → is_utf8 bs ≡ t → ¬ (IsUtf8 bs) → false ≡ is_utf8 bs
no_text bs true e lack = absurd (lack (IsUtf8-from_is_utf8 bs e))
no_text bs false e lack = sym e

pub returns-in-Ok : goal.returns-in-Ok
returns-in-Ok c = sym (is_utf8-from_IsUtf8 c.args.line.now c.in-Ok.ensures.cases.1)

pub returns-in-Err : goal.returns-in-Err
returns-in-Err c = no_text c.args.line.now (is_utf8 c.args.line.now) refl c.in-Err.ensures.cases.0
