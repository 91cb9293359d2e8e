-- A reader of items answers the one list that bytes encode, or their one code.
use Rattle.std.proofs.Common.{ℕ, List, [], Some, None, Result, Ok, Err, refl}
use Rattle.std.specs.Prelude.{IfOk, IfErr}
use Rattle.of_wire.{specs.declared.code.Code.Code, specs.declared.code.ReadError.ReadError, specs.Failures.Fails, specs.Items.Items, specs.Items.AreItems, proofs.Walking.one_walk}
use Rattle.of_wire.specs.declared.code.ReadError.TheVariants as errors
use Rattle.of_actions.specs.Readings.{ReadsValue, Refuses}

pub fails_weaker : (P Q : Code → Type 0) → ((code : Code) → P code → Q code) → (e : ReadError) → Fails P e → Fails Q e
fails_weaker P Q f errors.Memory h = tt
fails_weaker P Q f (errors.Refused code) h = f code h

pub items_only : {V : Type 0} (kind : Items V) (bytes : List ℕ) (r : Result (List V) ReadError) → IfOk r (λ vs. AreItems kind [] bytes vs None) → IfErr r (Fails (λ code. (before : List V) × AreItems kind [] bytes before (Some code)))
    → (vs : List V) → AreItems kind [] bytes vs None → ReadsValue r vs
items_only kind bytes (Ok read) found refused vs h = (one_walk kind [] bytes read vs None None found h).0
items_only kind bytes (Err errors.Memory) found refused vs h = refl
items_only kind bytes (Err (errors.Refused code)) found refused vs h = let same = (one_walk kind [] bytes refused.0 vs (Some code) None refused.1 h).1 in absurd cc

pub items_exact : {V : Type 0} (kind : Items V) (bytes : List ℕ) (r : Result (List V) ReadError) → IfOk r (λ vs. AreItems kind [] bytes vs None) → IfErr r (Fails (λ code. (before : List V) × AreItems kind [] bytes before (Some code)))
    → (code : Code) (before : List V) → AreItems kind [] bytes before (Some code) → Refuses r code
items_exact kind bytes (Ok read) found refused code before h = let same = (one_walk kind [] bytes read before None (Some code) found h).1 in cc
items_exact kind bytes (Err errors.Memory) found refused code before h = tt
items_exact kind bytes (Err (errors.Refused other)) found refused code before h = let same = (one_walk kind [] bytes refused.0 before (Some other) (Some code) refused.1 h).1 in cc
