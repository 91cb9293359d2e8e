-- Why a line is no requirement: memory ran out, or a word is refused.
use Rattle.std.specs.Prelude.{◌≡◌, ℕ, List, [], ◌∷◌, Result, Ok, Err}
use Rattle.of_ovs_words.specs.Outcomes.{◌>>=◌}
use Rattle.of_require.specs.{declared.refusal.NoRequirement.NoRequirement, declared.refusal.NoRequirement.TheVariants.NoMemory, declared.refusal.NoRequirement.TheVariants.Refused}
use Rattle.of_require.specs.declared.refusal.Why.{Why}

-- a word that is refused, and why
pub record LineRefusal : Type 0 where
  pub word : List ℕ
  pub why : Why

abbrev pub word_refused : {A : Type 0} → List ℕ → Why → Result A LineRefusal
word_refused word why = Err (record { word = word; why = why })

-- what each of these says, until one is refused
abbrev pub each_said : {A B E : Type 0} → (A → Result B E) → List A → Result (List B) E
each_said said [] = Ok []
each_said said (x ∷ xs) = said x >>= λ y. each_said said xs >>= λ ys. Ok (y ∷ ys)

-- it is the refusal of this outcome, unless memory ran out
abbrev pub LineStops : {A : Type 0} → Result A LineRefusal → NoRequirement → Type 0
LineStops outcome NoMemory = Unit {0}
LineStops outcome (Refused r) = outcome ≡ word_refused r.word.items r.why

abbrev pub IsLineRefusal : List ℕ → Why → NoRequirement → Type 0
IsLineRefusal word why NoMemory = Unit {0}
IsLineRefusal word why (Refused r) = (r.word.items ≡ word) × (r.why ≡ why)
