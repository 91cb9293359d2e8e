-- What a word gives, or why it is refused.
use Rattle.std.specs.Prelude.{ℕ, ◌==◌, List, [], ◌∷◌, length, Option, Some, None, Result, Ok, Err, if◌then◌else◌}
use Rattle.of_ovs_words.specs.{declared.why.Why.Why, Numbers.number_in}
use Rattle.of_ovs_words.specs.declared.why.Why.TheVariants as whys

-- the second step, if the first gave a value
infixl 10 ◌>>=◌
abbrev pub ◌>>=◌ : {A B E : Type 0} → Result A E → (A → Result B E) → Result B E
(Err why) >>= f = Err why
(Ok a) >>= f = f a

-- the value, or else this is why
abbrev pub value_or_why : {A : Type 0} → Why → Option A → Result A Why
value_or_why why None = Err why
value_or_why why (Some a) = Ok a

-- a number below the limit
abbrev pub numbered : ℕ → List ℕ → Result ℕ Why
numbered limit word = value_or_why whys.Value (number_in limit word)

-- an item, if there is one
abbrev pub one : {A : Type 0} → Option A → List A
one None = []
one (Some a) = a ∷ []

-- a step for each word, of which empty ones are passed over, until one is refused
abbrev pub through_words : {S : Type 0} → (S → List ℕ → Result S Why) → S → List (List ℕ) → Result S Why
through_words step s [] = Ok s
through_words step s (w ∷ ws) = if length w == 0 then through_words step s ws else step s w >>= λ next. through_words step next ws
