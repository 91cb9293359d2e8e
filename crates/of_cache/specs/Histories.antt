-- Histories of a cache: calls one after the other, whatever rows it kept, and what it answers.
use Rattle.std.specs.Prelude.{◌≡◌, ◌⊎◌, ℕ, List, [], ◌∷◌, ◌++◌, Option, None, ⊤}
use Rattle.std.specs.List.{Contains}
use Rattle.of_layers.specs.declared.field.Field.{Field}
use Rattle.of_oxm.specs.{declared.match_field.MatchField.MatchField, Masks.Agree, NormalForm.IsMatch}
use Rattle.of_wire.specs.Numbered.{without, moved_to_end}
use Rattle.of_classifier.specs.{declared.Row.Row, Rows.row_number, Rows.made_row, Winner.winner_of, Scanning.pair_of}
use Rattle.of_cache.specs.{Regions.AnsweredRegion, Kept.not_answering, Kept.not_beaten, Finding.NoneHolds, Finding.IsHit, Finding.IsAdded}

-- an entry is added under a number, is removed, or becomes the youngest; or the entry is looked up that wins for a field map
pub data CacheCall : Type 0 where
  Add : (number priority : ℕ) → (fields : List MatchField) → CacheCall
  Take : (number : ℕ) → CacheCall
  Renew : (number : ℕ) → CacheCall
  LookUp : (key : Field → Option ℕ) → CacheCall

-- ---- the plain list

-- the entries after a call, oldest first
abbrev pub entries_after : CacheCall → List Row → List Row
entries_after (Add number priority fields) entries = entries ++ made_row number priority fields ∷ []
entries_after (Take number) entries = without row_number number entries
entries_after (Renew number) entries = moved_to_end row_number number entries
entries_after (LookUp key) entries = entries

-- what a call answers: a look-up the number and the priority of the entry that wins, or none, and the others nothing
abbrev pub answer_of_call : CacheCall → List Row → Option (ℕ × ℕ)
answer_of_call (Add number priority fields) entries = None
answer_of_call (Take number) entries = None
answer_of_call (Renew number) entries = None
answer_of_call (LookUp key) entries = pair_of (winner_of entries key)

abbrev pub answers_of : List CacheCall → List Row → List (Option (ℕ × ℕ))
answers_of [] entries = []
answers_of (call ∷ calls) entries = answer_of_call call entries ∷ answers_of calls (entries_after call entries)

-- ---- the cache, over a classifier that says on which bits an answer depends

-- the answer of a row that holds the key, which comes first; or else the one that the classifier gives, of which a row may be kept
abbrev pub LooksUp : (mask key : Field → Option ℕ) → ℕ → Option (ℕ × ℕ) → List AnsweredRegion → List AnsweredRegion → Option (ℕ × ℕ) → Type 0
LooksUp mask key capacity found old new answer =
    IsHit old new key answer
    ⊎ (NoneHolds old key × (answer ≡ found) × ((new ≡ old) ⊎ ((a : IsAdded old new capacity mask key) × (a.row.1 ≡ answer))))

-- what a call may leave of the rows, and answer
abbrev pub Calls : (List Row → (Field → Option ℕ) → Field → Option ℕ) → ℕ → CacheCall → List Row → List AnsweredRegion → List AnsweredRegion → Option (ℕ × ℕ) → Type 0
Calls looked capacity (Add number priority fields) entries old new answer = (new ≡ not_beaten fields priority old) × (answer ≡ None)
Calls looked capacity (Take number) entries old new answer = (new ≡ not_answering number old) × (answer ≡ None)
Calls looked capacity (Renew number) entries old new answer = (new ≡ not_answering number old) × (answer ≡ None)
Calls looked capacity (LookUp key) entries old new answer = LooksUp (looked entries key) key capacity (pair_of (winner_of entries key)) old new answer

-- what calls one after the other may answer, from these entries and rows
abbrev pub AnswersCalls : (List Row → (Field → Option ℕ) → Field → Option ℕ) → ℕ → List CacheCall → List Row → List AnsweredRegion → List (Option (ℕ × ℕ)) → Type 0
AnswersCalls looked capacity [] entries rows answers = answers ≡ []
AnswersCalls looked capacity (call ∷ calls) entries rows answers =
    (new : List AnsweredRegion) × (answer : Option (ℕ × ℕ)) × (rest : List (Option (ℕ × ℕ)))
    × (answers ≡ answer ∷ rest) × Calls looked capacity call entries rows new answer × AnswersCalls looked capacity calls (entries_after call entries) new rest

-- ---- what is asked of both

abbrev pub AreMatches : List Row → Type 0
AreMatches entries = (entry : Row) → Contains entries entry → IsMatch entry.fields

-- what is added is a match in normal form
abbrev pub IsOfMatch : CacheCall → Type 0
IsOfMatch (Add number priority fields) = IsMatch fields
IsOfMatch (Take number) = ⊤
IsOfMatch (Renew number) = ⊤
IsOfMatch (LookUp key) = ⊤

abbrev pub AreOfMatches : List CacheCall → Type 0
AreOfMatches [] = ⊤
AreOfMatches (call ∷ calls) = IsOfMatch call × AreOfMatches calls

-- field maps that agree in the bits have one winner, as each classifier says of itself
abbrev pub Decide : (List Row → (Field → Option ℕ) → Field → Option ℕ) → Type 0
Decide looked = (entries : List Row) (key map : Field → Option ℕ) → AreMatches entries → Agree (looked entries key) map key → winner_of entries map ≡ winner_of entries key
