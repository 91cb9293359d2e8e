-- Walks over buckets.
use Rattle.std.proofs.Common.{◌≡◌, ◌<◌, ℕ, false, ltb, List, [], length, Some, None, Ok, Err, arith}
use Rattle.std.proofs.lemmas.Bool.{ltb-false}
use Rattle.of_wire.specs.{declared.code.ReadError.ReadError, Failures.Fails, Refusals.first_of, Items.Items, Items.TakesBytes, Items.items_from}
use Rattle.of_wire.proofs.{FirstLemmas.none_applies, FirstLemmas.first_false, ItemsRead.items_are, Walking.Going, Walking.stops, Walking.is_done}
use Rattle.of_wire.specs.declared.code.ReadError.TheVariants as errors
use Rattle.of_messages.specs.Buckets.{buckets, bucket_refusals, bucket_len_at}

pub buckets_take : TakesBytes buckets
unfolding bucket_refusals
buckets_take seen bytes some none =
    let low : ltb (bucket_len_at bytes) 16 ≡ false = first_false _ _ (first_false _ _ (none_applies (bucket_refusals seen bytes) none).1.1.0) in
    omega (arith, ltb-false (bucket_len_at bytes) 16 low)

-- ---- the two ways out of a loop over items

pub said_stops : {V : Type 0} (kind : Items V) (bytes rest : List ℕ) (seen given : List V) (e : ReadError) → TakesBytes kind → Going kind bytes seen rest → 0 < length rest → given ≡ seen
    → Fails (λ code. first_of (kind.refusals given rest) ≡ Some code) e → Fails (λ code. items_from kind (length bytes) [] bytes ≡ Err code) e
said_stops kind bytes rest seen given errors.Memory takes going some is h = tt
said_stops kind bytes rest seen given (errors.Refused code) takes going some is h =
    let found = stops kind bytes rest seen given code going some is h in
    items_are kind (length bytes) [] bytes found.0 (Some code) takes (omega arith) found.1

pub said_done : {V : Type 0} (kind : Items V) (bytes rest : List ℕ) (seen : List V) → TakesBytes kind → Going kind bytes seen rest → length rest ≡ 0 → items_from kind (length bytes) [] bytes ≡ Ok seen
said_done kind bytes rest seen takes going e = items_are kind (length bytes) [] bytes seen None takes (omega arith) (is_done kind bytes rest seen going e)
