use Rattle.std.proofs.Common.{◌≡◌, true, List, ◌∷◌, Option, Some, None, length, drop, map, ap}
use Rattle.std.{specs.Borrow.Bor, specs.Option.MatchOption, specs.Slice.Iter.iter_rest, proofs.lemmas.List.drop_all}
use Rattle.of_groups.specs.declared.bucket.Bucket.{Bucket}
use Rattle.of_alike.specs.SameGroups.{bucket_key}
use Rattle.of_symbolic_run.proofs.Pairing.{at_index, no_elements, pairing_decided, pairing_goes_on, pairing_parts}
use Rattle.of_alike.proofs.groups.are_same_buckets.Goals as goal

pub returns-in_default : goal.returns-in_default
returns-in_default c =
    let a = c.args.a.now in
    let differ = pairing_parts (map bucket_key a) (map bucket_key c.args.b.now) (map bucket_key (drop c.loop-bucket.bucket-index a)) (map bucket_key (iter_rest c.loop-bucket.others)) c.loop-bucket.invariant _ (bucket_key c.in-Some.other.now) _ _
    (ap (map bucket_key) (at_index a c.loop-bucket.bucket-index c.bucket-item.result c.loop-bucket-test.true c.bucket-item.is)) (ap (map bucket_key) c.in-Some.ensures.steps)
    (λ same. let yes : c.is_same_bucket.result ≡ true = c.is_same_bucket.ensures.1 same in let no = c.if-is_same_bucket.false in absurd cc) in
    (λ h. absurd cc, λ h. absurd (differ h))

pub loop-bucket-preserved : goal.loop-bucket-preserved
loop-bucket-preserved c =
    let a = c.args.a.now in
    pairing_goes_on (map bucket_key a) (map bucket_key c.args.b.now) (map bucket_key (drop c.loop-bucket.bucket-index a)) (map bucket_key (iter_rest c.loop-bucket.others)) c.loop-bucket.invariant _ (bucket_key c.in-Some.other.now) _ _
    (ap (map bucket_key) (at_index a c.loop-bucket.bucket-index c.bucket-item.result c.loop-bucket-test.true c.bucket-item.is)) (ap (map bucket_key) c.in-Some.ensures.steps) (c.is_same_bucket.ensures.0 c.if-is_same_bucket.true)

keys_told : (r : Option (Bor Bucket)) (left others : List Bucket) (P : Type 0) → MatchOption r ((length left ≡ 0) × P) (λ x. left ≡ x.now ∷ others) → MatchOption r (length left ≡ 0) (λ x. map bucket_key left ≡ bucket_key x.now ∷ map bucket_key others)
keys_told None left others P h = h.0
keys_told (Some x) left others P h = ap (map bucket_key) h

pub returns : goal.returns
returns c =
    let a = c.args.a.now in
    let rest = iter_rest c.loop-bucket.others in
    pairing_decided (map bucket_key a) (map bucket_key c.args.b.now) (map bucket_key (drop c.loop-bucket.bucket-index a)) (map bucket_key rest) c.loop-bucket.invariant (ap (map bucket_key) (drop_all c.loop-bucket.bucket-index a c.loop-bucket-test.false)) (λ (y : Bor Bucket). bucket_key y.now) (length rest ≡ 0)
    (λ done. ap (map bucket_key) (no_elements rest done)) c.next-2.result _ (keys_told c.next-2.result rest (iter_rest c.next-2.new.self) _ c.next-2.ensures.steps) c.is_none.result c.is_none.ensures
