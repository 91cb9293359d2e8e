-- Buckets that are written are read again.
use Rattle.std.proofs.Common.{◌≡◌, ℕ, ◌+◌, ◌-◌, ◌%◌, ◌^◌, ◌<◌, ◌≤◌, true, false, ltb, eqb, List, [], ◌∷◌, ◌++◌, length, take, drop, Some, None, Result, Ok, refl, sym, ap, subst, ◌∙◌, arith}
use Rattle.std.{specs.Prelude.map, specs.List.list_all, proofs.lemmas.Bool.le-ltb, proofs.lemmas.Bool.eq-eqb, proofs.lemmas.Bool.Decides.nat_tests}
use Rattle.std.proofs.lemmas.List.{length-append, take-append-le, take_all}
use Rattle.byteorder.specs.{Endian.big_number, Numbers.big_number-reads_back}
use Rattle.of_wire.{specs.declared.code.Code.Code, specs.Items.AreItems, specs.Refusals.first_of, proofs.ItemsAgain.Again, proofs.ItemsAgain.AllAgain, proofs.ItemsAgain.written_items}
use Rattle.of_wire.proofs.ItemsRead.{items_are}
use Rattle.of_actions.specs.{declared.action.Action.Action, Actions.actions_said, CanonicalActions.canonical_actions, Supported.are_supported}
use Rattle.of_actions.proofs.{ActionsAgain.canonical_encoded, ActionsAgain.canonical_short, ActionsComputed.actions_are}
use Rattle.of_groups.specs.{declared.bucket.Bucket.Bucket, Buckets.fresh, Buckets.is_fit, Buckets.are_fit}
use Rattle.of_messages.specs.Buckets.{buckets, buckets_said, bucket_of_bytes, bucket_refusals, actions_in, actions_fault, bucket_len_at}
use Rattle.of_messages.{specs.CanonicalGroups.canonical_bucket, specs.CanonicalGroups.canonical_buckets, specs.CanonicalGroups.has_numbers, proofs.BucketLemmas.buckets_take}
use Rattle.of_messages.proofs.BucketsWritten.{length_bucket}

-- what bytes say that begin with the bucket, over a variable, where nothing has computed to bytes yet
record Says (b : Bucket) (rest behind : List ℕ) : Type 0 where
  len : bucket_len_at rest ≡ 16 + length (canonical_actions b.actions)
  weight : big_number 2 (drop 2 rest) ≡ b.weight
  port : big_number 4 (drop 4 rest) ≡ b.watch_port
  group : big_number 4 (drop 8 rest) ≡ b.watch_group
  rest_is : drop 16 rest ≡ canonical_actions b.actions ++ behind
  long : length rest ≡ 16 + length (canonical_actions b.actions ++ behind)

none_refused : (seen : List Bucket) (rest : List ℕ) (actions : List Action) → length seen ≤ 15 → 16 ≤ bucket_len_at rest → (bucket_len_at rest % 8) ≡ 0 → bucket_len_at rest ≤ length rest → actions_said false (actions_in rest) ≡ Ok actions → first_of (bucket_refusals seen rest) ≡ None
unfolding bucket_refusals
none_refused seen rest actions few low eight whole said =
    let room : ltb 15 (length seen) ≡ false = le-ltb _ _ few in
    let short : ltb (length rest) 16 ≡ false = le-ltb _ _ (omega arith) in
    let low' : ltb (bucket_len_at rest) 16 ≡ false = le-ltb _ _ low in
    let eight' : eqb (bucket_len_at rest % 8) 0 ≡ true = eq-eqb _ _ eight in
    let whole' : ltb (length rest) (bucket_len_at rest) ≡ false = le-ltb _ _ whole in
    rw (room, short, low', eight', whole') (ap (λ (r : Result (List Action) Code). first_of (actions_fault r)) said)

value_is : (b : Bucket) (rest behind : List ℕ) → Says b rest behind → actions_said false (actions_in rest) ≡ Ok b.actions → bucket_of_bytes rest ≡ Some (fresh b)
unfolding bucket_of_bytes
value_is b rest behind h said = rw (said, h.weight, h.port, h.group) refl

record Read (b : Bucket) (seen : List Bucket) (rest : List ℕ) : Type 0 where
  some : 0 < length rest
  none : first_of (bucket_refusals seen rest) ≡ None
  at : bucket_of_bytes rest ≡ Some (fresh b)

read : (b : Bucket) (seen : List Bucket) (rest behind : List ℕ) → length seen ≤ 15 → are_supported false b.actions ≡ true → Says b rest behind → Read b seen rest
read b seen rest behind few served h =
    let text = canonical_actions b.actions in
    let eights = (canonical_short false b.actions served).eights in
    let len = h.len in
    let long = h.long in
    let parts = length-append text behind in
    let cut : bucket_len_at rest - 16 ≡ length text = omega arith in
    let front : take (length text) (text ++ behind) ≡ text = take-append-le (length text) text behind (omega arith) ∙ take_all (length text) text (omega arith) in
    let there : actions_in rest ≡ text = ap (λ (k : ℕ). take k (drop 16 rest)) cut ∙ ap (λ (y : List ℕ). take (length text) y) h.rest_is ∙ front in
    let said : actions_said false (actions_in rest) ≡ Ok b.actions = ap (λ (y : List ℕ). actions_said false y) there ∙ actions_are false text b.actions None (canonical_encoded false b.actions served) in
    record {
      some = omega arith;
      none = none_refused seen rest b.actions few (omega arith) (omega arith) (omega arith) said;
      at = value_is b rest behind h said;
    }

says : (b : Bucket) (x : List ℕ) → has_numbers b ≡ true → are_supported false b.actions ≡ true → Says b (canonical_bucket b ++ x) x
unfolding canonical_bucket has_numbers
says b x numbers served =
    let r = canonical_bucket b ++ x in
    let short = (canonical_short false b.actions served).short in
    let weight : b.weight < 256 ^ 2 = grind (arith, nat_tests) in
    let port : b.watch_port < 256 ^ 4 = grind (arith, nat_tests) in
    let group : b.watch_group < 256 ^ 4 = grind (arith, nat_tests) in
    record {
      len = big_number-reads_back 2 (16 + length (canonical_actions b.actions)) (drop 2 r) (omega arith);
      weight = big_number-reads_back 2 b.weight (drop 4 r) weight;
      port = big_number-reads_back 4 b.watch_port (drop 8 r) port;
      group = big_number-reads_back 4 b.watch_group (drop 12 r) group;
      rest_is = refl;
      long = omega arith;
    }

bucket_again : (b : Bucket) (seen : List Bucket) (x : List ℕ) → length seen ≤ 15 → has_numbers b ≡ true → are_supported false b.actions ≡ true → Again buckets (canonical_bucket b) (fresh b) seen x
bucket_again b seen x few numbers served =
    let s = says b x numbers served in
    let h = read b seen (canonical_bucket b ++ x) x few served s in
    record { some = h.some; none = h.none; at = h.at; size = s.len ∙ sym (length_bucket b) }

-- counters are not written
same_text : (b : Bucket) → canonical_bucket (fresh b) ≡ canonical_bucket b
unfolding canonical_bucket
same_text b = refl

same_texts : (bs : List Bucket) → canonical_buckets (map fresh bs) ≡ canonical_buckets bs
same_texts [] = refl
same_texts (b ∷ bs) = ap (λ (t : List ℕ). t ++ canonical_buckets (map fresh bs)) (same_text b) ∙ ap (λ (t : List ℕ). canonical_bucket b ++ t) (same_texts bs)

all_again : (seen bs : List Bucket) → length seen + length bs ≤ 16 → list_all has_numbers bs ≡ true → list_all is_fit bs ≡ true → AllAgain buckets canonical_bucket seen (map fresh bs)
all_again seen [] few numbers fit = tt
all_again seen (b ∷ bs) few numbers fit =
    let this : has_numbers b ≡ true = grind (arith, nat_tests) in
    let others : list_all has_numbers bs ≡ true = grind (arith, nat_tests) in
    let served : are_supported false b.actions ≡ true = grind (arith, nat_tests) in
    let fit_others : list_all is_fit bs ≡ true = grind (arith, nat_tests) in (
      λ x. subst (λ (t : List ℕ). Again buckets t (fresh b) seen x) (sym (same_text b)) (bucket_again b seen x (omega arith) this served),
      all_again (seen ++ fresh b ∷ []) bs (omega (arith, length-append seen (fresh b ∷ []))) others fit_others,
    )

-- what is written is read as the buckets, without what is counted in them
pub buckets_again : (bs : List Bucket) → list_all has_numbers bs ≡ true → are_fit bs ≡ true → buckets_said (canonical_buckets bs) ≡ Ok (map fresh bs)
unfolding buckets_said
buckets_again bs numbers fit =
    let few : length bs ≤ 16 = grind (arith, nat_tests) in
    let all : list_all is_fit bs ≡ true = grind (arith, nat_tests) in
    let items : AreItems buckets [] (canonical_buckets (map fresh bs)) (map fresh bs) None = written_items buckets canonical_bucket [] (map fresh bs) (all_again [] bs (omega arith) numbers all) in
    let text : AreItems buckets [] (canonical_buckets bs) (map fresh bs) None = subst (λ (t : List ℕ). AreItems buckets [] t (map fresh bs) None) (same_texts bs) items in
    items_are buckets (length (canonical_buckets bs)) [] (canonical_buckets bs) (map fresh bs) None buckets_take (omega arith) text
