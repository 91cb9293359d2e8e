-- Buckets that were computed from bytes are those that the bytes are, and back.
use Rattle.std.proofs.Common.{◌≡◌, ℕ, ◌+◌, ◌-◌, ◌%◌, ◌≤◌, Bool, true, false, not, ltb, eqb, List, [], ◌∷◌, ◌++◌, length, take, drop, Some, None, Result, Ok, Err, refl, sym, ap, subst, ◌∙◌, arith}
use Rattle.std.proofs.lemmas.List.{length-append, length-take, length-drop, drop-drop, take-append-drop, take_at, drop_at}
use Rattle.std.{specs.Prelude.IsSome, specs.Prelude.◌||◌, proofs.lemmas.Bool.le-ltb, proofs.lemmas.Bool.eq-eqb, proofs.lemmas.Bool.Decides.nat_tests}
use Rattle.byteorder.specs.Endian.{big_number}
use Rattle.of_wire.{specs.declared.code.Code.Code, specs.Refusals.first_of, specs.Refusals.refusal, specs.Items.AreItems, proofs.FirstLemmas.none_applies, proofs.ItemsRead.items_are}
use Rattle.of_wire.proofs.Numbers.{IsBytes, IsBytes-drop}
use Rattle.of_actions.{specs.declared.action.Action.Action, specs.Actions.actions_said, proofs.ActionsComputed.actions_are}
use Rattle.of_groups.specs.declared.bucket.Bucket.{Bucket}
use Rattle.of_messages.specs.Buckets.{buckets, bucket_of_bytes, bucket_with, bucket_refusals, buckets_said, actions_in, actions_fault, bucket_len_at}
use Rattle.of_messages.proofs.BucketLemmas.{buckets_take}
use Rattle.of_formats.specs.Structs.{numbers}
use Rattle.of_formats.specs.Tables as tables
use Rattle.of_laws.{specs.Buckets.bucket_cells, specs.Buckets.BeginsWithBucket, specs.Buckets.AreBuckets, proofs.ActionTails.behind_none, proofs.ActionTails.actions_found}
use Rattle.of_laws.proofs.{Items.HasValues, Items.are_items, Places.says, Places.rest_is, Places.size_is, Places.front_of}

-- ---- from buckets to bytes

-- over a variable, where nothing has computed to bytes yet
pub bucket_left : (seen : List Bucket) (rest : List ℕ) (n : ℕ) → bucket_len_at rest ≡ n → 16 ≤ n → n % 8 ≡ 0 → n ≤ length rest
    → first_of (bucket_refusals seen rest) ≡ first_of ((ltb 15 (length seen), refusal 6 4) ∷ actions_fault (actions_said false (actions_in rest)))
unfolding bucket_refusals
bucket_left seen rest n len low eights whole =
    let short : ltb (length rest) 16 ≡ false = le-ltb _ _ (omega (arith, low, whole)) in
    let low' : ltb n 16 ≡ false = le-ltb _ _ low in
    let eight' : eqb (n % 8) 0 ≡ true = eq-eqb _ _ eights in
    let whole' : ltb (length rest) n ≡ false = le-ltb _ _ whole in
    let third : ((ltb (bucket_len_at rest) 16 || not (eqb (bucket_len_at rest % 8) 0)) || ltb (length rest) (bucket_len_at rest)) ≡ false =
    ap (λ (k : ℕ). (ltb k 16 || not (eqb (k % 8) 0)) || ltb (length rest) k) len ∙ ap (λ (b : Bool). (b || not (eqb (n % 8) 0)) || ltb (length rest) n) low' ∙ ap (λ (b : Bool). not b || ltb (length rest) n) eight' ∙ whole' in
    ap (λ (s : Bool). first_of ((ltb 15 (length seen), refusal 6 4) ∷ (s, refusal 6 12) ∷ ((ltb (bucket_len_at rest) 16 || not (eqb (bucket_len_at rest % 8) 0)) || ltb (length rest) (bucket_len_at rest), refusal 6 12) ∷ actions_fault (actions_said false (actions_in rest)))) short
    ∙ ap (λ (s : Bool). first_of ((ltb 15 (length seen), refusal 6 4) ∷ (false, refusal 6 12) ∷ (s, refusal 6 12) ∷ actions_fault (actions_said false (actions_in rest)))) third

none_refused : (seen : List Bucket) (rest : List ℕ) (n : ℕ) (actions : List Action) → length seen ≤ 15 → bucket_len_at rest ≡ n → 16 ≤ n → n % 8 ≡ 0 → n ≤ length rest → actions_said false (actions_in rest) ≡ Ok actions → first_of (bucket_refusals seen rest) ≡ None
none_refused seen rest n actions few len low eights whole said =
    let room : ltb 15 (length seen) ≡ false = le-ltb _ _ few in
    bucket_left seen rest n len low eights whole ∙ rw room (ap (λ (r : Result (List Action) Code). first_of (actions_fault r)) said)

-- what bytes say that begin with a bucket
record Begun (b : Bucket) (rest after : List ℕ) : Type 0 where
  len : bucket_len_at rest ≡ 16 + length (actions_in rest)
  long : 16 + length (actions_in rest) ≤ length rest
  eights : (16 + length (actions_in rest)) % 8 ≡ 0
  said : actions_said false (actions_in rest) ≡ Ok b.actions
  at : bucket_of_bytes rest ≡ Some b
  behind : drop (bucket_len_at rest) rest ≡ after

unused : (b : Bucket) (n k : ℕ) → b.packets ≡ n → b.bytes ≡ k → record { weight = b.weight; watch_port = b.watch_port; watch_group = b.watch_group; actions = b.actions; packets = n; bytes = k } ≡ b
unused b n k packets bytes = rw (← packets, ← bytes) refl

begun : (b : Bucket) (rest after : List ℕ) → BeginsWithBucket b rest after → Begun b rest after
unfolding bucket_of_bytes
begun b rest after h =
    let actions = h.actions in
    let cells = bucket_cells (16 + length actions) b in
    let s = says 0 cells rest rest (actions ++ after) refl h.front in
    let len : bucket_len_at rest ≡ 16 + length actions = s.0 in
    let tail : actions ++ after ≡ drop 16 rest = rest_is cells rest (actions ++ after) h.front in
    let long : length rest ≡ 16 + length (actions ++ after) = size_is cells rest (actions ++ after) h.front in
    let there : actions_in rest ≡ actions = ap (λ (x : List ℕ). take (bucket_len_at rest - 16) x) (sym tail) ∙ take_at actions after (bucket_len_at rest - 16) (omega arith) in
    let said : actions_said false (actions_in rest) ≡ Ok b.actions = ap (actions_said false) there ∙ actions_are false actions b.actions None h.are in
    let whole : bucket_len_at rest ≡ length actions + 16 = omega arith in
    let behind : drop (bucket_len_at rest) rest ≡ after = ap (λ (n : ℕ). drop n rest) (len ∙ omega arith) ∙ sym (drop-drop (length actions) 16 rest) ∙ ap (drop (length actions)) (sym tail) ∙ drop_at actions after (length actions) refl in
    record {
      len = len ∙ ap (λ (x : List ℕ). 16 + length x) (sym there);
      long = omega (arith, ap length there, length-append actions after);
      eights = ap (λ (x : List ℕ). (16 + length x) % 8) there ∙ h.eights;
      said = said;
      at = rw (said, s.1.0, s.1.1.0, s.1.1.1.0) (ap Some (unused b 0 0 h.packets h.bytes_used));
      behind = behind;
    }

items_of_buckets : (seen bs : List Bucket) (bytes : List ℕ) → length seen + length bs ≤ 16 → AreBuckets bs bytes → AreItems buckets seen bytes bs None
items_of_buckets seen [] bytes few h = subst (λ (x : List ℕ). AreItems buckets seen x [] None) (sym h) refl
items_of_buckets seen (b ∷ bs) bytes few h =
    let g = begun b bytes h.0 h.1 in
    let long = g.long in
    let none = none_refused seen bytes (16 + length (actions_in bytes)) b.actions (omega arith) g.len (omega arith) g.eights g.long g.said in
    let others = items_of_buckets (seen ++ b ∷ []) bs h.0 (omega (arith, length-append seen (b ∷ []))) h.2 in
    (omega arith, none, g.at, subst (λ (x : List ℕ). AreItems buckets (seen ++ b ∷ []) x bs None) (sym g.behind) others)

pub buckets_only : (bs : List Bucket) (bytes : List ℕ) → length bs ≤ 16 → AreBuckets bs bytes → buckets_said bytes ≡ Ok bs
unfolding buckets_said
buckets_only bs bytes few h = items_are buckets (length bytes) [] bytes bs None buckets_take (omega arith) (items_of_buckets [] bs bytes (omega arith) h)

-- ---- from bytes to buckets

some_bucket : (rest : List ℕ) (r : Result (List Action) Code) → first_of (actions_fault r) ≡ None → IsSome (bucket_with (numbers tables.bucket 0 rest) r)
some_bucket rest (Ok actions) h = refl
some_bucket rest (Err code) h = absurd cc

buckets_have : HasValues buckets
unfolding bucket_refusals bucket_of_bytes
buckets_have seen bytes some none = some_bucket bytes (actions_said false (actions_in bytes)) (behind_none 3 (bucket_refusals seen bytes) none)

-- what holds of a bucket that is not refused
record Passes (seen : List Bucket) (rest : List ℕ) : Type 0 where
  few : length seen ≤ 15
  low : 16 ≤ bucket_len_at rest
  eights : bucket_len_at rest % 8 ≡ 0
  long : bucket_len_at rest ≤ length rest

passes : (seen : List Bucket) (rest : List ℕ) → first_of (bucket_refusals seen rest) ≡ None → Passes seen rest
unfolding bucket_refusals
passes seen rest none =
    let n = none_applies (bucket_refusals seen rest) none in
    let room = n.0 in
    let fits : ((ltb (bucket_len_at rest) 16 || not (eqb (bucket_len_at rest % 8) 0)) || ltb (length rest) (bucket_len_at rest)) ≡ false = n.1.1.0 in
    record { few = grind (arith, nat_tests); low = grind (arith, nat_tests); eights = grind (arith, nat_tests); long = grind (arith, nat_tests) }

bucket_found : (b : Bucket) (seen : List Bucket) (rest : List ℕ) → IsBytes rest → Passes seen rest → bucket_of_bytes rest ≡ Some b → BeginsWithBucket b rest (drop (bucket_len_at rest) rest)
unfolding bucket_of_bytes
bucket_found b seen rest fits p at = by_actions (actions_said false (actions_in rest)) refl at
  where
    by_actions : (r : Result (List Action) Code) → actions_said false (actions_in rest) ≡ r → bucket_with (numbers tables.bucket 0 rest) r ≡ Some b → BeginsWithBucket b rest (drop (bucket_len_at rest) rest)
    by_actions (Err code) said e = absurd cc
    by_actions (Ok actions) said e =
        let made : Bucket = record { weight = big_number 2 (drop 2 rest); watch_port = big_number 4 (drop 4 rest); watch_group = big_number 4 (drop 8 rest); actions = actions; packets = 0; bytes = 0 } in
        let same : made ≡ b = cc in
        let low = p.low in
        let long = p.long in
        let size : length (actions_in rest) ≡ bucket_len_at rest - 16 = omega (arith, length-take (bucket_len_at rest - 16) (drop 16 rest), length-drop 16 rest) in
        let whole : 16 + length (actions_in rest) ≡ bucket_len_at rest = omega arith in
        let after : drop (bucket_len_at rest - 16) (drop 16 rest) ≡ drop (bucket_len_at rest) rest = drop-drop (bucket_len_at rest - 16) 16 rest ∙ ap (λ (n : ℕ). drop n rest) (omega arith) in
        let tail : drop 16 rest ≡ actions_in rest ++ drop (bucket_len_at rest) rest = sym (take-append-drop (bucket_len_at rest - 16) (drop 16 rest)) ∙ ap (λ (x : List ℕ). actions_in rest ++ x) after in
        let cells = bucket_cells (16 + length (actions_in rest)) made in
        let front = front_of cells rest fits (omega arith) (sym whole, (refl, (refl, (refl, tt)))) in
        subst (λ (x : Bucket). BeginsWithBucket x rest (drop (bucket_len_at rest) rest)) same (record {
          actions = actions_in rest;
          front = rw (← tail) front;
          are = actions_found false (actions_in rest) actions said;
          eights = ap (λ (n : ℕ). n % 8) whole ∙ p.eights;
          packets = refl;
          bytes_used = refl;
        })

record Found (seen bs : List Bucket) (bytes : List ℕ) : Type 0 where
  are : AreBuckets bs bytes
  few : length seen ≤ 16 → length seen + length bs ≤ 16

buckets_of_items : (seen bs : List Bucket) (bytes : List ℕ) → IsBytes bytes → AreItems buckets seen bytes bs None → Found seen bs bytes
buckets_of_items seen [] [] fits h = record { are = refl; few = λ few. omega arith }
buckets_of_items seen [] (x ∷ xs) fits h = let none : false ≡ true = h.1 in absurd cc
buckets_of_items seen (b ∷ bs) bytes fits h =
    let p = passes seen bytes h.1 in
    let after = drop (bucket_len_at bytes) bytes in
    let others = buckets_of_items (seen ++ b ∷ []) bs after (IsBytes-drop (bucket_len_at bytes) bytes fits) h.3 in
    let room = p.few in
    let more : length (seen ++ b ∷ []) ≡ length seen + 1 = length-append seen (b ∷ []) in
    let rest = others.few (omega arith) in
    record { are = (after, bucket_found b seen bytes fits p h.2, others.are); few = λ few. omega arith }

pub record Bucketed (bs : List Bucket) (bytes : List ℕ) : Type 0 where
  pub are : AreBuckets bs bytes
  pub few : length bs ≤ 16

pub buckets_found : (bs : List Bucket) (bytes : List ℕ) → IsBytes bytes → buckets_said bytes ≡ Ok bs → Bucketed bs bytes
unfolding buckets_said
buckets_found bs bytes fits h =
    let f = buckets_of_items [] bs bytes fits (are_items buckets bytes bs buckets_take buckets_have h) in
    let few = f.few (omega arith) in
    record { are = f.are; few = omega arith }
