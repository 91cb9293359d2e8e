-- A GROUP_MOD of a group of a text is refused with the text's code, where the message decides it.
use Rattle.std.proofs.Common.{◌≡◌, ℕ, suc, ◌+◌, ◌-◌, ◌^◌, ◌<◌, ◌≤◌, Bool, true, false, cond, ltb, List, [], ◌∷◌, ◌++◌, length, drop, map, take, Option, Some, None, Result, Ok, Err, refl, sym, ◌∙◌, ap, append_assoc, arith, zero-add}
use Rattle.std.specs.{Prelude.slice_index, List.AllByRecursion, List.flat_map}
use Rattle.std.proofs.{lemmas.Bool.le-ltb, lemmas.Bool.lt-ltb, lemmas.Bool.ltb-false, lemmas.Bool.ltb-true, lemmas.List.length-append, lemmas.List.take_at}
use Rattle.of_wire.specs.{declared.limits.TheConstants.OFPG_MAX, declared.code.Code.Code, Items.outcome, Refusals.first_of, Refusals.refusal}
use Rattle.byteorder.specs.{Endian.big_number, Numbers.big_number-reads_back}
use Rattle.of_formats.specs.{Reading.◌>>=◌, Structs.numbers}
use Rattle.of_formats.specs.Tables as tables
use Rattle.of_actions.{specs.declared.action.Action.Action, specs.Actions.actions_said, specs.CanonicalActions.canonical_actions, proofs.ActionsAgain.length-canonical}
use Rattle.of_groups.specs.{declared.bucket.Bucket.Bucket, Groups.kind_number}
use Rattle.of_messages.specs.Buckets.{actions_in, bucket_of_bytes, bucket_with, buckets, buckets_said, actions_fault, bucket_len_at}
use Rattle.of_messages.specs.CanonicalGroups.{canonical_bucket, canonical_buckets, group_add_bytes, group_add_fixed_part}
use Rattle.of_messages.specs.{GroupMods.group_mod_of, GroupMods.group_of, GroupMods.group_kind_of, Heads.header_length, Heads.type_of, Heads.version_of, Messages.message_of}
use Rattle.of_messages.specs.declared.group_mod.NewGroup.{NewGroup}
use Rattle.of_build.specs.Listing.{new_of}
use Rattle.of_text.specs.{Groups.TextBucket, Groups.TextGroup, Groups.bucket_of, Groups.buckets_of, Refusals.buckets_refusals, Refusals.list_refusals, Refusals.or_else}
use Rattle.of_text.proofs.RefusalLemmas.{first_append}
use Rattle.of_laws.proofs.Refusing.{AreSteps, IsStep, actions_told, take-nil, walk, walked}
use Rattle.of_laws.{specs.Refused.IsSaidBucket, specs.Refused.IsSaidGroup, specs.Refused.group_outcome, specs.Refused.said_refusals, proofs.BucketTails.bucket_left}
use Rattle.of_laws.proofs.{Heads.as_group_mod, Heads.body_by, Heads.group_mod, Only.of_kind, OnlyLarge.as_add, OnlyLarge.by_add, OnlyLarge.kind_again, WrittenRequests.kind_same}

-- ---- one bucket

unfoldable own_bucket : List Bucket → Bucket → List (Bool × Code)
own_bucket seen b = (ltb 15 (length seen), refusal 6 4) ∷ list_refusals b.actions

fault_first : (actions : List Action) (o : Option Code) → first_of (actions_fault (outcome actions o)) ≡ o
fault_first actions None = refl
fault_first actions (Some code) = refl

-- what the bytes of a bucket say
record Holds (b : TextBucket) (rest : List ℕ) : Type 0 where
  len : bucket_len_at rest ≡ 16 + length (canonical_actions b.actions)
  long : 16 + length (canonical_actions b.actions) ≤ length rest
  weight : big_number 2 (drop 2 rest) ≡ b.head.weight
  port : big_number 4 (drop 4 rest) ≡ b.head.watch_port
  group : big_number 4 (drop 8 rest) ≡ b.head.watch_group
  actions : actions_in rest ≡ canonical_actions b.actions

holds : (b : TextBucket) (x : List ℕ) → IsSaidBucket b → length (canonical_actions b.actions) < 65520 → Holds b (canonical_bucket (bucket_of b) ++ x)
unfolding canonical_bucket
holds b x fits short =
    let acts = canonical_actions b.actions in
    let rest = canonical_bucket (bucket_of b) ++ x in
    let len : bucket_len_at rest ≡ 16 + length acts = big_number-reads_back 2 (16 + length acts) (drop 2 rest) (omega (arith, short)) in
    record {
      len = len;
      long = omega (arith, length-append acts x);
      weight = big_number-reads_back 2 b.head.weight (drop 4 rest) (omega (arith, fits.0.0));
      port = big_number-reads_back 4 b.head.watch_port (drop 8 rest) (omega (arith, fits.0.1));
      group = big_number-reads_back 4 b.head.watch_group (drop 12 rest) (omega (arith, fits.0.2));
      actions = take_at acts x (bucket_len_at rest - 16) (omega (arith, len));
    }

said_in : (b : TextBucket) (rest : List ℕ) → Holds b rest → IsSaidBucket b → actions_said false (actions_in rest) ≡ outcome b.actions (first_of (list_refusals b.actions))
said_in b rest h fits = ap (actions_said false) h.actions ∙ actions_told b.actions fits.1

own_none : (t : Bool) (rs : List (Bool × Code)) → first_of ((t, refusal 6 4) ∷ rs) ≡ None → first_of rs ≡ None
own_none true rs none = absurd cc
own_none false rs none = none

same_bucket : (b : TextBucket) (rest : List ℕ) → Holds b rest → bucket_with (numbers tables.bucket 0 rest) (Ok b.actions) ≡ Some (bucket_of b)
same_bucket b rest h = ap Some (λ i. record { weight = h.weight i; watch_port = h.port i; watch_group = h.group i; actions = b.actions; packets = 0; bytes = 0 })

bucket_step : (seen : List Bucket) (b : TextBucket) (x : List ℕ) → IsSaidBucket b → length (canonical_actions b.actions) < 65520 → IsStep buckets canonical_bucket own_bucket seen (bucket_of b) x
unfolding own_bucket bucket_of_bytes canonical_bucket
bucket_step seen b x fits short =
    let rest = canonical_bucket (bucket_of b) ++ x in
    let h = holds b x fits short in
    let eights = (length-canonical b.actions).eights in
    let said = said_in b rest h fits in
    let refused = first_of (list_refusals b.actions) in
    record {
      some = omega arith;
      first =
          bucket_left seen rest (16 + length (canonical_actions b.actions)) h.len (omega arith) (omega (arith, eights)) h.long
          ∙ ap (λ (r : Result (List Action) Code). first_of ((ltb 15 (length seen), refusal 6 4) ∷ actions_fault r)) said
          ∙ ap (λ (o : Option Code). cond (ltb 15 (length seen)) (Some (refusal 6 4)) o) (fault_first b.actions refused);
      at = λ none. ap (bucket_with (numbers tables.bucket 0 rest)) (said ∙ ap (outcome b.actions) (own_none (ltb 15 (length seen)) (list_refusals b.actions) none)) ∙ same_bucket b rest h;
      size = λ none. h.len ∙ omega arith;
    }

-- ---- buckets

actions_shorter : (b : TextBucket) → length (canonical_bucket (bucket_of b)) < 65520 → length (canonical_actions b.actions) < 65520
unfolding canonical_bucket
actions_shorter b short = omega (arith, short)

bucket_steps : (seen : List Bucket) (bs : List TextBucket) → AllByRecursion IsSaidBucket bs → length (canonical_buckets (map bucket_of bs)) < 65520 → AreSteps buckets canonical_bucket own_bucket seen (map bucket_of bs)
bucket_steps seen [] fits short = tt
bucket_steps seen (b ∷ bs) fits short =
    let parts = length-append (canonical_bucket (bucket_of b)) (canonical_buckets (map bucket_of bs)) in
    (λ x. bucket_step seen b x fits.0 (actions_shorter b (omega (arith, short, parts))), bucket_steps (seen ++ bucket_of b ∷ []) bs fits.1 (omega (arith, short, parts)))

-- the refusals of buckets, after so many others
abbrev of_bucket : TextBucket → List (Bool × Code)
of_bucket b = list_refusals b.actions

abbrev buckets_after : ℕ → List TextBucket → List (Bool × Code)
buckets_after n bs = flat_map of_bucket (take (16 - n) bs) ++ (ltb 16 (n + length bs), refusal 6 4) ∷ []

buckets_same : (seen : List Bucket) (bs : List TextBucket) → length seen ≤ 16 → first_of (walked own_bucket seen (map bucket_of bs)) ≡ first_of (buckets_after (length seen) bs)
unfolding own_bucket
buckets_same seen [] few =
    let none : take {A = TextBucket} (16 - length seen) [] ≡ [] = take-nil (16 - length seen) in
    let low : ltb 16 (length seen + 0) ≡ false = le-ltb _ _ (omega (arith, few)) in
    sym (ap (λ (xs : List TextBucket). first_of (flat_map of_bucket xs ++ (ltb 16 (length seen + 0), refusal 6 4) ∷ [])) none ∙ rw low refl)
buckets_same seen (b ∷ bs) few = by_count (ltb 15 (length seen)) refl (buckets_same (seen ++ bucket_of b ∷ []) bs)
  where
    by_count : (t : Bool) → ltb 15 (length seen) ≡ t → (length (seen ++ bucket_of b ∷ []) ≤ 16 → first_of (walked own_bucket (seen ++ bucket_of b ∷ []) (map bucket_of bs)) ≡ first_of (buckets_after (length (seen ++ bucket_of b ∷ [])) bs))
        → first_of (own_bucket seen (bucket_of b) ++ walked own_bucket (seen ++ bucket_of b ∷ []) (map bucket_of bs)) ≡ first_of (buckets_after (length seen) (b ∷ bs))
    by_count true many others =
        let full : length seen ≡ 16 = let over = ltb-true 15 (length seen) many in omega (arith, few, over) in
        let over : ltb 16 (16 + suc (length bs)) ≡ true = lt-ltb _ _ (omega arith) in
        let left : first_of (own_bucket seen (bucket_of b) ++ walked own_bucket (seen ++ bucket_of b ∷ []) (map bucket_of bs)) ≡ Some (refusal 6 4) = rw many refl in
        let right : first_of (buckets_after 16 (b ∷ bs)) ≡ Some (refusal 6 4) = rw over refl in
        left ∙ sym (ap (λ (n : ℕ). first_of (buckets_after n (b ∷ bs))) full ∙ right)
    by_count false room others =
        let low = ltb-false 15 (length seen) room in
        let more : length (seen ++ bucket_of b ∷ []) ≡ length seen + 1 = length-append seen (bucket_of b ∷ []) in
        let A = of_bucket b in
        let W = walked own_bucket (seen ++ bucket_of b ∷ []) (map bucket_of bs) in
        let F = flat_map of_bucket (take (15 - length seen) bs) in
        let one_less : 16 - (length seen + 1) ≡ 15 - length seen = omega arith in
        let total : length seen + 1 + length bs ≡ length seen + suc (length bs) = omega arith in
        let one_more : 16 - length seen ≡ suc (15 - length seen) = omega (arith, low) in
        let last : List (Bool × Code) = (ltb 16 (length seen + suc (length bs)), refusal 6 4) ∷ [] in
        let left : first_of (own_bucket seen (bucket_of b) ++ W) ≡ or_else (first_of A) (first_of W) = rw room (first_append A W) in
        let behind : first_of (buckets_after (length (seen ++ bucket_of b ∷ [])) bs) ≡ first_of (F ++ last) =
        ap (λ (n : ℕ). first_of (buckets_after n bs)) more
        ∙ ap (λ (k : ℕ). first_of (flat_map of_bucket (take k bs) ++ (ltb 16 (length seen + 1 + length bs), refusal 6 4) ∷ [])) one_less
        ∙ ap (λ (k : ℕ). first_of (F ++ (ltb 16 k, refusal 6 4) ∷ [])) total in
        let front : first_of (buckets_after (length seen) (b ∷ bs)) ≡ first_of ((A ++ F) ++ last) = ap (λ (k : ℕ). first_of (flat_map of_bucket (take k (b ∷ bs)) ++ last)) one_more in
        let right : first_of ((A ++ F) ++ last) ≡ or_else (first_of A) (first_of (F ++ last)) = ap first_of (append_assoc A F last) ∙ first_append A (F ++ last) in
        left ∙ ap (or_else (first_of A)) (others (omega (arith, more, low)) ∙ behind) ∙ sym (front ∙ right)

buckets_told : (bs : List TextBucket) → AllByRecursion IsSaidBucket bs → length (canonical_buckets (map bucket_of bs)) < 65520 → buckets_said (canonical_buckets (map bucket_of bs)) ≡ outcome (map bucket_of bs) (first_of (buckets_refusals bs))
unfolding buckets_said buckets_refusals
buckets_told bs fits short =
    walk buckets canonical_bucket own_bucket (length (canonical_buckets (map bucket_of bs))) [] (map bucket_of bs) (omega arith) (bucket_steps [] bs fits short)
    ∙ ap (outcome (map bucket_of bs)) (buckets_same [] bs (omega arith) ∙ ap (λ (n : ℕ). first_of (flat_map of_bucket (take 16 bs) ++ (ltb 16 n, refusal 6 4) ∷ [])) (zero-add (length bs)))

-- ---- the message

record Says (g : NewGroup) (m : List ℕ) : Type 0 where
  version : version_of m ≡ 4
  type : type_of m ≡ 15
  size : header_length m ≡ length m
  long : 16 ≤ length m
  command : big_number 2 (drop 8 m) ≡ 0
  kind : slice_index m 10 ≡ kind_number g.kind
  number : big_number 4 (drop 12 m) ≡ g.id
  buckets : drop 16 m ≡ canonical_buckets g.buckets

says : (xid : ℕ) (g : NewGroup) → g.id < 256 ^ 4 → length (canonical_buckets g.buckets) < 65520 → Says g (group_add_bytes xid g)
unfolding group_add_fixed_part
says xid g number short =
    let m = group_add_bytes xid g in
    let body = group_add_fixed_part g ++ canonical_buckets g.buckets in
    let long : length m ≡ 16 + length (canonical_buckets g.buckets) = omega arith in
    let size : 8 + length body ≡ length m = omega arith in
    record {
      version = refl;
      type = refl;
      size = big_number-reads_back 2 (8 + length body) (drop 4 m) (omega arith) ∙ size;
      long = omega arith;
      command = refl;
      kind = refl;
      number = big_number-reads_back 4 g.id (drop 16 m) number;
      buckets = refl;
    }

abbrev new_outcome : NewGroup → Option Code → Result NewGroup Code
new_outcome g None = Ok g
new_outcome g (Some code) = Err code

abbrev with_buckets : TextGroup → Result (List Bucket) Code → Result NewGroup Code
with_buckets g r = r >>= λ bs. Ok (record { id = g.head.id; kind = g.head.kind; buckets = bs })

with_outcome : (g : TextGroup) (o : Option Code) → with_buckets g (outcome (buckets_of g) o) ≡ new_outcome (new_of g) o
with_outcome g None = refl
with_outcome g (Some code) = refl

group_there : (g : TextGroup) → IsSaidGroup g → group_of (kind_number g.head.kind) g.head.id (canonical_buckets (buckets_of g)) ≡ new_outcome (new_of g) (first_of (said_refusals g))
group_there g w = by_number (ltb OFPG_MAX g.head.id) refl
  where
    by_number : (t : Bool) → ltb OFPG_MAX g.head.id ≡ t → group_of (kind_number g.head.kind) g.head.id (canonical_buckets (buckets_of g)) ≡ new_outcome (new_of g) (first_of (said_refusals g))
    by_number true over = rw over refl
    by_number false under =
        let kind : group_kind_of (kind_number g.head.kind) ≡ Some g.head.kind = ap group_kind_of (kind_same g.head.kind) ∙ kind_again g.head.kind in
        let told = buckets_told g.buckets w.buckets w.short in
        rw (under, kind, told) (with_outcome g (first_of (buckets_refusals g.buckets)))

mod_is : (g : NewGroup) (m : List ℕ) → Says g m → group_mod_of m ≡ as_add (group_of (kind_number g.kind) g.id (canonical_buckets g.buckets))
mod_is g m h = by_add m h.command ∙ rw (h.kind, h.number, h.buckets) refl

body_is : (g : NewGroup) (m : List ℕ) → Says g m → message_of m ≡ as_group_mod (group_mod_of m)
unfolding body_by
body_is g m h =
    let long = h.long in
    of_kind group_mod m (omega (arith, long)) h.version h.type h.size (le-ltb _ _ long) refl

as_message : (g : NewGroup) (o : Option Code) → as_group_mod (as_add (new_outcome g o)) ≡ group_outcome g o
as_message g None = refl
as_message g (Some code) = refl

pub group_told : (xid : ℕ) (g : TextGroup) → IsSaidGroup g → message_of (group_add_bytes xid (new_of g)) ≡ group_outcome (new_of g) (first_of (said_refusals g))
group_told xid g w =
    let m = group_add_bytes xid (new_of g) in
    let h = says xid (new_of g) w.number w.short in
    body_is (new_of g) m h
    ∙ ap as_group_mod (mod_is (new_of g) m h ∙ ap as_add (group_there g w))
    ∙ as_message (new_of g) (first_of (said_refusals g))
