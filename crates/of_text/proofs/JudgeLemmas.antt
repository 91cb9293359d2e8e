-- Groups that are checked one after the other.
use Rattle.std.proofs.Common.{◌≡◌, ℕ, zero, suc, ◌+◌, ◌<◌, Bool, true, List, [], ◌∷◌, ◌++◌, length, take, drop, get_or, Option, Some, None, refl, sym, ◌∙◌, ap, append_assoc, arith}
use Rattle.std.{specs.Prelude.map, specs.Prelude.nat_lt, specs.List.AllByRecursion, specs.List.flat_map, proofs.lemmas.List.length-map, proofs.lemmas.List.get_or-map, proofs.lemmas.List.take-map}
use Rattle.of_wire.specs.{declared.code.Code.Code, Refusals.first_of, Refusals.refusal}
use Rattle.of_groups.specs.{declared.group.Group.Group, Buckets.are_fit, Buckets.any_sends, Groups.any_watches, Chains.chain, Faults.is_absent}
use Rattle.of_text.specs.Groups.{TextBucket, TextGroup, group_rows, buckets_of, group_at}
use Rattle.of_text.specs.Refusals.{or_else, list_refusals, buckets_refusals, group_refusals, counted_as, there_from, all_there, naming_refusals}
use Rattle.of_text.specs.{declared.group.BucketText.BucketText, declared.group.GroupText.GroupText, First.refused_group, Judging.told_refusals, Judging.kept_refusals, Judging.codes_from}
use Rattle.of_text.{specs.Views.view_bucket, specs.Views.view_group, specs.Views.view_groups, proofs.RefusalLemmas.first_append, proofs.RefusalLemmas.mapped_flat, proofs.EntryLemmas.none_next}
use Rattle.of_text.proofs.{GroupLemmas.buckets_fit, WriteLemmas.next_group}
use Rattle.of_lines.specs.Rows.{Fits}

in_parts : (place : ℕ) (g : TextGroup) → first_of (group_refusals place g) ≡ or_else (first_of (told_refusals g)) (first_of (kept_refusals place (group_at 0 g)))
unfolding group_refusals
in_parts place g = first_append (told_refusals g) (kept_refusals place (group_at 0 g))

abbrev pub bare : TextGroup → Group
bare g = record (group_at 0 g) { buckets = [] }

pub told_code : (place : ℕ) (g : TextGroup) (code : Code) → Some code ≡ first_of (told_refusals g) → Some code ≡ first_of (group_refusals place g)
told_code place g code h = sym (in_parts place g ∙ ap (λ (o : Option Code). or_else o (first_of (kept_refusals place (group_at 0 g)))) (sym h))

pub kept_code : (place : ℕ) (g : TextGroup) (o : Option Code) → None ≡ first_of (told_refusals g) → o ≡ first_of (kept_refusals place (group_at 0 g)) → o ≡ first_of (group_refusals place g)
kept_code place g o t k = k ∙ sym (in_parts place g ∙ ap (λ (x : Option Code). or_else x (first_of (kept_refusals place (group_at 0 g)))) (sym t))

pub refused_counts : (place : ℕ) (g : TextGroup) (code : Code) → Some code ≡ first_of (group_refusals place g) → bare g ≡ counted_as place g
refused_counts place g code h = rw (sym h) refl

pub kept_counts : (place : ℕ) (g : TextGroup) → None ≡ first_of (group_refusals place g) → group_at 0 g ≡ counted_as place g
kept_counts place g h = rw (sym h) refl

pub may_be_made : (g : TextGroup) → AllByRecursion Fits (group_rows g) → None ≡ first_of (told_refusals g) → are_fit (buckets_of g) ≡ true
may_be_made g f h = buckets_fit g.buckets f.1 (none_next _ (buckets_refusals g.buckets) (sym h)).1

-- ---- buckets

pub buckets_same : (bs : List BucketText) (each many r : Option Code) → each ≡ first_of (flat_map (λ (b : BucketText). list_refusals (view_bucket b).actions) (take 16 bs)) → many ≡ first_of ((nat_lt 16 (length bs), refusal 6 4) ∷ []) → r ≡ or_else each many → r ≡ first_of (buckets_refusals (map view_bucket bs))
unfolding buckets_refusals
buckets_same bs each many r e m h =
    let taken : take 16 (map view_bucket bs) ≡ map view_bucket (take 16 bs) = take-map view_bucket 16 bs in
    let first : each ≡ first_of (flat_map (λ (b : TextBucket). list_refusals b.actions) (take 16 (map view_bucket bs))) = e ∙ ap first_of (sym (mapped_flat (λ (b : TextBucket). list_refusals b.actions) view_bucket (take 16 bs)) ∙ ap (flat_map (λ (b : TextBucket). list_refusals b.actions)) (sym taken)) in
    let last : many ≡ first_of ((nat_lt 16 (length (map view_bucket bs)), refusal 6 4) ∷ []) = m ∙ ap (λ (n : ℕ). first_of ((nat_lt 16 n, refusal 6 4) ∷ [])) (sym (length-map bs view_bucket)) in
    h ∙ (rw (first, last) refl ∙ sym (first_append (flat_map (λ (b : TextBucket). list_refusals b.actions) (take 16 (map view_bucket bs))) ((nat_lt 16 (length (map view_bucket bs)), refusal 6 4) ∷ [])))

-- ---- group by group

pub there_next : (gs : List GroupText) (i : ℕ) (d : GroupText) (counted : Group) (old new all : List Group) → i < length gs → d ≡ get_or gs i d → counted ≡ counted_as i (view_group d) → new ≡ old ++ counted ∷ [] → old ++ there_from i (view_groups (drop i gs)) ≡ all → new ++ there_from (i + 1) (view_groups (drop (i + 1) gs)) ≡ all
there_next gs i d counted old new all lt is c n h =
    let rest = there_from (i + 1) (view_groups (drop (i + 1) gs)) in
    ap (λ (x : List Group). x ++ rest) n
    ∙ (append_assoc old (counted ∷ []) rest
    ∙ (ap (λ (x : Group). old ++ x ∷ rest) c
    ∙ (ap (λ (x : List TextGroup). old ++ there_from i x) (sym (next_group gs i d lt is)) ∙ h)))

pub codes_next : (gs : List GroupText) (i : ℕ) (d : GroupText) (code : Option Code) (old new all : List (Option Code)) → i < length gs → d ≡ get_or gs i d → code ≡ first_of (group_refusals i (view_group d)) → new ≡ old ++ code ∷ [] → old ++ codes_from i (view_groups (drop i gs)) ≡ all → new ++ codes_from (i + 1) (view_groups (drop (i + 1) gs)) ≡ all
codes_next gs i d code old new all lt is c n h =
    let rest = codes_from (i + 1) (view_groups (drop (i + 1) gs)) in
    ap (λ (x : List (Option Code)). x ++ rest) n
    ∙ (append_assoc old (code ∷ []) rest
    ∙ (ap (λ (x : Option Code). old ++ x ∷ rest) c
    ∙ (ap (λ (x : List TextGroup). old ++ codes_from i x) (sym (next_group gs i d lt is)) ∙ h)))

-- ---- at a place

pub length_there : (n : ℕ) (gs : List TextGroup) → length (there_from n gs) ≡ length gs
length_there n [] = refl
length_there n (g ∷ gs) = let others = length_there (n + 1) gs in omega (arith, others)

pub length_codes : (n : ℕ) (gs : List TextGroup) → length (codes_from n gs) ≡ length gs
length_codes n [] = refl
length_codes n (g ∷ gs) = let others = length_codes (n + 1) gs in omega (arith, others)

record Here (i : ℕ) (gs : List TextGroup) : Type 0 where
  pub group : TextGroup
  pub parts : drop i gs ≡ group ∷ drop (suc i) gs
  pub there : (n : ℕ) (d : Group) → get_or (there_from n gs) i d ≡ counted_as (n + i) group
  pub code : (n : ℕ) (d : Option Code) → get_or (codes_from n gs) i d ≡ first_of (group_refusals (n + i) group)

here : (i : ℕ) (gs : List TextGroup) → i < length gs → Here i gs
here i [] h = absurd (omega (arith, h))
here zero (g ∷ gs) h = record { group = g; parts = refl; there = λ n d. ap (λ (m : ℕ). counted_as m g) (omega arith); code = λ n d. ap (λ (m : ℕ). first_of (group_refusals m g)) (omega arith) }
here (suc i) (g ∷ gs) h =
    let k = here i gs (omega (arith, h)) in
    record {
      group = k.group;
      parts = k.parts;
      there = λ n d. k.there (n + 1) d ∙ ap (λ (m : ℕ). counted_as m k.group) (omega arith);
      code = λ n d. k.code (n + 1) d ∙ ap (λ (m : ℕ). first_of (group_refusals m k.group)) (omega arith);
    }

abbrev pub named_as : List Group → Group → ℕ → List (Bool × Code)
named_as there g n = (any_sends (is_absent there) g.buckets, refusal 2 9) ∷ (any_watches (is_absent there) g.kind g.buckets, refusal 6 13) ∷ (nat_lt 3 n, refusal 6 7) ∷ []

judged_same : (place : ℕ) (g : TextGroup) (there : List Group) (x : Group) (n : ℕ) (code named r : Option Code) → x ≡ counted_as place g → n ≡ chain there x.id → code ≡ first_of (group_refusals place g) → named ≡ first_of (named_as there x n) → r ≡ or_else code named → r ≡ first_of (group_refusals place g ++ naming_refusals there g)
unfolding naming_refusals
judged_same place g there x n code named r xs ns cs ms h = h ∙ (by_code code cs ∙ sym (first_append (group_refusals place g) (naming_refusals there g)))
  where
    by_code : (o : Option Code) → o ≡ first_of (group_refusals place g) → or_else o named ≡ or_else (first_of (group_refusals place g)) (first_of (naming_refusals there g))
    by_code (Some c) e = rw (sym e) refl
    by_code None e =
        let whole : x ≡ group_at 0 g = xs ∙ rw (sym e) refl in
        rw (sym e) (ms ∙ rw (ns, whole) refl)

-- the next group, and its refusal
pub record Next (gs : List TextGroup) (place : ℕ) (r : Option Code) : Type 0 where
  pub stops : (code : Code) → r ≡ Some code → refused_group (all_there gs) place (drop place gs) ≡ Some (place, code)
  pub goes_on : r ≡ None → refused_group (all_there gs) place (drop place gs) ≡ refused_group (all_there gs) (place + 1) (drop (place + 1) gs)

pub judged_next : (gs : List TextGroup) (there : List Group) (codes : List (Option Code)) (lengths : List ℕ) (place : ℕ) (x : Group) (code : Option Code) (n : ℕ) (named r : Option Code)
    → place < length gs → there ≡ all_there gs → codes ≡ codes_from 0 gs → lengths ≡ map (λ (g : Group). chain there g.id) there
    → x ≡ get_or there place x → code ≡ get_or codes place code → n ≡ get_or lengths place n → named ≡ first_of (named_as there x n) → r ≡ or_else code named → Next gs place r
judged_next gs there codes lengths place x code n named r lt ts cs ls xi ci ni ms h =
    let k = here place gs lt in
    let all = all_there gs in
    let zero_is : 0 + place ≡ place = omega arith in
    let one_is : suc place ≡ place + 1 = omega arith in
    let parts : drop place gs ≡ k.group ∷ drop (place + 1) gs = k.parts ∙ ap (λ (m : ℕ). k.group ∷ drop m gs) one_is in
    let x_is : x ≡ counted_as place k.group = xi ∙ (ap (λ (l : List Group). get_or l place x) ts ∙ (k.there 0 x ∙ ap (λ (m : ℕ). counted_as m k.group) zero_is)) in
    let code_is : code ≡ first_of (group_refusals place k.group) = ci ∙ (ap (λ (l : List (Option Code)). get_or l place code) cs ∙ (k.code 0 code ∙ ap (λ (m : ℕ). first_of (group_refusals m k.group)) zero_is)) in
    let within : place < length there = omega (arith, lt, ap length ts, length_there 0 gs) in
    let n_is : n ≡ chain there x.id = ni ∙ (ap (λ (l : List ℕ). get_or l place n) ls ∙ (get_or-map (λ (g : Group). chain there g.id) there place x n within ∙ ap (λ (g : Group). chain there g.id) (sym xi))) in
    let same : r ≡ first_of (group_refusals place k.group ++ naming_refusals there k.group) = judged_same place k.group there x n code named r x_is n_is code_is ms h in
    let mine : r ≡ first_of (group_refusals place k.group ++ naming_refusals all k.group) = same ∙ ap (λ (l : List Group). first_of (group_refusals place k.group ++ naming_refusals l k.group)) ts in
    record {
      stops = λ c e. rw (parts, sym mine, e) refl;
      goes_on = λ e. rw (parts, sym mine, e) refl;
    }
