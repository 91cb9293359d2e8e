-- Rows stay right where entries change.
use Rattle.std.proofs.Common.{◌≡◌, ℕ, Bool, true, false, cond, eqb, not, List, [], ◌∷◌, ◌++◌, Option, Some, None, refl, sym, ◌∙◌, ap, subst, arith}
use Rattle.std.{specs.Prelude.nat_lt, specs.Prelude.nat_le, specs.Prelude.bit_and, specs.Prelude.◌&&◌, proofs.lemmas.Nat.Bits.bit_at_and, proofs.lemmas.Nat.Bits.same_from_bits}
use Rattle.std.proofs.{lemmas.Bool.eq-eqb, lemmas.Bool.Decides.nat_tests}
use Rattle.of_layers.specs.declared.field.Field.{Field}
use Rattle.of_headers.specs.{declared.key.FieldKey.FieldKey, FieldMap.value, FieldMap.seen}
use Rattle.of_wire.{specs.Numbered.without, specs.Numbered.moved_to_end, proofs.HighestLemmas.better}
use Rattle.of_oxm.specs.{declared.match_field.MatchField.MatchField, declared.masks.FieldMask.FieldMask, NormalForm.IsMatch, Masks.mask_at, Masks.Agree}
use Rattle.of_classifier.specs.{declared.Row.Row, Rows.row_number, Rows.row_priority, Rows.made_row, Winner.is_matching, Winner.winner_of, Winner.winner_number, Scanning.pair_of}
use Rattle.of_cache.specs.Kept.{IsSoundRegion, AreSoundRegions, is_answer, is_beaten, not_answering, not_beaten}
use Rattle.of_cache.specs.Regions.{AnsweredRegion, IsRegion, meets, region_of}
use Rattle.of_cache.proofs.{Winning.winner-push, Winning.winner-without, Winning.winner-moved, Winning.of_filter, Meeting.met}

-- ---- an entry is added

unbeaten : (w : Option Row) (r : Row) (a : Option (ℕ × ℕ)) → pair_of w ≡ a → is_beaten r.priority a ≡ false → pair_of (better row_priority w r) ≡ a
unbeaten None r a e f = absurd (let g : is_beaten r.priority None ≡ false = subst (λ (o : Option (ℕ × ℕ)). is_beaten r.priority o ≡ false) (sym e) f in let t : true ≡ false = g in cc)
unbeaten (Some b) r a e f =
    let g : nat_lt b.priority r.priority ≡ false = subst (λ (o : Option (ℕ × ℕ)). is_beaten r.priority o ≡ false) (sym e) f in
    let t : nat_le r.priority b.priority ≡ true = grind (arith, nat_tests) in
    rw t e

-- what stays though its region is met is not beaten
not_both : (a b : Bool) → not (a && b) ≡ true → b ≡ true → a ≡ false
not_both false b h e = refl
not_both true b h e = absurd (let t : not true ≡ true = subst (λ (c : Bool). not c ≡ true) e h in cc)

added_right : (content : List Row) (row : AnsweredRegion) (r : Row) → IsMatch r.fields → not (is_beaten r.priority row.1 && meets r.fields row.0) ≡ true → IsSoundRegion content row → IsSoundRegion (content ++ r ∷ []) row
added_right content row r fine stays sound map h = ap pair_of (winner-push content map r) ∙ by_test (is_matching map r) refl
  where
    by_test : (m : Bool) → is_matching map r ≡ m → pair_of (cond m (better row_priority (winner_of content map) r) (winner_of content map)) ≡ row.1
    by_test true e = unbeaten (winner_of content map) r row.1 (sound map h) (not_both (is_beaten r.priority row.1) (meets r.fields row.0) stays (met r.fields row.0 map fine h e))
    by_test false e = sound map h

pub stays_added : (content : List Row) (rows : List AnsweredRegion) (number priority : ℕ) (m : List MatchField) → IsMatch m → AreSoundRegions content rows → AreSoundRegions (content ++ made_row number priority m ∷ []) (not_beaten m priority rows)
stays_added content rows number priority m fine s = record {
  right = λ row c. (let o = of_filter (λ (x : AnsweredRegion). not (is_beaten priority x.1 && meets m x.0)) rows row c in added_right content row (made_row number priority m) fine o.1 (s.right row o.0));
  regions = λ row c. s.regions row (of_filter (λ (x : AnsweredRegion). not (is_beaten priority x.1 && meets m x.0)) rows row c).0;
}

-- ---- an entry is removed, or becomes the youngest

not_answered : (w : Option Row) (a : Option (ℕ × ℕ)) (n : ℕ) → pair_of w ≡ a → not (is_answer n a) ≡ true → winner_number w ≡ Some n → ⊥
not_answered None a n e f s = let t : None ≡ Some n = s in cc
not_answered (Some r) a n e f s =
    let same : r.number ≡ n = cc in
    let g : not (eqb r.number n) ≡ true = subst (λ (o : Option (ℕ × ℕ)). not (is_answer n o) ≡ true) (sym e) f in
    let t : not true ≡ true = subst (λ (b : Bool). not b ≡ true) (eq-eqb r.number n same) g in
    cc

pub stays_removed : (content : List Row) (rows : List AnsweredRegion) (number : ℕ) → AreSoundRegions content rows → AreSoundRegions (without row_number number content) (not_answering number rows)
stays_removed content rows number s = record {
  right = λ row c map h. (let o = of_filter (λ (x : AnsweredRegion). not (is_answer number x.1)) rows row c in let sound = s.right row o.0 map h in
      ap pair_of (winner-without number content map (not_answered (winner_of content map) row.1 number sound o.1)) ∙ sound);
  regions = λ row c. s.regions row (of_filter (λ (x : AnsweredRegion). not (is_answer number x.1)) rows row c).0;
}

pub stays_renewed : (content : List Row) (rows : List AnsweredRegion) (number : ℕ) → AreSoundRegions content rows → AreSoundRegions (moved_to_end row_number number content) (not_answering number rows)
stays_renewed content rows number s = record {
  right = λ row c map h. (let o = of_filter (λ (x : AnsweredRegion). not (is_answer number x.1)) rows row c in let sound = s.right row o.0 map h in
      ap pair_of (winner-moved number content map (not_answered (winner_of content map) row.1 number sound o.1)) ∙ sound);
  regions = λ row c. s.regions row (of_filter (λ (x : AnsweredRegion). not (is_answer number x.1)) rows row c).0;
}

-- ---- a new row

and_twice : (v m : ℕ) → bit_and (bit_and v m) m ≡ bit_and v m
and_twice v m = same_from_bits _ _ (λ i. omega (arith, bit_at_and (bit_and v m) m i, bit_at_and v m i))

seen_twice : (m v : Option ℕ) → seen m (seen m v) ≡ seen m v
seen_twice None v = refl
seen_twice (Some m) None = refl
seen_twice (Some m) (Some v) = ap Some (and_twice v m)

pub twice_same : (m n v : Option ℕ) → n ≡ seen m v → seen m n ≡ n
twice_same m n v e = ap (seen m) e ∙ seen_twice m v ∙ sym e

pub fresh_right : (content : List Row) (mask : FieldMask) (key : Field → Option ℕ) (masked : FieldKey) →
    ((map : Field → Option ℕ) → Agree (mask_at mask) map key → winner_of content map ≡ winner_of content key) →
    ((f : Field) → value masked f ≡ seen (mask_at mask f) (key f)) →
    IsSoundRegion content (region_of mask masked, pair_of (winner_of content key)) × IsRegion (region_of mask masked)
fresh_right content mask key masked alike under = (
  λ map h. ap pair_of (alike map (λ f. h f ∙ under f)),
  λ f. twice_same (mask_at mask f) (value masked f) (key f) (under f),
)
