-- Whatever a history leaves of the rows, they are right.
use Rattle.std.proofs.Common.{◌≡◌, ℕ, ◌-◌, not, List, [], ◌∷◌, ◌++◌, take, Option, sym, ◌∙◌, ap, subst, inl, inr, ◌⊎◌, ⊎_elim}
use Rattle.std.specs.{Prelude.◌==◌, List.Contains}
use Rattle.lru.proofs.{CallerLemmas.Contains-take, Splits.Contains-cons, Splits.Contains-head, Splits.Contains-tail, Splits.Contains-nil}
use Rattle.of_layers.specs.declared.field.Field.{Field}
use Rattle.of_headers.specs.FieldMap.{seen}
use Rattle.of_wire.specs.Numbered.{without, only, moved_to_end}
use Rattle.of_oxm.specs.{NormalForm.IsMatch, Masks.mask_at, Masks.Agree}
use Rattle.of_classifier.{specs.declared.Row.Row, specs.Rows.row_number, specs.Rows.made_row, specs.Winner.winner_of, specs.Scanning.pair_of, proofs.Alike.agree_by}
use Rattle.of_cache.specs.Histories.{CacheCall, Add, Take, Renew, LookUp, entries_after, answer_of_call, answers_of, LooksUp, Calls, AnswersCalls, AreMatches, IsOfMatch, AreOfMatches, Decide}
use Rattle.of_cache.{specs.Regions.AnsweredRegion, specs.Regions.IsRegion, specs.Kept.IsSoundRegion, specs.Kept.AreSoundRegions, specs.Finding.IsAdded, proofs.Winning.of_filter}
use Rattle.of_cache.proofs.{Changing.moved_within, Changing.hit_is_winner, Staying.stays_added, Staying.stays_removed, Staying.stays_renewed, Staying.fresh_right}

-- ---- the entries stay matches

in_either : (xs ys : List Row) (r : Row) → Contains (xs ++ ys) r → Contains xs r ⊎ Contains ys r
in_either [] ys r c = inr c
in_either (x ∷ xs) ys r c =
    ⊎_elim (λ s. inl (subst (λ (y : Row). Contains (x ∷ xs) y) s (Contains-head x xs))) (λ d. ⊎_elim (λ e. inl (Contains-tail x xs r e)) (λ e. inr e) (in_either xs ys r d)) (Contains-cons x (xs ++ ys) r c)

only_one : (x r : Row) → Contains (x ∷ []) r → x ≡ r
only_one x r c = ⊎_elim (λ s. s) (λ d. absurd (Contains-nil r d)) (Contains-cons x [] r c)

pub matches_after : (call : CacheCall) (entries : List Row) → IsOfMatch call → AreMatches entries → AreMatches (entries_after call entries)
matches_after (Add number priority fields) entries fine all r c =
    ⊎_elim (λ d. all r d) (λ d. subst (λ (x : Row). IsMatch x.fields) (only_one (made_row number priority fields) r d) fine) (in_either entries (made_row number priority fields ∷ []) r c)
matches_after (Take number) entries fine all r c = all r (of_filter (λ x. not (row_number x == number)) entries r c).0
matches_after (Renew number) entries fine all r c =
    ⊎_elim (λ d. all r (of_filter (λ x. not (row_number x == number)) entries r d).0) (λ d. all r (of_filter (λ x. row_number x == number) entries r d).0) (in_either (without row_number number entries) (only row_number number entries) r c)
matches_after (LookUp key) entries fine all r c = all r c

-- ---- a look-up

module _ (looked : List Row → (Field → Option ℕ) → Field → Option ℕ) (capacity : ℕ) (decide : Decide looked) where
  added_right : (entries : List Row) (key : Field → Option ℕ) (old new : List AnsweredRegion) (answer : Option (ℕ × ℕ)) → AreMatches entries → AreSoundRegions entries old → answer ≡ pair_of (winner_of entries key)
      → (a : IsAdded old new capacity (looked entries key) key) → a.row.1 ≡ answer → AreSoundRegions entries new
  added_right entries key old new answer all sound is a e =
      let alike = λ (map : Field → Option ℕ) (h : Agree (mask_at a.row.0.mask) map key). decide entries key map all (agree_by (mask_at a.row.0.mask) (looked entries key) map key a.bits h) in
      let under = λ (f : Field). a.shows f ∙ ap (λ (o : Option ℕ). seen o (key f)) (sym (a.bits f)) in
      let fresh = fresh_right entries a.row.0.mask key a.row.0.key alike under in
      let right : IsSoundRegion entries a.row = λ map h. fresh.0 map h ∙ sym (e ∙ is) in
      record {
        right = λ row c. ⊎_elim (λ s. subst (IsSoundRegion entries) s right) (λ d. sound.right row (Contains-take (capacity - 1) old row d)) (first_or_old row c a);
        regions = λ row c. ⊎_elim (λ s. subst (λ (r : AnsweredRegion). IsRegion r.0) s fresh.1) (λ d. sound.regions row (Contains-take (capacity - 1) old row d)) (first_or_old row c a);
      }
    where
      first_or_old : (row : AnsweredRegion) → Contains new row → (a : IsAdded old new capacity (looked entries key) key) → (a.row ≡ row) ⊎ Contains (take (capacity - 1) old) row
      first_or_old row c a = Contains-cons a.row (take (capacity - 1) old) row (subst (λ (es : List AnsweredRegion). Contains es row) a.first c)

  looked_up : (entries : List Row) (key : Field → Option ℕ) (old new : List AnsweredRegion) (answer : Option (ℕ × ℕ)) → AreMatches entries → AreSoundRegions entries old
      → LooksUp (looked entries key) key capacity (pair_of (winner_of entries key)) old new answer → AreSoundRegions entries new × (answer ≡ pair_of (winner_of entries key))
  looked_up entries key old new answer all sound (inl hit) = (
    record { right = λ row c. sound.right row (moved_within old new key hit.moved row c); regions = λ row c. sound.regions row (moved_within old new key hit.moved row c) },
    hit_is_winner entries old new key answer hit sound,
  )
  looked_up entries key old new answer all sound (inr miss) = (
    ⊎_elim (λ same. subst (AreSoundRegions entries) (sym same) sound) (λ a. added_right entries key old new answer all sound miss.1 a.0 a.1) miss.2,
    miss.1,
  )

  -- ---- calls

  called : (call : CacheCall) (entries : List Row) (old new : List AnsweredRegion) (answer : Option (ℕ × ℕ)) → IsOfMatch call → AreMatches entries → AreSoundRegions entries old
      → Calls looked capacity call entries old new answer → AreSoundRegions (entries_after call entries) new × (answer ≡ answer_of_call call entries)
  called (Add number priority fields) entries old new answer fine all sound h = (subst (AreSoundRegions (entries ++ made_row number priority fields ∷ [])) (sym h.0) (stays_added entries old number priority fields fine sound), h.1)
  called (Take number) entries old new answer fine all sound h = (subst (AreSoundRegions (without row_number number entries)) (sym h.0) (stays_removed entries old number sound), h.1)
  called (Renew number) entries old new answer fine all sound h = (subst (AreSoundRegions (moved_to_end row_number number entries)) (sym h.0) (stays_renewed entries old number sound), h.1)
  called (LookUp key) entries old new answer fine all sound h = looked_up entries key old new answer all sound h

  pub as_the_list : (calls : List CacheCall) (entries : List Row) (rows : List AnsweredRegion) (answers : List (Option (ℕ × ℕ))) → AreOfMatches calls → AreMatches entries → AreSoundRegions entries rows
      → AnswersCalls looked capacity calls entries rows answers → answers ≡ answers_of calls entries
  as_the_list [] entries rows answers fine all sound h = h
  as_the_list (call ∷ calls) entries rows answers fine all sound h =
      let one = called call entries rows h.0 h.1 fine.0 all sound h.4 in
      let later = as_the_list calls (entries_after call entries) h.0 h.2 fine.1 (matches_after call entries fine.0 all) one.0 h.5 in
      h.3 ∙ ap (λ (a : Option (ℕ × ℕ)). a ∷ h.2) one.1 ∙ ap (λ (others : List (Option (ℕ × ℕ))). answer_of_call call entries ∷ others) later

-- ---- from nothing on

pub no_matches : AreMatches []
no_matches r c = absurd (Contains-nil r c)

pub none_right : AreSoundRegions [] []
none_right = record { right = λ row c. absurd (Contains-nil row c); regions = λ row c. absurd (Contains-nil row c) }
