-- What lines say, one after the other, as it lies in memory.
use Rattle.std.proofs.Common.{◌≡◌, ℕ, ◌+◌, ◌<◌, Bool, true, false, cond, List, [], ◌∷◌, ◌++◌, length, Option, Some, None, refl, sym, ap, ◌∙◌}
use Rattle.std.specs.Prelude.{◌&&◌, filter, find, map, not}
use Rattle.std.{specs.List.list_all, specs.List.list_any, specs.Option.option_map, specs.Str.bytes_eq, specs.Global.Vec, proofs.lemmas.List.map-append}
use Rattle.of_oxm.specs.declared.match_field.MatchField.{MatchField}
use Rattle.of_ovs_words.specs.{declared.why.Why.Why, Words.word_name}
use Rattle.of_ovs_lines.specs.PartialFlows.{Refusal}
use Rattle.of_shadowing.specs.Listings.{Listing, are_among_words, is_same_flow, is_word_met, listed_line, listing_from, unmet_fault, why_of, with_listed, with_flow_listed}
use Rattle.of_shadowing.specs.{declared.conditions.Need.Need, Conditions.need_of_word, declared.listed_flow.ListedFlow.ListedFlow, ListingViews.view_flow}
use Rattle.of_shadowing.specs.LineWords.{is_field_of, with_word_named}
use Rattle.of_text.{specs.Lines.before, specs.Lines.behind, specs.Lines.lines_of, proofs.TextLemmas.first_line}
use Rattle.of_values.specs.Origins.{view_words}
use Rattle.of_import.proofs.ParsedLinesLemmas.{any_mapped, filter_mapped}

-- ---- words

pub among : (words others : List (Vec ℕ)) → list_all (λ (w : Vec ℕ). list_any (λ (o : Vec ℕ). bytes_eq o.items w.items) others) words ≡ are_among_words (view_words words) (view_words others)
among [] others = refl
among (w ∷ words) others =
    ap (λ (b : Bool). b && list_all (λ (v : Vec ℕ). list_any (λ (o : Vec ℕ). bytes_eq o.items v.items) others) words) (sym (any_mapped (λ (o : Vec ℕ). o.items) (λ (x : List ℕ). bytes_eq x w.items) others))
    ∙ ap (λ (b : Bool). list_any (λ (x : List ℕ). bytes_eq x w.items) (view_words others) && b) (among words others)

-- words of another name, and one more
pub replaced : (old kept new : List (Vec ℕ)) (copy : Vec ℕ) (word : List ℕ) → kept ≡ filter (λ (w : Vec ℕ). not (is_field_of (word_name w.items) (word_name word))) old → new ≡ kept ++ copy ∷ [] → copy.items ≡ word → view_words new ≡ with_word_named word (view_words old)
replaced old kept new copy word k n c =
    ap view_words n
    ∙ (map-append (λ (w : Vec ℕ). w.items) kept (copy ∷ [])
    ∙ (ap (λ (xs : List (List ℕ)). xs ++ copy.items ∷ []) (ap view_words k ∙ filter_mapped (λ (w : Vec ℕ). w.items) (λ (w : List ℕ). not (is_field_of (word_name w) (word_name word))) old)
    ∙ ap (λ (x : List ℕ). filter (λ (w : List ℕ). not (is_field_of (word_name w) (word_name word))) (view_words old) ++ x ∷ []) c))

find_step : (q : List ℕ → Bool) (w : Vec ℕ) (words : List (Vec ℕ)) → option_map (λ (v : Vec ℕ). v.items) (find (λ (v : Vec ℕ). q v.items) words) ≡ find q (view_words words) → (b : Bool) → q w.items ≡ b → option_map (λ (v : Vec ℕ). v.items) (cond (q w.items) (Some w) (find (λ (v : Vec ℕ). q v.items) words)) ≡ cond (q w.items) (Some w.items) (find q (view_words words))
find_step q w words others true e = rw e refl
find_step q w words others false e = rw e others

find_mapped : (q : List ℕ → Bool) (words : List (Vec ℕ)) → option_map (λ (w : Vec ℕ). w.items) (find (λ (w : Vec ℕ). q w.items) words) ≡ find q (view_words words)
find_mapped q [] = refl
find_mapped q (w ∷ words) = find_step q w words (find_mapped q words) (q w.items) refl

-- ---- the first condition whose field lacks what it needs

module _ (m : List MatchField) (conditions : List (Vec ℕ)) where
  abbrev is_unmet : List ℕ → Bool
  is_unmet word = not (is_word_met m word)

  first_found : (found : Option (Vec ℕ)) → found ≡ find (λ (w : Vec ℕ). is_unmet w.items) conditions → find is_unmet (view_words conditions) ≡ option_map (λ (w : Vec ℕ). w.items) found
  first_found found f = sym (find_mapped is_unmet conditions) ∙ ap (option_map (λ (w : Vec ℕ). w.items)) (sym f)

  pub no_fault : (found : Option (Vec ℕ)) → found ≡ find (λ (w : Vec ℕ). is_unmet w.items) conditions → found ≡ None → None ≡ unmet_fault (find is_unmet (view_words conditions))
  no_fault found f n = sym (ap unmet_fault (first_found found f ∙ ap (option_map (λ (w : Vec ℕ). w.items)) n))

  word_why : (need : Option Need) (word : List ℕ) → record { word = word; why = (why_of need word).why } ≡ why_of need word
  word_why None word = refl
  word_why (Some need) word = refl

  pub some_fault : (found : Option (Vec ℕ)) (w copy : Vec ℕ) (why : Why) → found ≡ find (λ (v : Vec ℕ). is_unmet v.items) conditions → found ≡ Some w → copy.items ≡ w.items → why ≡ (why_of (need_of_word w.items) w.items).why → Some (record { word = copy.items; why = why }) ≡ unmet_fault (find is_unmet (view_words conditions))
  some_fault found w copy why f s c y =
      let made : record { word = copy.items; why = why } ≡ why_of (need_of_word w.items) w.items = rw (c, y) (word_why (need_of_word w.items) w.items) in
      ap (λ (r : Refusal). Some r) made ∙ sym (ap unmet_fault (first_found found f ∙ ap (option_map (λ (v : Vec ℕ). v.items)) s))

-- ---- flows

pub added : (old kept new : List ListedFlow) (f : ListedFlow) → kept ≡ filter (λ (g : ListedFlow). not (is_same_flow (view_flow g) (view_flow f))) old → new ≡ kept ++ f ∷ [] → map view_flow new ≡ with_flow_listed (view_flow f) (map view_flow old)
added old kept new f k n =
    ap (map view_flow) n
    ∙ (map-append view_flow kept (f ∷ [])
    ∙ ap (λ xs. xs ++ view_flow f ∷ []) (ap (map view_flow) k ∙ filter_mapped view_flow (λ g. not (is_same_flow g (view_flow f))) old))

-- ---- lines

listing_next : (n : ℕ) (t : Listing) (rest : List ℕ) → 0 < length rest → listing_from n t (lines_of rest) ≡ listing_from (n + 1) (with_listed (n + 1) (listed_line (n + 1) (before 10 rest)) t) (lines_of (behind 10 rest))
listing_next n t rest h = ap (listing_from n t) (first_line rest h)

pub listing_end : (n : ℕ) (t : Listing) → listing_from n t (lines_of []) ≡ t
unfolding lines_of
listing_end n t = refl

pub listing_step : (n : ℕ) (t next : Listing) (rest line after : List ℕ) → 0 < length rest → line ≡ before 10 rest → after ≡ behind 10 rest → next ≡ with_listed (n + 1) (listed_line (n + 1) line) t → listing_from n t (lines_of rest) ≡ listing_from (n + 1) next (lines_of after)
listing_step n t next rest line after h l a e = listing_next n t rest h ∙ rw (e, l, a) refl
