-- Fields one after the other: as a loop reads them, and that no bytes are read in two ways.
use Rattle.std.proofs.Common.{◌≡◌, ℕ, ◌+◌, true, false, List, [], ◌∷◌, ◌++◌, length, get_or, drop, Option, Some, None, refl, sym, ap, subst, ◌∙◌}
use Rattle.std.proofs.{lemmas.List.append_assoc, lemmas.List.append-nil, lemmas.List.drop_at, lemmas.List.Concat.flat_map-append}
use Rattle.of_wire.{specs.declared.code.Code.Code, specs.Refusals.first_of, proofs.Numbers.IsBytes, proofs.Numbers.IsBytes-drop}
use Rattle.of_layers.specs.{declared.field.Field.Field, Fields.field_at}
use Rattle.of_oxm.specs.MatchFieldWire.{IsEncoded, encoding, number_at, match_field_of, field_refusals, is_among}
use Rattle.of_oxm.specs.{declared.match_field.MatchField.MatchField, MatchGrammar.encodings, MatchGrammar.AreFieldsAfter, MatchGrammar.IsEnd, MatchGrammar.Fields}
use Rattle.of_oxm.proofs.MatchFieldLemmas.{IsRead, field_takes, field_again}

-- what was read, and what is left
pub record Going (body : List ℕ) (fields : List MatchField) (rest : List ℕ) : Type 0 where
  pub whole : body ≡ encodings fields ++ rest
  pub fine : AreFieldsAfter [] fields

encodings_more : (fs : List MatchField) (e : MatchField) (x : List ℕ) → encodings (fs ++ e ∷ []) ++ x ≡ encodings fs ++ (encoding e ++ x)
encodings_more fs e x =
    ap (λ (t : List ℕ). t ++ x) (flat_map-append encoding fs (e ∷ []) ∙ ap (λ (t : List ℕ). encodings fs ++ t) (append-nil (encoding e))) ∙ append_assoc (encodings fs) (encoding e) x

fine_more : (seen fs : List MatchField) (e : MatchField) → AreFieldsAfter seen fs → IsEncoded e → is_among e.field (seen ++ fs) ≡ false → AreFieldsAfter seen (fs ++ e ∷ [])
fine_more seen [] e fine encoded first = (encoded, ap (is_among e.field) (sym (append-nil seen)) ∙ first, tt)
fine_more seen (f ∷ fs) e fine encoded first = (fine.0, fine.1, fine_more (seen ++ f ∷ []) fs e fine.2 encoded (ap (is_among e.field) (append_assoc seen (f ∷ []) fs) ∙ first))

IsBytes-after : (front body rest : List ℕ) → IsBytes body → body ≡ front ++ rest → IsBytes rest
IsBytes-after front body rest fits e =
    let cut : drop (length front) body ≡ rest = ap (drop (length front)) e ∙ drop_at front rest (length front) refl in
    subst IsBytes cut (IsBytes-drop (length front) body fits)

pub goes_on : (body rest after : List ℕ) (fields seen new : List MatchField) (e : MatchField) → IsBytes body → Going body fields rest → seen ≡ fields → first_of (field_refusals seen rest) ≡ None → field_at (number_at rest) ≡ Some e.field
    → e ≡ match_field_of e.field rest → after ≡ drop (4 + get_or rest 3 0) rest → new ≡ fields ++ e ∷ [] → Going body new after
goes_on body rest after fields seen new e fits going seen_is seen_none at same after_is new_is =
    let none : first_of (field_refusals fields rest) ≡ None = subst (λ (s : List MatchField). first_of (field_refusals s rest) ≡ None) seen_is seen_none in
    let rest_fits : IsBytes rest = IsBytes-after (encodings fields) body rest fits going.whole in
    let read : IsRead (match_field_of e.field rest) fields rest = field_takes e.field fields rest rest_fits none at in
    let here : IsRead e fields rest = subst (λ (x : MatchField). IsRead x fields rest) (sym same) read in
    rw (new_is, after_is) (record {
      whole = going.whole ∙ ap (λ (t : List ℕ). encodings fields ++ t) here.text ∙ sym (encodings_more fields e (drop (4 + get_or rest 3 0) rest));
      fine = fine_more [] fields e going.fine here.encoded here.first;
    })

-- ---- one reading

end_not_encoded : (seen : List MatchField) (g : MatchField) (z : List ℕ) (o : Option Code) → IsEncoded g → is_among g.field seen ≡ false → IsEnd seen (encoding g ++ z) o → ⊥
unfolding encoding
end_not_encoded seen g z None encoded first ended = let none : false ≡ true = ended.1 in cc
end_not_encoded seen g z (Some c) encoded first ended = let again = field_again g seen z encoded first in cc

end_same : (seen : List MatchField) (x : List ℕ) (o p : Option Code) → IsEnd seen x o → IsEnd seen x p → o ≡ p
end_same seen [] o p a b = a ∙ sym b
end_same seen (x ∷ xs) o p a b = sym (a.0) ∙ b.0

same_field : (seen : List MatchField) (f g : MatchField) (x y : List ℕ) → IsEncoded f → IsEncoded g → is_among f.field seen ≡ false → is_among g.field seen ≡ false → encoding f ++ x ≡ encoding g ++ y → f ≡ g
same_field seen f g x y p q a b e =
    let one = field_again f seen x p a in
    let other = field_again g seen y q b in
    let fields : f.field ≡ g.field = let h : Some f.field ≡ Some g.field = sym one.at ∙ ap (λ (t : List ℕ). field_at (number_at t)) e ∙ other.at in cc in
    sym one.same ∙ ap (λ (t : List ℕ). match_field_of f.field t) e ∙ ap (λ (k : Field). match_field_of k (encoding g ++ y)) fields ∙ other.same

cancel : (a x y : List ℕ) → a ++ x ≡ a ++ y → x ≡ y
cancel a x y e = sym (drop_at a x (length a) refl) ∙ ap (drop (length a)) e ∙ drop_at a y (length a) refl

pub one_walk : (seen fs gs : List MatchField) (x y : List ℕ) (o p : Option Code) → AreFieldsAfter seen fs → AreFieldsAfter seen gs → IsEnd (seen ++ fs) x o → IsEnd (seen ++ gs) y p
    → encodings fs ++ x ≡ encodings gs ++ y → (fs ≡ gs) × (o ≡ p)
one_walk seen [] [] x y o p a b c d e = (refl, end_same (seen ++ []) y o p (subst (λ (t : List ℕ). IsEnd (seen ++ []) t o) e c) d)
one_walk seen [] (g ∷ gs) x y o p a b c d e =
    let e' : x ≡ encoding g ++ (encodings gs ++ y) = e ∙ append_assoc (encoding g) (encodings gs) y in
    let c' : IsEnd seen (encoding g ++ (encodings gs ++ y)) o = subst (λ (t : List ℕ). IsEnd seen t o) e' (subst (λ (s : List MatchField). IsEnd s x o) (append-nil seen) c) in
    absurd (end_not_encoded seen g (encodings gs ++ y) o b.0 b.1 c')
one_walk seen (f ∷ fs) [] x y o p a b c d e =
    let e' : y ≡ encoding f ++ (encodings fs ++ x) = sym e ∙ append_assoc (encoding f) (encodings fs) x in
    let d' : IsEnd seen (encoding f ++ (encodings fs ++ x)) p = subst (λ (t : List ℕ). IsEnd seen t p) e' (subst (λ (s : List MatchField). IsEnd s y p) (append-nil seen) d) in
    absurd (end_not_encoded seen f (encodings fs ++ x) p a.0 a.1 d')
one_walk seen (f ∷ fs) (g ∷ gs) x y o p a b c d e =
    let e' : encoding f ++ (encodings fs ++ x) ≡ encoding g ++ (encodings gs ++ y) = sym (append_assoc (encoding f) (encodings fs) x) ∙ e ∙ append_assoc (encoding g) (encodings gs) y in
    let head : f ≡ g = same_field seen f g (encodings fs ++ x) (encodings gs ++ y) a.0 b.0 a.1 b.1 e' in
    let tail : encodings fs ++ x ≡ encodings gs ++ y = cancel (encoding f) _ _ (e' ∙ ap (λ (k : MatchField). encoding k ++ (encodings gs ++ y)) (sym head)) in
    let b' : AreFieldsAfter (seen ++ f ∷ []) gs = subst (λ (k : MatchField). AreFieldsAfter (seen ++ k ∷ []) gs) (sym head) b.2 in
    let c' : IsEnd ((seen ++ f ∷ []) ++ fs) x o = subst (λ (s : List MatchField). IsEnd s x o) (sym (append_assoc seen (f ∷ []) fs)) c in
    let d' : IsEnd ((seen ++ f ∷ []) ++ gs) y p = subst (λ (s : List MatchField). IsEnd s y p) (ap (λ (k : MatchField). seen ++ k ∷ gs) (sym head) ∙ sym (append_assoc seen (f ∷ []) gs)) d in
    let others = one_walk (seen ++ f ∷ []) fs gs x y o p a.2 b' c' d' tail in
    (let rest = others.0 in cc, others.1)

-- no bytes are read in two ways
pub one_reading : (seen fs gs : List MatchField) (bytes : List ℕ) (o p : Option Code) → Fields seen bytes fs o → Fields seen bytes gs p → (fs ≡ gs) × (o ≡ p)
one_reading seen fs gs bytes o p a b = one_walk seen fs gs a.rest b.rest o p a.fine b.fine a.ended b.ended (sym a.whole ∙ b.whole)
