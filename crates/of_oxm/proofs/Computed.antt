-- What the grammar of matches says, computed.
use Rattle.std.proofs.Common.{◌≡◌, ℕ, ◌+◌, ◌<◌, Bool, true, false, List, [], ◌∷◌, ◌++◌, length, get_or, drop, Option, Some, None, Ok, Err, refl, sym, ap, subst, ◌∙◌, arith, cond}
use Rattle.std.{specs.Option.option_map, proofs.lemmas.List.append_assoc, proofs.lemmas.List.append-nil, proofs.lemmas.List.drop_at, proofs.lemmas.List.length-append}
use Rattle.of_wire.specs.{declared.code.Code.Code, declared.code.ReadError.ReadError, Refusals.refusal, Refusals.first_of, Failures.Fails}
use Rattle.of_wire.{specs.Items.AreItems, specs.Items.IsItemsEnd as ItemsEnd, specs.Items.items_from, specs.Items.outcome, proofs.ItemsRead.items_are}
use Rattle.of_wire.specs.declared.code.ReadError.TheVariants as errors
use Rattle.of_layers.specs.{declared.field.Field.Field, Fields.field_at}
use Rattle.of_oxm.specs.MatchGrammar.{match_len, padded, match_body, match_head_refusals, encodings, AreFieldsAfter, IsEnd, Fields, IsFaulty}
use Rattle.of_oxm.specs.{declared.match_field.MatchField.MatchField, MatchFieldWire.encoding, MatchFieldWire.number_at, MatchFieldWire.match_field_of, NormalForm.normal}
use Rattle.of_oxm.specs.{Prerequisites.prerequisites_met, MatchReading.match_fields, MatchReading.then_normal, MatchReading.match_by, MatchReading.match_of}
use Rattle.of_oxm.proofs.MatchFieldLemmas.{field_again}

ends_so : (seen : List MatchField) (rest : List ℕ) (fault : Option Code) → IsEnd seen rest fault → ItemsEnd match_fields seen rest fault
ends_so seen [] fault h = h
ends_so seen (b ∷ bs) fault h = h

are_items : (seen fs : List MatchField) (bytes rest : List ℕ) (fault : Option Code) → bytes ≡ encodings fs ++ rest → AreFieldsAfter seen fs → IsEnd (seen ++ fs) rest fault → AreItems match_fields seen bytes fs fault
are_items seen [] bytes rest fault whole fine ended =
    let here : IsEnd seen rest fault = subst (λ (s : List MatchField). IsEnd s rest fault) (append-nil seen) ended in
    subst (λ (x : List ℕ). ItemsEnd match_fields seen x fault) (sym whole) (ends_so seen rest fault here)
are_items seen (e ∷ es) bytes rest fault whole fine ended =
    let x = encodings es ++ rest in
    let found = field_again e seen x fine.0 fine.1 in
    let text : bytes ≡ encoding e ++ x = whole ∙ append_assoc (encoding e) (encodings es) rest in
    let size : 4 + get_or (encoding e ++ x) 3 0 ≡ length (encoding e) = found.size_is in
    let some : 0 < length (encoding e ++ x) = omega (arith, length-append (encoding e) x, size) in
    let cut : drop (4 + get_or (encoding e ++ x) 3 0) (encoding e ++ x) ≡ x = ap (λ (n : ℕ). drop n (encoding e ++ x)) size ∙ drop_at (encoding e) x (length (encoding e)) refl in
    let value : option_map (λ (f : Field). match_field_of f (encoding e ++ x)) (field_at (number_at (encoding e ++ x))) ≡ Some e = ap (λ (o : Option Field). option_map (λ (f : Field). match_field_of f (encoding e ++ x)) o) found.at ∙ ap Some found.same in
    let others = are_items (seen ++ e ∷ []) es (drop (4 + get_or (encoding e ++ x) 3 0) (encoding e ++ x)) rest fault cut fine.2 (subst (λ (s : List MatchField). IsEnd s rest fault) (sym (append_assoc seen (e ∷ []) es)) ended) in
    subst (λ (b : List ℕ). AreItems match_fields seen b (e ∷ es) fault) (sym text) (some, found.none, value, others)

-- the fields of a body, computed
pub fields_are : (body : List ℕ) (fields : List MatchField) (fault : Option Code) → Fields [] body fields fault → items_from match_fields (length body) [] body ≡ outcome fields fault
fields_are body fields fault h = items_are match_fields (length body) [] body fields fault (λ seen bytes some none. omega arith) (omega arith) (are_items [] fields body h.rest fault h.whole h.fine h.ended)

head_is : (bytes : List ℕ) (o : Option Code) → first_of (match_head_refusals bytes) ≡ o → match_of bytes ≡ match_by bytes o
unfolding match_of
head_is bytes o e = ap (match_by bytes) e

pub head_computed : (bytes : List ℕ) (code : Code) → first_of (match_head_refusals bytes) ≡ Some code → match_of bytes ≡ Err code
head_computed bytes code e = head_is bytes (Some code) e

fields_by : (bytes body : List ℕ) (fields : List MatchField) (fault : Option Code) → first_of (match_head_refusals bytes) ≡ None → body ≡ match_body bytes → Fields [] body fields fault → match_of bytes ≡ then_normal (padded (match_len bytes)) (outcome fields fault)
fields_by bytes body fields fault none same h =
    let here : items_from match_fields (length (match_body bytes)) [] (match_body bytes) ≡ outcome fields fault = subst (λ (b : List ℕ). items_from match_fields (length b) [] b ≡ outcome fields fault) same (fields_are body fields fault h) in
    head_is bytes None none ∙ ap (then_normal (padded (match_len bytes))) here

pub fault_computed : (bytes body : List ℕ) (e : ReadError) → first_of (match_head_refusals bytes) ≡ None → body ≡ match_body bytes → Fails (IsFaulty body) e → Fails (λ code. match_of bytes ≡ Err code) e
fault_computed bytes body errors.Memory none same h = tt
fault_computed bytes body (errors.Refused code) none same h = fields_by bytes body h.0 (Some code) none same h.1

pub need_computed : (bytes body : List ℕ) (fields kept : List MatchField) → first_of (match_head_refusals bytes) ≡ None → body ≡ match_body bytes → Fields [] body fields None → kept ≡ normal fields → prerequisites_met kept ≡ false → match_of bytes ≡ Err (refusal 4 9)
need_computed bytes body fields kept none same h is met =
    let unmet : prerequisites_met (normal fields) ≡ false = ap prerequisites_met (sym is) ∙ met in
    fields_by bytes body fields None none same h ∙ ap (λ (t : Bool). cond t (Ok (normal fields, padded (match_len bytes))) (Err (refusal 4 9))) unmet

pub found_computed : (bytes body : List ℕ) (len : ℕ) (fields kept : List MatchField) → first_of (match_head_refusals bytes) ≡ None → len ≡ match_len bytes → body ≡ match_body bytes → Fields [] body fields None → kept ≡ normal fields → prerequisites_met kept ≡ true → match_of bytes ≡ Ok (kept, padded len)
found_computed bytes body len fields kept none len_is same h is met =
    let met' : prerequisites_met (normal fields) ≡ true = ap prerequisites_met (sym is) ∙ met in
    let done : match_of bytes ≡ Ok (normal fields, padded (match_len bytes)) = fields_by bytes body fields None none same h ∙ ap (λ (t : Bool). cond t (Ok (normal fields, padded (match_len bytes))) (Err (refusal 4 9))) met' in
    rw (is, len_is) done
