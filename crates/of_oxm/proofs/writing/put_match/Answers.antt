use Rattle.std.proofs.Common.{ap, sym, subst, refl, ◌∙◌, ℕ, List, [], ◌∷◌, ◌++◌, length, arith}
use Rattle.std.{specs.List.AllByRecursion, proofs.lemmas.List.length-append}
use Rattle.of_oxm.proofs.Written.{all_encoded, written_fits, is_canonical, canonical_short, canonical_encodes}
use Rattle.of_oxm.specs.{declared.match_field.MatchField.MatchField, MatchFieldWire.IsEncoded, MatchGrammar.encodings, NormalForm.IsMatch}
use Rattle.of_oxm.proofs.writing.put_match.Goals as goal

pub put_fields-requires : goal.put_fields-requires
put_fields-requires c = subst (λ (m : List MatchField). AllByRecursion IsEncoded m) (sym c.deref.ensures.value) (all_encoded c.m.inside.fields.items c.m.invariant.each)

pub overflow_cast-len : goal.overflow_cast-len
overflow_cast-len c =
    let text = c.in_ok-put_fields.ensures ∙ ap (λ (x : List ℕ). x ++ encodings c.deref.result.now) c.in_ok-extend_from_slice.ensures.items ∙ ap (λ (x : List MatchField). (c.args.out.now.items ++ 0 ∷ 1 ∷ 0 ∷ 0 ∷ []) ++ encodings x) c.deref.ensures.value in
    let size = length-append (c.args.out.now.items ++ 0 ∷ 1 ∷ 0 ∷ 0 ∷ []) (encodings c.m.inside.fields.items) in
    let head = length-append c.args.out.now.items (0 ∷ 1 ∷ 0 ∷ 0 ∷ []) in
    omega (arith, written_fits c.m.inside.fields.items c.m.invariant.rising, ap length text, size, head, c.len.ensures, c.len-start.ensures, c.put_fields.new.out.ok.0, c.args.out.now.ok.0)

pub returns-clause-canonical : goal.returns-clause-canonical
returns-clause-canonical c =
    is_canonical c.args.m.now c.deref.result.now c.args.out.now.items c.extend_from_slice.new.self.items c.put_fields.new.out.items c.replace_u16.new.out.items c.put_zeros.new.out.items _ _ _
    (c.deref.ensures.value ∙ c.m.view_is) c.in_ok-extend_from_slice.ensures.items c.in_ok-put_fields.ensures
    (omega (arith, c.len.ensures, c.len-start.ensures, c.put_fields.new.out.ok.0, c.args.out.now.ok.0)) (omega (arith, c.len-start.ensures, c.args.out.now.ok.0))
    c.replace_u16.ensures refl c.in_ok-put_zeros.ensures

pub returns-clause-encodes : goal.returns-clause-encodes
returns-clause-encodes c =
    let match : IsMatch c.args.m.now = subst IsMatch c.m.view_is c.m.invariant in
    canonical_encodes c.args.m.now match

pub returns-clause-short : goal.returns-clause-short
returns-clause-short c =
    let match : IsMatch c.args.m.now = subst IsMatch c.m.view_is c.m.invariant in
    canonical_short c.args.m.now match.rising
