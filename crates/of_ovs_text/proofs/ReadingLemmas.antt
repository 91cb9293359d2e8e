-- What import makes of lines is one text, and the lines have no other.
use Rattle.std.proofs.Common.{◌≡◌, ◌∙◌, ◌+◌, ℕ, Bool, true, false, List, [], ◌∷◌, ◌++◌, length, map, refl, sym, ap, arith, subst}
use Rattle.std.{specs.Prelude.◌==◌, specs.Prelude.◌&&◌, specs.Str.bytes_eq, proofs.lemmas.Bool.Decides.Decides-eqb, proofs.lemmas.Slice.Eq.bytes_eq-Decides}
use Rattle.of_text.specs.{Configs.Configuration, Configs.all_flows, Configs.config_text, Configs.tables_of_flows, Groups.TextGroup, Lines.lines_of, Texts.groups_and_flows_text}
use Rattle.of_import.specs.Imports.{IsConfigOf, IsImportText, IsTextOf, kept_in, notes_for, parsed}
use Rattle.of_import.specs.{declared.kept.LineRefusal.LineRefusal, declared.parsed_lines.LineFaults.LineFaults, Counters.with_counters, Kept.Kept, Kept.flows_in, Kept.groups_in}
use Rattle.of_import.specs.{KeptViews.view_refusal, ParsedLines.FlowAt, ParsedLinesViews.view_faults}
use Rattle.of_ovs_text.specs.{Lengths.with_used_lengths, Lines.IsReadAgain, Lines.whole_file}

text_of_config : (gs : List (ℕ × TextGroup)) (fs : List FlowAt) (c : Configuration) → IsConfigOf gs fs c → config_text c ≡ groups_and_flows_text (groups_in gs) (all_flows (tables_of_flows (flows_in fs)))
text_of_config gs fs c i = rw (i.groups, i.tables) refl

one_text : (k : Kept) (notes a b : List ℕ) → IsTextOf k notes a → IsTextOf k notes b → a ≡ b
one_text k notes a b i j =
    let same : config_text i.config ≡ config_text j.config = text_of_config k.groups k.flows i.config i.is ∙ sym (text_of_config k.groups k.flows j.config j.is) in
    i.text_is ∙ (ap (λ (t : List ℕ). notes ++ with_counters k.flows t) same ∙ sym j.text_is)

empty : {A : Type 0} (xs : List A) → length xs ≡ 0 → xs ≡ []
empty [] e = refl
empty (x ∷ xs) e = cc

-- no line is refused where all lines are to be read, so all of the text is that of the lines
read_again : (lines : List (List ℕ)) (text wanted : List ℕ) (faults : List LineFaults) (refused : List LineRefusal) (changed : ℕ) → IsImportText lines whole_file text faults refused changed → text ≡ wanted → changed ≡ 0 → IsImportText lines whole_file wanted [] [] 0
read_again lines text wanted faults refused changed i t c =
    let P : List ℕ → Type 0 = λ x. IsTextOf (kept_in (parsed whole_file lines)) (notes_for whole_file lines) x in
    let none : length faults + length refused ≡ 0 = i.none refl in
    let f : length faults ≡ 0 = omega (arith, none) in
    let r : length refused ≡ 0 = omega (arith, none) in
    record {
      text_is = subst P t i.text_is;
      faults_are = ap (map view_faults) (sym (empty faults f)) ∙ i.faults_are;
      refused_are = ap (map view_refusal) (sym (empty refused r)) ∙ i.refused_are;
      changed_is = sym c ∙ i.changed_is;
      none = λ s. refl;
      few = i.few;
    }

-- import gives one text
other_text : (lines : List (List ℕ)) (text wanted : List ℕ) (faults : List LineFaults) (refused : List LineRefusal) (changed : ℕ) → IsImportText lines whole_file text faults refused changed → IsImportText lines whole_file wanted [] [] 0 → (text ≡ wanted) × (changed ≡ 0)
other_text lines text wanted faults refused changed i j =
    (one_text (kept_in (parsed whole_file lines)) (notes_for whole_file lines) text wanted i.text_is j.text_is, i.changed_is ∙ sym j.changed_is)

both : (a b : Bool) → true ≡ (a && b) → (a ≡ true) × (b ≡ true)
both true b e = (refl, sym e)
both false b e = (cc, cc)

not_both : (a b : Bool) → false ≡ (a && b) → a ≡ true → b ≡ true → ⊥
not_both a b e x y = let h : false ≡ true = e ∙ rw (x, y) refl in cc

-- the test of the text says whether the lines are read again
pub answered : (text : List ℕ) (c : Configuration) (found wanted : List ℕ) (faults : List LineFaults) (refused : List LineRefusal) (changed : ℕ) (b : Bool) → IsImportText (lines_of text) whole_file found faults refused changed → wanted ≡ with_used_lengths (config_text c) → b ≡ (bytes_eq found wanted && (changed == 0)) → IsReadAgain text c b
answered text c found wanted faults refused changed true i w t =
    let h : (bytes_eq found wanted ≡ true) × ((changed == 0) ≡ true) = both (bytes_eq found wanted) (changed == 0) t in
    read_again (lines_of text) found (with_used_lengths (config_text c)) faults refused changed i ((bytes_eq-Decides found wanted).0 h.0 ∙ w) ((Decides-eqb changed 0).0 h.1)
answered text c found wanted faults refused changed false i w t = λ j.
    let h : (found ≡ with_used_lengths (config_text c)) × (changed ≡ 0) = other_text (lines_of text) found (with_used_lengths (config_text c)) faults refused changed i j in
    not_both (bytes_eq found wanted) (changed == 0) t ((bytes_eq-Decides found wanted).1 (h.0 ∙ sym w)) ((Decides-eqb changed 0).1 h.1)
