-- Comments before a text change nothing of what it encodes.
use Rattle.std.proofs.Common.{◌≡◌, ℕ, ◌+◌, ◌<◌, length, take, get_or, Bool, true, false, List, [], ◌∷◌, ◌++◌, refl, sym, ◌∙◌, ap, append_assoc, arith}
use Rattle.std.specs.Prelude.{◌==◌, ◌&&◌, nat_le, map, if◌then◌else◌}
use Rattle.std.{specs.List.flat_map, proofs.lemmas.Bool.Decides.nat_tests, proofs.lemmas.List.append-nil, proofs.lemmas.List.map_more, proofs.lemmas.List.Concat.flat_map-append}
use Rattle.of_text.specs.{Lines.lines_of, Texts.lines_kept, Configs.Configuration, Configs.EncodeConfig}
use Rattle.of_lines.specs.Lines.{prepended}
use Rattle.of_import.specs.Notes.{left_out_action_words, comment, fault_words, mark_notes, notes_of, part_words, refusal_words, resubmit_note, resubmit_words, renumbered_table_words}
use Rattle.of_import.specs.{Kept.Kept, ParsedLines.FlowAt}
use Rattle.of_values.specs.Origins.{printable}
use Rattle.of_ovs_lines.specs.PartialFlows.{Refusal}

-- whatever follows these bytes, it has the same lines that count
abbrev pub Passes : List ℕ → Type 0
Passes notes = (text : List ℕ) → lines_kept (lines_of (notes ++ text)) ≡ lines_kept (lines_of text)

pub none_pass : Passes []
none_pass text = refl

both_pass : (a b : List ℕ) → Passes a → Passes b → Passes (a ++ b)
both_pass a b p q text = ap (λ (x : List ℕ). lines_kept (lines_of x)) (append_assoc a b text) ∙ (p (b ++ text) ∙ q text)

each_pass : {A : Type 0} (f : A → List ℕ) → ((x : A) → Passes (f x)) → (xs : List A) → Passes (flat_map f xs)
each_pass f p [] = none_pass
each_pass f p (x ∷ xs) = both_pass (f x) (flat_map f xs) (p x) (each_pass f p xs)

-- ---- a comment

no_end : (b : ℕ) → (printable b == 10) ≡ false
no_end b = by_test (nat_le 32 b && nat_le b 126) refl
  where
    by_test : (t : Bool) → (nat_le 32 b && nat_le b 126) ≡ t → ((if t then b else 63) == 10) ≡ false
    by_test true h = grind (arith, nat_tests, h)
    by_test false h = refl

line_of_words : (words rest : List ℕ) → lines_of (map printable words ++ 10 ∷ rest) ≡ map printable words ∷ lines_of rest
unfolding lines_of
line_of_words [] rest = refl
line_of_words (b ∷ bs) rest = rw (no_end b) (ap (prepended (printable b)) (line_of_words bs rest))

comment_passes : (words : List ℕ) → Passes (comment words)
unfolding lines_of
comment_passes words text =
    ap (λ (x : List ℕ). lines_kept (lines_of (35 ∷ 32 ∷ x))) (append_assoc (map printable words) (10 ∷ []) text)
    ∙ ap (λ (ls : List (List ℕ)). lines_kept (prepended 35 (prepended 32 ls))) (line_of_words words text)

pub unless_passes : (t : Bool) (words : List ℕ) → Passes (if t then [] else comment words)
unless_passes true words = none_pass
unless_passes false words = comment_passes words

pub if_passes : (t : Bool) (words : List ℕ) → Passes (if t then comment words else [])
if_passes true words = comment_passes words
if_passes false words = none_pass

-- ---- the comments

marks_pass : (f : FlowAt) → Passes (mark_notes f)
marks_pass f = both_pass (flat_map (λ word. comment (left_out_action_words f.line word)) f.marks.left) (resubmit_note f)
    (each_pass (λ word. comment (left_out_action_words f.line word)) (λ word. comment_passes (left_out_action_words f.line word)) f.marks.left)
    (if_passes f.marks.resubmits (resubmit_words f.line))

notes_pass : (moves : List (ℕ × ℕ)) (faults : List (ℕ × List Refusal)) (k : Kept) → Passes (notes_of moves faults k)
unfolding notes_of
notes_pass moves faults k =
    both_pass _ _ (both_pass _ _ (both_pass _ _ (both_pass _ _
    (unless_passes _ (part_words (length faults + length k.refused)))
    (each_pass (λ m. comment (renumbered_table_words m)) (λ m. comment_passes (renumbered_table_words m)) moves))
    (each_pass (λ f. comment (fault_words f)) (λ f. comment_passes (fault_words f)) faults))
    (each_pass (λ r. comment (refusal_words r)) (λ r. comment_passes (refusal_words r)) k.refused))
    (each_pass mark_notes marks_pass k.flows)

pub encoded_behind : (moves : List (ℕ × ℕ)) (faults : List (ℕ × List Refusal)) (k : Kept) (text : List ℕ) (config : Configuration) → EncodeConfig (lines_of text) config → EncodeConfig (lines_of (notes_of moves faults k ++ text)) config
encoded_behind moves faults k text config h = record {
  flows = h.flows;
  encoded = record { is = notes_pass moves faults k text ∙ h.encoded.is; allowed = h.encoded.allowed };
  stand = h.stand;
  filled = h.filled;
}

-- ---- one after the other

pub notes_more : {X Y : Type 0} (f : Y → List ℕ) (v : X → Y) (xs : List X) (i : ℕ) (x : X) (start old new : List ℕ) → i < length xs → x ≡ get_or xs i x → old ≡ start ++ flat_map f (map v (take i xs)) → new ≡ old ++ f (v x) → new ≡ start ++ flat_map f (map v (take (i + 1) xs))
notes_more {X} {Y} f v xs i x start old new h is o n =
    let before : List ℕ = flat_map f (map v (take i xs)) in
    let whole : flat_map f (map v (take (i + 1) xs)) ≡ before ++ f (v x) = ap (flat_map f) (map_more v xs i x h) ∙ (flat_map-append f (map v (take i xs)) (v (get_or xs i x) ∷ []) ∙ (ap (λ (zs : List ℕ). before ++ zs) (append-nil (f (v (get_or xs i x)))) ∙ ap (λ (y : X). before ++ f (v y)) (sym is))) in
    n ∙ (ap (λ (ys : List ℕ). ys ++ f (v x)) o ∙ (append_assoc start before (f (v x)) ∙ ap (λ (ys : List ℕ). start ++ ys) (sym whole)))
