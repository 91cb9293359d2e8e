-- Comments behind the flows of a text change nothing of what it encodes.
use Rattle.std.proofs.Common.{◌≡◌, ℕ, ◌<◌, length, Bool, true, false, cond, List, [], ◌∷◌, ◌++◌, refl, sym, ◌∙◌, ap, append_assoc}
use Rattle.std.specs.{Prelude.◌==◌, Prelude.reverse, Prelude.if◌then◌else◌, List.AllByRecursion, List.flat_map, Global.Vec}
use Rattle.std.proofs.lemmas.List.{append-nil, reverse-append, reverse-reverse}
use Rattle.of_lines.specs.Lines.{before, behind, ended, lines_of, prepended}
use Rattle.of_text.{specs.Texts.counts, specs.Texts.lines_kept, specs.Configs.Configuration, specs.Configs.EncodeConfig, proofs.TextLemmas.first_line}
use Rattle.of_import.specs.Counters.{begins_flow, counter_notes, later_notes, next_note, note_in, noted_line, notes_after, notes_in, tables, with_counters, with_notes}
use Rattle.of_import.specs.{CounterViews.notes_to_come, CounterViews.view_notes, Notes.counter_note, Notes.counter_words, ParsedLines.FlowAt}
use Rattle.of_import.proofs.{NoteLemmas.Passes, NoteLemmas.none_pass, NoteLemmas.unless_passes, ParsedLinesLemmas.all_both}

-- ---- a line has no end within

abbrev NoEnd : List ℕ → Type 0
NoEnd line = AllByRecursion (λ b. (b == 10) ≡ false) line

prepended_whole : (b : ℕ) (lines : List (List ℕ)) → (b == 10) ≡ false → AllByRecursion NoEnd lines → AllByRecursion NoEnd (prepended b lines)
prepended_whole b [] e h = ((e, tt), tt)
prepended_whole b (line ∷ lines) e h = ((e, h.0), h.1)

lines_whole : (text : List ℕ) → AllByRecursion NoEnd (lines_of text)
unfolding lines_of
lines_whole [] = tt
lines_whole (b ∷ bs) = by_test (lines_whole bs) (b == 10) refl
  where
    by_test : AllByRecursion NoEnd (lines_of bs) → (t : Bool) → (b == 10) ≡ t → AllByRecursion NoEnd (if b == 10 then [] ∷ lines_of bs else prepended b (lines_of bs))
    by_test others true e = rw e (tt, others)
    by_test others false e = rw e (prepended_whole b (lines_of bs) e others)

line_first : (line rest : List ℕ) → NoEnd line → lines_of (line ++ 10 ∷ rest) ≡ line ∷ lines_of rest
unfolding lines_of
line_first [] rest h = refl
line_first (b ∷ bs) rest h = rw h.0 (ap (prepended b) (line_first bs rest h.1))

-- ---- comments behind lines

next_passes : (notes : List (List ℕ)) → AllByRecursion Passes notes → Passes (next_note notes)
next_passes [] h = none_pass
next_passes (n ∷ ns) h = h.0

later_pass : (notes : List (List ℕ)) → AllByRecursion Passes notes → AllByRecursion Passes (later_notes notes)
later_pass [] h = tt
later_pass (n ∷ ns) h = h.1

abbrev kept_first : List ℕ → List (List ℕ) → List (List ℕ)
kept_first line others = cond (counts line) (line ∷ others) others

line_kept : (line rest : List ℕ) → NoEnd line → lines_kept (lines_of (line ++ 10 ∷ rest)) ≡ kept_first line (lines_kept (lines_of rest))
line_kept line rest h = ap lines_kept (line_first line rest h)

ended_kept : (line rest : List ℕ) → NoEnd line → lines_kept (lines_of (ended line ++ rest)) ≡ kept_first line (lines_kept (lines_of rest))
ended_kept line rest h = ap (λ (x : List ℕ). lines_kept (lines_of x)) (append_assoc line (10 ∷ []) rest) ∙ line_kept line rest h

noted_kept : (line note rest : List ℕ) → NoEnd line → Passes note → lines_kept (lines_of ((ended line ++ note) ++ rest)) ≡ kept_first line (lines_kept (lines_of rest))
noted_kept line note rest h p = ap (λ (x : List ℕ). lines_kept (lines_of x)) (append_assoc (ended line) note rest) ∙ (ended_kept line (note ++ rest) h ∙ ap (kept_first line) (p rest))

with_notes_kept : (notes lines : List (List ℕ)) → AllByRecursion NoEnd lines → AllByRecursion Passes notes → lines_kept (lines_of (with_notes notes lines)) ≡ lines_kept lines
unfolding with_notes lines_of
with_notes_kept notes [] h p = refl
with_notes_kept notes (line ∷ lines) h p = by_test (with_notes_kept (later_notes notes) lines h.1 (later_pass notes p)) (with_notes_kept notes lines h.1 p) (begins_flow line) refl
  where
    by_test : lines_kept (lines_of (with_notes (later_notes notes) lines)) ≡ lines_kept lines → lines_kept (lines_of (with_notes notes lines)) ≡ lines_kept lines → (t : Bool) → begins_flow line ≡ t → lines_kept (lines_of (noted_line notes line ++ with_notes (notes_after notes line) lines)) ≡ kept_first line (lines_kept lines)
    by_test later same true e = rw e (noted_kept line (next_note notes) (with_notes (later_notes notes) lines) h.0 (next_passes notes p) ∙ ap (kept_first line) later)
    by_test later same false e = rw e (ended_kept line (with_notes notes lines) h.0 ∙ ap (kept_first line) same)

-- ---- the comments of flows

note_passes : (f : FlowAt) → Passes (counter_note f)
note_passes f = unless_passes (length f.marks.counters == 0) (counter_words f.marks.counters)

note_in_passes : (table : ℕ) (f : FlowAt) → AllByRecursion Passes (note_in table f)
note_in_passes table f = by_test (f.flow.head.table == table)
  where
    by_test : (t : Bool) → AllByRecursion Passes (if t then counter_note f ∷ [] else [])
    by_test true = (note_passes f, tt)
    by_test false = tt

all_each : {A : Type 0} (f : A → List (List ℕ)) → ((x : A) → AllByRecursion Passes (f x)) → (xs : List A) → AllByRecursion Passes (flat_map f xs)
all_each f p [] = tt
all_each f p (x ∷ xs) = all_both Passes (f x) (flat_map f xs) (p x) (all_each f p xs)

notes_pass : (fs : List FlowAt) → AllByRecursion Passes (counter_notes fs)
notes_pass fs = all_each (λ (table : ℕ). notes_in table fs) (λ table. all_each (note_in table) (note_in_passes table) fs) tables

pub encoded_with : (fs : List FlowAt) (text : List ℕ) (config : Configuration) → EncodeConfig (lines_of text) config → EncodeConfig (lines_of (with_counters fs text)) config
encoded_with fs text config h = record {
  flows = h.flows;
  encoded = record { is = with_notes_kept (counter_notes fs) (lines_of text) (lines_whole text) (notes_pass fs) ∙ h.encoded.is; allowed = h.encoded.allowed };
  stand = h.stand;
  filled = h.filled;
}

-- ---- as the code puts them

pub to_come_next : (old left : List (Vec ℕ)) (x : Vec ℕ) → old ≡ left ++ x ∷ [] → notes_to_come old ≡ x.items ∷ notes_to_come left
to_come_next old left x e = ap notes_to_come e ∙ ap view_notes (reverse-append left (x ∷ []))

pub next_left : (old left : List (Vec ℕ)) (x : Vec ℕ) → old ≡ left ++ x ∷ [] → notes_to_come left ≡ later_notes (notes_to_come old)
next_left old left x e = sym (ap later_notes (to_come_next old left x e))

pub to_come_first : (notes left : List (Vec ℕ)) → left ≡ reverse notes → notes_to_come left ≡ view_notes notes
to_come_first notes left e = ap notes_to_come e ∙ ap view_notes (reverse-reverse notes)

pub noted_step : (out next all : List ℕ) (notes later : List (List ℕ)) (rest line after : List ℕ) → 0 < length rest → line ≡ before 10 rest → after ≡ behind 10 rest → next ≡ out ++ noted_line notes line → later ≡ notes_after notes line → out ++ with_notes notes (lines_of rest) ≡ all → next ++ with_notes later (lines_of after) ≡ all
unfolding with_notes
noted_step out next all notes later rest line after h l a o n i =
    rw (o, n, l, a) (append_assoc out (noted_line notes (before 10 rest)) (with_notes (notes_after notes (before 10 rest)) (lines_of (behind 10 rest))) ∙ (ap (λ (ls : List (List ℕ)). out ++ with_notes notes ls) (sym (first_line rest h)) ∙ i))

pub noted_end : (out all : List ℕ) (notes : List (List ℕ)) (rest : List ℕ) → rest ≡ [] → out ++ with_notes notes (lines_of rest) ≡ all → out ≡ all
unfolding with_notes lines_of
noted_end out all notes rest e i = sym (append-nil out) ∙ (ap (λ (x : List ℕ). out ++ with_notes notes (lines_of x)) (sym e) ∙ i)
