-- What is below a line is notes, whatever it says.
use Rattle.std.proofs.Common.{◌≡◌, ◌&&◌, ℕ, suc, Bool, true, false, cond, List, [], ◌∷◌, ◌++◌, Option, Some, None, refl, sym, ap, ◌∙◌}
use Rattle.std.{specs.Prelude.codes, specs.Prelude.decimal, specs.Prelude.nat_lt, specs.List.flat_map, proofs.lemmas.List.append_assoc, proofs.lemmas.List.append-nil}
use Rattle.std.proofs.lemmas.List.Concat.{flat_map-append}
use Rattle.of_layers.specs.{declared.field.Field.Field, Fields.name_of}
use Rattle.of_layers.specs.declared.field.TheConstants.Field as constants
use Rattle.of_actions.specs.{declared.action.Action.Action, declared.action.Action.TheVariants.Group}
use Rattle.of_oxm.specs.declared.match_field.MatchField.{MatchField}
use Rattle.of_table.specs.{declared.flow.Flow.Flow, Table.FlowEntry, Tables.table_at}
use Rattle.of_machine.specs.declared.data.Step.TheVariants.{Miss, Entry, Metadata, Act, TtlExpired}
use Rattle.of_machine.specs.declared.data.Step.{Step}
use Rattle.of_text.specs.{Lines.ended, Lines.note, Rows.row_encoding}
use Rattle.of_lines.specs.declared.row.Row.TheVariants as rows
use Rattle.of_datapath.specs.{declared.effect.Effect.Effect, Datapath.Forwarding, Datapath.world_of}
use Rattle.of_replay.specs.Output.{text_of}
use Rattle.of_trace.specs.Notes.{step_changes, entry_notes, explained_trace, explained_from, first_notes, found_notes, group_notes, head_in, is_asked, is_set, is_unsent, step_line_in, look_notes, looks_at, match_notes, miss_notes, notes, plain_trace, reason_note, running_notes, reasons_from, same_value, seen_notes, set_notes, styled, ttl_seen, ttl_words, unsent_note, reason_words, value_or_absent}
use Rattle.of_trace.specs.Words.{entering_sights, flow_there, heading, leaving_text, words_text}
use Rattle.of_trace.specs.{declared.form.Style.Style, declared.form.Style.TheVariants.Lines, declared.form.Style.TheVariants.Words, declared.form.Asked.Asked}
use Rattle.of_trace.specs.{declared.form.Asked.TheVariants.Nothing, declared.form.Form.Form}
use Rattle.of_trace.specs.{declared.form.Form.TheVariants.Plain, declared.form.Form.TheVariants.Explained, declared.form.Form.TheVariants.Why, declared.sight.Sight.Sight}
use Rattle.of_trace.specs.{Sights.key_seen, Sights.sight_after, Sights.stepped, OnlyNotes.NotedLine, OnlyNotes.OnlyNotesAdded, declared.unsent.Unsent.Unsent}
use Rattle.of_trace.specs.Unsent.{unsent_action, unsent_words}
use Rattle.of_tracing.specs.{declared.reason.Reason.Reason, Why.reason_in}

pub record AreNotes (text : List ℕ) : Type 0 where
  pub notes : List (List ℕ)
  pub is : text ≡ flat_map note notes

none : AreNotes []
none = record { notes = []; is = refl }

one : (line : List ℕ) → AreNotes (note line)
one line = record { notes = line ∷ []; is = sym (append-nil (note line)) }

both : (xs ys : List ℕ) → AreNotes xs → AreNotes ys → AreNotes (xs ++ ys)
both xs ys a b =
    record {
      notes = a.notes ++ b.notes;
      is = ap (λ (l : List ℕ). l ++ ys) a.is ∙ ap (λ (l : List ℕ). flat_map note a.notes ++ l) b.is ∙ sym (flat_map-append note a.notes b.notes);
    }

each : {X : Type 0} (f : X → List ℕ) (xs : List X) → ((x : X) → AreNotes (f x)) → AreNotes (flat_map f xs)
each f [] h = none
each f (x ∷ xs) h = both (f x) (flat_map f xs) (h x) (each f xs h)

either : (b : Bool) (xs ys : List ℕ) → AreNotes xs → AreNotes ys → AreNotes (cond b xs ys)
either true xs ys a b = a
either false xs ys a b = b

-- ---- each kind of note

matched : (fields : List MatchField) → AreNotes (match_notes fields)
matched fields = each _ fields (λ e. one (row_encoding (rows.Match e)))

of_entry : (t : ℕ) (f : Option Flow) → AreNotes (entry_notes t f)
of_entry t None = none
of_entry t (Some f) = both _ _ (one (row_encoding (rows.Flow (head_in t f)))) (matched f.fields)

of_found : (style : Style) (t : ℕ) (f : Option Flow) → AreNotes (found_notes style t f)
of_found Lines t f = of_entry t f
of_found Words t f = none

of_miss : (style : Style) (t : ℕ) → AreNotes (miss_notes style t)
of_miss Lines t = one (codes "no entry matches in table" ++ 32 ∷ decimal t)
of_miss Words t = none

seen : (style : Style) (flows : List FlowEntry) (map : Field → Option ℕ) → AreNotes (seen_notes style flows map)
seen style flows map = each _ constants.ALL (λ f. either (looks_at flows f) _ _ (one (codes "sees " ++ name_of f ++ value_or_absent style f (map f))) none)

of_reason : (style : Style) (e : FlowEntry) (place : ℕ) (r : Option Reason) → AreNotes (reason_note style e place r)
of_reason style e place None = none
of_reason style e place (Some r) = one (codes "entry" ++ 32 ∷ decimal place ++ codes " (priority" ++ 32 ∷ decimal e.flow.priority ++ codes "): " ++ reason_words style r)

reasons : (style : Style) (asked : Asked) (t : ℕ) (map : Field → Option ℕ) (flows : List FlowEntry) (place : ℕ) (rest : List FlowEntry) → AreNotes (reasons_from style asked t map flows place rest)
reasons style asked t map flows place [] = none
reasons style asked t map flows place (e ∷ rest) = both _ _ (either (is_asked asked t e) _ _ (of_reason style e place (reason_in flows map place)) none) (reasons style asked t map flows (suc place) rest)

of_look : (style : Style) (f : Forwarding) (asked : Asked) (t : ℕ) (map : Field → Option ℕ) → AreNotes (look_notes style f asked t map)
of_look style f asked t map =
    let flows : List FlowEntry = (table_at t f.tables).flows in
    either (nat_lt t 16) _ _ (both _ _ (seen style flows map) (reasons style asked t map flows 0 flows)) none

of_changes : (style : Style) (step : Step) (s : Sight) → AreNotes (step_changes style step s)
of_changes style step s =
    both _ _
    (each _ constants.ALL (λ f. either (same_value (key_seen s f) (key_seen (sight_after step s) f)) _ _ none (one (name_of f ++ value_or_absent style f (key_seen s f) ++ codes " ->" ++ value_or_absent style f (key_seen (sight_after step s) f)))))
    (either (same_value (ttl_seen s) (ttl_seen (sight_after step s))) _ _ none (one (codes "nw_ttl" ++ ttl_words (ttl_seen s) ++ codes " ->" ++ ttl_words (ttl_seen (sight_after step s)))))

of_unsent : (style : Style) (why : Option Unsent) → AreNotes (unsent_note style why)
of_unsent style None = none
of_unsent Lines (Some u) = one (unsent_words u)
of_unsent Words (Some u) = none

of_group : (places : Option (List ℕ)) → AreNotes (group_notes places)
of_group None = none
of_group (Some places) = each _ places (λ place. one (codes "bucket" ++ 32 ∷ decimal place))

of_running : (f : Forwarding) (action : Action) → AreNotes (running_notes f action)
of_running f (Group group) = of_group ((world_of f).chosen group)
of_running f other = none

of_step : (style : Style) (f : Forwarding) (asked : Asked) (s : Sight) (step : Step) → AreNotes (notes style f asked s step)
of_step style f asked s (Miss t) = both _ _ (of_miss style t) (of_look style f asked t (key_seen s))
of_step style f asked s (Entry t place) = both _ _ (of_found style t (flow_there f t place)) (of_look style f asked t (key_seen s))
of_step style f asked s (Metadata value mask) = of_changes style (Metadata value mask) s
of_step style f asked s (Act action) = both _ _ (both _ _ (of_unsent style (unsent_action f s.ingress action)) (of_running f action)) (of_changes style (Act action) s)
of_step style f asked s TtlExpired = one (codes "its work ends here")
of_step style f asked s other = none

of_first : (style : Style) (f : Forwarding) (asked : Asked) (sights : List Sight) (step : Step) → AreNotes (first_notes style f asked sights step)
of_first style f asked [] step = none
of_first style f asked (s ∷ others) step = of_step style f asked s step

of_set : (step : Step) (behind : List Step) → AreNotes (set_notes step behind)
of_set step behind = either (is_set step && is_unsent behind) _ _ (one (codes "the action set has no output")) none

-- ---- the text

-- one line more
more : (line notes_text plain noted : List ℕ) → AreNotes notes_text → OnlyNotesAdded plain noted → OnlyNotesAdded (ended line ++ plain) (ended line ++ notes_text ++ noted)
more line text plain noted a h =
    record {
      lines = record { line = line; notes = a.notes } ∷ h.lines;
      rest = h.rest;
      plain_is = ap (λ (l : List ℕ). ended line ++ l) h.plain_is ∙ sym (append_assoc (ended line) (flat_map (λ (l : NotedLine). ended l.line) h.lines) h.rest);
      noted_is =
          ap (λ (l : List ℕ). ended line ++ l ++ noted) a.is
          ∙ ap (λ (l : List ℕ). ended line ++ flat_map note a.notes ++ l) h.noted_is
          ∙ sym (append_assoc (ended line ++ flat_map note a.notes) (flat_map (λ (l : NotedLine). ended l.line ++ flat_map note l.notes) h.lines) h.rest);
    }

-- the lines of steps, without notes
abbrev lines_text : Style → Forwarding → ℕ → List Step → List ℕ
lines_text style f port steps = flat_map (λ s. ended (step_line_in style f port s)) steps

steps_noted : (style : Style) (f : Forwarding) (asked : Asked) (port : ℕ) (sights : List Sight) (steps : List Step) (rest : List ℕ) → OnlyNotesAdded (lines_text style f port steps ++ rest) (explained_from style f asked port sights steps ++ rest)
steps_noted style f asked port sights [] rest = record { lines = []; rest = rest; plain_is = refl; noted_is = refl }
steps_noted style f asked port sights (step ∷ steps) rest =
    let behind : List ℕ = explained_from style f asked port (stepped (world_of f) step sights) steps in
    let line : List ℕ = ended (step_line_in style f port step) in
    let first : List ℕ = first_notes style f asked sights step in
    let set : List ℕ = set_notes step steps in
    let whole : OnlyNotesAdded (line ++ (lines_text style f port steps ++ rest)) (line ++ (first ++ set) ++ (behind ++ rest)) = more (step_line_in style f port step) (first ++ set) _ _ (both first set (of_first style f asked sights step) (of_set step steps)) (steps_noted style f asked port (stepped (world_of f) step sights) steps rest) in
    let plain : line ++ (lines_text style f port steps ++ rest) ≡ lines_text style f port (step ∷ steps) ++ rest = sym (append_assoc line (lines_text style f port steps) rest) in
    let noted : line ++ (first ++ set) ++ (behind ++ rest) ≡ explained_from style f asked port sights (step ∷ steps) ++ rest =
    ap (λ (l : List ℕ). l ++ (behind ++ rest)) (sym (append_assoc line first set)) ∙ sym (append_assoc (line ++ first ++ set) behind rest) in
    rw (sym plain, sym noted) whole

-- in words the frame is a line before them
pub explained_noted : (style : Style) (f : Forwarding) (asked : Asked) (port : ℕ) (frame : List ℕ) (steps : List Step) (effects : List Effect) → OnlyNotesAdded (plain_trace style f port frame steps effects) (explained_trace style f asked port frame steps effects)
explained_noted Lines f asked port frame steps effects = steps_noted Lines f asked port (entering_sights port frame) steps (text_of effects)
explained_noted Words f asked port frame steps effects =
    let first : List ℕ = ended (heading f port frame) in
    let noted : List ℕ = explained_from Words f asked port (entering_sights port frame) steps in
    let rest : List ℕ = leaving_text effects in
    let whole : OnlyNotesAdded (first ++ (words_text f port steps ++ rest)) (first ++ [] ++ (noted ++ rest)) = more (heading f port frame) [] _ _ none (steps_noted Words f asked port (entering_sights port frame) steps rest) in
    let plain_is : first ++ (words_text f port steps ++ rest) ≡ plain_trace Words f port frame steps effects = sym (append_assoc first (words_text f port steps) rest) in
    let noted_is : first ++ [] ++ (noted ++ rest) ≡ explained_trace Words f asked port frame steps effects = ap (λ (l : List ℕ). l ++ (noted ++ rest)) (append-nil first) ∙ sym (append_assoc first noted rest) in
    rw (sym plain_is, sym noted_is) whole

pub said_noted : (style : Style) (form : Form) (f : Forwarding) (port : ℕ) (frame : List ℕ) (steps : List Step) (effects : List Effect) → OnlyNotesAdded (plain_trace style f port frame steps effects) (styled style form f port frame steps effects)
said_noted style Plain f port frame steps effects = record { lines = []; rest = plain_trace style f port frame steps effects; plain_is = refl; noted_is = refl }
said_noted style Explained f port frame steps effects = explained_noted style f Nothing port frame steps effects
said_noted style (Why asked) f port frame steps effects = explained_noted style f asked port frame steps effects
