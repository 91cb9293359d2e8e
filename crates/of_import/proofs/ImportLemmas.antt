-- From what was read to its configuration.
use Rattle.std.proofs.Common.{◌≡◌, ℕ, ◌+◌, List, ◌++◌, length, Option, Some, Result, Ok, Err, ap, ◌∙◌, subst}
use Rattle.std.specs.Prelude.{map, IfOk, IfErr}
use Rattle.of_wire.specs.declared.code.Code.{Code}
use Rattle.of_text.specs.{declared.assembling.FillError.FillError, Flows.Flow, Groups.TextGroup, Configs.Configuration, First.RefusedWithout}
use Rattle.of_text.specs.declared.assembling.FillError.TheVariants as fills
use Rattle.of_import.specs.Imports.{HasBegun, IsConfigOf, IsFilled, IsImport, IsImportText, IsTextOf, NoImport, RefusedAt, RefusedOf, kept_in, notes_for, parsed}
use Rattle.of_import.specs.{declared.parsed_lines.FlowLine.FlowLine, declared.parsed_lines.GroupLine.GroupLine, ParsedLinesViews.view_flow_line, ParsedLinesViews.view_group_line}
use Rattle.of_import.specs.{declared.kept.LineRefusal.LineRefusal, declared.kept.KeptLines.KeptLines, declared.parsed_lines.LineFaults.LineFaults, declared.import.ImportError.ImportError}
use Rattle.of_import.specs.declared.import.ImportError.TheVariants.{NoMemory, Refused}
use Rattle.of_import.specs.{Kept.Kept, Kept.flows_in, Kept.groups_in, KeptViews.view_kept, KeptViews.view_refusal, ParsedLines.FlowAt}
use Rattle.of_import.proofs.RowLemmas.{parsed_group_lines, parsed_flow_lines}
use Rattle.of_ovs_lines.specs.declared.mode.Mode.{Mode}

pub refused_first : (first : Option (ℕ × Code)) (e : FillError) (place : ℕ) (code : Code) → e ≡ fills.Refused place code → RefusedWithout first e → first ≡ Some (place, code)
refused_first first e place code is h = subst (RefusedWithout first) is h

-- a configuration of the groups and flows of lines
pub config_is : (r : Result Configuration ImportError) (gs : List (ℕ × TextGroup)) (fs : List FlowAt) (groups : List TextGroup) (flows : List Flow) → groups ≡ groups_in gs → flows ≡ flows_in fs → IfOk r (IsFilled groups flows) → IfOk r (IsConfigOf gs fs)
config_is (Ok c) gs fs groups flows p q h =
    let there : IsFilled (groups_in gs) (flows_in fs) c = rw (← p, ← q) h in
    record { groups = there.0; tables = there.1; stand = there.2 }
config_is (Err e) gs fs groups flows p q h = tt

refused_by : (gs : List (ℕ × TextGroup)) (fs : List FlowAt) (e : ImportError) → RefusedAt (map (λ g. g.0) gs ++ map (λ f. f.line) fs) (groups_in gs) (flows_in fs) e → RefusedOf gs fs e
refused_by gs fs NoMemory h = tt
refused_by gs fs (Refused line code) h = h
refused_by gs fs other h = absurd h

lines_parsed : (gs : List GroupLine) (fs : List FlowLine) → map (λ g. g.line) gs ++ map (λ f. f.line) fs ≡ map (λ g. g.0) (map view_group_line gs) ++ map (λ f. f.line) (map view_flow_line fs)
lines_parsed gs fs = ap (λ (xs : List ℕ). xs ++ map (λ f. f.line) fs) (parsed_group_lines gs) ∙ ap (λ (xs : List ℕ). map (λ g. g.0) (map view_group_line gs) ++ xs) (parsed_flow_lines fs)

-- the first of them that is refused, where these are their lines
pub refused_is : (r : Result Configuration ImportError) (gs : List GroupLine) (fs : List FlowLine) (lines : List ℕ) (groups : List TextGroup) (flows : List Flow) → groups ≡ groups_in (map view_group_line gs) → flows ≡ flows_in (map view_flow_line fs) → lines ≡ map (λ g. g.line) gs ++ map (λ f. f.line) fs →
    IfErr r (RefusedAt lines groups flows) → IfErr r (RefusedOf (map view_group_line gs) (map view_flow_line fs))
refused_is (Ok c) gs fs lines groups flows p q l h = tt
refused_is (Err e) gs fs lines groups flows p q l h =
    refused_by (map view_group_line gs) (map view_flow_line fs) e
    (subst (λ (xs : List ℕ). RefusedAt xs (groups_in (map view_group_line gs)) (flows_in (map view_flow_line fs)) e) (l ∙ lines_parsed gs fs) (rw (← p, ← q) h))

-- ---- the whole

written_text : (lines : List (List ℕ)) (mode : Mode) (k : Kept) (notes text : List ℕ) → notes ≡ notes_for mode lines → k ≡ kept_in (parsed mode lines) → IsTextOf k notes text → IsTextOf (kept_in (parsed mode lines)) (notes_for mode lines) text
written_text lines mode k notes text n e t = subst (λ (x : List ℕ). IsTextOf (kept_in (parsed mode lines)) x text) n (subst (λ (x : Kept). IsTextOf x notes text) e t)

-- all that is kept
pub made_import : (lines : List (List ℕ)) (mode : Mode) (k : KeptLines) (faults : List LineFaults) (moves : List (ℕ × ℕ)) (notes text : List ℕ) (changed : ℕ) → HasBegun lines mode notes faults k moves changed → IsTextOf (view_kept k) notes text → IsImport lines mode text faults k moves changed
made_import lines mode k faults moves notes text changed b t = record { text_is = written_text lines mode (view_kept k) notes text b.notes_are b.kept_is t; faults_are = b.faults_are; kept_is = b.kept_is; moves_are = b.moves_are; changed_is = b.changed_is; none = b.none; few = b.few }

-- the text alone
pub made_text : (lines : List (List ℕ)) (mode : Mode) (k : KeptLines) (faults : List LineFaults) (refused : List LineRefusal) (moves : List (ℕ × ℕ)) (notes text : List ℕ) (changed : ℕ) → HasBegun lines mode notes faults k moves changed → IsTextOf (view_kept k) notes text → refused ≡ k.refused.items → IsImportText lines mode text faults refused changed
made_text lines mode k faults refused moves notes text changed b t r = record {
  text_is = written_text lines mode (view_kept k) notes text b.notes_are b.kept_is t;
  faults_are = b.faults_are;
  refused_are = ap (map view_refusal) r ∙ ap (λ (x : Kept). x.refused) b.kept_is;
  changed_is = b.changed_is;
  none = λ s. ap (λ (x : List LineRefusal). length faults + length x) r ∙ b.none s;
  few = b.few;
}

-- one flow is refused beside the others
pub refusal_stops : (lines : List (List ℕ)) (mode : Mode) (k : Kept) (e : ImportError) → k ≡ kept_in (parsed mode lines) → RefusedOf k.groups k.flows e → NoImport lines mode e
refusal_stops lines mode k NoMemory kh h = tt
refusal_stops lines mode k (Refused line code) kh h = subst (λ (x : Kept). RefusedOf x.groups x.flows (Refused line code)) kh h
refusal_stops lines mode k other kh h = absurd h
