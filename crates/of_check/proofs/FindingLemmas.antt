-- One finding more.
use Rattle.std.proofs.Common.{◌≡◌, ℕ, suc, List, [], ◌∷◌, ◌++◌, length, refl, sym, ap, subst, ◌∙◌, arith, inl, inr}
use Rattle.std.proofs.{lemmas.List.append_assoc, lemmas.List.append-nil, lemmas.List.map-append, lemmas.List.Elements.Contains-push_cases}
use Rattle.of_table.specs.Tables.{Tables, table_at}
use Rattle.of_check.specs.{declared.finding.Finding.Finding, Verdicts.VerdictHolds, Findings.AreFindings, Findings.found_entry, Findings.first_entries, Findings.entries_below}

pub no_findings : (ts : Tables) (steps : ℕ) → AreFindings (entries_below 0 ts) ts steps []
unfolding entries_below
no_findings ts steps = record { each = refl; hold = λ f c. absurd (omega (arith, c.1)) }

-- of no entry of the next table
pub none_yet : (es : List (ℕ × ℕ)) (ts : Tables) (steps : ℕ) (fs : List Finding) → AreFindings es ts steps fs → AreFindings (es ++ []) ts steps fs
none_yet es ts steps fs h = record { each = h.each ∙ sym (append-nil es); hold = h.hold }

pub one_more : (es : List (ℕ × ℕ)) (table place next : ℕ) (ts : Tables) (steps : ℕ) (fs : List Finding) (f : Finding) → f.table ≡ table → f.place ≡ place → next ≡ suc place
    → AreFindings (es ++ first_entries table place) ts steps fs → VerdictHolds (table_at f.table ts).flows f.place steps f.verdict → AreFindings (es ++ first_entries table next) ts steps (fs ++ f ∷ [])
one_more es table place next ts steps fs f t p n h v = record {
  each = map-append found_entry fs (f ∷ []) ∙ ap (λ xs. xs ++ found_entry f ∷ []) h.each
      ∙ append_assoc es (first_entries table place) (found_entry f ∷ [])
      ∙ rw (t, p, n) refl;
  hold = λ g c. elim (Contains-push_cases fs f g c) as (λ x. VerdictHolds (table_at g.table ts).flows g.place steps g.verdict) [
    | inl old ↦ h.hold g old
    | inr same ↦ subst (λ x. VerdictHolds (table_at x.table ts).flows x.place steps x.verdict) same v
  ];
}

pub table_done : (k place : ℕ) (ts : Tables) (steps : ℕ) (fs : List Finding) → place ≡ length (table_at k ts).flows → AreFindings (entries_below k ts ++ first_entries k place) ts steps fs → AreFindings (entries_below (suc k) ts) ts steps fs
unfolding entries_below
table_done k place ts steps fs is h = record { each = h.each ∙ ap (λ n. entries_below k ts ++ first_entries k n) is; hold = h.hold }
