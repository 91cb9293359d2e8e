use Rattle.std.proofs.Common.{◌≡◌, ◌⊎◌, zero, suc, true, List, ◌∷◌, map, ap, arith, inl, inr, subst, sym}
use Rattle.std.specs.List.{Contains}
use Rattle.of_table.specs.{declared.entry.Entry.Entry, Entries.entry_of, Entries.flows_of}
use Rattle.of_alike.specs.SameTables.{EntrySays, says_of}
use Rattle.of_alike.proofs.tables.has_such_entry.Goals as goal

said : List Entry → List EntrySays
said entries = map says_of (flows_of entries)

-- the first of some, or another one
cases : (y x : EntrySays) (ys : List EntrySays) → Contains (y ∷ ys) x → (y ≡ x) ⊎ Contains ys x
cases y x ys (zero, lt, is) = inl is
cases y x ys (suc k, lt, is) = inr (k, omega (arith, lt), is)

behind : (y x : EntrySays) (ys : List EntrySays) → Contains ys x → Contains (y ∷ ys) x
behind y x ys h = (suc h.0, omega (arith, h.1), h.2)

-- an entry that says something else is passed
passed : (y x : EntrySays) (all rest ys : List EntrySays) → rest ≡ y ∷ ys → (y ≡ x → ⊥)
    → ((s : EntrySays) → Contains rest s → Contains all s) × (Contains all x → Contains rest x) → ((s : EntrySays) → Contains ys s → Contains all s) × (Contains all x → Contains ys x)
passed y x all rest ys is differs h = (
  λ s there. h.0 s (subst (λ (l : List EntrySays). Contains l s) (sym is) (behind y s ys there)),
  λ whole. elim (cases y x ys (subst (λ (l : List EntrySays). Contains l x) is (h.1 whole))) as (λ w. Contains ys x) [
    | inl same ↦ absurd (differs same)
    | inr there ↦ there
  ],
)

pub loop-other-preserved : goal.loop-other-preserved
unfolding said
loop-other-preserved c =
    passed _ (says_of (entry_of c.args.entry.now)) _ _ _ (ap said c.in-Some.ensures.steps)
    (λ same. let yes : c.are_same_entries.result ≡ true = c.are_same_entries.ensures.1 same in let no = c.if-are_same_entries.false in absurd cc) c.loop-other.invariant
