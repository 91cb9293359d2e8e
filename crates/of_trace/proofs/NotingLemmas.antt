-- What is appended, part by part.
use Rattle.std.proofs.Common.{◌≡◌, ℕ, ◌<◌, Bool, true, cond, List, [], ◌++◌, Result, Ok, Err, sym, ap, ◌∙◌}
use Rattle.std.{specs.Prelude.OnOk, specs.Prelude.Option, specs.Prelude.nat_lt, proofs.lemmas.Bool.lt-ltb, proofs.lemmas.List.append_assoc}
use Rattle.of_layers.specs.declared.field.Field.{Field}
use Rattle.of_table.specs.Tables.{table_at}
use Rattle.of_datapath.specs.Datapath.{Forwarding}
use Rattle.of_trace.specs.{declared.form.Style.Style, declared.form.Asked.Asked, Notes.look_notes, Notes.table_notes}

-- two parts
pub both : {T E : Type 0} (r : Result T E) (old mid new xs ys : List ℕ) → mid ≡ old ++ xs → OnOk r (new ≡ mid ++ ys) → OnOk r (new ≡ old ++ (xs ++ ys))
both (Ok v) old mid new xs ys e h = h ∙ (ap (λ (l : List ℕ). l ++ ys) e ∙ append_assoc old xs ys)
both (Err v) old mid new xs ys e h = tt

-- the same in other words
pub same_part : {T E : Type 0} (r : Result T E) (old new xs ys : List ℕ) → xs ≡ ys → OnOk r (new ≡ old ++ xs) → OnOk r (new ≡ old ++ ys)
same_part (Ok v) old new xs ys e h = h ∙ ap (λ (l : List ℕ). old ++ l) e
same_part (Err v) old new xs ys e h = tt

-- one of the sixteen tables
pub look_is : (style : Style) (f : Forwarding) (asked : Asked) (t : ℕ) (map map' : Field → Option ℕ) → t < 16 → map ≡ map' → table_notes style asked t map (table_at t f.tables).flows ≡ look_notes style f asked t map'
look_is style f asked t map map' lt e =
    let test : nat_lt t 16 ≡ true = lt-ltb t 16 lt in
    ap (λ (m : Field → Option ℕ). table_notes style asked t m (table_at t f.tables).flows) e ∙ sym (ap (λ (b : Bool). cond b (table_notes style asked t map' (table_at t f.tables).flows) []) test)
