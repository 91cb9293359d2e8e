-- An entry comes, or goes: from the groups as they were to the groups as they are.
use Rattle.std.proofs.Common.{◌≡◌, ℕ, ◌+◌, false, List, [], ◌∷◌, ◌++◌, Option, Some, None, refl, sym, ◌∙◌, ap, subst, arith}
use Rattle.std.specs.Prelude.{Result, Ok, Err, IfOk, OnErr, slice_index_or}
use Rattle.slab.specs.Slab.{Slab, get, Updates}
use Rattle.of_layers.specs.declared.field.Field.{Field}
use Rattle.of_headers.specs.{FieldMap.value, declared.key.FieldKey.FieldKey}
use Rattle.of_oxm.specs.{declared.masks.FieldMask.FieldMask, Masks.looked_at, Masks.value_of, Masks.mask_at}
use Rattle.of_mask_groups.specs.Grouping.{LooksLike, AsksFor, AreGrouped, HasSameMask, HasMore}
use Rattle.of_mask_groups.{specs.declared.entry.Entry.Entry, specs.declared.group.Group.Group, specs.Aged.numbered_row, specs.Aged.by_age, specs.Aged.AreAged, proofs.Aging.sound_row}
use Rattle.of_mask_groups.proofs.{Numbers.unused, Changing.aged_more, Changing.rows_more, Holding.grouped_kept, Renewing.aged_wider, Renewing.rows_wider, Splitting.no_rank}
use Rattle.of_wire.specs.Numbered.{is_used}
use Rattle.of_classifier.specs.{declared.Row.Row, Rows.row_number}

-- the group of a mask, and the mask and the key of an entry
pub looks_by : (g : Group) (mask : FieldMask) (e : Entry) → HasSameMask g mask → ((f : Field) → mask_at mask f ≡ looked_at e.fields f) → LooksLike g e
looks_by g mask e s m = record { bits = λ f. s.bits f ∙ m f }

pub asks_by : (key : FieldKey) (e : Entry) → ((f : Field) → value key f ≡ value_of e.fields f) → AsksFor key e
asks_by key e h = record { values = h }

pub some_more : (g h : Group) (d p n : ℕ) → HasMore g h d p n → h.ranks.keys ≡ [] → ⊥
some_more g h d p n m none = no_rank h.ranks p n none m.itself

-- ---- a slab with the same slots

pub get_slots : (old new : Slab Entry) (n : ℕ) → new.slots ≡ old.slots → get new n ≡ get old n
get_slots old new n s = ap (λ (xs : List (Option Entry)). slice_index_or xs n None) s

pub aged_slots : (old new : Slab Entry) (next : ℕ) → new.slots ≡ old.slots → AreAged old next → AreAged new next
aged_slots old new next s h = record {
  below = λ n e g. h.below n e (sym (get_slots old new n s) ∙ g);
  apart = λ m n d e g k. h.apart m n d e (sym (get_slots old new m s) ∙ g) (sym (get_slots old new n s) ∙ k);
}

pub grouped_slots : (old new : Slab Entry) (gs : List Group) → new.slots ≡ old.slots → AreGrouped old gs → AreGrouped new gs
grouped_slots old new gs s a = grouped_kept old new gs
    (λ n e h. record { entry = e; stands = get_slots old new n s ∙ h; priority = refl; fields = refl })
    (λ n e h. record { entry = e; stands = sym (get_slots old new n s) ∙ h; priority = refl; fields = refl })
    a

pub updates_slots : (old mid new : Slab Entry) (n : ℕ) (o : Option Entry) → mid.slots ≡ old.slots → Updates mid new n o → Updates old new n o
updates_slots old mid new n o s u = record { changed = u.changed; others = λ m ne. u.others m ne ∙ get_slots old mid m s }

pub vacant_result : {E : Type 0} (old mid : Slab Entry) (r : Result ℕ E) → mid.slots ≡ old.slots → IfOk r (λ n. get mid n ≡ None) → IfOk r (λ n. get old n ≡ None)
vacant_result old mid (Ok n) s h = sym (get_slots old mid n s) ∙ h
vacant_result old mid (Err x) s h = h

pub updates_result : {E : Type 0} (old mid new : Slab Entry) (e : Entry) (r : Result ℕ E) → mid.slots ≡ old.slots → IfOk r (λ n. Updates mid new n (Some e)) → IfOk r (λ n. Updates old new n (Some e))
updates_result old mid new e (Ok n) s h = updates_slots old mid new n (Some e) s h
updates_result old mid new e (Err x) s h = h

-- ---- what an addition returns

pub added_aged : {E : Type 0} (old new : Slab Entry) (age : ℕ) (e : Entry) (r : Result ℕ E) → AreAged old age → e.age ≡ age → IfOk r (λ n. Updates old new n (Some e)) → OnErr r (new.slots ≡ old.slots) → AreAged new (age + 1)
added_aged old new age e (Ok n) h a u f = aged_more old new age n e h u a
added_aged old new age e (Err x) h a u f = aged_wider new age (age + 1) (omega arith) (aged_slots old new age f h)

pub added_rows : {E : Type 0} (old new : Slab Entry) (age : ℕ) (e : Entry) (rows : List Row) (r : Result ℕ E) → AreAged old age → e.age ≡ age → by_age age old.slots ≡ rows → IfOk r (λ n. get old n ≡ None) → IfOk r (λ n. Updates old new n (Some e)) → IfOk r (λ n. by_age (age + 1) new.slots ≡ rows ++ numbered_row n e ∷ [])
added_rows old new age e rows (Ok n) h a s v u = rows_more old new age n e h v u a ∙ ap (λ (rs : List Row). rs ++ numbered_row n e ∷ []) s
added_rows old new age e rows (Err x) h a s v u = u

pub added_unused : {E : Type 0} (old : Slab Entry) (age : ℕ) (rows : List Row) (r : Result ℕ E) → by_age age old.slots ≡ rows → IfOk r (λ n. get old n ≡ None) → IfOk r (λ n. is_used row_number n rows ≡ false)
added_unused old age rows (Ok n) s v = subst (λ (rs : List Row). is_used row_number n rs ≡ false) s (unused n (by_age age old.slots) (λ r c q. (let x = sound_row old age r c in let f : None ≡ Some x.entry = sym v ∙ subst (λ k. get old k ≡ Some x.entry) q x.stands in cc)))
added_unused old age rows (Err x) s v = v

pub added_not : {E : Type 0} (old new : Slab Entry) (age : ℕ) (rows : List Row) (r : Result ℕ E) → AreAged old age → by_age age old.slots ≡ rows → OnErr r (new.slots ≡ old.slots) → OnErr r (by_age (age + 1) new.slots ≡ rows)
added_not old new age rows (Ok n) h s f = tt
added_not old new age rows (Err x) h s f =
    let k = aged_slots old new age f h in
    sym (rows_wider new age (age + 1) k (aged_wider new age (age + 1) (omega arith) k)) ∙ ap (λ (xs : List (Option Entry)). by_age age xs) f ∙ s
