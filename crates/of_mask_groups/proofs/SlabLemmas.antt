-- A slab after a value is written.
use Rattle.std.proofs.Common.{◌≡◌, ℕ, zero, suc, ◌<◌, List, [], ◌∷◌, length, get_or, Option, Some, None, arith, get_or-set_other, get_or-set_same}
use Rattle.slab.specs.Slab.{Slab, get, Updates, with_value}

pub within_slots : {T : Type 0} (slots : List (Option T)) (n : ℕ) (d : T) → get_or slots n None ≡ Some d → n < length slots
within_slots [] n d h = absurd cc
within_slots (x ∷ xs) zero d h = omega arith
within_slots (x ∷ xs) (suc n) d h = omega (arith, within_slots xs n d h)

pub updates_with : {T : Type 0} (s : Slab T) (n : ℕ) (d e : T) → get s n ≡ Some d → Updates s (with_value s n e) n (Some e)
updates_with s n d e h = record {
  changed = (let lt : n < length s.slots = within_slots s.slots n d h in rw get_or-set_same);
  others = λ m ne. rw get_or-set_other;
}
