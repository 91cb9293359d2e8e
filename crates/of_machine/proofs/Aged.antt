-- Frames whose TTL is not decremented.
use Rattle.std.proofs.Common.{◌≡◌, ◌≢◌, ℕ, ◌-◌, true, false, cond, List, Option, Some, None, refl, sym, ap, ◌∙◌}
use Rattle.std.specs.Prelude.{nat_le}
use Rattle.of_layers.{specs.Layers.Layers, specs.Layers.cells, specs.Layers.ttl, specs.Reading.layers_of, proofs.FrameLemmas.frame_encoded}
use Rattle.of_rewrite.specs.{declared.frame.Ttl.TheVariants.Done, declared.frame.Ttl.TheVariants.Expired, TimeToLive.ttl_of, TimeToLive.dec_ttl_result, TimeToLive.ttl_decremented_from}
use Rattle.of_rewrite.{specs.Frames.IsFrame, specs.Frames.bytes_in, specs.Frames.frame_ttl_decremented, specs.Rewriting.number_set, proofs.Framing.bytes_are}

from_same : (o : Option ℕ) (l : Layers) → dec_ttl_result o ≢ Done → ttl_decremented_from o l ≡ cells l
from_same None l not_done = refl
from_same (Some t) l not_done = (elim (nat_le t 1) as (λ b. cond b Expired Done ≢ Done → cond b (cells l) (number_set ttl (t - 1) l) ≡ cells l) [
  | true ↦ λ h. refl
  | false ↦ λ h. absurd (h refl)
]) not_done

pub aged_same : (s : List ℕ) → IsFrame s → dec_ttl_result (ttl_of (layers_of s)) ≢ Done → frame_ttl_decremented s ≡ s
unfolding frame_ttl_decremented
aged_same s h not_done =
    ap bytes_in (from_same (ttl_of (layers_of s)) (layers_of s) not_done) ∙ sym (bytes_are (cells (layers_of s)) s h.1 (frame_encoded s h.1 h.0))
