-- What is told of items, one after the other.
use Rattle.std.proofs.Common.{◌≡◌, ℕ, true, false, List, [], ◌∷◌, ◌++◌, ap, ◌∙◌, sym, refl, flat_map, append_assoc, suc, arith}
use Rattle.of_datapath.specs.Told.{each_told, effect_of, frames_for, given_items, id_after, is_given}
use Rattle.of_datapath.specs.{Buffers.Held, Buffers.HeldFrames, Buffers.hold, Buffers.hold_all, declared.control.AsyncConfig.AsyncConfig, declared.effect.Effect.Effect}
use Rattle.of_machine.specs.{declared.data.Item.Item, Growth.AllShort}
use Rattle.of_ports.specs.declared.port.Port.{Port}

-- what was told, with what will be told of the items that are left, is the whole
pub record Telling (heard : AsyncConfig) (ports : List Port) (id : ℕ) (effects all_effects : List Effect) (frames all_frames : List Held) (left : List Item) : Type 0 where
  pub effects_are : effects ++ each_told heard id (given_items heard ports left) ≡ all_effects
  pub frames_are : frames ++ flat_map (frames_for heard) (given_items heard ports left) ≡ all_frames

module _ (heard : AsyncConfig) (ports : List Port) (id : ℕ) (effects all_effects : List Effect) (frames all_frames : List Held) (i : Item) (left : List Item) where
  -- of an item that is given
  pub told_one : (id' : ℕ) (effects' : List Effect) (frames' : List Held) → is_given heard ports i ≡ true → Telling heard ports id effects all_effects frames all_frames (i ∷ left)
      → id' ≡ id_after heard id i → effects' ≡ effects ++ effect_of heard id i ∷ [] → frames' ≡ frames ++ frames_for heard i
      → Telling heard ports id' effects' all_effects frames' all_frames left
  told_one id' effects' frames' e so id_is effects_are frames_are =
      let here : given_items heard ports (i ∷ left) ≡ i ∷ given_items heard ports left = rw e refl in
      let gs = given_items heard ports left in
      record {
        effects_are = rw (id_is, effects_are)
            (append_assoc effects (effect_of heard id i ∷ []) (each_told heard (id_after heard id i) gs)
            ∙ (ap (λ (is : List Item). effects ++ each_told heard id is) (sym here) ∙ so.effects_are));
        frames_are = rw frames_are
            (append_assoc frames (frames_for heard i) (flat_map (frames_for heard) gs)
            ∙ (ap (λ (is : List Item). frames ++ flat_map (frames_for heard) is) (sym here) ∙ so.frames_are));
      }

  -- of one that is not
  pub told_none : is_given heard ports i ≡ false → Telling heard ports id effects all_effects frames all_frames (i ∷ left) → Telling heard ports id effects all_effects frames all_frames left
  told_none e so =
      let here : given_items heard ports (i ∷ left) ≡ given_items heard ports left = rw e refl in
      record {
        effects_are = ap (λ (is : List Item). effects ++ each_told heard id is) (sym here) ∙ so.effects_are;
        frames_are = ap (λ (is : List Item). frames ++ flat_map (frames_for heard) is) (sym here) ∙ so.frames_are;
      }

pub short_left : (i : Item) (left : List Item) → AllShort 65485 (i ∷ left) → AllShort 65485 left
short_left i left h k d lt = h (suc k) d (omega (arith, lt))

-- one frame more is held
pub held_more : (frames : List Held) (h : Held) (first now later : HeldFrames) → now ≡ hold_all frames first → later ≡ hold h now → later ≡ hold_all (frames ++ h ∷ []) first
held_more frames h first now later so is = is ∙ (ap (hold h) so ∙ sym (last frames first))
  where
    last : (hs : List Held) (b : HeldFrames) → hold_all (hs ++ h ∷ []) b ≡ hold h (hold_all hs b)
    last [] b = refl
    last (k ∷ hs) b = last hs (hold k b)
